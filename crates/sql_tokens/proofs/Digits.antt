-- The value of digits is computed digit by digit with saturation at m: each value above m counts as m.
use Rattle.std.proofs.Common.{◌≡◌, ℕ, ◌+◌, ◌-◌, ◌*◌, ◌<◌, ◌≤◌, min, List, [], ◌∷◌, length, get_or, drop, sym, ap, ◌∙◌, arith}
use Rattle.std.proofs.lemmas.List.{drop_more, drop_all}
use Rattle.sql_tokens.specs.Words.{digits_from}

capped : (m v w : ℕ) (digits : List ℕ) → min v m ≡ min w m → min (digits_from v digits) m ≡ min (digits_from w digits) m
capped m v w [] e = e
capped m v w (b ∷ digits) e = capped m (v * 10 + (b - 48)) (w * 10 + (b - 48)) digits (omega arith)

module _ (m : ℕ) (digits : List ℕ) (i value total : ℕ) where
  pub one_digit_more : (next : ℕ) → min (digits_from value (drop i digits)) m ≡ total → i < length digits → next ≡ min (min (value * 10) m + (get_or digits i 0 - 48)) m
      → min (digits_from next (drop (i + 1) digits)) m ≡ total
  one_digit_more next so_far lt e =
      let same : min next m ≡ min (value * 10 + (get_or digits i 0 - 48)) m = omega arith in
      capped m next (value * 10 + (get_or digits i 0 - 48)) (drop (i + 1) digits) same ∙ sym (ap (λ (rest : List ℕ). min (digits_from value rest) m) (drop_more digits i 0 lt)) ∙ so_far

  pub no_digit_more : min (digits_from value (drop i digits)) m ≡ total → length digits ≤ i → value ≤ m → value ≡ total
  no_digit_more so_far le fits =
      let e : min value m ≡ min (digits_from value (drop i digits)) m = sym (ap (λ (rest : List ℕ). min (digits_from value rest) m) (drop_all i digits le)) in
      let here : value ≡ min value m = omega arith in
      here ∙ e ∙ so_far
