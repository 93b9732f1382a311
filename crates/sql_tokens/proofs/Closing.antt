-- Steps of the loop that looks for a closing quote.
use Rattle.std.proofs.Common.{◌≡◌, ◌≢◌, ℕ, suc, ◌+◌, ◌<◌, ◌≤◌, true, false, eqb, List, [], ◌∷◌, length, get_or, drop, Option, Some, None, refl, sym, ap, ◌∙◌, arith, add-one}
use Rattle.std.proofs.Math.Seq.{drop-cons}
use Rattle.std.proofs.lemmas.Bool.{eq-eqb, ne_eqb}
use Rattle.std.proofs.lemmas.List.{drop_all}
use Rattle.sql_tokens.specs.Pieces.{closing_length, further}

pub further_further : (m n : ℕ) (o : Option ℕ) → further m (further n o) ≡ further (m + n) o
further_further m n None = refl
further_further m n (Some k) = ap (λ x. Some x) (omega arith)

pub no_quote : (q b : ℕ) (r : List ℕ) → eqb b q ≡ false → closing_length q (b ∷ r) ≡ further 1 (closing_length q r)
unfolding closing_length
no_quote q b [] e = rw e refl
no_quote q b (c ∷ r) e = rw e refl

pub two_quotes : (q b c : ℕ) (r : List ℕ) → eqb b q ≡ true → eqb c q ≡ true → closing_length q (b ∷ c ∷ r) ≡ further 2 (closing_length q r)
unfolding closing_length
two_quotes q b c r e f = rw (e, f) refl

pub one_quote : (q b c : ℕ) (r : List ℕ) → eqb b q ≡ true → eqb c q ≡ false → closing_length q (b ∷ c ∷ r) ≡ Some 1
unfolding closing_length
one_quote q b c r e f = rw (e, f) refl

pub last_quote : (q b : ℕ) → eqb b q ≡ true → closing_length q (b ∷ []) ≡ Some 1
unfolding closing_length
last_quote q b e = rw e refl

pub none_left : (q : ℕ) → closing_length q [] ≡ None
unfolding closing_length
none_left q = refl

module _ (q : ℕ) (s : List ℕ) (n : ℕ) where
  pub closed_keeps_one : (total : Option ℕ) → further n (closing_length q (drop n s)) ≡ total → n < length s → get_or s n 0 ≢ q → further (n + 1) (closing_length q (drop (n + 1) s)) ≡ total
  closed_keeps_one total so_far lt ne =
      let e : closing_length q (drop n s) ≡ further 1 (closing_length q (drop (n + 1) s)) = rw (add-one, drop-cons s n 0 lt) (no_quote q (get_or s n 0) (drop (suc n) s) (ne_eqb (get_or s n 0) q ne)) in
      sym (further_further n 1 (closing_length q (drop (n + 1) s))) ∙ ap (further n) (sym e) ∙ so_far

  pub closed_keeps_two : (total : Option ℕ) → further n (closing_length q (drop n s)) ≡ total → n + 1 < length s → get_or s n 0 ≡ q → get_or s (n + 1) 0 ≡ q → further (n + 2) (closing_length q (drop (n + 2) s)) ≡ total
  closed_keeps_two total so_far lt eq eq' =
      let lt0 : n < length s = omega arith in
      let lt1 : suc n < length s = omega arith in
      let k : n + 2 ≡ suc (suc n) = omega arith in
      let k1 : n + 1 ≡ suc n = omega arith in
      let eq1 : get_or s (suc n) 0 ≡ q = ap (λ i. get_or s i 0) (sym k1) ∙ eq' in
      let e : closing_length q (drop n s) ≡ further 2 (closing_length q (drop (suc (suc n)) s)) = rw (drop-cons s n 0 lt0, drop-cons s (suc n) 0 lt1) (two_quotes q (get_or s n 0) (get_or s (suc n) 0) (drop (suc (suc n)) s) (eq-eqb (get_or s n 0) q eq) (eq-eqb (get_or s (suc n) 0) q eq1)) in
      sym (further_further n 2 (closing_length q (drop (n + 2) s))) ∙ ap (λ i. further n (further 2 (closing_length q (drop i s)))) k ∙ ap (further n) (sym e) ∙ so_far

  pub closed_last : (total : Option ℕ) → further n (closing_length q (drop n s)) ≡ total → n + 1 ≡ length s → get_or s n 0 ≡ q → Some (n + 1) ≡ total
  closed_last total so_far end eq =
      let lt0 : n < length s = omega arith in
      let none : drop (suc n) s ≡ [] = drop_all (suc n) s (omega arith) in
      let e : closing_length q (drop n s) ≡ Some 1 = rw (drop-cons s n 0 lt0, none) (last_quote q (get_or s n 0) (eq-eqb (get_or s n 0) q eq)) in
      sym (ap (further n) e) ∙ so_far

  pub closed_here : (total : Option ℕ) → further n (closing_length q (drop n s)) ≡ total → n + 1 < length s → get_or s n 0 ≡ q → get_or s (n + 1) 0 ≢ q → Some (n + 1) ≡ total
  closed_here total so_far lt eq ne =
      let lt0 : n < length s = omega arith in
      let lt1 : suc n < length s = omega arith in
      let k1 : suc n ≡ n + 1 = omega arith in
      let f : eqb (get_or s (suc n) 0) q ≡ false = ap (λ i. eqb (get_or s i 0) q) k1 ∙ ne_eqb (get_or s (n + 1) 0) q ne in
      let e : closing_length q (drop n s) ≡ Some 1 = rw (drop-cons s n 0 lt0, drop-cons s (suc n) 0 lt1) (one_quote q (get_or s n 0) (get_or s (suc n) 0) (drop (suc (suc n)) s) (eq-eqb (get_or s n 0) q eq) f) in
      sym (ap (further n) e) ∙ so_far

  pub closed_never : (total : Option ℕ) → further n (closing_length q (drop n s)) ≡ total → length s ≤ n → None ≡ total
  closed_never total so_far le =
      let e : closing_length q (drop n s) ≡ None = rw (drop_all n s le) (none_left q) in
      sym (ap (further n) e) ∙ so_far
