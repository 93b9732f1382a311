-- A text can be split at the first occurrence of a byte in only one way.
use Rattle.std.proofs.Common.{[], ◌≡◌, ◌≢◌, ℕ, zero, suc, true, List, ◌∷◌, ◌++◌, refl, subst, arith}
use Rattle.std.specs.Char.{is_ascii_digit}
use Rattle.std.specs.Int.{IsInRange}
use Rattle.std.specs.List.{list_all}
use Rattle.std.proofs.lemmas.Str.Parse.{digit_from_value}
use Rattle.stats_file.proofs.WordFacts.{ascii_digits_are_numerals}
use Rattle.stats_words.specs.Splits.{HasNoByte}

pub split_same : (b : ℕ) (f g r t : List ℕ) → HasNoByte b f → HasNoByte b g → f ++ (b ∷ r) ≡ g ++ (b ∷ t) → (f ≡ g) × (r ≡ t)
split_same b [] [] r t nf ng e = (refl, cc)
split_same b [] (y ∷ g) r t nf ng e = let same : y ≡ b = cc in absurd (ng 0 0 (omega arith) same)
split_same b (x ∷ f) [] r t nf ng e = let same : x ≡ b = cc in absurd (nf 0 0 (omega arith) same)
split_same b (x ∷ f) (y ∷ g) r t nf ng e =
    let tail : f ++ (b ∷ r) ≡ g ++ (b ∷ t) = cc in
    let same = split_same b f g r t (λ k d lt. nf (suc k) d (omega arith)) (λ k d lt. ng (suc k) d (omega arith)) tail in
    (cc, same.1)

pub not_without : (b : ℕ) (f r : List ℕ) → HasNoByte b (f ++ (b ∷ r)) → ⊥
not_without b [] r w = w 0 0 (omega arith) refl
not_without b (x ∷ f) r w = not_without b f r (λ k d lt. w (suc k) d (omega arith))

pub front_without : (c x : ℕ) (xs : List ℕ) → x ≢ c → HasNoByte c xs → HasNoByte c (x ∷ xs)
front_without c x xs other rest zero d lt = other
front_without c x xs other rest (suc k) d lt = rest k d (omega arith)

pub digits_without : (c : ℕ) → (IsInRange 48 57 c → ⊥) → (ds : List ℕ) → list_all is_ascii_digit ds ≡ true → HasNoByte c ds
digits_without c other [] are = λ k d lt. absurd (omega arith)
digits_without c other (x ∷ ds) are = front_without c x ds (λ e. other (subst (IsInRange 48 57) e (digit_from_value x (ascii_digits_are_numerals.to (x ∷ ds) are).0)))
    (digits_without c other ds (ascii_digits_are_numerals.from ds (ascii_digits_are_numerals.to (x ∷ ds) are).1))

pub both_without : (c : ℕ) (f g : List ℕ) → HasNoByte c f → HasNoByte c g → HasNoByte c (f ++ g)
both_without c [] g nf ng = ng
both_without c (x ∷ f) g nf ng = front_without c x (f ++ g) (nf 0 0 (omega arith)) (both_without c f g (λ j e le. nf (suc j) e (omega arith)) ng)
