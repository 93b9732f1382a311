-- `split_value` splits a word at its first `=`.
use Rattle.std.proofs.Common.{◌≡◌, ◌≢◌, ℕ, ◌<◌, [], ◌∷◌, ◌++◌, Some, None, length, get_or, refl, arith, suc}
use Rattle.std.proofs.lemmas.Bool.{ne_eqb}
use Rattle.safebound_words.specs.Answer.{split_value}
use Rattle.safebound_words.specs.Words.{Word}

-- 61 is the byte of `=`
HasNoEquals : Word → Type 0
HasNoEquals word = (i : ℕ) → i < length word → get_or word i 0 ≢ 61

no_equals_after_first : (first : ℕ) (rest : Word) → HasNoEquals (first ∷ rest) → (first ≢ 61) × HasNoEquals rest
unfolding HasNoEquals
no_equals_after_first first rest none = (none 0 (omega arith), λ i within. none (suc i) (omega arith))

pub split_without_equals : (word : Word) → ((i : ℕ) → i < length word → get_or word i 0 ≢ 61) → split_value word ≡ (word, None)
unfolding HasNoEquals
split_without_equals [] none = refl
split_without_equals (first ∷ rest) none =
    let parts = no_equals_after_first first rest none in
    rw (ne_eqb first 61 parts.0, split_without_equals rest parts.1) refl

pub split_at_first_equals : (front value : Word) → ((i : ℕ) → i < length front → get_or front i 0 ≢ 61) → split_value (front ++ 61 ∷ value) ≡ (front, Some value)
unfolding HasNoEquals
split_at_first_equals [] value none = refl
split_at_first_equals (first ∷ rest) value none =
    let parts = no_equals_after_first first rest none in
    rw (ne_eqb first 61 parts.0, split_at_first_equals rest value parts.1) refl
