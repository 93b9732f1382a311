-- A run is the longest prefix of a text whose bytes all pass a test.
use Rattle.std.proofs.Common.{◌≡◌, ℕ, ◌+◌, Bool, true, false, List, [], ◌∷◌, ◌++◌, length, refl, ap, ◌∙◌, inl, inr, arith}
use Rattle.std.proofs.lemmas.Bool.{and_parts, and_from}
use Rattle.std.specs.Prelude.{◌⊎◌}
use Rattle.std.specs.List.{prefix_len, list_all}
use Rattle.sql_tokens.specs.Tokens.{begins_with}

pub prefix_all : (p : ℕ → Bool) (front rest : List ℕ) → list_all p front ≡ true → prefix_len p (front ++ rest) ≡ length front + prefix_len p rest
prefix_all p [] rest all = omega arith
prefix_all p (b ∷ front) rest all =
    let parts = and_parts (p b) (list_all p front) all in
    rw parts.0 (omega (arith, prefix_all p front rest parts.1))

pub prefix_none : (p : ℕ → Bool) (rest : List ℕ) → begins_with p rest ≡ false → prefix_len p rest ≡ 0
prefix_none p [] ends = refl
prefix_none p (b ∷ rest) ends = rw ends refl

pub record IsRun (p : ℕ → Bool) (rest : List ℕ) : Type 0 where
  pub front : List ℕ
  pub more : List ℕ
  pub whole : rest ≡ front ++ more
  pub all : list_all p front ≡ true
  pub ends : begins_with p more ≡ false

one_more : (p : ℕ → Bool) (b : ℕ) (rest : List ℕ) (passes : Bool) → p b ≡ passes → IsRun p rest → IsRun p (b ∷ rest)
one_more p b rest true e r = record { front = b ∷ r.front; more = r.more; whole = ap (λ (x : List ℕ). b ∷ x) r.whole; all = and_from (p b) (list_all p r.front) e r.all; ends = r.ends }
one_more p b rest false e r = record { front = []; more = b ∷ rest; whole = refl; all = refl; ends = e }

pub run : (p : ℕ → Bool) (rest : List ℕ) → IsRun p rest
run p [] = record { front = []; more = []; whole = refl; all = refl; ends = refl }
run p (b ∷ rest) = one_more p b rest (p b) refl (run p rest)

pub run_len : (p : ℕ → Bool) (front more rest : List ℕ) → rest ≡ front ++ more → list_all p front ≡ true → begins_with p more ≡ false → prefix_len p rest ≡ length front
run_len p front more rest whole all ends = ap (prefix_len p) whole ∙ prefix_all p front more all ∙ ap (λ (n : ℕ). length front + n) (prefix_none p more ends) ∙ omega arith

pub record HasFirst (p : ℕ → Bool) (bytes : List ℕ) : Type 0 where
  pub front : List ℕ
  pub stop : ℕ
  pub others : List ℕ
  pub whole : bytes ≡ front ++ stop ∷ others
  pub all : list_all p front ≡ true
  pub is : p stop ≡ false

first_more : (p : ℕ → Bool) (b : ℕ) (rest : List ℕ) (passes : Bool) → p b ≡ passes → ((list_all p rest ≡ true) ⊎ HasFirst p rest) → (list_all p (b ∷ rest) ≡ true) ⊎ HasFirst p (b ∷ rest)
first_more p b rest true e (inl all) = inl (and_from (p b) (list_all p rest) e all)
first_more p b rest true e (inr h) = inr (record { front = b ∷ h.front; stop = h.stop; others = h.others; whole = ap (λ (x : List ℕ). b ∷ x) h.whole; all = and_from (p b) (list_all p h.front) e h.all; is = h.is })
first_more p b rest false e h = inr (record { front = []; stop = b; others = rest; whole = refl; all = refl; is = e })

pub first_or_all : (p : ℕ → Bool) (bytes : List ℕ) → (list_all p bytes ≡ true) ⊎ HasFirst p bytes
first_or_all p [] = inl refl
first_or_all p (b ∷ rest) = first_more p b rest (p b) refl (first_or_all p rest)
