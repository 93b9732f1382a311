-- If `find` finds an element in a list, this element has each property that all elements of the list have.
use Rattle.std.proofs.Common.{◌≡◌, ℕ, zero, suc, ◌+◌, ◌<◌, ◌≤◌, Bool, false, List, [], ◌∷◌, None, Some, ap, sym, ◌∙◌, subst, inl, inr, arith}
use Rattle.std.specs.Prelude.{find, unwrap_or}
use Rattle.std.specs.List.{All, AllByRecursion, range_with_len}
use Rattle.std.proofs.lemmas.Bool.{cases_Bool, cases_eq}
use Rattle.std.proofs.lemmas.List.Elements.{recursion_from_All}
use Rattle.stats_file.specs.declared.types.PairStats.{PairStats}
use Rattle.stats_file.specs.declared.types.TableStats.{TableStats}
use Rattle.stats_file_bounds.specs.Found.{no_pair, pair_for, are_columns}

pub found_or : {X : Type 0} (P : X → Type 0) (p : X → Bool) (xs : List X) (d : X) → AllByRecursion P xs → P d → P (unwrap_or (find p xs) d)
found_or P p [] d all none = none
found_or P p (x ∷ xs) d all none = elim (cases_Bool (p x)) [
  | inl e ↦ rw e all.0
  | inr e ↦ rw e (found_or P p xs d all.1 none)
]

pub found_one : {X : Type 0} (P : X → Type 0) (p : X → Bool) (xs : List X) (x : X) → AllByRecursion P xs → find p xs ≡ Some x → P x
found_one P p [] x all e = absurd (cc)
found_one P p (y ∷ xs) x all e = elim (cases_Bool (p y)) [
  | inl t ↦ (let is : Some y ≡ Some x = rw t at e in let same : y ≡ x = cc in subst P same all.0)
  | inr n ↦ (let rest : find p xs ≡ Some x = rw n at e in found_one P p xs x all.1 rest)
]

pub each_pair : (P : PairStats → Type 0) (section : TableStats) → All P section.pairs → P no_pair → (filter joined : ℕ) → P (pair_for section filter joined)
each_pair P section all none filter joined = found_or P (are_columns filter joined) section.pairs no_pair (recursion_from_All P section.pairs all) none

-- ---- `find` in a range of numbers

pub none_passes : (p : ℕ → Bool) (a n : ℕ) → find p (range_with_len a n) ≡ None → (k : ℕ) → a ≤ k → k < a + n → p k ≡ false
none_passes p a zero none k from to = absurd (omega arith)
none_passes p a (suc n) none k from to = elim (cases_Bool (p a)) [
  | inl t ↦ (let is : Some a ≡ None = rw t at none in cc)
  | inr e ↦ elim (cases_eq a k) [
    | inl same ↦ ap p (sym same) ∙ e
    | inr apart ↦ (let rest : find p (range_with_len (a + 1) n) ≡ None = rw e at none in none_passes p (a + 1) n rest k (omega (arith, from, apart)) (omega arith))
  ]
]
