-- The new numbers compare as the old numbers do. So sorting, frequent numbers, and cuts (where leaves begin) commute with the replacement.
use Rattle.std.proofs.Common.{◌≡◌, ℕ, suc, ◌<◌, Bool, List, [], ◌∷◌, map, length, get_or, take, drop, refl, ap, sym, ◌∙◌, arith, inl, inr}
use Rattle.std.specs.List.{AllByRecursion, range_with_len}
use Rattle.std.proofs.lemmas.Bool.{cases_Bool, cond_both}
use Rattle.std.proofs.lemmas.List.{take-map, drop-map, get_or-map, length-map}
use Rattle.std.proofs.lemmas.List.Elements.{All-drop, All-take, All-get_or, All-from_recursion, recursion_from_All}
use Rattle.degree_sequences.specs.Degrees.{different}
use Rattle.degree_sequences.proofs.Indices.{All-range}
use Rattle.cond_stats.specs.Frequency.{comes_before, by_frequency, frequent, remaining}
use Rattle.cond_stats.specs.Leaves.{put_in_order, in_order, cuts, last_place, last_leaf_where, leaf_of}
use Rattle.cond_stats.proofs.LeavesFound.{cut_place, cut_place-within, cuts-from, no_cuts}
use Rattle.cond_stats.proofs.Sorting.{all-in_order}
use Rattle.relabelling_laws.proofs.Mapped.{KeepsEqual, All-different, any-mapped, degree-mapped, different-mapped, map-mapped, place-mapped}

length-put_in_order : (le : ℕ → ℕ → Bool) (v : ℕ) (s : List ℕ) → length (put_in_order le v s) ≡ suc (length s)
length-put_in_order le v [] = refl
length-put_in_order le v (w ∷ s) = cond_both (le v w) (v ∷ (w ∷ s)) (w ∷ put_in_order le v s) (λ t. length t ≡ suc (length (w ∷ s)))
    (λ e. refl) (λ e. omega (arith, length-put_in_order le v s))

pub length-in_order : (le : ℕ → ℕ → Bool) (s : List ℕ) → length (in_order le s) ≡ length s
length-in_order le [] = refl
length-in_order le (v ∷ s) = omega (arith, length-put_in_order le v (in_order le s), length-in_order le s)

abbrev pub Compares : (ℕ → Type 0) → (ℕ → ℕ → Bool) → (ℕ → ℕ → Bool) → (ℕ → ℕ) → Type 0
Compares P le other f = (a b : ℕ) → P a → P b → other (f a) (f b) ≡ le a b

module _ (P : ℕ → Type 0) (le other_le : ℕ → ℕ → Bool) (f : ℕ → ℕ) (compare_alike : Compares P le other_le f) where
  put_in_order-mapped : (v : ℕ) (s : List ℕ) → P v → AllByRecursion P s → put_in_order other_le (f v) (map f s) ≡ map f (put_in_order le v s)
  put_in_order-mapped v [] hv all = refl
  put_in_order-mapped v (w ∷ s) hv all = elim (cases_Bool (le v w)) [
    | inl e ↦ rw (compare_alike v w hv all.0, e) refl
    | inr e ↦ rw (compare_alike v w hv all.0, e, put_in_order-mapped v s hv all.1) refl
  ]

  pub in_order-mapped : (s : List ℕ) → AllByRecursion P s → in_order other_le (map f s) ≡ map f (in_order le s)
  in_order-mapped [] all = refl
  in_order-mapped (v ∷ s) all = ap (put_in_order other_le (f v)) (in_order-mapped s all.1)
      ∙ put_in_order-mapped v (in_order le s) all.0 (all-in_order P le s all.1)

  pub cuts-mapped : (s : List ℕ) → AllByRecursion P s → cuts other_le (map f s) ≡ map f (cuts le s)
  cuts-mapped [] all = no_cuts other_le [] (omega arith) ∙ ap (map f) (sym (no_cuts le [] (omega arith)))
  cuts-mapped (v ∷ s) all =
      let column : List ℕ = v ∷ s in
      let values : List ℕ = in_order le column in
      let n : ℕ = length column in
      let many : length (map f column) ≡ n = length-map column f in
      let at : (i : ℕ) → i < 32 → f (get_or values (cut_place n i) 0) ≡ get_or (map f values) (cut_place (length (map f column)) i) 0 =
      λ i is_below. sym (ap (λ (k : ℕ). get_or (map f values) (cut_place k i) 0) many
      ∙ get_or-map f values (cut_place n i) 0 0 (omega (arith, length-in_order le column, cut_place-within n i (omega arith) is_below))) in
      cuts-from other_le (map f column) (map f values) (omega (arith, many)) (sym (in_order-mapped column all))
      ∙ sym (map-mapped (λ i. i < 32) (λ i. get_or values (cut_place n i) 0) (λ i. get_or (map f values) (cut_place (length (map f column)) i) 0) f at
      (range_with_len 0 32) (All-range 0 32 32 (omega arith)))
      ∙ ap (map f) (sym (cuts-from le column values (omega arith) refl))

  pub last_place-mapped : (p q : ℕ → Bool) → ((a : ℕ) → P a → q (f a) ≡ p a) → (xs : List ℕ) → AllByRecursion P xs
      → last_place q (map f xs) ≡ last_place p xs
  last_place-mapped p q same [] all = refl
  last_place-mapped p q same (x ∷ xs) all = rw (any-mapped P f p q same xs all.1, last_place-mapped p q same xs all.1) refl

  pub All-cuts : (s : List ℕ) → AllByRecursion P s → AllByRecursion P (cuts le s)
  All-cuts [] all = rw (no_cuts le [] (omega arith)) tt
  All-cuts (v ∷ s) all =
      let column : List ℕ = v ∷ s in
      let values : List ℕ = in_order le column in
      rw (cuts-from le column values (omega arith) refl)
      (All-mapped (λ i. get_or values (cut_place (length column) i) 0) (range_with_len 0 32) (All-range 0 32 32 (omega arith))
      (λ i is_below. All-get_or P values (cut_place (length column) i) 0
      (omega (arith, length-in_order le column, cut_place-within (length column) i (omega arith) is_below))
      (All-from_recursion P values (all-in_order P le column all))))
    where
      All-mapped : (h : ℕ → ℕ) (is : List ℕ) → AllByRecursion (λ i. i < 32) is → ((i : ℕ) → i < 32 → P (h i)) → AllByRecursion P (map h is)
      All-mapped h [] is_below each = tt
      All-mapped h (i ∷ is) is_below each = (each i is_below.0, All-mapped h is is_below.1 each)

  pub leaf-mapped : (p q : ℕ → Bool) → ((a : ℕ) → P a → q (f a) ≡ p a) → (s : List ℕ) → AllByRecursion P s
      → last_leaf_where other_le (map f s) q ≡ last_leaf_where le s p
  leaf-mapped p q same s all = ap (last_place q) (cuts-mapped s all) ∙ last_place-mapped p q same (cuts le s) (All-cuts s all)

  pub leaf_of-mapped : (s : List ℕ) → AllByRecursion P s → (v : ℕ) → P v → leaf_of other_le (map f s) (f v) ≡ leaf_of le s v
  leaf_of-mapped s all v hv = leaf-mapped (λ cut. le cut v) (λ cut. other_le cut (f v)) (λ a ha. compare_alike a v ha hv) s all

module _ (P : ℕ → Type 0) (f : ℕ → ℕ) (keeps : KeepsEqual P f) where
  comes_before-mapped : (s : List ℕ) → AllByRecursion P s → Compares P (comes_before s) (comes_before (map f s)) f
  comes_before-mapped s all a b ha hb =
      rw (degree-mapped P f keeps s all a ha, degree-mapped P f keeps s all b hb, place-mapped P f keeps s all a ha, place-mapped P f keeps s all b hb) refl

  pub by_frequency-mapped : (s : List ℕ) → AllByRecursion P s → by_frequency (map f s) ≡ map f (by_frequency s)
  by_frequency-mapped s all = ap (in_order (comes_before (map f s))) (different-mapped P f keeps s all)
      ∙ in_order-mapped P (comes_before s) (comes_before (map f s)) f (comes_before-mapped s all) (different s) (All-different P s all)

  pub frequent-mapped : (s : List ℕ) → AllByRecursion P s → frequent (map f s) ≡ map f (frequent s)
  frequent-mapped s all = ap (take 32) (by_frequency-mapped s all) ∙ take-map f 32 (by_frequency s)

  pub remaining-mapped : (s : List ℕ) → AllByRecursion P s → remaining (map f s) ≡ map f (remaining s)
  remaining-mapped s all = ap (drop 32) (by_frequency-mapped s all) ∙ drop-map f 32 (by_frequency s)

pub All-by_frequency : (P : ℕ → Type 0) (s : List ℕ) → AllByRecursion P s → AllByRecursion P (by_frequency s)
All-by_frequency P s all = all-in_order P (comes_before s) (different s) (All-different P s all)

pub All-frequent : (P : ℕ → Type 0) (s : List ℕ) → AllByRecursion P s → AllByRecursion P (frequent s)
All-frequent P s all = recursion_from_All P (frequent s) (All-take P 32 (by_frequency s) (All-from_recursion P (by_frequency s) (All-by_frequency P s all)))

pub All-remaining : (P : ℕ → Type 0) (s : List ℕ) → AllByRecursion P s → AllByRecursion P (remaining s)
All-remaining P s all = recursion_from_All P (remaining s) (All-drop P 32 (by_frequency s) (All-from_recursion P (by_frequency s) (All-by_frequency P s all)))
