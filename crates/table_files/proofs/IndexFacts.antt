-- `without_repeats` keeps each number of a list once. The lemmas are about this list, and about the indexes of numbers in it.
use Rattle.std.proofs.Common.{◌≡◌, ℕ, zero, suc, ◌+◌, ◌<◌, ◌≤◌, ◌||◌, Bool, true, false, cond, not, eqb, inl, inr, List, [], ◌∷◌, ◌++◌, length, get_or, take, refl, sym, ap, ◌∙◌, arith, append-nil}
use Rattle.std.proofs.lemmas.Bool.{cases_Bool, eq-eqb, eqb-false, eqb-true, false≢true}
use Rattle.std.proofs.lemmas.List.{map-append, take_more}
use Rattle.std.proofs.lemmas.List.Elements.{filter-append}
use Rattle.std.proofs.lemmas.List.Sums.{passes_at_first, position_or_len_is, prefix_len-le-length}
use Rattle.std.specs.List.{AllByRecursion, filter, list_any}
use Rattle.query_types.specs.declared.types.Source.{Source}
use Rattle.table_files.specs.Stage.{without_repeats, numbers_of, index_of, tables_of_query}

abbrev pub has : List ℕ → ℕ → Bool
has numbers n = list_any (eqb n) numbers

abbrev without : ℕ → List ℕ → List ℕ
without m numbers = filter (λ other. not (eqb other m)) numbers

-- ---- indexes

pub has_place : (xs : List ℕ) (n : ℕ) → has xs n ≡ true → index_of xs n < length xs
has_place [] n h = absurd (false≢true h)
has_place (x ∷ xs) n h = elim (cases_Bool (eqb n x)) [
  | inl e ↦ (let here : index_of (x ∷ xs) n ≡ 0 = rw e refl in omega arith)
  | inr e ↦ (let here : index_of (x ∷ xs) n ≡ 1 + index_of xs n = rw e refl in
      let rest : has (x ∷ xs) n ≡ has xs n = rw e refl in
      omega (arith, has_place xs n (sym rest ∙ h)))
]

pub no_place : (xs : List ℕ) (n : ℕ) → has xs n ≡ false → index_of xs n ≡ length xs
no_place [] n h = refl
no_place (x ∷ xs) n h = elim (cases_Bool (eqb n x)) [
  | inl e ↦ (let here : has (x ∷ xs) n ≡ true = rw e refl in absurd (false≢true (sym h ∙ here)))
  | inr e ↦ (let here : index_of (x ∷ xs) n ≡ 1 + index_of xs n = rw e refl in
      let rest : has (x ∷ xs) n ≡ has xs n = rw e refl in
      omega (arith, no_place xs n (sym rest ∙ h)))
]

pub place_within : (xs : List ℕ) (n : ℕ) → index_of xs n ≤ length xs
place_within xs n = prefix_len-le-length (λ x. not (eqb n x)) xs

pub at_place : (xs : List ℕ) (n : ℕ) → index_of xs n < length xs → get_or xs (index_of xs n) 0 ≡ n
at_place xs n lt = sym (eqb-true n (get_or xs (index_of xs n) 0) (passes_at_first (eqb n) xs 0 lt))

pub has_each : (xs : List ℕ) (i : ℕ) → i < length xs → has xs (get_or xs i 0) ≡ true
has_each [] i lt = absurd (omega arith)
has_each (x ∷ xs) zero lt = rw (eq-eqb x x refl) refl
has_each (x ∷ xs) (suc i) lt = elim (cases_Bool (eqb (get_or xs i 0) x)) [
  | inl e ↦ rw e refl
  | inr e ↦ rw e (has_each xs i (omega arith))
]

-- ---- `without_repeats` keeps each number once

has_kept : (m n : ℕ) (xs : List ℕ) → eqb n m ≡ false → has (without m xs) n ≡ has xs n
has_kept m n [] d = refl
has_kept m n (x ∷ xs) d = elim (cases_Bool (eqb x m)) [
  | inl e ↦ (let other : eqb n x ≡ false = ap (eqb n) (eqb-true x m e) ∙ d in
      let left : without m (x ∷ xs) ≡ without m xs = rw e refl in
      let right : has (x ∷ xs) n ≡ has xs n = rw other refl in
      ap (λ (l : List ℕ). has l n) left ∙ has_kept m n xs d ∙ sym right)
  | inr e ↦ (let left : without m (x ∷ xs) ≡ x ∷ without m xs = rw e refl in
      ap (λ (l : List ℕ). has l n) left ∙ ap (λ (b : Bool). eqb n x || b) (has_kept m n xs d))
]

pub has_different : (ns : List ℕ) (n : ℕ) → has ns n ≡ true → has (without_repeats ns) n ≡ true
has_different [] n h = h
has_different (m ∷ ns) n h = elim (cases_Bool (eqb n m)) [
  | inl e ↦ rw e refl
  | inr e ↦ (let here : has (m ∷ without m (without_repeats ns)) n ≡ has (without m (without_repeats ns)) n = rw e refl in
      let rest : has (m ∷ ns) n ≡ has ns n = rw e refl in
      here ∙ has_kept m n (without_repeats ns) e ∙ has_different ns n (sym rest ∙ h))
]

new_last : (ns : List ℕ) (n : ℕ) → has (without_repeats ns) n ≡ false → without_repeats (ns ++ n ∷ []) ≡ without_repeats ns ++ n ∷ []
new_last [] n h = refl
new_last (m ∷ ns) n h = elim (cases_Bool (eqb n m)) [
  | inl e ↦ (let here : has (without_repeats (m ∷ ns)) n ≡ true = rw e refl in absurd (false≢true (sym h ∙ here)))
  | inr e ↦ (let here : has (without_repeats (m ∷ ns)) n ≡ has (without m (without_repeats ns)) n = rw e refl in
      let fresh : has (without_repeats ns) n ≡ false = sym (has_kept m n (without_repeats ns) e) ∙ sym here ∙ h in
      let one : without m (n ∷ []) ≡ n ∷ [] = rw e refl in
      ap (λ (l : List ℕ). m ∷ without m l) (new_last ns n fresh)
      ∙ ap (λ (l : List ℕ). m ∷ l) (filter-append (λ other. not (eqb other m)) (without_repeats ns) (n ∷ []))
      ∙ ap (λ (l : List ℕ). m ∷ (without m (without_repeats ns) ++ l)) one)
]

old_none : (ns : List ℕ) (n : ℕ) → has (without_repeats ns) n ≡ true → without_repeats (ns ++ n ∷ []) ≡ without_repeats ns
old_none [] n h = absurd (false≢true h)
old_none (m ∷ ns) n h = elim (cases_Bool (eqb n m)) [
  | inl e ↦ ap (λ (l : List ℕ). m ∷ l) (elim (cases_Bool (has (without_repeats ns) n)) [
    | inl there ↦ ap (without m) (old_none ns n there)
    | inr fresh ↦ (let one : without m (n ∷ []) ≡ [] = rw e refl in
        ap (without m) (new_last ns n fresh) ∙ filter-append (λ other. not (eqb other m)) (without_repeats ns) (n ∷ [])
        ∙ ap (λ (l : List ℕ). without m (without_repeats ns) ++ l) one ∙ append-nil (without m (without_repeats ns)))
  ])
  | inr e ↦ (let here : has (without_repeats (m ∷ ns)) n ≡ has (without m (without_repeats ns)) n = rw e refl in
      let there : has (without_repeats ns) n ≡ true = sym (has_kept m n (without_repeats ns) e) ∙ sym here ∙ h in
      ap (λ (l : List ℕ). m ∷ without m l) (old_none ns n there))
]

pub different_new : (ns : List ℕ) (n : ℕ) → index_of (without_repeats ns) n ≡ length (without_repeats ns) → without_repeats (ns ++ n ∷ []) ≡ without_repeats ns ++ n ∷ []
different_new ns n past = elim (cases_Bool (has (without_repeats ns) n)) [
  | inl there ↦ absurd (omega (arith, has_place (without_repeats ns) n there))
  | inr fresh ↦ new_last ns n fresh
]

pub different_old : (ns : List ℕ) (n : ℕ) → index_of (without_repeats ns) n < length (without_repeats ns) → without_repeats (ns ++ n ∷ []) ≡ without_repeats ns
different_old ns n lt = elim (cases_Bool (has (without_repeats ns) n)) [
  | inl there ↦ old_none ns n there
  | inr fresh ↦ absurd (omega (arith, no_place (without_repeats ns) n fresh))
]

-- ---- `without_repeats` never makes a list longer, and what holds for all numbers of the list still holds

kept_short : (m : ℕ) (xs : List ℕ) → length (without m xs) ≤ length xs
kept_short m [] = omega arith
kept_short m (x ∷ xs) = elim (cases_Bool (eqb x m)) [
  | inl e ↦ (let left : without m (x ∷ xs) ≡ without m xs = rw e refl in omega (arith, ap length left, kept_short m xs))
  | inr e ↦ (let left : without m (x ∷ xs) ≡ x ∷ without m xs = rw e refl in omega (arith, ap length left, kept_short m xs))
]

pub without_repeats_short : (ns : List ℕ) → length (without_repeats ns) ≤ length ns
without_repeats_short [] = omega arith
without_repeats_short (n ∷ ns) = omega (arith, kept_short n (without_repeats ns), without_repeats_short ns)

kept_all : (P : ℕ → Type 0) (m : ℕ) (xs : List ℕ) → AllByRecursion P xs → AllByRecursion P (without m xs)
kept_all P m [] h = tt
kept_all P m (x ∷ xs) h = elim (cases_Bool (eqb x m)) [
  | inl e ↦ rw e (kept_all P m xs h.1)
  | inr e ↦ rw e (h.0, kept_all P m xs h.1)
]

pub different_all : (P : ℕ → Type 0) (ns : List ℕ) → AllByRecursion P ns → AllByRecursion P (without_repeats ns)
different_all P [] h = tt
different_all P (n ∷ ns) h = (h.0, kept_all P n (without_repeats ns) (different_all P ns h.1))

-- ---- the loops that build the list

abbrev pub IsPassed : List ℕ → ℕ → ℕ → Type 0
IsPassed xs n i = (k : ℕ) → k < i → eqb n (get_or xs k 0) ≡ false

pub found_at : (xs : List ℕ) (n i : ℕ) → i < length xs → eqb n (get_or xs i 0) ≡ true → IsPassed xs n i → i ≡ index_of xs n
found_at xs n i lt here h = sym (position_or_len_is (eqb n) xs i 0 (omega arith) h (λ low. here))

pub found_nowhere : (xs : List ℕ) (n i : ℕ) → i ≡ length xs → IsPassed xs n i → i ≡ index_of xs n
found_nowhere xs n i all h = sym (position_or_len_is (eqb n) xs i 0 (omega arith) h (λ low. absurd (omega arith)))

numbers_more : (from : List Source) (i : ℕ) (s : Source) → i < length from → s ≡ get_or from i s → numbers_of (take (i + 1) from) ≡ numbers_of (take i from) ++ s.table ∷ []
numbers_more from i s lt is =
    ap numbers_of (take_more from i s lt) ∙ map-append (λ (source : Source). source.table) (take i from) (get_or from i s ∷ [])
    ∙ ap (λ (t : Source). numbers_of (take i from) ++ t.table ∷ []) (sym is)

different_put : (ns : List ℕ) (n : ℕ) → without_repeats (ns ++ n ∷ [])
    ≡ cond (eqb (index_of (without_repeats ns) n) (length (without_repeats ns))) (without_repeats ns ++ n ∷ []) (without_repeats ns)
different_put ns n = elim (cases_Bool (eqb (index_of (without_repeats ns) n) (length (without_repeats ns)))) [
  | inl e ↦ (let past : index_of (without_repeats ns) n ≡ length (without_repeats ns) = eqb-true (index_of (without_repeats ns) n) (length (without_repeats ns)) e in
      different_new ns n past ∙ ap (λ (b : Bool). cond b (without_repeats ns ++ n ∷ []) (without_repeats ns)) (sym e))
  | inr e ↦ (let within : index_of (without_repeats ns) n < length (without_repeats ns) =
      omega (arith, place_within (without_repeats ns) n, eqb-false (index_of (without_repeats ns) n) (length (without_repeats ns)) e) in
      different_old ns n within ∙ ap (λ (b : Bool). cond b (without_repeats ns ++ n ∷ []) (without_repeats ns)) (sym e))
]

pub tables_more : (from : List Source) (i : ℕ) (s : Source) (old new : List ℕ) → i < length from → s ≡ get_or from i s → old ≡ tables_of_query (take i from)
    → new ≡ cond (eqb (index_of old s.table) (length old)) (old ++ s.table ∷ []) old → new ≡ tables_of_query (take (i + 1) from)
tables_more from i s old new lt is so_far put =
    put ∙ ap (λ (l : List ℕ). cond (eqb (index_of l s.table) (length l)) (l ++ s.table ∷ []) l) so_far
    ∙ sym (different_put (numbers_of (take i from)) s.table) ∙ ap without_repeats (sym (numbers_more from i s lt is))
