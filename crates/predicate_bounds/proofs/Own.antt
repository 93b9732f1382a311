-- An entry's own conjuncts are read by their numbers in the query.
use Rattle.std.proofs.Common.{◌≡◌, ℕ, zero, suc, ◌+◌, ◌<◌, ◌≤◌, Bool, true, false, List, [], ◌∷◌, ◌++◌, map, length, take, get_or, Some, slice_get, refl, ap, sym, ◌∙◌, subst, inl, inr, arith, append_assoc}
use Rattle.std.specs.List.{AllByRecursion, All, filter, filter_map, range_with_len}
use Rattle.std.proofs.lemmas.Bool.{cases_Bool}
use Rattle.std.proofs.lemmas.List.{take_more, take_all, length-map}
use Rattle.std.proofs.lemmas.List.Elements.{filter_map-append, All-from_recursion}
use Rattle.std.proofs.lemmas.List.FromFn.{length-range_with_len}
use Rattle.query_types.specs.declared.types.Cond.{Cond}
use Rattle.filtered_lists.specs.Filters.{Conjunction, and_answer, one_conjunction, own_conjuncts}
use Rattle.query_types.specs.declared.types.Query.{Query}
use Rattle.join_graph.specs.Conjuncts.{local_of, is_own_conjunct, numbers_where}
use Rattle.predicate_bounds.specs.declared.steps.Step.{Step}
use Rattle.predicate_bounds.specs.declared.steps.Step.TheVariants as step
use Rattle.predicate_bounds.specs.declared.reading.Members.{Members}
use Rattle.predicate_bounds.specs.Added.{IsConjunctionAdded, range_steps}
use Rattle.predicate_bounds.specs.Steps.{step_answers, steps_of}
use Rattle.predicate_bounds.proofs.Adding.{conjunctions_added, one_conjunction_push, answer_steps}
use Rattle.predicate_bounds.proofs.Conditions.{read}

-- ---- numbers of conjuncts that pass a test

module _ (test : Cond → Bool) where
  numbers_are_below : (first : ℕ) (xs : List Cond) → AllByRecursion (λ n. n < first + length xs) (numbers_where test first xs)
  numbers_are_below first [] = tt
  numbers_are_below first (x ∷ xs) =
      let rest : AllByRecursion (λ n. n < first + length (x ∷ xs)) (numbers_where test (first + 1) xs) = wider (numbers_where test (first + 1) xs) (numbers_are_below (first + 1) xs) in
      elim (cases_Bool (test x)) [ inl t ↦ rw t (omega arith, rest) | inr n ↦ rw n rest ]
    where
      wider : (ns : List ℕ) → AllByRecursion (λ n. n < first + 1 + length xs) ns → AllByRecursion (λ n. n < first + length (x ∷ xs)) ns
      wider [] h = tt
      wider (n ∷ ns) h = (omega (arith, h.0), wider ns h.1)

  pub numbers_below : (xs : List Cond) → All (λ n. n < length xs) (numbers_where test 0 xs)
  numbers_below xs = All-from_recursion (λ n. n < length xs) (numbers_where test 0 xs) (plain (numbers_where test 0 xs) (numbers_are_below 0 xs))
    where
      plain : (ns : List ℕ) → AllByRecursion (λ n. n < 0 + length xs) ns → AllByRecursion (λ n. n < length xs) ns
      plain [] h = tt
      plain (n ∷ ns) h = (omega (arith, h.0), plain ns h.1)

  numbers_name : (whole : List Cond) (first : ℕ) (xs : List Cond) → ((k : ℕ) → k < length xs → slice_get whole (first + k) ≡ slice_get xs k)
      → filter_map (slice_get whole) (numbers_where test first xs) ≡ filter test xs
  numbers_name whole first [] h = refl
  numbers_name whole first (x ∷ xs) h =
      let here : slice_get whole first ≡ Some x = ap (slice_get whole) (plus_zero first) ∙ h 0 (omega arith) in
      let rest : filter_map (slice_get whole) (numbers_where test (first + 1) xs) ≡ filter test xs =
      numbers_name whole (first + 1) xs (λ k is_below. ap (slice_get whole) (one_on first k) ∙ h (suc k) (omega arith)) in
      elim (cases_Bool (test x)) [ inl t ↦ rw (t, here) (ap (λ (s : List Cond). x ∷ s) rest) | inr n ↦ rw n rest ]
    where
      plus_zero : (first : ℕ) → first ≡ first + 0
      plus_zero first = omega arith

      one_on : (first k : ℕ) → first + 1 + k ≡ first + suc k
      one_on first k = omega arith

  pub numbers_give : (xs : List Cond) → filter_map (slice_get xs) (numbers_where test 0 xs) ≡ filter test xs
  numbers_give xs = numbers_name xs 0 xs (λ k is_below. ap (slice_get xs) (zero_plus k))
    where
      zero_plus : (k : ℕ) → 0 + k ≡ k
      zero_plus k = omega arith

-- ---- conjuncts that are read one by one, by their numbers

abbrev pub conds_at : List Cond → List ℕ → List Cond
conds_at conds numbers = filter_map (slice_get conds) numbers

abbrev pub AreRead : List Cond → List ℕ → Members → List Step → Members → List Step → Type 0
AreRead conds numbers before old now new = IsConjunctionAdded before old now new (one_conjunction (map (λ cond. read cond true) (conds_at conds numbers)))

pub one_read : (conds : List Cond) (numbers : List ℕ) (i n : ℕ) (c : Cond) (before now after : Members) (old mid new : List Step) → i < length numbers → n ≡ get_or numbers i 0 → slice_get conds n ≡ Some c
    → AreRead conds (take i numbers) before old now mid → IsConjunctionAdded now mid after new (read c true) → AreRead conds (take (i + 1) numbers) before old after new
one_read conds numbers i n c before now after old mid new is_below at is h k =
    let front : take (i + 1) numbers ≡ take i numbers ++ n ∷ [] = take_more numbers i 0 is_below ∙ ap (λ (m : ℕ). take i numbers ++ m ∷ []) (sym at) in
    let one : conds_at conds (n ∷ []) ≡ c ∷ [] = rw is refl in
    let more : conds_at conds (take (i + 1) numbers) ≡ conds_at conds (take i numbers) ++ c ∷ [] =
    ap (conds_at conds) front ∙ filter_map-append (slice_get conds) (take i numbers) (n ∷ []) ∙ ap (λ (s : List Cond). conds_at conds (take i numbers) ++ s) one in
    subst (IsConjunctionAdded before old after new)
    (sym (one_conjunction_push (map (λ cond. read cond true) (conds_at conds (take i numbers))) (read c true))
    ∙ ap one_conjunction (sym (map_more (conds_at conds (take i numbers)))) ∙ ap (λ (s : List Cond). one_conjunction (map (λ cond. read cond true) s)) (sym more))
    (conjunctions_added before now after old mid new (one_conjunction (map (λ cond. read cond true) (conds_at conds (take i numbers)))) (read c true) h k)
  where
    map_more : (s : List Cond) → map (λ cond. read cond true) (s ++ c ∷ []) ≡ map (λ cond. read cond true) s ++ read c true ∷ []
    map_more [] = refl
    map_more (x ∷ s) = ap (λ (t : List (Conjunction (List Step))). read x true ∷ t) (map_more s)

-- Suppose that all own conjuncts were read, that the AND was ended, and that the steps `Whole` and `And` were appended. Then the steps are those of
-- the definition.
pub all_read : (from : ℕ) (conds : List Cond) (numbers : List ℕ) (i : ℕ) (before now : Members) (old mid ended whole last : List Step) → numbers ≡ numbers_where (is_own_conjunct from) 0 conds → length numbers ≤ i
    → before.has_answer ≡ false → before.ranges ≡ [] → old ≡ [] → AreRead conds (take i numbers) before old now mid → ended ≡ mid ++ range_steps now.has_answer now.ranges
    → whole ≡ ended ++ step.Whole ∷ [] → last ≡ whole ++ step.And ∷ [] → last ≡ steps_of from conds
all_read from conds numbers i before now old mid ended whole last same end fresh empty nothing h closed first second =
    let own : conds_at conds (take i numbers) ≡ own_conjuncts from conds = ap (conds_at conds) (take_all i numbers end ∙ same) ∙ numbers_give (is_own_conjunct from) conds in
    let c : Conjunction (List Step) = one_conjunction (map (λ cond. read cond true) (own_conjuncts from conds)) in
    let added : IsConjunctionAdded before old now mid c = subst (λ (s : List Cond). IsConjunctionAdded before old now mid (one_conjunction (map (λ cond. read cond true) s))) own h in
    let all : ended ≡ old ++ and_answer step_answers c = answer_steps before now old mid ended c fresh empty added closed in
    second ∙ ap (λ (s : List Step). s ++ step.And ∷ []) (first ∙ ap (λ (s : List Step). s ++ step.Whole ∷ []) (all ∙ ap (λ (s : List Step). s ++ and_answer step_answers c) nothing))
    ∙ append_assoc (and_answer step_answers c) (step.Whole ∷ []) (step.And ∷ [])

-- ---- `local_of` has the numbers of an entry's own conjuncts

number_at : (f : ℕ → List ℕ) (a n i : ℕ) (x : List ℕ) → slice_get (map f (range_with_len a n)) i ≡ Some x → x ≡ f (a + i)
number_at f a zero i x h = absurd (cc)
number_at f a (suc n) zero x h = let e : x ≡ f a = cc in e ∙ ap f (omega arith)
number_at f a (suc n) (suc i) x h = number_at f (a + 1) n i x h ∙ ap f (omega arith)

pub own_numbers : (query : Query) (from : ℕ) (own : List ℕ) → slice_get (local_of query) from ≡ Some own → own ≡ numbers_where (is_own_conjunct from) 0 query.conjuncts
own_numbers query from own h =
    number_at (λ entry. numbers_where (is_own_conjunct entry) 0 query.conjuncts) 0 (length query.from) from own h
    ∙ ap (λ (entry : ℕ). numbers_where (is_own_conjunct entry) 0 query.conjuncts) (omega arith)

pub local_of_length : (query : Query) → length (local_of query) ≡ length query.from
local_of_length query = length-map (range_with_len 0 (length query.from)) (λ (entry : ℕ). numbers_where (is_own_conjunct entry) 0 query.conjuncts) ∙ length-range_with_len 0 (length query.from)
