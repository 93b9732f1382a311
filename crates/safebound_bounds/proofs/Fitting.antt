-- A list that is fitted to a number of rows is in descending order. Its elements are positive, and its sum is the number of rows.
use Rattle.std.proofs.Common.{◌≡◌, ℕ, zero, suc, ◌+◌, ◌-◌, ◌<◌, ◌≤◌, min, List, [], ◌∷◌, ◌++◌, length, take, get_or, replicate, ap, sym, ◌∙◌, subst, sum, arith}
use Rattle.std.specs.List.{AllByRecursion}
use Rattle.std.proofs.lemmas.List.{append-nil, take_all, take_more}
use Rattle.std.proofs.lemmas.List.Folds.{sum_by-replicate}
use Rattle.std.proofs.lemmas.List.Sums.{sum_by-append}
use Rattle.degree_sequences.specs.Descending.{IsDescending}
use Rattle.degree_sequences.specs.RunningSums.{capped_at}
use Rattle.degree_sequences.proofs.Minima.{IsDescending-capped_at, running_sum-capped_at}
use Rattle.degree_sequences.proofs.RunningSums.{running_sum-past}
use Rattle.safebound_lists.specs.declared.runs.Run.{Run}
use Rattle.safebound_lists.specs.Runs.{AreValid, list_of, no_run, run_at}
use Rattle.safebound_lists.proofs.Following.{elements_at_least, list_with_one_more_run, list_is_no_longer_than_sum}
use Rattle.piece_math.proofs.Cutting.{positive-capped_at}
use Rattle.safebound_bounds.specs.Meaning.{fitted}

-- ---- a descending list, followed by a run whose element is at most every element before it

run_descends : (n v : ℕ) → IsDescending (replicate n v)
run_descends zero v r = omega arith
run_descends (suc zero) v zero = omega arith
run_descends (suc (suc n)) v zero = omega arith
run_descends (suc n) v (suc r) = run_descends n v r

first_of_run : (n v : ℕ) → get_or (replicate n v) 0 0 ≤ v
first_of_run zero v = omega arith
first_of_run (suc n) v = omega arith

pub still_descending : (s : List ℕ) (v n : ℕ) → IsDescending s → AllByRecursion (λ x. v ≤ x) s → IsDescending (s ++ replicate n v)
still_descending [] v n fall all r = run_descends n v r
still_descending (x ∷ []) v n fall all zero = omega (arith, first_of_run n v, all.0)
still_descending (x ∷ (y ∷ s)) v n fall all zero = fall 0
still_descending (x ∷ s) v n fall all (suc r) = still_descending s v n (λ k. fall (suc k)) all.1 r

-- ---- valid runs stand for a descending list

first_runs_descend : (runs : List Run) → AreValid runs → (n : ℕ) → n ≤ length runs → IsDescending (list_of (take n runs))
first_runs_descend runs valid zero low r = omega arith
first_runs_descend runs valid (suc n) low r =
    let here : n < length runs = omega arith in
    let next : suc n ≡ n + 1 = omega arith in
    let descends : IsDescending (list_of (take (suc n) runs)) =
    subst IsDescending (sym (ap (λ k. list_of (take k runs)) next ∙ ap list_of (take_more runs n no_run here) ∙ list_with_one_more_run (take n runs) (run_at runs n)))
    (still_descending (list_of (take n runs)) (run_at runs n).degree (run_at runs n).keys (first_runs_descend runs valid n (omega arith))
    (elements_at_least (run_at runs n).degree (take n runs) (valid n here).descends)) in
    descends r

pub valid_runs_descend : (runs : List Run) → AreValid runs → IsDescending (list_of runs)
valid_runs_descend runs valid = subst (λ (s : List Run). IsDescending (list_of s)) (take_all (length runs) runs (omega arith)) (first_runs_descend runs valid (length runs) (omega arith))

-- ---- the sum and the elements of a fitted list

pub cut_sum : (s : List ℕ) (n : ℕ) → sum (capped_at s n) ≡ min (sum s) n
cut_sum s n =
    sym (running_sum-past (capped_at s n) (length s + length (capped_at s n)) (omega arith))
    ∙ running_sum-capped_at s n (length s + length (capped_at s n))
    ∙ ap (λ k. min k n) (running_sum-past s (length s + length (capped_at s n)) (omega arith))

pub fitted_sum : (rows : ℕ) (s : List ℕ) → sum (fitted rows s) ≡ rows
fitted_sum rows s =
    omega (
      arith,
      cut_sum s rows,
      sum_by-append (λ (x : ℕ). x) (capped_at s rows) (replicate (rows - sum (capped_at s rows)) 1),
      sum_by-replicate (λ (x : ℕ). x) (rows - sum (capped_at s rows)) 1,
    )

pub positive_is_at_least_one : (s : List ℕ) → AllByRecursion (λ x. 0 < x) s → AllByRecursion (λ x. 1 ≤ x) s
positive_is_at_least_one [] all = tt
positive_is_at_least_one (x ∷ s) all = (omega (arith, all.0), positive_is_at_least_one s all.1)

pub fitted_descends : (rows : ℕ) (s : List ℕ) → IsDescending s → IsDescending (fitted rows s)
fitted_descends rows s fall = still_descending (capped_at s rows) 1 (rows - sum (capped_at s rows)) (IsDescending-capped_at s rows fall) (positive_is_at_least_one (capped_at s rows) (positive-capped_at s rows fall))

-- ---- the fitted list as the code makes it

-- The length of a list of positive elements is at most its sum. So the cut list, with a 1 for each row that it doesn't count, has at most as many
-- elements as there are rows.
pub length_at_most_sum : (s : List ℕ) → AllByRecursion (λ x. 0 < x) s → length s ≤ sum s
length_at_most_sum s all = list_is_no_longer_than_sum s (positive_is_at_least_one s all)

pub cut_list_is_fitted : (rows : ℕ) (s cut : List ℕ) → cut ≡ capped_at s rows → rows ≤ sum cut → cut ≡ fitted rows s
cut_list_is_fitted rows s cut is full =
    let none : rows - sum (capped_at s rows) ≡ 0 = omega (arith, full, ap sum is) in
    is ∙ sym (ap (λ n. capped_at s rows ++ replicate n 1) none ∙ append-nil (capped_at s rows))

pub lengthened_list_is_fitted : (rows : ℕ) (s cut longer : List ℕ) → cut ≡ capped_at s rows → longer ≡ cut ++ replicate (rows - sum cut) 1 → longer ≡ fitted rows s
lengthened_list_is_fitted rows s cut longer is pushed = pushed ∙ ap (λ (t : List ℕ). t ++ replicate (rows - sum t) 1) is
