-- The numbers of rows that runs count are added up run by run, and the sum stays within 2^48.
use Rattle.std.proofs.Common.{◌≡◌, ℕ, ◌+◌, ◌*◌, ◌<◌, ◌≤◌, ◌^◌, List, length, take, ap, ◌∙◌, sum, arith}
use Rattle.std.proofs.lemmas.List.{take_more}
use Rattle.safebound_lists.specs.declared.runs.Run.{Run}
use Rattle.safebound_lists.specs.Runs.{AreValid, list_of, no_run, run_at}
use Rattle.safebound_lists.proofs.Following.{sum_with_one_more_run}

pub total_with_one_more_run : (runs : List Run) (i : ℕ) → i < length runs
    → sum (list_of (take (i + 1) runs)) ≡ sum (list_of (take i runs)) + (run_at runs i).keys * (run_at runs i).degree
total_with_one_more_run runs i low = ap (λ (s : List Run). sum (list_of s)) (take_more runs i no_run low) ∙ sum_with_one_more_run (take i runs) (run_at runs i)

pub total_is_within_limit : (runs : List Run) → AreValid runs → (i : ℕ) → i < length runs
    → sum (list_of (take i runs)) + (run_at runs i).keys * (run_at runs i).degree ≤ 2 ^ 48
total_is_within_limit runs valid i low = omega (arith, sum_with_one_more_run (take i runs) (run_at runs i), (valid i low).sum)
