use Rattle.std.proofs.Common.{◌≡◌, ◌+◌, ◌≤◌, ◌^◌, ℕ, List, length, sum, ap, ◌∙◌, subst, arith}
use Rattle.std.specs.Prelude.{IfOk}
use Rattle.degree_sequences.specs.ByRank.{rank_sum}
use Rattle.degree_sequences.specs.Runs.{runs as runs_in}
use Rattle.safebound_lists.specs.Causes.{IsAppendCause}
use Rattle.safebound_lists.specs.Runs.{MayBeAdded, list_of}
use Rattle.safebound_lists.specs.Written.{IsWritten}
use Rattle.safebound_lists.proofs.Small.{sum_exact, sum_fits}
use Rattle.safebound_lists.proofs.Writing.{room_refusal_is_cause, on_ok_of_proof}
use Rattle.safebound_lists.proofs.adding.append.Goals as goal

pub returns-clause-valid : goal.returns-clause-valid
returns-clause-valid c =
    let small : sum c.in_ok-list.list + sum c.in_ok-other.other ≤ 2 ^ 48 =
    omega (arith, c.total.ensures, c.total-2.ensures, c.in_ok-list.ensures.small, c.in_ok-other.ensures.small, c.from.ensures) in
    let may : MayBeAdded c.args.runs.now c.args.others.now = record {
      valid = c.in_default.ensures;
      others_are_valid = c.in_default-first_invalid_run.ensures;
      small = omega (arith, small, ap sum c.in_ok-list.ensures.pieces, ap sum c.in_ok-other.ensures.pieces);
    } in
    on_ok_of_proof c.write_runs.result may

pub write_runs-requires : goal.write_runs-requires
write_runs-requires c =
    sum_fits c.in_ok-list.list c.in_ok-other.other c.in_ok-both.both
    (omega (arith, c.total.ensures, c.total-2.ensures, c.in_ok-list.ensures.small, c.in_ok-other.ensures.small, c.from.ensures)) c.in_ok-both.ensures.value

pub returns-clause-done : goal.returns-clause-done
returns-clause-done c =
    let small : sum c.in_ok-list.list + sum c.in_ok-other.other ≤ 2 ^ 48 =
    omega (arith, c.total.ensures, c.total-2.ensures, c.in_ok-list.ensures.small, c.in_ok-other.ensures.small, c.from.ensures) in
    let same : c.in_ok-both.both ≡ rank_sum (list_of c.args.runs.now) (list_of c.args.others.now) =
    sum_exact c.in_ok-list.list c.in_ok-other.other c.in_ok-both.both small c.in_ok-both.ensures.value
    ∙ ap (λ (s : List ℕ). rank_sum s c.in_ok-other.other) c.in_ok-list.ensures.pieces
    ∙ ap (rank_sum (list_of c.args.runs.now)) c.in_ok-other.ensures.pieces in
    subst (λ (s : List ℕ). IfOk c.write_runs.result (IsWritten s c.args.into.now c.write_runs.new.into)) same c.write_runs.ensures.done

pub returns-clause-refused : goal.returns-clause-refused
returns-clause-refused c =
    let small : sum c.in_ok-list.list + sum c.in_ok-other.other ≤ 2 ^ 48 =
    omega (arith, c.total.ensures, c.total-2.ensures, c.in_ok-list.ensures.small, c.in_ok-other.ensures.small, c.from.ensures) in
    let same : c.in_ok-both.both ≡ rank_sum (list_of c.args.runs.now) (list_of c.args.others.now) =
    sum_exact c.in_ok-list.list c.in_ok-other.other c.in_ok-both.both small c.in_ok-both.ensures.value
    ∙ ap (λ (s : List ℕ). rank_sum s c.in_ok-other.other) c.in_ok-list.ensures.pieces
    ∙ ap (rank_sum (list_of c.args.runs.now)) c.in_ok-other.ensures.pieces in
    let may : MayBeAdded c.args.runs.now c.args.others.now = record {
      valid = c.in_default.ensures;
      others_are_valid = c.in_default-first_invalid_run.ensures;
      small = omega (arith, small, ap sum c.in_ok-list.ensures.pieces, ap sum c.in_ok-other.ensures.pieces);
    } in
    room_refusal_is_cause (IsAppendCause c.args.runs.now c.args.others.now (length c.args.into.now)) (runs_in c.in_ok-both.both) (length c.args.into.now)
    (λ n is low. (may, is ∙ ap runs_in same, omega (arith, ap runs_in same, low))) c.write_runs.result c.write_runs.ensures.refused
