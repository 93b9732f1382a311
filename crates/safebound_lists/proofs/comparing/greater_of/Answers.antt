use Rattle.std.proofs.Common.{◌≡◌, ℕ, List, length, ap, ◌∙◌, subst, arith}
use Rattle.std.specs.Prelude.{IfOk}
use Rattle.degree_sequences.specs.ByRank.{rank_maximum}
use Rattle.degree_sequences.specs.Runs.{runs as runs_in}
use Rattle.safebound_lists.specs.Causes.{IsGreaterCause}
use Rattle.safebound_lists.specs.Runs.{MayTakeGreater, list_of}
use Rattle.safebound_lists.specs.Written.{IsWritten}
use Rattle.safebound_lists.proofs.Small.{AreSmallLists, fits_within, maximum_exact, maximum_total}
use Rattle.safebound_lists.proofs.Writing.{room_refusal_is_cause, on_ok_of_proof}
use Rattle.safebound_lists.proofs.comparing.greater_of.Goals as goal

pub overflow_cast-result : goal.overflow_cast-result
overflow_cast-result c =
    let are : AreSmallLists c.in_ok-list.list c.in_ok-other.other (list_of c.args.runs.now) (list_of c.args.others.now) c.in_ok-both.both = record {
      first = c.in_ok-list.ensures.pieces;
      second = c.in_ok-other.ensures.pieces;
      first_small = c.in_ok-list.ensures.small;
      second_small = c.in_ok-other.ensures.small;
      is_saturated = c.in_ok-both.ensures.value;
    } in
    let total = maximum_total c.in_ok-list.list c.in_ok-other.other (list_of c.args.runs.now) (list_of c.args.others.now) c.in_ok-both.both c.total-sum.result are c.total-sum.ensures in
    omega (arith, total.1)

pub returns-then-sum-from-clause-refused : goal.returns-then-sum-from-clause-refused
returns-then-sum-from-clause-refused c =
    let are : AreSmallLists c.in_ok-list.list c.in_ok-other.other (list_of c.args.runs.now) (list_of c.args.others.now) c.in_ok-both.both = record {
      first = c.in_ok-list.ensures.pieces;
      second = c.in_ok-other.ensures.pieces;
      first_small = c.in_ok-list.ensures.small;
      second_small = c.in_ok-other.ensures.small;
      is_saturated = c.in_ok-both.ensures.value;
    } in
    let total = maximum_total c.in_ok-list.list c.in_ok-other.other (list_of c.args.runs.now) (list_of c.args.others.now) c.in_ok-both.both c.total-sum.result are c.total-sum.ensures in
    (record { valid = c.in_default.ensures; others_are_valid = c.in_default-first_invalid_run.ensures }, total.0, omega (arith, c.from.ensures))

pub write_runs-requires : goal.write_runs-requires
write_runs-requires c =
    let are : AreSmallLists c.in_ok-list.list c.in_ok-other.other (list_of c.args.runs.now) (list_of c.args.others.now) c.in_ok-both.both = record {
      first = c.in_ok-list.ensures.pieces;
      second = c.in_ok-other.ensures.pieces;
      first_small = c.in_ok-list.ensures.small;
      second_small = c.in_ok-other.ensures.small;
      is_saturated = c.in_ok-both.ensures.value;
    } in
    let total = maximum_total c.in_ok-list.list c.in_ok-other.other (list_of c.args.runs.now) (list_of c.args.others.now) c.in_ok-both.both c.total-sum.result are c.total-sum.ensures in
    fits_within c.in_ok-both.both (omega (arith, total.2, c.from.ensures))

pub returns-clause-done : goal.returns-clause-done
returns-clause-done c =
    let are : AreSmallLists c.in_ok-list.list c.in_ok-other.other (list_of c.args.runs.now) (list_of c.args.others.now) c.in_ok-both.both = record {
      first = c.in_ok-list.ensures.pieces;
      second = c.in_ok-other.ensures.pieces;
      first_small = c.in_ok-list.ensures.small;
      second_small = c.in_ok-other.ensures.small;
      is_saturated = c.in_ok-both.ensures.value;
    } in
    let same : c.in_ok-both.both ≡ rank_maximum (list_of c.args.runs.now) (list_of c.args.others.now) = maximum_exact c.in_ok-list.list c.in_ok-other.other (list_of c.args.runs.now) (list_of c.args.others.now) c.in_ok-both.both are in
    subst (λ (s : List ℕ). IfOk c.write_runs.result (IsWritten s c.args.into.now c.write_runs.new.into)) same c.write_runs.ensures.done

pub returns-clause-valid : goal.returns-clause-valid
returns-clause-valid c =
    let are : AreSmallLists c.in_ok-list.list c.in_ok-other.other (list_of c.args.runs.now) (list_of c.args.others.now) c.in_ok-both.both = record {
      first = c.in_ok-list.ensures.pieces;
      second = c.in_ok-other.ensures.pieces;
      first_small = c.in_ok-list.ensures.small;
      second_small = c.in_ok-other.ensures.small;
      is_saturated = c.in_ok-both.ensures.value;
    } in
    let total = maximum_total c.in_ok-list.list c.in_ok-other.other (list_of c.args.runs.now) (list_of c.args.others.now) c.in_ok-both.both c.total-sum.result are c.total-sum.ensures in
    let may : MayTakeGreater c.args.runs.now c.args.others.now = record {
      both = record { valid = c.in_default.ensures; others_are_valid = c.in_default-first_invalid_run.ensures };
      small = omega (arith, total.0, c.from.ensures);
    } in
    on_ok_of_proof c.write_runs.result may

pub returns-clause-refused : goal.returns-clause-refused
returns-clause-refused c =
    let are : AreSmallLists c.in_ok-list.list c.in_ok-other.other (list_of c.args.runs.now) (list_of c.args.others.now) c.in_ok-both.both = record {
      first = c.in_ok-list.ensures.pieces;
      second = c.in_ok-other.ensures.pieces;
      first_small = c.in_ok-list.ensures.small;
      second_small = c.in_ok-other.ensures.small;
      is_saturated = c.in_ok-both.ensures.value;
    } in
    let total = maximum_total c.in_ok-list.list c.in_ok-other.other (list_of c.args.runs.now) (list_of c.args.others.now) c.in_ok-both.both c.total-sum.result are c.total-sum.ensures in
    let same : c.in_ok-both.both ≡ rank_maximum (list_of c.args.runs.now) (list_of c.args.others.now) = maximum_exact c.in_ok-list.list c.in_ok-other.other (list_of c.args.runs.now) (list_of c.args.others.now) c.in_ok-both.both are in
    let may : MayTakeGreater c.args.runs.now c.args.others.now = record {
      both = record { valid = c.in_default.ensures; others_are_valid = c.in_default-first_invalid_run.ensures };
      small = omega (arith, total.0, c.from.ensures);
    } in
    room_refusal_is_cause (IsGreaterCause c.args.runs.now c.args.others.now (length c.args.into.now)) (runs_in c.in_ok-both.both) (length c.args.into.now)
    (λ n is low. (may, is ∙ ap runs_in same, omega (arith, ap runs_in same, low))) c.write_runs.result c.write_runs.ensures.refused
