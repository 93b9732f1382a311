use Rattle.std.proofs.Common.{◌≡◌, ◌≤◌, ◌^◌, ◌∙◌, length, ap, sum, arith}
use Rattle.degree_sequences.specs.Degrees.{degree_list}
use Rattle.degree_sequences.specs.Runs.{runs as runs_in}
use Rattle.safebound_lists.specs.Causes.{IsDegreesCause}
use Rattle.safebound_lists.proofs.Small.{fits_within}
use Rattle.safebound_lists.proofs.Writing.{room_refusal_is_cause, on_ok_of_proof}
use Rattle.safebound_lists.proofs.counting.degrees.Goals as goal

pub write_runs-requires : goal.write_runs-requires
write_runs-requires c =
    fits_within c.in_ok-list.list (omega (arith, ap sum (c.in_ok-list.ensures ∙ c.as_slice.ensures), c.in_ok-degrees.ensures.sum))

pub returns-clause-few : goal.returns-clause-few
returns-clause-few c = let few : length c.args.keys.now ≤ 2 ^ 48 = omega arith in on_ok_of_proof c.write_runs.result few

pub returns-clause-refused : goal.returns-clause-refused
returns-clause-refused c =
    let few : length c.args.keys.now ≤ 2 ^ 48 = omega arith in
    let same : c.in_ok-list.list ≡ degree_list c.args.keys.now = c.in_ok-list.ensures ∙ c.as_slice.ensures ∙ c.in_ok-degrees.ensures.counts in
    room_refusal_is_cause (IsDegreesCause c.args.keys.now (length c.args.into.now)) (runs_in c.in_ok-list.list) (length c.args.into.now)
    (λ n is low. (few, is ∙ ap runs_in same, omega (arith, ap runs_in same, low))) c.write_runs.result c.write_runs.ensures.refused
