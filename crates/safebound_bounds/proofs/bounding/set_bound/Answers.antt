use Rattle.std.proofs.Common.{◌^◌, ℕ, length, ap, ◌∙◌, arith}
use Rattle.set_bounds.specs.AllSets.{bound_in_128_bits}
use Rattle.std.proofs.lemmas.Result.{err_from_is_err_and}
use Rattle.safebound_bounds.specs.Meaning.{edges_of, known_in}
use Rattle.safebound_bounds.proofs.Bounded.{bound_never_under, narrowed_bound_is_bound_in}
use Rattle.safebound_bounds.proofs.GivenSets.{refused_set}
use Rattle.safebound_bounds.proofs.bounding.set_bound.Goals as goal

pub parts_of-requires : goal.parts_of-requires
parts_of-requires c = λ i low. record {
  left = omega (arith, (c.in_ok-check_values.ensures.valid.equalities_are_valid.each i low).left, c.in_ok-check_values.ensures.valid.rows_are_valid.few);
  right = omega (arith, (c.in_ok-check_values.ensures.valid.equalities_are_valid.each i low).right, c.in_ok-check_values.ensures.valid.rows_are_valid.few);
  two = (c.in_ok-check_values.ensures.valid.equalities_are_valid.each i low).two;
}

pub returns-in_err-check_values-clause-refused : goal.returns-in_err-check_values-clause-refused
returns-in_err-check_values-clause-refused c =
    let p = err_from_is_err_and c.from_residual.result c.from_residual.ensures.1 in
    refused_set c.args.rows.now c.args.equalities.now c.args.lists.now c.args.runs.now c.args.set c.from_residual.result (rw (p.1, p.2) (c.in_err-check_values.ensures.wrong (2 ^ length c.args.rows.now)))

pub returns-clause-done : goal.returns-clause-done
returns-clause-done c =
    narrowed_bound_is_bound_in (known_in c.args.rows.now c.args.lists.now c.args.runs.now (edges_of c.args.equalities.now)) c.in_ok-parts.parts.equalities (edges_of c.args.equalities.now) c.args.set
    c.in_ok-bound.bound c.in_64_bits.result c.in_ok-parts.ensures
    (c.in_ok-bound.ensures
    ∙ ap (λ (s : ℕ). bound_in_128_bits (known_in c.args.rows.now c.args.lists.now c.args.runs.now (edges_of c.args.equalities.now) s) c.in_ok-parts.parts.equalities s) c.from_bits.ensures)
    c.in_64_bits.ensures

pub returns-clause-never_under : goal.returns-clause-never_under
returns-clause-never_under c = bound_never_under c.args.rows.now c.args.equalities.now c.args.lists.now c.args.runs.now c.in_ok-check_values.ensures.valid c.args.set c.in_64_bits.result (returns-clause-done c)
