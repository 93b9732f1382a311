use Rattle.std.proofs.Common.{◌≡◌, ℕ, ◌^◌, List, length, arith, ap, sym, subst, ◌∙◌}
use Rattle.std.proofs.lemmas.Result.{err_from_is_err_and}
use Rattle.sql_meaning.specs.Tables.{tables_of}
use Rattle.planning.specs.HasBounds.{HasBounds}
use Rattle.prepared_runs.specs.PreparedQuery.{HoldExactly}
use Rattle.prepared_runs.specs.Shapes.{answer_of}
use Rattle.prepared_runs.specs.Sources.{scans_by, bounds_and_lists_by}
use Rattle.prepared_runs.proofs.AllowedFacts.{plan_costs}
use Rattle.prepared_runs.proofs.Answered.{was_made, was_refused}
use Rattle.prepared_runs.proofs.ShapeFacts.{planned_known, scans_given}
use Rattle.prepared_runs.proofs.SourceFacts.{all_sets, scans_bound, single_bounds}
use Rattle.prepared_runs.proofs.scans.plan_task.Goals as goal

pub plan_by-requires : goal.plan_by-requires
plan_by-requires c =
    let task = c.args.task.now in
    let query = c.args.query.now in
    let tables = tables_of c.args.db.now in
    let known = c.in_ok-known.field-0.known in
    let known_is = subst (λ (a : ℕ). HasBounds ((bounds_and_lists_by task.source c.args.schema.now query tables).sets a) ((bounds_and_lists_by task.source c.args.schema.now query tables).scans a) known) c.of.ensures c.in_ok-known.ensures.known in
    let one_each = (scans_bound query tables task.source task.accuracy).one_each in
    let lengths : length known.scans ≡ length query.from = ap (λ (s : List ℕ). length s) known_is.scans ∙ one_each in
    record {
      some = omega (arith, lengths, c.requires.database.some);
      few = omega (arith, lengths, c.requires.database.few);
      sets =
          ap (λ (s : List ℕ). length s) known_is.sets ∙ all_sets query tables c.args.schema.now task.source task.accuracy ∙ ap (λ (k : ℕ). 2 ^ k) (sym lengths);
      budget = c.requires.ranges.budget;
    }

pub returns-in_err-plan-clause-refused : goal.returns-in_err-plan-clause-refused
returns-in_err-plan-clause-refused c =
    let task = c.args.task.now in
    let query = c.args.query.now in
    let tables = tables_of c.args.db.now in
    let known = c.in_ok-known.field-0.known in
    let known_is = subst (λ (a : ℕ). HasBounds ((bounds_and_lists_by task.source c.args.schema.now query tables).sets a) ((bounds_and_lists_by task.source c.args.schema.now query tables).scans a) known) c.of.ensures c.in_ok-known.ensures.known in
    let p = err_from_is_err_and c.from_residual-in_err-plan.result c.from_residual-in_err-plan.ensures.1 in
    rw (p.1, p.2, ← planned_known task.terms.shape (bounds_and_lists_by task.source c.args.schema.now query tables) task.accuracy task.terms.budget known known_is)
    (was_refused (answer_of task.terms.shape known.sets known.scans task.terms.budget) c.in_err-plan.field-0.0 c.in_err-plan.ensures)

pub returns-clause-planned : goal.returns-clause-planned
returns-clause-planned c =
    let task = c.args.task.now in
    let query = c.args.query.now in
    let tables = tables_of c.args.db.now in
    let known = c.in_ok-known.field-0.known in
    let known_is = subst (λ (a : ℕ). HasBounds ((bounds_and_lists_by task.source c.args.schema.now query tables).sets a) ((bounds_and_lists_by task.source c.args.schema.now query tables).scans a) known) c.of.ensures c.in_ok-known.ensures.known in
    sym (planned_known task.terms.shape (bounds_and_lists_by task.source c.args.schema.now query tables) task.accuracy task.terms.budget known known_is)
    ∙ was_made (answer_of task.terms.shape known.sets known.scans task.terms.budget) c.in_ok-plan.plan c.in_ok-plan.ensures

pub returns-clause-affordable : goal.returns-clause-affordable
returns-clause-affordable c =
    let task = c.args.task.now in
    let query = c.args.query.now in
    let tables = tables_of c.args.db.now in
    plan_costs (length query.from) (bounds_and_lists_by task.source c.args.schema.now query tables) task.accuracy task.terms.budget (scans_bound query tables task.source task.accuracy).one_each
    c.requires.database.some c.requires.database.few (single_bounds query tables c.args.schema.now task.source task.accuracy) task.terms.shape c.in_ok-plan.plan (returns-clause-planned c)

pub returns-clause-exact : goal.returns-clause-exact
returns-clause-exact c =
    let task = c.args.task.now in
    let query = c.args.query.now in
    let tables = tables_of c.args.db.now in
    subst (HoldExactly c.in_ok-known.field-0.scans) (sym (scans_given (length query.from) (bounds_and_lists_by task.source c.args.schema.now query tables) task.accuracy task.terms.budget
    (scans_bound query tables task.source task.accuracy).one_each c.requires.database.some c.requires.database.few task.terms.shape c.in_ok-plan.plan (returns-clause-planned c)))
    (subst (λ (a : ℕ). HoldExactly c.in_ok-known.field-0.scans (scans_by task.source query tables a)) c.of.ensures c.in_ok-known.ensures.exact)
