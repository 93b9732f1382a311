use Rattle.std.proofs.Common.{◌≡◌, ◌⊎◌, ℕ, ◌^◌, List, Result, Ok, Err, length, arith, ap, sym, subst, ◌∙◌}
use Rattle.std.proofs.lemmas.Result.{err_from_is_err_and}
use Rattle.order_search.specs.declared.refusal.PlanError.{PlanError}
use Rattle.order_search.specs.declared.refusal.PlanError.TheVariants as error
use Rattle.stats_file_bounds.specs.Bounds.{scan_bounds_of_file, set_bounds_of_file}
use Rattle.stats_file_bounds.proofs.FromFiles.{all_sets, one_scan_bound_each}
use Rattle.prepared_runs.specs.Shapes.{answer_of}
use Rattle.prepared_runs.specs.StatsFiles.{made_from_file, plan_from_file_asked}
use Rattle.plans.specs.declared.bushy.BushyPlan.{BushyPlan}
use Rattle.prepared_runs.proofs.Answered.{planned_kept, planned_past, planned_stops_by, was_made, was_refused}
use Rattle.prepared_runs.proofs.ShapeFacts.{answer_is_plan, is_plan_of_its_scans, shaped_is_tree}
use Rattle.prepared_runs.proofs.StatsFileStages.{asked_known}
use Rattle.prepared_runs.proofs.stats_files.plan_known.Goals as goal

pub plan_by-requires : goal.plan_by-requires
plan_by-requires c =
    let query = c.args.query in
    let known = c.args.known.now in
    let lengths : length known.scans ≡ length query.from = ap (λ (s : List ℕ). length s) c.requires.known.scans ∙ one_scan_bound_each query c.args.file in
    record {
      some = omega (arith, lengths, c.requires.some);
      few = omega (arith, lengths, c.requires.few);
      sets = ap (λ (s : List ℕ). length s) c.requires.known.sets ∙ all_sets query c.args.file ∙ ap (λ (k : ℕ). 2 ^ k) (sym lengths);
      budget = c.requires.budget;
    }

pub returns-in_err-plan-clause-refused : goal.returns-in_err-plan-clause-refused
returns-in_err-plan-clause-refused c =
    let terms = c.args.terms.now in
    let query = c.args.query in
    let file = c.args.file in
    let known = c.args.known.now in
    let p = err_from_is_err_and c.from_residual.result c.from_residual.ensures.1 in
    rw (p.1, p.2) (planned_stops_by terms.memory (made_from_file terms query file) (plan_from_file_asked terms query file) c.in_err-plan.field-0.0
    (subst (λ (r : Result BushyPlan PlanError). (c.in_err-plan.field-0.0 ≡ error.NoMemory) ⊎ (r ≡ Err c.in_err-plan.field-0.0)) (asked_known terms query file known c.requires.known)
    (was_refused (answer_of terms.shape known.sets known.scans terms.budget) c.in_err-plan.field-0.0 c.in_err-plan.ensures)))

pub tree_memory-bytes-requires : goal.tree_memory-bytes-requires
tree_memory-bytes-requires c =
    let terms = c.args.terms.now in
    let query = c.args.query in
    let known = c.args.known.now in
    let lengths : length known.scans ≡ length query.from = ap (λ (s : List ℕ). length s) c.requires.known.scans ∙ one_scan_bound_each query c.args.file in
    let made : answer_of terms.shape known.sets known.scans terms.budget ≡ Ok c.in_ok-plan.plan = was_made (answer_of terms.shape known.sets known.scans terms.budget) c.in_ok-plan.plan c.in_ok-plan.ensures in
    is_plan_of_its_scans (length query.from) c.in_ok-plan.plan (shaped_is_tree (length query.from) terms.shape c.in_ok-plan.plan c.requires.some c.requires.few
    (answer_is_plan terms.shape known.sets known.scans (length query.from) terms.budget lengths c.requires.some c.requires.few c.in_ok-plan.plan made))

pub returns-in_err-check_limit-clause-refused : goal.returns-in_err-check_limit-clause-refused
returns-in_err-check_limit-clause-refused c =
    let terms = c.args.terms.now in
    let query = c.args.query in
    let file = c.args.file in
    let known = c.args.known.now in
    let p = err_from_is_err_and c.from_residual-in_err-check_limit.result c.from_residual-in_err-check_limit.ensures.1 in
    rw (p.1, p.2) (planned_past terms.memory (made_from_file terms query file) (plan_from_file_asked terms query file) c.in_ok-plan.plan
    (sym (asked_known terms query file known c.requires.known) ∙ was_made (answer_of terms.shape known.sets known.scans terms.budget) c.in_ok-plan.plan c.in_ok-plan.ensures)
    c.in_err-check_limit.field-0.0 (sym (rw c.tree_memory-bytes.ensures.value at c.in_err-check_limit.ensures)))

pub returns-clause-plan : goal.returns-clause-plan
returns-clause-plan c =
    let terms = c.args.terms.now in
    let query = c.args.query in
    let file = c.args.file in
    let known = c.args.known.now in
    let made : plan_from_file_asked terms query file ≡ Ok c.in_ok-plan.plan =
    sym (asked_known terms query file known c.requires.known) ∙ was_made (answer_of terms.shape known.sets known.scans terms.budget) c.in_ok-plan.plan c.in_ok-plan.ensures in
    record {
      plan = answer_is_plan terms.shape (set_bounds_of_file query file) (scan_bounds_of_file query file) (length query.from) terms.budget (one_scan_bound_each query file) c.requires.some c.requires.few c.in_ok-plan.plan made;
      bytes = c.tree_memory-bytes.ensures.value;
    }

pub returns-clause-within : goal.returns-clause-within
returns-clause-within c =
    let terms = c.args.terms.now in
    let query = c.args.query in
    let file = c.args.file in
    let known = c.args.known.now in
    planned_kept terms.memory (made_from_file terms query file) (plan_from_file_asked terms query file) c.in_ok-plan.plan
    (sym (asked_known terms query file known c.requires.known) ∙ was_made (answer_of terms.shape known.sets known.scans terms.budget) c.in_ok-plan.plan c.in_ok-plan.ensures)
    (sym (rw c.tree_memory-bytes.ensures.value at c.in_ok-check_limit.ensures))
