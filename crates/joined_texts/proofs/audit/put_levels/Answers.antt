use Rattle.std.proofs.Common.{◌≡◌, ◌+◌, ◌++◌, ◌<◌, ℕ, [], drop, length, get_or, ap, sym, refl, ◌∙◌, subst, arith}
use Rattle.std.specs.Prelude.{slice_get}
use Rattle.std.proofs.lemmas.Result.{err_from_is_err_and}
use Rattle.base_io.proofs.WriteFacts.{put_failed_next, put_with_other_error, put_nothing, put_then}
use Rattle.plans.specs.Orders.{order_of_tree, IsOrderTree}
use Rattle.plans.proofs.Reading.{entry_low, joins_are}
use Rattle.printed_texts.specs.Plans.{alias_of, audit_line, level_audits}
use Rattle.printed_texts.proofs.PlanLines.{one_more_done}
use Rattle.joined_texts.specs.Printed.{level_counts}
use Rattle.joined_texts.proofs.AuditLines.{count_at, count_of_counts, next_audit}
use Rattle.joined_texts.proofs.audit.put_levels.Goals as goal

pub levels-init : goal.levels-init
levels-init g c = record { done = []; left = refl; put = put_nothing _ _ _ }

pub entry_in_order-requires : goal.entry_in_order-requires
entry_in_order-requires g c = omega (arith, joins_are (length c.args.sources.now) c.args.plan.now c.requires.plan)

pub alias_at-alias-requires : goal.alias_at-alias-requires
alias_at-alias-requires g c = rw c.entry_in_order.ensures (entry_low (length c.args.sources.now) c.args.plan.now c.levels.i c.requires.plan (omega arith))

pub level_row_count-rows-requires : goal.level_row_count-rows-requires
level_row_count-rows-requires g c =
    let scans = c.requires.plan.order.scans in
    record {
      plan = subst (λ (n : ℕ). IsOrderTree n c.args.plan.now) (sym scans) c.requires.plan;
      few = omega (arith, scans, c.requires.few);
      level = (omega arith, omega (arith, scans));
      nodes = omega (arith, scans, c.requires.nodes);
    }

pub level_bound-bound-requires : goal.level_bound-bound-requires
level_bound-bound-requires g c = record {
  tree = subst (λ (n : ℕ). IsOrderTree n c.args.plan.now) (sym c.requires.plan.order.scans) c.requires.plan;
  level = omega (arith, joins_are (length c.args.sources.now) c.args.plan.now c.requires.plan);
}

pub returns-in_err-put_level : goal.returns-in_err-put_level
returns-in_err-put_level g c =
    let p = err_from_is_err_and c.from_residual.result c.from_residual.ensures.1 in
    let sources = c.args.sources.now in
    let its = order_of_tree c.args.plan.now in
    let counts = level_counts c.args.constants its.order c.args.done.now.nodes in
    let i = c.levels.i in
    let low : i < length its.order = omega (arith, c.requires.plan.order.order.all) in
    let few : i < length counts = omega (arith, count_of_counts c.args.constants its.order c.args.done.now.nodes, low) in
    let rows : c.level_row_count-rows.result ≡ get_or counts i 0 = c.level_row_count-rows.ensures ∙ sym (count_at c.args.constants its.order c.args.done.now.nodes i low) in
    let next = next_audit (i + 1) sources its.order its.levels counts i (get_or its.order i 0) (get_or its.levels i 0) c.level_row_count-rows.result low (omega (arith, c.requires.plan.order.levels)) few refl refl rows in
    put_with_other_error p.1 (put_failed_next (level_audits (i + 1 + 1) sources (drop (i + 1) its.order) (drop (i + 1) its.levels) (drop (i + 1) counts)) (level_audits 1 sources its.order its.levels counts)
    (ap (λ x. c.levels.invariant.done ++ x) (sym next) ∙ c.levels.invariant.left) c.levels.invariant.put (rw (c.alias_at-alias.ensures, c.entry_in_order.ensures, c.level_bound-bound.ensures) at c.in_err-put_level.ensures))

pub levels-preserved : goal.levels-preserved
levels-preserved g c =
    let sources = c.args.sources.now in
    let its = order_of_tree c.args.plan.now in
    let counts = level_counts c.args.constants its.order c.args.done.now.nodes in
    let i = c.levels.i in
    let low : i < length its.order = omega (arith, c.requires.plan.order.order.all) in
    let few : i < length counts = omega (arith, count_of_counts c.args.constants its.order c.args.done.now.nodes, low) in
    let rows : c.level_row_count-rows.result ≡ get_or counts i 0 = c.level_row_count-rows.ensures ∙ sym (count_at c.args.constants its.order c.args.done.now.nodes i low) in
    let next = next_audit (i + 1) sources its.order its.levels counts i (get_or its.order i 0) (get_or its.levels i 0) c.level_row_count-rows.result low (omega (arith, c.requires.plan.order.levels)) few refl refl rows in
    record {
      done = c.levels.invariant.done ++ audit_line (i + 1) (alias_of (slice_get sources (get_or its.order i 0))) (get_or its.levels i 0) c.level_row_count-rows.result;
      left = one_more_done c.levels.invariant.done _ _ _ _ c.levels.invariant.left next;
      put = put_then c.levels.invariant.put (rw (c.alias_at-alias.ensures, c.entry_in_order.ensures, c.level_bound-bound.ensures) at c.in_ok-put_level.ensures);
    }
