use Rattle.std.proofs.Common.{ℕ, ◌+◌, ◌++◌, [], drop, length, get_or, ap, sym, refl, ◌∙◌, subst, arith}
use Rattle.std.specs.Prelude.{slice_get}
use Rattle.std.proofs.lemmas.Result.{err_from_is_err_and}
use Rattle.base_io.proofs.WriteFacts.{put_failed_next, put_with_other_error, put_nothing, put_then}
use Rattle.plans.specs.Orders.{order_of_tree, IsOrderTree}
use Rattle.plans.proofs.Reading.{entry_low, joins_are}
use Rattle.printed_texts.specs.Plans.{alias_of, level_line, level_lines}
use Rattle.printed_texts.proofs.PlanLines.{next_level, one_more_done}
use Rattle.printed_texts.proofs.plan.write_levels.Goals as goal

pub levels-init : goal.levels-init
levels-init g c = record { done = []; left = refl; put = put_nothing _ _ _ }

pub entry_in_order-requires : goal.entry_in_order-requires
entry_in_order-requires g c = omega (arith, joins_are (length c.args.sources.now) c.args.plan.now c.requires)

pub alias_at-alias-requires : goal.alias_at-alias-requires
alias_at-alias-requires g c = rw c.entry_in_order.ensures (entry_low (length c.args.sources.now) c.args.plan.now c.levels.i c.requires (omega arith))

pub level_bound-requires : goal.level_bound-requires
level_bound-requires g c = record {
  tree = subst (λ (n : ℕ). IsOrderTree n c.args.plan.now) (sym c.requires.order.scans) c.requires;
  level = omega (arith, joins_are (length c.args.sources.now) c.args.plan.now c.requires);
}

pub returns-in_err-write_level : goal.returns-in_err-write_level
returns-in_err-write_level g c =
    let p = err_from_is_err_and c.from_residual.result c.from_residual.ensures.1 in
    let sources = c.args.sources.now in
    let its = order_of_tree c.args.plan.now in
    let i = c.levels.i in
    let next = next_level (i + 1) sources its.order its.levels i (get_or its.order i 0) (get_or its.levels i 0) (omega (arith, c.requires.order.order.all)) (omega (arith, c.requires.order.levels)) refl refl in
    put_with_other_error p.1 (put_failed_next (level_lines (i + 1 + 1) sources (drop (i + 1) its.order) (drop (i + 1) its.levels)) (level_lines 1 sources its.order its.levels)
    (ap (λ x. c.levels.invariant.done ++ x) (sym next) ∙ c.levels.invariant.left) c.levels.invariant.put (rw (c.alias_at-alias.ensures, c.entry_in_order.ensures, c.level_bound.ensures) at c.in_err-write_level.ensures))

pub levels-preserved : goal.levels-preserved
levels-preserved g c =
    let sources = c.args.sources.now in
    let its = order_of_tree c.args.plan.now in
    let i = c.levels.i in
    let next = next_level (i + 1) sources its.order its.levels i (get_or its.order i 0) (get_or its.levels i 0) (omega (arith, c.requires.order.order.all)) (omega (arith, c.requires.order.levels)) refl refl in
    record {
      done = c.levels.invariant.done ++ level_line (i + 1) (alias_of (slice_get sources (get_or its.order i 0))) (get_or its.levels i 0);
      left = one_more_done c.levels.invariant.done _ _ _ _ c.levels.invariant.left next;
      put = put_then c.levels.invariant.put (rw (c.alias_at-alias.ensures, c.entry_in_order.ensures, c.level_bound.ensures) at c.in_ok-write_level.ensures);
    }
