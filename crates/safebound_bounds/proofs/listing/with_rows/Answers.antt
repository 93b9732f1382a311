use Rattle.std.proofs.Common.{◌≡◌, ℕ, [], length, refl, subst, arith}
use Rattle.safebound_bounds.specs.Listed.{HoldsListed}
use Rattle.safebound_bounds.proofs.Holding.{nothing_is_held_yet, one_more_row_bound_held}
use Rattle.safebound_bounds.proofs.listing.with_rows.Goals as goal

pub loop-entry-init : goal.loop-entry-init
loop-entry-init c = nothing_is_held_yet c.args.rows.now c.new-known.result c.new-known.ensures.rows c.new-known.ensures.lists

pub set_rows-requires : goal.set_rows-requires
set_rows-requires c = record { no_list = λ column. c.loop-entry.invariant.columns c.loop-entry.entry column }

pub loop-entry-preserved : goal.loop-entry-preserved
loop-entry-preserved c =
    one_more_row_bound_held c.args.rows.now c.loop-entry.entry _ c.loop-entry.known c.set_rows.new.self c.loop-entry.invariant refl
    c.in_ok-set_rows.ensures.set c.in_ok-set_rows.ensures.others c.in_ok-set_rows.ensures.lists

pub returns : goal.returns
returns c =
    let all : c.loop-entry.entry ≡ length c.args.rows.now = omega (arith, c.loop-entry-test.false, c.loop-entry.auto.entry-end) in
    subst (λ (n : ℕ). HoldsListed c.args.rows.now n [] [] c.loop-entry.known) all c.loop-entry.invariant
