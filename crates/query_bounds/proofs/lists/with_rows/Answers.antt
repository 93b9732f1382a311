use Rattle.std.proofs.Common.{◌≡◌, ◌<◌, ℕ, [], length, subst, arith}
use Rattle.query_bounds.specs.Bounds.{HoldsKnown}
use Rattle.query_bounds.proofs.Holding.{has_first, no_list, nothing_held, rows_more, row_bound_is_known}
use Rattle.query_bounds.proofs.lists.with_rows.Goals as goal

pub loop-entry-init : goal.loop-entry-init
loop-entry-init c = λ known tells. nothing_held c.args.query.now known c.new-lists.result c.new-lists.ensures.rows c.new-lists.ensures.lists

pub row_bound-requires-clause-known : goal.row_bound-requires-clause-known
row_bound-requires-clause-known c =
    has_first c.args.query.now c.args.stats.now c.requires.told.known c.loop-entry.entry c.requires.told.tells (omega (arith, c.loop-entry-test.true, c.len-entry-end.ensures))

pub set_rows-requires : goal.set_rows-requires
set_rows-requires c = record {
  no_list = λ column. no_list c.args.query.now c.requires.told.known c.loop-entry.entry c.loop-entry.lists (c.loop-entry.invariant c.requires.told.known c.requires.told.tells) c.loop-entry.entry column;
}

pub loop-entry-preserved : goal.loop-entry-preserved
loop-entry-preserved c = λ known tells.
    let low : c.loop-entry.entry < length c.args.query.now.from = omega (arith, c.loop-entry-test.true, c.len-entry-end.ensures) in
    rows_more c.args.query.now known c.loop-entry.entry c.in_ok-rows.rows c.loop-entry.lists c.set_rows.new.self (c.loop-entry.invariant known tells)
    (row_bound_is_known c.args.query.now c.args.stats.now known c.loop-entry.entry c.in_ok-rows.rows tells low c.in_ok-rows.ensures.rows)
    c.in_ok-set_rows.ensures.set c.in_ok-set_rows.ensures.others c.in_ok-set_rows.ensures.lists

pub returns : goal.returns
returns c = λ known tells.
    let all : c.loop-entry.entry ≡ length c.args.query.now.from = omega (arith, c.loop-entry-test.false, c.loop-entry.auto.entry-end, c.len-entry-end.ensures) in
    subst (λ (n : ℕ). HoldsKnown c.args.query.now known n [] c.loop-entry.lists) all (c.loop-entry.invariant known tells)
