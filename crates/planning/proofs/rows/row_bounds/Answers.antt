use Rattle.std.proofs.Common.{◌<◌, ℕ, List, length, ap, ◌∙◌, arith}
use Rattle.join_steps.specs.Lists.{lists_of}
use Rattle.reduced_scans.proofs.OfQuery.{read_list}
use Rattle.planning.proofs.CollectedBounds.{rows_after_step, rows_at_start}
use Rattle.planning.proofs.rows.row_bounds.Goals as goal

pub lists-init : goal.lists-init
lists-init c = record { rows = rows_at_start (lists_of c.args.lists.now) c.new-known.result c.new-known.ensures.rows; no_lists = c.new-known.ensures.lists }

pub set_rows-requires : goal.set_rows-requires
set_rows-requires c = record { no_list = λ column. c.lists.invariant.no_lists c.lists.entry column }

pub lists-preserved : goal.lists-preserved
lists-preserved c =
    let in_range : c.lists.entry < length c.args.lists.now = omega (arith, c.lists-test.true) in
    record {
      rows = rows_after_step (lists_of c.args.lists.now) c.lists.entry c.len.result c.lists.known c.set_rows.new.self c.lists.invariant.rows
          (c.len.ensures ∙ ap (λ (l : List ℕ). length l) (read_list c.args.lists.now c.lists.entry c.index-lists-entry.result in_range c.index-lists-entry.is))
          c.in_ok-set_rows.ensures.set c.in_ok-set_rows.ensures.others;
      no_lists = λ entry column. c.in_ok-set_rows.ensures.lists entry column ∙ c.lists.invariant.no_lists entry column;
    }
