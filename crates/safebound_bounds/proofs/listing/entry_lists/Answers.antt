use Rattle.std.proofs.Common.{List, length, take, get_or, ap, sym, ◌∙◌, subst, arith}
use Rattle.std.specs.Prelude.{Some}
use Rattle.std.proofs.lemmas.List.{take_all, take_more}
use Rattle.safebound_lists.specs.declared.runs.Run.{Run}
use Rattle.safebound_lists.specs.Runs.{AreValid, list_of}
use Rattle.safebound_bounds.specs.declared.arguments.ColumnList.{ColumnList}
use Rattle.safebound_bounds.specs.Arguments.{IsListValidAt, list_at, default_list}
use Rattle.safebound_bounds.specs.Listed.{HoldsListed}
use Rattle.safebound_bounds.specs.Meaning.{fitted}
use Rattle.safebound_bounds.proofs.Holding.{one_more_list_held, list_is_not_held, row_bound_is_held, without_lists}
use Rattle.safebound_bounds.proofs.listing.entry_lists.Goals as goal

pub loop-list-init : goal.loop-list-init
loop-list-init c = without_lists c.args.rows.now (length c.args.rows.now) c.args.runs.now c.in_ok-known.known c.in_ok-known.ensures

pub own_runs-own-requires : goal.own_runs-own-requires
own_runs-own-requires c = (c.requires.lists c.loop-list.list-index c.loop-list-test.true).runs_there

pub bounds-rows-list : goal.bounds-rows-list
bounds-rows-list c = (c.requires.lists c.loop-list.list-index c.loop-list-test.true).entry

pub fitted-requires : goal.fitted-requires
fitted-requires c =
    let valid : IsListValidAt (length c.args.rows.now) (length c.args.runs.now) c.args.lists.now c.loop-list.list-index = c.requires.lists c.loop-list.list-index c.loop-list-test.true in
    record {
      rows = c.requires.rows (list_at c.args.lists.now c.loop-list.list-index).entry valid.entry;
      valid = subst AreValid (sym c.own_runs-own.ensures) (c.requires.runs c.loop-list.list-index c.loop-list-test.true);
    }

pub add-requires : goal.add-requires
add-requires c =
    let valid : IsListValidAt (length c.args.rows.now) (length c.args.runs.now) c.args.lists.now c.loop-list.list-index = c.requires.lists c.loop-list.list-index c.loop-list-test.true in
    record {
      total = row_bound_is_held c.args.rows.now (length c.args.rows.now) (take c.loop-list.list-index c.args.lists.now) c.args.runs.now c.loop-list.known c.loop-list.invariant
          (list_at c.args.lists.now c.loop-list.list-index).entry valid.entry ∙ ap Some (sym c.in_ok-fitting.ensures.total);
      no_list = list_is_not_held c.args.rows.now (length c.args.rows.now) (take c.loop-list.list-index c.args.lists.now) c.args.runs.now c.loop-list.known
          (list_at c.args.lists.now c.loop-list.list-index).entry (list_at c.args.lists.now c.loop-list.list-index).column c.loop-list.invariant valid.once;
    }

pub loop-list-preserved : goal.loop-list-preserved
loop-list-preserved c =
    let valid : IsListValidAt (length c.args.rows.now) (length c.args.runs.now) c.args.lists.now c.loop-list.list-index = c.requires.lists c.loop-list.list-index c.loop-list-test.true in
    subst (λ (s : List ColumnList). HoldsListed c.args.rows.now (length c.args.rows.now) s c.args.runs.now c.add.new.self)
    (sym (take_more c.args.lists.now c.loop-list.list-index default_list c.loop-list-test.true))
    (one_more_list_held c.args.rows.now (length c.args.rows.now) (take c.loop-list.list-index c.args.lists.now) c.args.runs.now (list_at c.args.lists.now c.loop-list.list-index)
    c.loop-list.known c.add.new.self c.in_ok-fitting.fitting c.loop-list.invariant valid.once
    (c.in_ok-fitting.ensures.list ∙ ap (λ (own : List Run). fitted (get_or c.args.rows.now (list_at c.args.lists.now c.loop-list.list-index).entry 0) (list_of own)) c.own_runs-own.ensures)
    c.in_ok-add.ensures.set c.in_ok-add.ensures.others c.in_ok-add.ensures.rows)

pub returns : goal.returns
returns c =
    subst (λ (s : List ColumnList). HoldsListed c.args.rows.now (length c.args.rows.now) s c.args.runs.now c.loop-list.known)
    (take_all c.loop-list.list-index c.args.lists.now (omega arith)) c.loop-list.invariant
