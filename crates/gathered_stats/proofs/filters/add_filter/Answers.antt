use Rattle.std.proofs.Common.{List, subst, sym}
use Rattle.std.specs.List.{All}
use Rattle.std.proofs.lemmas.List.Elements.{All-push}
use Rattle.std.proofs.lemmas.Result.{on_ok_weaker}
use Rattle.gathered_stats.specs.declared.filters.SortedColumn.{SortedColumn}
use Rattle.gathered_stats.specs.Filters.{IsFilterOf}
use Rattle.gathered_stats.proofs.filters.add_filter.Goals as goal

pub returns-clause-filters : goal.returns-clause-filters
returns-clause-filters c =
    on_ok_weaker c.push.result
    (λ e. subst (λ (s : List SortedColumn). All (IsFilterOf c.args.pool.now c.args.cells.now) s) (sym e)
    (All-push (IsFilterOf c.args.pool.now c.args.cells.now) c.args.filters.now c.in_ok-sorted.field-0 c.requires.filters c.in_ok-sorted.ensures.1))
    c.push.ensures.ok
