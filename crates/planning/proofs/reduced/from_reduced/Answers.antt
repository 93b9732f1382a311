use Rattle.std.proofs.Common.{◌≡◌, ℕ, List, ap, sym, ◌∙◌, subst}
use Rattle.sql_meaning.specs.Tables.{tables_of}
use Rattle.join_steps.specs.Lists.{list_sizes, lists_of}
use Rattle.reduced_scans.specs.Lists.{AreRowLists}
use Rattle.reduced_scans.specs.Rounds.{reduced_of}
use Rattle.planning.specs.HasBounds.{HasBounds}
use Rattle.planning.specs.ListedBounds.{set_bounds_over}
use Rattle.planning.proofs.reduced.from_reduced.Goals as goal

pub from_rows-requires-clause-rows : goal.from_rows-requires-clause-rows
from_rows-requires-clause-rows c = subst (AreRowLists c.args.db.now) (sym c.deref.ensures.value) c.in_ok-lists.ensures.lists

pub returns-clause-gives : goal.returns-clause-gives
returns-clause-gives c =
    let query = c.args.query.now in
    let tables = tables_of c.args.db.now in
    let same : lists_of c.deref.result.now ≡ reduced_of query tables = ap lists_of c.deref.ensures.value ∙ c.in_ok-lists.ensures.reduced in
    subst (λ (l : List (List ℕ)). HasBounds (set_bounds_over query tables l c.args.accuracy) (list_sizes query l) c.in_ok-known.known) same c.in_ok-known.ensures
