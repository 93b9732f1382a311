use Rattle.std.proofs.Common.{◌≡◌, get_or, map}
use Rattle.std.specs.List.{range_with_len}
use Rattle.join_graph.specs.Kept.{equalities_within}
use Rattle.safebound_bounds.specs.Meaning.{joinable_rows}
use Rattle.safebound_bounds.proofs.in_sets.rows_in_set.Given as goal

abbrev pub invariant-loop-entry : goal.invariant-loop-entry
invariant-loop-entry l =
    l.joinable ≡ map (λ entry. joinable_rows l.given.lists.now l.given.runs.now entry (equalities_within l.subset l.edges) (get_or l.given.rows.now entry 0)) (range_with_len 0 l.entry)
