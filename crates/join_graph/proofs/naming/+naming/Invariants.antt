use Rattle.std.proofs.Common.{◌≡◌, map, drop}
use Rattle.std.specs.List.{flat_map}
use Rattle.query_types.specs.Named.{entries_named}
use Rattle.join_graph.specs.Naming.{named_of, together}
use Rattle.join_graph.proofs.naming.+naming.Given as goal

abbrev pub invariant-named_by_all-loop-member : goal.invariant-named_by_all-loop-member
invariant-named_by_all-loop-member l =
    together l.names (named_of (flat_map (λ inner. inner) (map entries_named (drop l.member-index l.members)))) ≡ named_of (flat_map (λ inner. inner) (map entries_named l.members))
