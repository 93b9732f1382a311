use Rattle.std.proofs.Common.{◌≡◌, ◌≤◌, ◌+◌, ◌++◌, length, drop, None}
use Rattle.std.specs.List.{flat_map}
use Rattle.query_names.specs.Names.{sources_of}
use Rattle.query_names.specs.Scopes.{on_conditions}
use Rattle.query_names.specs.Answers.{or_first}
use Rattle.query_names.specs.Binding.{from_of, names_in, kinds_in, long_lists_in, members_in}
use Rattle.sql_parse.proofs.parts.bind_parts.Given as goal

abbrev pub invariant-all : goal.invariant-all
invariant-all l = record {
  room : l.first + length (flat_map sources_of (drop l.part-index l.parts)) ≤ length (from_of l.binder);
  names : flat_map (names_in l.binder) (on_conditions 0 l.parts) ≡ flat_map (names_in l.binder) (on_conditions l.first (drop l.part-index l.parts));
  kind : or_first l.fn.held.kind (flat_map (kinds_in l.binder) (on_conditions 0 l.parts)) ≡ or_first l.held.kind (flat_map (kinds_in l.binder) (on_conditions l.first (drop l.part-index l.parts)));
  list : or_first l.fn.held.list (flat_map long_lists_in (on_conditions 0 l.parts)) ≡ or_first l.held.list (flat_map long_lists_in (on_conditions l.first (drop l.part-index l.parts)));
  members : length (from_of l.binder) ≤ 12 → l.held.list ≡ None → l.fn.conjuncts ++ flat_map (members_in l.binder) (on_conditions 0 l.parts) ≡ l.conjuncts ++ flat_map (members_in l.binder) (on_conditions l.first (drop l.part-index l.parts));
}
