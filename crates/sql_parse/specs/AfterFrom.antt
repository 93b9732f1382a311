-- The offsets of wrong names and kinds, the IN lists that are too long, and the conjuncts of a query with known FROM entries. The binder has the
-- schema, the text and the entries.
use Rattle.std.specs.Prelude.{ℕ, List, ◌++◌}
use Rattle.std.specs.List.{flat_map}
use Rattle.query_grammar.specs.declared.tree.QueryNode.{QueryNode}
use Rattle.query_names.specs.declared.binder.Binder.{Binder}
use Rattle.query_types.specs.declared.types.Cond.{Cond}
use Rattle.query_names.specs.Scopes.{whole_scope, conditions}
use Rattle.query_names.specs.Binding.{from_of, outs_offences_of, names_in, kinds_in, long_lists_in, members_in}

-- the byte offsets of wrong names: in the SELECT list, then in the conditions
unfoldable pub names_after_from : Binder → QueryNode → List ℕ
names_after_from binder query =
    outs_offences_of binder (whole_scope (from_of binder)) query.outs ++ flat_map (names_in binder) (conditions (from_of binder) query)

unfoldable pub kinds_after_from : Binder → QueryNode → List ℕ
kinds_after_from binder query = flat_map (kinds_in binder) (conditions (from_of binder) query)

unfoldable pub lists_after_from : Binder → QueryNode → List ℕ
lists_after_from binder query = flat_map long_lists_in (conditions (from_of binder) query)

unfoldable pub conjuncts_by : Binder → QueryNode → List Cond
conjuncts_by binder query = flat_map (members_in binder) (conditions (from_of binder) query)
