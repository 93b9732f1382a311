-- The outputs of a query. The binder has the schema, the text and the FROM entries.
use Rattle.std.specs.Prelude.{ℕ, ◌-◌, ◌^◌, min, List}
use Rattle.std.specs.List.{flat_map}
use Rattle.query_grammar.specs.declared.tree.OutNode.{OutNode}
use Rattle.query_grammar.specs.declared.tree.OutsNode.{OutsNode}
use Rattle.query_names.specs.declared.binder.Binder.{Binder}
use Rattle.query_names.specs.declared.scope.Entry.{Entry}
use Rattle.query_types.specs.declared.types.Out.{Out}
use Rattle.query_names.specs.Scopes.{in_scope, whole_scope}
use Rattle.query_names.specs.Values.{outs_of_entry, outs_of, selected}
use Rattle.query_names.specs.Binding.{schema_of, from_of}

unfoldable pub outs_of_entry_by : Binder → Entry → List Out
outs_of_entry_by binder entry = outs_of_entry (schema_of binder) entry

-- the outputs of *
unfoldable pub all_outs_by : Binder → List Out
all_outs_by binder = flat_map (outs_of_entry (schema_of binder)) (in_scope (from_of binder) (whole_scope (from_of binder)))

unfoldable pub outs_by : Binder → OutNode → List Out
outs_by binder out = outs_of (schema_of binder) binder.text.now (from_of binder) out

unfoldable pub selected_by : Binder → OutsNode → List Out
selected_by binder outs = selected (schema_of binder) binder.text.now (from_of binder) outs

-- the number, or 2^64 - 1 if the number is larger
abbrev pub capped : ℕ → ℕ
capped n = min n (2 ^ 64 - 1)
