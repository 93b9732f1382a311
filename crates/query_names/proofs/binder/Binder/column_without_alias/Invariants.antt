use Rattle.std.proofs.Common.{◌≡◌, ◌++◌, drop}
use Rattle.query_names.specs.Binding.{schema_of, columns_in}
use Rattle.query_names.proofs.ScopeFacts.{as_list}
use Rattle.query_names.proofs.binder.Binder.column_without_alias.Given as goal

abbrev pub invariant-all : goal.invariant-all
invariant-all l = columns_in (schema_of l.self) l.name l.first_two ≡ as_list l.found ++ columns_in (schema_of l.self) l.name (drop l.entry-index l.first_two)
