use Rattle.std.proofs.Common.{◌≡◌, take}
use Rattle.table_files.specs.Stage.{tables_of_query}
use Rattle.table_files.proofs.numbers.table_numbers.Given as goal

abbrev pub invariant-entries : goal.invariant-entries
invariant-entries l = l.numbers ≡ tables_of_query (take l.source-index l.from)
