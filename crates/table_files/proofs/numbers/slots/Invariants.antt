use Rattle.std.proofs.Common.{◌≡◌, map, take}
use Rattle.table_files.specs.Stage.{numbers_of, index_of}
use Rattle.table_files.proofs.numbers.slots.Given as goal

abbrev pub invariant-entries : goal.invariant-entries
invariant-entries l = l.slots ≡ map (index_of l.numbers) (numbers_of (take l.source-index l.from))
