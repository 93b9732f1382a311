use Rattle.std.proofs.Common.{arith}
use Rattle.table_files.proofs.IndexFacts.{place_within}
use Rattle.table_files.proofs.numbers.slots.Goals as goal

pub overflow_cast-index_of : goal.overflow_cast-index_of
overflow_cast-index_of c = omega (arith, place_within c.args.numbers.now c.source-item.result.table)
