use Rattle.table_stats.proofs.ValueNumbers.{have_keys}
use Rattle.table_stats.proofs.laws.tables_have_keys.Goals as goal

pub returns : goal.returns
returns c = have_keys
