use Rattle.stats_answers.proofs.ByteNames.{declared_bytes}
use Rattle.stats_answers.proofs.laws.schemas_have_byte_columns.Goals as goal

pub returns : goal.returns
returns c = declared_bytes
