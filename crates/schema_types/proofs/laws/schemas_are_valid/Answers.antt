use Rattle.schema_types.proofs.Valid.{declares_valid}
use Rattle.schema_types.proofs.laws.schemas_are_valid.Goals as goal

pub returns : goal.returns
returns c = declares_valid
