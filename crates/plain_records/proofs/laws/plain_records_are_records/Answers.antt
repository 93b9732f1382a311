use Rattle.plain_records.proofs.RecordFacts.{plain_is}
use Rattle.plain_records.proofs.laws.plain_records_are_records.Goals as goal

pub returns : goal.returns
returns c = plain_is
