use Rattle.std.proofs.Common.{◌-◌, length}
use Rattle.plain_records.specs.Offsets.{FieldSoFar}
use Rattle.plain_records.proofs.lines.field_end.Given as goal

abbrev pub invariant-bytes : goal.invariant-bytes
invariant-bytes l = FieldSoFar l.bytes l.start l.at

abbrev pub decreases-bytes : goal.decreases-bytes
decreases-bytes l = length l.bytes - l.at
