use Rattle.std.proofs.Common.{◌≡◌, ◌≤◌, ◌-◌, length, drop}
use Rattle.std.specs.Prelude.{IsUtf8}
use Rattle.plain_records.specs.Plain.{plain_records}
use Rattle.plain_records.proofs.lines.skip_line_ends.Given as goal

abbrev pub invariant-bytes : goal.invariant-bytes
invariant-bytes l = record {
  from : l.offset ≤ l.at;
  within : l.at ≤ length l.bytes;
  records : plain_records (drop l.offset l.bytes) ≡ plain_records (drop l.at l.bytes);
  text : IsUtf8 l.bytes → IsUtf8 (drop l.offset l.bytes) → IsUtf8 (drop l.at l.bytes);
}

abbrev pub decreases-bytes : goal.decreases-bytes
decreases-bytes l = length l.bytes - l.at
