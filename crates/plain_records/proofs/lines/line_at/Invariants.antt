use Rattle.std.proofs.Common.{◌≡◌, ◌≤◌, ◌+◌, ◌-◌, length, drop}
use Rattle.plain_records.specs.Plain.{after_line, first_record}
use Rattle.plain_records.proofs.lines.line_at.Given as goal

abbrev pub invariant-bytes : goal.invariant-bytes
invariant-bytes l = record {
  within : l.at ≤ length l.bytes;
  few : l.fields ≤ l.at + 1;
  counted : length (first_record (drop l.offset l.bytes)) + 1 ≡ l.fields + length (first_record (drop l.at l.bytes));
  rest : after_line (drop l.offset l.bytes) ≡ after_line (drop l.at l.bytes);
}

abbrev pub decreases-bytes : goal.decreases-bytes
decreases-bytes l = length l.bytes - l.at
