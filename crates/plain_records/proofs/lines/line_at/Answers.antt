use Rattle.std.proofs.Common.{◌≡◌, ◌+◌, ◌<◌, ◌≤◌, ◌∙◌, sym, arith, get_or, length, drop, false, true}
use Rattle.std.proofs.lemmas.Bool.{ne_eqb}
use Rattle.plain_records.specs.Plain.{ends_line, first_record, is_comma}
use Rattle.plain_records.proofs.OffsetFacts.{count_byte, count_comma, count_end, rest_end, rest_more, utf8_after_line}
use Rattle.plain_records.proofs.lines.line_at.Goals as goal
use Rattle.plain_records.proofs.lines.line_at.Goals.{then-bytes-at-eq44, else-bytes-at-eq44, then-bytes-test+else-not-ends_line, else-bytes-test}

counted-preserved : (c : goal.Joined-bytes-at-eq44) → length (first_record (drop c.args.offset c.args.bytes.now)) + 1 ≡ c.if-bytes-at-eq44.fields + length (first_record (drop (c.bytes.at + 1) c.args.bytes.now))
counted-preserved c =
    let goes_on : ends_line (get_or c.args.bytes.now c.bytes.at 0) ≡ false = sym c.ends_line.ensures ∙ c.if-not-ends_line.true in
    elim c.if-bytes-at-eq44.branch [
      | then-bytes-at-eq44 w ↦ omega (arith, c.bytes.invariant.counted, w.fields-is, count_comma c.args.bytes.now c.bytes.at c.bytes-test.true w.if-bytes-at-eq44.true)
      | else-bytes-at-eq44 w ↦
          let comma : is_comma (get_or c.args.bytes.now c.bytes.at 0) ≡ false = ne_eqb (get_or c.args.bytes.now c.bytes.at 0) 44 w.if-bytes-at-eq44.false in
          omega (arith, c.bytes.invariant.counted, w.fields-is, count_byte c.args.bytes.now c.bytes.at c.bytes-test.true goes_on comma)
    ]

few-preserved : (c : goal.Joined-bytes-at-eq44) → c.if-bytes-at-eq44.fields ≤ c.bytes.at + 1 + 1
few-preserved c = elim c.if-bytes-at-eq44.branch [
  | then-bytes-at-eq44 w ↦ omega (arith, c.bytes.invariant.few, w.fields-is)
  | else-bytes-at-eq44 w ↦ omega (arith, c.bytes.invariant.few, w.fields-is)
]

pub bytes-preserved : goal.bytes-preserved
bytes-preserved c = record {
  within = omega (arith, c.bytes-test.true);
  few = few-preserved c;
  counted = counted-preserved c;
  rest = c.bytes.invariant.rest ∙ rest_more c.args.bytes.now c.bytes.at c.bytes-test.true (sym c.ends_line.ensures ∙ c.if-not-ends_line.true);
}

-- the loop stopped where the line ends
ends-there : (c : goal.After-min) → c.bytes.at < length c.args.bytes.now → ends_line (get_or c.args.bytes.now c.bytes.at 0) ≡ true
ends-there c l = elim c.bytes-test.branch [
  | then-bytes-test+else-not-ends_line w ↦ sym w.ends_line.ensures ∙ w.if-not-ends_line.false
  | else-bytes-test w ↦ absurd (omega (arith, w.bytes-test.false, l))
]

pub returns-clause-fields : goal.returns-clause-fields
returns-clause-fields c = omega (arith, c.bytes.invariant.counted, count_end c.args.bytes.now c.bytes.at (ends-there c))

pub returns-clause-rest : goal.returns-clause-rest
returns-clause-rest c = rw c.min.ensures (rest_end c.args.bytes.now c.bytes.at (ends-there c) ∙ sym c.bytes.invariant.rest)

pub returns-clause-text : goal.returns-clause-text
returns-clause-text c = rw c.min.ensures (utf8_after_line c.args.bytes.now c.bytes.at (ends-there c))
