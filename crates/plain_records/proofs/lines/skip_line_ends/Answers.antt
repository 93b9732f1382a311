use Rattle.std.proofs.Common.{◌≡◌, sym, ◌∙◌, arith, get_or, true}
use Rattle.plain_records.specs.Plain.{ends_line}
use Rattle.plain_records.proofs.OffsetFacts.{line_ascii, no_record, utf8_after_byte}
use Rattle.plain_records.proofs.lines.skip_line_ends.Goals as goal

pub bytes-preserved : goal.bytes-preserved
bytes-preserved c =
    let ends : ends_line (get_or c.args.bytes.now c.bytes.at 0) ≡ true = sym c.ends_line.ensures ∙ c.if-ends_line.true in
    record {
      from = omega (arith, c.bytes.invariant.from);
      within = omega (arith, c.bytes-test.true);
      records = c.bytes.invariant.records ∙ no_record c.args.bytes.now c.bytes.at c.bytes-test.true ends;
      text = λ text begun. utf8_after_byte c.args.bytes.now c.bytes.at text c.bytes-test.true (line_ascii (get_or c.args.bytes.now c.bytes.at 0) ends);
    }
