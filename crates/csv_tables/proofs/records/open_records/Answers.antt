use Rattle.std.proofs.Common.{ap, ◌∙◌, ◌≤◌, arith, length, rules}
use Rattle.csv.specs.Machine.{ends_at_end}
use Rattle.csv.specs.Reading.{strip_bom}
use Rattle.csv.specs.declared.parser.State.TheVariants as st
use Rattle.csv_tables.specs.Records.{records_in, unread}
use Rattle.csv_tables.proofs.FieldFacts.{shorter_after_mark, text_after_mark}
use Rattle.csv_tables.proofs.records.open_records.Goals as goal

pub returns-clause-all_records : goal.returns-clause-all_records
returns-clause-all_records c =
    ap (λ state. records_in state (unread c.from_reader.result)) c.from_reader.ensures.state ∙ ap (records_in st.StartRecord) c.from_reader.ensures.source

pub returns-clause-reading : goal.returns-clause-reading
returns-clause-reading c =
    let shorter : length (strip_bom c.args.bytes.now) ≤ length c.args.bytes.now = shorter_after_mark c.args.bytes.now in
    record {
      config = search rules;
      trim = search rules;
      ready = search rules;
      bytes = strip_bom c.args.bytes.now;
      known = c.from_reader.ensures.source;
      text = text_after_mark c.args.bytes.now c.requires.text;
      few = omega (arith, c.requires.few, shorter);
      between = ap ends_at_end c.from_reader.ensures.state;
    }
