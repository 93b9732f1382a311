use Rattle.std.proofs.Common.{List, ap, arith}
use Rattle.base_io.proofs.WriteFacts.{wrote_equal_text}
use Rattle.csv_tables.specs.Rows.{Row}
use Rattle.printed_texts.specs.Texts.{rows_lines}
use Rattle.prepared_runs.proofs.RootFacts.{root_order, root_printed, root_whole}
use Rattle.safebound_top.proofs.texts.write_joined.Goals as goal

pub write_rows-requires : goal.write_rows-requires
write_rows-requires g c =
    let query = c.args.query.now in
    let db = c.args.db.now in
    let lists = c.requires.joined.0 in
    let is = c.requires.joined.1 in
    let shape = is.plan_of.for_each_entry in
    record {
      database = c.requires.database;
      nodes = omega (arith, is.count, shape.scans, shape.joins);
      entries = root_order query db _ shape lists c.requires.database is.rows c.args.joined.now.done.nodes is.entries is.choices;
      choices = root_whole query db _ shape lists c.requires.database is.rows c.args.joined.now.done.nodes is.entries is.choices;
    }

pub returns : goal.returns
returns g c =
    let query = c.args.query.now in
    let db = c.args.db.now in
    let is = c.requires.joined.1 in
    wrote_equal_text _ (ap (λ (rows : List Row). rows_lines query.select rows)
    (root_printed query db _ is.plan_of.for_each_entry c.requires.joined.0 c.requires.database is.rows c.args.joined.now.done.nodes is.entries is.choices))
    c.write_rows.ensures
