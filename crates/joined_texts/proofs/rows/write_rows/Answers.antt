use Rattle.std.proofs.Common.{arith}
use Rattle.joined_texts.proofs.rows.write_rows.Goals as goal

pub write_listed-requires : goal.write_listed-requires
write_listed-requires g c = rw c.len.ensures (record {
  database = c.requires.database;
  entries = c.requires.entries;
  whole = c.requires.choices;
  there = omega (arith, c.requires.nodes, c.requires.database.some);
})

pub returns : goal.returns
returns g c = rw c.len.ensures at c.write_listed.ensures
