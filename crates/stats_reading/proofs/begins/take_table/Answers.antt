use Rattle.std.proofs.Common.{◌<◌, ◌≤◌, List, Some, length, arith, subst, sym}
use Rattle.std.specs.Prelude.{All, decimal}
use Rattle.stats_file.specs.declared.types.TableStats.{TableStats}
use Rattle.stats_words.specs.Words.{Spells}
use Rattle.stats_reading.proofs.PlaceFacts.{no_table, some_table, table_within}
use Rattle.stats_reading.proofs.begins.take_table.Goals as goal

pub returns-then-not-is_later_table : goal.returns-then-not-is_later_table
returns-then-not-is_later_table c =
    let i = c.in-Some.place in
    no_table c.args.schema.now c.args.draft.now c.args.name.now c.args.rows.now i c.requires.valid c.in-Some.ensures
    (λ all. let told = c.is_later_table.ensures.1 (subst (λ (ts : List TableStats). All (λ t. t.table < i) ts) (sym c.as_slice.ensures) all) in cc)

pub overflow_cast-place-2 : goal.overflow_cast-place-2
overflow_cast-place-2 c =
    let within : c.in-Some.place < length c.args.schema.now.tables = table_within c.args.schema.now c.args.name.now c.in-Some.place c.in-Some.ensures in
    omega arith

pub returns : goal.returns
returns c =
    let i = c.in-Some.place in
    some_table c.args.schema.now c.args.draft.now c.begin_table.new.draft c.args.name.now c.args.rows.now i c.in-Some-number.rows c.in-Some.ensures
    (subst (λ n. Spells decimal (λ m. m ≤ n) c.args.rows.now (Some c.in-Some-number.rows)) c.from.ensures c.in-Some-number.ensures)
    (subst (λ (ts : List TableStats). All (λ t. t.table < i) ts) c.as_slice.ensures (c.is_later_table.ensures.0 (cc))) c.begin_table.ensures
