use Rattle.std.proofs.Common.{◌≡◌, ◌∙◌, ◌<◌, ℕ, List, ap, arith, get_or, length, map, sym, subst}
use Rattle.std.specs.List.{All}
use Rattle.std.proofs.lemmas.Result.{err_from_is_err_and}
use Rattle.query_types.specs.declared.types.Source.{Source}
use Rattle.table_files.specs.Stage.{numbers_of, index_of, tables_of_query}
use Rattle.table_files.proofs.DatabaseOfQuery.{at_most_twelve_tables, table_numbers_within}
use Rattle.table_files.proofs.EntryRows.{each_count}
use Rattle.table_files.proofs.SameTables.{first_place, same_tables, some_slot}
use Rattle.table_files.proofs.StageFacts.{found_cells, found_database, found_files, database_of, stage_read, stage_stops}
use Rattle.table_files.proofs.stage.read_tables.Goals as goal

pub slots-requires : goal.slots-requires
slots-requires g c =
    let named : c.as_slice.result.now ≡ tables_of_query c.args.query.now.from = c.as_slice.ensures ∙ c.in-Ok.ensures ∙ ap tables_of_query c.as_slice-from.ensures in
    omega (arith, ap length named, at_most_twelve_tables c.args.schema.now c.args.query.now c.requires.query)

pub read_each-requires-clause-numbers : goal.read_each-requires-clause-numbers
read_each-requires-clause-numbers g c =
    let named : c.as_slice-2.result.now ≡ tables_of_query c.args.query.now.from = c.as_slice-2.ensures ∙ c.in-Ok.ensures ∙ ap tables_of_query c.as_slice-from.ensures in
    subst (All (λ number. number < length c.args.schema.now.tables)) (sym named) (table_numbers_within c.args.schema.now c.args.query.now c.requires.query)

pub read_each-requires-clause-few : goal.read_each-requires-clause-few
read_each-requires-clause-few g c =
    let named : c.as_slice-2.result.now ≡ tables_of_query c.args.query.now.from = c.as_slice-2.ensures ∙ c.in-Ok.ensures ∙ ap tables_of_query c.as_slice-from.ensures in
    omega (arith, ap length named, at_most_twelve_tables c.args.schema.now c.args.query.now c.requires.query)

pub returns-in_err-cells-clause-reads : goal.returns-in_err-cells-clause-reads
returns-in_err-cells-clause-reads g c =
    let named : c.as_slice-2.result.now ≡ tables_of_query c.args.query.now.from = c.as_slice-2.ensures ∙ c.in-Ok.ensures ∙ ap tables_of_query c.as_slice-from.ensures in
    let p = err_from_is_err_and c.from_residual.result c.from_residual.ensures.1 in
    rw (p.1, p.2) (stage_stops c.args.schema.now c.args.query.now.from _ c.as_slice-2.result.now c.in_err-cells.field-0.0 named c.in_err-cells.ensures.reads)

pub returns-clause-database : goal.returns-clause-database
returns-clause-database g c =
    let named : c.as_slice-2.result.now ≡ tables_of_query c.args.query.now.from = c.as_slice-2.ensures ∙ c.in-Ok.ensures ∙ ap tables_of_query c.as_slice-from.ensures in
    let placed : c.in-Ok-slots.slots ≡ map (index_of c.as_slice-2.result.now) (numbers_of c.args.query.now.from) =
    c.in-Ok-slots.ensures ∙ ap (λ (l : List ℕ). map (index_of l) (numbers_of c.as_slice-from.result.now)) (c.as_slice.ensures ∙ sym c.as_slice-2.ensures)
    ∙ ap (λ (f : List Source). map (index_of c.as_slice-2.result.now) (numbers_of f)) c.as_slice-from.ensures in
    found_database c.args.schema.now c.args.query.now c.read_each.new.pool c.in_ok-cells.cells c.in-Ok-slots.slots c.as_slice-2.result.now named placed c.requires.query c.in_ok-cells.ensures.cells c.in_ok-cells.ensures.few_rows

pub returns-clause-cells : goal.returns-clause-cells
returns-clause-cells g c =
    let named : c.as_slice-2.result.now ≡ tables_of_query c.args.query.now.from = c.as_slice-2.ensures ∙ c.in-Ok.ensures ∙ ap tables_of_query c.as_slice-from.ensures in
    let placed : c.in-Ok-slots.slots ≡ map (index_of c.as_slice-2.result.now) (numbers_of c.args.query.now.from) =
    c.in-Ok-slots.ensures ∙ ap (λ (l : List ℕ). map (index_of l) (numbers_of c.as_slice-from.result.now)) (c.as_slice.ensures ∙ sym c.as_slice-2.ensures)
    ∙ ap (λ (f : List Source). map (index_of c.as_slice-2.result.now) (numbers_of f)) c.as_slice-from.ensures in
    found_cells c.args.schema.now c.args.query.now.from c.read_each.new.pool c.in_ok-cells.cells c.in-Ok-slots.slots c.as_slice-2.result.now named placed c.in_ok-cells.ensures.cells

pub returns-clause-files : goal.returns-clause-files
returns-clause-files g c =
    let named : c.as_slice-2.result.now ≡ tables_of_query c.args.query.now.from = c.as_slice-2.ensures ∙ c.in-Ok.ensures ∙ ap tables_of_query c.as_slice-from.ensures in
    let placed : c.in-Ok-slots.slots ≡ map (index_of c.as_slice-2.result.now) (numbers_of c.args.query.now.from) =
    c.in-Ok-slots.ensures ∙ ap (λ (l : List ℕ). map (index_of l) (numbers_of c.as_slice-from.result.now)) (c.as_slice.ensures ∙ sym c.as_slice-2.ensures)
    ∙ ap (λ (f : List Source). map (index_of c.as_slice-2.result.now) (numbers_of f)) c.as_slice-from.ensures in
    found_files c.args.schema.now c.args.query.now.from c.read_each.new.pool c.in_ok-cells.cells c.in-Ok-slots.slots c.as_slice-2.result.now named placed c.in_ok-cells.ensures.files

pub returns-clause-reads : goal.returns-clause-reads
returns-clause-reads g c =
    let named : c.as_slice-2.result.now ≡ tables_of_query c.args.query.now.from = c.as_slice-2.ensures ∙ c.in-Ok.ensures ∙ ap tables_of_query c.as_slice-from.ensures in
    let placed : c.in-Ok-slots.slots ≡ map (index_of c.as_slice-2.result.now) (numbers_of c.args.query.now.from) =
    c.in-Ok-slots.ensures ∙ ap (λ (l : List ℕ). map (index_of l) (numbers_of c.as_slice-from.result.now)) (c.as_slice.ensures ∙ sym c.as_slice-2.ensures)
    ∙ ap (λ (f : List Source). map (index_of c.as_slice-2.result.now) (numbers_of f)) c.as_slice-from.ensures in
    stage_read c.args.schema.now c.args.query.now.from c.read_each.new.pool c.in_ok-cells.cells c.in-Ok-slots.slots c.as_slice-2.result.now named placed _ c.in_ok-cells.ensures.reads

pub returns-clause-once : goal.returns-clause-once
returns-clause-once g c =
    let named : c.as_slice-2.result.now ≡ tables_of_query c.args.query.now.from = c.as_slice-2.ensures ∙ c.in-Ok.ensures ∙ ap tables_of_query c.as_slice-from.ensures in
    each_count c.args.schema.now c.read_each.new.pool c.as_slice-2.result.now c.in_ok-cells.cells c.in_ok-cells.ensures.cells ∙ ap length named

pub returns-clause-tables : goal.returns-clause-tables
returns-clause-tables g c =
    let named : c.as_slice-2.result.now ≡ tables_of_query c.args.query.now.from = c.as_slice-2.ensures ∙ c.in-Ok.ensures ∙ ap tables_of_query c.as_slice-from.ensures in
    let placed : c.in-Ok-slots.slots ≡ map (index_of c.as_slice-2.result.now) (numbers_of c.args.query.now.from) =
    c.in-Ok-slots.ensures ∙ ap (λ (l : List ℕ). map (index_of l) (numbers_of c.as_slice-from.result.now)) (c.as_slice.ensures ∙ sym c.as_slice-2.ensures)
    ∙ ap (λ (f : List Source). map (index_of c.as_slice-2.result.now) (numbers_of f)) c.as_slice-from.ensures in
    let there : c.in-Ok-slots.slots ≡ map (index_of (tables_of_query c.args.query.now.from)) (numbers_of c.args.query.now.from) =
    placed ∙ ap (λ (l : List ℕ). map (index_of l) (numbers_of c.args.query.now.from)) named in
    same_tables (database_of c.read_each.new.pool c.in_ok-cells.cells c.in-Ok-slots.slots) (some_slot c.args.query.now.from c.in-Ok-slots.slots there c.requires.query.has_entries)
    (ap (λ (slots : List ℕ). get_or slots 0 0) there ∙ first_place c.args.query.now.from)
