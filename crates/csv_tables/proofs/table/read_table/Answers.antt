use Rattle.std.proofs.Common.{◌≡◌, ◌∙◌, ap, subst, List, ℕ, Ok}
use Rattle.std.proofs.lemmas.Result.{err_from_is_err_and}
use Rattle.csv.specs.Reading.{strip_bom}
use Rattle.schema_types.specs.declared.types.Column.{Column}
use Rattle.csv_tables.specs.Cells.{rows_of_columns}
use Rattle.csv_tables.specs.Files.{rows_under_header}
use Rattle.csv_tables.specs.Keys.{rows_with_keys}
use Rattle.csv_tables.specs.Reads.{kinds_of, HoldsColumns}
use Rattle.csv_tables.specs.Records.{records_of}
use Rattle.csv_tables.specs.Refused.{IsRefusalOrNoMemory}
use Rattle.csv_tables.proofs.FileFacts.{no_rows, no_text, refuses_so, with_keys}
use Rattle.csv_tables.proofs.table.read_table.Goals as goal

pub returns-in_err-check_text-clause-refused : goal.returns-in_err-check_text-clause-refused
returns-in_err-check_text-clause-refused c =
    let p = err_from_is_err_and c.from_residual.result c.from_residual.ensures.1 in
    rw (p.1, p.2, c.in_err-check_text.ensures.at) (no_text c.args.table.now c.args.bytes.now c.in_err-check_text.ensures.other)

pub returns-in_err-found-clause-refused : goal.returns-in_err-found-clause-refused
returns-in_err-found-clause-refused c =
    let p = err_from_is_err_and c.from_residual-in_err-found.result c.from_residual-in_err-found.ensures.1 in
    let refused : IsRefusalOrNoMemory (rows_under_header c.args.table.now.columns (records_of (strip_bom c.args.bytes.now))) c.in_err-found.field-0.0 =
    subst (λ (cs : List Column). IsRefusalOrNoMemory (rows_under_header cs (records_of (strip_bom c.args.bytes.now))) c.in_err-found.field-0.0) c.as_slice-columns.ensures c.in_err-found.ensures.refused in
    rw (p.1, p.2) (refuses_so _ _ (no_rows c.args.table.now c.args.bytes.now c.in_ok-check_text.ensures.ok) c.in_err-found.field-0.0 refused)

pub returns-in_err-check_keys-clause-refused : goal.returns-in_err-check_keys-clause-refused
returns-in_err-check_keys-clause-refused c =
    let p = err_from_is_err_and c.from_residual-in_err-check_keys.result c.from_residual-in_err-check_keys.ensures.1 in
    let table = c.args.table.now in
    let columns = c.in_ok-found.found.items in
    let pool = c.read_columns.new.pool in
    let holds : HoldsColumns (rows_under_header table.columns (records_of (strip_bom c.args.bytes.now))) pool (kinds_of table.columns) columns c.in_ok-found.rows =
    subst (λ (cs : List Column). HoldsColumns (rows_under_header cs (records_of (strip_bom c.args.bytes.now))) pool (kinds_of cs) columns c.in_ok-found.rows) c.as_slice-columns.ensures c.in_ok-found.ensures.ok in
    let refused : IsRefusalOrNoMemory (rows_with_keys table.keys (rows_of_columns pool (kinds_of table.columns) columns c.in_ok-found.rows)) c.in_err-check_keys.field-0.0 =
    subst (λ (found : List (List ℕ)). IsRefusalOrNoMemory (rows_with_keys table.keys (rows_of_columns pool (kinds_of table.columns) found c.in_ok-found.rows)) c.in_err-check_keys.field-0.0) c.deref.ensures.value c.in_err-check_keys.ensures.refused in
    rw (p.1, p.2) (refuses_so _ _ (λ e bad. with_keys table c.args.bytes.now pool columns c.in_ok-found.rows c.in_ok-check_text.ensures.ok holds ∙ bad) c.in_err-check_keys.field-0.0 refused)

pub returns-clause-rows : goal.returns-clause-rows
returns-clause-rows c =
    let table = c.args.table.now in
    let columns = c.in_ok-found.found.items in
    let pool = c.read_columns.new.pool in
    let holds : HoldsColumns (rows_under_header table.columns (records_of (strip_bom c.args.bytes.now))) pool (kinds_of table.columns) columns c.in_ok-found.rows =
    subst (λ (cs : List Column). HoldsColumns (rows_under_header cs (records_of (strip_bom c.args.bytes.now))) pool (kinds_of cs) columns c.in_ok-found.rows) c.as_slice-columns.ensures c.in_ok-found.ensures.ok in
    let good : rows_with_keys table.keys (rows_of_columns pool (kinds_of table.columns) columns c.in_ok-found.rows) ≡ Ok (rows_of_columns pool (kinds_of table.columns) columns c.in_ok-found.rows) =
    subst (λ (found : List (List ℕ)). rows_with_keys table.keys (rows_of_columns pool (kinds_of table.columns) found c.in_ok-found.rows) ≡ Ok (rows_of_columns pool (kinds_of table.columns) found c.in_ok-found.rows)) c.deref.ensures.value c.in_ok-check_keys.ensures.ok in
    let kinds : c.in_ok-kinds.field-0 ≡ kinds_of table.columns = c.in_ok-kinds.ensures ∙ ap kinds_of c.as_slice-columns.ensures in
    rw (kinds, c.from_vec.ensures) (with_keys table c.args.bytes.now pool columns c.in_ok-found.rows c.in_ok-check_text.ensures.ok holds ∙ good)
