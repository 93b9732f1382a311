use Rattle.std.proofs.Common.{drop, ◌≡◌, ◌∙◌, sym, ap, length, List, rules, ◌∷◌, ℕ}
use Rattle.std.proofs.lemmas.Result.{err_from_is_err_and}
use Rattle.csv.specs.Reading.{strip_bom}
use Rattle.csv.specs.Records.{fields_of}
use Rattle.csv_tables.specs.Files.{rows_under_header}
use Rattle.csv_tables.specs.Header.{column_places}
use Rattle.csv_tables.specs.Records.{unread_records, records_of}
use Rattle.csv_tables.specs.Rows.{rows_of_records}
use Rattle.csv_tables.proofs.FileFacts.{no_places, no_records, refuses_so, under_places}
use Rattle.plain_records.specs.Plain.{plain_records}
use Rattle.csv_tables.proofs.PlainFacts.{rest_is}
use Rattle.csv_tables.proofs.table.read_columns.Goals as goal

pub returns-then-not-branch-clause-refused : goal.returns-then-not-branch-clause-refused
returns-then-not-branch-clause-refused c =
    no_records c.args.columns.now (records_of (strip_bom c.args.bytes.now)) c.requires.some
    (sym c.open_records-reader.ensures.all_records ∙ c.in_ok-next_record.ensures.end c.if-not-branch.true)

pub returns-in_err-places-clause-refused : goal.returns-in_err-places-clause-refused
returns-in_err-places-clause-refused c =
    let header = fields_of c.next_record.new.row in
    let records : records_of (strip_bom c.args.bytes.now) ≡ header ∷ unread_records c.next_record.new.reader =
    sym c.open_records-reader.ensures.all_records ∙ c.in_ok-next_record.ensures.more c.if-not-branch.false in
    let p = err_from_is_err_and c.from_residual-in_err-places.result c.from_residual-in_err-places.ensures.1 in
    rw (p.1, p.2) (refuses_so (column_places 0 c.args.columns.now header) _ (λ e bad. no_places c.args.columns.now _ _ header records e bad) c.in_err-places.field-0.0 c.in_err-places.ensures.refused)

pub returns-clause-ok : goal.returns-clause-ok
returns-clause-ok c =
    let header = fields_of c.next_record.new.row in
    let rest = unread_records c.next_record.new.reader in
    let records : records_of (strip_bom c.args.bytes.now) ≡ header ∷ rest = sym c.open_records-reader.ensures.all_records ∙ c.in_ok-next_record.ensures.more c.if-not-branch.false in
    let width : length header ≡ c.len-width.result = search rules in
    let same : rows_under_header c.args.columns.now (records_of (strip_bom c.args.bytes.now)) ≡ rows_of_records c.args.columns.now c.deref-2.result.now c.len-width.result 1 rest =
    under_places c.args.columns.now _ rest header c.in_ok-places.places.items records c.in_ok-places.ensures.ok
    ∙ ap (λ (ps : List ℕ). rows_of_records c.args.columns.now ps (length header) 1 rest) (sym c.deref-2.ensures.value)
    ∙ ap (λ (w : ℕ). rows_of_records c.args.columns.now c.deref-2.result.now w 1 rest) width in
    rw same c.read_rows.ensures.ok

pub returns-clause-refused : goal.returns-clause-refused
returns-clause-refused c =
    let header = fields_of c.next_record.new.row in
    let rest = unread_records c.next_record.new.reader in
    let records : records_of (strip_bom c.args.bytes.now) ≡ header ∷ rest = sym c.open_records-reader.ensures.all_records ∙ c.in_ok-next_record.ensures.more c.if-not-branch.false in
    let width : length header ≡ c.len-width.result = search rules in
    let same : rows_under_header c.args.columns.now (records_of (strip_bom c.args.bytes.now)) ≡ rows_of_records c.args.columns.now c.deref-2.result.now c.len-width.result 1 rest =
    under_places c.args.columns.now _ rest header c.in_ok-places.places.items records c.in_ok-places.ensures.ok
    ∙ ap (λ (ps : List ℕ). rows_of_records c.args.columns.now ps (length header) 1 rest) (sym c.deref-2.ensures.value)
    ∙ ap (λ (w : ℕ). rows_of_records c.args.columns.now c.deref-2.result.now w 1 rest) width in
    rw same c.read_rows.ensures.refused

pub returns-in-Some-clause-ok : goal.returns-in-Some-clause-ok
returns-in-Some-clause-ok c =
    let header = fields_of c.next_record.new.row in
    let rest = unread_records c.next_record.new.reader in
    let start = c.offset_after_header-start.result in
    let records : records_of (strip_bom c.args.bytes.now) ≡ header ∷ rest = sym c.open_records-reader.ensures.all_records ∙ c.in_ok-next_record.ensures.more c.if-not-branch.false in
    let width : length header ≡ c.len-width.result = search rules in
    let same : rows_under_header c.args.columns.now (records_of (strip_bom c.args.bytes.now)) ≡ rows_of_records c.args.columns.now c.deref.result.now c.len-width.result 1 (plain_records (drop start c.args.bytes.now)) =
    under_places c.args.columns.now _ rest header c.in_ok-places.places.items records c.in_ok-places.ensures.ok
    ∙ ap (λ (ps : List ℕ). rows_of_records c.args.columns.now ps (length header) 1 rest) (sym c.deref.ensures.value)
    ∙ ap (λ (w : ℕ). rows_of_records c.args.columns.now c.deref.result.now w 1 rest) width
    ∙ ap (rows_of_records c.args.columns.now c.deref.result.now c.len-width.result 1)
    (sym (rest_is c.args.bytes.now start header rest c.in-Some.ensures records c.offset_after_header-start.ensures.records)) in
    rw same c.read_plain_rows.ensures.ok

pub returns-in-Some-clause-refused : goal.returns-in-Some-clause-refused
returns-in-Some-clause-refused c =
    let header = fields_of c.next_record.new.row in
    let rest = unread_records c.next_record.new.reader in
    let start = c.offset_after_header-start.result in
    let records : records_of (strip_bom c.args.bytes.now) ≡ header ∷ rest = sym c.open_records-reader.ensures.all_records ∙ c.in_ok-next_record.ensures.more c.if-not-branch.false in
    let width : length header ≡ c.len-width.result = search rules in
    let same : rows_under_header c.args.columns.now (records_of (strip_bom c.args.bytes.now)) ≡ rows_of_records c.args.columns.now c.deref.result.now c.len-width.result 1 (plain_records (drop start c.args.bytes.now)) =
    under_places c.args.columns.now _ rest header c.in_ok-places.places.items records c.in_ok-places.ensures.ok
    ∙ ap (λ (ps : List ℕ). rows_of_records c.args.columns.now ps (length header) 1 rest) (sym c.deref.ensures.value)
    ∙ ap (λ (w : ℕ). rows_of_records c.args.columns.now c.deref.result.now w 1 rest) width
    ∙ ap (rows_of_records c.args.columns.now c.deref.result.now c.len-width.result 1)
    (sym (rest_is c.args.bytes.now start header rest c.in-Some.ensures records c.offset_after_header-start.ensures.records)) in
    rw same c.read_plain_rows.ensures.refused
