use Rattle.std.proofs.Common.{◌≡◌, ◌≤◌, ◌<◌, ℕ, List, [], ◌∷◌, drop, length, take, get_or, ap, sym, ◌∙◌, subst, arith}
use Rattle.std.specs.List.{AllByRecursion}
use Rattle.std.proofs.lemmas.List.{length-take-le, take_at}
use Rattle.base_io.proofs.WriteFacts.{put_equal_text}
use Rattle.printed_texts.specs.Lines.{choice_text, IsChoice}
use Rattle.sql_meaning.specs.Tables.{tables_of}
use Rattle.joined_texts.specs.JoinedRows.{choice_record, joined_choices}
use Rattle.joined_texts.proofs.Placing.{is_choice, text_is}
use Rattle.joined_texts.proofs.rows.put_row.Goals as goal

abbrev zeros : List ℕ
zeros = 0 ∷ 0 ∷ 0 ∷ 0 ∷ 0 ∷ 0 ∷ 0 ∷ 0 ∷ 0 ∷ 0 ∷ 0 ∷ 0 ∷ []

pub read-requires-clause-places : goal.read-requires-clause-places
read-requires-clause-places g c =
    let size : ℕ = c.len-size.result in
    let few : size ≤ 12 = omega (arith, c.len-size.ensures, c.requires.listed.database.few) in
    let short : length (take size zeros) ≡ length c.args.query.now.from = length-take-le size zeros few ∙ c.len-size.ensures in
    subst (λ (n : ℕ). AllByRecursion (λ entry. entry < n) (joined_choices c.args.listed.now).entries) (sym short) c.requires.listed.entries.entries

pub put_line-requires-clause-line : goal.put_line-requires-clause-line
put_line-requires-clause-line g c =
    let query = c.args.query.now in
    let db = c.args.db.now in
    let it = joined_choices c.args.listed.now in
    let size : ℕ = c.len-size.result in
    let few : size ≤ 12 = omega (arith, c.len-size.ensures, c.requires.listed.database.few) in
    let lengths : length c.read.new.rows ≡ size = c.read.auto.rows ∙ length-take-le size zeros few in
    subst (IsChoice db) (sym (take_at c.read.new.rows (drop size zeros) size lengths ∙ c.read.ensures))
    (is_choice query db c.requires.listed.database it.entries c.requires.listed.entries (get_or it.rows c.args.i []) (take size zeros) (c.requires.listed.whole c.args.i [] c.requires.row)
    (length-take-le size zeros few ∙ c.len-size.ensures))

pub returns : goal.returns
returns g c =
    let query = c.args.query.now in
    let db = c.args.db.now in
    let it = joined_choices c.args.listed.now in
    let size : ℕ = c.len-size.result in
    let few : size ≤ 12 = omega (arith, c.len-size.ensures, c.requires.listed.database.few) in
    let lengths : length c.read.new.rows ≡ size = c.read.auto.rows ∙ length-take-le size zeros few in
    put_equal_text (choice_record query db it.entries (get_or it.rows c.args.i []))
    (ap (choice_text query.select (tables_of db)) (take_at c.read.new.rows (drop size zeros) size lengths ∙ c.read.ensures)
    ∙ text_is query db c.requires.listed.database it.entries c.requires.listed.entries (get_or it.rows c.args.i []) (take size zeros) (c.requires.listed.whole c.args.i [] c.requires.row)
    (length-take-le size zeros few ∙ c.len-size.ensures))
    (rw c.as_slice-outs.ensures at c.put_line.ensures)
