use Rattle.std.proofs.Common.{◌≡◌, ◌∙◌, ◌<◌, ap, get_or, length, List, [], refl, ℕ}
use Rattle.std.proofs.lemmas.List.{get_or_default}
use Rattle.csv_tables.proofs.AscendFacts.{ascending_apart}
use Rattle.csv_tables.proofs.keys.has_ascending.Goals as goal

pub returns-then-ascends : goal.returns-then-ascends
returns-then-ascends c _ =
    let column : ℕ = get_or c.args.key.now c.columns.column-index 0 in
    let within : column < length c.args.columns.now = c.requires.key c.columns.column-index 0 c.columns-test.true in
    let is : c.as_slice.result.now ≡ get_or c.args.columns.now column [] =
    c.as_slice.ensures ∙ c.index-columns-column.is ∙ get_or_default c.args.columns.now column c.index-columns-column.result [] within in
    ascending_apart c.args.columns.now c.args.key.now c.as_slice.result.now c.columns.column-index column c.args.rows c.columns-test.true refl is
    (ap (λ (xs : List ℕ). length xs) is ∙ c.requires.heights column [] within) (c.ascends.ensures c.if-ascends.true)
