use Rattle.std.proofs.Common.{ℕ, [], ◌∷◌, ◌++◌, List, map, ap, sym, ◌∙◌, arith}
use Rattle.std.specs.List.{range_with_len}
use Rattle.std.proofs.lemmas.List.FromFn.{map-range_with_len_more}
use Rattle.sql_meaning.specs.Tables.{row_counts, tables_of}
use Rattle.planning.proofs.scans.table_sizes.Goals as goal

pub entries-preserved : goal.entries-preserved
entries-preserved c =
    let rows : ℕ → ℕ = row_counts (tables_of c.args.db.now) in
    let entry : ℕ = c.entries.entry in
    c.in_ok-push.ensures.items
    ∙ ap (λ (s : List ℕ). s ++ c.from.result ∷ []) c.entries.invariant
    ∙ ap (λ (n : ℕ). map rows (range_with_len 0 entry) ++ n ∷ []) (c.from.ensures ∙ c.rows_of_table.ensures)
    ∙ sym (map-range_with_len_more rows 0 entry entry (omega arith))
