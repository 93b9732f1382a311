-- The whole text is the header and the records of all listed choices.
use Rattle.std.proofs.Common.{◌≡◌, ℕ, List, ◌++◌, ap, sym, ◌∙◌}
use Rattle.std.specs.List.{flat_map}
use Rattle.std.proofs.lemmas.List.Folds.{flat_map-map}
use Rattle.csv_tables.specs.declared.types.Database.{Database}
use Rattle.query_types.specs.declared.types.Out.{Out}
use Rattle.query_types.specs.declared.types.Query.{Query}
use Rattle.printed_texts.specs.Texts.{header_text, row_text, rows_lines}
use Rattle.joined_texts.specs.JoinedRows.{choice_record}
use Rattle.joined_texts.specs.Printed.{selected_in, selected_rows}

pub whole_text : (query : Query) (db : Database) (entries : List ℕ) (rows : List (List ℕ)) (outs : List Out) → outs ≡ query.select
    → header_text outs ++ flat_map (choice_record query db entries) rows ≡ rows_lines query.select (selected_rows query db entries rows)
whole_text query db entries rows outs same =
    ap (λ (o : List Out). header_text o ++ flat_map (choice_record query db entries) rows) same
    ∙ ap (λ (rest : List ℕ). header_text query.select ++ rest) (sym (flat_map-map row_text (selected_in query db entries) rows))
