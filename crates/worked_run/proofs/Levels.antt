-- The levels of the order, the root of the tree, and the texts of both plans, proved by computation.
use Rattle.std.proofs.Common.{◌≡◌, ℕ, Bool, true, not, ◌&&◌, ◌||◌, List, [], ◌∷◌, Option, None, Some, length, map, refl, ap, ◌∙◌}
use Rattle.std.specs.Fmt.{digits}
use Rattle.std.specs.Prelude.{codes}
use Rattle.std.proofs.lemmas.List.Elements.{filter_agree}
use Rattle.entry_sets.specs.Naming.{are_within}
use Rattle.query_grammar.specs.declared.tree.Op.TheVariants as op
use Rattle.join_graph.specs.Conjuncts.{column_operand}
use Rattle.sql_meaning.specs.Answers.{conjuncts_of, selected}
use Rattle.sql_meaning.specs.Choices.{all_rows, choices}
use Rattle.sql_meaning.specs.Conditions.{comparison_holds}
use Rattle.sql_meaning.specs.Levels.{all_hold, passes_own, row_in, scan}
use Rattle.sql_meaning.specs.Tables.{Tables, row_counts}
use Rattle.sql_meaning.proofs.ConditionFacts.{holds_compare}
use Rattle.join_steps.specs.Lists.{list_at, list_levels, scans_of}
use Rattle.bushy_join.specs.Trees.{chosen_rows}
use Rattle.query_bounds.specs.Examples.{two_table_query}
use Rattle.printed_texts.specs.Texts.{rows_lines}
use Rattle.table_files.specs.EntryTables.{tables_in}
use Rattle.prepared_runs.specs.AcceptedQuery.{part_counts}
use Rattle.prepared_runs.specs.Shapes.{shape_audits}
use Rattle.safebound_words.specs.declared.command.Shape.TheVariants as shapes
use Rattle.prepared_runs.specs.Sources.{lists_by}
use Rattle.safebound_top.specs.Texts.{out_text_of, plan_text}
use Rattle.safebound_words.specs.declared.command.ListSource.TheVariants as sources
use Rattle.safebound_words.specs.declared.command.OutText.{OutText}
use Rattle.safebound_words.specs.declared.command.OutText.TheVariants as out_text
use Rattle.worked_run.specs.Meaning.{small_lists, small_rows, two_tables_run, two_tables_tree}
use Rattle.query_types.proofs.CondFacts.{entries_compare}

abbrev pub T : Tables
T = tables_in small_rows

-- the query's only conjunct holds, or one of its entries isn't among `placed`
abbrev pub conjunct_holds : List ℕ → (ℕ → ℕ) → Bool
conjunct_holds placed row_of = (not (are_within (0 ∷ 1 ∷ []) placed) || comparison_holds T row_of op.Eq (column_operand 0 0) (column_operand 1 0)) && true

pub holds_by_conjunct : (placed : List ℕ) (row_of : ℕ → ℕ) → all_hold (conjuncts_of two_table_query T) placed row_of ≡ conjunct_holds placed row_of
holds_by_conjunct placed row_of =
    rw (entries_compare op.Eq (column_operand 0 0) (column_operand 1 0), holds_compare T row_of op.Eq (column_operand 0 0) (column_operand 1 0)) refl

-- the conjunct names two entries, so each row of R passes the scan
first_scan : scan (conjuncts_of two_table_query T) (row_counts T) 0 ≡ 0 ∷ 1 ∷ 2 ∷ 3 ∷ 4 ∷ 5 ∷ []
first_scan = filter_agree (passes_own (conjuncts_of two_table_query T) 0) (λ row. true)
    (λ row. rw (entries_compare op.Eq (column_operand 0 0) (column_operand 1 0)) refl) (all_rows (row_counts T) 0)

second_scan : scan (conjuncts_of two_table_query T) (row_counts T) 1 ≡ 0 ∷ 1 ∷ 2 ∷ 3 ∷ 4 ∷ []
second_scan = filter_agree (passes_own (conjuncts_of two_table_query T) 1) (λ row. true)
    (λ row. rw (entries_compare op.Eq (column_operand 0 0) (column_operand 1 0)) refl) (all_rows (row_counts T) 1)

pub scans_found : scans_of two_table_query T ≡ small_lists
scans_found = ap (λ (rows : List ℕ). rows ∷ scan (conjuncts_of two_table_query T) (row_counts T) 1 ∷ []) first_scan
    ∙ ap (λ (rows : List ℕ). (0 ∷ 1 ∷ 2 ∷ 3 ∷ 4 ∷ 5 ∷ []) ∷ rows ∷ []) second_scan

pub lists_found : lists_by sources.Columns two_table_query T ≡ small_lists
unfolding lists_by
lists_found = scans_found

first_level : list_levels two_table_query T small_lists (1 ∷ 0 ∷ []) 1 ≡ (0 ∷ []) ∷ (1 ∷ []) ∷ (2 ∷ []) ∷ (3 ∷ []) ∷ (4 ∷ []) ∷ []
first_level = filter_agree (λ choice. all_hold (conjuncts_of two_table_query T) (1 ∷ []) (row_in (1 ∷ []) choice))
    (λ choice. conjunct_holds (1 ∷ []) (row_in (1 ∷ []) choice))
    (λ choice. holds_by_conjunct (1 ∷ []) (row_in (1 ∷ []) choice)) (choices (map (list_at small_lists) (1 ∷ [])))

second_level : list_levels two_table_query T small_lists (1 ∷ 0 ∷ []) 2
    ≡ (0 ∷ 0 ∷ []) ∷ (0 ∷ 1 ∷ []) ∷ (0 ∷ 2 ∷ []) ∷ (1 ∷ 0 ∷ []) ∷ (1 ∷ 1 ∷ []) ∷ (1 ∷ 2 ∷ []) ∷ []
second_level = filter_agree (λ choice. all_hold (conjuncts_of two_table_query T) (1 ∷ 0 ∷ []) (row_in (1 ∷ 0 ∷ []) choice))
    (λ choice. conjunct_holds (1 ∷ 0 ∷ []) (row_in (1 ∷ 0 ∷ []) choice))
    (λ choice. holds_by_conjunct (1 ∷ 0 ∷ []) (row_in (1 ∷ 0 ∷ []) choice)) (choices (map (list_at small_lists) (1 ∷ 0 ∷ [])))

pub notes_text : (out : OutText) → plan_text (two_tables_run out None) ≡ codes "scan R 6\nscan S 5\nlevel 1 S 5\nlevel 2 R 12\n"
unfolding digits
notes_text out = refl

pub limited_notes : plan_text (two_tables_run out_text.Rows (Some 531)) ≡ codes "scan R 6\nscan S 5\nlevel 1 S 5\nlevel 2 R 12\nmemory 531\n"
unfolding digits
limited_notes = refl

pub rows_printed : (memory : Option ℕ) → out_text_of (two_tables_run out_text.Rows memory) ≡ Some (codes "X\r\n1\r\n1\r\n1\r\n1\r\n1\r\n1\r\n")
unfolding digits
rows_printed memory = ap (λ (choices : List (List ℕ)). Some (rows_lines two_table_query.select (map (λ choice. selected two_table_query T (row_in (1 ∷ 0 ∷ []) choice)) choices))) second_level

counts : (out : OutText) → part_counts (two_tables_run out None) ≡ 5 ∷ 6 ∷ []
counts out = ap (λ (choices : List (List ℕ)). length choices ∷ length (list_levels two_table_query T small_lists (1 ∷ 0 ∷ []) 2) ∷ []) first_level
    ∙ ap (λ (choices : List (List ℕ)). 5 ∷ length choices ∷ []) second_level

pub audit_printed : out_text_of (two_tables_run out_text.Audit None) ≡ Some (codes "level 1 S 5 5\nlevel 2 R 12 6\n")
unfolding digits
audit_printed = ap (λ (rows : List ℕ). Some (shape_audits two_table_query.from shapes.Order (two_tables_run out_text.Audit None).plan rows)) (counts out_text.Audit)

-- ---- the rows of the tree's root

root_rows_are : chosen_rows two_table_query T small_lists (0 ∷ 1 ∷ []) ≡ (0 ∷ 0 ∷ []) ∷ (0 ∷ 1 ∷ []) ∷ (1 ∷ 0 ∷ []) ∷ (1 ∷ 1 ∷ []) ∷ (2 ∷ 0 ∷ []) ∷ (2 ∷ 1 ∷ []) ∷ []
root_rows_are = filter_agree (λ choice. all_hold (conjuncts_of two_table_query T) (0 ∷ 1 ∷ []) (row_in (0 ∷ 1 ∷ []) choice))
    (λ choice. conjunct_holds (0 ∷ 1 ∷ []) (row_in (0 ∷ 1 ∷ []) choice))
    (λ choice. holds_by_conjunct (0 ∷ 1 ∷ []) (row_in (0 ∷ 1 ∷ []) choice)) (choices (map (list_at small_lists) (0 ∷ 1 ∷ [])))

pub tree_notes : (out : OutText) → plan_text (two_tables_tree out None) ≡ codes "scan R 6\nscan S 5\nnode 2 0 1 12\n"
unfolding digits
tree_notes out = refl

tree_counts : (out : OutText) → part_counts (two_tables_tree out None) ≡ 6 ∷ []
tree_counts out = ap (λ (choices : List (List ℕ)). length choices ∷ []) root_rows_are

pub tree_audit : out_text_of (two_tables_tree out_text.Audit None) ≡ Some (codes "node 2 0 1 12 6\n")
unfolding digits
tree_audit = ap (λ (rows : List ℕ). Some (shape_audits two_table_query.from shapes.Tree (two_tables_tree out_text.Audit None).plan rows)) (tree_counts out_text.Audit)
