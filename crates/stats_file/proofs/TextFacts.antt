-- The code writes the text of a file part by part. The parts together are the text that `file_text` gives.
use Rattle.std.proofs.Common.{◌≡◌, ℕ, List, [], ◌∷◌, ◌++◌, map, refl, ap, sym, ◌∙◌, append_assoc, Some}
use Rattle.std.specs.Prelude.{codes, slice_get}
use Rattle.std.specs.List.{concat, flat_map}
use Rattle.schema_types.specs.declared.types.Table.{Table}
use Rattle.schema_types.specs.declared.types.Schema.{Schema}
use Rattle.stats_file.specs.declared.types.PairStats.{PairStats}
use Rattle.stats_file.specs.declared.types.TableStats.{TableStats}
use Rattle.stats_file.specs.declared.types.StatsFile.{StatsFile}
use Rattle.stats_file.specs.FileText.{file_lines, file_text, name_at, histogram_node_line, pair_lines, section_lines, table_lines, value_line}
use Rattle.stats_file.specs.Lines.{cut_line, end_line, first_line, list_line, pair_line, table_line}
use Rattle.stats_file.specs.Runs.{runs_of}

concat-append : (a b : List (List ℕ)) → concat (a ++ b) ≡ concat a ++ concat b
concat-append [] b = refl
concat-append (x ∷ a) b = ap (λ rest. x ++ rest) (concat-append a b) ∙ sym (append_assoc x (concat a) (concat b))

concat-map : {X : Type 0} (f : X → List ℕ) (xs : List X) → concat (map f xs) ≡ flat_map f xs
concat-map f [] = refl
concat-map f (x ∷ xs) = ap (λ rest. f x ++ rest) (concat-map f xs)

concat-each : {X : Type 0} (f : X → List (List ℕ)) (xs : List X) → concat (flat_map f xs) ≡ flat_map (λ x. concat (f x)) xs
concat-each f [] = refl
concat-each f (x ∷ xs) = concat-append (f x) (flat_map f xs) ∙ ap (λ rest. concat (f x) ++ rest) (concat-each f xs)

-- the cuts and nodes of a pair, with which the pair's text ends
abbrev pub histogram_part : PairStats → List ℕ
histogram_part pair = flat_map cut_line pair.cuts ++ flat_map histogram_node_line pair.nodes

histogram_is : (pair : PairStats) → concat (map cut_line pair.cuts ++ map histogram_node_line pair.nodes) ≡ histogram_part pair
histogram_is pair = concat-append (map cut_line pair.cuts) (map histogram_node_line pair.nodes)
    ∙ ap (λ rest. rest ++ concat (map histogram_node_line pair.nodes)) (concat-map cut_line pair.cuts)
    ∙ ap (λ rest. flat_map cut_line pair.cuts ++ rest) (concat-map histogram_node_line pair.nodes)

pub pair_text_is : (table : Table) (pair : PairStats) → concat (pair_lines table pair)
    ≡ pair_line (name_at table pair.filter) (name_at table pair.joined) ++ (list_line (codes "whole") (runs_of pair.whole)
    ++ (flat_map value_line pair.frequent ++ (list_line (codes "rest") (runs_of pair.rest) ++ histogram_part pair)))
unfolding pair_lines
pair_text_is table pair =
    let tree = map cut_line pair.cuts ++ map histogram_node_line pair.nodes in
    let rest = list_line (codes "rest") (runs_of pair.rest) in
    ap (λ x. pair_line (name_at table pair.filter) (name_at table pair.joined) ++ (list_line (codes "whole") (runs_of pair.whole) ++ x))
    (concat-append (map value_line pair.frequent) (rest ∷ tree)
    ∙ ap (λ x. x ++ (rest ++ concat tree)) (concat-map value_line pair.frequent)
    ∙ ap (λ x. flat_map value_line pair.frequent ++ (rest ++ x)) (histogram_is pair))

abbrev pub pair_part : Table → PairStats → List ℕ
pair_part table pair = concat (pair_lines table pair)

pub section_text_is : (schema : Schema) (section : TableStats) (table : Table) → slice_get schema.tables section.table ≡ Some table
    → concat (section_lines schema section) ≡ table_line table.name section.rows ++ flat_map (pair_part table) section.pairs
unfolding table_lines
section_text_is schema section table is =
    ap (λ found. concat (table_lines found section)) is
    ∙ ap (λ rest. table_line table.name section.rows ++ rest) (concat-each (pair_lines table) section.pairs)

abbrev pub section_part : Schema → TableStats → List ℕ
section_part schema section = concat (section_lines schema section)

pub file_text_is : (schema : Schema) (file : StatsFile) → file_text schema file ≡ first_line file.accuracy ++ (flat_map (section_part schema) file.tables ++ end_line)
unfolding file_lines
file_text_is schema file =
    ap (λ rest. first_line file.accuracy ++ rest)
    (concat-append (flat_map (section_lines schema) file.tables) (end_line ∷ [])
    ∙ ap (λ x. x ++ end_line) (concat-each (section_lines schema) file.tables))
