-- The first byte of a line (its tag) tells the kind of the line.
use Rattle.std.proofs.Common.{◌≡◌, ◌≢◌, ◌⊎◌, inl, inr, ℕ, List, [], ◌∷◌, ◌++◌, get_or, map, ap, sym, ◌∙◌, arith, append_assoc, Option, Some, None}
use Rattle.std.specs.Prelude.{slice_get}
use Rattle.std.specs.List.{flat_map}
use Rattle.schema_types.specs.declared.types.Schema.{Schema}
use Rattle.schema_types.specs.declared.types.Table.{Table}
use Rattle.stats_file.specs.declared.types.Datum.{Datum}
use Rattle.stats_file.specs.declared.types.PairStats.{PairStats}
use Rattle.stats_file.specs.declared.types.TableStats.{TableStats}
use Rattle.stats_file.specs.FileText.{name_at, histogram_node_line, pair_lines, section_lines, table_lines, value_line}
use Rattle.stats_file.specs.Lines.{cut_line, end_line, pair_line, table_line}
use Rattle.stats_reading.specs.Remaining.{frequent_lines, pairs_left, rest_line, tables_left, histogram_lines, whole_line}
use Rattle.stats_reading.proofs.AppendedLists.{first_line_of, FromMap}

abbrev pub tag : List ℕ → ℕ
tag line = get_or line 0 0

pub same_tag : (a b : List ℕ) → a ≡ b → tag a ≡ tag b
same_tag a b e = ap (λ (l : List ℕ). get_or l 0 0) e

-- ---- the lines of further tables

tables_tag : (schema : Schema) (tables : List TableStats) (line : List ℕ) (more : List (List ℕ)) → line ∷ more ≡ tables_left schema tables → (tag line ≡ 116) ⊎ (tag line ≡ 101)
unfolding table_lines
tables_tag schema [] line more e = let same : line ≡ end_line = cc in inr (same_tag line end_line same)
tables_tag schema (section ∷ rest) line more e = at (slice_get schema.tables section.table) e (λ f. tables_tag schema rest line more f)
  where
    at : (t : Option Table) → line ∷ more ≡ (table_lines t section ++ flat_map (section_lines schema) rest) ++ (end_line ∷ [])
        → (line ∷ more ≡ tables_left schema rest → (tag line ≡ 116) ⊎ (tag line ≡ 101)) → (tag line ≡ 116) ⊎ (tag line ≡ 101)
    at None f later = later f
    at (Some table) f later = let same : line ≡ table_line table.name section.rows = cc in inl (same_tag line (table_line table.name section.rows) same)

pub from_tables : (schema : Schema) (section : TableStats) (rest : List TableStats) (table : Table) (line : List ℕ) (more : List (List ℕ))
    → slice_get schema.tables section.table ≡ Some table → line ∷ more ≡ tables_left schema (section ∷ rest)
    → (line ≡ table_line table.name section.rows) × (more ≡ pairs_left schema table section.pairs rest)
unfolding table_lines
from_tables schema section rest table line more exists e =
    let opened : section_lines schema section ≡ table_line table.name section.rows ∷ flat_map (pair_lines table) section.pairs = ap (λ (t : Option Table). table_lines t section) exists in
    let whole : line ∷ more ≡ table_line table.name section.rows ∷ (flat_map (pair_lines table) section.pairs ++ tables_left schema rest) =
    e ∙ append_assoc (section_lines schema section) (flat_map (section_lines schema) rest) (end_line ∷ [])
    ∙ ap (λ (ls : List (List ℕ)). ls ++ tables_left schema rest) opened in
    (cc, cc)

pub to_tables : (schema : Schema) (section : TableStats) (rest : List TableStats) (table : Table) → slice_get schema.tables section.table ≡ Some table
    → table_line table.name section.rows ∷ pairs_left schema table section.pairs rest ≡ tables_left schema (section ∷ rest)
unfolding table_lines
to_tables schema section rest table exists =
    let opened : section_lines schema section ≡ table_line table.name section.rows ∷ flat_map (pair_lines table) section.pairs = ap (λ (t : Option Table). table_lines t section) exists in
    sym (append_assoc (section_lines schema section) (flat_map (section_lines schema) rest) (end_line ∷ [])
    ∙ ap (λ (ls : List (List ℕ)). ls ++ tables_left schema rest) opened)

-- ---- the lines of further pairs

-- the lines of a pair after the first, which names its columns
abbrev pub pair_rest : PairStats → List (List ℕ)
pair_rest pair = whole_line pair.whole ∷ frequent_lines pair.frequent pair.rest pair.cuts pair.nodes

pub pair_opened : (schema : Schema) (table : Table) (pair : PairStats) (rest : List PairStats) (tables : List TableStats)
    → pairs_left schema table (pair ∷ rest) tables ≡ pair_line (name_at table pair.filter) (name_at table pair.joined) ∷ (pair_rest pair ++ pairs_left schema table rest tables)
unfolding pair_lines
pair_opened schema table pair rest tables = append_assoc (pair_lines table pair) (flat_map (pair_lines table) rest) (tables_left schema tables)

pairs_tag : (schema : Schema) (table : Table) (pairs : List PairStats) (tables : List TableStats) (line : List ℕ) (more : List (List ℕ)) → line ∷ more ≡ pairs_left schema table pairs tables
    → (tag line ≡ 112) ⊎ ((tag line ≡ 116) ⊎ (tag line ≡ 101))
pairs_tag schema table [] tables line more e = inr (tables_tag schema tables line more e)
pairs_tag schema table (pair ∷ rest) tables line more e =
    let whole = e ∙ pair_opened schema table pair rest tables in
    let same : line ≡ pair_line (name_at table pair.filter) (name_at table pair.joined) = cc in
    inl (same_tag line (pair_line (name_at table pair.filter) (name_at table pair.joined)) same)

-- the line after a pair is neither a cut (tag 99) nor a node (tag 110)
pub after_pair : (schema : Schema) (table : Table) (pairs : List PairStats) (tables : List TableStats) (line : List ℕ) (more : List (List ℕ)) → line ∷ more ≡ pairs_left schema table pairs tables
    → (tag line ≢ 99) × (tag line ≢ 110)
after_pair schema table pairs tables line more e = at (pairs_tag schema table pairs tables line more e)
  where
    at : (tag line ≡ 112) ⊎ ((tag line ≡ 116) ⊎ (tag line ≡ 101)) → (tag line ≢ 99) × (tag line ≢ 110)
    at (inl is) = (λ f. absurd (omega arith), λ f. absurd (omega arith))
    at (inr (inl is)) = (λ f. absurd (omega arith), λ f. absurd (omega arith))
    at (inr (inr is)) = (λ f. absurd (omega arith), λ f. absurd (omega arith))

pub after_pairs : (schema : Schema) (tables : List TableStats) (line : List ℕ) (more : List (List ℕ)) → line ∷ more ≡ tables_left schema tables → tag line ≢ 112
after_pairs schema tables line more e = at (tables_tag schema tables line more e)
  where
    at : (tag line ≡ 116) ⊎ (tag line ≡ 101) → tag line ≢ 112
    at (inl is) = λ f. absurd (omega arith)
    at (inr is) = λ f. absurd (omega arith)

-- ---- the lines of a histogram

pub record TreeParts (cuts : List Datum) (nodes : List (List ℕ)) (line : List ℕ) (more after : List (List ℕ)) : Type 0 where
  pub cut : tag line ≡ 99 → FromMap cut_line cuts line more (map histogram_node_line nodes ++ after)
  pub node : tag line ≡ 110 → (cuts ≡ []) × FromMap histogram_node_line nodes line more after
  pub behind : tag line ≢ 99 → tag line ≢ 110 → (cuts ≡ []) × (nodes ≡ []) × (line ∷ more ≡ after)

pub tree_parts : (cuts : List Datum) (nodes : List (List ℕ)) (line : List ℕ) (more after : List (List ℕ)) → (line ∷ more ≡ after → (tag line ≢ 99) × (tag line ≢ 110))
    → line ∷ more ≡ histogram_lines cuts nodes ++ after → TreeParts cuts nodes line more after
tree_parts cuts nodes line more after other e =
    let whole = e ∙ append_assoc (map cut_line cuts) (map histogram_node_line nodes) after in
    by_cut (first_line_of cut_line cuts line more (map histogram_node_line nodes ++ after) whole)
  where
    by_node : cuts ≡ [] → FromMap histogram_node_line nodes line more after ⊎ ((nodes ≡ []) × (line ∷ more ≡ after)) → TreeParts cuts nodes line more after
    by_node none (inl f) =
        let is : tag line ≡ 110 = same_tag line (histogram_node_line f.head) f.line_is in
        record { cut = λ t. absurd (omega arith); node = λ t. (none, f); behind = λ a b. absurd (b is) }
    by_node none (inr (no_nodes, rest)) =
        let ne = other rest in
        record { cut = λ t. absurd (ne.0 t); node = λ t. absurd (ne.1 t); behind = λ a b. (none, no_nodes, rest) }

    by_cut : FromMap cut_line cuts line more (map histogram_node_line nodes ++ after) ⊎ ((cuts ≡ []) × (line ∷ more ≡ map histogram_node_line nodes ++ after)) → TreeParts cuts nodes line more after
    by_cut (inl f) =
        let is : tag line ≡ 99 = same_tag line (cut_line f.head) f.line_is in
        record { cut = λ t. f; node = λ t. absurd (omega arith); behind = λ a b. absurd (a is) }
    by_cut (inr (none, rest)) = by_node none (first_line_of histogram_node_line nodes line more after rest)

-- ---- the lines of frequent values

pub record FrequentParts (frequent : List (Datum × List ℕ)) (rest : List ℕ) (line : List ℕ) (more tree after : List (List ℕ)) : Type 0 where
  pub value : tag line ≡ 102 → FromMap value_line frequent line more ((rest_line rest ∷ tree) ++ after)
  pub others : tag line ≡ 114 → (frequent ≡ []) × (line ≡ rest_line rest) × (more ≡ tree ++ after)

pub frequent_parts : (frequent : List (Datum × List ℕ)) (rest : List ℕ) (line : List ℕ) (more tree after : List (List ℕ))
    → line ∷ more ≡ (map value_line frequent ++ (rest_line rest ∷ tree)) ++ after → FrequentParts frequent rest line more tree after
frequent_parts frequent rest line more tree after e =
    let whole = e ∙ append_assoc (map value_line frequent) (rest_line rest ∷ tree) after in
    by_value (first_line_of value_line frequent line more ((rest_line rest ∷ tree) ++ after) whole)
  where
    by_value : FromMap value_line frequent line more ((rest_line rest ∷ tree) ++ after) ⊎ ((frequent ≡ []) × (line ∷ more ≡ (rest_line rest ∷ tree) ++ after))
        → FrequentParts frequent rest line more tree after
    by_value (inl f) =
        let is : tag line ≡ 102 = same_tag line (value_line f.head) f.line_is in
        record { value = λ t. f; others = λ t. absurd (omega arith) }
    by_value (inr (none, others)) =
        let same : line ≡ rest_line rest = cc in
        let is : tag line ≡ 114 = same_tag line (rest_line rest) same in
        record { value = λ t. absurd (omega arith); others = λ t. (none, same, cc) }
