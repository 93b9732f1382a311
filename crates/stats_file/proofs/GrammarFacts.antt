-- If a statistics file keeps the rules, its text is a text of the grammar.
use Rattle.std.proofs.Common.{◌≡◌, ℕ, zero, suc, ◌<◌, ◌≤◌, inl, inr, List, [], ◌∷◌, ◌++◌, length, get_or, map, refl, ap, sym, subst, Some, arith}
use Rattle.std.specs.Prelude.{All, codes, decimal}
use Rattle.std.specs.List.{AllByRecursion, flat_map}
use Rattle.std.proofs.lemmas.Option.{get_or_from_slice_get, slice_get-get_or, slice_get_within}
use Rattle.schema_types.specs.declared.types.Column.{Column}
use Rattle.schema_types.specs.declared.types.Kind.{Kind}
use Rattle.schema_types.specs.declared.types.Kind.TheVariants as kind
use Rattle.schema_types.specs.declared.types.Schema.{Schema}
use Rattle.schema_types.specs.declared.types.Table.{Table}
use Rattle.stats_file.specs.Bytes.{AreBytes, ConsistOfBytes, HasByteNames, HasBytes, HasByteValues}
use Rattle.stats_file.specs.declared.types.Datum.{Datum}
use Rattle.stats_file.specs.declared.types.Datum.TheVariants as datum
use Rattle.stats_file.specs.declared.types.PairStats.{PairStats}
use Rattle.stats_file.specs.declared.types.TableStats.{TableStats}
use Rattle.stats_file.specs.declared.types.StatsFile.{StatsFile}
use Rattle.stats_file.specs.FileText.{column_name, file_lines, name_at, histogram_node_line, pair_lines, section_lines, table_lines, value_line}
use Rattle.stats_file.specs.Grammar.{ArePairLines, AreTableLines, IsCutLine, IsFrequentLine, IsNodeLine, IsText, IsValueWord}
use Rattle.stats_file.specs.Lines.{cut_line, datum_text, first_line, hex_text, list_line, pair_line, runs_text, table_line}
use Rattle.stats_file.specs.Rules.{IsList, IsOfKind, IsPair, IsSection, IsHistogramOf, KeepsRules}
use Rattle.stats_file.specs.Runs.{runs_of}
use Rattle.stats_file.proofs.WordFacts.{hex_word, list_word, numeral, signed_numeral}

all_mapped : {X Y : Type 0} (f : X → Y) (P : Y → Type 0) (xs : List X) → ((k : ℕ) (d : X) → k < length xs → P (f (get_or xs k d))) → AllByRecursion P (map f xs)
all_mapped f P [] each = tt
all_mapped f P (x ∷ xs) each = (each 0 x (omega arith), all_mapped f P xs (λ k d lt. each (suc k) d (omega arith)))

joined_map : {X : Type 0} (f : X → List (List ℕ)) (xs : List X) → flat_map f xs ≡ flat_map (λ lines. lines) (map f xs)
joined_map f [] = refl
joined_map f (x ∷ xs) = ap (λ rest. f x ++ rest) (joined_map f xs)

value_word : (d : Datum) (k : Kind) → IsOfKind k d → HasBytes d → IsValueWord (datum_text d)
value_word (datum.Int number) kind.Int fits bytes = inl (signed_numeral number fits)
value_word (datum.Int number) (kind.Text most) never bytes = absurd never
value_word (datum.Text text) kind.Int never bytes = absurd never
value_word (datum.Text text) (kind.Text most) utf8 bytes = inr (hex_word text bytes)

pub cuts_are_of : (k : Kind) (rows : ℕ) (cuts : List Datum) (nodes : List (List ℕ)) → IsHistogramOf k rows cuts nodes → All (IsOfKind k) cuts
cuts_are_of k zero cuts nodes (none, others) = subst (λ (ds : List Datum). All (IsOfKind k) ds) (sym none) (λ i d lt. absurd (omega arith))
cuts_are_of k (suc n) cuts nodes tree = tree.values

pub nodes_are_lists : (k : Kind) (rows : ℕ) (cuts : List Datum) (nodes : List (List ℕ)) → IsHistogramOf k rows cuts nodes → All (IsList rows) nodes
nodes_are_lists k zero cuts nodes (none, others) = subst (λ (ns : List (List ℕ)). All (IsList zero) ns) (sym others) (λ i d lt. absurd (omega arith))
nodes_are_lists k (suc n) cuts nodes tree = tree.lists

name_bytes : (table : Table) (i : ℕ) (d : Column) → i < length table.columns → HasByteNames table → AreBytes (name_at table i)
name_bytes table i d lt names =
    subst (λ o. AreBytes (column_name o)) (sym (slice_get-get_or table.columns i d lt)) (names.columns i d lt)

pub are_pair_lines : (table : Table) (rows : ℕ) (pair : PairStats) → rows ≤ 4000000 → HasByteNames table → IsPair table rows pair → HasByteValues pair → ArePairLines (pair_lines table pair)
unfolding pair_lines
are_pair_lines table rows pair within_limit names is bytes =
    let filter = name_bytes table pair.filter is.filter (slice_get_within table.columns pair.filter is.filter is.filter_is) names in
    let joined = name_bytes table pair.joined is.filter is.joined names in
    record {
      head = pair_line (name_at table pair.filter) (name_at table pair.joined);
      whole = list_line (codes "whole") (runs_of pair.whole);
      frequent = map value_line pair.frequent;
      rest = list_line (codes "rest") (runs_of pair.rest);
      cuts = map cut_line pair.cuts;
      nodes = map histogram_node_line pair.nodes;
      head_is = record {
        first = hex_text (name_at table pair.filter);
        second = hex_text (name_at table pair.joined);
        first_is = hex_word _ filter;
        second_is = hex_word _ joined;
        whole = refl;
      };
      whole_is = record { word = runs_text (runs_of pair.whole); word_is = list_word rows pair.whole within_limit is.whole; whole = refl };
      frequent_are = all_mapped value_line IsFrequentLine pair.frequent (λ k d lt. record {
        first = datum_text (get_or pair.frequent k d).0;
        second = runs_text (runs_of (get_or pair.frequent k d).1);
        first_is = value_word (get_or pair.frequent k d).0 is.filter.kind (is.frequent.values k d lt) (bytes.frequent k d lt);
        second_is = list_word rows (get_or pair.frequent k d).1 within_limit (is.frequent.lists k d lt);
        whole = refl;
      });
      rest_is = record { word = runs_text (runs_of pair.rest); word_is = list_word rows pair.rest within_limit is.rest; whole = refl };
      cuts_are = all_mapped cut_line IsCutLine pair.cuts (λ k d lt. record {
        word = datum_text (get_or pair.cuts k d);
        word_is = value_word (get_or pair.cuts k d) is.filter.kind (cuts_are_of is.filter.kind rows pair.cuts pair.nodes is.tree k d lt) (bytes.cuts k d lt);
        whole = refl;
      });
      nodes_are = all_mapped histogram_node_line IsNodeLine pair.nodes (λ k d lt. record {
        word = runs_text (runs_of (get_or pair.nodes k d));
        word_is = list_word rows (get_or pair.nodes k d) within_limit (nodes_are_lists is.filter.kind rows pair.cuts pair.nodes is.tree k d lt);
        whole = refl;
      });
      all = refl;
    }

table_is : (table : Table) (section : TableStats) → section.rows ≤ 4000000 → HasByteNames table → All (IsPair table section.rows) section.pairs → All HasByteValues section.pairs
    → AreTableLines (table_lines (Some table) section)
unfolding table_lines
table_is table section within_limit names pairs bytes = record {
  head = table_line table.name section.rows;
  pairs = map (pair_lines table) section.pairs;
  head_is = record {
    first = hex_text table.name;
    second = decimal section.rows;
    first_is = hex_word table.name names.name;
    second_is = numeral section.rows (omega arith);
    whole = refl;
  };
  pairs_are = all_mapped (pair_lines table) ArePairLines section.pairs (λ k d lt.
      are_pair_lines table section.rows (get_or section.pairs k d) within_limit names (pairs k d lt) (bytes k d lt));
  all = ap (λ lines. table_line table.name section.rows ∷ lines) (joined_map (pair_lines table) section.pairs);
}

section_is : (schema : Schema) (section : TableStats) → All HasByteNames schema.tables → IsSection schema section → All HasByteValues section.pairs
    → AreTableLines (section_lines schema section)
section_is schema section names is bytes =
    let found : get_or schema.tables section.table is.table ≡ is.table = get_or_from_slice_get schema.tables section.table is.table is.table is.table_is in
    let named = subst HasByteNames found (names section.table is.table (slice_get_within schema.tables section.table is.table is.table_is)) in
    subst (λ o. AreTableLines (table_lines o section)) (sym is.table_is) (table_is is.table section is.rows named is.pairs bytes)

pub file_is_text : (schema : Schema) (file : StatsFile) → ConsistOfBytes schema file → KeepsRules schema file → IsText (file_lines schema file)
unfolding file_lines
file_is_text schema file bytes keeps =
    let most : file.accuracy ≤ 64 = keeps.most in
    record {
      head = first_line file.accuracy;
      tables = map (section_lines schema) file.tables;
      head_is = record { word = decimal file.accuracy; word_is = numeral file.accuracy (omega arith); whole = refl };
      tables_are = all_mapped (section_lines schema) AreTableLines file.tables (λ k d lt.
          section_is schema (get_or file.tables k d) bytes.names (keeps.tables k d lt) (bytes.values k d lt));
      all = ap (λ lines. first_line file.accuracy ∷ (lines ++ (codes "end\n" ∷ []))) (joined_map (section_lines schema) file.tables);
    }
