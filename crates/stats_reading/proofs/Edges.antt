-- The lines of a file that remain after a line that begins or ends a pair or a table.
use Rattle.std.proofs.Common.{◌≡◌, ◌≢◌, ℕ, zero, suc, ◌<◌, List, [], ◌∷◌, ◌++◌, length, refl, ap, sym, subst, ◌∙◌, arith, append-nil, append_assoc, Some}
use Rattle.std.specs.Prelude.{slice_get}
use Rattle.std.proofs.lemmas.Option.{slice_get_within}
use Rattle.schema_types.specs.declared.types.Kind.{Kind}
use Rattle.schema_types.specs.declared.types.Schema.{Schema}
use Rattle.schema_types.specs.declared.types.Table.{Table}
use Rattle.stats_file.specs.declared.types.Datum.{Datum}
use Rattle.stats_file.specs.declared.types.PairStats.{PairStats}
use Rattle.stats_file.specs.declared.types.StatsFile.{StatsFile}
use Rattle.stats_file.specs.declared.types.TableStats.{TableStats}
use Rattle.stats_file.specs.FileText.{file_lines, name_at}
use Rattle.stats_file.specs.Lines.{end_line, first_line, pair_line, table_line}
use Rattle.stats_file.specs.Rules.{IsPair, IsSection, IsHistogramOf, KeepsRules, ComesBefore}
use Rattle.stats_reading.specs.declared.draft.Draft.{Draft}
use Rattle.stats_reading.specs.Drafts.{empty_draft, empty_pair, empty_section, pair_ended, table_ended, BeginsPair, HasAllNodes, MayBeAccuracy, MayBePair, MayBeTable, TableWithRows}
use Rattle.stats_reading.specs.Remaining.{file_of_draft, frequent_lines, pairs_left, section_of, tables_left, whole_line, CutsRemaining, InFile, InPair, InTable, NodesRemaining, WholeRemaining}
use Rattle.stats_reading.proofs.Opens.{parts_here, rules_here, IsLineOfNext}
use Rattle.stats_reading.proofs.RuleFacts.{section_rules, section_at}
use Rattle.stats_reading.proofs.AppendedLists.{all_at_seam, pairs_at_seam, both_some_same}
use Rattle.stats_reading.proofs.Tags.{after_pairs, from_tables, pair_opened, pair_rest, same_tag, tag, to_tables}

pub histogram_sizes : (kind : Kind) (rows : ℕ) (cuts : List Datum) (nodes : List (List ℕ)) → IsHistogramOf kind rows cuts nodes → 0 < rows → (length cuts ≡ 32) × (length nodes ≡ 63)
histogram_sizes kind zero cuts nodes is lt = absurd (omega arith)
histogram_sizes kind (suc n) cuts nodes is lt = (is.leaves, is.all)

pub same_pair : (p q : PairStats) → p.filter ≡ q.filter → p.joined ≡ q.joined → p.whole ≡ q.whole → p.frequent ≡ q.frequent → p.rest ≡ q.rest → p.cuts ≡ q.cuts → p.nodes ≡ q.nodes → p ≡ q
same_pair p q a b c d e f g =
    ap (λ x. record p { filter = x }) a
    ∙ ap (λ x. record p { filter = q.filter; joined = x }) b
    ∙ ap (λ x. record p { filter = q.filter; joined = q.joined; whole = x }) c
    ∙ ap (λ x. record p { filter = q.filter; joined = q.joined; whole = q.whole; frequent = x }) d
    ∙ ap (λ x. record p { filter = q.filter; joined = q.joined; whole = q.whole; frequent = q.frequent; rest = x }) e
    ∙ ap (λ x. record p { filter = q.filter; joined = q.joined; whole = q.whole; frequent = q.frequent; rest = q.rest; cuts = x }) f
    ∙ ap (λ x. record q { nodes = x }) g

-- ---- the current pair ends

pub ended_is : (s : Draft) (pairs : List PairStats) (tables : List TableStats) → file_of_draft s (section_of s (s.pair ∷ pairs) ∷ tables) ≡ file_of_draft (pair_ended s) (section_of (pair_ended s) pairs ∷ tables)
ended_is s pairs tables = ap (λ (ps : List PairStats). file_of_draft s (record s.section { pairs = ps } ∷ tables)) (sym (append_assoc s.section.pairs (s.pair ∷ []) pairs))

pub pair_closes : (schema : Schema) (s : Draft) (file : StatsFile) (line : List ℕ) (more : List (List ℕ)) → InPair (CutsRemaining s.pair) schema s file (line ∷ more) → tag line ≢ 99 → tag line ≢ 110
    → HasAllNodes s × InTable schema (pair_ended s) file (line ∷ more)
pair_closes schema s file line more h no_cut no_node =
    let found = (parts_here schema s file line more h).behind no_cut no_node in
    let tree = h.left.1 in
    let g = tree.grows in
    let cuts : h.pair.cuts ≡ s.pair.cuts = g.cuts_is ∙ ap (λ (l : List Datum). s.pair.cuts ++ l) found.0 ∙ append-nil s.pair.cuts in
    let nodes : h.pair.nodes ≡ s.pair.nodes = g.nodes_is ∙ ap (λ (l : List (List ℕ)). s.pair.nodes ++ l) found.1 ∙ append-nil s.pair.nodes in
    let same = same_pair h.pair s.pair g.filter g.joined tree.whole (g.frequent_is ∙ append-nil s.pair.frequent) tree.rest cuts nodes in
    let rules = rules_here (CutsRemaining s.pair) schema s file (line ∷ more) h in (
      λ some.
          let both = histogram_sizes rules.is.filter.kind s.section.rows h.pair.cuts h.pair.nodes rules.is.tree some in
          (sym (ap length cuts) ∙ both.0, sym (ap length nodes) ∙ both.1),
      record {
        table = h.table;
        exists = h.exists;
        pairs = h.pairs;
        tables = h.tables;
        keeps = h.keeps;
        is = h.is ∙ ap (λ (p : PairStats). file_of_draft s (section_of s (p ∷ h.pairs) ∷ h.tables)) same ∙ ended_is s h.pairs h.tables;
        all = found.2;
      },
    )

pub pair_reopens : (schema : Schema) (s : Draft) (file : StatsFile) (lines : List (List ℕ)) → InTable schema (pair_ended s) file lines → InPair (NodesRemaining s.pair) schema s file lines
pair_reopens schema s file lines h = record {
  table = h.table;
  exists = h.exists;
  pair = s.pair;
  own = [];
  left = record {
    nodes = [];
    grows = record {
      filter = refl;
      joined = refl;
      frequent_is = sym (append-nil s.pair.frequent);
      cuts_is = sym (append-nil s.pair.cuts);
      nodes_is = sym (append-nil s.pair.nodes);
    };
    whole = refl;
    rest = refl;
    all = refl;
  };
  pairs = h.pairs;
  tables = h.tables;
  keeps = h.keeps;
  is = h.is ∙ sym (ended_is s h.pairs h.tables);
  all = h.all;
}

-- ---- the current table ends

pub table_is : (s : Draft) (tables : List TableStats) → file_of_draft s (section_of s [] ∷ tables) ≡ file_of_draft (table_ended s) tables
table_is s tables =
    ap (λ (ps : List PairStats). file_of_draft s (record s.section { pairs = ps } ∷ tables)) (append-nil s.section.pairs)
    ∙ ap (λ (ts : List TableStats). record { accuracy = s.accuracy; tables = ts }) (sym (append_assoc s.tables (s.section ∷ []) tables))

pub table_closes : (schema : Schema) (s : Draft) (file : StatsFile) (line : List ℕ) (more : List (List ℕ)) → InTable schema s file (line ∷ more) → tag line ≢ 112
    → InFile schema (table_ended s) file (line ∷ more)
table_closes schema s file line more h other = by_pairs h.pairs h.is h.all
  where
    by_pairs : (pairs : List PairStats) → file ≡ file_of_draft s (section_of s pairs ∷ h.tables) → line ∷ more ≡ pairs_left schema h.table pairs h.tables → InFile schema (table_ended s) file (line ∷ more)
    by_pairs [] is all = record { tables = h.tables; keeps = h.keeps; is = is ∙ table_is s h.tables; all = all }
    by_pairs (p ∷ rest) is all =
        let whole = all ∙ pair_opened schema h.table p rest h.tables in
        let first : line ≡ pair_line (name_at h.table p.filter) (name_at h.table p.joined) = cc in
        absurd (other (same_tag line (pair_line (name_at h.table p.filter) (name_at h.table p.joined)) first))

pub table_reopens : (schema : Schema) (table : Table) (s : Draft) (file : StatsFile) (lines : List (List ℕ)) → slice_get schema.tables s.section.table ≡ Some table
    → InFile schema (table_ended s) file lines → InTable schema s file lines
table_reopens schema table s file lines exists h = record {
  table = table;
  exists = exists;
  pairs = [];
  tables = h.tables;
  keeps = h.keeps;
  is = h.is ∙ sym (table_is s h.tables);
  all = h.all;
}

-- ---- a table begins

abbrev pub line_of_table : TableWithRows → List ℕ
line_of_table v = table_line v.table.name v.rows

abbrev pub with_section : Draft → TableWithRows → Draft
with_section s v = record s { section = empty_section v.place v.rows }

pub open_table : (schema : Schema) (s : Draft) (file : StatsFile) (line : List ℕ) (more : List (List ℕ)) → InFile schema s file (line ∷ more) → tag line ≡ 116
    → IsLineOfNext line_of_table (MayBeTable schema s) (λ v. InTable schema (with_section s v) file more) line
open_table schema s file line more h t = by_tables h.tables h.is h.all
  where
    by_tables : (tables : List TableStats) → file ≡ file_of_draft s tables → line ∷ more ≡ tables_left schema tables
        → IsLineOfNext line_of_table (MayBeTable schema s) (λ v. InTable schema (with_section s v) file more) line
    by_tables [] is all = let first : line ≡ end_line = cc in absurd (omega (arith, same_tag line end_line first))
    by_tables (section ∷ rest) is all =
        let keeps = subst (KeepsRules schema) is h.keeps in
        let at = all_at_seam (IsSection schema) s.tables section rest keeps.tables in
        let lines = from_tables schema section rest at.table line more at.table_is all in
        record {
          value = record { table = at.table; place = section.table; rows = section.rows };
          is = lines.0;
          may = record { exists = at.table_is; later = pairs_at_seam (λ (a b : TableStats). a.table < b.table) s.tables section rest keeps.order; within_limit = at.rows };
          rest = record {
            table = at.table;
            exists = at.table_is;
            pairs = section.pairs;
            tables = rest;
            keeps = h.keeps;
            is = is;
            all = lines.1;
          };
        }

pub close_table : (schema : Schema) (s : Draft) (v : TableWithRows) (file : StatsFile) (more : List (List ℕ)) → MayBeTable schema s v → InTable schema (with_section s v) file more
    → InFile schema s file (line_of_table v ∷ more)
close_table schema s v file more may h =
    let section = section_of (with_section s v) h.pairs in
    let same : v.table ≡ h.table = both_some_same v.table h.table (slice_get schema.tables v.place) may.exists h.exists in
    record {
      tables = section ∷ h.tables;
      keeps = h.keeps;
      is = h.is;
      all = ap (λ (t : Table). table_line t.name v.rows ∷ more) same ∙ ap (λ (ls : List (List ℕ)). table_line h.table.name v.rows ∷ ls) h.all
          ∙ to_tables schema section h.tables h.table h.exists;
    }

-- ---- a pair begins

abbrev pub line_of_pair : Table → ℕ × ℕ → List ℕ
line_of_pair table c = pair_line (name_at table c.0) (name_at table c.1)

abbrev pub with_new_pair : Draft → ℕ → ℕ → Kind → ℕ → ℕ → Draft
with_new_pair s filter joined kind same_filter_at same_joined_at = record s { pair = empty_pair filter joined; kind = kind; same_filter_at = same_filter_at; same_joined_at = same_joined_at }

abbrev pub BeginsFor : Schema → Draft → StatsFile → List (List ℕ) → Table → ℕ × ℕ → Type 0
BeginsFor schema s file more table c = (t : Draft) → BeginsPair table s t c.0 c.1 → InPair (WholeRemaining t.pair) schema t file more

open_pair_of : (schema : Schema) (s : Draft) (file : StatsFile) (line : List ℕ) (more : List (List ℕ)) (h : InTable schema s file (line ∷ more)) → tag line ≡ 112
    → IsLineOfNext (line_of_pair h.table) (λ c. MayBePair h.table s c.0 c.1) (BeginsFor schema s file more h.table) line
open_pair_of schema s file line more h t = by_pairs h.pairs h.is h.all
  where
    by_pairs : (pairs : List PairStats) → file ≡ file_of_draft s (section_of s pairs ∷ h.tables) → line ∷ more ≡ pairs_left schema h.table pairs h.tables
        → IsLineOfNext (line_of_pair h.table) (λ c. MayBePair h.table s c.0 c.1) (BeginsFor schema s file more h.table) line
    by_pairs [] is all = absurd (after_pairs schema h.tables line more all t)
    by_pairs (p ∷ rest) is all =
        let whole = all ∙ pair_opened schema h.table p rest h.tables in
        let keeps = subst (KeepsRules schema) is h.keeps in
        let section = section_of s (p ∷ rest) in
        let rules = section_rules schema h.table section (section_at schema s (p ∷ rest) h.tables keeps) h.exists in
        let of_pair = all_at_seam (IsPair h.table s.section.rows) s.section.pairs p rest rules.pairs in
        record {
          value = (p.filter, p.joined);
          is = cc;
          may = record {
            filter_is = slice_get_within h.table.columns p.filter of_pair.filter of_pair.filter_is;
            joined_is = of_pair.joined;
            later = pairs_at_seam ComesBefore s.section.pairs p rest rules.order;
          };
          rest = λ u b. subst (λ (x : Draft). InPair (WholeRemaining x.pair) schema x file more) (sym b.whole) (record {
            table = h.table;
            exists = h.exists;
            pair = p;
            own = pair_rest p;
            left = record {
              frequent = p.frequent;
              cuts = p.cuts;
              nodes = p.nodes;
              grows = record { filter = refl; joined = refl; frequent_is = refl; cuts_is = refl; nodes_is = refl };
              all = refl;
            };
            pairs = rest;
            tables = h.tables;
            keeps = h.keeps;
            is = is;
            all = cc;
          });
        }

pub open_pair : (schema : Schema) (table : Table) (s : Draft) (file : StatsFile) (line : List ℕ) (more : List (List ℕ)) → slice_get schema.tables s.section.table ≡ Some table
    → InTable schema s file (line ∷ more) → tag line ≡ 112 → IsLineOfNext (line_of_pair table) (λ c. MayBePair table s c.0 c.1) (BeginsFor schema s file more table) line
open_pair schema table s file line more exists h t =
    subst (λ (x : Table). IsLineOfNext (line_of_pair x) (λ c. MayBePair x s c.0 c.1) (BeginsFor schema s file more x) line)
    (both_some_same h.table table (slice_get schema.tables s.section.table) h.exists exists) (open_pair_of schema s file line more h t)

pub close_pair : (schema : Schema) (table : Table) (s t : Draft) (c : ℕ × ℕ) (file : StatsFile) (more : List (List ℕ)) → slice_get schema.tables s.section.table ≡ Some table
    → BeginsPair table s t c.0 c.1 → InPair (WholeRemaining t.pair) schema t file more → InTable schema s file (line_of_pair table c ∷ more)
close_pair schema table s t c file more exists b h = at (subst (λ (x : Draft). InPair (WholeRemaining x.pair) schema x file more) b.whole h)
  where
    at : InPair (WholeRemaining (empty_pair c.0 c.1)) schema (with_new_pair s c.0 c.1 b.column.kind t.same_filter_at t.same_joined_at) file more → InTable schema s file (line_of_pair table c ∷ more)
    at i =
        let g = i.left.grows in
        let p = i.pair in
        let after = pairs_left schema i.table i.pairs i.tables in
        let same : table ≡ i.table = both_some_same table i.table (slice_get schema.tables s.section.table) exists i.exists in
        record {
          table = i.table;
          exists = i.exists;
          pairs = p ∷ i.pairs;
          tables = i.tables;
          keeps = i.keeps;
          is = i.is;
          all = ap (λ (x : Table). line_of_pair x c ∷ more) same
              ∙ ap (λ (n : ℕ). pair_line (name_at i.table n) (name_at i.table c.1) ∷ more) (sym g.filter)
              ∙ ap (λ (n : ℕ). pair_line (name_at i.table p.filter) (name_at i.table n) ∷ more) (sym g.joined)
              ∙ ap (λ (ls : List (List ℕ)). pair_line (name_at i.table p.filter) (name_at i.table p.joined) ∷ ls)
              (i.all ∙ ap (λ (o : List (List ℕ)). o ++ after) i.left.all
              ∙ ap (λ (fs : List (Datum × List ℕ)). (whole_line p.whole ∷ frequent_lines fs p.rest i.left.cuts i.left.nodes) ++ after) (sym g.frequent_is)
              ∙ ap (λ (cs : List Datum). (whole_line p.whole ∷ frequent_lines p.frequent p.rest cs i.left.nodes) ++ after) (sym g.cuts_is)
              ∙ ap (λ (ns : List (List ℕ)). (whole_line p.whole ∷ frequent_lines p.frequent p.rest p.cuts ns) ++ after) (sym g.nodes_is))
              ∙ sym (pair_opened schema i.table p i.pairs i.tables);
        }

-- ---- the first line and the last one

pub open_first : (schema : Schema) (file : StatsFile) (line : List ℕ) (more : List (List ℕ)) → KeepsRules schema file → line ∷ more ≡ file_lines schema file
    → IsLineOfNext first_line MayBeAccuracy (λ k. InFile schema (record empty_draft { accuracy = k }) file more) line
unfolding file_lines
open_first schema file line more keeps all = record {
  value = file.accuracy;
  is = cc;
  may = (keeps.least, keeps.most);
  rest = record { tables = file.tables; keeps = keeps; is = refl; all = cc };
}

pub close_first : (schema : Schema) (k : ℕ) (file : StatsFile) (more : List (List ℕ)) → InFile schema (record empty_draft { accuracy = k }) file more
    → KeepsRules schema file × (first_line k ∷ more ≡ file_lines schema file)
unfolding file_lines
close_first schema k file more h =
    (h.keeps, ap (λ (ls : List (List ℕ)). first_line k ∷ ls) h.all ∙ ap (λ (f : StatsFile). file_lines schema f) (sym h.is))

pub open_end : (schema : Schema) (s : Draft) (file : StatsFile) (line : List ℕ) (more : List (List ℕ)) → InFile schema s file (line ∷ more) → tag line ≡ 101
    → KeepsRules schema file × (file ≡ file_of_draft s []) × (more ≡ [])
open_end schema s file line more h t = by_tables h.tables h.is h.all
  where
    by_tables : (tables : List TableStats) → file ≡ file_of_draft s tables → line ∷ more ≡ tables_left schema tables → KeepsRules schema file × (file ≡ file_of_draft s []) × (more ≡ [])
    by_tables [] is all = (h.keeps, is, cc)
    by_tables (section ∷ rest) is all =
        let keeps = subst (KeepsRules schema) is h.keeps in
        let at = all_at_seam (IsSection schema) s.tables section rest keeps.tables in
        let lines = from_tables schema section rest at.table line more at.table_is all in
        absurd (omega (arith, same_tag line (table_line at.table.name section.rows) lines.0))

pub close_end : (schema : Schema) (s : Draft) (file : StatsFile) (more : List (List ℕ)) → KeepsRules schema file × (file ≡ file_of_draft s []) × (more ≡ []) → InFile schema s file (end_line ∷ more)
close_end schema s file more (keeps, is, none) = record { tables = []; keeps = keeps; is = is; all = ap (λ (ls : List (List ℕ)). end_line ∷ ls) none }
