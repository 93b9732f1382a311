-- The table or column that a word names, and the values that may not come next.
use Rattle.std.proofs.Common.{◌≡◌, ◌≢◌, ℕ, ◌^◌, ◌<◌, ◌≤◌, List, length, ap, sym, subst, ◌∙◌, Option, Some}
use Rattle.std.specs.Prelude.{All, decimal}
use Rattle.std.proofs.lemmas.Option.{slice_get_within}
use Rattle.limits.specs.Profile.{most_rows}
use Rattle.schema_types.specs.declared.types.Column.{Column}
use Rattle.schema_types.specs.declared.types.Schema.{Schema}
use Rattle.schema_types.specs.declared.types.Table.{Table}
use Rattle.schema_types.specs.Validity.{IsValid, IsValidTable}
use Rattle.stats_file.specs.declared.types.Datum.{Datum}
use Rattle.stats_file.specs.FileText.{column_name, name_at}
use Rattle.stats_file.specs.Lines.{datum_text, hex_text}
use Rattle.stats_file.specs.Rules.{IsList, IsOfKind, ComesBefore}
use Rattle.stats_words.specs.Runs.{list_text}
use Rattle.stats_words.specs.Words.{Spells}
use Rattle.stats_reading.specs.declared.draft.Draft.{Draft}
use Rattle.stats_reading.specs.Drafts.{empty_pair, empty_section, frequent_words, pair_words, table_words, BeginsPair, FrequentFollows, IsNamed, MayBeFrequent, MayBePair, MayBeTable, TableWithRows, WasRead}
use Rattle.stats_reading.proofs.Going.{two_words_of_line}
use Rattle.stats_reading.proofs.BeginsAndEnds.{column_place, same_name_same_place, table_with_rows}
use Rattle.stats_reading.proofs.WordFacts.{same_datum, same_list}

-- ---- columns

abbrev pub IsColumnNamed : Table → List ℕ → ℕ → Type 0
IsColumnNamed table word i = IsNamed (λ (c : Column). c.name) table.columns word (Some i)

pub column_within : (table : Table) (word : List ℕ) (i : ℕ) → IsColumnNamed table word i → i < length table.columns
column_within table word i (x, at, is) = slice_get_within table.columns i x at

column_word : (table : Table) (word : List ℕ) (i : ℕ) → IsColumnNamed table word i → hex_text (name_at table i) ≡ word
column_word table word i (x, at, is) = ap (λ (c : Option Column). hex_text (column_name c)) at ∙ sym is

pub no_pair : (table : Table) (s : Draft) (filter joined : List ℕ) (i j : ℕ) → IsValidTable table → IsColumnNamed table filter i → IsColumnNamed table joined j
    → (All (λ q. ComesBefore q (empty_pair i j)) s.section.pairs → ⊥) → (x : ℕ × ℕ) → MayBePair table s x.0 x.1 → pair_words table x ≢ (filter, joined)
no_pair table s filter joined i j good is_i is_j no' x may e =
    let first = column_place table x.0 i good may.filter_is (column_within table filter i is_i) (ap (λ (p : List ℕ × List ℕ). p.0) e ∙ sym (column_word table filter i is_i)) in
    let second = column_place table x.1 j good may.joined_is (column_within table joined j is_j) (ap (λ (p : List ℕ × List ℕ). p.1) e ∙ sym (column_word table joined j is_j)) in
    no' (subst (λ n. All (λ q. ComesBefore q (empty_pair n j)) s.section.pairs) first (subst (λ n. All (λ q. ComesBefore q (empty_pair x.0 n)) s.section.pairs) second may.later))

pub some_pair : (table : Table) (s t : Draft) (filter joined : List ℕ) (i j : ℕ) → IsColumnNamed table filter i → IsColumnNamed table joined j
    → All (λ q. ComesBefore q (empty_pair i j)) s.section.pairs → BeginsPair table s t i j
    → WasRead (pair_words table) (λ c. MayBePair table s c.0 c.1) (λ c. BeginsPair table s t c.0 c.1) (filter, joined)
some_pair table s t filter joined i j is_i is_j later begun = record {
  value = (i, j);
  may = record { filter_is = column_within table filter i is_i; joined_is = column_within table joined j is_j; later = later };
  spelled = ap (λ (x : List ℕ). two_words_of_line x (hex_text (name_at table j))) (column_word table filter i is_i) ∙ ap (λ (x : List ℕ). two_words_of_line filter x) (column_word table joined j is_j);
  after = begun;
}

-- ---- tables

abbrev pub IsTableNamed : Schema → List ℕ → ℕ → Type 0
IsTableNamed schema word i = IsNamed (λ (t : Table). t.name) schema.tables word (Some i)

pub table_within : (schema : Schema) (word : List ℕ) (i : ℕ) → IsTableNamed schema word i → i < length schema.tables
table_within schema word i (x, at, is) = slice_get_within schema.tables i x at

pub no_table : (schema : Schema) (s : Draft) (name rows : List ℕ) (i : ℕ) → IsValid schema → IsTableNamed schema name i → (All (λ t. t.table < i) s.tables → ⊥)
    → (x : TableWithRows) → MayBeTable schema s x → table_words x ≢ (name, rows)
no_table schema s name rows i good (t, at, is) no' x may e =
    let same = same_name_same_place (λ (u : Table). u.name) schema.tables x.place i x.table t good.names may.exists at (ap (λ (p : List ℕ × List ℕ). p.0) e ∙ is) in
    no' (subst (λ n. All (λ u. u.table < n) s.tables) same may.later)

pub some_table : (schema : Schema) (s t : Draft) (name rows : List ℕ) (i n : ℕ) → IsTableNamed schema name i → Spells decimal (λ m. m ≤ most_rows) rows (Some n)
    → All (λ u. u.table < i) s.tables → t ≡ record s { section = empty_section i n }
    → WasRead table_words (MayBeTable schema s) (λ v. t ≡ record s { section = empty_section v.place v.rows }) (name, rows)
some_table schema s t name rows i n (table, at, is) number later after = record {
  value = table_with_rows table i n;
  may = record { exists = at; later = later; within_limit = number.0 };
  spelled = ap (λ (x : List ℕ). two_words_of_line x (decimal n)) (sym is) ∙ ap (λ (x : List ℕ). two_words_of_line name x) number.1;
  after = after;
}

-- ---- frequent values

pub not_next_value : (s : Draft) → s.section.rows < 2 ^ 64 → (value word : List ℕ) (r : Option Datum) (v : Datum) (q : Option (List ℕ)) (list : List ℕ)
    → Spells datum_text (IsOfKind s.kind) value r → r ≡ Some v → Spells list_text (IsList s.section.rows) word q → q ≡ Some list → (FrequentFollows s (v, list) → ⊥)
    → (x : Datum × List ℕ) → MayBeFrequent s x → frequent_words x ≢ (value, word)
not_next_value s fits value word r v q list spells is_v lists is_list no' x may e =
    let own = subst (Spells datum_text (IsOfKind s.kind) value) is_v spells in
    let other = subst (Spells list_text (IsList s.section.rows) word) is_list lists in
    let first : x.0 ≡ v = same_datum s.kind x.0 v may.0 own.0 (ap (λ (p : List ℕ × List ℕ). p.0) e ∙ sym own.1) in
    let second : x.1 ≡ list = same_list s.section.rows x.1 list fits may.1 other.0 (ap (λ (p : List ℕ × List ℕ). p.1) e ∙ sym other.1) in
    no' (subst (λ (d : Datum). FrequentFollows s (d, list)) first (subst (λ (l : List ℕ). FrequentFollows s (x.0, l)) second may.2))
