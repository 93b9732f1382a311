-- The value that words spell, if it may come next in a draft (the part of a file that is read so far). The search goes through all values that may
-- come there, and compares the text of each with the words.
use Rattle.std.specs.Prelude.{ℕ, ◌+◌, ◌-◌, ◌^◌, ◌==◌, ◌&&◌, ◌||◌, not, nat_lt, nat_le, Bool, true, false, List, [], ◌∷◌, length, sum, slice_get, Option, None, Some, ℤ, pos, negsuc, decimal}
use Rattle.std.specs.Option.{option_or}
use Rattle.std.specs.List.{list_all}
use Rattle.std.specs.Str.{is_utf8}
use Rattle.std.specs.declared.cmp.Ordering.{Ordering}
use Rattle.std.specs.declared.cmp.Ordering.TheVariants.{Less, Equal, Greater}
use Rattle.limits.specs.Profile.{least_accuracy, most_accuracy, most_rows}
use Rattle.schema_types.specs.declared.types.Kind.{Kind}
use Rattle.schema_types.specs.declared.types.Kind.TheVariants as kinds
use Rattle.schema_types.specs.declared.types.Schema.{Schema}
use Rattle.schema_types.specs.declared.types.Table.{Table}
use Rattle.stats_file.specs.declared.types.Datum.{Datum}
use Rattle.stats_file.specs.declared.types.Datum.TheVariants as datum
use Rattle.stats_file.specs.declared.types.PairStats.{PairStats}
use Rattle.stats_file.specs.declared.types.TableStats.{TableStats}
use Rattle.stats_file.specs.FileText.{name_at}
use Rattle.stats_file.specs.Lines.{datum_text, hex_text}
use Rattle.stats_file.specs.Rules.{datum_cmp}
use Rattle.stats_words.specs.Runs.{list_text}
use Rattle.stats_reading.specs.declared.draft.Draft.{Draft}
use Rattle.stats_reading.specs.Drafts.{empty_pair, TableWithRows}
use Rattle.stats_lines.specs.Searches.{when, first_below, first_list, same_numbers, passes_if_some, is_some_that_passes}

-- ---- tests: each says whether the predicate of this name in `Drafts` or `Rules` holds

abbrev pub is_same_number : ℤ → ℤ → Bool
is_same_number (pos a) (pos b) = a == b
is_same_number (pos a) (negsuc b) = false
is_same_number (negsuc a) (pos b) = false
is_same_number (negsuc a) (negsuc b) = a == b

abbrev pub is_same_datum : Datum → Datum → Bool
is_same_datum (datum.Int a) (datum.Int b) = is_same_number a b
is_same_datum (datum.Int a) (datum.Text b) = false
is_same_datum (datum.Text a) (datum.Int b) = false
is_same_datum (datum.Text a) (datum.Text b) = same_numbers a b

abbrev pub is_descending : List ℕ → Bool
is_descending [] = true
is_descending (x ∷ []) = true
is_descending (x ∷ y ∷ list) = nat_le y x && is_descending (y ∷ list)

abbrev pub is_list : ℕ → List ℕ → Bool
is_list rows list = is_descending list && list_all (λ x. nat_lt 0 x) list && nat_le (sum list) rows

-- the earlier pairs that have the current pair's filter column, and its joined column
abbrev pub same_filter : Draft → Option PairStats
same_filter s = slice_get s.section.pairs s.same_filter_at

abbrev pub same_joined : Draft → Option PairStats
same_joined s = slice_get s.section.pairs s.same_joined_at

abbrev pub whole_follows : Draft → List ℕ → Bool
whole_follows s list = sum list == s.section.rows && passes_if_some (λ q. same_numbers q.whole list) (same_joined s)

abbrev pub is_same_value : ℕ → Datum × List ℕ → PairStats → Bool
is_same_value place f q = is_some_that_passes (λ other. is_same_datum other.0 f.0 && sum other.1 == sum f.1) (slice_get q.frequent place)

abbrev pub frequent_follows : Draft → Datum × List ℕ → Bool
frequent_follows s f =
    nat_lt (length s.pair.frequent) 32 && list_all (λ e. not (is_same_datum e.0 f.0)) s.pair.frequent
    && passes_if_some (is_same_value (length s.pair.frequent) f) (same_filter s)

abbrev pub rest_follows : Draft → List ℕ → Bool
rest_follows s list = passes_if_some (λ q. length q.frequent == length s.pair.frequent && sum q.rest == sum list) (same_filter s)

abbrev pub is_not_greater : Ordering → Bool
is_not_greater Less = true
is_not_greater Equal = true
is_not_greater Greater = false

abbrev pub cut_follows : Draft → Datum → Bool
cut_follows s cut =
    nat_lt 0 s.section.rows && nat_lt (length s.pair.cuts) 32
    && passes_if_some (λ last. is_not_greater (datum_cmp last cut)) (slice_get s.pair.cuts (length s.pair.cuts - 1))
    && passes_if_some (λ q. is_some_that_passes (λ other. is_same_datum other cut) (slice_get q.cuts (length s.pair.cuts))) (same_filter s)

abbrev pub node_follows : Draft → List ℕ → Bool
node_follows s node =
    nat_lt 0 s.section.rows && length s.pair.cuts == 32 && nat_lt (length s.pair.nodes) 63
    && passes_if_some (λ q. is_some_that_passes (λ other. sum other == sum node) (slice_get q.nodes (length s.pair.nodes))) (same_filter s)

abbrev pub has_all_nodes : Draft → Bool
has_all_nodes s = not (nat_lt 0 s.section.rows) || (length s.pair.cuts == 32 && length s.pair.nodes == 63)

abbrev pub comes_before : PairStats → PairStats → Bool
comes_before a b = nat_lt a.filter b.filter || (a.filter == b.filter && nat_lt a.joined b.joined)

-- ---- values that words spell. `at` says what a value gives

abbrev pub number_of_word : {X : Type 0} → (ℕ → Option X) → ℕ → List ℕ → Option X
number_of_word at most word = first_below (λ n. when (same_numbers (decimal n) word) (at n)) (most + 1)

abbrev pub list_of_word : {X : Type 0} → (List ℕ → Option X) → ℕ → List ℕ → Option X
list_of_word at rows word = first_list (λ list. when (is_list rows list && same_numbers (list_text list) word) (at list)) rows (rows + 1)

abbrev pub datum_of_word : {X : Type 0} → (Datum → Option X) → Kind → List ℕ → Option X
datum_of_word at kinds.Int word =
    option_or (first_below (λ n. when (same_numbers (datum_text (datum.Int (pos n))) word) (at (datum.Int (pos n)))) (2 ^ 63))
    (first_below (λ n. when (same_numbers (datum_text (datum.Int (negsuc n))) word) (at (datum.Int (negsuc n)))) (2 ^ 63))
datum_of_word at (kinds.Text most) word =
    first_list (λ bytes. when (is_utf8 bytes && same_numbers (hex_text bytes) word) (at (datum.Text bytes))) (length word) 256

-- ---- the next value of each kind

unfoldable pub next_accuracy : List ℕ → Option ℕ
next_accuracy word = number_of_word (λ k. when (nat_le least_accuracy k) (Some k)) most_accuracy word

unfoldable pub next_whole : Draft → List ℕ → Option (List ℕ)
next_whole s word = list_of_word (λ list. when (whole_follows s list) (Some list)) s.section.rows word

unfoldable pub next_frequent : Draft → List ℕ × List ℕ → Option (Datum × List ℕ)
next_frequent s words =
    datum_of_word (λ value. list_of_word (λ list. when (frequent_follows s (value, list)) (Some (value, list))) s.section.rows words.1) s.kind words.0

unfoldable pub next_rest : Draft → List ℕ → Option (List ℕ)
next_rest s word = list_of_word (λ list. when (rest_follows s list) (Some list)) s.section.rows word

unfoldable pub next_cut : Draft → List ℕ → Option Datum
next_cut s word = datum_of_word (λ cut. when (cut_follows s cut) (Some cut)) s.kind word

unfoldable pub next_node : Draft → List ℕ → Option (List ℕ)
next_node s word = list_of_word (λ node. when (node_follows s node) (Some node)) s.section.rows word

abbrev pub table_at : Schema → Draft → List ℕ × List ℕ → ℕ → Option Table → Option TableWithRows
table_at schema s words place None = None
table_at schema s words place (Some table) =
    when (same_numbers (hex_text table.name) words.0 && list_all (λ (t : TableStats). nat_lt t.table place) s.tables)
    (number_of_word (λ rows. Some (record { table = table; place = place; rows = rows })) most_rows words.1)

unfoldable pub next_table : Schema → Draft → List ℕ × List ℕ → Option TableWithRows
next_table schema s words = first_below (λ place. table_at schema s words place (slice_get schema.tables place)) (length schema.tables)

abbrev pub is_later_pair : Table → Draft → List ℕ × List ℕ → ℕ → ℕ → Bool
is_later_pair table s words filter joined =
    same_numbers (hex_text (name_at table filter)) words.0 && same_numbers (hex_text (name_at table joined)) words.1
    && list_all (λ q. comes_before q (empty_pair filter joined)) s.section.pairs

unfoldable pub next_pair : Table → Draft → List ℕ × List ℕ → Option (ℕ × ℕ)
next_pair table s words =
    first_below (λ filter. first_below (λ joined. when (is_later_pair table s words filter joined) (Some (filter, joined))) (length table.columns))
    (length table.columns)
