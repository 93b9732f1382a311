-- The searches for a table and for a pair of columns find those that words name. An index of an earlier pair is the first one.
use Rattle.std.proofs.Common.{◌≡◌, ◌≢◌, ℕ, zero, suc, ◌+◌, ◌<◌, ◌≤◌, Bool, true, false, List, [], ◌∷◌, length, refl, ap, subst, ◌∙◌, arith, Option, Some, None}
use Rattle.std.specs.Prelude.{All, slice_get, decimal, ◌==◌, if◌then◌else◌}
use Rattle.std.proofs.lemmas.Option.{slice_get_within}
use Rattle.limits.specs.Profile.{most_rows}
use Rattle.schema_types.specs.declared.types.Column.{Column}
use Rattle.schema_types.specs.declared.types.Schema.{Schema}
use Rattle.schema_types.specs.declared.types.Table.{Table}
use Rattle.stats_file.specs.declared.types.PairStats.{PairStats}
use Rattle.stats_file.specs.declared.types.TableStats.{TableStats}
use Rattle.stats_file.specs.FileText.{name_at}
use Rattle.stats_file.specs.Lines.{hex_text}
use Rattle.stats_file.specs.Rules.{ComesBefore}
use Rattle.stats_reading.specs.declared.draft.Draft.{Draft}
use Rattle.stats_reading.specs.Drafts.{empty_pair, pair_words, table_words, BeginsPair, IsPlaceOf, MayBePair, MayBeTable, TableWithRows}
use Rattle.stats_reading.proofs.BeginsAndEnds.{table_with_rows}
use Rattle.stats_lines.specs.Searches.{when, first_below}
use Rattle.stats_lines.specs.NextValues.{comes_before, is_later_pair, next_pair, next_table, table_at}
use Rattle.stats_lines.specs.Results.{kind_of, pair_begun, place_of}
use Rattle.stats_lines.proofs.Deciding.{tells_all, tells_and, tells_equal, tells_less, tells_or, tells_same_numbers, finds_alike, finds_below, finds_one, finds_when, Finds, SomeBelow, Tells}
use Rattle.stats_lines.proofs.Values.{number, Spelled}
use Rattle.stats_lines.proofs.Next.{IsNext}

-- ---- tables

-- the table at this place has the name and the number of rows that the words spell
record IsTableAt (schema : Schema) (s : Draft) (words : List ℕ × List ℕ) (place : ℕ) (found : Option Table) (x : TableWithRows) : Type 0 where
  table : Table
  is : found ≡ Some table
  name : hex_text table.name ≡ words.0
  later : All (λ (t : TableStats). t.table < place) s.tables
  rows : Spelled decimal (λ n. n ≤ most_rows) (λ rows x. table_with_rows table place rows ≡ x) words.1 x

found_at : (schema : Schema) (s : Draft) (words : List ℕ × List ℕ) (place : ℕ) (found : Option Table) → Finds (table_at schema s words place found) (IsTableAt schema s words place found)
found_at schema s words place None = record { some = λ x e. absurd (cc); none = λ e x h. let is = h.is in cc }
found_at schema s words place (Some table) =
    finds_alike to from
    (finds_when (tells_and (tells_same_numbers (hex_text table.name) words.0) (tells_all {P = λ (t : TableStats). t.table < place} (λ t. tells_less t.table place) s.tables))
    (number {R = λ rows x. table_with_rows table place rows ≡ x} (λ rows. finds_one (table_with_rows table place rows)) most_rows words.1))
  where
    Parts : TableWithRows → Type 0
    Parts x =
        ((hex_text table.name ≡ words.0) × All (λ (t : TableStats). t.table < place) s.tables)
        × Spelled decimal (λ n. n ≤ most_rows) (λ rows x. table_with_rows table place rows ≡ x) words.1 x

    to : (x : TableWithRows) → Parts x → IsTableAt schema s words place (Some table) x
    to x h = record { table = table; is = refl; name = h.0.0; later = h.0.1; rows = h.1 }

    from : (x : TableWithRows) → IsTableAt schema s words place (Some table) x → Parts x
    from x h =
        let is = h.is in
        let same : h.table ≡ table = cc in (
          (subst (λ (t : Table). hex_text t.name ≡ words.0) same h.name, h.later),
          subst (λ (t : Table). Spelled decimal (λ n. n ≤ most_rows) (λ rows x. table_with_rows t place rows ≡ x) words.1 x) same h.rows,
        )

pub table_found : (schema : Schema) (s : Draft) (words : List ℕ × List ℕ) → Finds (next_table schema s words) (IsNext table_words (MayBeTable schema s) words)
unfolding next_table
table_found schema s words =
    finds_alike to from
    (finds_below {R = λ place. IsTableAt schema s words place (slice_get schema.tables place)} (λ place. found_at schema s words place (slice_get schema.tables place)) (length schema.tables))
  where
    pair : List ℕ → List ℕ → List ℕ × List ℕ
    pair a b = (a, b)

    to : (x : TableWithRows) → SomeBelow (λ place. IsTableAt schema s words place (slice_get schema.tables place)) (length schema.tables) x → IsNext table_words (MayBeTable schema s) words x
    to x h =
        let t = h.holds in
        let rows = t.rows in
        subst (IsNext table_words (MayBeTable schema s) words) rows.gives (record {
          may = record { exists = t.is; later = t.later; within_limit = rows.may };
          spells = ap (λ (y : List ℕ). pair y (decimal rows.value)) t.name ∙ ap (λ (y : List ℕ). pair words.0 y) rows.spells;
        })

    from : (x : TableWithRows) → IsNext table_words (MayBeTable schema s) words x → SomeBelow (λ place. IsTableAt schema s words place (slice_get schema.tables place)) (length schema.tables) x
    from x h = record {
      n = x.place;
      below = slice_get_within schema.tables x.place x.table h.may.exists;
      holds = record {
        table = x.table;
        is = h.may.exists;
        name = ap (λ (p : List ℕ × List ℕ). p.0) h.spells;
        later = h.may.later;
        rows = record { value = x.rows; may = h.may.within_limit; spells = ap (λ (p : List ℕ × List ℕ). p.1) h.spells; gives = refl };
      };
    }

-- ---- pairs

before : (a b : PairStats) → Tells (comes_before a b) (ComesBefore a b)
before a b = tells_or (tells_less a.filter b.filter) (tells_and (tells_equal a.filter b.filter) (tells_less a.joined b.joined))

module _ (table : Table) (s : Draft) (words : List ℕ × List ℕ) where
  abbrev IsLater : ℕ → ℕ → Type 0
  IsLater filter joined =
      ((hex_text (name_at table filter) ≡ words.0) × (hex_text (name_at table joined) ≡ words.1)) × All (λ q. ComesBefore q (empty_pair filter joined)) s.section.pairs

  later_pair : (filter joined : ℕ) → Tells (is_later_pair table s words filter joined) (IsLater filter joined)
  later_pair filter joined =
      tells_and (tells_and (tells_same_numbers (hex_text (name_at table filter)) words.0) (tells_same_numbers (hex_text (name_at table joined)) words.1))
      (tells_all {P = λ q. ComesBefore q (empty_pair filter joined)} (λ q. before q (empty_pair filter joined)) s.section.pairs)

  abbrev IsPair : ℕ → ℕ → ℕ × ℕ → Type 0
  IsPair filter joined x = IsLater filter joined × ((filter, joined) ≡ x)

  abbrev MayBe : ℕ × ℕ → Type 0
  MayBe c = MayBePair table s c.0 c.1

  pub pair_found : Finds (next_pair table s words) (IsNext (pair_words table) MayBe words)
  unfolding next_pair
  pair_found =
      finds_alike to from
      (finds_below {at = λ i. first_below (λ j. when (is_later_pair table s words i j) (Some (i, j))) (length table.columns)} {R = λ i. SomeBelow (IsPair i) (length table.columns)}
      (λ i. finds_below {at = λ j. when (is_later_pair table s words i j) (Some (i, j))} {R = IsPair i} (λ j. finds_when (later_pair i j) (finds_one (i, j))) (length table.columns))
      (length table.columns))
    where
      pair : List ℕ → List ℕ → List ℕ × List ℕ
      pair a b = (a, b)

      to : (x : ℕ × ℕ) → SomeBelow (λ i. SomeBelow (IsPair i) (length table.columns)) (length table.columns) x → IsNext (pair_words table) MayBe words x
      to x h =
          let i = h.n in
          let j = h.holds.n in
          let later = h.holds.holds.0 in
          subst (IsNext (pair_words table) MayBe words) h.holds.holds.1 (record {
            may = record { filter_is = h.below; joined_is = h.holds.below; later = later.1 };
            spells = ap (λ (y : List ℕ). pair y (hex_text (name_at table j))) later.0.0 ∙ ap (λ (y : List ℕ). pair words.0 y) later.0.1;
          })

      from : (x : ℕ × ℕ) → IsNext (pair_words table) MayBe words x → SomeBelow (λ i. SomeBelow (IsPair i) (length table.columns)) (length table.columns) x
      from x h = record {
        n = x.0;
        below = h.may.filter_is;
        holds = record {
          n = x.1;
          below = h.may.joined_is;
          holds = (((ap (λ (p : List ℕ × List ℕ). p.0) h.spells, ap (λ (p : List ℕ × List ℕ). p.1) h.spells), h.may.later), refl);
        };
      }

-- ---- earlier pairs

pub place_is : (column : PairStats → ℕ) (wanted : ℕ) (pairs : List PairStats) → IsPlaceOf column wanted pairs (place_of column wanted pairs)
unfolding place_of
place_is column wanted [] = record { found = λ q e. absurd (cc); none = λ e k d lt. absurd (omega arith) }
place_is column wanted (p ∷ pairs) = by (column p == wanted) (tells_equal (column p) wanted) (place_is column wanted pairs)
  where
    by : (same : Bool) → Tells same (column p ≡ wanted) → IsPlaceOf column wanted pairs (place_of column wanted pairs)
        → IsPlaceOf column wanted (p ∷ pairs) (if same then 0 else place_of column wanted pairs + 1)
    by true is rest = record { found = λ q e. let there : p ≡ q = cc in subst (λ (x : PairStats). column x ≡ wanted) there (is.yes refl); none = λ e. absurd (cc) }
    by false is rest = subst (IsPlaceOf column wanted (p ∷ pairs)) next (record { found = rest.found; none = λ e. all (rest.none e) })
      where
        next : suc (place_of column wanted pairs) ≡ place_of column wanted pairs + 1
        next = omega arith

        all : All (λ q. column q ≢ wanted) pairs → All (λ q. column q ≢ wanted) (p ∷ pairs)
        all h zero d lt = λ e. is.no refl e
        all h (suc k) d lt = h k d (omega arith)

pub begins : (table : Table) (s : Draft) (c : ℕ × ℕ) → c.0 < length table.columns → BeginsPair table s (pair_begun table s c) c.0 c.1
begins table s c lt = by (slice_get table.columns c.0) refl
  where
    none_within : {X : Type 0} (xs : List X) (k : ℕ) → k < length xs → slice_get xs k ≡ None → ⊥
    none_within [] k lt e = omega arith
    none_within (x ∷ xs) zero lt e = cc
    none_within (x ∷ xs) (suc k) lt e = none_within xs k (omega arith) e

    by : (found : Option Column) → slice_get table.columns c.0 ≡ found → BeginsPair table s (pair_begun table s c) c.0 c.1
    by None e = absurd (none_within table.columns c.0 lt e)
    by (Some column) e = record {
      column = column;
      column_is = e;
      same_filter_at = place_is (λ q. q.filter) c.0 s.section.pairs;
      same_joined_at = place_is (λ q. q.joined) c.1 s.section.pairs;
      whole = ap (λ kind. record (pair_begun table s c) { kind = kind }) (ap kind_of e);
    }
