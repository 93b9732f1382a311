-- Pairs and tables ascend. So a new pair or table comes after all earlier ones exactly if it comes after the last.
use Rattle.std.proofs.Common.{◌≡◌, ◌≢◌, ◌↔◌, ℕ, ◌-◌, ◌<◌, ◌≤◌, ◌==◌, false, inl, inr, List, [], length, get_or, sym, subst, arith, append-nil}
use Rattle.std.specs.Prelude.{All, AllPairs}
use Rattle.std.proofs.lemmas.Bool.{eqb-false}
use Rattle.std.proofs.lemmas.Option.{get_or_from_slice_get, slice_get_within}
use Rattle.schema_types.specs.declared.types.Schema.{Schema}
use Rattle.stats_file.specs.declared.types.PairStats.{PairStats}
use Rattle.stats_file.specs.declared.types.TableStats.{TableStats}
use Rattle.stats_file.specs.Rules.{KeepsRules, ComesBefore}
use Rattle.stats_reading.specs.declared.draft.Draft.{Draft}
use Rattle.stats_reading.specs.declared.stages.Stage.TheVariants as stage
use Rattle.stats_reading.specs.Drafts.{empty_pair, pair_ended, table_ended, IsPlaceOf, PairsAscend, TablesAscend}
use Rattle.stats_reading.specs.Remaining.{file_of_draft}
use Rattle.stats_reading.specs.Steps.{PairEnds, TableEnds}
use Rattle.stats_reading.specs.Valid.{IsValidDraft, IsValidSection}
use Rattle.stats_reading.proofs.Begun.{pair_ended_valid, table_ended_valid}
use Rattle.stats_reading.proofs.OrderFacts.{last_implies_all}
use Rattle.stats_reading.proofs.RuleFacts.{section_at}
use Rattle.stats_reading.proofs.Stepping.{weaker_valid}

pub positive_if_not_zero : (n : ℕ) → (n == 0) ≡ false → 0 < n
positive_if_not_zero n e = let other = eqb-false n 0 e in omega (arith, other)

-- ---- pairs

comes_before_trans : (a b c : PairStats) → ComesBefore a b → ComesBefore b c → ComesBefore a c
comes_before_trans a b c (inl f) (inl g) = inl (omega arith)
comes_before_trans a b c (inl f) (inr (g, h)) = inl (omega arith)
comes_before_trans a b c (inr (f, g)) (inl h) = inl (omega arith)
comes_before_trans a b c (inr (f, g)) (inr (h, k)) = inr (omega arith, omega arith)

filters_ascend : (a b : PairStats) → ComesBefore a b → a.filter ≤ b.filter
filters_ascend a b (inl f) = omega arith
filters_ascend a b (inr (f, g)) = omega arith

pub later_than_last : (pairs : List PairStats) (pair : PairStats) (d : PairStats) → 0 < length pairs → AllPairs ComesBefore pairs
    → ComesBefore (get_or pairs (length pairs - 1) d) pair ↔ All (λ q. ComesBefore q pair) pairs
later_than_last pairs pair d some ascend = (
  λ h. last_implies_all ComesBefore (λ q. ComesBefore q pair) (λ a b. comes_before_trans a b pair) pairs ascend
      (λ last at. subst (λ (q : PairStats). ComesBefore q pair) (get_or_from_slice_get pairs (length pairs - 1) last d at) h),
  λ all. all (length pairs - 1) d (omega arith),
)

pub later_than : (pairs : List PairStats) (pair : PairStats) (q : PairStats) → q ≡ get_or pairs (length pairs - 1) q → 0 < length pairs → AllPairs ComesBefore pairs
    → ComesBefore q pair ↔ All (λ p. ComesBefore p pair) pairs
later_than pairs pair q is some ascend =
    let same = later_than_last pairs pair q some ascend in
    (λ h. same.0 (subst (λ (p : PairStats). ComesBefore p pair) is h), λ all. subst (λ (p : PairStats). ComesBefore p pair) (sym is) (same.1 all))

pub no_pair_with_filter : (pairs : List PairStats) (filter : ℕ) (d : PairStats) → 0 < length pairs → AllPairs ComesBefore pairs → All (λ (q : PairStats). q.filter ≤ filter) pairs
    → (get_or pairs (length pairs - 1) d).filter ≢ filter → IsPlaceOf (λ (q : PairStats). q.filter) filter pairs (length pairs)
no_pair_with_filter pairs filter d some ascend within other = record {
  found = λ q at. let lt = slice_get_within pairs (length pairs) q at in absurd (omega (arith, lt));
  none = λ at k e lt f. let below = all_below k e lt in omega (arith, below, f);
}
  where
    below_filter : (get_or pairs (length pairs - 1) d).filter < filter
    below_filter = let le = within (length pairs - 1) d (omega arith) in omega (arith, le, other)

    all_below : All (λ (q : PairStats). q.filter < filter) pairs
    all_below = last_implies_all ComesBefore (λ (q : PairStats). q.filter < filter) (λ a b before lt. let le = filters_ascend a b before in omega (arith, le, lt)) pairs ascend
        (λ last at. subst (λ (q : PairStats). q.filter < filter) (get_or_from_slice_get pairs (length pairs - 1) last d at) below_filter)

pub none_later : (pairs : List PairStats) (filter joined : ℕ) → All (λ q. ComesBefore q (empty_pair filter joined)) pairs → All (λ (q : PairStats). q.filter ≤ filter) pairs
none_later pairs filter joined all k d lt = filters_ascend (get_or pairs k d) (empty_pair filter joined) (all k d lt)

-- ---- tables

pub later_than_last_table : (tables : List TableStats) (place : ℕ) (d : TableStats) → 0 < length tables → AllPairs (λ (a b : TableStats). a.table < b.table) tables
    → ((get_or tables (length tables - 1) d).table < place) ↔ All (λ (t : TableStats). t.table < place) tables
later_than_last_table tables place d some ascend = (
  λ h. last_implies_all (λ (a b : TableStats). a.table < b.table) (λ (t : TableStats). t.table < place) (λ a b less lt. omega (arith, less, lt)) tables ascend
      (λ last at. subst (λ (t : TableStats). t.table < place) (get_or_from_slice_get tables (length tables - 1) last d at) h),
  λ all. all (length tables - 1) d (omega arith),
)

-- ---- the complete pairs and tables of a valid draft ascend

pairs_of_table : (schema : Schema) (s : Draft) → IsValidSection schema s → PairsAscend s
pairs_of_table schema s v = subst (AllPairs ComesBefore) (append-nil s.section.pairs) (section_at schema s [] [] v.keeps).order

tables_of_file : (schema : Schema) (s : Draft) → KeepsRules schema (file_of_draft s []) → TablesAscend s
tables_of_file schema s keeps = subst (AllPairs (λ (a b : TableStats). a.table < b.table)) (append-nil s.tables) keeps.order

ended_pairs : (schema : Schema) (s m : Draft) → IsValidSection schema (pair_ended s) → m ≡ pair_ended s → IsValidSection schema m
ended_pairs schema s m v e = subst (IsValidSection schema) (sym e) v

ended_tables : (schema : Schema) (s m : Draft) → IsValidSection schema s → m ≡ table_ended s → TablesAscend m
ended_tables schema s m v e = subst TablesAscend (sym e) (tables_of_file schema (table_ended s) (table_ended_valid schema s v))

pub pairs_ascend_in_pairs : (schema : Schema) (s : Draft) → IsValidDraft stage.Pairs schema s → (m : Draft) → PairEnds stage.Pairs s m → PairsAscend m
pairs_ascend_in_pairs schema s v m e = subst PairsAscend (sym e) (pairs_of_table schema s v)

pub pairs_ascend_in_cuts : (schema : Schema) (s : Draft) → IsValidDraft stage.Cuts schema s → (m : Draft) → PairEnds stage.Cuts s m → PairsAscend m
pairs_ascend_in_cuts schema s v m e = pairs_of_table schema m (ended_pairs schema s m (pair_ended_valid schema s v e.0) e.1)

pub pairs_ascend_in_nodes : (schema : Schema) (s : Draft) → IsValidDraft stage.Nodes schema s → (m : Draft) → PairEnds stage.Nodes s m → PairsAscend m
pairs_ascend_in_nodes schema s v m e = pairs_of_table schema m (ended_pairs schema s m (pair_ended_valid schema s (weaker_valid schema s v) e.0) e.1)

pub tables_ascend_in_tables : (schema : Schema) (s : Draft) → IsValidDraft stage.Tables schema s → (m : Draft) → TableEnds stage.Tables s m → TablesAscend m
tables_ascend_in_tables schema s v m e = subst TablesAscend (sym e) (tables_of_file schema s v)

pub tables_ascend_in_pairs : (schema : Schema) (s : Draft) → IsValidDraft stage.Pairs schema s → (m : Draft) → TableEnds stage.Pairs s m → TablesAscend m
tables_ascend_in_pairs schema s v m (u, ends, e) = ended_tables schema u m (subst (IsValidSection schema) (sym ends) v) e

pub tables_ascend_in_cuts : (schema : Schema) (s : Draft) → IsValidDraft stage.Cuts schema s → (m : Draft) → TableEnds stage.Cuts s m → TablesAscend m
tables_ascend_in_cuts schema s v m (u, ends, e) = ended_tables schema u m (ended_pairs schema s u (pair_ended_valid schema s v ends.0) ends.1) e

pub tables_ascend_in_nodes : (schema : Schema) (s : Draft) → IsValidDraft stage.Nodes schema s → (m : Draft) → TableEnds stage.Nodes s m → TablesAscend m
tables_ascend_in_nodes schema s v m (u, ends, e) = ended_tables schema u m (ended_pairs schema s u (pair_ended_valid schema s (weaker_valid schema s v) ends.0) ends.1) e
