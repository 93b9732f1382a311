-- Semi-joins of lists that are kept in buffers.
use Rattle.std.proofs.Common.{◌≡◌, ℕ, ◌<◌, ◌≤◌, true, List, [], Some, length, set, refl, ap, sym, ◌∙◌, subst, arith, inl, inr}
use Rattle.std.specs.Prelude.{All, slice_get}
use Rattle.std.proofs.lemmas.Bool.{cases_eq}
use Rattle.std.proofs.lemmas.List.{get_or-set_other, get_or-set_same, length-set, map-set}
use Rattle.std.proofs.lemmas.List.Elements.{All-filter}
use Rattle.std.proofs.lemmas.Option.{get_or_from_slice_get, slice_get_within}
use Rattle.berge_tree.specs.declared.edges.Place.{Place}
use Rattle.csv_tables.specs.declared.types.Database.{Database}
use Rattle.limits.specs.Profile.{most_rows}
use Rattle.row_buf.specs.Rows.{Rows}
use Rattle.sql_meaning.specs.Tables.{cells_of}
use Rattle.level_bounds.specs.Keys.{Keys}
use Rattle.join_steps.specs.Lists.{list_at, lists_of}
use Rattle.reduced_scans.specs.Lists.{AreRowLists}
use Rattle.reduced_scans.specs.SemiJoins.{IsJoinedAt, IsSemiJoin}
use Rattle.reduced_scans.specs.Wiring.{key_on}
use Rattle.reduced_scans.proofs.ByRounds.{filter_shrinks}
use Rattle.join_steps.proofs.WholeScans.{length-lists_of}
use Rattle.level_bounds.proofs.NearWhole.{filter_true_is_list}
use Rattle.reduced_scans.proofs.OfQuery.{read_list}

pub got_list : (lists : List (Rows ℕ)) (entry : ℕ) (list : Rows ℕ) → slice_get lists entry ≡ Some list → list.items ≡ list_at (lists_of lists) entry
got_list lists entry list got = read_list lists entry list (slice_get_within lists entry list got) (sym (get_or_from_slice_get lists entry list list got))

module _ (key : Keys) (side other : Place) where
  -- unchanged lists are a semi-join too, in which every row passes
  pub unchanged_is_joined : (lists : List (List ℕ)) → IsJoinedAt key side other lists lists
  unchanged_is_joined lists = record {
    count = refl;
    joined = record {
      test = λ row. true;
      filtered = sym (filter_true_is_list (list_at lists side.entry));
      passes = λ row partner in_list in_partners same. refl;
    };
    elsewhere = λ entry apart. refl;
  }

  pub joined_at : (lists new : List (Rows ℕ)) (kept : Rows ℕ) → side.entry < length lists → new ≡ set lists side.entry kept
      → IsSemiJoin (key_on key side) (key_on key other) (list_at (lists_of lists) side.entry) (list_at (lists_of lists) other.entry) kept.items
      → IsJoinedAt key side other (lists_of lists) (lists_of new)
  joined_at lists new kept in_range is join =
      let same : lists_of new ≡ set (lists_of lists) side.entry kept.items = ap lists_of is ∙ map-set (λ (l : Rows ℕ). l.items) lists side.entry kept in
      let here : list_at (lists_of new) side.entry ≡ kept.items =
      ap (λ (l : List (List ℕ)). list_at l side.entry) same ∙ get_or-set_same (lists_of lists) side.entry kept.items [] (omega (arith, length-lists_of lists)) in
      record {
        count = ap (λ (l : List (List ℕ)). length l) same ∙ length-set (lists_of lists) side.entry kept.items;
        joined = subst (IsSemiJoin (key_on key side) (key_on key other) (list_at (lists_of lists) side.entry) (list_at (lists_of lists) other.entry)) (sym here) join;
        elsewhere = λ entry apart. ap (λ (l : List (List ℕ)). list_at l entry) same ∙ get_or-set_other (lists_of lists) side.entry entry kept.items [] apart;
      }

  -- after a semi-join the lists are still lists of rows of the database, since no list became longer or got new rows
  pub joined_lists : (db : Database) (old new : List (Rows ℕ)) → AreRowLists db old → IsJoinedAt key side other (lists_of old) (lists_of new) → AreRowLists db new
  joined_lists db old new are joined =
      let count : length new ≡ length old = sym (length-lists_of new) ∙ joined.count ∙ length-lists_of old in
      record {
        tables = are.tables;
        count = count ∙ are.count;
        few = omega (arith, count, are.few);
        rows = λ entry entry_in_range. elim (cases_eq entry side.entry) [
          | inl same ↦ (let within : ℕ → Type 0 = λ row. row < (cells_of db entry).rows in
              let old_rows : All within (list_at (lists_of old) side.entry) = subst (λ (k : ℕ). All within (list_at (lists_of old) k)) same (are.rows entry (omega (arith, count, entry_in_range))) in
              let filtered : All within (list_at (lists_of new) side.entry) =
              subst (All within) (sym joined.joined.filtered) (All-filter joined.joined.test within (list_at (lists_of old) side.entry) old_rows) in
              subst (λ (k : ℕ). All within (list_at (lists_of new) k)) (sym same) filtered)
          | inr apart ↦ subst (All (λ row. row < (cells_of db entry).rows)) (sym (joined.elsewhere entry apart)) (are.rows entry (omega (arith, count, entry_in_range)))
        ];
        sizes = λ entry. elim (cases_eq entry side.entry) [
          | inl same ↦ omega (
            arith,
            ap (λ (k : ℕ). length (list_at (lists_of new) k)) same,
            ap (λ (l : List ℕ). length l) joined.joined.filtered,
            filter_shrinks joined.joined.test (list_at (lists_of old) side.entry),
            are.sizes side.entry,
          )
          | inr apart ↦ omega (arith, ap (λ (l : List ℕ). length l) (joined.elsewhere entry apart), are.sizes entry)
        ];
      }

-- ---- copies of lists are lists of rows of the database

pub lists_alike : (db : Database) (scans lists : List (Rows ℕ)) → AreRowLists db scans → lists_of lists ≡ lists_of scans → AreRowLists db lists
lists_alike db scans lists are same =
    let count : length lists ≡ length scans = sym (length-lists_of lists) ∙ ap (λ (l : List (List ℕ)). length l) same ∙ length-lists_of scans in
    record {
      tables = are.tables;
      count = count ∙ are.count;
      few = omega (arith, count, are.few);
      rows = λ entry entry_in_range. subst (λ (l : List (List ℕ)). All (λ row. row < (cells_of db entry).rows) (list_at l entry)) (sym same) (are.rows entry (omega (arith, count, entry_in_range)));
      sizes = λ entry. subst (λ (l : List (List ℕ)). length (list_at l entry) ≤ most_rows) (sym same) (are.sizes entry);
    }
