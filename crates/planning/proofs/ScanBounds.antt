-- If statistics stand for tables, the bounds of entries from these statistics stand for the scans.
use Rattle.std.proofs.Common.{◌≡◌, ℕ, suc, ◌<◌, ◌≤◌, Bool, true, List, [], ◌∷◌, length, map, get_or, ap, sym, ◌∙◌, subst, sum, arith}
use Rattle.std.specs.Prelude.{if◌then◌else◌}
use Rattle.std.proofs.lemmas.Bool.{lt-ltb}
use Rattle.degree_sequences.specs.Domination.{DominatesKeys}
use Rattle.degree_sequences.specs.Descending.{IsDescending}
use Rattle.berge_tree.specs.declared.edges.Edge.{Edge}
use Rattle.berge_tree.specs.declared.edges.Place.{Place}
use Rattle.query_types.specs.declared.types.Query.{Query}
use Rattle.join_graph.specs.Conjuncts.{equalities_of}
use Rattle.tree_bounds.specs.Columns.{EachNamedColumn}
use Rattle.tree_bounds.specs.TreeBounds.{HasList}
use Rattle.sql_meaning.specs.Tables.{Tables}
use Rattle.join_steps.specs.Lists.{list_at, scans_of}
use Rattle.join_steps.proofs.WholeScans.{scans_of_at}
use Rattle.level_bounds.specs.Keys.{AreKeys, Keys}
use Rattle.filtered_lists.specs.Standing.{ListsDescend, ListsStandFor, SumTo}
use Rattle.filtered_lists.proofs.Counting.{list_dominates}
use Rattle.filtered_lists.proofs.Lists.{filtered_descends, sum-filtered}
use Rattle.query_bounds.specs.Bounds.{entry_bounds, is_among, joined_columns, scan_list, scan_row_bound}
use Rattle.query_bounds.specs.Statistics.{StandFor, Statistics}
use Rattle.query_bounds.proofs.Holding.{pair_at}
use Rattle.query_bounds.proofs.Levels.{scan_fits}
use Rattle.query_bounds.proofs.Sets.{both_among}
use Rattle.planning.specs.Standing.{ColumnStands, EntriesStand, JoinedHaveLists}

pub named_all : (Q : ℕ → ℕ → Type 0) (es : List Edge)
    → ((k : ℕ) (d : Edge) → k < length es → Q (get_or es k d).left.entry (get_or es k d).left.column × Q (get_or es k d).right.entry (get_or es k d).right.column)
    → EachNamedColumn Q es
named_all Q [] both = tt
named_all Q (e ∷ es) both =
    let here : Q e.left.entry e.left.column × Q e.right.entry e.right.column = both 0 e (omega arith) in
    (here.0, (here.1, named_all Q es (λ k d k_in_range. both (suc k) d (omega arith))))

module _ (query : Query) (known : Statistics) where
  rows_at : (entry : ℕ) → entry < length query.from → (entry_bounds query known).rows entry ≡ scan_row_bound query known entry
  rows_at entry entry_in_range = ap (λ (t : Bool). if t then scan_row_bound query known entry else 0) (lt-ltb entry (length query.from) entry_in_range)

  joined_list : (entry column : ℕ) → is_among (joined_columns query) entry column ≡ true
      → (entry_bounds query known).list entry column ≡ scan_list query known entry column
  joined_list entry column among = ap (λ (t : Bool). if t then scan_list query known entry column else []) among

  has_list : (entry column : ℕ) → ListsDescend (known.lists entry column) → SumTo (known.lists entry column) (known.counts entry)
      → entry < length query.from
      → is_among (joined_columns query) entry column ≡ true → HasList (entry_bounds query known) entry column
  has_list entry column descends sums entry_in_range among = record {
    descends = subst IsDescending (sym (joined_list entry column among)) (filtered_descends (known.lists entry column) entry query.conjuncts descends);
    total =
        ap (λ (s : List ℕ). sum s) (joined_list entry column among)
        ∙ sum-filtered (known.lists entry column) (known.counts entry) entry query.conjuncts sums ∙ sym (rows_at entry entry_in_range);
  }

  module _ (tables : Tables) (key : Keys) (stands : StandFor query known tables key) where
    scan_stands : (entry : ℕ) → entry < length query.from → length (list_at (scans_of query tables) entry) ≤ (entry_bounds query known).rows entry
    scan_stands entry entry_in_range =
        subst (λ (n : ℕ). length (list_at (scans_of query tables) entry) ≤ n) (sym (rows_at entry entry_in_range))
        (subst (λ (s : List ℕ). length s ≤ scan_row_bound query known entry) (sym (scans_of_at query tables entry entry_in_range))
        (scan_fits query known tables key entry stands entry_in_range))

    dominates : (entry column : ℕ) → is_among (joined_columns query) entry column ≡ true
        → ListsStandFor (known.lists entry column) tables entry (key entry column) → entry < length query.from
        → DominatesKeys ((entry_bounds query known).list entry column) (map (key entry column) (list_at (scans_of query tables) entry))
    dominates entry column among stand entry_in_range =
        subst (λ (s : List ℕ). DominatesKeys s (map (key entry column) (list_at (scans_of query tables) entry))) (sym (joined_list entry column among))
        (subst (λ (s : List ℕ). DominatesKeys (scan_list query known entry column) (map (key entry column) s)) (sym (scans_of_at query tables entry entry_in_range))
        (list_dominates (known.lists entry column) tables entry (key entry column) query.conjuncts stand))

    pub stand_for_scans : JoinedHaveLists query (entry_bounds query known) → AreKeys tables key (equalities_of query)
        → EntriesStand query tables (scans_of query tables) key (entry_bounds query known)
    stand_for_scans have keys = record {
      keys = keys;
      rows = scan_stands;
      columns = named_all (λ entry column. entry < length query.from → ColumnStands (scans_of query tables) key (entry_bounds query known) entry column) (equalities_of query) (λ k d k_in_range.
          let among = both_among (equalities_of query) k d k_in_range in
          let stand =
          pair_at (λ entry column. ListsStandFor (known.lists entry column) tables entry (key entry column))
          (equalities_of query) stands.lists k d k_in_range in
          let has = pair_at (λ entry column. entry < length query.from → HasList (entry_bounds query known) entry column) (equalities_of query) have k d k_in_range in
          let l : Place = (get_or (equalities_of query) k d).left in
          let r : Place = (get_or (equalities_of query) k d).right in (
            (λ below. record { has = has.0 below; dominates = dominates l.entry l.column among.0 stand.0 below }),
            (λ below. record { has = has.1 below; dominates = dominates r.entry r.column among.1 stand.1 below }),
          ));
    }

  pub have_lists : EachNamedColumn (λ entry column. ListsDescend (known.lists entry column) × SumTo (known.lists entry column) (known.counts entry)) (equalities_of query)
      → JoinedHaveLists query (entry_bounds query known)
  have_lists named =
      named_all (λ entry column. entry < length query.from → HasList (entry_bounds query known) entry column) (equalities_of query) (λ k d k_in_range.
      let among = both_among (equalities_of query) k d k_in_range in
      let both = pair_at (λ entry column. ListsDescend (known.lists entry column) × SumTo (known.lists entry column) (known.counts entry)) (equalities_of query) named k d k_in_range in
      let l : Place = (get_or (equalities_of query) k d).left in
      let r : Place = (get_or (equalities_of query) k d).right in (
        (λ below. has_list l.entry l.column both.0.0 both.0.1 below among.0),
        (λ below. has_list r.entry r.column both.1.0 both.1.1 below among.1),
      ))
