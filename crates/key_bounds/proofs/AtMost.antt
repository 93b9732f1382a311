-- The bound of each set is at most its bound without carried conjuncts.
use Rattle.std.proofs.Common.{◌≡◌, ℕ, ◌<◌, ◌≤◌, ◌^◌, Bool, true, List, [], length, sum, get_or, min, refl, ap, sym, ◌∙◌, subst, arith}
use Rattle.std.specs.Prelude.{if◌then◌else◌}
use Rattle.std.proofs.lemmas.Bool.{lt-ltb}
use Rattle.limits.specs.Profile.{top_bound}
use Rattle.degree_sequences.specs.Descending.{IsDescending}
use Rattle.degree_sequences.specs.RunningSums.{HasHigherSums}
use Rattle.berge_tree.specs.declared.edges.Edge.{Edge}
use Rattle.entry_sets.proofs.Listing.{entry_below}
use Rattle.schema_types.specs.declared.types.Schema.{Schema}
use Rattle.query_types.specs.declared.types.Query.{Query}
use Rattle.join_graph.specs.Conjuncts.{equalities_of}
use Rattle.tree_bounds.specs.SetBounds.{bound_of_set}
use Rattle.tree_bounds.specs.TreeBounds.{EntryBounds, HasList}
use Rattle.bound_fold.proofs.TestedSets.{each_in_set}
use Rattle.set_bounds.specs.AllSets.{in_every_set}
use Rattle.set_bounds.proofs.SetBySet.{bound_in_sets_at}
use Rattle.sql_meaning.specs.Tables.{Tables}
use Rattle.query_bounds.specs.Bounds.{entry_bounds, is_among, joined_columns, scan_list, scan_row_bound}
use Rattle.gathered_stats.specs.Statistics.{statistics_of}
use Rattle.planning.specs.Bounds.{set_bounds_of}
use Rattle.key_carriers.specs.Carriers.{carrying_equalities, carriers_to}
use Rattle.key_stats.specs.Lists.{carried_list, carried_rows}
use Rattle.key_bounds.specs.Bounds.{bounds_by_keys, set_bounds_by_keys}
use Rattle.key_bounds.proofs.Least.{least_at_most, least_below}
use Rattle.key_bounds.proofs.Lower.{SetIsAbove, set_at_most}
use Rattle.key_bounds.proofs.Standing.{at_named, keyed_falls, keyed_sum, list_is, rows_are, set_has_lists}

module _ (schema : Schema) (query : Query) (tables : Tables) (accuracy subset : ℕ) (fits : subset < 2 ^ length query.from) where
  abbrev base : EntryBounds
  base = entry_bounds query (statistics_of tables accuracy)

  abbrev keyed : EntryBounds
  keyed = bounds_by_keys schema query tables accuracy subset

  abbrev carried_edges_to : ℕ → List Edge
  carried_edges_to entry = carriers_to (carrying_equalities schema query) subset entry

  base_rows : (entry : ℕ) → entry < length query.from → base.rows entry ≡ scan_row_bound query (statistics_of tables accuracy) entry
  base_rows entry entry_in_range = ap (λ (b : Bool). if b then scan_row_bound query (statistics_of tables accuracy) entry else 0) (lt-ltb entry (length query.from) entry_in_range)

  base_list : (entry column : ℕ) → is_among (joined_columns query) entry column ≡ true → base.list entry column ≡ scan_list query (statistics_of tables accuracy) entry column
  base_list entry column among = ap (λ (b : Bool). if b then scan_list query (statistics_of tables accuracy) entry column else []) among

  base_has : (entry column : ℕ) → entry < length query.from → is_among (joined_columns query) entry column ≡ true → HasList base entry column
  base_has entry column entry_in_range among = record {
    descends = subst IsDescending (sym (base_list entry column among)) (keyed_falls query tables accuracy entry [] column);
    total = ap (λ (s : List ℕ). sum s) (base_list entry column among) ∙ keyed_sum query tables accuracy entry [] column ∙ sym (base_rows entry entry_in_range);
  }

  above : SetIsAbove base keyed (equalities_of query) subset
  above = record {
    rows = each_in_set (λ entry. keyed.rows entry ≤ base.rows entry) subset (λ entry small has.
        let entry_in_range : entry < length query.from = entry_below (length query.from) subset entry fits has in
        omega (
          arith,
          rows_are schema query tables accuracy subset entry entry_in_range,
          base_rows entry entry_in_range,
          least_at_most (carried_rows query tables) (scan_row_bound query (statistics_of tables accuracy) entry) (carried_edges_to entry),
        ));
    columns = at_named schema query tables accuracy subset fits (λ entry column. HasHigherSums (base.list entry column) (keyed.list entry column)) (λ entry column entry_in_range has among.
        subst (λ (s : List ℕ). HasHigherSums s (keyed.list entry column)) (sym (base_list entry column among))
        (subst (λ (s : List ℕ). HasHigherSums (scan_list query (statistics_of tables accuracy) entry column) s) (sym (list_is schema query tables accuracy subset entry column among))
        (least_below (λ e. carried_list query tables accuracy e column) (scan_list query (statistics_of tables accuracy) entry column) (carried_edges_to entry))));
  }

  at_most_base : bound_of_set keyed (equalities_of query) subset ≤ bound_of_set base (equalities_of query) subset
  at_most_base =
      set_at_most base keyed (equalities_of query) subset (set_has_lists schema query tables accuracy subset fits)
      (at_named schema query tables accuracy subset fits (HasList base) (λ entry column entry_in_range has among. base_has entry column entry_in_range among)) above

  pub set_bounds_at_most : get_or (set_bounds_by_keys schema query tables accuracy) subset 0 ≤ get_or (set_bounds_of query tables accuracy) subset 0
  set_bounds_at_most =
      let es : List Edge = equalities_of query in
      let n : ℕ = length query.from in
      let one : get_or (set_bounds_by_keys schema query tables accuracy) subset 0 ≡ min (bound_of_set keyed es subset) top_bound =
      bound_in_sets_at (bounds_by_keys schema query tables accuracy) es n subset (set_bounds_by_keys schema query tables accuracy) refl fits in
      let other : get_or (set_bounds_of query tables accuracy) subset 0 ≡ min (bound_of_set base es subset) top_bound =
      bound_in_sets_at (in_every_set base) es n subset (set_bounds_of query tables accuracy) refl fits in
      omega (arith, one, other, at_most_base)
