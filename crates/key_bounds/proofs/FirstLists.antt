-- The lists of the first entry are added one after another, each for a different column.
use Rattle.std.proofs.Common.{◌≡◌, ◌≢◌, ◌⊎◌, inl, inr, ℕ, ◌+◌, ◌<◌, ◌≤◌, List, length, map, get_or, slice_get, None, Some, option_map, sum, ap, sym, ◌∙◌, subst, refl, arith}
use Rattle.std.specs.Prelude.{IsSome}
use Rattle.std.specs.List.{All, Contains}
use Rattle.std.proofs.lemmas.Bool.{cases_eq}
use Rattle.std.proofs.lemmas.Bool.Decides.{Decides-eqb}
use Rattle.std.proofs.lemmas.List.{get_or-map, length-map}
use Rattle.std.proofs.lemmas.List.Elements.{Contains-get_or}
use Rattle.std.proofs.lemmas.Map.Made.{AllPairs-from_IsDistinct}
use Rattle.std.proofs.lemmas.Option.{get_or_from_slice_get}
use Rattle.level_bounds.proofs.Lists.{in_map}
use Rattle.bound_fold.specs.declared.lists.EntryLists.{EntryLists}
use Rattle.bound_fold.specs.Lists.{list_of, row_bound_of}
use Rattle.predicate_bounds.specs.declared.columns.ColumnSteps.{ColumnSteps}
use Rattle.predicate_bounds.specs.declared.columns.EntryStats.{EntryStats}
use Rattle.predicate_bounds.specs.declared.columns.QueryStats.{QueryStats}
use Rattle.predicate_bounds.specs.StatsLists.{column_steps, columns_of, first_steps, list_in_stats, no_columns, row_bound_in_stats}
use Rattle.gathered_stats.proofs.StatisticsOfTables.{first_has, found_has}
use Rattle.key_bounds.specs.Carrying.{ListsSumToRows}
use Rattle.key_bounds.proofs.Made.{is_some}

abbrev IsThere : ColumnSteps → Type 0
IsThere g = g.column ≡ g.column

abbrev number_of : QueryStats → ℕ → ℕ
number_of stats k = get_or (map (λ g. g.column) (columns_of stats 0)) k 0

pub record AreAdded (stats : QueryStats) (entry i : ℕ) (made : EntryLists) : Type 0 where
  pub rows : row_bound_of made entry ≡ Some (row_bound_in_stats stats 0)
  pub there : (k : ℕ) → k < i → list_of made entry (number_of stats k) ≡ Some (list_in_stats stats 0 (number_of stats k))
  pub later : (k : ℕ) → i ≤ k → k < length (columns_of stats 0) → list_of made entry (number_of stats k) ≡ None

module _ (stats : QueryStats) (adds : ListsSumToRows stats) where
  abbrev columns : List ColumnSteps
  columns = columns_of stats 0

  abbrev number_at : ℕ → ℕ
  number_at k = number_of stats k

  pub columns_read : (first : EntryStats) (read : List ColumnSteps) → slice_get stats.entries 0 ≡ Some first → read ≡ first.columns → read ≡ columns
  columns_read first read at same = same ∙ sym (ap (λ (e : EntryStats). e.columns) (get_or_from_slice_get stats.entries 0 first no_columns at))

  pub first_there : IsSome (first_steps stats 0)
  first_there =
      let first = first_has IsThere columns adds.some (λ k d k_in_range. refl) in
      is_some (first_steps stats 0) first.0.steps (ap (option_map (λ (g : ColumnSteps). g.steps)) first.1)

  pub column_there : (i : ℕ) (d : ColumnSteps) → i < length columns → IsSome (column_steps stats 0 (get_or columns i d).column)
  column_there i d in_range =
      let has : Contains (map (λ (g : ColumnSteps). g.column) columns) (get_or columns i d).column =
      in_map (λ (g : ColumnSteps). g.column) columns (get_or columns i d) (Contains-get_or columns i d in_range) in
      let one = found_has IsThere columns (get_or columns i d).column has (λ k d in_range. refl) in
      is_some (column_steps stats 0 (get_or columns i d).column) one.0.steps (ap (option_map (λ (g : ColumnSteps). g.steps)) one.1)

  module _ (entry : ℕ) where
    pub first_is_added : (made : EntryLists) → row_bound_of made entry ≡ Some (row_bound_in_stats stats 0) → ((column : ℕ) → list_of made entry column ≡ None) → AreAdded stats entry 0 made
    first_is_added made rows none = record {
      rows = rows;
      there = λ k k_in_range. absurd (omega (arith, k_in_range));
      later = λ k past k_in_range. none (number_at k);
    }

    number_is : (i : ℕ) (one : ColumnSteps) → i < length columns → one ≡ get_or columns i one → one.column ≡ number_at i
    number_is i one i_in_range at = ap (λ (g : ColumnSteps). g.column) at ∙ sym (get_or-map (λ (g : ColumnSteps). g.column) columns i one 0 i_in_range)

    pub not_there : (i : ℕ) (one : ColumnSteps) (made : EntryLists) → i < length columns → one ≡ get_or columns i one → AreAdded stats entry i made → list_of made entry one.column ≡ None
    not_there i one made i_in_range at before = ap (list_of made entry) (number_is i one i_in_range at) ∙ before.later i (omega arith) i_in_range

    pub as_many_rows : (i : ℕ) (one : ColumnSteps) (list : List ℕ) (made : EntryLists) → i < length columns → one ≡ get_or columns i one → AreAdded stats entry i made → list ≡ list_in_stats stats 0 one.column
        → row_bound_of made entry ≡ Some (sum list)
    as_many_rows i one list made i_in_range at before is =
        before.rows ∙ ap Some (sym (ap sum (is ∙ ap (λ (g : ColumnSteps). list_in_stats stats 0 g.column) at) ∙ adds.sums i one i_in_range))

    apart : (i k : ℕ) → i < k → k < length columns → number_at i ≢ number_at k
    apart i k less k_in_range =
        AllPairs-from_IsDistinct Decides-eqb (map (λ (g : ColumnSteps). g.column) columns) adds.apart i k 0 less (omega (arith, k_in_range, length-map columns (λ (g : ColumnSteps). g.column)))

    pub one_added : (i : ℕ) (one : ColumnSteps) (list : List ℕ) (old new : EntryLists) → i < length columns → one ≡ get_or columns i one → AreAdded stats entry i old → list ≡ list_in_stats stats 0 one.column
        → list_of new entry one.column ≡ Some list → ((e c : ℕ) → ((e ≢ entry) ⊎ (c ≢ one.column)) → list_of new e c ≡ list_of old e c)
        → ((other : ℕ) → row_bound_of new other ≡ row_bound_of old other) → AreAdded stats entry (i + 1) new
    one_added i one list old new i_in_range at before is set others rows =
        let number : one.column ≡ number_at i = number_is i one i_in_range at in
        record {
          rows = rows entry ∙ before.rows;
          there = λ k less. elim (cases_eq k i) [
            | inl same ↦ subst (λ (n : ℕ). list_of new entry (number_at n) ≡ Some (list_in_stats stats 0 (number_at n))) (sym same)
                (subst (λ (c : ℕ). list_of new entry c ≡ Some (list_in_stats stats 0 c)) number (set ∙ ap Some is))
            | inr differs ↦ (let earlier : k < i = omega (arith, less, differs) in
                others entry (number_at k) (inr (λ like. apart k i earlier i_in_range (like ∙ number))) ∙ before.there k earlier)
          ];
          later = λ k past within. others entry (number_at k) (inr (λ like. apart i k (omega (arith, past)) within (sym (like ∙ number)))) ∙ before.later k (omega (arith, past)) within;
        }

    pub all_added : (i : ℕ) (made : EntryLists) → length columns ≤ i → AreAdded stats entry i made → All (λ g. list_of made entry g.column ≡ Some (list_in_stats stats 0 g.column)) columns
    all_added i made past added k d k_in_range =
        subst (λ (c : ℕ). list_of made entry c ≡ Some (list_in_stats stats 0 c)) (get_or-map (λ (g : ColumnSteps). g.column) columns k d 0 k_in_range) (added.there k (omega (arith, k_in_range, past)))
