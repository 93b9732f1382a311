-- The last level of any order of all entries has the rows of the query's answer, in some order.
use Rattle.std.proofs.Common.{◌≡◌, ℕ, zero, suc, ◌+◌, ◌≤◌, List, [], ◌∷◌, length, get_or, map, slice_index, refl, ap, sym, ◌∙◌, subst, arith, inl, inr}
use Rattle.std.specs.Prelude.{IsPermutation}
use Rattle.std.specs.List.{range_with_len}
use Rattle.std.proofs.Math.Path.{fun_ext}
use Rattle.std.proofs.lemmas.Bool.{cases_Bool, cases_lt}
use Rattle.std.proofs.lemmas.List.{take_all}
use Rattle.std.proofs.lemmas.List.FromFn.{length-range_with_len, length-map-range_with_len, get_or-map-range_with_len}
use Rattle.std.proofs.lemmas.List.Sorted.{IsPermutation-map}
use Rattle.csv_tables.specs.Rows.{Row}
use Rattle.query_types.specs.declared.types.Query.{Query}
use Rattle.query_types.specs.Named.{NamesItsEntries}
use Rattle.sql_meaning.specs.Answers.{answer, chosen, conjuncts_of, entries_of, selected}
use Rattle.sql_meaning.specs.Levels.{level_of, row_in}
use Rattle.sql_meaning.specs.Tables.{Tables, row_counts}
use Rattle.sql_meaning.proofs.AnswerFacts.{last_level_is_chosen}
use Rattle.level_bounds.specs.Orders.{IsOrderOfSet, reordered}
use Rattle.level_bounds.specs.Scans.{level_over_entries}
use Rattle.level_bounds.proofs.Lists.{is_in, in_from_test, map_of_map, range_within}
use Rattle.level_bounds.proofs.Choosing.{order_entry_in_set, row_in_outside}
use Rattle.level_bounds.proofs.Reordering.{rearranged}
use Rattle.level_bounds.proofs.SetNumbers.{range_is_order}

past_end : (xs : List ℕ) (i : ℕ) → length xs ≤ i → get_or xs i 0 ≡ 0
past_end [] i h = refl
past_end (x ∷ xs) zero h = absurd (omega arith)
past_end (x ∷ xs) (suc i) h = past_end xs i (omega arith)

slice_index_of_mapped : (n : ℕ) (f : ℕ → ℕ) → ((x : ℕ) → n ≤ x → f x ≡ 0) → slice_index (map f (range_with_len 0 n)) ≡ f
slice_index_of_mapped n f out = fun_ext at
  where
    at : (x : ℕ) → slice_index (map f (range_with_len 0 n)) x ≡ f x
    at x = elim (cases_lt x n) [
      | inl low ↦ (let start : 0 + x ≡ x = omega arith in get_or-map-range_with_len f 0 n x x 0 low start)
      | inr high ↦ past_end (map f (range_with_len 0 n)) x (omega (arith, length-map-range_with_len f 0 n)) ∙ sym (out x high)
    ]

pub level_is_chosen : (query : Query) (tables : Tables) → NamesItsEntries query → level_over_entries query tables (entries_of query) ≡ chosen query tables
level_is_chosen query tables own =
    sym (ap (level_of (conjuncts_of query tables) (row_counts tables)) (take_all (length query.from) (entries_of query) (omega (arith, length-range_with_len 0 (length query.from)))))
    ∙ last_level_is_chosen query tables own

pub last_level_is_answer : (query : Query) (tables : Tables) (order : List ℕ) → NamesItsEntries query → IsOrderOfSet (entries_of query) order
    → IsPermutation (map (λ choice. selected query tables (row_in order choice)) (level_over_entries query tables order)) (answer query tables)
last_level_is_answer query tables order own o =
    subst (λ (rows : List Row). IsPermutation rows (answer query tables))
    (map_of_map values (reordered order (entries_of query)) (λ choice. selected query tables (row_in order choice)) same_values (level_over_entries query tables order))
    (subst (λ (choices : List (List ℕ)). IsPermutation (map values (map (reordered order (entries_of query)) (level_over_entries query tables order))) (map values choices))
    (level_is_chosen query tables own)
    (IsPermutation-map values (map (reordered order (entries_of query)) (level_over_entries query tables order)) (level_over_entries query tables (entries_of query))
    (rearranged (conjuncts_of query tables) (row_counts tables) (entries_of query) order (entries_of query) o itself)))
  where
    values : List ℕ → Row
    values choice = selected query tables (slice_index choice)

    itself : IsOrderOfSet (entries_of query) (entries_of query)
    itself = range_is_order (length query.from)

    none_past : (choice : List ℕ) (x : ℕ) → length query.from ≤ x → row_in order choice x ≡ 0
    none_past choice x high = row_in_outside order choice x (elim (cases_Bool (is_in order x)) [
      | inl here ↦ absurd (omega (arith, (range_within 0 (length query.from) x (order_entry_in_set (entries_of query) order o x (in_from_test order x here))).1))
      | inr gone ↦ gone
    ])

    same_values : (choice : List ℕ) → values (reordered order (entries_of query) choice) ≡ selected query tables (row_in order choice)
    same_values choice = ap (selected query tables) (slice_index_of_mapped (length query.from) (row_in order choice) (none_past choice))
