-- No level of a query has more rows than the bound of its set.
use Rattle.std.proofs.Common.{ℕ, ◌≤◌, List, length, map}
use Rattle.std.specs.List.{AllByRecursion}
use Rattle.std.proofs.lemmas.List.{length-map}
use Rattle.degree_sequences.specs.Domination.{DominatesKeys}
use Rattle.berge_tree.specs.declared.edges.Place.{Place}
use Rattle.berge_tree.specs.Equalities.{places_of}
use Rattle.entry_sets.specs.Sets.{entries_of_set}
use Rattle.query_types.specs.declared.types.Query.{Query}
use Rattle.join_graph.specs.Conjuncts.{equalities_of}
use Rattle.join_graph.specs.Kept.{equalities_within, joins_within}
use Rattle.tree_bounds.specs.Scans.{SatisfiesScanned, scanned}
use Rattle.tree_bounds.specs.SetBounds.{bound_of_set}
use Rattle.tree_bounds.specs.Tables.{ChoicesAreDifferent, Dominates, SetDominates}
use Rattle.tree_bounds.specs.TreeBounds.{EntryBounds}
use Rattle.sql_meaning.specs.Answers.{conjuncts_of}
use Rattle.sql_meaning.specs.Levels.{DependsOnNamed, row_in}
use Rattle.sql_meaning.specs.Tables.{Tables, row_counts}
use Rattle.sql_meaning.proofs.AskFacts.{depend_on_named}
use Rattle.level_bounds.specs.Equalities.{IsImplied}
use Rattle.level_bounds.specs.Keys.{JoinsEqualKeys, Keys}
use Rattle.level_bounds.specs.Orders.{IsOrderOfSet}
use Rattle.level_bounds.specs.Scans.{BoundsScans, level_over_entries, query_scan}
use Rattle.level_bounds.proofs.EqualityFacts.{equalities_are_implied}
use Rattle.level_bounds.proofs.Lists.{from_members, at_member, from_filter}
use Rattle.level_bounds.proofs.Scanning.{choices_differ, level_satisfies, level_within}

module _ (query : Query) (tables : Tables) where
  conjuncts_depend_on_named : AllByRecursion DependsOnNamed (conjuncts_of query tables)
  conjuncts_depend_on_named = depend_on_named tables query.conjuncts

  equalities_of_set_implied : (key : Keys) (subset : ℕ) → AllByRecursion (JoinsEqualKeys tables key) (equalities_within subset (equalities_of query))
      → AllByRecursion (IsImplied (conjuncts_of query tables) (row_counts tables) key) (equalities_within subset (equalities_of query))
  equalities_of_set_implied key subset keys = equalities_are_implied query tables key (equalities_within subset (equalities_of query)) (λ e there. (from_filter (joins_within subset) (equalities_of query) e there).0) keys

  dominates : (key : Keys) (b : EntryBounds) (subset : ℕ) → BoundsScans b query tables key subset → SetDominates b (scanned (query_scan query tables) key) (equalities_of query) subset
  dominates key b subset known = record {
    rows = known.rows;
    columns = from_members (λ (p : Place). Dominates b (scanned (query_scan query tables) key) p.entry p.column) (places_of (equalities_within subset (equalities_of query)))
        (λ p there. record {
          keys = at_member (λ (p : Place). DominatesKeys (b.list p.entry p.column) (map (key p.entry p.column) (query_scan query tables p.entry)))
              (places_of (equalities_within subset (equalities_of query))) known.columns p there;
          key_per_row = length-map (query_scan query tables p.entry) (key p.entry p.column);
        });
  }

  pub level_choices_satisfy : (key : Keys) (subset : ℕ) (order : List ℕ) → AllByRecursion (JoinsEqualKeys tables key) (equalities_within subset (equalities_of query)) → IsOrderOfSet (entries_of_set subset) order
      → AllByRecursion (SatisfiesScanned (query_scan query tables) key (entries_of_set subset) (equalities_within subset (equalities_of query))) (map (row_in order) (level_over_entries query tables order))
  level_choices_satisfy key subset order keys o = level_satisfies (conjuncts_of query tables) (row_counts tables) key (equalities_of query) subset order conjuncts_depend_on_named (equalities_of_set_implied key subset keys) o

  pub level_choices_differ : (subset : ℕ) (order : List ℕ) → IsOrderOfSet (entries_of_set subset) order → ChoicesAreDifferent (entries_of_set subset) (map (row_in order) (level_over_entries query tables order))
  level_choices_differ subset order o = choices_differ (conjuncts_of query tables) (row_counts tables) (entries_of_set subset) order o

  pub within : (key : Keys) (b : EntryBounds) (subset : ℕ) (order : List ℕ) → AllByRecursion (JoinsEqualKeys tables key) (equalities_within subset (equalities_of query))
      → BoundsScans b query tables key subset → IsOrderOfSet (entries_of_set subset) order → length (level_over_entries query tables order) ≤ bound_of_set b (equalities_of query) subset
  within key b subset order keys known o =
      level_within (conjuncts_of query tables) (row_counts tables) key (equalities_of query) subset order conjuncts_depend_on_named (equalities_of_set_implied key subset keys) o b known.lists (dominates key b subset known)
