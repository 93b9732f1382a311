-- The level of all entries over the reduced scans is equal to their level over whole tables.
use Rattle.std.proofs.Common.{◌≡◌, ℕ, ◌<◌, Bool, true, List, [], ◌∷◌, length, map, refl, ◌∙◌, subst, arith}
use Rattle.std.specs.List.{Contains, filter}
use Rattle.query_types.specs.declared.types.Query.{Query}
use Rattle.query_types.specs.Named.{NamesItsEntries}
use Rattle.sql_meaning.specs.Answers.{conjuncts_of, entries_of}
use Rattle.sql_meaning.specs.Levels.{all_pass, level_over, row_in}
use Rattle.sql_meaning.specs.Tables.{Tables, row_counts}
use Rattle.sql_meaning.proofs.AskFacts.{depend_on_named}
use Rattle.level_bounds.specs.Orders.{IsOrderOfSet}
use Rattle.level_bounds.specs.Scans.{level_over_entries}
use Rattle.level_bounds.proofs.Choosing.{order_entry_in_set}
use Rattle.level_bounds.proofs.Lists.{range_within}
use Rattle.level_bounds.proofs.Reordering.{reordered_back}
use Rattle.join_steps.specs.Lists.{list_at}
use Rattle.reduced_scans.specs.Scans.{AreReducedScans}
use Rattle.reduced_scans.proofs.Bridge.{contains-has, has}
use Rattle.reduced_scans.proofs.FamilyRows.{family_level}
use Rattle.reduced_scans.proofs.Levels.{rows_stay}
use Rattle.reduced_scans.proofs.Members.{behind, in_front}

all_pass_mapped : (test : ℕ → ℕ → Bool) (f : ℕ → ℕ) (order : List ℕ) → ((entry : ℕ) → Contains order entry → test entry (f entry) ≡ true) → all_pass test order (map f order) ≡ true
all_pass_mapped test f [] each = refl
all_pass_mapped test f (entry ∷ order) each = rw (each entry (in_front entry entry order refl), all_pass_mapped test f order (λ x here. each x (behind x entry order here))) refl

pub filter_all : (p : List ℕ → Bool) (choices : List (List ℕ)) → ((choice : List ℕ) → Contains choices choice → p choice ≡ true) → filter p choices ≡ choices
filter_all p [] each = refl
filter_all p (choice ∷ choices) each = rw (each choice (in_front choice choice choices refl), filter_all p choices (λ x here. each x (behind x choice choices here))) refl

module _ (query : Query) (tables : Tables) (reduced : List (List ℕ)) (are : AreReducedScans query tables reduced) where
  abbrev stays : ℕ → ℕ → Bool
  stays entry row = has row (list_at reduced entry)

  pub same_level : NamesItsEntries query → (order : List ℕ) → IsOrderOfSet (entries_of query) order → level_over (conjuncts_of query tables) (list_at reduced) order ≡ level_over_entries query tables order
  same_level named order o =
      family_level query tables reduced are.consistent.is_family order
      ∙ filter_all (all_pass stays order) (level_over_entries query tables order) (λ choice here.
      subst (λ c. all_pass stays order c ≡ true) (reordered_back (conjuncts_of query tables) (row_counts tables) (entries_of query) order order o o choice here)
      (all_pass_mapped stays (row_in order choice) order (λ entry placed.
      let entry_in_range : entry < length query.from = omega (arith, (range_within 0 (length query.from) entry (order_entry_in_set (entries_of query) order o entry placed)).1) in
      contains-has (row_in order choice entry) (list_at reduced entry) (rows_stay query tables (depend_on_named tables query.conjuncts) named order o choice here reduced are entry entry_in_range))))
