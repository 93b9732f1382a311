-- The laws of plans over lists apply to the reduced scans, and to the scans themselves.
use Rattle.std.proofs.Common.{◌≡◌, ℕ, ◌<◌, List, Ok, length, map, ap, sym, ◌∙◌, subst, arith}
use Rattle.std.specs.Prelude.{IsPermutation}
use Rattle.std.specs.List.{Contains}
use Rattle.plans.specs.declared.left_deep.Plan.{Plan}
use Rattle.query_types.specs.declared.types.Query.{Query}
use Rattle.query_types.specs.Named.{NamesItsEntries}
use Rattle.sql_meaning.specs.Answers.{answer, conjuncts_of, entries_of, selected}
use Rattle.sql_meaning.specs.Levels.{level, level_over, row_in}
use Rattle.sql_meaning.specs.Tables.{Tables, row_counts}
use Rattle.level_bounds.specs.Orders.{IsOrderOfSet}
use Rattle.level_bounds.proofs.LastLevel.{last_level_is_answer}
use Rattle.level_bounds.proofs.Lists.{from_members, at_member, range_within}
use Rattle.join_steps.specs.Lists.{list_at, scans_of, AreOfScans, list_levels}
use Rattle.reduced_scans.specs.Rounds.{reduced_of}
use Rattle.reduced_scans.proofs.ByRounds.{reduced_scans_by_rounds}
use Rattle.join_steps.proofs.WholeScans as whole
use Rattle.reduced_scans.proofs.SameLevel.{same_level}
use Rattle.planning.specs.Plans.{planned_reduced}
use Rattle.planning.proofs.ListedPlans.{order_of_entries, whole_order}

pub reduced_of_scans : (query : Query) (tables : Tables) → AreOfScans query tables (reduced_of query tables)
reduced_of_scans query tables = (reduced_scans_by_rounds query tables).consistent.is_family

pub last_reduced : (query : Query) (tables : Tables) (accuracy budget : ℕ) (plan : Plan) → NamesItsEntries query → planned_reduced query tables accuracy budget ≡ Ok plan
    → IsPermutation (map (λ choice. selected query tables (row_in plan.order choice)) (list_levels query tables (reduced_of query tables) plan.order (length query.from))) (answer query tables)
last_reduced query tables accuracy budget plan named made =
    let o : IsOrderOfSet (entries_of query) plan.order = order_of_entries query tables (reduced_of query tables) accuracy budget plan made in
    subst (λ (level : List (List ℕ)). IsPermutation (map (λ choice. selected query tables (row_in plan.order choice)) level) (answer query tables))
    (sym (ap (λ (order : List ℕ). level_over (conjuncts_of query tables) (list_at (reduced_of query tables)) order) (whole_order query tables (reduced_of query tables) accuracy budget plan made)
    ∙ same_level query tables (reduced_of query tables) (reduced_scans_by_rounds query tables) named plan.order o))
    (last_level_is_answer query tables plan.order named o)

pub levels_of_scans : (query : Query) (tables : Tables) (order : List ℕ) (k : ℕ) → IsOrderOfSet (entries_of query) order
    → list_levels query tables (scans_of query tables) order k ≡ level (conjuncts_of query tables) (row_counts tables) order k
levels_of_scans query tables order k o =
    whole.levels_of_scans query tables order k (from_members (λ entry. entry < length query.from) order entries_in_range) o.once
  where
    entries_in_range : (entry : ℕ) → Contains order entry → entry < length query.from
    entries_in_range entry here = omega (arith, (range_within 0 (length query.from) entry (at_member (Contains (entries_of query)) order o.within entry here)).1)
