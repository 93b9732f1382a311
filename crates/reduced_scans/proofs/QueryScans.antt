-- The scans of a query have only rows of the tables, and the query's equalities join FROM entries.
use Rattle.std.proofs.Common.{◌≡◌, ℕ, ◌<◌, not, ◌||◌, [], ◌∷◌, Some, length, subst, arith}
use Rattle.std.specs.Prelude.{All}
use Rattle.std.specs.List.{Contains, list_all, range_with_len}
use Rattle.std.proofs.lemmas.List.Elements.{All-contains}
use Rattle.query_types.specs.declared.types.Cond.{Cond}
use Rattle.query_types.specs.declared.types.Query.{Query}
use Rattle.query_types.specs.Named.{NamesItsEntries, entries_named}
use Rattle.join_graph.specs.Conjuncts.{equalities_of, equality_of}
use Rattle.sql_meaning.specs.Answers.{conjuncts_of}
use Rattle.sql_meaning.specs.Levels.{is_own_conjunct}
use Rattle.sql_meaning.specs.Tables.{Tables, row_counts}
use Rattle.level_bounds.specs.Scans.{query_scan}
use Rattle.level_bounds.proofs.EqualityFacts.{equality_names}
use Rattle.level_bounds.proofs.Lists.{from_filter, from_filter_map, range_within}
use Rattle.join_steps.specs.Lists.{scans_of}
use Rattle.join_steps.proofs.WholeScans.{scans_of_length}
use Rattle.reduced_scans.specs.Families.{NameEntries}

pub scanned_row_in_range : (query : Query) (tables : Tables) (entry row : ℕ) → Contains (query_scan query tables entry) row → row < row_counts tables entry
scanned_row_in_range query tables entry row has =
    let there : Contains (range_with_len 0 (row_counts tables entry)) row =
    (from_filter (λ row. list_all (λ c. not (is_own_conjunct c entry) || c.holds (λ e. row)) (conjuncts_of query tables)) (range_with_len 0 (row_counts tables entry)) row has).0 in
    omega (arith, (range_within 0 (row_counts tables entry) row there).1)

pub name_entries : (query : Query) (tables : Tables) → NamesItsEntries query → NameEntries (length (scans_of query tables)) (equalities_of query)
name_entries query tables named e has =
    let found : (cond : Cond) × Contains query.conjuncts cond × (equality_of cond ≡ Some e) = from_filter_map equality_of query.conjuncts e has in
    let names : entries_named found.0 ≡ e.left.entry ∷ e.right.entry ∷ [] = equality_names found.0 e found.2 in
    let all : All (λ entry. entry < length query.from) (e.left.entry ∷ e.right.entry ∷ []) =
    subst (All (λ entry. entry < length query.from)) names (All-contains (λ cond. All (λ entry. entry < length query.from) (entries_named cond)) query.conjuncts found.0 named found.1) in
    (omega (arith, all 0 0 (omega arith), scans_of_length query tables), omega (arith, all 1 0 (omega arith), scans_of_length query tables))
