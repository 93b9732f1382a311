-- The reduced scans as a function. It works in rounds, and each round removes every row that lacks a partner.
use Rattle.std.specs.Prelude.{ℕ, zero, suc, ◌+◌, Bool, not, ◌&&◌, ◌||◌, ◌==◌, List, [], ◌∷◌, length}
use Rattle.std.specs.List.{filter, list_all, list_any}
use Rattle.berge_tree.specs.declared.edges.Edge.{Edge}
use Rattle.query_types.specs.declared.types.Query.{Query}
use Rattle.join_graph.specs.Conjuncts.{equalities_of}
use Rattle.sql_meaning.specs.Tables.{Tables}
use Rattle.level_bounds.specs.Keys.{are_equal_at}
use Rattle.join_steps.specs.Lists.{list_at, scans_of}

-- whether the row has a match on the other side, for each side of the equality that is a column of this entry
abbrev pub finds_partners : (Edge → ℕ → ℕ → Bool) → List (List ℕ) → ℕ → ℕ → Edge → Bool
finds_partners equal family entry row e =
    (not (e.left.entry == entry) || list_any (equal e row) (list_at family e.right.entry))
    && (not (e.right.entry == entry) || list_any (λ left. equal e left row) (list_at family e.left.entry))

-- whether the row has a partner for each equality at its entry
abbrev pub has_all_partners : List Edge → (Edge → ℕ → ℕ → Bool) → List (List ℕ) → ℕ → ℕ → Bool
has_all_partners es equal family entry row = list_all (finds_partners equal family entry row) es

-- one round, for lists of which the first is the list of `entry`. Each list keeps the rows that have a match in `family` across each equality of
-- their entry
abbrev pub round_from : List Edge → (Edge → ℕ → ℕ → Bool) → List (List ℕ) → ℕ → List (List ℕ) → List (List ℕ)
round_from es equal family entry [] = []
round_from es equal family entry (list ∷ lists) =
    filter (has_all_partners es equal family entry) list ∷ round_from es equal family (suc entry) lists

-- the lists of a family after a number of rounds
abbrev pub after_rounds : List Edge → (Edge → ℕ → ℕ → Bool) → ℕ → List (List ℕ) → List (List ℕ)
after_rounds es equal zero family = family
after_rounds es equal (suc count) family = after_rounds es equal count (round_from es equal family 0 family)

-- the number of rows in all lists
abbrev pub rows_in_all : List (List ℕ) → ℕ
rows_in_all [] = 0
rows_in_all (list ∷ lists) = length list + rows_in_all lists

-- the scans after n + 1 rounds, where n is the number of scanned rows. A further round would change nothing
unfoldable pub reduced_of : Query → Tables → List (List ℕ)
reduced_of query tables =
    after_rounds (equalities_of query) (are_equal_at tables) (rows_in_all (scans_of query tables) + 1) (scans_of query tables)
