-- The levels and bounds of the triangle of three tables, by computation.
use Rattle.std.proofs.Common.{◌≡◌, ℕ, Bool, true, not, ◌&&◌, ◌||◌, List, [], ◌∷◌, refl, sym, subst, arith}
use Rattle.std.specs.List.{IsDistinct, filter, list_all}
use Rattle.std.proofs.lemmas.List.Elements.{filter_agree}
use Rattle.entry_sets.specs.Sets.{entries_of_set}
use Rattle.query_grammar.specs.declared.tree.Op.TheVariants as op
use Rattle.query_types.specs.declared.types.Cond.{Compare}
use Rattle.query_types.specs.Named.{entries_named}
use Rattle.query_types.proofs.CondFacts.{entries_compare}
use Rattle.join_graph.specs.Conjuncts.{equalities_of}
use Rattle.join_graph.specs.Examples.{triangle as triangle_equalities}
use Rattle.join_graph.specs.Kept.{equalities_within}
use Rattle.join_graph.proofs.Comparing.{equality_two}
use Rattle.tree_bounds.specs.Columns.{EachNamedColumn}
use Rattle.tree_bounds.specs.Examples.{triangle_bounds}
use Rattle.tree_bounds.specs.TreeBounds.{HasList}
use Rattle.sql_meaning.specs.Answers.{conjuncts_of}
use Rattle.sql_meaning.specs.Choices.{choices_of}
use Rattle.sql_meaning.specs.Conditions.{comparison_holds, cond_holds}
use Rattle.sql_meaning.specs.Examples.{column_at, triangle, triangle_tables}
use Rattle.sql_meaning.specs.Levels.{all_hold, row_in}
use Rattle.sql_meaning.specs.Tables.{row_counts}
use Rattle.sql_meaning.proofs.ConditionFacts.{holds_compare}
use Rattle.level_bounds.specs.Examples.{three_tables, triangle_level, triangle_scan}
use Rattle.level_bounds.specs.Keys.{cell_at}
use Rattle.level_bounds.specs.Orders.{IsOrderOfSet}
use Rattle.level_bounds.specs.Scans.{BoundsEachScan, BoundsScans, DominatesScan, own_conjuncts_of}
use Rattle.level_bounds.specs.WholeTables.{AreCompressed}
use Rattle.level_bounds.proofs.Lists.{is_in}
use Rattle.level_bounds.proofs.NearWhole.{whole_bounds, whole_scan}

-- ---- equalities

pub triangle_joined : equalities_of triangle ≡ triangle_equalities
triangle_joined =
    rw (equality_two 0 0 1 0 (λ e. absurd (omega (arith, e))), equality_two 1 1 2 0 (λ e. absurd (omega (arith, e))), equality_two 2 1 0 1 (λ e. absurd (omega (arith, e)))) refl

-- ---- levels

abbrev side : List ℕ → (ℕ → ℕ) → ℕ → ℕ → ℕ → ℕ → Bool
side order row_of a i b j = not (list_all (is_in order) (a ∷ b ∷ [])) || comparison_holds three_tables row_of op.Eq (column_at a i) (column_at b j)

abbrev sides_hold : List ℕ → (ℕ → ℕ) → Bool
sides_hold order row_of = side order row_of 0 0 1 0 && (side order row_of 1 1 2 0 && (side order row_of 2 1 0 1 && true))

one_side : (order : List ℕ) (row_of : ℕ → ℕ) (a i b j : ℕ)
    → (not (list_all (is_in order) (entries_named (Compare op.Eq (column_at a i) (column_at b j)))) || cond_holds three_tables row_of (Compare op.Eq (column_at a i) (column_at b j)))
    ≡ side order row_of a i b j
one_side order row_of a i b j = rw (entries_compare op.Eq (column_at a i) (column_at b j), holds_compare three_tables row_of op.Eq (column_at a i) (column_at b j)) refl

all_sides : (order : List ℕ) (row_of : ℕ → ℕ) → all_hold (conjuncts_of triangle three_tables) order row_of ≡ sides_hold order row_of
all_sides order row_of = rw (one_side order row_of 0 0 1 0, one_side order row_of 1 1 2 0, one_side order row_of 2 1 0 1) refl

pub triangle_level_is : (order : List ℕ) → triangle_level order ≡ filter (λ choice. sides_hold order (row_in order choice)) (choices_of (row_counts three_tables) order)
triangle_level_is order =
    filter_agree (λ choice. all_hold (conjuncts_of triangle three_tables) order (row_in order choice)) (λ choice. sides_hold order (row_in order choice))
    (λ choice. all_sides order (row_in order choice)) (choices_of (row_counts three_tables) order)

-- ---- scans and bounds

pub no_own_conjuncts_0 : own_conjuncts_of triangle 0 ≡ []
no_own_conjuncts_0 = rw (entries_compare op.Eq (column_at 0 0) (column_at 1 0), entries_compare op.Eq (column_at 1 1) (column_at 2 0), entries_compare op.Eq (column_at 2 1) (column_at 0 1)) refl

pub no_own_conjuncts_1 : own_conjuncts_of triangle 1 ≡ []
no_own_conjuncts_1 = rw (entries_compare op.Eq (column_at 0 0) (column_at 1 0), entries_compare op.Eq (column_at 1 1) (column_at 2 0), entries_compare op.Eq (column_at 2 1) (column_at 0 1)) refl

pub no_own_conjuncts_2 : own_conjuncts_of triangle 2 ≡ []
no_own_conjuncts_2 = rw (entries_compare op.Eq (column_at 0 0) (column_at 1 0), entries_compare op.Eq (column_at 1 1) (column_at 2 0), entries_compare op.Eq (column_at 2 1) (column_at 0 1)) refl

pub triangle_scan_1 : triangle_scan 1 ≡ 0 ∷ 1 ∷ 2 ∷ []
triangle_scan_1 = whole_scan triangle three_tables 1 no_own_conjuncts_1

sides_compressed : AreCompressed 1 triangle_bounds three_tables (cell_at triangle_tables) triangle_equalities 7
unfolding entries_of_set
sides_compressed = record { rows = (refl, (refl, (refl, tt))); columns = (refl, (refl, (refl, (refl, (refl, (refl, tt)))))) }

pub triangle_compressed : AreCompressed 1 triangle_bounds three_tables (cell_at triangle_tables) (equalities_of triangle) 7
triangle_compressed = subst (λ es. AreCompressed 1 triangle_bounds three_tables (cell_at triangle_tables) es 7) (sym triangle_joined) sides_compressed

pub triangle_bounded : BoundsScans triangle_bounds triangle three_tables (cell_at triangle_tables) 7
unfolding entries_of_set
triangle_bounded = whole_bounds triangle three_tables (cell_at triangle_tables) 1 triangle_bounds 7 (no_own_conjuncts_0, (no_own_conjuncts_1, (no_own_conjuncts_2, tt))) triangle_compressed

all_within : equalities_within 7 (equalities_of triangle) ≡ equalities_of triangle
all_within = rw triangle_joined refl

pub triangle_each : BoundsEachScan triangle_bounds triangle three_tables (cell_at triangle_tables)
unfolding entries_of_set
triangle_each = record {
  rows = triangle_bounded.rows;
  lists = subst (EachNamedColumn (HasList triangle_bounds)) all_within triangle_bounded.lists;
  columns = subst (EachNamedColumn (DominatesScan triangle_bounds triangle three_tables (cell_at triangle_tables))) all_within triangle_bounded.columns;
}

pub triangle_order : IsOrderOfSet (entries_of_set 7) (2 ∷ 0 ∷ 1 ∷ [])
unfolding entries_of_set IsDistinct
triangle_order = record {
  once = ((refl, (refl, tt)), ((refl, tt), (tt, tt)));
  within = ((2, omega arith, refl), ((0, omega arith, refl), ((1, omega arith, refl), tt)));
  covers = ((1, omega arith, refl), ((2, omega arith, refl), ((0, omega arith, refl), tt)));
}
