-- A set has a bound in each turn. The bound of the set is the least of these bounds, and each of them is at least the number of choices.
use Rattle.std.proofs.Common.{◌≡◌, ℕ, zero, suc, ◌-◌, ◌<◌, ◌≤◌, List, length, refl, ap, sym, ◌∙◌, subst, arith, inl, inr}
use Rattle.std.specs.List.{AllByRecursion}
use Rattle.std.proofs.lemmas.Bool.{cases_lt}
use Rattle.limits.specs.Profile.{greatest_entries}
use Rattle.berge_tree.specs.declared.edges.Edge.{Edge}
use Rattle.berge_tree.specs.Equalities.{ClosesNoCycle}
use Rattle.berge_tree.specs.Rooted.{AreAllTreesOf}
use Rattle.entry_sets.specs.Sets.{entries_of_set}
use Rattle.berge_tree.specs.Trees.{BergeTree}
use Rattle.berge_tree.specs.Walk.{columns_of}
use Rattle.berge_tree.proofs.Forest.{all_trees}
use Rattle.berge_tree.proofs.Listing.{columns_are}
use Rattle.entry_sets.proofs.Listing.{set_increases, set_entries_below_limit}
use Rattle.berge_tree.proofs.Tested.{joins_no_cycle}
use Rattle.join_graph.specs.Kept.{equalities_within, kept_of, order_of_turn, turn_count}
use Rattle.join_graph.proofs.Connecting.{kept_joins}
use Rattle.join_graph.proofs.Turning.{kept_within}
use Rattle.tree_bounds.specs.TreeBounds.{EntryBounds, bound_of_trees}
use Rattle.tree_bounds.specs.SetBounds.{SetHasLists, IsBoundOfTurn, IsBoundOfSet, trees_of, bound_of_turn, least_to, bound_of_set}
use Rattle.tree_bounds.specs.Tables.{KeyedTables, Satisfies, ChoicesAreDifferent, SetDominates}
use Rattle.tree_bounds.proofs.Agreeing.{satisfying_within}
use Rattle.tree_bounds.proofs.OneForest.{one_forest}

-- ---- the least of several numbers

pub least_to-le : (f : ℕ → ℕ) (n k : ℕ) → k ≤ n → least_to f n ≤ f k
least_to-le f zero k h = let is : k ≡ 0 = omega arith in rw is (omega arith)
least_to-le f (suc n) k h = elim (cases_lt k (suc n)) [
  | inl below ↦ omega (arith, least_to-le f n k (omega arith))
  | inr top ↦ (let is : k ≡ suc n = omega arith in rw is (omega arith))
]

pub least_to-some : (f : ℕ → ℕ) (n : ℕ) → (k : ℕ) × (k ≤ n) × (least_to f n ≡ f k)
least_to-some f zero = (0, omega arith, refl)
least_to-some f (suc n) =
    let before : (k : ℕ) × (k ≤ n) × (least_to f n ≡ f k) = least_to-some f n in
    elim (cases_lt (f (suc n)) (least_to f n)) [
      | inl last ↦ (suc n, omega arith, omega arith)
      | inr first ↦ (before.0, omega (arith, before.1), omega (arith, before.2))
    ]

pub least_to-least : (f : ℕ → ℕ) (n m : ℕ) → ((k : ℕ) → k ≤ n → m ≤ f k) → m ≤ least_to f n
least_to-least f n m h = let some : (k : ℕ) × (k ≤ n) × (least_to f n ≡ f k) = least_to-some f n in rw some.2 (h some.0 some.1)

-- ---- the trees of a turn exist

module _ (es : List Edge) (subset turn : ℕ) where
  pub closes : ClosesNoCycle (kept_of subset turn es)
  closes = joins_no_cycle (kept_of subset turn es) (kept_joins (λ x. x) (order_of_turn subset turn es))

  pub trees_exist : AreAllTreesOf (kept_of subset turn es) (entries_of_set subset) (trees_of (kept_of subset turn es) subset)
  trees_exist =
      all_trees (kept_of subset turn es) closes (columns_of (kept_of subset turn es)) (columns_are (kept_of subset turn es)) (entries_of_set subset) greatest_entries
      (kept_within subset turn es) (set_entries_below_limit subset) (set_increases subset)

  pub trees_are : (ts : List BergeTree) → AreAllTreesOf (kept_of subset turn es) (entries_of_set subset) ts → ts ≡ trees_of (kept_of subset turn es) subset
  trees_are ts all = one_forest (kept_of subset turn es) closes (entries_of_set subset) ts (trees_of (kept_of subset turn es) subset) all trees_exist

-- ---- the function computes the bound that the relation defines

module _ (b : EntryBounds) (es : List Edge) (subset : ℕ) where
  pub turn_bound_exists : (turn : ℕ) → IsBoundOfTurn b es subset turn (bound_of_turn b es subset turn)
  turn_bound_exists turn = record { trees = trees_of (kept_of subset turn es) subset; are_all = trees_exist es subset turn; product = refl }

  pub turn_bound_is_unique : (turn n : ℕ) → IsBoundOfTurn b es subset turn n → n ≡ bound_of_turn b es subset turn
  turn_bound_is_unique turn n h = h.product ∙ ap (bound_of_trees b) (trees_are es subset turn h.trees h.are_all)

  last_turn : (k : ℕ) → k ≤ turn_count subset es - 1 → k < turn_count subset es
  last_turn k h = omega arith

  before_last : (k : ℕ) → k < turn_count subset es → k ≤ turn_count subset es - 1
  before_last k h = omega arith

  pub set_bound_exists : IsBoundOfSet b es subset (bound_of_set b es subset)
  set_bound_exists =
      let some : (k : ℕ) × (k ≤ turn_count subset es - 1) × (bound_of_set b es subset ≡ bound_of_turn b es subset k) = least_to-some (bound_of_turn b es subset) (turn_count subset es - 1) in
      record {
        some_turn = (some.0, last_turn some.0 some.1, subst (IsBoundOfTurn b es subset some.0) (sym some.2) (turn_bound_exists some.0));
        least = λ turn m h is. rw (turn_bound_is_unique turn m is) (least_to-le (bound_of_turn b es subset) (turn_count subset es - 1) turn (before_last turn h));
      }

  pub set_bound_is_unique : (n : ℕ) → IsBoundOfSet b es subset n → n ≡ bound_of_set b es subset
  set_bound_is_unique n h =
      let there : IsBoundOfSet b es subset (bound_of_set b es subset) = set_bound_exists in
      both n (bound_of_set b es subset)
      (h.least there.some_turn.0 (bound_of_set b es subset) there.some_turn.1 there.some_turn.2)
      (there.least h.some_turn.0 n h.some_turn.1 h.some_turn.2)
    where
      both : (a b : ℕ) → a ≤ b → b ≤ a → a ≡ b
      both a b h k = omega arith

-- ---- the bounds are never less than the number of choices

module _ (b : EntryBounds) (tables : KeyedTables) (es : List Edge) (subset : ℕ) (h : SetHasLists b es subset) (d : SetDominates b tables es subset)
    (cs : List (ℕ → ℕ)) (satisfy : AllByRecursion (Satisfies tables (entries_of_set subset) (equalities_within subset es)) cs) (differ : ChoicesAreDifferent (entries_of_set subset) cs) where
  pub within_turn : (turn : ℕ) → length cs ≤ bound_of_turn b es subset turn
  within_turn turn = satisfying_within b tables es subset turn (trees_of (kept_of subset turn es) subset) (trees_exist es subset turn) h d cs satisfy differ

  pub within_set : length cs ≤ bound_of_set b es subset
  within_set = least_to-least (bound_of_turn b es subset) (turn_count subset es - 1) (length cs) (λ k l. within_turn k)
