-- The column of each step is among the filter columns (`HasFilterFor`).
use Rattle.std.proofs.Common.{◌≡◌, ℕ, ◌+◌, ◌<◌, ◌≤◌, List, length, take, get_or, subst}
use Rattle.std.specs.List.{All}
use Rattle.std.proofs.lemmas.List.{take_all}
use Rattle.std.proofs.lemmas.List.Elements.{All-more, All-weaker}
use Rattle.predicate_bounds.specs.declared.steps.Step.{Step}
use Rattle.gathered_stats.specs.declared.filters.SortedColumn.{SortedColumn}
use Rattle.gathered_stats.specs.Filters.{HasFilterFor}

-- ---- one more item of a list has a property that the items before it have

module _ {X : Type 0} (P : X → Type 0) where
  pub one_item_more : (xs : List X) (i : ℕ) (x : X) → i < length xs → x ≡ get_or xs i x → All P (take i xs) → P x → All P (take (i + 1) xs)
  one_item_more xs i x is_below is before here = All-more P xs i x is_below before (subst P is here)

  pub all_items : (xs : List X) (i : ℕ) → length xs ≤ i → All P (take i xs) → All P xs
  all_items xs i end all = subst (All P) (take_all i xs end) all

-- ---- the column of one more step is among the filter columns

pub serve_all : (old new : List SortedColumn) (steps : List Step) (i : ℕ) (step : Step) → i < length steps → step ≡ get_or steps i step
    → ((other : Step) → HasFilterFor old other → HasFilterFor new other) → HasFilterFor new step → All (HasFilterFor old) (take i steps) → All (HasFilterFor new) (take (i + 1) steps)
serve_all old new steps i step is_below is kept here before =
    one_item_more (HasFilterFor new) steps i step is_below is (All-weaker (HasFilterFor old) (HasFilterFor new) kept (take i steps) before) here
