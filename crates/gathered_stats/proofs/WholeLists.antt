-- In the steps of a column, the list of all rows is the compressed degree list of the column's keys. It sums to at most 2^32.
use Rattle.std.proofs.Common.{◌≡◌, ℕ, ◌<◌, ◌≤◌, ◌^◌, List, map, length, get_or, sum, ap, sym, ◌∙◌, subst, arith}
use Rattle.std.specs.List.{All}
use Rattle.csv_tables.specs.declared.types.Cells.{Cells}
use Rattle.cond_stats.specs.Lists.{compressed_degrees}
use Rattle.cond_stats.proofs.Sums.{sum-compressed_degrees}
use Rattle.filtered_lists.specs.Lists.{ColumnLists}
use Rattle.predicate_bounds.specs.declared.columns.ColumnSteps.{ColumnSteps}
use Rattle.predicate_bounds.specs.declared.steps.Step.{Step}
use Rattle.predicate_bounds.specs.ListRuns.{with_list}
use Rattle.gathered_stats.specs.Asked.{AreStepsOf}
use Rattle.gathered_stats.specs.Columns.{KeysHaveLists, AreListsOfKeys, keys_in}

pub column_whole : (texts : List (List ℕ)) (cells : Cells) (accuracy column : ℕ) (steps : List Step) (columns read : List ColumnSteps) (i : ℕ) (gathered : ColumnSteps) (list : List ℕ)
    → read ≡ columns → i < length read → gathered ≡ get_or read i gathered → gathered.column ≡ column
    → ((lists : ColumnLists) → gathered.steps ≡ map (with_list lists) steps → list ≡ lists.whole)
    → KeysHaveLists texts cells accuracy column → All (AreStepsOf texts cells accuracy steps) columns → list ≡ compressed_degrees accuracy (keys_in cells column)
column_whole texts cells accuracy column steps columns read i gathered list same is_below at named whole has all =
    let mine : AreStepsOf texts cells accuracy steps gathered =
    subst (AreStepsOf texts cells accuracy steps) (sym at) (subst (All (AreStepsOf texts cells accuracy steps)) (sym same) all i gathered is_below) in
    whole has.0 (mine has.0 (subst (λ (c : ℕ). AreListsOfKeys texts cells accuracy (keys_in cells c) has.0) (sym named) has.1)) ∙ sym has.1.whole

pub whole_list_within_limit : (accuracy n : ℕ) (keys read list : List ℕ) → read ≡ keys → length read ≡ n → n < 2 ^ 32 → list ≡ compressed_degrees accuracy keys → sum list ≤ 2 ^ 32
whole_list_within_limit accuracy n keys read list same tall small made =
    omega (arith, ap sum made, sum-compressed_degrees accuracy keys, ap (λ (s : List ℕ). length s) same, tall, small)
