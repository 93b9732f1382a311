-- A filtered list is made of other lists. Its running sums and its sum are computed from the running sums and the sums of these lists.
use Rattle.std.proofs.Common.{◌≡◌, ℕ, ◌+◌, ◌<◌, ◌≤◌, min, List, [], length, refl, ◌∙◌, arith}
use Rattle.std.specs.List.{All, sum}
use Rattle.degree_sequences.proofs.ByRank.{running_sum-rank_sum, IsDescending-rank_sum, sum-rank_sum}
use Rattle.degree_sequences.proofs.Minima.{running_sum-lesser, IsDescending-lesser}
use Rattle.degree_sequences.proofs.RunningSums.{running_sum-nil, running_sum-past}
use Rattle.degree_sequences.specs.Descending.{IsDescending}
use Rattle.degree_sequences.specs.RunningSums.{HasHigherSums, running_sum, lesser}
use Rattle.query_types.specs.declared.types.Cond.{Cond}
use Rattle.filtered_lists.specs.Lists.{ColumnLists, RowCounts, list_answers, count_answers, filtered_list, row_bound}
use Rattle.filtered_lists.specs.Filters.{own_conjuncts}
use Rattle.filtered_lists.specs.Standing.{ListsDescend, SumTo}
use Rattle.filtered_lists.proofs.Trimmed.{lesser_self}
use Rattle.filtered_lists.proofs.Related.{filtered_related}

-- ---- the running sums of a filtered list

abbrev pub running_sums : ColumnLists → ℕ → RowCounts
running_sums lists r = record {
  whole = running_sum lists.whole r;
  equal = λ column value. running_sum (lists.equal column value) r;
  range = λ range. running_sum (lists.range range) r;
}

pub running_sum-filtered : (lists : ColumnLists) (r entry : ℕ) (conjuncts : List Cond)
    → running_sum (filtered_list lists entry conjuncts) r ≡ row_bound (running_sums lists r) entry conjuncts
running_sum-filtered lists r =
    filtered_related (List ℕ) ℕ (λ s n. running_sum s r ≡ n) (list_answers lists) (count_answers (running_sums lists r)) (record {
      whole = refl;
      equal = λ column value. refl;
      range = λ range. refl;
      both = λ s t m n h k. running_sum-lesser s t r ∙ omega (arith, h, k);
      none = running_sum-nil r;
      either = λ s t m n h k. running_sum-rank_sum s t r ∙ omega (arith, h, k);
    })

-- ---- the sum of a filtered list

-- at this rank each of the three running sums has reached the sum of its list
rank_past_all : (s t u : List ℕ) → ℕ
rank_past_all s t u = length s + length t + length u

pub sum-lesser : (s t : List ℕ) → sum (lesser s t) ≡ min (sum s) (sum t)
unfolding rank_past_all
sum-lesser s t =
    let r : ℕ = rank_past_all s t (lesser s t) in
    omega (arith, running_sum-lesser s t r, running_sum-past s r (omega arith), running_sum-past t r (omega arith), running_sum-past (lesser s t) r (omega arith))

pub sum-filtered : (lists : ColumnLists) (counts : RowCounts) (entry : ℕ) (conjuncts : List Cond) → SumTo lists counts
    → sum (filtered_list lists entry conjuncts) ≡ row_bound counts entry conjuncts
sum-filtered lists counts entry conjuncts h =
    filtered_related (List ℕ) ℕ (λ s n. sum s ≡ n) (list_answers lists) (count_answers counts) (record {
      whole = h.whole;
      equal = h.equal;
      range = h.range;
      both = λ s t m n e f. sum-lesser s t ∙ omega (arith, e, f);
      none = refl;
      either = λ s t m n e f. sum-rank_sum s t ∙ omega (arith, e, f);
    }) entry conjuncts

-- ---- lists in descending order

pub filtered_descends : (lists : ColumnLists) (entry : ℕ) (conjuncts : List Cond) → ListsDescend lists → IsDescending (filtered_list lists entry conjuncts)
filtered_descends lists entry conjuncts h =
    filtered_related (List ℕ) (List ℕ) (λ s t. IsDescending s) (list_answers lists) (list_answers lists) (record {
      whole = h.whole;
      equal = h.equal;
      range = h.range;
      both = λ s t s' t' f g. IsDescending-lesser s t f g;
      none = λ r. omega arith;
      either = λ s t s' t' f g. IsDescending-rank_sum s t f g;
    }) entry conjuncts

-- ---- entries without own conjuncts

pub list_without_own : (lists : ColumnLists) (entry : ℕ) (conjuncts : List Cond) → own_conjuncts entry conjuncts ≡ [] → All (λ x. 0 < x) lists.whole
    → filtered_list lists entry conjuncts ≡ lists.whole
list_without_own lists entry conjuncts none positive = rw none (lesser_self lists.whole positive)

pub rows_without_own : (counts : RowCounts) (entry : ℕ) (conjuncts : List Cond) → own_conjuncts entry conjuncts ≡ [] → row_bound counts entry conjuncts ≡ counts.whole
rows_without_own counts entry conjuncts none = rw none (omega arith)

-- ---- the filtered list is at most the list of all rows

pub filtered_within : (lists : ColumnLists) (entry : ℕ) (conjuncts : List Cond) → HasHigherSums lists.whole (filtered_list lists entry conjuncts)
filtered_within lists entry conjuncts r = omega (arith, running_sum-filtered lists r entry conjuncts)

pub rows_within : (counts : RowCounts) (entry : ℕ) (conjuncts : List Cond) → row_bound counts entry conjuncts ≤ counts.whole
rows_within counts entry conjuncts = omega arith
