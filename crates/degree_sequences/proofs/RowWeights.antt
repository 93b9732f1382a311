-- The weights of rows are a rank-wise product with one factor for each child.
use Rattle.std.proofs.Common.{List, [], ap, arith, get_or, replicate, suc, sum, sym, ℕ, ◌*◌, ◌+◌, ◌-◌, ◌<◌, ◌∙◌, ◌∷◌, ◌≡◌, ◌≤◌}
use Rattle.std.proofs.Math.Nat.{mul_comm}
use Rattle.std.proofs.lemmas.List.{get_or-map, get_or-replicate}
use Rattle.std.proofs.lemmas.List.FromFn.{get_or-range_with_len, length-range_with_len}
use Rattle.std.specs.List.{AllByRecursion, AllZip, range_with_len}
use Rattle.degree_sequences.proofs.ByRank.{IsDescending-rank_product, get_or-rank_product, rank_product-above}
use Rattle.degree_sequences.proofs.FallingLists.{IsDescending-from_sums, sums_of_windows}
use Rattle.degree_sequences.proofs.RunningSums.{sum-above, running_sum-agree, running_sum-block_sums, running_sum-le-sum, running_sum-mono, running_sum-ones, running_sum-suc, running_sum-trimmed}
use Rattle.degree_sequences.proofs.Spread.{IsDescending-spread, get_or-spread, spread, spread-above}
use Rattle.degree_sequences.specs.ByRank.{rank_product}
use Rattle.degree_sequences.specs.Composition.{ChildLists, block_sums, composed, row_weights, weight_by_rank}
use Rattle.degree_sequences.specs.Descending.{IsDescending}
use Rattle.degree_sequences.specs.ComparedChildren.{ChildIsAbove, ColumnIsDescending, IsChildOf}
use Rattle.degree_sequences.specs.Rank.{rank}
use Rattle.degree_sequences.specs.RunningSums.{HasHigherSums, running_sum}

-- the class list of each child, spread over its column. Element r of the class list is repeated c times, where c is element r of the column's list
abbrev pub spreads : List ChildLists → ℕ → List ℕ
spreads [] n = replicate n 1
spreads (c ∷ cs) n = rank_product (spreads cs n) (spread c.column c.class)

pub IsDescending-ones : (n : ℕ) → IsDescending (replicate n 1)
IsDescending-ones n = IsDescending-from_sums (replicate n 1) (λ r. omega (arith, running_sum-ones n r, running_sum-ones n (suc r), running_sum-ones n (suc (suc r))))

pub IsDescending-spreads : (total n : ℕ) (cs : List ChildLists) → AllByRecursion (IsChildOf total) cs → IsDescending (spreads cs n)
IsDescending-spreads total n [] all = IsDescending-ones n
IsDescending-spreads total n (c ∷ cs) all = IsDescending-rank_product (spreads cs n) (spread c.column c.class) (IsDescending-spreads total n cs all.1) (IsDescending-spread c.column c.class all.0.class_is_descending)

pub get_or-row_weights : (cs : List ChildLists) (total k : ℕ) → k < total → get_or (row_weights cs total) k 0 ≡ weight_by_rank cs (suc k)
get_or-row_weights cs total k h =
    get_or-map (weight_by_rank cs) (range_with_len 1 total) k 0 0 (omega (arith, length-range_with_len 1 total))
    ∙ ap (weight_by_rank cs) (get_or-range_with_len 1 total k 0 h ∙ omega arith)

pub get_or-weights : (total : ℕ) (cs : List ChildLists) → AllByRecursion (IsChildOf total) cs → (k : ℕ) → k < total → get_or (spreads cs total) k 0 ≡ weight_by_rank cs (suc k)
get_or-weights total [] all k h = get_or-replicate total k 1 0 h
get_or-weights total (c ∷ cs) all r h =
    get_or-rank_product (spreads cs total) (spread c.column c.class) r
    ∙ mul_comm (get_or (spreads cs total) r 0) (get_or (spread c.column c.class) r 0)
    ∙ ap (λ x. x * get_or (spreads cs total) r 0) (get_or-spread c.column c.class r (omega (arith, all.0.column_sum)))
    ∙ ap (λ x. get_or c.class (rank c.column (suc r) - 1) 0 * x) (get_or-weights total cs all.1 r h)

pub running_sum-weights : (total : ℕ) (cs : List ChildLists) → AllByRecursion (IsChildOf total) cs → (m : ℕ) → m ≤ total → running_sum (row_weights cs total) m ≡ running_sum (spreads cs total) m
running_sum-weights total cs all m h = running_sum-agree (row_weights cs total) (spreads cs total) m
    (λ k k_in. get_or-row_weights cs total k (omega arith) ∙ sym (get_or-weights total cs all k (omega arith)))

pub running_sum-composition : (g : List ℕ) (cs : List ChildLists) (r : ℕ) → running_sum (composed g cs) r ≡ running_sum (row_weights cs (sum g)) (running_sum g r)
running_sum-composition g cs r = running_sum-trimmed (block_sums g (row_weights cs (sum g))) r ∙ running_sum-block_sums g (row_weights cs (sum g)) r

pub running_sum-composed : (g : List ℕ) (cs : List ChildLists) → AllByRecursion (IsChildOf (sum g)) cs → (r : ℕ) → running_sum (composed g cs) r ≡ running_sum (spreads cs (sum g)) (running_sum g r)
running_sum-composed g cs all r = running_sum-composition g cs r ∙ running_sum-weights (sum g) cs all (running_sum g r) (running_sum-le-sum g r)

pub IsDescending-composed : (g : List ℕ) (cs : List ChildLists) → IsDescending g → AllByRecursion (IsChildOf (sum g)) cs → IsDescending (composed g cs)
IsDescending-composed g cs fall ok = IsDescending-from_sums (composed g cs) (λ r.
    let u : List ℕ = spreads cs (sum g) in
    let one : running_sum g r + get_or g r 0 ≡ running_sum g (suc r) = sym (running_sum-suc g r) in
    let two : running_sum g (suc r) + get_or g (suc r) 0 ≡ running_sum g (suc (suc r)) = sym (running_sum-suc g (suc r)) in
    omega (
      arith,
      running_sum-composed g cs ok r,
      running_sum-composed g cs ok (suc r),
      running_sum-composed g cs ok (suc (suc r)),
      ap (running_sum u) one,
      ap (running_sum u) two,
      sums_of_windows u (IsDescending-spreads (sum g) (sum g) cs ok) (running_sum g r) (running_sum g (suc r)) (get_or g r 0) (get_or g (suc r) 0) (running_sum-mono g r (suc r) (omega arith)) (fall r),
    ))

-- only the columns of the lower lists (`ds`) have to be in descending order
pub spreads-above : (total total' : ℕ) → total' ≤ total → (cs ds : List ChildLists) → AllByRecursion (IsChildOf total) cs → AllByRecursion (IsChildOf total') ds
    → AllByRecursion ColumnIsDescending ds → AllZip ChildIsAbove cs ds → HasHigherSums (spreads cs total) (spreads ds total')
spreads-above total total' h [] [] ok ok' fall all = λ r. omega (arith, running_sum-ones total r, running_sum-ones total' r)
spreads-above total total' h [] (d ∷ ds) ok ok' fall all = absurd all
spreads-above total total' h (c ∷ cs) [] ok ok' fall all = absurd all
spreads-above total total' h (c ∷ cs) (d ∷ ds) ok ok' fall all =
    rank_product-above (spreads cs total) (spread c.column c.class) (spreads ds total') (spread d.column d.class)
    (IsDescending-spread c.column c.class ok.0.class_is_descending) (IsDescending-spreads total' total' ds ok'.1)
    (spreads-above total total' h cs ds ok.1 ok'.1 fall.1 all.1)
    (spread-above c.column c.class d.column d.class ok.0.class_is_descending fall.0 all.0.column all.0.class)

pub composed-above : (g h : List ℕ) (cs ds : List ChildLists) → AllByRecursion (IsChildOf (sum g)) cs → AllByRecursion (IsChildOf (sum h)) ds
    → AllByRecursion ColumnIsDescending ds → HasHigherSums g h → AllZip ChildIsAbove cs ds → HasHigherSums (composed g cs) (composed h ds)
composed-above g h cs ds ok ok' fall above all r =
    omega (
      arith,
      running_sum-composed g cs ok r,
      running_sum-composed h ds ok' r,
      spreads-above (sum g) (sum h) (sum-above g h above) cs ds ok ok' fall all (running_sum h r),
      running_sum-mono (spreads cs (sum g)) (running_sum h r) (running_sum g r) (above r),
    )
