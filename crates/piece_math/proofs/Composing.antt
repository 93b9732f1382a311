-- A composition may be computed from weights that are saturated (numbers above 2 ^ 128 - 1 become 2 ^ 128 - 1) and trimmed (zeros at the end are
-- left out).
use Rattle.std.proofs.Common.{Result, ◌≡◌, ℕ, suc, ◌+◌, ◌*◌, ◌<◌, ◌≤◌, List, [], ◌∷◌, length, map, drop, replicate, refl, ap, sym, ◌∙◌, sum, arith}
use Rattle.std.specs.List.{AllByRecursion, All}
use Rattle.std.proofs.lemmas.Result.{IfOk-weaker}
use Rattle.std.specs.Result.{IfOk}
use Rattle.degree_sequences.proofs.FallingLists.{same_by_sums, trimmed_positive}
use Rattle.degree_sequences.proofs.RowWeights.{IsDescending-ones}
use Rattle.degree_sequences.proofs.RunningSums.{running_sum-add, running_sum-trimmed, running_sum-block_sums, running_sum-le-sum, running_sum-ones}
use Rattle.degree_sequences.proofs.SaturationLaws.{saturated-block_sums, saturated-trimmed}
use Rattle.degree_sequences.specs.Composition.{ChildLists, block_sums, row_weights, composed}
use Rattle.degree_sequences.specs.Descending.{IsDescending, trimmed}
use Rattle.degree_sequences.specs.RunningSums.{running_sum}
use Rattle.degree_sequences.specs.Runs.{runs}
use Rattle.degree_sequences.specs.Saturation.{saturated}
use Rattle.piece_math.specs.declared.weights.Child.{Child}
use Rattle.piece_math.specs.Children.{lists_of, class_runs}
use Rattle.piece_math.proofs.Grouping.{IsDescending-block_sums}
use Rattle.piece_math.proofs.Weighing.{row_weights-none, runs-saturated}

block_sums-same : (g u v : List ℕ) → ((r : ℕ) → running_sum u r ≡ running_sum v r) → block_sums g u ≡ block_sums g v
block_sums-same [] u v same = refl
block_sums-same (x ∷ g) u v same =
    rw (same x, block_sums-same g (drop x u) (drop x v) (λ r. omega (arith, same x, same (x + r), running_sum-add u x r, running_sum-add v x r))) refl

pub saturated-composed : (g u : List ℕ) → map saturated (trimmed (block_sums g (map saturated (trimmed u)))) ≡ map saturated (trimmed (block_sums g u))
saturated-composed g u =
    saturated-trimmed (block_sums g (map saturated (trimmed u)))
    ∙ ap trimmed (saturated-block_sums g (trimmed u))
    ∙ sym (saturated-trimmed (block_sums g (trimmed u)))
    ∙ ap (λ s. map saturated (trimmed s)) (block_sums-same g (trimmed u) u (λ r. running_sum-trimmed u r))

pub All-recursion : (s : List ℕ) → All (λ x. 0 < x) s → AllByRecursion (λ x. 0 < x) s
All-recursion [] all = tt
All-recursion (x ∷ s) all = (all 0 0 (omega arith), All-recursion s (λ i d h. all (suc i) d (omega arith)))

pub composed-none : (g : List ℕ) → IsDescending g → AllByRecursion (λ x. 0 < x) g → composed g [] ≡ g
composed-none g fall pos =
    ap (λ u. trimmed (block_sums g u)) (row_weights-none (sum g))
    ∙ same_by_sums (trimmed (block_sums g (replicate (sum g) 1))) g
    (trimmed_positive (block_sums g (replicate (sum g) 1)) (IsDescending-block_sums g (replicate (sum g) 1) fall (IsDescending-ones (sum g)))) pos
    (λ r. omega (
      arith,
      running_sum-trimmed (block_sums g (replicate (sum g) 1)) r,
      running_sum-block_sums g (replicate (sum g) 1) r,
      running_sum-ones (sum g) (running_sum g r),
      running_sum-le-sum g r,
    ))

pub composed_value : {E : Type 0} (r : Result (List ℕ) E) (g weights : List ℕ) (cs : List ChildLists) → weights ≡ map saturated (trimmed (row_weights cs (sum g)))
    → IfOk r (λ list. list ≡ map saturated (trimmed (block_sums g weights))) → IfOk r (λ list. list ≡ map saturated (composed g cs))
composed_value r g weights cs is grouped =
    IfOk-weaker r (λ list. list ≡ map saturated (trimmed (block_sums g weights))) (λ list. list ≡ map saturated (composed g cs))
    (λ list e. e ∙ ap (λ u. map saturated (trimmed (block_sums g u))) is ∙ saturated-composed g (row_weights cs (sum g))) grouped

pub composed_runs : {E : Type 0} (r : Result (List ℕ) E) (g weights : List ℕ) (cs : List Child) → IsDescending g → All (λ x. 0 < x) g
    → (0 < length cs → runs weights ≤ class_runs cs) → IfOk r (λ list. list ≡ map saturated (composed g (map lists_of cs)))
    → IfOk r (λ list. runs list ≤ runs g + 2 * runs weights) → IfOk r (λ list. runs list ≤ runs g + 2 * class_runs cs)
composed_runs r g weights [] fall pos few_weights value few =
    IfOk-weaker r (λ list. list ≡ map saturated (composed g [])) (λ list. runs list ≤ runs g + 2 * class_runs [])
    (λ list is. omega (arith, ap runs (is ∙ ap (map saturated) (composed-none g fall (All-recursion g pos))), runs-saturated g)) value
composed_runs r g weights (c ∷ cs) fall pos few_weights value few =
    IfOk-weaker r (λ list. runs list ≤ runs g + 2 * runs weights) (λ list. runs list ≤ runs g + 2 * class_runs (c ∷ cs))
    (λ list le. omega (arith, le, few_weights (omega arith))) few
