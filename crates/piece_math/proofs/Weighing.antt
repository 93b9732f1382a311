-- The weights of rows are computed child by child. The weight of a row is multiplied by one factor for each child.
use Rattle.std.proofs.Common.{◌≡◌, ℕ, zero, suc, ◌+◌, ◌-◌, ◌*◌, ◌^◌, ◌<◌, ◌≤◌, false, cond, eqb, List, [], ◌∷◌, ◌++◌, length, get_or, map, take, replicate, refl, ap, sym, ◌∙◌, subst, sum, arith, inl, inr}
use Rattle.std.specs.List.{AllByRecursion}
use Rattle.std.proofs.Math.Nat.{one-mul, mul_assoc}
use Rattle.std.proofs.lemmas.Bool.{cases_lt, cond_both, eq-eqb, eqb-true}
use Rattle.std.proofs.lemmas.List.{append-nil, length-map, get_or_past, get_or-replicate, length-replicate, map_more}
use Rattle.std.proofs.lemmas.List.Sums.{sum_by_more}
use Rattle.degree_sequences.proofs.ByRank.{get_or-rank_product}
use Rattle.degree_sequences.proofs.FallingLists.{trimmed_positive}
use Rattle.degree_sequences.proofs.RowWeights.{IsDescending-spreads, get_or-row_weights, get_or-weights}
use Rattle.degree_sequences.proofs.RunningSums.{running_sum-past, running_sum-trimmed}
use Rattle.degree_sequences.proofs.SaturationLaws.{min-mul-min_left, saturated-running_sum}
use Rattle.degree_sequences.specs.ByRank.{rank_product}
use Rattle.degree_sequences.specs.Composition.{ChildLists, row_weights, weight_by_rank}
use Rattle.degree_sequences.specs.Descending.{IsDescending, trimmed}
use Rattle.degree_sequences.specs.ComparedChildren.{IsChildOf}
use Rattle.degree_sequences.specs.Rank.{rank}
use Rattle.degree_sequences.specs.Runs.{runs, runs_after}
use Rattle.degree_sequences.specs.Saturation.{saturated}
use Rattle.piece_math.specs.declared.weights.Child.{Child}
use Rattle.piece_math.specs.Children.{lists_of, class_runs}
use Rattle.piece_math.specs.Expanded.{IsAppended}
use Rattle.piece_math.proofs.Combining.{positive-rank_product}
use Rattle.piece_math.proofs.Spreading.{get_or-trimmed, length-trimmed-le, length-row_weights, same_list, trimmed-front}

same_by_elements : (s t : List ℕ) → AllByRecursion (λ x. 0 < x) s → AllByRecursion (λ x. 0 < x) t → ((r : ℕ) → get_or s r 0 ≡ get_or t r 0) → s ≡ t
same_by_elements [] [] ps pt same = refl
same_by_elements [] (y ∷ t) ps pt same = absurd (omega (arith, same 0, pt.0))
same_by_elements (x ∷ s) [] ps pt same = absurd (omega (arith, same 0, ps.0))
same_by_elements (x ∷ s) (y ∷ t) ps pt same =
    let e : x ≡ y = same 0 in
    rw (e, same_by_elements s t ps.1 pt.1 (λ r. same (suc r))) refl

saturated-rank_product_left : (s t : List ℕ) → map saturated (rank_product (map saturated s) t) ≡ map saturated (rank_product s t)
saturated-rank_product_left [] t = refl
saturated-rank_product_left (x ∷ s) [] = refl
saturated-rank_product_left (x ∷ s) (y ∷ t) =
    let here : saturated (saturated x * y) ≡ saturated (x * y) = min-mul-min_left x y (2 ^ 128 - 1) in
    rw (here, saturated-rank_product_left s t) refl

-- ---- one more child

weight_by_rank-push : (cs : List ChildLists) (c : ChildLists) (t : ℕ) → weight_by_rank (cs ++ c ∷ []) t ≡ weight_by_rank cs t * weight_by_rank (c ∷ []) t
weight_by_rank-push [] c t = sym (one-mul (weight_by_rank (c ∷ []) t))
weight_by_rank-push (d ∷ cs) c t =
    ap (λ n. get_or d.class (rank d.column t - 1) 0 * n) (weight_by_rank-push cs c t)
    ∙ sym (mul_assoc (get_or d.class (rank d.column t - 1) 0) (weight_by_rank cs t) (weight_by_rank (c ∷ []) t))

get_or-row_weights_past : (cs : List ChildLists) (n r : ℕ) → n ≤ r → get_or (row_weights cs n) r 0 ≡ 0
get_or-row_weights_past cs n r h = get_or_past (row_weights cs n) r 0 (omega (arith, length-row_weights cs n))

IsDescending-row_weights : (n : ℕ) (cs : List ChildLists) → AllByRecursion (IsChildOf n) cs → IsDescending (row_weights cs n)
IsDescending-row_weights n cs all r = elim (cases_lt (suc r) n) [
  | inl inside ↦ omega (
    arith,
    get_or-row_weights cs n r (omega arith),
    get_or-row_weights cs n (suc r) inside,
    get_or-weights n cs all r (omega arith),
    get_or-weights n cs all (suc r) inside,
    IsDescending-spreads n n cs all r,
  )
  | inr past ↦ omega (arith, get_or-row_weights_past cs n (suc r) past)
]

AllByRecursion-push : (P : ChildLists → Type 0) (cs : List ChildLists) (c : ChildLists) → AllByRecursion P cs → P c → AllByRecursion P (cs ++ c ∷ [])
AllByRecursion-push P [] c all h = (h, tt)
AllByRecursion-push P (d ∷ cs) c all h = (all.0, AllByRecursion-push P cs c all.1 h)

rank_product-row_weights : (n : ℕ) (cs : List ChildLists) (c : ChildLists) → AllByRecursion (IsChildOf n) cs → IsChildOf n c
    → rank_product (trimmed (row_weights cs n)) (trimmed (row_weights (c ∷ []) n)) ≡ trimmed (row_weights (cs ++ c ∷ []) n)
rank_product-row_weights n cs c all one =
    same_by_elements (rank_product (trimmed (row_weights cs n)) (trimmed (row_weights (c ∷ []) n))) (trimmed (row_weights (cs ++ c ∷ []) n))
    (positive-rank_product (trimmed (row_weights cs n)) (trimmed (row_weights (c ∷ []) n))
    (trimmed_positive (row_weights cs n) (IsDescending-row_weights n cs all))
    (trimmed_positive (row_weights (c ∷ []) n) (IsDescending-row_weights n (c ∷ []) (one, tt))))
    (trimmed_positive (row_weights (cs ++ c ∷ []) n) (IsDescending-row_weights n (cs ++ c ∷ []) (AllByRecursion-push (IsChildOf n) cs c all one)))
    (λ r. get_or-rank_product (trimmed (row_weights cs n)) (trimmed (row_weights (c ∷ []) n)) r
    ∙ rw (get_or-trimmed (row_weights cs n) r, get_or-trimmed (row_weights (c ∷ []) n) r, get_or-trimmed (row_weights (cs ++ c ∷ []) n) r) (at r))
  where
    at : (r : ℕ) → get_or (row_weights cs n) r 0 * get_or (row_weights (c ∷ []) n) r 0 ≡ get_or (row_weights (cs ++ c ∷ []) n) r 0
    at r = elim (cases_lt r n) [
      | inl inside ↦ rw (get_or-row_weights cs n r inside, get_or-row_weights (c ∷ []) n r inside, get_or-row_weights (cs ++ c ∷ []) n r inside)
          (sym (weight_by_rank-push cs c (suc r)))
      | inr past ↦ rw (get_or-row_weights_past cs n r past, get_or-row_weights_past (c ∷ []) n r past, get_or-row_weights_past (cs ++ c ∷ []) n r past) refl
    ]

-- ---- without children each row has weight 1

saturated-ones : (n : ℕ) → map saturated (replicate n 1) ≡ replicate n 1
saturated-ones zero = refl
saturated-ones (suc n) = ap (λ (s : List ℕ). 1 ∷ s) (saturated-ones n)

pub row_weights-none : (n : ℕ) → row_weights [] n ≡ replicate n 1
row_weights-none n = same_list (row_weights [] n) (replicate n 1) (length-row_weights [] n ∙ sym (length-replicate n 1))
    (λ r h. let within : r < n = omega (arith, length-row_weights [] n) in get_or-row_weights [] n r within ∙ sym (get_or-replicate n r 1 0 within))

trimmed-ones : (n : ℕ) → trimmed (replicate n 1) ≡ replicate n 1
trimmed-ones n = ap trimmed (sym (append-nil (replicate n 1))) ∙ trimmed-front n 1 [] (omega arith) ∙ append-nil (replicate n 1)

pub weights-none : (n : ℕ) → map saturated (trimmed (row_weights [] n)) ≡ replicate n 1
weights-none n = ap (λ s. map saturated (trimmed s)) (row_weights-none n) ∙ ap (map saturated) (trimmed-ones n) ∙ saturated-ones n

-- ---- saturating adds no runs

runs_after-saturated : (b : ℕ) (s : List ℕ) → runs_after (saturated b) (map saturated s) ≤ runs_after b s
runs_after-saturated b [] = omega arith
runs_after-saturated b (x ∷ s) = cond_both (eqb x b) 0 1 (λ n. cond (eqb (saturated x) (saturated b)) 0 1 + runs_after (saturated x) (map saturated s) ≤ n + runs_after x s)
    (λ e. let same : saturated x ≡ saturated b = ap saturated (eqb-true x b e) in rw (eq-eqb (saturated x) (saturated b) same) (omega (arith, runs_after-saturated x s)))
    (λ e. cond_both (eqb (saturated x) (saturated b)) 0 1 (λ n. n + runs_after (saturated x) (map saturated s) ≤ 1 + runs_after x s)
    (λ e. omega (arith, runs_after-saturated x s)) (λ e. omega (arith, runs_after-saturated x s)))

pub runs-saturated : (s : List ℕ) → runs (map saturated s) ≤ runs s
runs-saturated s = runs_after-saturated 0 s

-- ---- the loop over the children

-- this is the state of the loop: `weights` has the rows' weights as products over the first i children
pub record WeightsSoFar (cs : List Child) (rows i : ℕ) (weights : List ℕ) : Type 0 where
  pub lists : AllByRecursion (IsChildOf rows) (map lists_of (take i cs))
  pub value : weights ≡ map saturated (trimmed (row_weights (map lists_of (take i cs)) rows))
  pub few : 0 < i → runs weights ≤ class_runs (take i cs)

pub weights_without_children : (rows : ℕ) {list : List ℕ} → IsAppended [] list 1 rows → list ≡ map saturated (trimmed (row_weights [] rows))
weights_without_children rows put = put.some (omega arith) ∙ sym (weights-none rows)

pub children_exist : (cs : List Child) → eqb (length cs) 0 ≡ false → 0 < length cs
children_exist [] h = absurd (cc h)
children_exist (c ∷ cs) h = omega arith

pub weights_first : (cs : List Child) (rows : ℕ) (own : List ℕ) (c : Child) → 0 < length cs → c ≡ get_or cs 0 c → sum c.column ≡ rows
    → IsChildOf (sum c.column) (lists_of c) → own ≡ trimmed (row_weights (lists_of c ∷ []) (sum c.column)) → map saturated own ≡ own → runs own ≤ runs c.class
    → WeightsSoFar cs rows 1 own
weights_first [] rows own c h at total lists own_is fits own_few = absurd (omega arith)
weights_first (d ∷ cs) rows own c h at total lists own_is fits own_few =
    let child : IsChildOf rows (lists_of c) = subst (λ n. IsChildOf n (lists_of c)) total lists in
    let own_rows : own ≡ trimmed (row_weights (lists_of c ∷ []) rows) = own_is ∙ ap (λ n. trimmed (row_weights (lists_of c ∷ []) n)) total in
    record {
      lists = subst (λ (x : Child). AllByRecursion (IsChildOf rows) (lists_of x ∷ [])) at (child, tt);
      value = sym fits ∙ ap (map saturated) own_rows ∙ ap (λ (x : Child). map saturated (trimmed (row_weights (lists_of x ∷ []) rows))) at;
      few = λ some. omega (arith, own_few, ap (λ (x : Child). runs x.class) at, sum_by_more (λ (child : Child). runs child.class) (d ∷ cs) 0 c (omega arith));
    }

pub weights_step : (cs : List Child) (rows i : ℕ) (weights own new : List ℕ) (c : Child) → i < length cs → c ≡ get_or cs i c → sum c.column ≡ rows
    → IsChildOf (sum c.column) (lists_of c) → own ≡ trimmed (row_weights (lists_of c ∷ []) (sum c.column)) → runs own ≤ runs c.class
    → new ≡ map saturated (rank_product weights own) → runs new ≤ runs weights + runs own → WeightsSoFar cs rows i weights → WeightsSoFar cs rows (i + 1) new
weights_step cs rows i weights own new c h at total lists own_is own_few new_is new_few so_far =
    let before : List ChildLists = map lists_of (take i cs) in
    let child : IsChildOf rows (lists_of c) = subst (λ n. IsChildOf n (lists_of c)) total lists in
    let more : map lists_of (take (i + 1) cs) ≡ before ++ lists_of c ∷ [] = map_more lists_of cs i c h ∙ ap (λ x. before ++ lists_of x ∷ []) (sym at) in
    let own_rows : own ≡ trimmed (row_weights (lists_of c ∷ []) rows) = own_is ∙ ap (λ n. trimmed (row_weights (lists_of c ∷ []) n)) total in
    let value : new ≡ map saturated (trimmed (row_weights (before ++ lists_of c ∷ []) rows)) =
    new_is ∙ rw (so_far.value, own_rows)
    (saturated-rank_product_left (trimmed (row_weights before rows)) (trimmed (row_weights (lists_of c ∷ []) rows))
    ∙ ap (map saturated) (rank_product-row_weights rows before (lists_of c) so_far.lists child)) in
    record {
      lists = subst (AllByRecursion (IsChildOf rows)) (sym more) (AllByRecursion-push (IsChildOf rows) before (lists_of c) so_far.lists child);
      value = value ∙ ap (λ cs. map saturated (trimmed (row_weights cs rows))) (sym more);
      few = λ some. elim (cases_lt 0 i) as (λ x. runs new ≤ class_runs (take (i + 1) cs)) [
        | inl later ↦ omega (arith, so_far.few later, new_few, own_few, sum_by_more (λ (child : Child). runs child.class) cs i c h, ap (λ (x : Child). runs x.class) at)
        | inr first ↦ (let zero_i : i ≡ 0 = omega arith in
            let nothing : before ≡ [] = ap (λ k. map lists_of (take k cs)) zero_i in
            let alone : new ≡ map saturated own = value ∙ ap (λ cs. map saturated (trimmed (row_weights (cs ++ lists_of c ∷ []) rows))) nothing ∙ ap (map saturated) (sym own_rows) in
            omega (arith, ap runs alone, runs-saturated own, own_few, sum_by_more (λ (child : Child). runs child.class) cs i c h, ap (λ (x : Child). runs x.class) at))
      ];
    }

-- ---- the sum of saturated weights

sum-saturated : (s : List ℕ) → saturated (sum (map saturated s)) ≡ saturated (sum s)
sum-saturated s =
    ap saturated (sym (running_sum-past (map saturated s) (length s) (omega (arith, length-map s saturated))))
    ∙ saturated-running_sum s (length s)
    ∙ ap saturated (running_sum-past s (length s) (omega arith))

sum-trimmed : (s : List ℕ) → sum (trimmed s) ≡ sum s
sum-trimmed s = sym (running_sum-past (trimmed s) (length s) (length-trimmed-le s)) ∙ running_sum-trimmed s (length s) ∙ running_sum-past s (length s) (omega arith)

pub total-weights : (s : List ℕ) → saturated (sum (map saturated (trimmed s))) ≡ saturated (sum s)
total-weights s = sum-saturated (trimmed s) ∙ ap saturated (sum-trimmed s)
