-- Steps of two loops. One caps the sum of a descending list, element by element (`capped_at`). The other raises a list to another list, rank by rank
-- (`rank_maximum`).
use Rattle.std.proofs.Common.{◌≡◌, ℕ, zero, suc, ◌+◌, ◌-◌, ◌<◌, ◌≤◌, max, min, List, [], ◌∷◌, ◌++◌, length, get_or, set, take, length-take, refl, ap, sym, ◌∙◌, arith, inl, inr}
use Rattle.std.specs.List.{AllByRecursion}
use Rattle.std.proofs.lemmas.Bool.{cases_lt}
use Rattle.std.proofs.lemmas.List.{length_push, take_more}
use Rattle.degree_sequences.specs.ByRank.{rank_maximum}
use Rattle.degree_sequences.specs.Descending.{IsDescending}
use Rattle.degree_sequences.specs.RunningSums.{running_sum, capped_at}
use Rattle.degree_sequences.proofs.FallingLists.{same_by_sums, descends_to}
use Rattle.degree_sequences.proofs.Minima.{running_sum-capped_at}
use Rattle.degree_sequences.proofs.RunningSums.{running_sum-mono, running_sum-past, running_sum-suc}
use Rattle.piece_math.proofs.Cutting.{positive-capped_at}

-- `list` has the first i elements of the capped list, and `left` is what is left of the number `most`
pub record IsCappedSoFar (falling : List ℕ) (most : ℕ) (i left : ℕ) (list : List ℕ) : Type 0 where
  pub lengths : length list ≡ i
  pub sums : (r : ℕ) → r ≤ i → running_sum list r ≡ min (running_sum falling r) most
  pub positive : AllByRecursion (λ x. 0 < x) list
  pub left_over : left + running_sum list i ≡ most

pub capped_none_yet : (falling : List ℕ) (most : ℕ) → IsCappedSoFar falling most 0 most []
capped_none_yet falling most = record {
  lengths = refl;
  sums = λ r is_below. (let none : r ≡ 0 = omega arith in rw none (omega arith));
  positive = tt;
  left_over = omega arith;
}

running_sum-front : (s t : List ℕ) (r : ℕ) → r ≤ length s → running_sum (s ++ t) r ≡ running_sum s r
running_sum-front s t zero within = refl
running_sum-front [] t (suc r) within = absurd (omega arith)
running_sum-front (x ∷ s) t (suc r) within = omega (arith, running_sum-front s t r (omega arith))

running_sum-push : (s : List ℕ) (x : ℕ) → running_sum (s ++ x ∷ []) (suc (length s)) ≡ running_sum s (length s) + x
running_sum-push [] x = omega arith
running_sum-push (y ∷ s) x = omega (arith, running_sum-push s x)

positive-push : (s : List ℕ) (x : ℕ) → AllByRecursion (λ y. 0 < y) s → 0 < x → AllByRecursion (λ y. 0 < y) (s ++ x ∷ [])
positive-push [] x all some = (some, tt)
positive-push (y ∷ s) x all some = (all.0, positive-push s x all.1 some)

pub cap_step : (falling : List ℕ) (most i left taken : ℕ) (list : List ℕ) → IsCappedSoFar falling most i left list → taken ≡ min left (get_or falling i 0) → 0 < taken
    → IsCappedSoFar falling most (i + 1) (left - taken) (list ++ taken ∷ [])
cap_step falling most i left taken list to is some =
    let next : suc i ≡ i + 1 = omega arith in
    let last : running_sum (list ++ taken ∷ []) (i + 1) ≡ running_sum list i + taken =
    (let place : i + 1 ≡ suc (length list) = omega (arith, to.lengths) in ap (running_sum (list ++ taken ∷ [])) place) ∙ running_sum-push list taken ∙ ap (λ m. running_sum list m + taken) to.lengths in
    record {
      lengths = length_push list taken ∙ ap (λ n. n + 1) to.lengths;
      sums = λ r is_below. elim (cases_lt i r) [
        | inl h ↦ (let at : r ≡ i + 1 = omega arith in
            let up : running_sum falling (i + 1) ≡ running_sum falling i + get_or falling i 0 = ap (running_sum falling) (sym next) ∙ running_sum-suc falling i in
            rw at (omega (arith, last, up, to.sums i (omega arith), to.left_over, is)))
        | inr h ↦ running_sum-front list (taken ∷ []) r (omega (arith, to.lengths)) ∙ to.sums r h
      ];
      positive = positive-push list taken to.positive some;
      left_over = omega (arith, last, to.left_over, is);
    }

pub cap_done : (falling : List ℕ) (most i left : ℕ) (list : List ℕ) → IsDescending falling → IsCappedSoFar falling most i left list → min left (get_or falling i 0) ≡ 0
    → list ≡ capped_at falling most
cap_done falling most i left list descends to nothing =
    same_by_sums list (capped_at falling most) to.positive (positive-capped_at falling most descends)
    (λ r. whole r ∙ sym (running_sum-capped_at falling most r))
  where
    flat : (n : ℕ) → get_or falling i 0 ≡ 0 → running_sum falling (i + n) ≡ running_sum falling i
    flat zero none = (let place : i + 0 ≡ i = omega arith in ap (running_sum falling) place)
    flat (suc n) none =
        let up : running_sum falling (i + suc n) ≡ running_sum falling (i + n) + get_or falling (i + n) 0 =
        (let place : i + suc n ≡ suc (i + n) = omega arith in ap (running_sum falling) place) ∙ running_sum-suc falling (i + n) in
        omega (arith, up, flat n none, descends_to falling descends i (i + n) (omega arith), none)

    stays : (r : ℕ) → i ≤ r → min (running_sum falling i) most ≡ min (running_sum falling r) most
    stays r over = elim (cases_lt 0 left) [
      | inl h ↦ (let none : get_or falling i 0 ≡ 0 = omega (arith, nothing) in
          let same : running_sum falling (i + (r - i)) ≡ running_sum falling i = flat (r - i) none in
          let at : i + (r - i) ≡ r = omega arith in
          omega (arith, same, ap (running_sum falling) at))
      | inr h ↦ omega (arith, to.left_over, to.sums i (omega arith), running_sum-mono falling i r over)
    ]

    whole : (r : ℕ) → running_sum list r ≡ min (running_sum falling r) most
    whole r = elim (cases_lt i r) [
      | inl h ↦ running_sum-past list r (omega (arith, to.lengths)) ∙ sym (running_sum-past list i (omega (arith, to.lengths))) ∙ to.sums i (omega arith) ∙ stays r (omega arith)
      | inr h ↦ to.sums r h
    ]

-- ---- a list is raised to another, rank by rank

pub rank_maximum-nil : (s : List ℕ) → rank_maximum s [] ≡ s
rank_maximum-nil [] = refl
rank_maximum-nil (x ∷ s) = refl

pub length-rank_maximum : (s t : List ℕ) → length (rank_maximum s t) ≡ max (length s) (length t)
length-rank_maximum [] t = omega arith
length-rank_maximum (x ∷ s) [] = omega arith
length-rank_maximum (x ∷ s) (y ∷ t) = omega (arith, length-rank_maximum s t)

pub raised_within : (s t : List ℕ) (d : ℕ) → length t < length s
    → rank_maximum s (t ++ d ∷ []) ≡ set (rank_maximum s t) (length t) (max (get_or (rank_maximum s t) (length t) 0) d)
raised_within [] t d within = absurd (omega arith)
raised_within (x ∷ s) [] d within = ap (λ u. max x d ∷ u) (rank_maximum-nil s)
raised_within (x ∷ s) (y ∷ t) d within = ap (λ u. max x y ∷ u) (raised_within s t d (omega arith))

pub raised_past : (s t : List ℕ) (d : ℕ) → length s ≤ length t → rank_maximum s (t ++ d ∷ []) ≡ rank_maximum s t ++ d ∷ []
raised_past [] t d past = refl
raised_past (x ∷ s) [] d past = absurd (omega arith)
raised_past (x ∷ s) (y ∷ t) d past = ap (λ u. max x y ∷ u) (raised_past s t d (omega arith))

pub raised_more : (s t list next : List ℕ) (i : ℕ) → i < length t → list ≡ rank_maximum s (take i t)
    → (i < length list → next ≡ set list i (max (get_or list i 0) (get_or t i 0))) → (length list ≤ i → next ≡ list ++ get_or t i 0 ∷ [])
    → next ≡ rank_maximum s (take (i + 1) t)
raised_more s t list next i within is inside past =
    let d : ℕ = get_or t i 0 in
    let front : List ℕ = take i t in
    let lengths : length front ≡ i = omega (arith, length-take i t) in
    let size : length list ≡ max (length s) i = ap length is ∙ length-rank_maximum s front ∙ ap (max (length s)) lengths in
    let more : rank_maximum s (front ++ d ∷ []) ≡ rank_maximum s (take (i + 1) t) = ap (rank_maximum s) (sym (take_more t i 0 within)) in
    elim (cases_lt i (length s)) [
      | inl h ↦ inside (omega (arith, size)) ∙ ap (λ l. set l i (max (get_or l i 0) d)) is
          ∙ ap (λ n. set (rank_maximum s front) n (max (get_or (rank_maximum s front) n 0) d)) (sym lengths) ∙ sym (raised_within s front d (omega (arith, lengths))) ∙ more
      | inr h ↦ past (omega (arith, size)) ∙ ap (λ l. l ++ d ∷ []) is ∙ sym (raised_past s front d (omega (arith, lengths))) ∙ more
    ]
