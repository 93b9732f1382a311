-- Start, steps and end of the walk along a degree list. Its state (`Growing`) has the result so far, and says what is still to be added.
use Rattle.std.proofs.Common.{◌≡◌, ℕ, zero, suc, ◌+◌, ◌-◌, ◌*◌, ◌<◌, ◌≤◌, min, ltb, List, [], ◌∷◌, ◌++◌, length, get_or, drop, replicate, refl, ap, sym, ◌∙◌, sum, arith, inl, inr, length-append, drop-cons}
use Rattle.std.specs.List.{All}
use Rattle.std.proofs.lemmas.Bool.{cases_lt, cond_both, lt-ltb}
use Rattle.std.proofs.lemmas.List.{append_assoc, length-replicate}
use Rattle.degree_sequences.specs.Compression.{next_head, heads_from, heads, head_of_row, compressed_from, compressed}
use Rattle.degree_sequences.specs.Descending.{IsDescending}
use Rattle.degree_sequences.specs.Rank.{rank}
use Rattle.degree_sequences.specs.RunningSums.{running_sum}
use Rattle.degree_sequences.proofs.CompressedLists.{step_above}
use Rattle.degree_sequences.proofs.FewRuns.{empty_if_sum_reached}
use Rattle.degree_sequences.proofs.Ranks.{rank_reaches, rank_least}
use Rattle.degree_sequences.proofs.RunningSums.{running_sum-mono, running_sum-suc, running_sum-past, running_sum-le-sum}

-- ---- elements at indices, and the values that compression gives them (heads)

pub is_element : (f : List ℕ) (i m : ℕ) → running_sum f i ≤ m → m < sum f → i < length f
is_element f i m h j = elim (cases_lt i (length f)) [ inl l ↦ l | inr l ↦ absurd (omega (arith, running_sum-past f i l)) ]

pub head_of_row_at : (k : ℕ) (f : List ℕ) (i m : ℕ) → running_sum f i ≤ m → m < running_sum f (suc i) → head_of_row k f m ≡ get_or (heads k f) i 0
head_of_row_at k f i m before after =
    let r : ℕ = rank f (suc m) in
    let reaches : suc m ≤ running_sum f r = rank_reaches f (suc m) (omega (arith, running_sum-le-sum f (suc i))) in
    let low : i < r = elim (cases_lt i r) [ inl h ↦ h | inr h ↦ absurd (omega (arith, running_sum-mono f r i h)) ] in
    let high : r ≤ suc i = elim (cases_lt (suc i) r) [ inl h ↦ absurd (omega (arith, rank_least f (suc m) (suc i) (omega arith) h)) | inr h ↦ h ] in
    let e : r - 1 ≡ i = omega arith in
    ap (λ n. get_or (heads k f) n 0) e

pub next_head-between : (k h x : ℕ) → x ≤ h → (x ≤ next_head k h x) × (next_head k h x ≤ h)
next_head-between k h x below = cond_both (ltb ((k + 1) * x) (k * h)) x h (λ y. (x ≤ y) × (y ≤ h))
    (λ e. (omega arith, below))
    (λ e. (below, omega arith))

get_or-drop : (s : List ℕ) (i : ℕ) → get_or s i 0 ≡ get_or (drop i s) 0 0
get_or-drop s zero = refl
get_or-drop [] (suc i) = refl
get_or-drop (x ∷ s) (suc i) = get_or-drop s i

drop-next : (s : List ℕ) (i x : ℕ) (t : List ℕ) → drop i s ≡ x ∷ t → drop (suc i) s ≡ t
drop-next [] zero x t h = absurd (cc)
drop-next [] (suc i) x t h = absurd (cc)
drop-next (y ∷ s) zero x t h = cc
drop-next (y ∷ s) (suc i) x t h = drop-next s i x t h

pub heads-step : (k : ℕ) (f : List ℕ) (i head : ℕ) → i < length f → heads_from k head (drop i f) ≡ drop i (heads k f)
    → (next_head k head (get_or f i 0) ≡ get_or (heads k f) i 0) × (heads_from k (next_head k head (get_or f i 0)) (drop (suc i) f) ≡ drop (suc i) (heads k f))
heads-step k f i head within same =
    let x : ℕ = get_or f i 0 in
    let front : drop i f ≡ x ∷ drop (suc i) f = drop-cons f i 0 within in
    let now : next_head k head x ∷ heads_from k (next_head k head x) (drop (suc i) f) ≡ drop i (heads k f) = ap (heads_from k head) (sym front) ∙ same in (
      sym (get_or-drop (heads k f) i ∙ ap (λ (s : List ℕ). get_or s 0 0) (sym now)),
      sym (drop-next (heads k f) i (next_head k head x) (heads_from k (next_head k head x) (drop (suc i) f)) (sym now)),
    )

-- ---- the result so far

-- The state after i elements has the pieces, the run that still grows, and the head. It also has the sum of the i passed degrees (`rows`) and the
-- sum of the result (`covered`)
pub record Growing (k : ℕ) (f : List ℕ) (i : ℕ) (pieces : List ℕ) (value count head rows covered : ℕ) : Type 0 where
  pub within : i ≤ length f
  pub rows_are : rows ≡ running_sum f i
  pub heads_are : heads_from k head (drop i f) ≡ drop i (heads k f)
  pub head_above : get_or f i 0 ≤ head
  pub head_most : head ≤ sum f
  pub lower : head ≤ value
  pub descends : All (λ x. value ≤ x) pieces
  pub ahead : running_sum f i ≤ covered
  pub none_yet : count ≡ 0 → (pieces ≡ []) × (covered ≡ 0)
  pub to_come : covered < sum f → (pieces ++ replicate count value) ++ compressed_from k f (length f - (length pieces + count)) covered ≡ compressed k f
  pub keeps_up : covered < sum f → running_sum f (length pieces + count) ≤ covered
  pub complete : 0 < count → sum f ≤ covered → (pieces ++ replicate (count - 1) value) ++ replicate 1 (value - (covered - sum f)) ≡ compressed k f
  pub last : 0 < count → covered < sum f + value
  pub short : length pieces + count ≤ length f

pub growing_start : (k : ℕ) (f : List ℕ) → Growing k f 0 [] (get_or f 0 0) 0 (get_or f 0 0) 0 0
growing_start k f = record {
  within = omega arith;
  rows_are = refl;
  heads_are = refl;
  head_above = omega arith;
  head_most = omega (arith, running_sum-suc f 0, running_sum-le-sum f 1);
  lower = omega arith;
  descends = λ i d h. absurd (omega arith);
  ahead = omega arith;
  none_yet = λ e. (refl, refl);
  to_come = λ h. let e : length f - 0 ≡ length f = omega arith in rw e refl;
  keeps_up = λ h. omega arith;
  complete = λ h. absurd (omega arith);
  last = λ h. absurd (omega arith);
  short = omega arith;
}

-- the rows of the next element are covered already, so the result doesn't change
pub growing_passed : (k : ℕ) (f : List ℕ) (i : ℕ) (pieces : List ℕ) (value count head rows covered head' rows' : ℕ) → IsDescending f → Growing k f i pieces value count head rows covered
    → i < length f → head' ≡ next_head k head (get_or f i 0) → rows' ≡ rows + get_or f i 0 → rows' ≤ covered
    → Growing k f (suc i) pieces value count head' rows' covered
growing_passed k f i pieces value count head rows covered head' rows' fall g here head_is rows_is enough =
    let x : ℕ = get_or f i 0 in
    let sums : running_sum f (suc i) ≡ running_sum f i + x = running_sum-suc f i in
    let step : (next_head k head x ≡ get_or (heads k f) i 0) × (heads_from k (next_head k head x) (drop (suc i) f) ≡ drop (suc i) (heads k f)) = heads-step k f i head here g.heads_are in
    let between : (x ≤ next_head k head x) × (next_head k head x ≤ head) = next_head-between k head x g.head_above in
    record {
      within = omega arith;
      rows_are = omega (arith, g.rows_are);
      heads_are = rw head_is step.1;
      head_above = omega (arith, fall i, between.0);
      head_most = omega (arith, between.1, g.head_most);
      lower = omega (arith, between.1, g.lower);
      descends = g.descends;
      ahead = omega (arith, g.rows_are);
      none_yet = g.none_yet;
      to_come = g.to_come;
      keeps_up = g.keeps_up;
      complete = g.complete;
      last = g.last;
      short = g.short;
    }

replicate-suc : (n x : ℕ) → replicate (suc n) x ≡ replicate n x ++ x ∷ []
replicate-suc zero x = refl
replicate-suc (suc n) x = ap (λ (s : List ℕ). x ∷ s) (replicate-suc n x)

replicate-last : (n x : ℕ) → 0 < n → replicate n x ≡ replicate (n - 1) x ++ x ∷ []
replicate-last n x some = let e : n ≡ suc (n - 1) = omega arith in ap (λ m. replicate m x) e ∙ replicate-suc (n - 1) x

-- A row of the next element isn't covered, so the run gets one element more. If the new head differs from the run's value, the step first moves the
-- run to the pieces, and begins a new run.
pub growing_more : (k : ℕ) (f : List ℕ) (i : ℕ) (pieces : List ℕ) (value count head rows covered : ℕ) (pieces' : List ℕ) (count' head' rows' : ℕ) → IsDescending f
    → Growing k f i pieces value count head rows covered → i < length f → head' ≡ next_head k head (get_or f i 0) → rows' ≡ rows + get_or f i 0 → covered < rows'
    → 0 < count' → pieces' ++ replicate (count' - 1) head' ≡ pieces ++ replicate count value → All (λ x. head' ≤ x) pieces'
    → Growing k f (suc i) pieces' head' count' head' rows' (covered + head')
growing_more k f i pieces value count head rows covered pieces' count' head' rows' fall g here head_is rows_is short some same descends' =
    let x : ℕ = get_or f i 0 in
    let sums : running_sum f (suc i) ≡ running_sum f i + x = running_sum-suc f i in
    let inside : covered < sum f = omega (arith, g.rows_are, running_sum-le-sum f (suc i)) in
    let step : (next_head k head x ≡ get_or (heads k f) i 0) × (heads_from k (next_head k head x) (drop (suc i) f) ≡ drop (suc i) (heads k f)) = heads-step k f i head here g.heads_are in
    let between : (x ≤ next_head k head x) × (next_head k head x ≤ head) = next_head-between k head x g.head_above in
    let slope_is : head_of_row k f covered ≡ head' = head_of_row_at k f i covered g.ahead (omega (arith, g.rows_are)) ∙ sym step.0 ∙ sym head_is in
    let n : ℕ = length pieces + count in
    let element : n < length f = is_element f n covered (g.keeps_up inside) inside in
    let fuel : ℕ = length f - suc n in
    let fuel_is : length f - n ≡ suc fuel = omega arith in
    let next : ℕ = min head' (sum f - covered) in
    let now : compressed_from k f (suc fuel) covered ≡ next ∷ compressed_from k f fuel (covered + next) = rw (lt-ltb covered (sum f) inside, slope_is) refl in
    let list : List ℕ = pieces ++ replicate count value in
    let whole : list ++ (next ∷ compressed_from k f fuel (covered + next)) ≡ compressed k f =
    ap (λ (s : List ℕ). list ++ s) (sym now) ∙ ap (λ m. list ++ compressed_from k f m covered) (sym fuel_is) ∙ g.to_come inside in
    let longer : pieces' ++ replicate count' head' ≡ list ++ head' ∷ [] =
    ap (λ (s : List ℕ). pieces' ++ s) (replicate-last count' head' some) ∙ sym (append_assoc pieces' (replicate (count' - 1) head') (head' ∷ [])) ∙ ap (λ (s : List ℕ). s ++ head' ∷ []) same in
    let count_is : length pieces' + count' ≡ suc n =
    omega (
      arith,
      ap length longer,
      length-append pieces' (replicate count' head'),
      length-append list (head' ∷ []),
      length-append pieces (replicate count value),
      length-replicate count' head',
      length-replicate count value,
    ) in
    record {
      within = omega arith;
      rows_are = omega (arith, g.rows_are);
      heads_are = rw head_is step.1;
      head_above = omega (arith, fall i, between.0);
      head_most = omega (arith, between.1, g.head_most);
      lower = omega arith;
      descends = descends';
      ahead = omega (arith, between.0, g.ahead);
      none_yet = λ e. absurd (omega arith);
      to_come = λ h. let e : next ≡ head' = omega arith in
          rw (longer, count_is) (append_assoc list (head' ∷ []) (compressed_from k f fuel (covered + head')) ∙ (rw e at whole));
      keeps_up = λ h. let e : next ≡ head' = omega arith in
          rw count_is (omega (arith, step_above k f fall n covered (g.keeps_up inside) inside, slope_is));
      complete = λ some past. let e : next ≡ head' - (covered + head' - sum f) = omega arith in
          let over : compressed_from k f fuel (covered + next) ≡ [] = empty_if_sum_reached k f fuel (covered + next) (omega arith) in
          rw (same, sym e) (ap (λ (s : List ℕ). list ++ next ∷ s) (sym over) ∙ whole);
      last = λ some. omega arith;
      short = omega arith;
    }

-- if the run is empty at the end, there was nothing to compress
pub growing_empty : (k : ℕ) (f : List ℕ) (i : ℕ) (pieces : List ℕ) (value count head rows covered : ℕ) → Growing k f i pieces value count head rows covered
    → length f ≤ i → count ≤ 0 → pieces ≡ compressed k f
growing_empty k f i pieces value count head rows covered g end none =
    let nothing : (pieces ≡ []) × (covered ≡ 0) = g.none_yet (omega arith) in
    let sum_is : sum f ≤ 0 = omega (arith, g.ahead, running_sum-past f i end, nothing.1) in
    nothing.0 ∙ sym (empty_if_sum_reached k f (length f) 0 sum_is)

-- Otherwise the last element of the run is too great by `covered - rows`. The result's sum exceeds the list's sum by this much. The element is
-- greater than the excess.
pub growing_ended : (k : ℕ) (f : List ℕ) (i : ℕ) (pieces : List ℕ) (value count head rows covered : ℕ) → Growing k f i pieces value count head rows covered
    → length f ≤ i → 0 < count → (rows ≡ sum f) × (sum f ≤ covered) × (covered - rows < value)
growing_ended k f i pieces value count head rows covered g end some =
    let whole : running_sum f i ≡ sum f = running_sum-past f i end in
    (omega (arith, g.rows_are), omega (arith, g.ahead), omega (arith, g.rows_are, g.last some))
