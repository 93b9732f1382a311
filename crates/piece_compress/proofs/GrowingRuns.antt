-- The walk goes along the runs of a degree list. The n elements of a run are equal degrees, and have the same head.
use Rattle.std.proofs.Common.{◌≡◌, ℕ, zero, suc, ◌+◌, ◌-◌, ◌*◌, ◌<◌, ◌≤◌, ltb, List, [], ◌∷◌, ◌++◌, length, get_or, drop, replicate, refl, ap, sym, ◌∙◌, sum, arith, inl, inr}
use Rattle.std.specs.Int.{div_ceil}
use Rattle.std.specs.List.{All, AllByRecursion}
use Rattle.std.proofs.Math.Nat.{mul-le-mul_right, suc-mul, zero-mul}
use Rattle.std.proofs.lemmas.Bool.{cases_lt, cond_both}
use Rattle.std.proofs.lemmas.Grind.{div_ceil_times}
use Rattle.std.proofs.lemmas.List.{drop_all, length-drop}
use Rattle.std.proofs.lemmas.List.Sums.{sum_by-cons}
use Rattle.degree_sequences.specs.Compression.{next_head}
use Rattle.degree_sequences.specs.Descending.{IsDescending}
use Rattle.degree_sequences.proofs.RunningSums.{running_sum-le-sum}
use Rattle.degree_sequences.proofs.Spread.{get_or-front}
use Rattle.piece_math.specs.declared.pieces.Piece.{Piece}
use Rattle.piece_math.specs.Expanded.{expanded, AreRuns, ArePieces}
use Rattle.piece_math.proofs.Building.{HasRun}
use Rattle.piece_math.proofs.Cutting.{PieceBeginsAt, piece_passed, piece_run, value_positive}
use Rattle.piece_math.proofs.Expansion.{IsDescending-expanded, positive-expanded}
use Rattle.piece_math.proofs.RunningMinima.{running_sum-has_run}
use Rattle.piece_compress.proofs.Growing.{Growing, growing_more, growing_start, growing_passed, next_head-between}

head_stays : (k head x : ℕ) → next_head k (next_head k head x) x ≡ next_head k head x
head_stays k head x = cond_both (ltb ((k + 1) * x) (k * head)) x head (λ y. next_head k y x ≡ y)
    (λ e. cond_both (ltb ((k + 1) * x) (k * x)) x x (λ y. y ≡ x) (λ p. refl) (λ p. refl))
    (λ e. rw e refl)

-- ---- n more elements of one value

-- the run of the new state has n more elements of value h; a run of another value went to the pieces first
abbrev HaveMore : (n h : ℕ) (pieces : List ℕ) (value count : ℕ) (pieces' : List ℕ) (value' count' : ℕ) → Type 0
HaveMore n h pieces value count pieces' value' count' =
    (value' ≡ h) × (n ≤ count') × (pieces' ++ replicate (count' - n) h ≡ pieces ++ replicate count value) × All (λ x. h ≤ x) pieces'

abbrev AreMore : (n h : ℕ) (pieces : List ℕ) (value count : ℕ) (pieces' : List ℕ) (value' count' : ℕ) → Type 0
AreMore zero h pieces value count pieces' value' count' = (pieces' ≡ pieces) × (value' ≡ value) × (count' ≡ count)
AreMore (suc n) h pieces value count pieces' value' count' = HaveMore (suc n) h pieces value count pieces' value' count'

more_if_positive : (n h : ℕ) (pieces : List ℕ) (value count : ℕ) (pieces' : List ℕ) (value' count' : ℕ) → 0 < n
    → AreMore n h pieces value count pieces' value' count' → HaveMore n h pieces value count pieces' value' count'
more_if_positive zero h pieces value count pieces' value' count' some more = absurd (omega arith)
more_if_positive (suc n) h pieces value count pieces' value' count' some more = more

are_more : (n h : ℕ) (pieces : List ℕ) (value count : ℕ) (pieces' : List ℕ) (value' count' : ℕ) → 0 < n
    → HaveMore n h pieces value count pieces' value' count' → AreMore n h pieces value count pieces' value' count'
are_more zero h pieces value count pieces' value' count' some more = absurd (omega arith)
are_more (suc n) h pieces value count pieces' value' count' some more = more

but_first : (n h count' : ℕ) (pieces' : List ℕ) (value' : ℕ) → value' ≡ h → n ≤ count' → All (λ x. h ≤ x) pieces'
    → AreMore n h pieces' h (count' - n) pieces' value' count'
but_first zero h count' pieces' value' is fits descends = (refl, is, omega arith)
but_first (suc n) h count' pieces' value' is fits descends = (is, fits, refl, descends)

-- ---- the elements of a run

module _ (k : ℕ) (f : List ℕ) (is_descending : IsDescending f) (v h i' rows' covered' : ℕ) (pieces' : List ℕ) (value' count' : ℕ) (rows_covered : rows' ≤ covered') where
  run_ended : (i head rows covered n : ℕ) (pieces : List ℕ) (value count : ℕ) → Growing k f i pieces value count head rows covered
      → head ≡ h → i' ≡ i → rows' ≡ rows → covered' ≡ covered + n * h → (0 < n → covered' < rows' + h)
      → AreMore n h pieces value count pieces' value' count' → Growing k f i' pieces' value' count' h rows' covered'
  run_ended i head rows covered zero pieces value count g head_is i_is rows_is covered_is close more =
      let covered_same : covered' ≡ covered = omega (arith, covered_is, zero-mul h) in
      rw (i_is, rows_is, covered_same, more.0, more.1, more.2, sym head_is) g
  run_ended i head rows covered (suc n) pieces value count g head_is i_is rows_is covered_is close more =
      absurd (omega (arith, rows_is, covered_is, suc-mul n h, close (omega arith), g.ahead, g.rows_are))

  pub grown : (c i head rows covered n : ℕ) (pieces : List ℕ) (value count : ℕ) → Growing k f i pieces value count head rows covered
      → next_head k head v ≡ h → (c ≡ 0 → head ≡ h) → i + c ≤ length f → ((m : ℕ) → i ≤ m → m < i + c → get_or f m 0 ≡ v)
      → i' ≡ i + c → rows' ≡ rows + c * v → covered' ≡ covered + n * h → (0 < n → covered' < rows' + h)
      → AreMore n h pieces value count pieces' value' count' → Growing k f i' pieces' value' count' h rows' covered'
  grown zero i head rows covered n pieces value count g next none fits same i_is rows_is covered_is close more =
      run_ended i head rows covered n pieces value count g (none refl) (omega (arith, i_is)) (omega (arith, rows_is, zero-mul v)) covered_is close more
  grown (suc c) i head rows covered n pieces value count g next none fits same i_is rows_is covered_is close more =
      let element : get_or f i 0 ≡ v = same i (omega arith) (omega arith) in
      let head_is : h ≡ next_head k head (get_or f i 0) = sym (ap (next_head k head) element ∙ next) in
      let first_rows : rows + v ≡ rows + get_or f i 0 = ap (λ x. rows + x) (sym element) in
      let stays : next_head k h v ≡ h = ap (λ y. next_head k y v) (sym next) ∙ head_stays k head v ∙ next in
      let other_rows : rows' ≡ (rows + v) + c * v = omega (arith, rows_is, suc-mul c v) in
      elim (cases_lt covered (rows + v)) [
        | inl short ↦ (let some : 0 < n = is_some n covered_is short other_rows in
            let least : ℕ = n - 1 in
            let n_is : n ≡ suc least = omega (arith, some) in
            let its : HaveMore n h pieces value count pieces' value' count' = more_if_positive n h pieces value count pieces' value' count' some more in
            let one_less : count' - least - 1 ≡ count' - n = omega (arith, n_is) in
            let product : n * h ≡ least * h + h = ap (λ x. x * h) n_is ∙ suc-mul least h in
            let one : Growing k f (suc i) pieces' h (count' - least) h (rows + v) (covered + h) =
            growing_more k f i pieces value count head rows covered pieces' (count' - least) h (rows + v) is_descending g (omega arith) head_is first_rows short
            (omega (arith, its.1, n_is)) (rw one_less its.2) its.3 in
            grown c (suc i) h (rows + v) (covered + h) least pieces' h (count' - least) one stays (λ e. refl) (omega arith)
            (λ m low high. same m (omega arith) (omega arith)) (omega (arith, i_is)) other_rows (omega (arith, covered_is, product)) (λ more_left. close some)
            (but_first least h count' pieces' value' its.0 (omega (arith, its.1, n_is)) its.3))
        | inr over ↦ (let one : Growing k f (suc i) pieces value count h (rows + v) covered =
            growing_passed k f i pieces value count head rows covered h (rows + v) is_descending g (omega arith) head_is first_rows over in
            grown c (suc i) h (rows + v) covered n pieces value count one stays (λ e. refl) (omega arith)
            (λ m low high. same m (omega arith) (omega arith)) (omega (arith, i_is)) other_rows covered_is close more)
      ]
    where
      is_some : (n : ℕ) → covered' ≡ covered + n * h → covered < rows + v → rows' ≡ (rows + v) + c * v → 0 < n
      is_some zero covered_is short other_rows = absurd (omega (arith, covered_is, zero-mul h, other_rows, rows_covered))
      is_some (suc n) covered_is short other_rows = omega arith

-- ---- how many more elements a run needs

times_close : (rows covered h n : ℕ) → covered < rows → 0 < h → n ≡ div_ceil (rows - covered) h
    → (0 < n) × (rows ≤ covered + n * h) × (covered + n * h < rows + h)
times_close rows covered h n short pos is =
    let both : (rows - covered ≤ n * h) × (n * h < (rows - covered) + h) = rw is (div_ceil_times (rows - covered) h pos) in
    (is_some n both.0, omega (arith, both.0), omega (arith, both.1))
  where
    is_some : (n : ℕ) → rows - covered ≤ n * h → 0 < n
    is_some zero low = absurd (omega (arith, zero-mul h))
    is_some (suc n) low = omega arith

positive_element_exists : (s : List ℕ) (i : ℕ) → 0 < get_or s i 0 → i < length s
positive_element_exists [] i pos = absurd (omega arith)
positive_element_exists (x ∷ s) zero pos = omega arith
positive_element_exists (x ∷ s) (suc i) pos = omega (arith, positive_element_exists s i pos)

length_at_most_sum : (s : List ℕ) → AllByRecursion (λ x. 0 < x) s → length s ≤ sum s
length_at_most_sum [] pos = omega arith
length_at_most_sum (x ∷ s) pos = omega (arith, sum_by-cons (λ (y : ℕ). y) x s, pos.0, length_at_most_sum s pos.1)

keys_within : (ps : List Piece) → ArePieces ps → length (expanded ps) ≤ sum (expanded ps)
keys_within ps are = length_at_most_sum (expanded ps) (positive-expanded ps are.descends)

-- `no_piece` is the default for reading past the last run
abbrev pub no_piece : Piece
no_piece = record { value = 0; count = 0 }

pub first_piece_value : (ps : List Piece) → ArePieces ps → 0 < length ps → (get_or ps 0 no_piece).value ≡ get_or (expanded ps) 0 0
first_piece_value [] are some = absurd (omega arith)
first_piece_value (p ∷ ps) are some = sym (get_or-front p.count p.value (expanded ps) 0 are.descends.1)

counts_are_positive : (ps : List Piece) (j : ℕ) (d : Piece) → AreRuns ps → j < length ps → 0 < (get_or ps j d).count
counts_are_positive [] j d fall low = absurd (omega arith)
counts_are_positive (p ∷ ps) zero d fall low = fall.1
counts_are_positive (p ∷ ps) (suc j) d fall low = counts_are_positive ps j d fall.2 (omega arith)

-- ---- run by run

-- the state after j runs is the state after the elements of these runs
pub record GrowingRuns (k : ℕ) (ps : List Piece) (j : ℕ) (pieces : List ℕ) (value count head rows covered : ℕ) : Type 0 where
  pub rank : ℕ
  pub before : PieceBeginsAt ps j rank
  pub growing : Growing k (expanded ps) rank pieces value count head rows covered

pub growing_runs_start : (k : ℕ) (ps : List Piece) (head : ℕ) → head ≡ get_or (expanded ps) 0 0 → GrowingRuns k ps 0 [] head 0 head 0 0
growing_runs_start k ps head is = record { rank = 0; before = record { rest = refl }; growing = rw is (growing_start k (expanded ps)) }

pub rank_at_end : (ps : List Piece) (j rank : ℕ) → PieceBeginsAt ps j rank → length ps ≤ j → length (expanded ps) ≤ rank
rank_at_end ps j rank before end =
    let none : expanded (drop j ps) ≡ [] = ap expanded (drop_all j ps end) in
    omega (arith, length-drop rank (expanded ps), ap (λ (s : List ℕ). length s) before.rest, ap (λ (s : List ℕ). length s) none)

module _ (k : ℕ) (ps : List Piece) (j : ℕ) (pieces : List ℕ) (value count head rows covered : ℕ) (are_pieces : ArePieces ps) (run_exists : j < length ps)
    (g : GrowingRuns k ps j pieces value count head rows covered) where
  abbrev p : Piece
  p = get_or ps j no_piece

  its_run : HasRun (expanded ps) g.rank p.count p.value
  its_run = piece_run ps j g.rank no_piece run_exists g.before

  some_keys : 0 < p.count
  some_keys = counts_are_positive ps j no_piece are_pieces.descends run_exists

  pub positive : 0 < p.value
  positive = value_positive ps j no_piece are_pieces run_exists

  pub degree_below : p.value ≤ head
  degree_below =
      let e : g.rank + 0 ≡ g.rank = omega arith in
      let element : get_or (expanded ps) g.rank 0 ≡ p.value = ap (λ m. get_or (expanded ps) m 0) (sym e) ∙ its_run.same 0 some_keys in
      omega (arith, g.growing.head_above, element)

  pub head_within : head ≤ sum (expanded ps)
  head_within = g.growing.head_most

  pub rows_within : rows + p.value * p.count ≤ sum (expanded ps)
  rows_within =
      omega (
        arith,
        g.growing.rows_are,
        running_sum-has_run (expanded ps) g.rank p.count p.value its_run p.count (omega arith),
        running_sum-le-sum (expanded ps) (g.rank + p.count),
      )

  keys_fit : g.rank + p.count ≤ length (expanded ps)
  keys_fit =
      let last : get_or (expanded ps) (g.rank + (p.count - 1)) 0 ≡ p.value = its_run.same (p.count - 1) (omega (arith, some_keys)) in
      omega (arith, some_keys, positive_element_exists (expanded ps) (g.rank + (p.count - 1)) (omega (arith, last, positive)))

  its_keys : (m : ℕ) → g.rank ≤ m → m < g.rank + p.count → get_or (expanded ps) m 0 ≡ p.value
  its_keys m from below =
      let e : g.rank + (m - g.rank) ≡ m = omega arith in
      ap (λ i. get_or (expanded ps) i 0) (sym e) ∙ its_run.same (m - g.rank) (omega arith)

  module _ (h rows' : ℕ) (head_is : h ≡ next_head k head p.value) (rows_is : rows' ≡ rows + p.value * p.count) where
    run_passed : (n covered' : ℕ) (pieces' : List ℕ) (value' count' : ℕ) → covered' ≡ covered + n * h → rows' ≤ covered' → (0 < n → covered' < rows' + h)
        → AreMore n h pieces value count pieces' value' count' → GrowingRuns k ps (j + 1) pieces' value' count' h rows' covered'
    run_passed n covered' pieces' value' count' covered_is enough close more = record {
      rank = g.rank + p.count;
      before = piece_passed ps j g.rank no_piece run_exists g.before;
      growing = grown k (expanded ps) (IsDescending-expanded ps are_pieces.descends) p.value h (g.rank + p.count) rows' covered' pieces' value' count' enough
          p.count g.rank head rows covered n pieces value count g.growing (sym head_is) (λ none. absurd (omega (arith, some_keys, none))) keys_fit its_keys refl
          (omega (arith, rows_is)) covered_is close more;
    }

    -- the rows of the run are covered already, so the result doesn't change
    pub run_skipped : rows' ≤ covered → GrowingRuns k ps (j + 1) pieces value count h rows' covered
    run_skipped enough = run_passed 0 covered pieces value count (omega (arith, zero-mul h)) enough (λ some. absurd (omega arith)) (refl, refl, refl)

    pub head_between : (p.value ≤ h) × (h ≤ head)
    head_between = rw head_is (next_head-between k head p.value degree_below)

    module _ (n : ℕ) (not_covered : covered < rows') (n_is : n ≡ div_ceil (rows' - covered) h) where
      its_times : (0 < n) × (rows' ≤ covered + n * h) × (covered + n * h < rows' + h)
      its_times = times_close rows' covered h n not_covered (omega (arith, head_between.0, positive)) n_is

      pub covered_small : covered + h * n < sum (expanded ps) + sum (expanded ps)
      covered_small = omega (arith, its_times.2, head_between.1, head_within, rows_within, rows_is)

      pub room_for_run : length pieces + count + n < 3 * sum (expanded ps)
      room_for_run = omega (
        arith,
        g.growing.short,
        keys_within ps are_pieces,
        covered_small,
        mul-le-mul_right n (head_positive),
      )
        where
          head_positive : 1 ≤ h
          head_positive = omega (arith, head_between.0, positive)

      -- the rows of the run aren't covered, so n more elements of the head's value cover them
      pub run_covered : (pieces' : List ℕ) (value' count' : ℕ) → value' ≡ h → n ≤ count'
          → pieces' ++ replicate (count' - n) h ≡ pieces ++ replicate count value → All (λ x. h ≤ x) pieces'
          → GrowingRuns k ps (j + 1) pieces' value' count' h rows' (covered + h * n)
      run_covered pieces' value' count' value_is more_is before_is descends =
          run_passed n (covered + h * n) pieces' value' count' (omega arith) (omega (arith, its_times.1)) (λ some. omega (arith, its_times.2))
          (are_more n h pieces value count pieces' value' count' its_times.0 (value_is, more_is, before_is, descends))
