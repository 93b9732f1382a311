-- The walk along the blocks of a parent list and along the weights of their rows. An element x of the parent list makes a block of x rows.
use Rattle.std.proofs.Common.{◌≡◌, ℕ, zero, suc, ◌+◌, ◌-◌, ◌*◌, ◌/◌, ◌^◌, ◌<◌, ◌≤◌, min, List, [], ◌∷◌, ◌++◌, length, get_or, map, take, drop, replicate, refl, ap, sym, ◌∙◌, arith, length-drop, length-append, inl, inr, ◌⊎◌}
use Rattle.std.specs.List.{AllByRecursion}
use Rattle.std.proofs.Math.Nat.{mul-le-mul_left}
use Rattle.std.proofs.lemmas.Bool.{cases_lt}
use Rattle.std.proofs.lemmas.List.{take_all, length-map, length-replicate}
use Rattle.degree_sequences.proofs.FallingLists.{IsDescending-from_sums, sums_of_windows, trimmed_positive}
use Rattle.degree_sequences.proofs.RunningSums.{running_sum-suc, running_sum-past, running_sum-add, running_sum-mono, running_sum-block_sums}
use Rattle.degree_sequences.specs.Composition.{block_sums}
use Rattle.degree_sequences.specs.Descending.{IsDescending, trimmed}
use Rattle.degree_sequences.specs.RunningSums.{running_sum}
use Rattle.degree_sequences.specs.Runs.{runs}
use Rattle.degree_sequences.specs.Saturation.{saturated}
use Rattle.piece_math.specs.declared.pieces.Piece.{Piece}
use Rattle.piece_math.specs.declared.walk.PiecePlace.{PiecePlace}
use Rattle.piece_math.specs.Expanded.{expanded, AreRuns, ArePieces, IsAppended}
use Rattle.piece_math.specs.PiecePlaces.{rest_from, first_remaining, ahead_of, IsPiecePlace}
use Rattle.piece_math.proofs.Building.{HasRun, run_built, ends_at_zero, get_or-saturated, IsDescending-saturated, positive-saturated}
use Rattle.piece_math.proofs.Expansion.{IsDescending-expanded}
use Rattle.piece_math.proofs.PiecePlaces.{equal_ahead, IsPiecePlace-start}
use Rattle.piece_math.proofs.RunningMinima.{element_from_sums, running_sum-has_run}
use Rattle.piece_math.proofs.Spreading.{IsDescending-trimmed, length-trimmed-le, get_or-trimmed}
use Rattle.piece_math.proofs.Walking.{element_ahead, rest_after, rest_past_end}

-- ---- sums of blocks

length-block_sums : (g u : List ℕ) → length (block_sums g u) ≡ length g
length-block_sums [] u = refl
length-block_sums (x ∷ g) u = ap suc (length-block_sums g (drop x u))

pub IsDescending-block_sums : (g u : List ℕ) → IsDescending g → IsDescending u → IsDescending (block_sums g u)
IsDescending-block_sums g u fg fu = IsDescending-from_sums (block_sums g u) (λ r.
    let one : running_sum g r + get_or g r 0 ≡ running_sum g (suc r) = sym (running_sum-suc g r) in
    let two : running_sum g (suc r) + get_or g (suc r) 0 ≡ running_sum g (suc (suc r)) = sym (running_sum-suc g (suc r)) in
    omega (
      arith,
      running_sum-block_sums g u r,
      running_sum-block_sums g u (suc r),
      running_sum-block_sums g u (suc (suc r)),
      ap (running_sum u) one,
      ap (running_sum u) two,
      sums_of_windows u fu (running_sum g r) (running_sum g (suc r)) (get_or g r 0) (get_or g (suc r) 0) (running_sum-mono g r (suc r) (omega arith)) (fg r),
    ))

block_element : (g u : List ℕ) (r v : ℕ) → running_sum u (running_sum g (r + 1)) ≡ running_sum u (running_sum g r) + v → get_or (block_sums g u) r 0 ≡ v
block_element g u r v h = element_from_sums (block_sums g u) r v (running_sum-block_sums g u (r + 1) ∙ h ∙ ap (λ n. n + v) (sym (running_sum-block_sums g u r)))

-- The walk builds the sums of blocks. The list is trimmed (without zeros at the end) and saturated (at most 2 ^ 128 - 1 each)
abbrev pub grouped_list : List Piece → List Piece → List ℕ
grouped_list g u = map saturated (trimmed (block_sums (expanded g) (expanded u)))

get_or-grouped : (g u : List Piece) (r v : ℕ) → running_sum (expanded u) (running_sum (expanded g) (r + 1)) ≡ running_sum (expanded u) (running_sum (expanded g) r) + v
    → get_or (grouped_list g u) r 0 ≡ saturated v
get_or-grouped g u r v h =
    get_or-saturated (trimmed (block_sums (expanded g) (expanded u))) r
    ∙ ap saturated (get_or-trimmed (block_sums (expanded g) (expanded u)) r ∙ block_element (expanded g) (expanded u) r v h)

-- ---- positions within a piece

first_remaining-more : (ps : List Piece) (i used n : ℕ) → i < length ps
    → ((first_remaining (drop i ps) (used + n)).value ≡ (first_remaining (drop i ps) used).value) × ((first_remaining (drop i ps) (used + n)).count ≡ (first_remaining (drop i ps) used).count - n)
first_remaining-more [] i used n h = absurd (omega arith)
first_remaining-more (p ∷ ps) zero used n h = (refl, omega arith)
first_remaining-more (p ∷ ps) (suc i) used n h = first_remaining-more ps i used n (omega arith)

rest_longer : (ps : List Piece) (i used : ℕ) → i < length ps → (first_remaining (drop i ps) used).count ≤ length (drop used (expanded (drop i ps)))
rest_longer [] i used h = absurd (omega arith)
rest_longer (p ∷ ps) zero used h =
    omega (arith, length-drop used (replicate p.count p.value ++ expanded ps), length-append (replicate p.count p.value) (expanded ps), length-replicate p.count p.value)
rest_longer (p ∷ ps) (suc i) used h = rest_longer ps i used (omega arith)

-- ---- the walk

-- the next block goes on past the end of the piece that has its first row
abbrev pub IsMixed : List Piece → List Piece → PiecePlace → PiecePlace → Type 0
IsMixed g u at row = (ahead_of u row).count < (ahead_of g at).value

-- this is the state of the walk: the list is built up to the positions, and it has few runs
pub record GroupedSoFar (g u : List Piece) (at row : PiecePlace) (list : List ℕ) : Type 0 where
  pub rank : ℕ
  pub blocks : rest_from g at ≡ drop rank (expanded g)
  pub rows : rest_from u row ≡ drop (running_sum (expanded g) rank) (expanded u)
  pub block_place : IsPiecePlace g at
  pub row_place : IsPiecePlace u row
  pub built : list ≡ take rank (grouped_list g u)
  pub few : (runs list ≤ at.at + 2 * row.at) ⊎ ((runs list ≤ at.at + 2 * row.at + 1) × IsMixed g u at row)

pub grouped_start : (g u : List Piece) → ArePieces g → ArePieces u → GroupedSoFar g u (record { at = 0; used = 0 }) (record { at = 0; used = 0 }) []
grouped_start g u are_g are_u = record {
  rank = 0;
  blocks = refl;
  rows = refl;
  block_place = IsPiecePlace-start g are_g;
  row_place = IsPiecePlace-start u are_u;
  built = refl;
  few = inl (omega arith);
}

module _ {g u : List Piece} (are_g : ArePieces g) (are_u : ArePieces u) where
  falls_blocks : IsDescending (block_sums (expanded g) (expanded u))
  falls_blocks = IsDescending-block_sums (expanded g) (expanded u) (IsDescending-expanded g are_g.descends) (IsDescending-expanded u are_u.descends)

  pub grouped_falls : IsDescending (grouped_list g u)
  grouped_falls = IsDescending-saturated (trimmed (block_sums (expanded g) (expanded u))) (IsDescending-trimmed (block_sums (expanded g) (expanded u)) falls_blocks)

  pub grouped_positive : AllByRecursion (λ x. 0 < x) (grouped_list g u)
  grouped_positive = positive-saturated (trimmed (block_sums (expanded g) (expanded u))) (trimmed_positive (block_sums (expanded g) (expanded u)) falls_blocks)

  grouped_short : length (grouped_list g u) ≤ length (expanded g)
  grouped_short =
      omega (
        arith,
        length-map (trimmed (block_sums (expanded g) (expanded u))) saturated,
        length-trimmed-le (block_sums (expanded g) (expanded u)),
        length-block_sums (expanded g) (expanded u),
      )

  pub grouped_fits : length (grouped_list g u) < 2 ^ 64
  grouped_fits = omega (arith, grouped_short, are_g.fits)

  module _ {at row : PiecePlace} {list : List ℕ} (so_far : GroupedSoFar g u at row list) where
    pub grouped_end : (length g ≤ at.at) ⊎ (length u ≤ row.at) → list ≡ grouped_list g u
    grouped_end over = so_far.built ∙ take_all so_far.rank (grouped_list g u) (elim over [
      | inl no_block ↦ omega (arith, grouped_short, rest_past_end g at so_far.rank so_far.blocks no_block)
      | inr no_row ↦ (let past : length (expanded u) ≤ running_sum (expanded g) so_far.rank = rest_past_end u row (running_sum (expanded g) so_far.rank) so_far.rows no_row in
          ends_at_zero (grouped_list g u) grouped_positive so_far.rank
          (get_or-grouped g u so_far.rank 0
          (omega (
            arith,
            running_sum-past (expanded u) (running_sum (expanded g) so_far.rank) past,
            running_sum-past (expanded u) (running_sum (expanded g) (so_far.rank + 1))
                (omega (arith, past, running_sum-mono (expanded g) so_far.rank (so_far.rank + 1) (omega arith))),
          ))))
    ])

    blocks_run : HasRun (expanded g) so_far.rank (ahead_of g at).count (ahead_of g at).value
    blocks_run = record { same = λ k h. element_ahead g at so_far.rank k (ahead_of g at).value so_far.blocks (equal_ahead g at k h) }

    rows_run : HasRun (expanded u) (running_sum (expanded g) so_far.rank) (ahead_of u row).count (ahead_of u row).value
    rows_run = record { same = λ k h. element_ahead u row (running_sum (expanded g) so_far.rank) k (ahead_of u row).value so_far.rows (equal_ahead u row k h) }

    block_rows : (k : ℕ) → k ≤ (ahead_of g at).count → running_sum (expanded g) (so_far.rank + k) ≡ running_sum (expanded g) so_far.rank + k * (ahead_of g at).value
    block_rows k h = running_sum-has_run (expanded g) so_far.rank (ahead_of g at).count (ahead_of g at).value blocks_run k h

    pub grouped_smaller : (inside : at.at < length g) (next : PiecePlace) (n : ℕ) → rest_from g next ≡ drop n (rest_from g at) → 0 < n → length (rest_from g next) < length (rest_from g at)
    grouped_smaller inside next n rest some =
        omega (arith, ap length rest, length-drop n (rest_from g at), rest_longer g at.at at.used inside, so_far.block_place.inside)

    -- ---- whole blocks within one run of rows

    module _ {count : ℕ} (some_blocks : count ≤ (ahead_of g at).count) (some_rows : (ahead_of g at).value * count ≤ (ahead_of u row).count) where
      pub full_blocks_run : HasRun (grouped_list g u) so_far.rank count (saturated ((ahead_of g at).value * (ahead_of u row).value))
      full_blocks_run = record {
        same = λ k h.
            let x : ℕ = (ahead_of g at).value in
            let w : ℕ = (ahead_of u row).value in
            let U : List ℕ = expanded u in
            let M : ℕ = running_sum (expanded g) so_far.rank in
            let next : so_far.rank + k + 1 ≡ so_far.rank + (k + 1) = omega arith in
            let rows_next : running_sum (expanded g) (so_far.rank + k + 1) ≡ M + (k + 1) * x = ap (running_sum (expanded g)) next ∙ block_rows (k + 1) (omega arith) in
            let within : x * (k + 1) ≤ x * count = mul-le-mul_left x (omega arith) in
            let here : running_sum U (M + k * x) ≡ running_sum U M + (k * x) * w = running_sum-has_run U M (ahead_of u row).count w rows_run (k * x) (omega (arith, within, some_rows)) in
            let there : running_sum U (M + (k + 1) * x) ≡ running_sum U M + ((k + 1) * x) * w =
            running_sum-has_run U M (ahead_of u row).count w rows_run ((k + 1) * x) (omega (arith, within, some_rows)) in
            get_or-grouped g u (so_far.rank + k) (x * w)
            (ap (running_sum U) rows_next ∙ there ∙ omega arith ∙ ap (λ n. n + x * w) (sym here ∙ ap (running_sum U) (sym (block_rows k (omega arith)))));
      }

      pub full_blocks_step : {new : List ℕ} {at' row' : PiecePlace} → IsAppended list new (saturated ((ahead_of g at).value * (ahead_of u row).value)) count
          → rest_from g at' ≡ drop count (rest_from g at) → rest_from u row' ≡ drop ((ahead_of g at).value * count) (rest_from u row) → IsPiecePlace g at' → IsPiecePlace u row'
          → (runs new ≤ at'.at + 2 * row'.at) ⊎ ((runs new ≤ at'.at + 2 * row'.at + 1) × IsMixed g u at' row') → GroupedSoFar g u at' row' new
      full_blocks_step {new} {at'} {row'} put rest_g rest_u place_g place_u few = record {
        rank = so_far.rank + count;
        blocks = rest_after g at at' so_far.rank count so_far.blocks rest_g;
        rows = rest_after u row row' (running_sum (expanded g) so_far.rank) ((ahead_of g at).value * count) so_far.rows rest_u
            ∙ ap (λ n. drop n (expanded u)) (omega (arith, block_rows count some_blocks));
        block_place = place_g;
        row_place = place_u;
        built = run_built so_far.built full_blocks_run grouped_positive put;
        few = few;
      }

    pub full_blocks_runs : (new : List ℕ) (at' row' : PiecePlace) (count : ℕ) → at.at < length g → row.at < length u → 0 < (ahead_of g at).value → (ahead_of g at).value ≤ (ahead_of u row).count
        → count ≡ min ((ahead_of u row).count / (ahead_of g at).value) (ahead_of g at).count → runs new ≤ runs list + 1 → at.at ≤ at'.at → row.at ≤ row'.at
        → (at.at < length g → count ≡ (ahead_of g at).count → at'.at ≡ at.at + 1)
        → (at.at < length g → count < (ahead_of g at).count → at' ≡ record { at = at.at; used = at.used + count })
        → (row.at < length u → (ahead_of g at).value * count ≡ (ahead_of u row).count → row'.at ≡ row.at + 1)
        → (row.at < length u → (ahead_of g at).value * count < (ahead_of u row).count → row' ≡ record { at = row.at; used = row.used + (ahead_of g at).value * count })
        → (ahead_of g at).value * count ≤ (ahead_of u row).count
        → (runs new ≤ at'.at + 2 * row'.at) ⊎ ((runs new ≤ at'.at + 2 * row'.at + 1) × IsMixed g u at' row')
    full_blocks_runs new at' row' count in_g in_u pos fits count_is more stays_g stays_u ends_g within_g ends_u within_u some_rows =
        let before : runs list ≤ at.at + 2 * row.at = elim so_far.few [ inl few ↦ few | inr mixed ↦ absurd (omega (arith, mixed.1)) ] in
        elim (cases_lt count (ahead_of g at).count) [
          | inr all_blocks ↦ inl (omega (arith, before, ends_g in_g (omega (arith, count_is))))
          | inl blocks_left ↦ elim (cases_lt ((ahead_of g at).value * count) (ahead_of u row).count) [
            | inr all_rows ↦ inl (omega (arith, before, ends_u in_u (omega (arith, some_rows))))
            | inl rows_left ↦ (let e_at : at' ≡ record { at = at.at; used = at.used + count } = within_g in_g blocks_left in
                let e_row : row' ≡ record { at = row.at; used = row.used + (ahead_of g at).value * count } = within_u in_u rows_left in
                let all : (ahead_of g at).value * count ≡ (ahead_of g at).value * ((ahead_of u row).count / (ahead_of g at).value) =
                ap (λ n. (ahead_of g at).value * n) (omega (arith, count_is)) in
                inr (
                  omega (arith, before, more, stays_g, stays_u),
                  omega (
                    arith,
                    all,
                    ap (λ p. (ahead_of g p).value) e_at,
                    ap (λ p. (ahead_of u p).count) e_row,
                    (first_remaining-more g at.at at.used count in_g).0,
                    (first_remaining-more u row.at row.used ((ahead_of g at).value * count) in_u).1,
                  ),
                ))
          ]
        ]

    -- ---- a block over several runs of rows

    pub mixed_run : at.at < length g → HasRun (grouped_list g u) so_far.rank 1 (saturated (running_sum (rest_from u row) (ahead_of g at).value))
    mixed_run in_g = record {
      same = λ k h.
          let x : ℕ = (ahead_of g at).value in
          let M : ℕ = running_sum (expanded g) so_far.rank in
          let first : so_far.rank + k ≡ so_far.rank = omega arith in
          ap (λ n. get_or (grouped_list g u) n 0) first
          ∙ get_or-grouped g u so_far.rank (running_sum (rest_from u row) x)
          (ap (running_sum (expanded u)) (block_rows 1 (omega (arith, so_far.block_place.inside)) ∙ omega arith)
          ∙ running_sum-add (expanded u) M x
          ∙ ap (λ s. running_sum (expanded u) M + running_sum s x) (sym so_far.rows));
    }

    pub mixed_step : {new : List ℕ} {at' row' : PiecePlace} → at.at < length g → IsAppended list new (saturated (running_sum (rest_from u row) (ahead_of g at).value)) 1
        → rest_from g at' ≡ drop 1 (rest_from g at) → rest_from u row' ≡ drop (ahead_of g at).value (rest_from u row) → IsPiecePlace g at' → IsPiecePlace u row'
        → at.at ≤ at'.at → row.at < row'.at → GroupedSoFar g u at' row' new
    mixed_step {new} {at'} {row'} in_g put rest_g rest_u place_g place_u stays_g onward_u = record {
      rank = so_far.rank + 1;
      blocks = rest_after g at at' so_far.rank 1 so_far.blocks rest_g;
      rows = rest_after u row row' (running_sum (expanded g) so_far.rank) (ahead_of g at).value so_far.rows rest_u
          ∙ ap (λ n. drop n (expanded u)) (omega (arith, block_rows 1 (omega (arith, so_far.block_place.inside))));
      block_place = place_g;
      row_place = place_u;
      built = run_built so_far.built (mixed_run in_g) grouped_positive put;
      few = inl (elim so_far.few [ inl few ↦ omega (arith, put.few) | inr mixed ↦ omega (arith, put.few, mixed.0) ]);
    }

pub block_positive : (ps : List Piece) (i used : ℕ) → AreRuns ps → i < length ps → 0 < (first_remaining (drop i ps) used).value
block_positive [] i used fall h = absurd (omega arith)
block_positive (p ∷ ps) zero used fall h = omega (arith, fall.0)
block_positive (p ∷ ps) (suc i) used fall h = block_positive ps i used fall.2 (omega arith)

-- ---- how many whole blocks fit into a run

pub block_exceeds_run : (rows x : ℕ) → 0 < x → rows / x ≡ 0 → rows < x
block_exceeds_run rows x pos none = omega (arith, ap (λ n. x * n) none)

pub block_fits_run : (rows x : ℕ) → 0 < x → (rows / x ≡ 0 → ⊥) → x ≤ rows
block_fits_run rows x pos some = let one : x * 1 ≤ x * (rows / x) = mul-le-mul_left x (omega (arith, some)) in omega (arith, one)

pub blocks_fit_run : (rows x count : ℕ) → 0 < x → count ≤ rows / x → x * count ≤ rows
blocks_fit_run rows x count pos h = let le : x * count ≤ x * (rows / x) = mul-le-mul_left x h in omega (arith, le)
