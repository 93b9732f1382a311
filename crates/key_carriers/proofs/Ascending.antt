-- If cells ascend by one, the index of a cell is its distance from the first cell.
use Rattle.std.proofs.Common.{◌≡◌, ℕ, ◌+◌, ◌-◌, ◌<◌, ◌≤◌, List, [], ◌∷◌, ◌++◌, length, take, get_or, None, Some, ap, sym, ◌∙◌, arith}
use Rattle.std.specs.List.{range_with_len}
use Rattle.std.proofs.lemmas.List.{map-id, take_more}
use Rattle.std.proofs.lemmas.List.FromFn.{get_or-range_with_len, length-range_with_len, map-range_with_len_more}
use Rattle.link_index.specs.Places.{IsPlaceOf}

pub range_more : (first n last : ℕ) → first + n ≡ last → range_with_len first (n + 1) ≡ range_with_len first n ++ last ∷ []
range_more first n last is = simp map-id at (map-range_with_len_more (λ (x : ℕ). x) first n last is)

pub ascend_more : (first at : ℕ) (cells : List ℕ) → at < length cells → first ≤ get_or cells at 0 → get_or cells at 0 - first ≡ at → take at cells ≡ range_with_len first at
    → take (at + 1) cells ≡ range_with_len first (at + 1)
ascend_more first at cells low above far before =
    take_more cells at 0 low ∙ ap (λ (s : List ℕ). s ++ get_or cells at 0 ∷ []) before ∙ sym (range_more first at (get_or cells at 0) (omega (arith, above, far)))

pub none_below : (first rows cell : ℕ) → cell < first → IsPlaceOf (range_with_len first rows) cell 0 None
none_below first rows cell below = λ place from within is.
    omega (arith, is, below, get_or-range_with_len first rows place 0 (omega (arith, within, length-range_with_len first rows)))

pub none_above : (first rows cell : ℕ) → first ≤ cell → rows ≤ cell - first → IsPlaceOf (range_with_len first rows) cell 0 None
none_above first rows cell from above = λ place since within is.
    omega (arith, is, from, above, within, length-range_with_len first rows, get_or-range_with_len first rows place 0 (omega (arith, within, length-range_with_len first rows)))

pub some_within : (first rows cell : ℕ) → first ≤ cell → cell - first < rows → IsPlaceOf (range_with_len first rows) cell 0 (Some (cell - first))
some_within first rows cell from within = record {
  from_first = omega arith;
  below_end = omega (arith, within, length-range_with_len first rows);
  holds = omega (arith, from, get_or-range_with_len first rows (cell - first) 0 within);
  least = λ earlier since before is. omega (arith, from, within, before, is, get_or-range_with_len first rows earlier 0 (omega (arith, before, within)));
}
