-- The row numbers of the widened table are numbers of rows of its two entries. The widened table has at most as many rows as the left entry.
use Rattle.std.proofs.Common.{◌≡◌, ℕ, ◌+◌, ◌<◌, ◌≤◌, List, [], ◌∷◌, length, get_or, Option, None, Some, option_map, ap, sym, arith}
use Rattle.std.specs.List.{All, Contains, cons_option, filter_map, range_with_len}
use Rattle.std.proofs.lemmas.List.{length-map}
use Rattle.std.proofs.lemmas.List.Elements.{Contains-get_or}
use Rattle.std.proofs.lemmas.List.FromFn.{length-range_with_len}
use Rattle.std.proofs.lemmas.List.Quantifiers.{position-Some}
use Rattle.berge_tree.specs.declared.edges.Edge.{Edge}
use Rattle.sql_meaning.specs.Tables.{Tables, row_counts}
use Rattle.level_bounds.specs.Keys.{are_equal_at}
use Rattle.level_bounds.proofs.Lists.{from_filter_map, from_map, range_within}
use Rattle.key_carriers.specs.Widened.{referred_row, referred, referring, widened, widened_row, row_pair}

module _ (tables : Tables) (e : Edge) where
  abbrev pairs : List (ℕ × ℕ)
  pairs = widened tables e

  pair_of : (row : ℕ) (o : Option ℕ) (pair : ℕ × ℕ) → option_map (row_pair row) o ≡ Some pair → (pair.0 ≡ row) × (o ≡ Some pair.1)
  pair_of row None pair is = absurd (cc)
  pair_of row (Some other) pair is =
      let same : row_pair row other ≡ pair = cc in
      (sym (ap (λ (p : ℕ × ℕ). p.0) same), ap (λ (p : ℕ × ℕ). Some p.1) same)

  found : (pair : ℕ × ℕ) → Contains pairs pair → (row : ℕ) × (row < row_counts tables e.left.entry) × (pair.0 ≡ row) × (referred_row tables e row ≡ Some pair.1)
  found pair has =
      let made = from_filter_map (widened_row tables e) (range_with_len 0 (row_counts tables e.left.entry)) pair has in
      let within = (range_within 0 (row_counts tables e.left.entry) made.0 made.1).1 in
      let is = pair_of made.0 (referred_row tables e made.0) pair made.2 in
      (made.0, omega (arith, within), is.0, is.1)

  pub referring_rows_exist : All (λ row. row < row_counts tables e.left.entry) (referring tables e)
  referring_rows_exist k d low =
      let at = from_map (λ (pair : ℕ × ℕ). pair.0) pairs (get_or (referring tables e) k d) (Contains-get_or (referring tables e) k d low) in
      let pair = found at.0 at.1 in
      omega (arith, at.2, pair.1, pair.2)

  referred_row_exists : (row other : ℕ) → referred_row tables e row ≡ Some other → other < row_counts tables e.right.entry
  referred_row_exists row other is =
      let at = position-Some (are_equal_at tables e row) (range_with_len 0 (row_counts tables e.right.entry)) other 0 is in
      omega (arith, at.0, length-range_with_len 0 (row_counts tables e.right.entry))

  pub referred_rows_exist : All (λ row. row < row_counts tables e.right.entry) (referred tables e)
  referred_rows_exist k d low =
      let at = from_map (λ (pair : ℕ × ℕ). pair.1) pairs (get_or (referred tables e) k d) (Contains-get_or (referred tables e) k d low) in
      let pair = found at.0 at.1 in
      omega (arith, at.2, referred_row_exists pair.0 at.0.1 pair.3)

  pub as_many : length (referring tables e) ≡ length (referred tables e)
  as_many = omega (arith, length-map pairs (λ (pair : ℕ × ℕ). pair.0), length-map pairs (λ (pair : ℕ × ℕ). pair.1))

  none_more : {X : Type 0} (o : Option X) (xs : List X) → length (cons_option o xs) ≤ length xs + 1
  none_more None xs = omega arith
  none_more (Some x) xs = omega arith

  at_most_one_pair_per_row : (rows : List ℕ) → length (filter_map (widened_row tables e) rows) ≤ length rows
  at_most_one_pair_per_row [] = omega arith
  at_most_one_pair_per_row (row ∷ rows) = omega (arith, none_more (widened_row tables e row) (filter_map (widened_row tables e) rows), at_most_one_pair_per_row rows)

  pub referring_at_most_rows : length (referring tables e) ≤ row_counts tables e.left.entry
  referring_at_most_rows =
      omega (
        arith,
        length-map pairs (λ (pair : ℕ × ℕ). pair.0),
        at_most_one_pair_per_row (range_with_len 0 (row_counts tables e.left.entry)),
        length-range_with_len 0 (row_counts tables e.left.entry),
      )
