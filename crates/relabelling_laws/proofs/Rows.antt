-- The laws about the lists of a filter column and a joined column.
use Rattle.std.proofs.Common.{◌≡◌, ◌⊎◌, ℕ, suc, eqb, subst, Bool, Some, None, Option, List, [], ◌∷◌, map, length, refl, ap, sym, ◌∙◌, arith, inl, inr}
use Rattle.std.specs.List.{AllByRecursion, Contains, filter, zip}
use Rattle.std.specs.Prelude.{unwrap_or}
use Rattle.std.proofs.lemmas.Bool.{cases_Bool, eqb-true, eqb-false}
use Rattle.std.proofs.lemmas.Map.Made.{Contains-tail}
use Rattle.std.proofs.lemmas.Option.{none-some}
use Rattle.degree_sequences.specs.Compression.{compressed}
use Rattle.cond_stats.specs.Leaves.{node_size}
use Rattle.cond_stats.specs.Lists.{compressed_degrees, list_of_node, list_of_range, list_of_value, rest}
use Rattle.cond_stats.specs.Rows.{filter_values, joined_keys, keys_where}
use Rattle.cond_stats.proofs.ValueLists.{list_without_cell, list_of_other_value}
use Rattle.relabelling_laws.specs.Relabelling.{IsMissing, IsOneToOne, KeepsOrder, PassAlike, MatchAlike}
use Rattle.relabelling_laws.proofs.Columns.{degree_list_unchanged, from_map, column_contains_each, equality_is_kept}
use Rattle.relabelling_laws.proofs.RowsMapped.{All-zip, RowSatisfies, missing_not_frequent, node-mapped, passing-mapped, rest-mapped, value-mapped, zip-relabelled}

rows_have_values : (column joined : List ℕ) → AllByRecursion (RowSatisfies (Contains column) (Contains joined)) (zip column joined)
rows_have_values column joined = All-zip (Contains column) (Contains joined) column joined (column_contains_each column) (column_contains_each joined)

pub whole_list_unchanged : (accuracy : ℕ) (g : ℕ → ℕ) (joined : List ℕ) → IsOneToOne g joined
    → compressed_degrees accuracy (map g joined) ≡ compressed_degrees accuracy joined
whole_list_unchanged accuracy g joined one = ap (compressed accuracy) (degree_list_unchanged g joined one)

pub value_list_unchanged : (accuracy : ℕ) (f g : ℕ → ℕ) (column joined : List ℕ) (value : ℕ) → IsOneToOne f column → IsOneToOne g joined
    → Contains column value
    → list_of_value accuracy (zip (map f column) (map g joined)) (Some (f value)) ≡ list_of_value accuracy (zip column joined) (Some value)
value_list_unchanged accuracy f g column joined value one one_key has =
    ap (λ (rows : List (ℕ × ℕ)). list_of_value accuracy rows (Some (f value))) (zip-relabelled f g column joined)
    ∙ value-mapped (Contains column) (Contains joined) f g (equality_is_kept g joined one_key) (zip column joined) (rows_have_values column joined) (equality_is_kept f column one) accuracy value has

pub rest_list_unchanged : (accuracy : ℕ) (f g : ℕ → ℕ) (column joined : List ℕ) → IsOneToOne f column → IsOneToOne g joined
    → rest accuracy (zip (map f column) (map g joined)) ≡ rest accuracy (zip column joined)
rest_list_unchanged accuracy f g column joined one one_key =
    ap (rest accuracy) (zip-relabelled f g column joined)
    ∙ rest-mapped (Contains column) (Contains joined) f g (equality_is_kept g joined one_key) (zip column joined) (rows_have_values column joined) (equality_is_kept f column one) accuracy

pub missing_has_rest_list : (accuracy : ℕ) (column joined : List ℕ) (value : Option ℕ) → IsMissing column value
    → list_of_value accuracy (zip column joined) value ≡ rest accuracy (zip column joined)
missing_has_rest_list accuracy column joined None missing = list_without_cell accuracy (zip column joined)
missing_has_rest_list accuracy column joined (Some value) missing = list_of_other_value accuracy (zip column joined) value
    (missing_not_frequent (Contains column) (Contains joined) (zip column joined) (rows_have_values column joined) value missing)

pub absent_list_unchanged : (accuracy : ℕ) (f g : ℕ → ℕ) (column joined : List ℕ) (other value : Option ℕ) → IsOneToOne f column → IsOneToOne g joined
    → IsMissing (map f column) other → IsMissing column value
    → list_of_value accuracy (zip (map f column) (map g joined)) other ≡ list_of_value accuracy (zip column joined) value
absent_list_unchanged accuracy f g column joined other value one one_key missing missing_value =
    missing_has_rest_list accuracy (map f column) (map g joined) other missing ∙ rest_list_unchanged accuracy f g column joined one one_key
    ∙ sym (missing_has_rest_list accuracy column joined value missing_value)

pub is_in_column_or_not : (column : List ℕ) (value : ℕ) → Contains column value ⊎ (Contains column value → ⊥)
is_in_column_or_not [] value = inr (λ has. omega (arith, has.1))
is_in_column_or_not (first ∷ column) value = elim (cases_Bool (eqb first value)) [
  | inl e ↦ inl (0, omega arith, eqb-true first value e)
  | inr e ↦ (elim (is_in_column_or_not column value) [
    | inl has ↦ inl (suc has.0, omega (arith, has.1), has.2)
    | inr misses ↦ inr (λ has. misses (Contains-tail first column value (eqb-false first value e) has))
  ])
]

other_misses : (f : ℕ → ℕ) (column : List ℕ) (other : Option ℕ) → ((a : ℕ) → Contains column a → Some (f a) ≡ other → ⊥)
    → IsMissing (map f column) other
other_misses f column None never = tt
other_misses f column (Some number) never =
    λ has. (let at = from_map f column number has in never at.0 at.1 (ap (λ (n : ℕ). Some n) (sym at.2)))

pub any_list_unchanged : (accuracy : ℕ) (f g : ℕ → ℕ) (column joined : List ℕ) (other value : Option ℕ) → IsOneToOne f column
    → IsOneToOne g joined
    → MatchAlike f column other value
    → list_of_value accuracy (zip (map f column) (map g joined)) other ≡ list_of_value accuracy (zip column joined) value
any_list_unchanged accuracy f g column joined other None one one_key alike =
    absent_list_unchanged accuracy f g column joined other None one one_key
    (other_misses f column other (λ a has same. none-some a (sym ((alike a has).0 same)))) tt
any_list_unchanged accuracy f g column joined other (Some value) one one_key alike = elim (is_in_column_or_not column value) [
  | inl has ↦ ap (list_of_value accuracy (zip (map f column) (map g joined))) (sym ((alike value has).1 refl))
      ∙ value_list_unchanged accuracy f g column joined value one one_key has
  | inr misses ↦ absent_list_unchanged accuracy f g column joined other (Some value) one one_key
      (other_misses f column other (λ a has same. misses (subst (Contains column) (ap (λ (o : Option ℕ). unwrap_or o 0) ((alike a has).0 same)) has))) misses
]

pub node_list_unchanged : (at_most other : ℕ → ℕ → Bool) (accuracy : ℕ) (f g : ℕ → ℕ) (column joined : List ℕ) (size leaf : ℕ)
    → KeepsOrder at_most other f column → IsOneToOne g joined
    → list_of_node other accuracy (zip (map f column) (map g joined)) size leaf
    ≡ list_of_node at_most accuracy (zip column joined) size leaf
node_list_unchanged at_most other accuracy f g column joined size leaf compares one_key =
    ap (λ (rows : List (ℕ × ℕ)). list_of_node other accuracy rows size leaf) (zip-relabelled f g column joined)
    ∙ node-mapped (Contains column) (Contains joined) f g (equality_is_kept g joined one_key) (zip column joined) (rows_have_values column joined) at_most other compares accuracy size leaf

pub range_list_unchanged : (at_most other : ℕ → ℕ → Bool) (accuracy : ℕ) (f g : ℕ → ℕ) (column joined : List ℕ) (low high : Option ℕ)
    → KeepsOrder at_most other f column → IsOneToOne g joined
    → list_of_range other accuracy (zip (map f column) (map g joined)) low high
    ≡ list_of_range at_most accuracy (zip column joined) low high
range_list_unchanged at_most other accuracy f g column joined low high compares one_key =
    let first : ℕ = unwrap_or low 0 in
    let last : ℕ = unwrap_or high 31 in
    node_list_unchanged at_most other accuracy f g column joined (node_size first last) first compares one_key

pub passing_are : (f g : ℕ → ℕ) (column joined : List ℕ) (passes other : ℕ → Bool) → PassAlike passes other f column
    → keys_where other (zip (map f column) (map g joined)) ≡ map g (keys_where passes (zip column joined))
passing_are f g column joined passes other alike =
    ap (keys_where other) (zip-relabelled f g column joined)
    ∙ passing-mapped (Contains column) (Contains joined) f g (zip column joined) (rows_have_values column joined) passes other alike

pub passing_of_rows : (value key : ℕ → ℕ) (rows : List ℕ) (passes other : ℕ → Bool) → PassAlike passes other value rows
    → keys_where other (zip (map value rows) (map key rows)) ≡ map key (filter passes rows)
passing_of_rows value key rows passes other alike = from rows (column_contains_each rows)
  where
    from : (part : List ℕ) → AllByRecursion (Contains rows) part
        → keys_where other (zip (map value part) (map key part)) ≡ map key (filter passes part)
    from [] all = refl
    from (row ∷ part) all = elim (cases_Bool (passes row)) [
      | inl e ↦ rw (alike row all.0, e, from part all.1) refl
      | inr e ↦ rw (alike row all.0, e, from part all.1) refl
    ]

pub zip_of_columns : (column joined : List ℕ) → length column ≡ length joined
    → (filter_values (zip column joined) ≡ column) × (joined_keys (zip column joined) ≡ joined)
zip_of_columns [] [] lengths = (refl, refl)
zip_of_columns [] (k ∷ joined) lengths = absurd (omega arith)
zip_of_columns (v ∷ column) [] lengths = absurd (omega arith)
zip_of_columns (v ∷ column) (k ∷ joined) lengths =
    let rest = zip_of_columns column joined (omega arith) in
    (ap (λ (s : List ℕ). v ∷ s) rest.0, ap (λ (s : List ℕ). k ∷ s) rest.1)
