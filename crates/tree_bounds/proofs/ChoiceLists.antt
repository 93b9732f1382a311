-- The length of the list of all choices of a tree is `number_of_choices`, which is computed as a sum of products.
use Rattle.std.proofs.Common.{◌≡◌, ℕ, ◌*◌, Bool, true, false, cond, eqb, List, [], ◌∷◌, ◌++◌, length, get_or, map, refl, sym, ◌∙◌, arith, length-append}
use Rattle.std.specs.List.{range_with_len}
use Rattle.std.proofs.Math.Nat.{suc-mul, zero-mul}
use Rattle.std.proofs.lemmas.List.{length-map}
use Rattle.std.proofs.lemmas.List.Concat.{length-flat_map}
use Rattle.degree_sequences.specs.KeyedRows.{ChildKeys, weight_of_row, weight_of_key}
use Rattle.berge_tree.specs.Trees.{Classes, no_class, and_class, Members, one_member, and_member, BergeTree}
use Rattle.degree_sequences.proofs.Counting.{sum_by-same}
use Rattle.tree_bounds.specs.Tables.{KeyedTables}
use Rattle.tree_bounds.specs.Counting.{child_keys, choices_for, number_of_choices, with_row, each_followed_by_each, rows_with_key, chosen_below, chosen_within, tree_choices}

pub length-each_followed_by_each : (xs ys : List (List ℕ)) → length (each_followed_by_each xs ys) ≡ length xs * length ys
length-each_followed_by_each [] ys = sym (zero-mul (length ys))
length-each_followed_by_each (x ∷ xs) ys =
    omega (
      arith,
      length-append (map (λ y. x ++ y) ys) (each_followed_by_each xs ys),
      length-map ys (λ y. x ++ y),
      length-each_followed_by_each xs ys,
      suc-mul (length xs) (length ys),
    )

length-where : (holds : Bool) (row : ℕ) (xs : List (List ℕ)) (n : ℕ) → length xs ≡ n → length (cond holds (with_row row xs) []) ≡ cond holds n 0
length-where true row xs n e = length-map xs (λ (rows : List ℕ). row ∷ rows) ∙ e
length-where false row xs n e = refl

length-rows_with_key : (keys : List ℕ) (below : ℕ → List (List ℕ)) (children : List ChildKeys) → ((row : ℕ) → length (below row) ≡ weight_of_row children row)
    → (key : ℕ) → length (rows_with_key keys below key) ≡ weight_of_key keys children key
length-rows_with_key keys below children same key =
    let has : ℕ → Bool = λ row. eqb (get_or keys row 0) key in
    length-flat_map (λ row. cond (has row) (with_row row (below row)) []) (range_with_len 0 (length keys))
    ∙ sum_by-same (λ row. length (cond (has row) (with_row row (below row)) [])) (λ row. cond (has row) (weight_of_row children row) 0)
    (λ row. length-where (has row) row (below row) (weight_of_row children row) (same row)) (range_with_len 0 (length keys))

equal_products : (a b c d : ℕ) → a ≡ b → c ≡ d → a * c ≡ b * d
equal_products a b c d e f = rw (e, f) refl

module _ (tables : KeyedTables) where
  mutual
    length-below : (entry : ℕ) (cs : Classes) (row : ℕ) → length (chosen_below tables entry cs row) ≡ weight_of_row (child_keys tables entry cs) row
    length-below entry no_class row = refl
    length-below entry (and_class column members rest) row =
        length-each_followed_by_each (chosen_within tables members (get_or (tables.keys entry column) row 0)) (chosen_below tables entry rest row)
        ∙ equal_products _ _ _ _ (length-within members (get_or (tables.keys entry column) row 0)) (length-below entry rest row)

    length-within : (ms : Members) (key : ℕ) → length (chosen_within tables ms key) ≡ choices_for tables ms key
    length-within (one_member entry column below) key = length-rows_with_key (tables.keys entry column) (chosen_below tables entry below) (child_keys tables entry below) (length-below entry below) key
    length-within (and_member entry column below rest) key =
        length-each_followed_by_each (rows_with_key (tables.keys entry column) (chosen_below tables entry below) key) (chosen_within tables rest key)
        ∙ equal_products _ _ _ _ (length-rows_with_key (tables.keys entry column) (chosen_below tables entry below) (child_keys tables entry below) (length-below entry below) key) (length-within rest key)

  pub length-chosen_rows : (t : BergeTree) → length (tree_choices tables t) ≡ number_of_choices tables t
  length-chosen_rows t =
      length-flat_map (λ row. with_row row (chosen_below tables t.root t.below row)) (range_with_len 0 (tables.rows t.root))
      ∙ sum_by-same (λ row. length (with_row row (chosen_below tables t.root t.below row))) (weight_of_row (child_keys tables t.root t.below))
      (λ row. length-map (chosen_below tables t.root t.below row) (λ (rows : List ℕ). row ∷ rows) ∙ length-below t.root t.below row)
      (range_with_len 0 (tables.rows t.root))
