-- Another order of the same entries gives the same choices. Within a choice the row numbers are rearranged, and each entry keeps its row.
use Rattle.std.proofs.Common.{◌≡◌, ◌≢◌, ℕ, Bool, true, not, ◌||◌, List, length, map, ap, sym, ◌∙◌, subst}
use Rattle.std.specs.Prelude.{AllPairs, IsPermutation}
use Rattle.std.specs.List.{Contains, list_all}
use Rattle.std.proofs.Math.Path.{fun_ext}
use Rattle.std.proofs.lemmas.List.{length-map}
use Rattle.std.proofs.lemmas.List.Kept.{AllPairs-filter}
use Rattle.std.proofs.lemmas.List.Sorted.{length_permutation}
use Rattle.sql_meaning.specs.Choices.{choices_of, IsChoiceOf}
use Rattle.sql_meaning.specs.Levels.{Conjunct, all_hold, level_of, row_in}
use Rattle.sql_meaning.proofs.LoopFacts.{choice_length}
use Rattle.sql_meaning.proofs.Order.{choices_differ, has_choice, is_choice}
use Rattle.level_bounds.specs.Orders.{IsOrderOfSet, reordered}
use Rattle.level_bounds.proofs.Lists.{is_in, test_of_member, in_filter, from_filter, in_map, from_map}
use Rattle.level_bounds.proofs.Rearranging.{choices_permuted, map_keeps_different}
use Rattle.level_bounds.proofs.Choosing.{mapped_row_in, choice_row, set_entry_in_order, order_entry_in_set, mapped_is_choice, row_in_outside, row_in_of_mapped, same_entries}

module _ (conjuncts : List Conjunct) (rows : ℕ → ℕ) where
  -- ---- members of a level

  pub record IsLevelChoice (order choice : List ℕ) : Type 0 where
    pub chosen : IsChoiceOf rows order choice
    pub holds : all_hold conjuncts order (row_in order choice) ≡ true

  pub is_level_choice : (order choice : List ℕ) → Contains (level_of conjuncts rows order) choice → IsLevelChoice order choice
  is_level_choice order choice k =
      let parts : Contains (choices_of rows order) choice × (all_hold conjuncts order (row_in order choice) ≡ true) =
      from_filter (λ choice. all_hold conjuncts order (row_in order choice)) (choices_of rows order) choice k in
      record { chosen = is_choice rows order choice parts.0; holds = parts.1 }

  pub in_level : (order choice : List ℕ) → IsLevelChoice order choice → Contains (level_of conjuncts rows order) choice
  in_level order choice s =
      in_filter (λ choice. all_hold conjuncts order (row_in order choice)) (choices_of rows order) choice (has_choice rows order choice s.chosen) s.holds

  pub level_differs : (order : List ℕ) → AllPairs ◌≢◌ (level_of conjuncts rows order)
  level_differs order = AllPairs-filter ◌≢◌ (λ choice. all_hold conjuncts order (row_in order choice)) (choices_of rows order) (choices_differ rows order)

  -- ---- a choice rearranged into the other order, and back

  same_conjuncts_hold : (order other : List ℕ) (f : ℕ → ℕ) → ((x : ℕ) → is_in order x ≡ is_in other x) → all_hold conjuncts order f ≡ all_hold conjuncts other f
  same_conjuncts_hold order other f same =
      let tests : is_in order ≡ is_in other = fun_ext same in
      ap (λ (test : ℕ → Bool). list_all (λ c. not (list_all test c.entries) || c.holds f) conjuncts) tests

  module _ (set order other : List ℕ) (o : IsOrderOfSet set order) (p : IsOrderOfSet set other) where
    pub same_rows : (choice : List ℕ) → row_in other (reordered order other choice) ≡ row_in order choice
    same_rows choice = row_in_of_mapped other (row_in order choice) (λ x out. row_in_outside order choice x (same_entries set order other o p x ∙ out))

    pub reordered_in_other : (choice : List ℕ) → Contains (level_of conjuncts rows order) choice → Contains (level_of conjuncts rows other) (reordered order other choice)
    reordered_in_other choice k =
        let s : IsLevelChoice order choice = is_level_choice order choice k in
        in_level other (reordered order other choice) (record {
          chosen = mapped_is_choice rows (row_in order choice) other
              (λ x here. choice_row rows order choice s.chosen x (test_of_member order x (set_entry_in_order set order o x (order_entry_in_set set other p x here))));
          holds = ap (all_hold conjuncts other) (same_rows choice) ∙ same_conjuncts_hold other order (row_in order choice) (same_entries set other order p o) ∙ s.holds;
        })

    pub reordered_back : (choice : List ℕ) → Contains (level_of conjuncts rows order) choice → map (row_in order choice) order ≡ choice
    reordered_back choice k = mapped_row_in order choice o.once (choice_length rows order choice (is_level_choice order choice k).chosen)

  module _ (set order other : List ℕ) (o : IsOrderOfSet set order) (p : IsOrderOfSet set other) where
    is_one_to_one : (c d : List ℕ) → Contains (level_of conjuncts rows order) c → Contains (level_of conjuncts rows order) d
        → reordered order other c ≡ reordered order other d → c ≡ d
    is_one_to_one c d k l same =
        let rows_same : row_in order c ≡ row_in order d =
        sym (same_rows set order other o p c) ∙ ap (row_in other) same ∙ same_rows set order other o p d in
        sym (reordered_back set order other o p c k) ∙ ap (λ (f : ℕ → ℕ). map f order) rows_same ∙ reordered_back set order other o p d l

    is_onto : (d : List ℕ) → Contains (level_of conjuncts rows other) d → Contains (map (reordered order other) (level_of conjuncts rows order)) d
    is_onto d k =
        subst (Contains (map (reordered order other) (level_of conjuncts rows order)))
        (ap (λ (f : ℕ → ℕ). map f other) (same_rows set other order p o d) ∙ reordered_back set other order p o d k)
        (in_map (reordered order other) (level_of conjuncts rows order) (reordered other order d) (reordered_in_other set other order p o d k))

    into_other : (d : List ℕ) → Contains (map (reordered order other) (level_of conjuncts rows order)) d → Contains (level_of conjuncts rows other) d
    into_other d k =
        let from : (c : List ℕ) × Contains (level_of conjuncts rows order) c × (d ≡ reordered order other c) = from_map (reordered order other) (level_of conjuncts rows order) d k in
        subst (Contains (level_of conjuncts rows other)) (sym from.2) (reordered_in_other set order other o p from.0 from.1)

    pub rearranged : IsPermutation (map (reordered order other) (level_of conjuncts rows order)) (level_of conjuncts rows other)
    rearranged =
        choices_permuted (map (reordered order other) (level_of conjuncts rows order)) (level_of conjuncts rows other)
        (map_keeps_different (reordered order other) (level_of conjuncts rows order) is_one_to_one (level_differs order)) (level_differs other) into_other is_onto

    pub as_many : length (level_of conjuncts rows order) ≡ length (level_of conjuncts rows other)
    as_many =
        sym (length-map (level_of conjuncts rows order) (reordered order other))
        ∙ sym (length_permutation (map (reordered order other) (level_of conjuncts rows order)) (level_of conjuncts rows other) rearranged)
