-- The filter values and the joined keys of rows are replaced by new numbers. P is a property of the filter values, and R is a property of the joined
-- keys.
use Rattle.std.proofs.Common.{◌≡◌, ℕ, Bool, false, eqb, Some, List, [], ◌∷◌, map, refl, ap, sym, ◌∙◌, subst, inl, inr}
use Rattle.std.specs.List.{AllByRecursion, filter, list_any, zip}
use Rattle.std.proofs.lemmas.Bool.{cases_Bool, cond_both, ne_eqb}
use Rattle.std.proofs.lemmas.List.Elements.{All-from_recursion, All-weaker}
use Rattle.std.proofs.lemmas.List.Folds.{list_any_none}
use Rattle.degree_sequences.specs.Compression.{compressed}
use Rattle.degree_sequences.specs.Degrees.{degree, degree_list}
use Rattle.degree_sequences.specs.RunningSums.{capped_at}
use Rattle.cond_stats.specs.Frequency.{frequent, remaining}
use Rattle.cond_stats.specs.Leaves.{in_node, leaf_of}
use Rattle.cond_stats.specs.Lists.{greatest, is_frequent, keys_with, list_of_node, list_of_value, list_where, maxima, rest}
use Rattle.cond_stats.specs.Rows.{filter_values, joined_keys, keys_where}
use Rattle.cond_stats.proofs.Dominating.{rest-is}
use Rattle.cond_stats.proofs.ValueLists.{list_of_frequent_value, list_of_other_value}
use Rattle.relabelling_laws.proofs.Mapped.{KeepsEqual, any-mapped, degree-mapped, degree_list-mapped, filter-mapped, map-mapped}
use Rattle.relabelling_laws.proofs.Ordered.{All-frequent, All-remaining, Compares, frequent-mapped, leaf_of-mapped, remaining-mapped}

abbrev pub relabelled : (ℕ → ℕ) → (ℕ → ℕ) → List (ℕ × ℕ) → List (ℕ × ℕ)
relabelled f g rows = map (λ row. (f row.0, g row.1)) rows

pub zip-relabelled : (f g : ℕ → ℕ) (filter joined : List ℕ) → zip (map f filter) (map g joined) ≡ relabelled f g (zip filter joined)
zip-relabelled f g [] joined = refl
zip-relabelled f g (v ∷ filter) [] = refl
zip-relabelled f g (v ∷ filter) (k ∷ joined) = ap (λ (s : List (ℕ × ℕ)). (f v, g k) ∷ s) (zip-relabelled f g filter joined)

pub values-relabelled : (f g : ℕ → ℕ) (rows : List (ℕ × ℕ)) → filter_values (relabelled f g rows) ≡ map f (filter_values rows)
values-relabelled f g [] = refl
values-relabelled f g (row ∷ rows) = ap (λ (s : List ℕ). f row.0 ∷ s) (values-relabelled f g rows)

pub keys-relabelled : (f g : ℕ → ℕ) (rows : List (ℕ × ℕ)) → joined_keys (relabelled f g rows) ≡ map g (joined_keys rows)
keys-relabelled f g [] = refl
keys-relabelled f g (row ∷ rows) = ap (λ (s : List ℕ). g row.1 ∷ s) (keys-relabelled f g rows)

abbrev pub RowSatisfies : (ℕ → Type 0) → (ℕ → Type 0) → ℕ × ℕ → Type 0
RowSatisfies P R row = P row.0 × R row.1

pub All-zip : (P R : ℕ → Type 0) (filter joined : List ℕ) → AllByRecursion P filter → AllByRecursion R joined
    → AllByRecursion (RowSatisfies P R) (zip filter joined)
All-zip P R [] joined all keys = tt
All-zip P R (v ∷ filter) [] all keys = tt
All-zip P R (v ∷ filter) (k ∷ joined) all keys = ((all.0, keys.0), All-zip P R filter joined all.1 keys.1)

pub All-values : (P R : ℕ → Type 0) (rows : List (ℕ × ℕ)) → AllByRecursion (RowSatisfies P R) rows → AllByRecursion P (filter_values rows)
All-values P R [] all = tt
All-values P R (row ∷ rows) all = (all.0.0, All-values P R rows all.1)

All-keys_where : (P R : ℕ → Type 0) (p : ℕ → Bool) (rows : List (ℕ × ℕ)) → AllByRecursion (RowSatisfies P R) rows
    → AllByRecursion R (keys_where p rows)
All-keys_where P R p [] all = tt
All-keys_where P R p (row ∷ rows) all =
    cond_both (p row.0) (row ∷ filter (λ row. p row.0) rows) (filter (λ row. p row.0) rows) (λ s. AllByRecursion R (joined_keys s))
    (λ e. (all.0.1, All-keys_where P R p rows all.1)) (λ e. All-keys_where P R p rows all.1)

pub missing_not_frequent : (P R : ℕ → Type 0) (rows : List (ℕ × ℕ)) → AllByRecursion (RowSatisfies P R) rows → (v : ℕ) → (P v → ⊥)
    → is_frequent rows v ≡ false
missing_not_frequent P R rows all v missing =
    let column : List ℕ = filter_values rows in
    list_any_none (λ other. eqb other v) (frequent column)
    (All-weaker P (λ other. eqb other v ≡ false) (λ other h. ne_eqb other v (λ same. missing (subst P same h))) (frequent column)
    (All-from_recursion P (frequent column) (All-frequent P column (All-values P R rows all))))

node-is : (at_most : ℕ → ℕ → Bool) (k : ℕ) (rows : List (ℕ × ℕ)) (size leaf : ℕ)
    → list_of_node at_most k rows size leaf ≡ list_where k (λ value. in_node size leaf (leaf_of at_most (filter_values rows) value)) rows
unfolding list_of_node
node-is at_most k rows size leaf = refl

pub passing-mapped : (P R : ℕ → Type 0) (f g : ℕ → ℕ) (rows : List (ℕ × ℕ)) → AllByRecursion (RowSatisfies P R) rows
    → (p q : ℕ → Bool) → ((v : ℕ) → P v → q (f v) ≡ p v) → keys_where q (relabelled f g rows) ≡ map g (keys_where p rows)
passing-mapped P R f g rows all p q alike =
    ap joined_keys (filter-mapped (RowSatisfies P R) (λ row. (f row.0, g row.1)) (λ row. p row.0) (λ row. q row.0) (λ row h. alike row.0 h.0) rows all)
    ∙ keys-relabelled f g (filter (λ row. p row.0) rows)

module _ (P R : ℕ → Type 0) (f g : ℕ → ℕ) (joined_equality_kept : KeepsEqual R g) (rows : List (ℕ × ℕ)) (rows_satisfy : AllByRecursion (RowSatisfies P R) rows) where
  pub degrees-mapped : (p q : ℕ → Bool) → ((v : ℕ) → P v → q (f v) ≡ p v)
      → degree_list (keys_where q (relabelled f g rows)) ≡ degree_list (keys_where p rows)
  degrees-mapped p q alike = ap degree_list (passing-mapped P R f g rows rows_satisfy p q alike)
      ∙ degree_list-mapped R g joined_equality_kept (keys_where p rows) (All-keys_where P R p rows rows_satisfy)

  pub node-mapped : (at_most other : ℕ → ℕ → Bool) → Compares P at_most other f → (k size leaf : ℕ)
      → list_of_node other k (relabelled f g rows) size leaf ≡ list_of_node at_most k rows size leaf
  node-mapped at_most other compares k size leaf =
      let column : List ℕ = filter_values rows in
      let column_is : filter_values (relabelled f g rows) ≡ map f column = values-relabelled f g rows in
      node-is other k (relabelled f g rows) size leaf
      ∙ ap (compressed k) (degrees-mapped (λ value. in_node size leaf (leaf_of at_most column value))
      (λ value. in_node size leaf (leaf_of other (filter_values (relabelled f g rows)) value))
      (λ v h. ap (in_node size leaf) (ap (λ (c : List ℕ). leaf_of other c (f v)) column_is
      ∙ leaf_of-mapped P at_most other f compares column (All-values P R rows rows_satisfy) v h)))
      ∙ sym (node-is at_most k rows size leaf)

  module _ (filter_equality_kept : KeepsEqual P f) where
    with-mapped : (v : ℕ) → P v → degree_list (keys_with (f v) (relabelled f g rows)) ≡ degree_list (keys_with v rows)
    with-mapped v h = degrees-mapped (λ other. eqb other v) (λ other. eqb other (f v)) (λ other there. filter_equality_kept other v there h)

    pub rest-mapped : (k : ℕ) → rest k (relabelled f g rows) ≡ rest k rows
    rest-mapped k =
        let others : List (ℕ × ℕ) = relabelled f g rows in
        let column : List ℕ = filter_values rows in
        let column_is : filter_values others ≡ map f column = values-relabelled f g rows in
        let in_column : AllByRecursion P column = All-values P R rows rows_satisfy in
        let remain : remaining (filter_values others) ≡ map f (remaining column) = ap remaining column_is
        ∙ remaining-mapped P f filter_equality_kept column in_column in
        let these : AllByRecursion P (remaining column) = All-remaining P column in_column in
        let lists : map (λ v. degree_list (keys_with v others)) (remaining (filter_values others))
        ≡ map (λ v. degree_list (keys_with v rows)) (remaining column) =
        ap (map (λ v. degree_list (keys_with v others))) remain
        ∙ map-mapped P f (λ v. degree_list (keys_with v rows)) (λ v. degree_list (keys_with v others)) with-mapped (remaining column) these in
        let counts : map (degree (filter_values others)) (remaining (filter_values others)) ≡ map (degree column) (remaining column) =
        ap (map (degree (filter_values others))) remain
        ∙ ap (λ (c : List ℕ). map (degree c) (map f (remaining column))) column_is
        ∙ map-mapped P f (degree column) (degree (map f column)) (degree-mapped P f filter_equality_kept column in_column) (remaining column) these in
        rest-is k others
        ∙ ap (λ (s : List (List ℕ)). compressed k (capped_at (maxima s) (greatest (map (degree (filter_values others)) (remaining (filter_values others)))))) lists
        ∙ ap (λ (s : List ℕ). compressed k (capped_at (maxima (map (λ v. degree_list (keys_with v rows)) (remaining column))) (greatest s))) counts
        ∙ sym (rest-is k rows)

    frequent_alike : (v : ℕ) → P v → is_frequent (relabelled f g rows) (f v) ≡ is_frequent rows v
    frequent_alike v h =
        let column : List ℕ = filter_values rows in
        let in_column : AllByRecursion P column = All-values P R rows rows_satisfy in
        ap (λ (c : List ℕ). list_any (λ other. eqb other (f v)) (frequent c)) (values-relabelled f g rows)
        ∙ ap (list_any (λ other. eqb other (f v))) (frequent-mapped P f filter_equality_kept column in_column)
        ∙ any-mapped P f (λ other. eqb other v) (λ other. eqb other (f v)) (λ other there. filter_equality_kept other v there h) (frequent column) (All-frequent P column in_column)

    pub value-mapped : (k v : ℕ) → P v → list_of_value k (relabelled f g rows) (Some (f v)) ≡ list_of_value k rows (Some v)
    value-mapped k v h = elim (cases_Bool (is_frequent rows v)) [
      | inl e ↦ list_of_frequent_value k (relabelled f g rows) (f v) (frequent_alike v h ∙ e) ∙ ap (compressed k) (with-mapped v h)
          ∙ sym (list_of_frequent_value k rows v e)
      | inr e ↦ list_of_other_value k (relabelled f g rows) (f v) (frequent_alike v h ∙ e) ∙ rest-mapped k ∙ sym (list_of_other_value k rows v e)
    ]
