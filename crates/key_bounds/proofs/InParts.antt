-- A part's bound is the same, whether conjuncts are carried within the whole set or only within the part. The reason is that a carrier is joined with
-- the entry to which it carries, so both are in the same part.
use Rattle.std.proofs.Common.{◌≡◌, ℕ, ◌<◌, ◌≤◌, Bool, true, false, not, ◌&&◌, cond, eqb, List, [], ◌∷◌, length, get_or, refl, ap, sym, ◌∙◌, subst, arith, inl, inr}
use Rattle.std.specs.Prelude.{if◌then◌else◌, nat_lt}
use Rattle.std.specs.List.{Contains, filter}
use Rattle.std.proofs.lemmas.Bool.{and_parts, cases_Bool, eqb-true, false≢true}
use Rattle.degree_sequences.specs.RunningSums.{HasHigherSums}
use Rattle.degree_sequences.specs.Saturation.{saturated}
use Rattle.berge_tree.specs.declared.edges.Edge.{Edge}
use Rattle.entry_sets.specs.Sets.{IsSubset, has_entry}
use Rattle.entry_sets.proofs.Listing.{in_front, in_rest}
use Rattle.schema_types.specs.declared.types.Schema.{Schema}
use Rattle.query_types.specs.declared.types.Query.{Query}
use Rattle.join_graph.specs.Conjuncts.{equalities_of}
use Rattle.join_graph.specs.Kept.{equalities_within, joins_within}
use Rattle.tree_bounds.specs.Columns.{EachNamedColumn}
use Rattle.tree_bounds.specs.SetBounds.{SetHasLists, bound_of_set}
use Rattle.tree_bounds.specs.TreeBounds.{EntryBounds, HasList}
use Rattle.bound_fold.proofs.TestedSets.{each_in_set, each_named_column}
use Rattle.set_bounds.specs.AllSets.{bound_in_128_bits}
use Rattle.set_bounds.specs.Parts.{AreUnjoined, ConsistsOfParts, DependsOnPartsOnly}
use Rattle.sql_meaning.specs.Tables.{Tables}
use Rattle.level_bounds.proofs.Lists.{from_members, at_member, from_filter, in_filter}
use Rattle.query_bounds.specs.Bounds.{is_among, joined_columns}
use Rattle.query_bounds.proofs.Holding.{pair_at}
use Rattle.query_bounds.proofs.Sets.{both_among}
use Rattle.key_carriers.specs.Carriers.{with_exchanged_sides, carrying_equalities, carriers_to, carries}
use Rattle.key_bounds.specs.Bounds.{bounds_by_keys, list_by_keys, rows_by_keys}
use Rattle.key_bounds.proofs.Lower.{SetIsAbove, set_at_most}
use Rattle.key_bounds.proofs.Standing.{has_list}
use Rattle.key_bounds.proofs.Taking.{IsEitherWay, either_way}

-- ---- two filters, one after the other

module _ {X : Type 0} (q p r : X → Bool) where
  skipped : (x : X) (b : Bool) (xs : List X) → q x ≡ false → filter q (cond b (x ∷ xs) xs) ≡ filter q xs
  skipped x true xs fails = rw fails refl
  skipped x false xs fails = refl

  kept_in_both_filters : (x : X) (b : Bool) (xs ys : List X) → filter q xs ≡ filter q ys → filter q (cond b (x ∷ xs) xs) ≡ filter q (cond b (x ∷ ys) ys)
  kept_in_both_filters x true xs ys same = ap (λ (s : List X). cond (q x) (x ∷ s) s) same
  kept_in_both_filters x false xs ys same = same

  pub same_kept : (xs : List X) → ((x : X) → Contains xs x → q x ≡ true → p x ≡ r x) → filter q (filter p xs) ≡ filter q (filter r xs)
  same_kept [] same = refl
  same_kept (x ∷ xs) same =
      let rest : filter q (filter p xs) ≡ filter q (filter r xs) = same_kept xs (λ y here. same y (in_rest x xs y here)) in
      elim (cases_Bool (q x)) [
        | inl holds ↦ kept_in_both_filters x (p x) (filter p xs) (filter r xs) rest ∙ ap (λ (b : Bool). filter q (cond b (x ∷ filter r xs) (filter r xs))) (same x (in_front x xs x refl) holds)
        | inr fails ↦ skipped x (p x) (filter p xs) fails ∙ rest ∙ sym (skipped x (r x) (filter r xs) fails)
      ]

-- ---- the carriers to an entry of a part

module _ (schema : Schema) (query : Query) (subset part : ℕ) (within : IsSubset part subset) (unjoined : AreUnjoined (equalities_of query) subset part) where
  on_one_side : (e : Edge) → IsEitherWay (equalities_of query) e → joins_within subset e ≡ true → has_entry part e.left.entry ≡ has_entry part e.right.entry
  on_one_side e (inl straight) joins =
      at_member (λ e. has_entry part e.left.entry ≡ has_entry part e.right.entry) (equalities_within subset (equalities_of query)) unjoined e
      (in_filter (joins_within subset) (equalities_of query) e straight joins)
  on_one_side e (inr back) joins =
      subst (λ (g : Edge). joins_within subset g ≡ true → has_entry part g.left.entry ≡ has_entry part g.right.entry) (sym back.2) (λ joins_back. sym (at_member
      (λ e. has_entry part e.left.entry ≡ has_entry part e.right.entry) (equalities_within subset (equalities_of query)) unjoined back.0
      (in_filter (joins_within subset) (equalities_of query) back.0 back.1 (exchanged (has_entry subset back.0.right.entry) (has_entry subset back.0.left.entry) joins_back)))) joins
    where
      exchanged : (a b : Bool) → (a && b) ≡ true → (b && a) ≡ true
      exchanged true true h = refl
      exchanged true false h = h
      exchanged false b h = absurd (false≢true h)

  right_alike : (e : Edge) → IsEitherWay (equalities_of query) e → has_entry part e.left.entry ≡ true → has_entry part e.right.entry ≡ has_entry subset e.right.entry
  right_alike e way left = elim (cases_Bool (has_entry subset e.right.entry)) [
    | inl there ↦ (let joins : joins_within subset e ≡ true = rw (within e.left.entry left, there) refl in sym (on_one_side e way joins) ∙ left ∙ sym there)
    | inr outside ↦ elim (cases_Bool (has_entry part e.right.entry)) [
      | inl inside ↦ absurd (false≢true (sym outside ∙ within e.right.entry inside))
      | inr other ↦ other ∙ sym outside
    ]
  ]

  join_alike : (e : Edge) → IsEitherWay (equalities_of query) e → has_entry part e.left.entry ≡ true → joins_within part e ≡ joins_within subset e
  join_alike e way left =
      ap (λ (b : Bool). b && has_entry part e.right.entry) (left ∙ sym (within e.left.entry left))
      ∙ ap (λ (b : Bool). has_entry subset e.left.entry && b) (right_alike e way left)

  same_carriers : (entry : ℕ) → has_entry part entry ≡ true → carriers_to (carrying_equalities schema query) part entry ≡ carriers_to (carrying_equalities schema query) subset entry
  same_carriers entry has =
      same_kept (λ (e : Edge). eqb e.left.entry entry) (joins_within part) (joins_within subset) (carrying_equalities schema query) (λ e there left.
      join_alike e (either_way (equalities_of query) e (from_filter (carries schema query) (with_exchanged_sides (equalities_of query)) e there).0)
      (subst (λ (n : ℕ). has_entry part n ≡ true) (sym (eqb-true e.left.entry entry left)) has))

  -- ---- the bound of the part is the same as in the set

  module _ (tables : Tables) (accuracy : ℕ) (named : EachNamedColumn (λ entry column. entry < length query.from) (equalities_of query)) where
    abbrev keyed : ℕ → EntryBounds
    keyed set = bounds_by_keys schema query tables accuracy set

    same_rows : (entry : ℕ) → has_entry part entry ≡ true → (keyed part).rows entry ≡ (keyed subset).rows entry
    same_rows entry has = ap (λ (es : List Edge). if nat_lt entry (length query.from) then rows_by_keys query tables accuracy entry es else 0) (same_carriers entry has)

    same_list : (entry column : ℕ) → has_entry part entry ≡ true → (keyed part).list entry column ≡ (keyed subset).list entry column
    same_list entry column has =
        ap (λ (es : List Edge). if is_among (joined_columns query) entry column then list_by_keys query tables accuracy entry column es else []) (same_carriers entry has)

    at_part : (Q : ℕ → ℕ → Type 0) → ((entry column : ℕ) → entry < length query.from → has_entry part entry ≡ true → is_among (joined_columns query) entry column ≡ true → Q entry column)
        → EachNamedColumn Q (equalities_within part (equalities_of query))
    at_part Q each =
        each_named_column Q part (equalities_of query) (λ k d k_in_range joins.
        let among = both_among (equalities_of query) k d k_in_range in
        let below = pair_at (λ entry column. entry < length query.from) (equalities_of query) named k d k_in_range in
        let e : Edge = get_or (equalities_of query) k d in
        let both = and_parts (has_entry part e.left.entry) (has_entry part e.right.entry) joins in
        (each e.left.entry e.left.column below.0 both.0 among.0, each e.right.entry e.right.column below.1 both.1 among.1))

    has_lists : (set : ℕ) → SetHasLists (keyed set) (equalities_of query) part
    has_lists set = at_part (HasList (keyed set)) (λ entry column entry_in_range has among. has_list schema query tables accuracy set entry column entry_in_range among)

    part_above : SetIsAbove (keyed part) (keyed subset) (equalities_of query) part
    part_above = record {
      rows = each_in_set (λ entry. (keyed subset).rows entry ≤ (keyed part).rows entry) part (λ entry small has. omega (arith, same_rows entry has));
      columns = at_part (λ entry column. HasHigherSums ((keyed part).list entry column) ((keyed subset).list entry column)) (λ entry column entry_in_range has among.
          subst (λ (s : List ℕ). HasHigherSums ((keyed part).list entry column) s) (same_list entry column has) (λ r. omega arith));
    }

    part_below : SetIsAbove (keyed subset) (keyed part) (equalities_of query) part
    part_below = record {
      rows = each_in_set (λ entry. (keyed part).rows entry ≤ (keyed subset).rows entry) part (λ entry small has. omega (arith, same_rows entry has));
      columns = at_part (λ entry column. HasHigherSums ((keyed subset).list entry column) ((keyed part).list entry column)) (λ entry column entry_in_range has among.
          subst (λ (s : List ℕ). HasHigherSums s ((keyed part).list entry column)) (same_list entry column has) (λ r. omega arith));
    }

    pub same_bound : bound_in_128_bits (keyed part) (equalities_of query) part ≡ bound_in_128_bits (keyed subset) (equalities_of query) part
    same_bound =
        ap saturated (
        let most : bound_of_set (keyed subset) (equalities_of query) part ≤ bound_of_set (keyed part) (equalities_of query) part =
        set_at_most (keyed part) (keyed subset) (equalities_of query) part (has_lists subset) (has_lists part) part_above in
        let least : bound_of_set (keyed part) (equalities_of query) part ≤ bound_of_set (keyed subset) (equalities_of query) part =
        set_at_most (keyed subset) (keyed part) (equalities_of query) part (has_lists part) (has_lists subset) part_below in
        omega arith
        )

-- ---- the rest of the set is a part too

module _ (query : Query) (subset part rest : ℕ) (parted : ConsistsOfParts (equalities_of query) subset part rest) where
  rest_within : IsSubset rest subset
  rest_within entry has = (and_parts (has_entry subset entry) (not (has_entry part entry)) (sym (parted.others entry) ∙ has)).0

  rest_unjoined : AreUnjoined (equalities_of query) subset rest
  rest_unjoined =
      from_members (λ e. has_entry rest e.left.entry ≡ has_entry rest e.right.entry) (equalities_within subset (equalities_of query)) (λ e there.
      let joins = (from_filter (joins_within subset) (equalities_of query) e there).1 in
      let both = and_parts (has_entry subset e.left.entry) (has_entry subset e.right.entry) joins in
      parted.others e.left.entry ∙ ap (λ (b : Bool). b && not (has_entry part e.left.entry)) (both.0 ∙ sym both.1)
      ∙ ap (λ (b : Bool). has_entry subset e.right.entry && not b) (at_member (λ e. has_entry part e.left.entry ≡ has_entry part e.right.entry) (equalities_within subset (equalities_of query)) parted.unjoined e there)
      ∙ sym (parted.others e.right.entry))

pub depends_on_parts : (schema : Schema) (query : Query) (tables : Tables) (accuracy : ℕ) → EachNamedColumn (λ entry column. entry < length query.from) (equalities_of query)
    → DependsOnPartsOnly (bounds_by_keys schema query tables accuracy) (equalities_of query)
depends_on_parts schema query tables accuracy named subset part rest parted = (
  same_bound schema query subset part parted.within parted.unjoined tables accuracy named,
  same_bound schema query subset rest (rest_within query subset part rest parted) (rest_unjoined query subset part rest parted) tables accuracy named,
)
