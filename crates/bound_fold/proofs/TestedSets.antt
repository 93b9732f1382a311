-- The code goes through all entry numbers and all equalities of the query, but tests only those of the set. All tests pass exactly if every entry of
-- the set has its row bound and every equality within the set has its lists.
use Rattle.std.proofs.Common.{zero, ◌≡◌, ℕ, suc, ◌+◌, ◌<◌, Bool, true, false, eqb, ltb, List, [], ◌∷◌, get_or, length, refl, ap, ◌∙◌, sym, subst, arith, inl, inr}
use Rattle.std.specs.Int.{bit_at}
use Rattle.std.specs.List.{AllByRecursion, Contains}
use Rattle.std.proofs.lemmas.Bool.{cases_Bool, cases_lt, eq-eqb, eqb-true, lt-ltb, ltb-true, and_parts}
use Rattle.std.proofs.lemmas.List.{get_or_default}
use Rattle.std.proofs.lemmas.List.Elements.{All-contains_itself, All-weaker, recursion_from_All}
use Rattle.limits.specs.Profile.{greatest_entries}
use Rattle.berge_tree.specs.declared.edges.Edge.{Edge}
use Rattle.entry_sets.specs.Sets.{entries_of_set, has_entry}
use Rattle.entry_sets.proofs.Listing.{set_bits, set_bits_only, at_member}
use Rattle.join_graph.specs.Kept.{equalities_within, joins_within}
use Rattle.tree_bounds.specs.Columns.{EachNamedColumn}

module _ (P : ℕ → Type 0) (subset : ℕ) where
  pub entry_more : (i : ℕ) → ((k : ℕ) → k < i → has_entry subset k ≡ true → P k) → (has_entry subset i ≡ true → P i) → (k : ℕ) → k < i + 1 → has_entry subset k ≡ true → P k
  entry_more i before here k h has = elim (cases_lt k i) [
    | inl below ↦ before k below has
    | inr top ↦ (let same : k ≡ i = omega arith in subst P (sym same) (here (subst (λ j. has_entry subset j ≡ true) same has)))
  ]

  has_entry_if_bit : (k : ℕ) → k < greatest_entries → bit_at subset k ≡ 1 → has_entry subset k ≡ true
  has_entry_if_bit k low bit = rw (lt-ltb k greatest_entries low, eq-eqb (bit_at subset k) 1 bit) refl

  pub each_in_set : ((k : ℕ) → k < greatest_entries → has_entry subset k ≡ true → P k) → AllByRecursion P (entries_of_set subset)
  each_in_set h =
      recursion_from_All P (entries_of_set subset)
      (All-weaker (Contains (entries_of_set subset)) P (λ k in_set. at k (set_bits subset k in_set)) (entries_of_set subset) (All-contains_itself (entries_of_set subset)))
    where
      at : (k : ℕ) → (k < greatest_entries) × (bit_at subset k ≡ 1) → P k
      at k bits = h k bits.0 (has_entry_if_bit k bits.0 bits.1)

pub edge_more : (P : Edge → Type 0) (es : List Edge) (i : ℕ) (e : Edge) → ((k : ℕ) (d : Edge) → k < i → P (get_or es k d)) → P (get_or es i e) → i < length es
    → (k : ℕ) (d : Edge) → k < i + 1 → P (get_or es k d)
edge_more P es i e before here inside k d h = elim (cases_lt k i) [
  | inl below ↦ before k d below
  | inr top ↦ (let same : k ≡ i = omega arith in subst P (get_or_default es i e d inside ∙ ap (λ j. get_or es j d) (sym same)) here)
]

abbrev pub AtBoth : (ℕ → ℕ → Type 0) → ℕ → Edge → Type 0
AtBoth Q subset e = joins_within subset e ≡ true → Q e.left.entry e.left.column × Q e.right.entry e.right.column

pub each_named_column : (Q : ℕ → ℕ → Type 0) (subset : ℕ) (es : List Edge) → ((k : ℕ) (d : Edge) → k < length es → AtBoth Q subset (get_or es k d)) → EachNamedColumn Q (equalities_within subset es)
each_named_column Q subset [] h = tt
each_named_column Q subset (e ∷ es) h =
    let here : AtBoth Q subset e = h 0 e (omega arith) in
    let later : EachNamedColumn Q (equalities_within subset es) = each_named_column Q subset es (λ k d l. h (suc k) d (omega arith)) in
    elim (cases_Bool (joins_within subset e)) [
      | inl joins ↦ rw joins ((here joins).0, ((here joins).1, later))
      | inr apart ↦ rw apart later
    ]

pub named_at : (Q : ℕ → ℕ → Type 0) (subset : ℕ) (es : List Edge) → EachNamedColumn Q (equalities_within subset es) → (k : ℕ) (d : Edge) → k < length es → AtBoth Q subset (get_or es k d)
named_at Q subset [] h k d low joins = absurd (omega arith)
named_at Q subset (e ∷ es) h zero d low joins =
    let named : EachNamedColumn Q (e ∷ equalities_within subset es) = subst (EachNamedColumn Q) (kept joins) h in
    (named.0, named.1.0)
  where
    kept : joins_within subset e ≡ true → equalities_within subset (e ∷ es) ≡ e ∷ equalities_within subset es
    kept is = rw is refl
named_at Q subset (e ∷ es) h (suc k) d low joins = named_at Q subset es (later (joins_within subset e) refl) k d (omega arith) joins
  where
    kept : joins_within subset e ≡ true → equalities_within subset (e ∷ es) ≡ e ∷ equalities_within subset es
    kept is = rw is refl

    passed : joins_within subset e ≡ false → equalities_within subset (e ∷ es) ≡ equalities_within subset es
    passed is = rw is refl

    later : (t : Bool) → joins_within subset e ≡ t → EachNamedColumn Q (equalities_within subset es)
    later true is = let named : EachNamedColumn Q (e ∷ equalities_within subset es) = subst (EachNamedColumn Q) (kept is) h in named.1.1
    later false is = subst (EachNamedColumn Q) (passed is) h

pub entry_at : (P : ℕ → Type 0) (subset : ℕ) → AllByRecursion P (entries_of_set subset) → (k : ℕ) → has_entry subset k ≡ true → P k
entry_at P subset h k has =
    let bits : (ltb k greatest_entries ≡ true) × (eqb (bit_at subset k) 1 ≡ true) = and_parts (ltb k greatest_entries) (eqb (bit_at subset k) 1) has in
    at_member P (entries_of_set subset) h k (set_bits_only subset k (ltb-true k greatest_entries bits.0, eqb-true (bit_at subset k) 1 bits.1))
