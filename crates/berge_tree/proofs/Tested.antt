-- The tests `joins_parts` and `has_entries` can be computed. If both give true, the equalities close no cycle, and they name only entries of the set.
use Rattle.std.proofs.Common.{◌≡◌, ℕ, true, false, not, ◌&&◌, eqb, ltb, List, [], ◌∷◌, refl, sym, ◌∙◌, subst, inl, inr}
use Rattle.std.specs.Int.{bit_at}
use Rattle.std.specs.List.{AllByRecursion}
use Rattle.std.proofs.lemmas.Bool.{cases_Bool, eq-eqb, ltb-true, false≢true, and_parts, not-true}
use Rattle.limits.specs.Profile.{greatest_entries}
use Rattle.berge_tree.specs.declared.edges.Edge.{Edge}
use Rattle.berge_tree.specs.Equalities.{AreWithin, ClosesNoCycleAfter, ClosesNoCycle}
use Rattle.entry_sets.specs.Sets.{entries_of_set, has_entry}
use Rattle.berge_tree.specs.Testing.{merged_components, joins_parts, has_entries}
use Rattle.berge_tree.proofs.NoCycle.{apart_by}
use Rattle.entry_sets.proofs.Listing.{listed_if_bit_is_set}

abbrev JoinsSameNames : (ℕ → ℕ) → List Edge → Type 0
JoinsSameNames name es = AllByRecursion (λ e. name e.left.entry ≡ name e.right.entry) es

pub joined_same : (name : ℕ → ℕ) (a b x y : ℕ) → name x ≡ name y → merged_components name a b x ≡ merged_components name a b y
joined_same name a b x y is = elim (cases_Bool (eqb (name x) (name b))) [
  | inl t ↦ rw (t, subst (λ n. eqb n (name b) ≡ true) is t) refl
  | inr n ↦ rw (n, subst (λ m. eqb m (name b) ≡ false) is n) is
]

pub joined_ends : (name : ℕ → ℕ) (a b : ℕ) → merged_components name a b a ≡ merged_components name a b b
joined_ends name a b = elim (cases_Bool (eqb (name a) (name b))) [
  | inl t ↦ rw (t, eq-eqb (name b) (name b) refl) refl
  | inr n ↦ rw (n, eq-eqb (name b) (name b) refl) refl
]

merged_same_names : (name : ℕ → ℕ) (a b : ℕ) (es : List Edge) → JoinsSameNames name es → JoinsSameNames (merged_components name a b) es
merged_same_names name a b [] h = tt
merged_same_names name a b (e ∷ es) h = (joined_same name a b e.left.entry e.right.entry h.0, merged_same_names name a b es h.1)

joins_after : (name : ℕ → ℕ) (earlier es : List Edge) → JoinsSameNames name earlier → joins_parts name es ≡ true → ClosesNoCycleAfter earlier es
joins_after name earlier [] kept t = tt
joins_after name earlier (e ∷ es) kept t =
    let h : (not (eqb (name e.left.entry) (name e.right.entry)) ≡ true) × (joins_parts (merged_components name e.left.entry e.right.entry) es ≡ true) = and_parts (not (eqb (name e.left.entry) (name e.right.entry))) (joins_parts (merged_components name e.left.entry e.right.entry) es) t in (
      apart_by earlier e.left.entry e.right.entry name kept (λ is. false≢true (sym (not-true (eqb (name e.left.entry) (name e.right.entry)) h.0) ∙ eq-eqb (name e.left.entry) (name e.right.entry) is)),
      joins_after (merged_components name e.left.entry e.right.entry) (e ∷ earlier) es (joined_ends name e.left.entry e.right.entry, merged_same_names name e.left.entry e.right.entry earlier kept) h.1,
    )

pub joins_no_cycle : (es : List Edge) → joins_parts (λ e. e) es ≡ true → ClosesNoCycle es
joins_no_cycle es t = joins_after (λ e. e) [] es tt t

pub has_within : (subset : ℕ) (es : List Edge) → has_entries subset es ≡ true → AreWithin (entries_of_set subset) es
has_within subset [] t = tt
has_within subset (e ∷ es) t =
    let h : (has_entry subset e.left.entry ≡ true) × ((has_entry subset e.right.entry && has_entries subset es) ≡ true) = and_parts (has_entry subset e.left.entry) (has_entry subset e.right.entry && has_entries subset es) t in
    let k : (has_entry subset e.right.entry ≡ true) × (has_entries subset es ≡ true) = and_parts (has_entry subset e.right.entry) (has_entries subset es) h.1 in
    let l : (ltb e.left.entry greatest_entries ≡ true) × (eqb (bit_at subset e.left.entry) 1 ≡ true) = and_parts (ltb e.left.entry greatest_entries) (eqb (bit_at subset e.left.entry) 1) h.0 in
    let r : (ltb e.right.entry greatest_entries ≡ true) × (eqb (bit_at subset e.right.entry) 1 ≡ true) = and_parts (ltb e.right.entry greatest_entries) (eqb (bit_at subset e.right.entry) 1) k.0 in
    ((listed_if_bit_is_set subset e.left.entry (ltb-true e.left.entry greatest_entries l.0) l.1, listed_if_bit_is_set subset e.right.entry (ltb-true e.right.entry greatest_entries r.0) r.1), has_within subset es k.1)
