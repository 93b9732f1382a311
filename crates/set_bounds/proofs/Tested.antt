-- What two tests of the code mean: whether a turn keeps all equalities of a set, and whether an equality crosses from a part of the set to the rest.
use Rattle.std.proofs.Common.{◌≡◌, ℕ, zero, suc, ◌-◌, ◌*◌, ◌^◌, ◌<◌, ◌≤◌, min, Bool, true, false, cond, not, ◌&&◌, eqb, ltb, bit_and, w16, List, [], ◌∷◌, get_or, length, refl, ap, sym, ◌∙◌, subst, inl, inr, arith}
use Rattle.std.specs.Int.{bit_at, bit_not}
use Rattle.std.proofs.lemmas.Bool.{cases_Bool, ltb-true, or_parts}
use Rattle.std.proofs.lemmas.List.{append-nil}
use Rattle.std.proofs.lemmas.List.FromFn.{get_or-map-range_with_len, length-map-range_with_len}
use Rattle.std.proofs.lemmas.Nat.Bits.{bit_at-lt, bit_at_and, bit_at_not}
use Rattle.limits.specs.Profile.{greatest_entries}
use Rattle.degree_sequences.proofs.SaturationLaws.{saturated-mul}
use Rattle.degree_sequences.specs.Saturation.{saturated}
use Rattle.entry_sets.specs.Sets.{has_entry}
use Rattle.berge_tree.specs.declared.edges.Edge.{Edge}
use Rattle.berge_tree.specs.Equalities.{ClosesNoCycle}
use Rattle.berge_tree.specs.Testing.{merged_components}
use Rattle.join_graph.specs.Kept.{equalities_within, joins_within, kept_by_names, kept_of}
use Rattle.tree_bounds.specs.SetBounds.{bound_of_set}
use Rattle.tree_bounds.specs.TreeBounds.{EntryBounds}
use Rattle.set_bounds.specs.AllSets.{bound_in_128_bits, bounds_below}
use Rattle.set_bounds.specs.Parts.{DependsOnPartsOnly, AreUnjoined, ConsistsOfParts, crosses, some_cross}
use Rattle.set_bounds.proofs.Forests.{forest_kept}
use Rattle.set_bounds.proofs.Parted.{parts_multiply}

-- ---- a turn keeps as many equalities as the set has exactly if they close no cycle

kept_fewer : (name : ℕ → ℕ) (es : List Edge) → length (kept_by_names name es) ≤ length es
kept_fewer name [] = omega arith
kept_fewer name (e ∷ es) = elim (cases_Bool (eqb (name e.left.entry) (name e.right.entry))) [
  | inl t ↦ rw t (omega (arith, kept_fewer name es))
  | inr n ↦ rw n (omega (arith, kept_fewer (merged_components name e.left.entry e.right.entry) es))
]

kept_step : (name : ℕ → ℕ) (e : Edge) (es : List Edge)
    → ((name : ℕ → ℕ) → length (kept_by_names name es) ≡ length es → kept_by_names name es ≡ es)
    → (t : Bool) → eqb (name e.left.entry) (name e.right.entry) ≡ t → length (kept_by_names name (e ∷ es)) ≡ suc (length es) → kept_by_names name (e ∷ es) ≡ e ∷ es
kept_step name e es later true u same =
    let shorter : length (kept_by_names name es) ≡ suc (length es) = rw u at same in
    absurd (omega (arith, shorter, kept_fewer name es))
kept_step name e es later false u same =
    let rest : suc (length (kept_by_names (merged_components name e.left.entry e.right.entry) es)) ≡ suc (length es) = rw u at same in
    rw u (ap (λ (s : List Edge). e ∷ s) (later (merged_components name e.left.entry e.right.entry) (omega (arith, rest))))

kept_every : (name : ℕ → ℕ) (es : List Edge) → length (kept_by_names name es) ≡ length es → kept_by_names name es ≡ es
kept_every name [] same = refl
kept_every name (e ∷ es) same = kept_step name e es (λ more. kept_every more es) (eqb (name e.left.entry) (name e.right.entry)) refl same

pub forest_if_all_kept : (es : List Edge) (subset : ℕ) (kept : List Edge) → kept ≡ kept_of subset 0 es → length kept ≡ length (equalities_within subset es) → ClosesNoCycle kept
    → ClosesNoCycle (equalities_within subset es)
forest_if_all_kept es subset kept is same closes =
    let of_set : List Edge = equalities_within subset es in
    let round : kept ≡ kept_by_names (λ x. x) of_set = is ∙ ap (kept_by_names (λ x. x)) (append-nil of_set) in
    subst ClosesNoCycle (round ∙ kept_every (λ x. x) of_set (ap length (sym round) ∙ same)) closes

pub all_kept_if_forest : (es : List Edge) (subset : ℕ) (kept : List Edge) → kept ≡ kept_of subset 0 es → ClosesNoCycle (equalities_within subset es) → length kept ≡ length (equalities_within subset es)
all_kept_if_forest es subset kept is closes = ap length (is ∙ forest_kept es subset 0 closes ∙ append-nil (equalities_within subset es))

-- ---- if no equality crosses from the part to the rest, no equality joins them

one_side : (joins a b : Bool) → joins ≡ true → (joins && cond a (not b) b) ≡ false → a ≡ b
one_side true true true t e = refl
one_side true true false t e = absurd (cc e)
one_side true false true t e = absurd (cc e)
one_side true false false t e = refl
one_side false a b t e = absurd (cc t)

pub none_cross : (es : List Edge) (subset part : ℕ) → some_cross subset part es ≡ false → AreUnjoined es subset part
none_cross [] subset part h = tt
none_cross (e ∷ es) subset part h =
    let apart : (crosses subset part e ≡ false) × (some_cross subset part es ≡ false) = or_parts (crosses subset part e) (some_cross subset part es) h in
    elim (cases_Bool (joins_within subset e)) [
      | inl t ↦ rw t (one_side (joins_within subset e) (has_entry part e.left.entry) (has_entry part e.right.entry) t apart.0, none_cross es subset part apart.1)
      | inr n ↦ rw n (none_cross es subset part apart.1)
    ]

-- ---- the entries of a set that aren't in a part

both_bits : (x y : ℕ) → x < 2 → y < 2 → eqb (min x (1 - y)) 1 ≡ (eqb x 1 && not (eqb y 1))
both_bits zero zero h k = refl
both_bits zero (suc zero) h k = refl
both_bits (suc zero) zero h k = refl
both_bits (suc zero) (suc zero) h k = refl
both_bits (suc (suc x)) y h k = absurd (omega arith)
both_bits x (suc (suc y)) h k = absurd (omega arith)

pub rest_has : (set part entry : ℕ) → part < 2 ^ greatest_entries → has_entry (bit_and set (bit_not w16 part)) entry ≡ (has_entry set entry && not (has_entry part entry))
rest_has set part entry fits = elim (cases_Bool (ltb entry greatest_entries)) [
  | inl low ↦ rw (low, bit_at_and set (bit_not w16 part) entry, bit_at_not w16 part entry fits (ltb-true entry greatest_entries low))
      (both_bits (bit_at set entry) (bit_at part entry) (bit_at-lt set entry) (bit_at-lt part entry))
  | inr high ↦ rw high refl
]

-- ---- the product of bounds of parts that were found before

module _ (b : ℕ → EntryBounds) (es : List Edge) where
  bound_below_at : (k subset : ℕ) (bounds : List ℕ) → bounds ≡ bounds_below b es k → subset < k → get_or bounds subset 0 ≡ bound_in_128_bits (b subset) es subset
  bound_below_at k subset bounds is low =
      ap (λ (s : List ℕ). get_or s subset 0) is ∙ get_or-map-range_with_len (λ (set : ℕ). bound_in_128_bits (b set) es set) 0 k subset subset 0 low (omega arith)

  pub bounds_below_length : (k : ℕ) (bounds : List ℕ) → bounds ≡ bounds_below b es k → length bounds ≡ k
  bounds_below_length k bounds is = ap length is ∙ length-map-range_with_len (λ (set : ℕ). bound_in_128_bits (b set) es set) 0 k

  pub product_of_part_bounds : (subset part rest own others : ℕ) (bounds : List ℕ) → ClosesNoCycle (equalities_within subset es) → ConsistsOfParts es subset part rest → DependsOnPartsOnly b es
      → bounds ≡ bounds_below b es subset → part < subset → rest < subset → own ≡ get_or bounds part 0 → others ≡ get_or bounds rest 0
      → min (own * others) (2 ^ 128 - 1) ≡ bound_in_128_bits (b subset) es subset
  product_of_part_bounds subset part rest own others bounds forest parted depends_on_parts is low high own_is others_is =
      let parts = depends_on_parts subset part rest parted in
      ap (λ m. saturated (m * others)) (own_is ∙ bound_below_at subset part bounds is low ∙ parts.0)
      ∙ ap (λ m. saturated (bound_in_128_bits (b subset) es part * m)) (others_is ∙ bound_below_at subset rest bounds is high ∙ parts.1)
      ∙ saturated-mul (bound_of_set (b subset) es part) (bound_of_set (b subset) es rest)
      ∙ ap saturated (sym (parts_multiply (b subset) es subset part rest forest parted))
