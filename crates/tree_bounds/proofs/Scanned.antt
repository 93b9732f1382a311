-- A choice of scanned rows, as a choice of indexes into the lists of scanned rows.
use Rattle.std.proofs.Common.{◌≡◌, ℕ, zero, suc, ◌<◌, ◌≤◌, true, false, cond, eqb, List, [], ◌∷◌, length, get_or, map, refl, ap, sym, ◌∙◌, arith, inl, inr}
use Rattle.std.specs.List.{AllByRecursion, Contains}
use Rattle.std.proofs.lemmas.Bool.{cases_Bool, eqb-true, eq-eqb, and_parts}
use Rattle.std.proofs.lemmas.List.{get_or-map, length-map}
use Rattle.berge_tree.specs.declared.edges.Edge.{Edge}
use Rattle.berge_tree.specs.Equalities.{AreWithin}
use Rattle.entry_sets.specs.Sets.{entries_of_set, has_entry}
use Rattle.berge_tree.proofs.Forest.{all_in}
use Rattle.entry_sets.proofs.Listing.{in_rest, in_front, not_in_empty, set_entries_only, at_member, in_front_or_rest}
use Rattle.join_graph.specs.Kept.{equalities_within, joins_within}
use Rattle.tree_bounds.specs.TreeBounds.{EntryBounds}
use Rattle.tree_bounds.specs.SetBounds.{SetHasLists, bound_of_set}
use Rattle.tree_bounds.specs.Tables.{key_of, Satisfies, ChoicesAreDifferent, SetDominates}
use Rattle.tree_bounds.specs.Scans.{scanned, SatisfiesScanned}
use Rattle.tree_bounds.proofs.Turns.{within_set}

-- ---- the equalities of a set name only entries of the set

pub equalities_inside : (subset : ℕ) (es : List Edge) → AreWithin (entries_of_set subset) (equalities_within subset es)
equalities_inside subset [] = tt
equalities_inside subset (e ∷ es) = elim (cases_Bool (joins_within subset e)) [
  | inl t ↦ rw t (
    let ends : (has_entry subset e.left.entry ≡ true) × (has_entry subset e.right.entry ≡ true) = and_parts (has_entry subset e.left.entry) (has_entry subset e.right.entry) t in
        (set_entries_only subset e.left.entry ends.0, set_entries_only subset e.right.entry ends.1),
    equalities_inside subset es,
  )
  | inr n ↦ rw n (equalities_inside subset es)
]

-- ---- the index of a row in the list of scanned rows

abbrev index_in : List ℕ → ℕ → ℕ
index_in [] row = 0
index_in (x ∷ xs) row = cond (eqb x row) 0 (suc (index_in xs row))

record IsAtIndex (rows : List ℕ) (row : ℕ) : Type 0 where
  within : index_in rows row < length rows
  there : get_or rows (index_in rows row) 0 ≡ row

row_at_index : (rows : List ℕ) (row : ℕ) → Contains rows row → IsAtIndex rows row
row_at_index [] row k = absurd (not_in_empty row k)
row_at_index (x ∷ xs) row k = elim (cases_Bool (eqb x row)) [
  | inl t ↦ record { within = rw t (omega arith); there = rw t (eqb-true x row t) }
  | inr n ↦ elim (in_front_or_rest x xs row k) [
    | inr is ↦ absurd (differ (sym n ∙ eq-eqb x row (sym is)))
    | inl later ↦ (let p : IsAtIndex xs row = row_at_index xs row later in record { within = rw n (omega (arith, p.within)); there = rw n p.there })
  ]
]
  where
    differ : {A : Type 0} → false ≡ true → A
    differ e = absurd (cc)

module _ (scans : ℕ → List ℕ) (key : ℕ → ℕ → ℕ → ℕ) (set : List ℕ) where
  abbrev indexes : (ℕ → ℕ) → ℕ → ℕ
  indexes choice entry = index_in (scans entry) (choice entry)

  abbrev AreScanned : (ℕ → ℕ) → Type 0
  AreScanned choice = AllByRecursion (λ entry. Contains (scans entry) (choice entry)) set

  row_placed : (choice : ℕ → ℕ) → AreScanned choice → (entry : ℕ) → Contains set entry → IsAtIndex (scans entry) (choice entry)
  row_placed choice h entry k = row_at_index (scans entry) (choice entry) (at_member (λ entry. Contains (scans entry) (choice entry)) set h entry k)

  key_placed : (choice : ℕ → ℕ) → AreScanned choice → (entry column : ℕ) → Contains set entry → key_of (scanned scans key) (indexes choice) entry column ≡ key entry column (choice entry)
  key_placed choice h entry column k =
      let p : IsAtIndex (scans entry) (choice entry) = row_placed choice h entry k in
      get_or-map (key entry column) (scans entry) (indexes choice entry) 0 0 p.within ∙ ap (key entry column) p.there

  equal_placed : (choice : ℕ → ℕ) → AreScanned choice → (es : List Edge) → AreWithin set es
      → AllByRecursion (λ e. key e.left.entry e.left.column (choice e.left.entry) ≡ key e.right.entry e.right.column (choice e.right.entry)) es
      → AllByRecursion (λ e. key_of (scanned scans key) (indexes choice) e.left.entry e.left.column ≡ key_of (scanned scans key) (indexes choice) e.right.entry e.right.column) es
  equal_placed choice h [] inside equal = tt
  equal_placed choice h (e ∷ es) inside equal = (
    key_placed choice h e.left.entry e.left.column inside.0.0 ∙ equal.0 ∙ sym (key_placed choice h e.right.entry e.right.column inside.0.1),
    equal_placed choice h es inside.1 equal.1,
  )

  all_satisfy : (es : List Edge) → AreWithin set es → (cs : List (ℕ → ℕ)) → AllByRecursion (SatisfiesScanned scans key set es) cs
      → AllByRecursion (Satisfies (scanned scans key) set es) (map indexes cs)
  all_satisfy es inside [] h = tt
  all_satisfy es inside (c ∷ cs) h = (
    record {
      rows = all_in (λ entry. indexes c entry < length (scans entry)) set (λ entry k. (row_placed c h.0.rows entry k).within);
      equal = equal_placed c h.0.rows es inside h.0.equal;
    },
    all_satisfy es inside cs h.1,
  )

  -- ---- different choices of rows give different choices of indexes

  same_place_at : (x y : ℕ → ℕ) (set' : List ℕ) → map (indexes x) set' ≡ map (indexes y) set' → (entry : ℕ) → Contains set' entry → indexes x entry ≡ indexes y entry
  same_place_at x y [] same entry k = absurd (not_in_empty entry k)
  same_place_at x y (e ∷ es) same entry k = elim (in_front_or_rest e es entry k) [
    | inr is ↦ (let first : indexes x e ≡ indexes y e = cc in rw is first)
    | inl later ↦ (let rest : map (indexes x) es ≡ map (indexes y) es = cc in same_place_at x y es rest entry later)
  ]

  same_rows : (x y : ℕ → ℕ) → AreScanned x → AreScanned y → map (indexes x) set ≡ map (indexes y) set → (entry : ℕ) → Contains set entry → x entry ≡ y entry
  same_rows x y hx hy same entry k =
      let px : IsAtIndex (scans entry) (x entry) = row_placed x hx entry k in
      let py : IsAtIndex (scans entry) (y entry) = row_placed y hy entry k in
      sym px.there ∙ ap (λ i. get_or (scans entry) i 0) (same_place_at x y set same entry k) ∙ py.there

  same_map : (x y : ℕ → ℕ) (xs : List ℕ) → ((entry : ℕ) → Contains xs entry → x entry ≡ y entry) → map x xs ≡ map y xs
  same_map x y [] h = refl
  same_map x y (e ∷ es) h = rw (h e (in_front e es e refl), same_map x y es (λ entry k. h entry (in_rest e es entry k))) refl

  scanned_at : (es : List Edge) (cs : List (ℕ → ℕ)) → AllByRecursion (SatisfiesScanned scans key set es) cs → (i : ℕ) (d : ℕ → ℕ) → i < length cs → AreScanned (get_or cs i d)
  scanned_at es [] h i d l = absurd (omega arith)
  scanned_at es (c ∷ cs) h zero d l = h.0.rows
  scanned_at es (c ∷ cs) h (suc i) d l = scanned_at es cs h.1 i d (omega arith)

  still_differ : (es : List Edge) (cs : List (ℕ → ℕ)) → AllByRecursion (SatisfiesScanned scans key set es) cs → ChoicesAreDifferent set cs → ChoicesAreDifferent set (map indexes cs)
  still_differ es cs h differ i j d less within same =
      let j_in : j < length cs = omega (arith, within, length-map cs indexes) in
      let i_in : i < length cs = omega arith in
      let x : ℕ → ℕ = get_or cs i d in
      let y : ℕ → ℕ = get_or cs j d in
      let at_x : get_or (map indexes cs) i d ≡ indexes x = get_or-map indexes cs i d d i_in in
      let at_y : get_or (map indexes cs) j d ≡ indexes y = get_or-map indexes cs j d d j_in in
      differ i j d less j_in
      (same_map x y set (same_rows x y (scanned_at es cs h i d i_in) (scanned_at es cs h j d j_in) (ap (λ f. map f set) (sym at_x) ∙ same ∙ ap (λ f. map f set) at_y)))

pub scanned_within : (b : EntryBounds) (scans : ℕ → List ℕ) (key : ℕ → ℕ → ℕ → ℕ) (es : List Edge) (subset : ℕ) → SetHasLists b es subset → SetDominates b (scanned scans key) es subset
    → (cs : List (ℕ → ℕ)) → AllByRecursion (SatisfiesScanned scans key (entries_of_set subset) (equalities_within subset es)) cs → ChoicesAreDifferent (entries_of_set subset) cs
    → length cs ≤ bound_of_set b es subset
scanned_within b scans key es subset h d cs satisfy differ =
    let set : List ℕ = entries_of_set subset in
    omega (
      arith,
      within_set b (scanned scans key) es subset h d (map (indexes scans key set) cs)
          (all_satisfy scans key set (equalities_within subset es) (equalities_inside subset es) cs satisfy)
          (still_differ scans key set (equalities_within subset es) cs satisfy differ),
      length-map cs (indexes scans key set),
    )
