-- Suppose that no equality of a set joins an entry of a part (a subset) of the set with an entry outside the part. Then the entries of the part have
-- the same row bounds and lists in the part as in the set.
use Rattle.std.proofs.Common.{◌≡◌, ℕ, Bool, true, false, not, ◌&&◌, cond, eqb, List, [], ◌∷◌, length, get_or, refl, ap, sym, ◌∙◌, inl, inr}
use Rattle.std.specs.Prelude.{if◌then◌else◌, min}
use Rattle.std.specs.List.{AllByRecursion}
use Rattle.std.proofs.lemmas.Bool.{and_parts, cases_lt, eqb-true, false≢true}
use Rattle.degree_sequences.specs.Saturation.{saturated}
use Rattle.berge_tree.specs.declared.edges.Edge.{Edge}
use Rattle.berge_tree.specs.declared.edges.Place.{Place}
use Rattle.entry_sets.specs.Sets.{IsSubset, has_entry}
use Rattle.join_graph.specs.Kept.{equalities_within, joins_within}
use Rattle.bound_fold.proofs.TestedSets.{each_in_set, each_named_column}
use Rattle.set_bounds.specs.AllSets.{bound_in_128_bits}
use Rattle.set_bounds.specs.Parts.{AreUnjoined, DependsOnPartsOnly}
use Rattle.set_bounds.proofs.Listing.{joins_more}
use Rattle.safebound_lists.specs.declared.runs.Run.{Run}
use Rattle.safebound_bounds.specs.declared.arguments.ColumnList.{ColumnList}
use Rattle.safebound_bounds.specs.Meaning.{at_most_with_value, fitted_or_empty, given_list, known_in, rows_in_set, joinable_rows, rows_with_value}
use Rattle.safebound_bounds.proofs.JoinableRows.{in_set_at, in_set_past}
use Rattle.safebound_bounds.proofs.SameBounds.{HaveOneBound, HaveOneList, same_bound}

-- ---- the row bound of an entry of a part

module _ (lists : List ColumnList) (runs : List Run) (subset part : ℕ) (within : IsSubset part subset) (entry : ℕ) (has : has_entry part entry ≡ true) where
  abbrev OnOneSide : Edge → Type 0
  OnOneSide e = has_entry part e.left.entry ≡ has_entry part e.right.entry

  other_entry_is_not_lowered : (p : Place) (n : ℕ) → has_entry part p.entry ≡ false → at_most_with_value lists runs entry p n ≡ n
  other_entry_is_not_lowered p n outside = by (eqb p.entry entry) refl
    where
      by : (t : Bool) → eqb p.entry entry ≡ t → (if t then min n (rows_with_value lists runs p) else n) ≡ n
      by true is = absurd (false≢true (sym outside ∙ ap (has_entry part) (eqb-true p.entry entry is) ∙ has))
      by false is = refl

  other_is_false_too : (a b : Bool) → a ≡ b → (a && b) ≡ false → a ≡ false
  other_is_false_too true b same none = absurd (false≢true (sym none ∙ sym same))
  other_is_false_too false b same none = refl

  one_more : (e : Edge) (own whole : List Edge) (s q : Bool) → joins_within subset e ≡ s → joins_within part e ≡ q → AllByRecursion OnOneSide (cond s (e ∷ whole) whole)
      → (AllByRecursion OnOneSide whole → (m : ℕ) → joinable_rows lists runs entry own m ≡ joinable_rows lists runs entry whole m)
      → (n : ℕ) → joinable_rows lists runs entry (cond q (e ∷ own) own) n ≡ joinable_rows lists runs entry (cond s (e ∷ whole) whole) n
  one_more e own whole true true in_set in_part unjoined rest n = rest unjoined.1 (at_most_with_value lists runs entry e.right (at_most_with_value lists runs entry e.left n))
  one_more e own whole true false in_set in_part unjoined rest n =
      let left : has_entry part e.left.entry ≡ false = other_is_false_too (has_entry part e.left.entry) (has_entry part e.right.entry) unjoined.0 in_part in
      rest unjoined.1 n
      ∙ ap (joinable_rows lists runs entry whole)
      (sym (other_entry_is_not_lowered e.right (at_most_with_value lists runs entry e.left n) (sym unjoined.0 ∙ left) ∙ other_entry_is_not_lowered e.left n left))
  one_more e own whole false true in_set in_part unjoined rest n = absurd (false≢true (sym in_set ∙ joins_more part subset within e in_part))
  one_more e own whole false false in_set in_part unjoined rest n = rest unjoined n

  pub joinable_in_part : (es : List Edge) → AreUnjoined es subset part → (n : ℕ)
      → joinable_rows lists runs entry (equalities_within part es) n ≡ joinable_rows lists runs entry (equalities_within subset es) n
  joinable_in_part [] unjoined n = refl
  joinable_in_part (e ∷ es) unjoined n =
      one_more e (equalities_within part es) (equalities_within subset es) (joins_within subset e) (joins_within part e) refl refl unjoined (λ h m. joinable_in_part es h m) n

-- ---- the row bounds and lists of all entries of a part, and of the other entries

module _ (rows : List ℕ) (lists : List ColumnList) (runs : List Run) (es : List Edge) where
  module _ (subset part : ℕ) (within : IsSubset part subset) (unjoined : AreUnjoined es subset part) where
    same_rows : (entry : ℕ) → has_entry part entry ≡ true → get_or (rows_in_set rows lists runs es part) entry 0 ≡ get_or (rows_in_set rows lists runs es subset) entry 0
    same_rows entry has = elim (cases_lt entry (length rows)) [
      | inl low ↦ in_set_at rows lists runs es part entry low
          ∙ joinable_in_part lists runs subset part within entry has es unjoined (get_or rows entry 0)
          ∙ sym (in_set_at rows lists runs es subset entry low)
      | inr past ↦ in_set_past rows lists runs es part entry past ∙ sym (in_set_past rows lists runs es subset entry past)
    ]

    same_list : (entry column : ℕ) → has_entry part entry ≡ true → HaveOneList (known_in rows lists runs es part) (known_in rows lists runs es subset) entry column
    same_list entry column has = ap (λ (n : ℕ). fitted_or_empty n (given_list lists runs entry column)) (same_rows entry has)

    same_bound_in_part : bound_in_128_bits (known_in rows lists runs es part) es part ≡ bound_in_128_bits (known_in rows lists runs es subset) es part
    same_bound_in_part =
        ap saturated
        (same_bound (known_in rows lists runs es part) (known_in rows lists runs es subset) es part
        (each_in_set (HaveOneBound (known_in rows lists runs es part) (known_in rows lists runs es subset)) part (λ k low has. same_rows k has))
        (each_named_column (HaveOneList (known_in rows lists runs es part) (known_in rows lists runs es subset)) part es (λ k d low joins.
        let e : Edge = get_or es k d in
        let both = and_parts (has_entry part e.left.entry) (has_entry part e.right.entry) joins in
        (same_list e.left.entry e.left.column both.0, same_list e.right.entry e.right.column both.1))))

  module _ (subset part rest : ℕ) (others : (entry : ℕ) → has_entry rest entry ≡ (has_entry subset entry && not (has_entry part entry))) where
    rest_within : IsSubset rest subset
    rest_within entry has = (and_parts (has_entry subset entry) (not (has_entry part entry)) (sym (others entry) ∙ has)).0

    one_unjoined : (e : Edge) → joins_within subset e ≡ true → has_entry part e.left.entry ≡ has_entry part e.right.entry → has_entry rest e.left.entry ≡ has_entry rest e.right.entry
    one_unjoined e joins same =
        let both = and_parts (has_entry subset e.left.entry) (has_entry subset e.right.entry) joins in
        others e.left.entry
        ∙ ap (λ (b : Bool). b && not (has_entry part e.left.entry)) (both.0 ∙ sym both.1)
        ∙ ap (λ (b : Bool). has_entry subset e.right.entry && not b) same
        ∙ sym (others e.right.entry)

    rest_unjoined : (fs : List Edge) → AreUnjoined fs subset part → AreUnjoined fs subset rest
    rest_unjoined [] h = tt
    rest_unjoined (e ∷ fs) h = by (joins_within subset e) refl h (λ k. rest_unjoined fs k)
      where
        by : (t : Bool) → joins_within subset e ≡ t
            → AllByRecursion (λ e. has_entry part e.left.entry ≡ has_entry part e.right.entry) (cond t (e ∷ equalities_within subset fs) (equalities_within subset fs))
            → (AreUnjoined fs subset part → AreUnjoined fs subset rest)
            → AllByRecursion (λ e. has_entry rest e.left.entry ≡ has_entry rest e.right.entry) (cond t (e ∷ equalities_within subset fs) (equalities_within subset fs))
        by true is k later = (one_unjoined e is k.0, later k.1)
        by false is k later = later k

  pub looks_at_parts : DependsOnPartsOnly (known_in rows lists runs es) es
  looks_at_parts subset part rest parted = (
    same_bound_in_part subset part parted.within parted.unjoined,
    same_bound_in_part subset rest (rest_within subset part rest parted.others) (rest_unjoined subset part rest parted.others es parted.unjoined),
  )
