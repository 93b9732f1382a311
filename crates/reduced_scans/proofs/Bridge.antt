-- The rows of the greatest consistent set of items are the family of reduced scans.
use Rattle.std.proofs.Common.{◌≡◌, ℕ, zero, suc, ◌+◌, ◌-◌, ◌<◌, ◌≤◌, Bool, true, false, List, [], ◌∷◌, Some, length, get_or, drop, refl, ap, sym, ◌∙◌, subst, arith, inl, inr}
use Rattle.std.specs.Prelude.{◌==◌, nat_lt, if◌then◌else◌, slice_get}
use Rattle.std.specs.List.{Contains}
use Rattle.std.proofs.lemmas.Bool.{cases_eq, cases_lt, eq-eqb, eqb-true, false≢true, le-ltb, lt-ltb, ne_eqb}
use Rattle.std.proofs.lemmas.Option.{get_or_from_slice_get, slice_get_within}
use Rattle.std.proofs.lemmas.List.{get_or_default}
use Rattle.berge_tree.specs.declared.edges.Edge.{Edge}
use Rattle.berge_tree.specs.declared.edges.Place.{Place}
use Rattle.counted_sets.specs.declared.uses.Use.{Use}
use Rattle.counted_sets.specs.Sets.{IsGiven, IsGreatest}
use Rattle.counted_sets.specs.Sets as sets
use Rattle.level_bounds.specs.Keys.{Keys}
use Rattle.join_steps.specs.Lists.{list_at}
use Rattle.reduced_scans.specs.Families.{AreAscending, HasPartner, HavePartners, IsConsistent, IsReduced}
use Rattle.reduced_scans.specs.Wiring.{ValuesAreDifferent, AreUsesOfRows, NumberedValues, IsEqualityAt, IsUseFor, IsUseForRow, HoldsByKey, first_item, key_on, marked_family, side_of, opposite, row_at, slot_of}
use Rattle.reduced_scans.proofs.Members.{behind, in_cases, in_front, not_in_none}
use Rattle.reduced_scans.proofs.MarkedRows.{MarkedAt, at_place, from_family, is_family, place_in, to_family}

-- ---- the set of items of a family

abbrev pub has : ℕ → List ℕ → Bool
has x [] = false
has x (y ∷ ys) = if y == x then true else has x ys

pub has-contains : (x : ℕ) (ys : List ℕ) → has x ys ≡ true → Contains ys x
has-contains x [] is = absurd (false≢true is)
has-contains x (y ∷ ys) is = elim (cases_eq y x) [
  | inl same ↦ in_front x y ys same
  | inr apart ↦ behind x y ys (has-contains x ys (sym (skips apart) ∙ is))
]
  where
    skips : (y ≡ x → ⊥) → has x (y ∷ ys) ≡ has x ys
    skips apart = rw (ne_eqb y x apart) refl

pub contains-has : (x : ℕ) (ys : List ℕ) → Contains ys x → has x ys ≡ true
contains-has x [] is = absurd (not_in_none x is)
contains-has x (y ∷ ys) is = elim (cases_eq y x) [
  | inl same ↦ rw (eq-eqb y x same) refl
  | inr apart ↦ elim (in_cases x y ys is) [
    | inl here ↦ absurd (apart here)
    | inr there ↦ rw (ne_eqb y x apart) (contains-has x ys there)
  ]
]

abbrev pub in_family : List (List ℕ) → List (List ℕ) → ℕ → Bool
in_family [] family item = false
in_family (scan ∷ scans) family item =
    if nat_lt item (length scan) then has (get_or scan item 0) (list_at family 0) else in_family scans (drop 1 family) (item - length scan)

drop_at : (family : List (List ℕ)) (entry : ℕ) → list_at (drop 1 family) entry ≡ list_at family (suc entry)
drop_at [] entry = refl
drop_at (list ∷ family) entry = refl

first_list : (scan : List ℕ) (scans family : List (List ℕ)) (item : ℕ) → item < length scan → in_family (scan ∷ scans) family item ≡ has (get_or scan item 0) (list_at family 0)
first_list scan scans family item item_in_range = rw (lt-ltb item (length scan) item_in_range) refl

later_list : (scan : List ℕ) (scans family : List (List ℕ)) (item : ℕ) → length scan ≤ item → in_family (scan ∷ scans) family item ≡ in_family scans (drop 1 family) (item - length scan)
later_list scan scans family item past_scan = rw (le-ltb item (length scan) past_scan) refl

pub in_family_is : (scans family : List (List ℕ)) (entry place : ℕ) → place < length (list_at scans entry) → in_family scans family (first_item scans entry + place) ≡ has (row_at scans entry place) (list_at family entry)
in_family_is [] family entry place h = absurd (omega arith)
in_family_is (scan ∷ scans) family zero place h = let n : 0 + place ≡ place = omega arith in ap (in_family (scan ∷ scans) family) n ∙ first_list scan scans family place h
in_family_is (scan ∷ scans) family (suc entry) place h =
    let n : ((length scan + first_item scans entry) + place) - length scan ≡ first_item scans entry + place = omega arith in
    later_list scan scans family ((length scan + first_item scans entry) + place) (omega arith)
    ∙ ap (in_family scans (drop 1 family)) n ∙ in_family_is scans (drop 1 family) entry place h ∙ ap (has (row_at scans entry place)) (drop_at family entry)

pub in_family_within : (scans family : List (List ℕ)) (item : ℕ) → in_family scans family item ≡ true → item < first_item scans (length scans)
in_family_within [] family item is = absurd (false≢true is)
in_family_within (scan ∷ scans) family item is = elim (cases_lt item (length scan)) [
  | inl low ↦ omega arith
  | inr high ↦ omega (arith, in_family_within scans (drop 1 family) (item - length scan) (sym (later_list scan scans family item high) ∙ is))
]

-- ---- slots and the values that they belong to

one_slot : (a b : ℕ) (is_left other : Bool) → slot_of a is_left ≡ slot_of b other → (a ≡ b) × (is_left ≡ other)
one_slot a b true true e = (omega arith, refl)
one_slot a b true false e = absurd (omega arith)
one_slot a b false true e = absurd (omega arith)
one_slot a b false false e = (omega arith, refl)

some_one : (a b : ℕ × ℕ) → Some a ≡ Some b → a ≡ b
some_one a b e = cc

same_value : (known_values : NumberedValues) (a b m n k l : ℕ) → slice_get known_values a ≡ Some (m, k) → slice_get known_values b ≡ Some (n, l) → a ≡ b → (m ≡ n) × (k ≡ l)
same_value known_values a b m n k l p q same =
    let pair : (m, k) ≡ (n, l) = some_one (m, k) (n, l) (sym p ∙ ap (slice_get known_values) same ∙ q) in
    (ap (λ (x : ℕ × ℕ). x.0) pair, ap (λ (x : ℕ × ℕ). x.1) pair)

only_value : (known_values : NumberedValues) (a b : ℕ) (v : ℕ × ℕ) → ValuesAreDifferent known_values → slice_get known_values a ≡ Some v → slice_get known_values b ≡ Some v → a ≡ b
only_value known_values a b v different p q = elim (cases_lt a b) [
  | inl before ↦ absurd (different a b v before (slice_get_within known_values b v q) (get_or_from_slice_get known_values a v v p ∙ sym (get_or_from_slice_get known_values b v v q)))
  | inr not_before ↦ elim (cases_eq a b) [
    | inl same ↦ same
    | inr apart ↦ (let after : b < a = omega arith in
        absurd (different b a v after (slice_get_within known_values a v p) (get_or_from_slice_get known_values b v v q ∙ sym (get_or_from_slice_get known_values a v v p))))
  ]
]

one_numbered : (equalities : List Edge) (m n : ℕ) (e f : Edge) → m ≡ n → IsEqualityAt equalities m e → IsEqualityAt equalities n f → e ≡ f
one_numbered equalities m n e f same p q = sym p.1 ∙ ap (λ i. get_or equalities i e) same ∙ get_or_default equalities n e f q.0 ∙ q.1

-- ---- consistent sets of items are consistent families

abbrev pub equal_from : (Edge → ℕ → ℕ → Bool) → Edge → Bool → ℕ → ℕ → Bool
equal_from equal e true = equal e
equal_from equal e false = λ right left. equal e left right

module _ (scans : List (List ℕ)) (equalities : List Edge) (key : Keys) (equal : Edge → ℕ → ℕ → Bool) (tells : HoldsByKey scans equalities key equal) where
  pub same_key : (e : Edge) (is_left : Bool) (row partner : ℕ) → Contains equalities e → Contains (list_at scans (side_of e is_left).entry) row → Contains (list_at scans (side_of e (opposite is_left)).entry) partner
      → equal_from equal e is_left row partner ≡ true → key_on key (side_of e is_left) row ≡ key_on key (side_of e (opposite is_left)) partner
  same_key e true row partner has r p is = eqb-true (key_on key e.left row) (key_on key e.right partner) (sym (tells e has row partner r p) ∙ is)
  same_key e false row partner has r p is = sym (eqb-true (key_on key e.left partner) (key_on key e.right row) (sym (tells e has partner row p r) ∙ is))

  key_same : (e : Edge) (is_left : Bool) (row partner : ℕ) → Contains equalities e → Contains (list_at scans (side_of e is_left).entry) row → Contains (list_at scans (side_of e (opposite is_left)).entry) partner
      → key_on key (side_of e is_left) row ≡ key_on key (side_of e (opposite is_left)) partner → equal_from equal e is_left row partner ≡ true
  key_same e true row partner has r p is = tells e has row partner r p ∙ eq-eqb (key_on key e.left row) (key_on key e.right partner) is
  key_same e false row partner has r p is = tells e has partner row p r ∙ eq-eqb (key_on key e.left partner) (key_on key e.right row) (sym is)

  pub partners : (family : List (List ℕ)) (e : Edge) (is_left : Bool) → IsConsistent scans equalities equal family → Contains equalities e
      → HavePartners (equal_from equal e is_left) (list_at family (side_of e is_left).entry) (list_at family (side_of e (opposite is_left)).entry)
  partners family e true consistent has = consistent.from_left e has
  partners family e false consistent has = consistent.from_right e has

  module _ (known_values : NumberedValues) (uses : List Use) (different : ValuesAreDifferent known_values) (wired : AreUsesOfRows scans equalities key known_values (length equalities) uses) where
    from_marks : (is_kept : ℕ → Bool) → sets.IsConsistent (first_item scans (length scans)) uses is_kept → (number : ℕ) (e : Edge) (is_left : Bool) → IsEqualityAt equalities number e
        → HavePartners (equal_from equal e is_left) (list_at (marked_family is_kept 0 scans) (side_of e is_left).entry) (list_at (marked_family is_kept 0 scans) (side_of e (opposite is_left)).entry)
    from_marks is_kept consistent number e is_left numbered row in_marked =
        let m : MarkedAt is_kept scans (side_of e is_left).entry row = from_family is_kept scans (side_of e is_left).entry row in_marked in
        let need : (u : Use) × Contains uses u × IsUseFor known_values number is_left (key_on key (side_of e is_left) (row_at scans (side_of e is_left).entry m.0)) (first_item scans (side_of e is_left).entry + m.0) u =
        wired.complete number e is_left m.0 numbered.0 numbered m.1 in
        let given : IsGiven uses is_kept need.0.needs = consistent.given need.0 need.1 (ap is_kept need.2.is_item ∙ m.2) in
        let v : IsUseForRow scans equalities key known_values (length equalities) given.0 = wired.sound given.0 given.1 in
        let slots : (v.is_use.value_number ≡ need.2.value_number) × (v.is_left ≡ opposite is_left) = one_slot v.is_use.value_number need.2.value_number v.is_left (opposite is_left) (sym v.is_use.gives ∙ given.3 ∙ need.2.needs) in
        let values : (v.number ≡ number) × (key_on key (side_of v.edge v.is_left) (row_at scans (side_of v.edge v.is_left).entry v.place) ≡ key_on key (side_of e is_left) (row_at scans (side_of e is_left).entry m.0)) =
        same_value known_values v.is_use.value_number need.2.value_number v.number number (key_on key (side_of v.edge v.is_left) (row_at scans (side_of v.edge v.is_left).entry v.place)) (key_on key (side_of e is_left) (row_at scans (side_of e is_left).entry m.0))
        v.is_use.is_value need.2.is_value slots.0 in
        let edge : v.edge ≡ e = one_numbered equalities v.number number v.edge e values.0 v.numbered numbered in
        let side : side_of v.edge v.is_left ≡ side_of e (opposite is_left) = ap (λ f. side_of f v.is_left) edge ∙ ap (side_of e) slots.1 in
        let partner : ℕ = row_at scans (side_of v.edge v.is_left).entry v.place in
        let there : Contains (list_at (marked_family is_kept 0 scans) (side_of v.edge v.is_left).entry) partner = to_family is_kept scans (side_of v.edge v.is_left).entry v.place v.within (ap is_kept (sym v.is_use.is_item) ∙ given.2) in
        let scanned : Contains (list_at scans (side_of v.edge v.is_left).entry) partner = at_place (list_at scans (side_of v.edge v.is_left).entry) v.place partner v.within refl in
        let row_scanned : Contains (list_at scans (side_of e is_left).entry) row = at_place (list_at scans (side_of e is_left).entry) m.0 row m.1 m.3 in
        let keys : key_on key (side_of e is_left) row ≡ key_on key (side_of e (opposite is_left)) partner =
        ap (key_on key (side_of e is_left)) (sym m.3) ∙ sym values.1 ∙ ap (λ (s : Place). key_on key s partner) side in (
          partner,
          subst (λ (s : Place). Contains (list_at (marked_family is_kept 0 scans) s.entry) partner) side there,
          key_same e is_left row partner (number, numbered.0, numbered.1) row_scanned (subst (λ (s : Place). Contains (list_at scans s.entry) partner) side scanned) keys,
        )

    from_consistent : (family : List (List ℕ)) → IsConsistent scans equalities equal family → sets.IsConsistent (first_item scans (length scans)) uses (in_family scans family)
    from_consistent family consistent = record {
      within = in_family_within scans family;
      given = λ need in_uses stands. (
          let u : IsUseForRow scans equalities key known_values (length equalities) need = wired.sound need in_uses in
          let side : Place = side_of u.edge u.is_left in
          let other : Place = side_of u.edge (opposite u.is_left) in
          let row : ℕ = row_at scans side.entry u.place in
          let edge_in : Contains equalities u.edge = (u.number, u.numbered.0, u.numbered.1) in
          let in_list : Contains (list_at family side.entry) row = has-contains row (list_at family side.entry) (sym (in_family_is scans family side.entry u.place u.within) ∙ ap (in_family scans family) (sym u.is_use.is_item) ∙ stands) in
          let partner : HasPartner (equal_from equal u.edge u.is_left) (list_at family other.entry) row = partners family u.edge u.is_left consistent edge_in row in_list in
          let scanned : Contains (list_at scans other.entry) partner.0 = consistent.is_family.scanned other.entry partner.0 partner.1 in
          let place : (i : ℕ) × (i < length (list_at scans other.entry)) × (get_or (list_at scans other.entry) i 0 ≡ partner.0) = place_in (list_at scans other.entry) partner.0 scanned in
          let v : (v : Use) × Contains uses v × IsUseFor known_values u.number (opposite u.is_left) (key_on key other (row_at scans other.entry place.0)) (first_item scans other.entry + place.0) v =
          wired.complete u.number u.edge (opposite u.is_left) place.0 u.below u.numbered place.1 in
          let keys : key_on key side row ≡ key_on key other (row_at scans other.entry place.0) =
          same_key u.edge u.is_left row partner.0 edge_in (at_place (list_at scans side.entry) u.place row u.within refl) scanned partner.2 ∙ ap (key_on key other) (sym place.2) in
          let value_number : v.2.value_number ≡ u.is_use.value_number = only_value known_values v.2.value_number u.is_use.value_number (u.number, key_on key side row) different
          (v.2.is_value ∙ ap (λ k. Some (u.number, k)) (sym keys)) u.is_use.is_value in (
            v.0,
            v.1,
            ap (in_family scans family) v.2.is_item ∙ in_family_is scans family other.entry place.0 place.1
                ∙ contains-has (row_at scans other.entry place.0) (list_at family other.entry) (subst (Contains (list_at family other.entry)) (sym place.2) partner.1),
            v.2.gives ∙ ap (λ k. slot_of k (opposite u.is_left)) value_number ∙ sym u.is_use.needs,
          ));
    }

    pub marks_reduce : (is_kept : ℕ → Bool) → AreAscending scans → IsGreatest (first_item scans (length scans)) uses is_kept → IsReduced scans equalities equal (marked_family is_kept 0 scans)
    marks_reduce is_kept ascending greatest = record {
      consistent = record {
        is_family = is_family scans is_kept ascending;
        from_left = λ e has. numbered_left e has;
        from_right = λ e has. numbered_right e has;
      };
      greatest = λ other consistent entry row in_other. (
          let place : (i : ℕ) × (i < length (list_at scans entry)) × (get_or (list_at scans entry) i 0 ≡ row) = place_in (list_at scans entry) row (consistent.is_family.scanned entry row in_other) in
          subst (Contains (list_at (marked_family is_kept 0 scans) entry)) place.2
          (to_family is_kept scans entry place.0 place.1 (greatest.greatest (in_family scans other) (from_consistent other consistent) (first_item scans entry + place.0)
          (in_family_is scans other entry place.0 place.1 ∙ contains-has (row_at scans entry place.0) (list_at other entry) (subst (Contains (list_at other entry)) (sym place.2) in_other)))));
    }
      where
        numbered_left : (e : Edge) → Contains equalities e → HavePartners (equal e) (list_at (marked_family is_kept 0 scans) e.left.entry) (list_at (marked_family is_kept 0 scans) e.right.entry)
        numbered_left e has = from_marks is_kept greatest.consistent has.0 e true (has.1, has.2)

        numbered_right : (e : Edge) → Contains equalities e → HavePartners (λ right left. equal e left right) (list_at (marked_family is_kept 0 scans) e.right.entry) (list_at (marked_family is_kept 0 scans) e.left.entry)
        numbered_right e has = from_marks is_kept greatest.consistent has.0 e false (has.1, has.2)
