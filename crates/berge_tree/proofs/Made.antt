-- The walk makes a tree that follows the equalities. Below an entry are its classes, except the class above it. Below a class are its entries, except
-- the entry above it.
use Rattle.std.proofs.Common.{◌≡◌, ◌≢◌, ℕ, Bool, true, false, not, eqb, List, [], ◌∷◌, ◌+◌, ◌<◌, ◌≤◌, zero, suc, length, map, arith, refl, ap, sym, ◌∙◌, subst, inl, inr, Option, Some, None}
use Rattle.std.specs.Prelude.{filter}
use Rattle.std.specs.List.{Contains, AllByRecursion, IsDistinct, list_any}
use Rattle.std.specs.List.Sorted.{IsStrictlyIncreasing}
use Rattle.std.proofs.lemmas.Bool.{cases_Bool, eq-eqb, eqb-true, false≢true, and_parts, and_from, not_from_false, not-true}
use Rattle.std.proofs.lemmas.Map.Steps.{length-le_from_distinct_below}
use Rattle.entry_sets.proofs.Listing.{increasing_with_front, in_rest, in_front, not_in_empty, in_front_or_rest}
use Rattle.berge_tree.specs.declared.edges.Place.{Place}
use Rattle.berge_tree.specs.declared.edges.Edge.{Edge}
use Rattle.berge_tree.specs.declared.columns.Column.{Column}
use Rattle.berge_tree.specs.Trees.{Classes, Members, one_member, and_member}
use Rattle.berge_tree.specs.Equalities.{place, same_place, merged, classes_from, class_of, places_of, HasNoCycle}
use Rattle.berge_tree.specs.Rooted.{class_columns, member_places, member_entries, AreItsColumns, AreItsOthers, FollowsBelow, FollowsWithin}
use Rattle.berge_tree.specs.Walk.{is_before, Ascend, AreSortedColumnsOf, is_column_above, is_column_below, is_other_of_class, joined_members, members_with, classes_with, classes_below, HaveOthers}
use Rattle.berge_tree.proofs.NoCycle.{same_place-true}
use Rattle.berge_tree.proofs.Joining.{later_equalities_keep, merge_joins}
use Rattle.berge_tree.proofs.Steps.{same_place-is, none_some, IsReached, avoided, step}
use Rattle.berge_tree.proofs.Separate.{Distinct}
use Rattle.berge_tree.proofs.Listing.{Has, before_cases, by_parts}

abbrev pub Differ : List Edge → Type 0
Differ es = AllByRecursion (λ e. e.left.entry ≢ e.right.entry) es

another_one : (es : List Edge) (h : Place → Place) → Differ es → (p : Place) → Contains (places_of es) p
    → (q : Place) × Contains (places_of es) q × (classes_from h es p ≡ classes_from h es q) × (q ≢ p)
another_one [] h d p k = absurd (not_in_empty p k)
another_one (e ∷ es) h d p k = elim (in_front_or_rest e.left (e.right ∷ places_of es) p k) [
  | inr is ↦ (
    e.right,
    in_rest e.left (e.right ∷ places_of es) e.right (in_front e.right (places_of es) e.right refl),
    later_equalities_keep es (merged h e.left e.right) p e.right (ap (merged h e.left e.right) is ∙ merge_joins h e.left e.right),
    λ f. d.0 (ap (λ (u : Place). u.entry) (sym (f ∙ is))),
  )
  | inl old ↦ elim (in_front_or_rest e.right (places_of es) p old) [
    | inr is ↦ (
      e.left,
      in_front e.left (e.right ∷ places_of es) e.left refl,
      later_equalities_keep es (merged h e.left e.right) p e.left (ap (merged h e.left e.right) is ∙ sym (merge_joins h e.left e.right)),
      λ f. d.0 (ap (λ (u : Place). u.entry) (f ∙ is)),
    )
    | inl older ↦
        let rest : (q : Place) × Contains (places_of es) q × (classes_from h (e ∷ es) p ≡ classes_from h (e ∷ es) q) × (q ≢ p) = another_one es (merged h e.left e.right) d.1 p older in
        (rest.0, in_rest e.left (e.right ∷ places_of es) rest.0 (in_rest e.right (places_of es) rest.0 rest.1), rest.2, rest.3)
  ]
]

-- ---- properties of sorted lists that a filter keeps

filter_all : (Q : Column → Type 0) (test : Column → Bool) (cs : List Column) → AllByRecursion Q cs → AllByRecursion Q (filter test cs)
filter_all Q test [] h = tt
filter_all Q test (c ∷ cs) h = elim (cases_Bool (test c)) [
  | inl t ↦ rw t (h.0, filter_all Q test cs h.1)
  | inr n ↦ rw n (filter_all Q test cs h.1)
]

filter_ascend : (test : Column → Bool) (cs : List Column) → Ascend cs → Ascend (filter test cs)
filter_ascend test [] h = tt
filter_ascend test (c ∷ cs) h = elim (cases_Bool (test c)) [
  | inl t ↦ rw t (filter_all (λ d. is_before c.place d.place ≡ true) test cs h.0, filter_ascend test cs h.1)
  | inr n ↦ rw n (filter_ascend test cs h.1)
]

pub filter_some : (test : Column → Bool) (cs : List Column) (x : Column) → Contains (filter test cs) x → Contains cs x × (test x ≡ true)
filter_some test [] x = λ k. absurd (not_in_empty x k)
filter_some test (c ∷ cs) x = elim (cases_Bool (test c)) [
  | inl t ↦ rw t (λ k. elim (in_front_or_rest c (filter test cs) x k) [
    | inl old ↦ (in_rest c cs x (filter_some test cs x old).0, (filter_some test cs x old).1)
    | inr is ↦ (in_front c cs x is, ap test is ∙ t)
  ])
  | inr n ↦ rw n (λ k. (in_rest c cs x (filter_some test cs x k).0, (filter_some test cs x k).1))
]

pub filter_in : (test : Column → Bool) (cs : List Column) (x : Column) → Contains cs x → test x ≡ true → Contains (filter test cs) x
filter_in test [] x k h = absurd (not_in_empty x k)
filter_in test (c ∷ cs) x k h = elim (in_front_or_rest c cs x k) [
  | inl old ↦ elim (cases_Bool (test c)) [
    | inl t ↦ rw t (in_rest c (filter test cs) x (filter_in test cs x old h))
    | inr n ↦ rw n (filter_in test cs x old h)
  ]
  | inr is ↦ rw (ap test (sym is) ∙ h) (in_front c (filter test cs) x is)
]

mapped : (f : Column → ℕ) (n : ℕ) (cs : List Column) → AllByRecursion (λ d. n < f d) cs → AllByRecursion (λ y. n < y) (map f cs)
mapped f n [] h = tt
mapped f n (c ∷ cs) h = (h.0, mapped f n cs h.1)

columns_increase : (y : ℕ) (cs : List Column) → Ascend cs → AllByRecursion (λ c. c.place.entry ≡ y) cs → IsStrictlyIncreasing (map (λ (c : Column). c.place.column) cs)
columns_increase y [] h at = λ k l. absurd (omega (arith, l))
columns_increase y (c ∷ cs) h at = increasing_with_front c.place.column (map (λ (d : Column). d.place.column) cs) (mapped (λ d. d.place.column) c.place.column cs (greater cs h.0 at.1)) (columns_increase y cs h.1 at.1)
  where
    greater : (ds : List Column) → AllByRecursion (λ d. is_before c.place d.place ≡ true) ds → AllByRecursion (λ d. d.place.entry ≡ y) ds → AllByRecursion (λ d. c.place.column < d.place.column) ds
    greater [] k m = tt
    greater (d ∷ ds) k m = (elim (before_cases c.place d.place k.0) [ inl less ↦ absurd (omega (arith, less, at.0, m.0)) | inr same ↦ same.1 ], greater ds k.1 m.1)

entries_increase : (cs : List Column) → Ascend cs → ((c d : Column) → Contains cs c → Contains cs d → c.place.entry ≡ d.place.entry → c.place ≡ d.place) → IsStrictlyIncreasing (map (λ (c : Column). c.place.entry) cs)
entries_increase [] h one = λ k l. absurd (omega (arith, l))
entries_increase (c ∷ cs) h one =
    increasing_with_front c.place.entry (map (λ (d : Column). d.place.entry) cs) (mapped (λ d. d.place.entry) c.place.entry cs (greater cs h.0 (λ d k. one c d (in_front c cs c refl) (in_rest c cs d k))))
    (entries_increase cs h.1 (λ a b j k. one a b (in_rest c cs a j) (in_rest c cs b k)))
  where
    greater : (ds : List Column) → AllByRecursion (λ d. is_before c.place d.place ≡ true) ds → ((d : Column) → Contains ds d → c.place.entry ≡ d.place.entry → c.place ≡ d.place) → AllByRecursion (λ d. c.place.entry < d.place.entry) ds
    greater [] k m = tt
    greater (d ∷ ds) k m = (
      elim (before_cases c.place d.place k.0) [
        | inl less ↦ less
        | inr same ↦ (let is : c.place ≡ d.place = m d (in_front d ds d refl) same.0 in absurd (omega (arith, same.1, ap (λ (p : Place). p.column) is)))
      ],
      greater ds k.1 (λ e j. m e (in_rest d ds e j)),
    )

all_columns : (Q : Column → Type 0) (cs : List Column) → ((c : Column) → Contains cs c → Q c) → AllByRecursion Q cs
all_columns Q [] h = tt
all_columns Q (c ∷ cs) h = (h c (in_front c cs c refl), all_columns Q cs (λ d k. h d (in_rest c cs d k)))

in_map : (cs : List Column) (p : Place) → Has cs p → Contains (map (λ (c : Column). c.place) cs) p
in_map [] p h = absurd (not_in_empty h.0 h.1)
in_map (c ∷ cs) p h = elim (in_front_or_rest c cs h.0 h.1) [
  | inl old ↦ in_rest c.place (map (λ (d : Column). d.place) cs) p (in_map cs p (h.0, old, h.2))
  | inr is ↦ in_front c.place (map (λ (d : Column). d.place) cs) p (sym h.2 ∙ ap (λ (d : Column). d.place) is)
]

of_map : (cs : List Column) (p : Place) → Contains (map (λ (c : Column). c.place) cs) p → Has cs p
of_map [] p k = absurd (not_in_empty p k)
of_map (c ∷ cs) p k = elim (in_front_or_rest c.place (map (λ (d : Column). d.place) cs) p k) [
  | inl old ↦ let rest : Has cs p = of_map cs p old in (rest.0, in_rest c cs rest.0 rest.1, rest.2)
  | inr is ↦ (c, in_front c cs c refl, sym is)
]

number_in : (cs : List Column) (p : Place) → Has cs p → Contains (map (λ (c : Column). c.place.column) cs) p.column
number_in [] p h = absurd (not_in_empty h.0 h.1)
number_in (c ∷ cs) p h = elim (in_front_or_rest c cs h.0 h.1) [
  | inl old ↦ in_rest c.place.column (map (λ (d : Column). d.place.column) cs) p.column (number_in cs p (h.0, old, h.2))
  | inr is ↦ in_front c.place.column (map (λ (d : Column). d.place.column) cs) p.column (ap (λ (u : Place). u.column) (sym h.2 ∙ ap (λ (d : Column). d.place) is))
]

of_number : (cs : List Column) (n : ℕ) → Contains (map (λ (c : Column). c.place.column) cs) n → (c : Column) × Contains cs c × (c.place.column ≡ n)
of_number [] n k = absurd (not_in_empty n k)
of_number (c ∷ cs) n k = elim (in_front_or_rest c.place.column (map (λ (d : Column). d.place.column) cs) n k) [
  | inl old ↦ let rest : (d : Column) × Contains cs d × (d.place.column ≡ n) = of_number cs n old in (rest.0, in_rest c cs rest.0 rest.1, rest.2)
  | inr is ↦ (c, in_front c cs c refl, sym is)
]

entries_are : (ms : Members) → map (λ (p : Place). p.entry) (member_places ms) ≡ member_entries ms
entries_are (one_member entry column below) = refl
entries_are (and_member entry column below rest) = ap (λ xs. entry ∷ xs) (entries_are rest)

map_map : (cs : List Column) → map (λ (p : Place). p.entry) (map (λ (c : Column). c.place) cs) ≡ map (λ (c : Column). c.place.entry) cs
map_map [] = refl
map_map (c ∷ cs) = ap (λ xs. c.place.entry ∷ xs) (map_map cs)

-- ---- true and false results of the walk's tests

above_false : (above : Option ℕ) (c : ℕ) → is_column_above above c ≡ false → above ≢ Some c
above_false None c e f = none_some c f
above_false (Some a) c e f = false≢true (sym e ∙ eq-eqb a c (of_some a c f))
  where
    of_some : (a b : ℕ) → Some a ≡ Some b → a ≡ b
    of_some a b e = sym (subst (λ o. or_a o ≡ a) e refl_a)
      where
        or_a : Option ℕ → ℕ
        or_a None = a
        or_a (Some d) = d

        refl_a : a ≡ a
        refl_a = refl

above_not : (above : Option ℕ) (c : ℕ) → above ≢ Some c → is_column_above above c ≡ false
above_not None c e = refl
above_not (Some a) c e = elim (cases_Bool (eqb a c)) [ inl t ↦ absurd (e (ap (λ (n : ℕ). Some n) (eqb-true a c t))) | inr n ↦ n ]

module _ (es : List Edge) (nc : HasNoCycle (class_of es)) (differ : Differ es) (columns : List Column) (are : AreSortedColumnsOf es columns) where
  at_some : (y : ℕ) (above : Option ℕ) (c : Column) → Contains (filter (is_column_below y above) columns) c → Contains columns c × (c.place.entry ≡ y) × (above ≢ Some c.place.column)
  at_some y above c k =
      let g : Contains columns c × (is_column_below y above c ≡ true) = filter_some (is_column_below y above) columns c k in
      let t : (eqb c.place.entry y ≡ true) × (not (is_column_above above c.place.column) ≡ true) = and_parts (eqb c.place.entry y) (not (is_column_above above c.place.column)) g.1 in
      (g.0, eqb-true c.place.entry y t.0, above_false above c.place.column (not-true (is_column_above above c.place.column) t.1))

  at_all : (y : ℕ) (above : Option ℕ) (p : Place) → Contains (places_of es) p → p.entry ≡ y → above ≢ Some p.column → Has (filter (is_column_below y above) columns) p
  at_all y above p k at off =
      let h : Has columns p = are.all p k in (
        h.0,
        filter_in (is_column_below y above) columns h.0 h.1
            (and_from (eqb h.0.place.entry y) (not (is_column_above above h.0.place.column)) (eq-eqb h.0.place.entry y (ap (λ (u : Place). u.entry) h.2 ∙ at))
            (not_from_false (is_column_above above h.0.place.column) (above_not above h.0.place.column (λ is. off (is ∙ ap (λ (u : Place). Some u.column) h.2))))),
        h.2,
      )

  its_columns : (y : ℕ) (above : Option ℕ) → AreItsColumns es y above (map (λ (c : Column). c.place.column) (filter (is_column_below y above) columns))
  its_columns y above = record {
    ascending = columns_increase y (filter (is_column_below y above) columns) (filter_ascend (is_column_below y above) columns are.ascend)
        (all_columns (λ c. c.place.entry ≡ y) (filter (is_column_below y above) columns) (λ c k. (at_some y above c k).1));
    some = λ n k.
        let c : (c : Column) × Contains (filter (is_column_below y above) columns) c × (c.place.column ≡ n) = of_number (filter (is_column_below y above) columns) n k in
        let g : Contains columns c.0 × (c.0.place.entry ≡ y) × (above ≢ Some c.0.place.column) = at_some y above c.0 c.1 in
        (subst (Contains (places_of es)) (by_parts c.0.place (place y n) g.1 c.2) (are.named c.0 g.0).0, subst (λ m. above ≢ Some m) c.2 g.2);
    all = λ n k off. number_in (filter (is_column_below y above) columns) (place y n) (at_all y above (place y n) k refl off);
  }

  other_some : (c d : Column) → Contains columns c → Contains (filter (is_other_of_class c) columns) d → Contains columns d × (class_of es c.place ≡ class_of es d.place) × (d.place ≢ c.place)
  other_some c d c_in k =
      let g : Contains columns d × (is_other_of_class c d ≡ true) = filter_some (is_other_of_class c) columns d k in
      let t : (same_place c.class d.class ≡ true) × (not (same_place c.place d.place) ≡ true) = and_parts (same_place c.class d.class) (not (same_place c.place d.place)) g.1 in (
        g.0,
        sym (are.named c c_in).1 ∙ same_place-true c.class d.class t.0 ∙ (are.named d g.0).1,
        λ is. false≢true (sym (not-true (same_place c.place d.place) t.1) ∙ same_place-is c.place d.place (sym is)),
      )

  other_all : (c : Column) → Contains columns c → (q : Place) → Contains (places_of es) q → class_of es c.place ≡ class_of es q → q ≢ c.place → Has (filter (is_other_of_class c) columns) q
  other_all c c_in q k e ne =
      let h : Has columns q = are.all q k in (
        h.0,
        filter_in (is_other_of_class c) columns h.0 h.1
            (and_from (same_place c.class h.0.class) (not (same_place c.place h.0.place))
            (same_place-is c.class h.0.class ((are.named c c_in).1 ∙ e ∙ ap (class_of es) (sym h.2) ∙ sym (are.named h.0 h.1).1))
            (not_from_false (same_place c.place h.0.place) (off h.0 (λ is. ne (sym h.2 ∙ sym is))))),
        h.2,
      )
    where
      off : (d : Column) → c.place ≢ d.place → same_place c.place d.place ≡ false
      off d apart = elim (cases_Bool (same_place c.place d.place)) [ inl t ↦ absurd (apart (same_place-true c.place d.place t)) | inr n ↦ n ]

  its_others : (c : Column) → Contains columns c → (ms : Members) → member_places ms ≡ map (λ (d : Column). d.place) (filter (is_other_of_class c) columns) → AreItsOthers es c.place ms
  its_others c c_in ms is = record {
    ascending = subst IsStrictlyIncreasing (sym (map_map (filter (is_other_of_class c) columns)) ∙ ap (map (λ (p : Place). p.entry)) (sym is) ∙ entries_are ms)
        (entries_increase (filter (is_other_of_class c) columns) (filter_ascend (is_other_of_class c) columns are.ascend)
        (λ a b j k same. nc.one_column a.place b.place (sym (other_some c a c_in j).1 ∙ (other_some c b c_in k).1) same));
    some = λ q k.
        let h : Has (filter (is_other_of_class c) columns) q = of_map (filter (is_other_of_class c) columns) q (subst (λ ps. Contains ps q) is k) in
        let o : Contains columns h.0 × (class_of es c.place ≡ class_of es h.0.place) × (h.0.place ≢ c.place) = other_some c h.0 c_in h.1 in
        (subst (Contains (places_of es)) h.2 (are.named h.0 o.0).0, o.1 ∙ ap (class_of es) h.2, λ e. o.2 (h.2 ∙ e));
    all = λ q k e ne. subst (λ ps. Contains ps q) (sym is) (in_map (filter (is_other_of_class c) columns) q (other_all c c_in q k e ne));
  }

  pub have_others : HaveOthers columns
  have_others c c_in none =
      let a : (q : Place) × Contains (places_of es) q × (class_of es c.place ≡ class_of es q) × (q ≢ c.place) = another_one es (λ u. u) differ c.place (are.named c c_in).0 in
      let h : Has (filter (is_other_of_class c) columns) a.0 = other_all c c_in a.0 a.1 a.2 a.3 in
      not_in_empty h.0 (subst (λ cs. Contains cs h.0) none h.1)

-- ---- members and classes from lists

record IsWalkedBelow (es : List Edge) (q : Place) (below : Classes) : Type 0 where
  columns : AreItsColumns es q.entry (Some q.column) (class_columns below)
  follows : FollowsBelow es q.entry below

abbrev Made : List Edge → (Column → Classes) → List Column → Type 0
Made es below cs = (ms : Members) × (members_with below cs ≡ Some ms) × (member_places ms ≡ map (λ (c : Column). c.place) cs) × FollowsWithin es ms

made : (es : List Edge) (below : Column → Classes) (c : Column) (cs : List Column) → ((d : Column) → Contains (c ∷ cs) d → IsWalkedBelow es d.place (below d)) → Made es below (c ∷ cs)
made es below c [] good =
    let g : IsWalkedBelow es c.place (below c) = good c (in_front c [] c refl) in
    (one_member c.place.entry c.place.column (below c), refl, refl, (g.columns, g.follows))
made es below c (d ∷ ds) good =
    let g : IsWalkedBelow es c.place (below c) = good c (in_front c (d ∷ ds) c refl) in
    let rest : Made es below (d ∷ ds) = made es below d ds (λ e k. good e (in_rest c (d ∷ ds) e k)) in
    (and_member c.place.entry c.place.column (below c) rest.0, ap (joined_members c.place.entry c.place.column (below c)) rest.1, ap (λ ps. c.place ∷ ps) rest.2, (g.columns, g.follows, rest.3))

made_some : (es : List Edge) (below : Column → Classes) (cs : List Column) → cs ≢ [] → ((d : Column) → Contains cs d → IsWalkedBelow es d.place (below d)) → Made es below cs
made_some es below [] some good = absurd (some refl)
made_some es below (c ∷ cs) some good = made es below c cs good

record IsMade (es : List Edge) (p : Place) (found : Option Members) : Type 0 where
  members : Members
  is : found ≡ Some members
  others : AreItsOthers es p members
  follows : FollowsWithin es members

classes_made : (es : List Edge) (y : ℕ) (members : Column → Option Members) (cs : List Column) → ((c : Column) → Contains cs c → c.place.entry ≡ y) → ((c : Column) → Contains cs c → IsMade es c.place (members c))
    → (class_columns (classes_with members cs) ≡ map (λ (c : Column). c.place.column) cs) × FollowsBelow es y (classes_with members cs)
classes_made es y members [] at good = (refl, tt)
classes_made es y members (c ∷ cs) at good =
    let g : IsMade es c.place (members c) = good c (in_front c cs c refl) in
    let rest : (class_columns (classes_with members cs) ≡ map (λ (c : Column). c.place.column) cs) × FollowsBelow es y (classes_with members cs) = classes_made es y members cs (λ d k. at d (in_rest c cs d k)) (λ d k. good d (in_rest c cs d k)) in
    let c_is : c.place ≡ place y c.place.column = by_parts c.place (place y c.place.column) (at c (in_front c cs c refl)) refl in
    rw g.is (ap (λ ns. c.place.column ∷ ns) rest.0, (subst (λ u. AreItsOthers es u g.members) c_is g.others, g.follows, rest.1))

-- ---- a depth of sixteen is enough

apart : (x : ℕ) (xs : List ℕ) → AllByRecursion (λ y. x ≢ y) xs → AllByRecursion (λ y. eqb x y ≡ false) xs
apart x [] h = tt
apart x (y ∷ ys) h = (elim (cases_Bool (eqb x y)) [ inl t ↦ absurd (h.0 (eqb-true x y t)) | inr n ↦ n ], apart x ys h.1)

distinct : (xs : List ℕ) → Distinct xs → IsDistinct eqb xs
unfolding IsDistinct
distinct [] h = tt
distinct (x ∷ xs) h = (apart x xs h.0, distinct xs h.1)

below_all : (n : ℕ) (xs : List ℕ) → AllByRecursion (λ x. x < n) xs → (q : ℕ) → list_any (eqb q) xs ≡ true → q < n
below_all n [] h q = λ e. absurd (false≢true e)
below_all n (x ∷ xs) h q = elim (cases_Bool (eqb q x)) [
  | inl t ↦ (λ e. subst (λ z. z < n) (sym (eqb-true q x t)) h.0)
  | inr m ↦ rw m (λ e. below_all n xs h.1 q e)
]

pub distinct_below_at_most : (n : ℕ) (xs : List ℕ) → Distinct xs → AllByRecursion (λ x. x < n) xs → length xs ≤ n
distinct_below_at_most n xs d h = length-le_from_distinct_below xs n (distinct xs d) (below_all n xs h)

not_in : (y : ℕ) (xs : List ℕ) → (Contains xs y → ⊥) → AllByRecursion (λ x. y ≢ x) xs
not_in y [] h = tt
not_in y (x ∷ xs) h = (λ is. h (in_front x xs y is), not_in y xs (λ k. h (in_rest x xs y k)))

module _ (es : List Edge) (nc : HasNoCycle (class_of es)) (differ : Differ es) (columns : List Column) (are : AreSortedColumnsOf es columns) (n : ℕ) (small : (p : Place) → Contains (places_of es) p → p.entry < n) where
  level : (depth : ℕ) (y : ℕ) (above : Option ℕ)
      → ((c : Column) → Contains columns c → c.place.entry ≡ y → above ≢ Some c.place.column → (d : Column) → Contains columns d → class_of es c.place ≡ class_of es d.place → d.place ≢ c.place
      → AreItsColumns es d.place.entry (Some d.place.column) (class_columns (classes_below depth columns d.place.entry (Some d.place.column))) × FollowsBelow es d.place.entry (classes_below depth columns d.place.entry (Some d.place.column)))
      → AreItsColumns es y above (class_columns (classes_below (suc depth) columns y above)) × FollowsBelow es y (classes_below (suc depth) columns y above)
  level depth y above deeper = (subst (AreItsColumns es y above) (sym all.0) (its_columns es nc differ columns are y above), all.1)
    where
      below : Column → Classes
      below d = classes_below depth columns d.place.entry (Some d.place.column)

      members : Column → Option Members
      members c = members_with below (filter (is_other_of_class c) columns)

      good : (c : Column) → Contains (filter (is_column_below y above) columns) c → (d : Column) → Contains (filter (is_other_of_class c) columns) d → IsWalkedBelow es d.place (below d)
      good c k d m =
          let g : Contains columns c × (c.place.entry ≡ y) × (above ≢ Some c.place.column) = at_some es nc differ columns are y above c k in
          let o : Contains columns d × (class_of es c.place ≡ class_of es d.place) × (d.place ≢ c.place) = other_some es nc differ columns are c d g.0 m in
          let e : AreItsColumns es d.place.entry (Some d.place.column) (class_columns (below d)) × FollowsBelow es d.place.entry (below d) = deeper c g.0 g.1 g.2 d o.0 o.1 o.2 in
          record { columns = e.0; follows = e.1 }

      is_made : (c : Column) → Contains (filter (is_column_below y above) columns) c → IsMade es c.place (members c)
      is_made c k =
          let g : Contains columns c × (c.place.entry ≡ y) × (above ≢ Some c.place.column) = at_some es nc differ columns are y above c k in
          let m : Made es below (filter (is_other_of_class c) columns) = made_some es below (filter (is_other_of_class c) columns) (have_others es nc differ columns are c g.0) (good c k) in
          record { members = m.0; is = m.1; others = its_others es nc differ columns are c g.0 m.0 m.2; follows = m.3 }

      all : (class_columns (classes_with members (filter (is_column_below y above) columns)) ≡ map (λ (c : Column). c.place.column) (filter (is_column_below y above) columns)) × FollowsBelow es y (classes_with members (filter (is_column_below y above) columns))
      all = classes_made es y members (filter (is_column_below y above) columns) (λ c k. (at_some es nc differ columns are y above c k).1) is_made

  short : (k : ℕ) → suc k ≤ n → n ≤ k + 0 → ⊥
  short k a b = omega (arith, a, b)

  less_left : (k depth : ℕ) → n ≤ k + suc depth → n ≤ suc k + depth
  less_left k depth h = omega (arith, h)

  -- each step of the walk leads to an entry that isn't among the entries above it, so `depth` is never used up
  pub walked_follows : (depth : ℕ) (P : List ℕ) (y : ℕ) (above : Option ℕ) → IsReached (class_of es) P y above → Distinct P → AllByRecursion (λ x. x < n) P → y < n → n ≤ length P + depth
      → AreItsColumns es y above (class_columns (classes_below depth columns y above)) × FollowsBelow es y (classes_below depth columns y above)
  walked_follows zero P y above reached d low y_low enough =
      absurd (short (length P) (distinct_below_at_most n (y ∷ P) (not_in y P (avoided (class_of es) P y above reached), d) (y_low, low)) enough)
  walked_follows (suc depth) P y above reached d low y_low enough =
      level depth y above (λ c c_in c_at c_off e e_in same ne.
      walked_follows depth (y ∷ P) e.place.entry (Some e.place.column) (step (class_of es) nc P y above reached c.place e.place c_at c_off same ne)
      (not_in y P (avoided (class_of es) P y above reached), d) (y_low, low) (small e.place (are.named e e_in).0) (less_left (length P) depth enough))
