-- A tree that follows the equalities has no entry twice.
use Rattle.std.proofs.Common.{◌≡◌, ◌≢◌, ℕ, Bool, true, false, not, List, [], ◌∷◌, ◌++◌, ◌<◌, zero, suc, length, get_or, arith, refl, ap, sym, ◌∙◌, subst, inl, inr, Option, Some, None}
use Rattle.std.specs.Prelude.{⊤}
use Rattle.std.specs.List.{Contains, AllByRecursion, AllPairs}
use Rattle.std.proofs.lemmas.List.Kept.{AllPairs-from_increasing}
use Rattle.entry_sets.proofs.Listing.{in_rest, in_front, not_in_empty, in_front_or_rest}
use Rattle.berge_tree.specs.Trees.{Classes, no_class, and_class, Members, one_member, and_member, BergeTree}
use Rattle.berge_tree.specs.Trees.{entries_below, entries_within, entries}
use Rattle.berge_tree.specs.declared.edges.Place.{Place}
use Rattle.berge_tree.specs.declared.edges.Edge.{Edge}
use Rattle.berge_tree.specs.Equalities.{place, class_of, IsBridge}
use Rattle.berge_tree.specs.Rooted.{class_columns, member_places, member_entries, AreItsColumns, FollowsBelow, FollowsWithin}
use Rattle.berge_tree.specs.Equalities.{HasNoCycle}
use Rattle.berge_tree.proofs.Steps.{not_itself, IsReached, root_reached, avoided, off_class, on_other_side, step}

pub all_append : {X : Type 0} (Q : X → Type 0) (xs ys : List X) → AllByRecursion Q xs → AllByRecursion Q ys → AllByRecursion Q (xs ++ ys)
all_append Q [] ys h k = k
all_append Q (x ∷ xs) ys h k = (h.0, all_append Q xs ys h.1 k)

pub all_map : {X : Type 0} (Q R : X → Type 0) → ((x : X) → Q x → R x) → (xs : List X) → AllByRecursion Q xs → AllByRecursion R xs
all_map Q R f [] h = tt
all_map Q R f (x ∷ xs) h = (f x h.0, all_map Q R f xs h.1)

pub later_above : (x : ℕ) (xs : List ℕ) → AllPairs (λ a b. a < b) (x ∷ xs) → (y : ℕ) → Contains xs y → x < y
later_above x xs h y k = subst (λ b. x < b) k.2 (h zero (suc k.0) y (omega arith) (omega (arith, k.1)))

pub pairs_tail : (x : ℕ) (xs : List ℕ) → AllPairs (λ a b. a < b) (x ∷ xs) → AllPairs (λ a b. a < b) xs
pairs_tail x xs h i j d l m = h (suc i) (suc j) d (omega (arith, l)) (omega (arith, m))

abbrev pub Distinct : List ℕ → Type 0
Distinct [] = ⊤
Distinct (x ∷ xs) = AllByRecursion (λ y. x ≢ y) xs × Distinct xs

pub joined_distinct : (side : ℕ → Bool) (v : Bool) (xs ys : List ℕ) → Distinct xs → Distinct ys → AllByRecursion (λ e. side e ≡ v) xs → AllByRecursion (λ e. side e ≡ not v) ys → Distinct (xs ++ ys)
joined_distinct side v [] ys dx dy hx hy = dy
joined_distinct side v (x ∷ xs) ys dx dy hx hy = (
  all_append (λ y. x ≢ y) xs ys dx.0 (all_map (λ e. side e ≡ not v) (λ y. x ≢ y) (λ e h is. not_itself v (sym hx.0 ∙ ap side is ∙ h)) ys hy),
  joined_distinct side v xs ys dx.1 dy hx.1 hy,
)

not_not : (b : Bool) → b ≡ not (not b)
not_not true = refl
not_not false = refl

pub differs : (a b : ℕ) → a < b → b ≡ a → ⊥
differs a b l e = omega (arith, l, e)

pub entry_in : (ms : Members) (q : Place) → Contains (member_places ms) q → Contains (member_entries ms) q.entry
entry_in (one_member entry column below) q k = elim (in_front_or_rest (record { entry = entry; column = column }) [] q k) [
  | inl old ↦ absurd (not_in_empty q old)
  | inr is ↦ in_front entry [] q.entry (ap (λ (u : Place). u.entry) is)
]
entry_in (and_member entry column below rest) q k = elim (in_front_or_rest (record { entry = entry; column = column }) (member_places rest) q k) [
  | inl old ↦ in_rest entry (member_entries rest) q.entry (entry_in rest q old)
  | inr is ↦ in_front entry (member_entries rest) q.entry (ap (λ (u : Place). u.entry) is)
]

-- all columns of a class are on one side, unless an entry of P has a column in the class
abbrev pub ConstOutside : (Place → Place) → List ℕ → (ℕ → Bool) → Type 0
ConstOutside class P side = (u v : Place) → class u ≡ class v → ((p : Place) → Contains P p.entry → class p ≡ class u → ⊥) → side u.entry ≡ side v.entry

module _ (es : List Edge) (nc : HasNoCycle (class_of es)) where
  abbrev AreOff : Option ℕ → Classes → Type 0
  AreOff above cs = (c : ℕ) → Contains (class_columns cs) c → above ≢ Some c

  abbrev AreOthers : Place → Members → Type 0
  AreOthers r ms = (q : Place) → Contains (member_places ms) q → (class_of es r ≡ class_of es q) × (q ≢ r)

  off_rest : (above : Option ℕ) (column : ℕ) (ms : Members) (rest : Classes) → AreOff above (and_class column ms rest) → AreOff above rest
  off_rest above column ms rest off c k = off c (in_rest column (class_columns rest) c k)

  off_below : (entry column : ℕ) (below : Classes) → AreItsColumns es entry (Some column) (class_columns below) → AreOff (Some column) below
  off_below entry column below h c k = (h.some c k).1

  others_rest : (r : Place) (entry column : ℕ) (below : Classes) (rest : Members) → AreOthers r (and_member entry column below rest) → AreOthers r rest
  others_rest r entry column below rest h q k = h q (in_rest (place entry column) (member_places rest) q k)

  next : (P : List ℕ) (y : ℕ) (above : Option ℕ) → IsReached (class_of es) P y above → (r s : Place) → r.entry ≡ y → above ≢ Some r.column → (class_of es r ≡ class_of es s) × (s ≢ r)
      → IsReached (class_of es) (y ∷ P) s.entry (Some s.column)
  next P y above reached r s r_at r_off h = step (class_of es) nc P y above reached r s r_at r_off h.0 h.1

  mutual
    sided_below : (P : List ℕ) (y : ℕ) (above : Option ℕ) → IsReached (class_of es) P y above → (side : ℕ → Bool) → ConstOutside (class_of es) (y ∷ P) side → (v : Bool) → (cs : Classes) → AreOff above cs
        → ((c : ℕ) → Contains (class_columns cs) c → (q : Place) → class_of es (place y c) ≡ class_of es q → q ≢ place y c → side q.entry ≡ v)
        → FollowsBelow es y cs → AllByRecursion (λ e. side e ≡ v) (entries_below cs)
    sided_below P y above reached side const v no_class off same f = tt
    sided_below P y above reached side const v (and_class column members rest) off same f =
        all_append (λ e. side e ≡ v) (entries_within members) (entries_below rest)
        (sided_within P y above reached side const v (place y column) refl (off column (in_front column (class_columns rest) column refl)) members
        (λ q k. ((f.0.some q k).1, (f.0.some q k).2))
        (λ q k. same column (in_front column (class_columns rest) column refl) q (f.0.some q k).1 (f.0.some q k).2) f.1)
        (sided_below P y above reached side const v rest (off_rest above column members rest off) (λ c k. same c (in_rest column (class_columns rest) c k)) f.2)

    sided_within : (P : List ℕ) (y : ℕ) (above : Option ℕ) → IsReached (class_of es) P y above → (side : ℕ → Bool) → ConstOutside (class_of es) (y ∷ P) side → (v : Bool) → (r : Place) → r.entry ≡ y → above ≢ Some r.column
        → (ms : Members) → AreOthers r ms → ((q : Place) → Contains (member_places ms) q → side q.entry ≡ v) → FollowsWithin es ms → AllByRecursion (λ e. side e ≡ v) (entries_within ms)
    sided_within P y above reached side const v r r_at r_off (one_member entry column below) others same f =
        let s : Place = place entry column in
        let at : Contains (s ∷ []) s = in_front s [] s refl in
        let reached_s : IsReached (class_of es) (y ∷ P) entry (Some column) = next P y above reached r s r_at r_off (others s at) in (
          same s at,
          sided_below (y ∷ P) entry (Some column) reached_s side (λ u w e out. const u w e (λ p k g. out p (in_rest entry (y ∷ P) p.entry k) g)) v below
              (off_below entry column below f.0)
              (λ c k q e ne. sym (const (place entry c) q e (λ p m g. reached_s.fresh (place entry c) refl ((f.0.some c k).1) p m g)) ∙ same s at) f.1,
        )
    sided_within P y above reached side const v r r_at r_off (and_member entry column below rest) others same f =
        let s : Place = place entry column in
        let at : Contains (s ∷ member_places rest) s = in_front s (member_places rest) s refl in
        let reached_s : IsReached (class_of es) (y ∷ P) entry (Some column) = next P y above reached r s r_at r_off (others s at) in (
          same s at,
          all_append (λ e. side e ≡ v) (entries_below below) (entries_within rest)
              (sided_below (y ∷ P) entry (Some column) reached_s side (λ u w e out. const u w e (λ p k g. out p (in_rest entry (y ∷ P) p.entry k) g)) v below
              (off_below entry column below f.0)
              (λ c k q e ne. sym (const (place entry c) q e (λ p m g. reached_s.fresh (place entry c) refl ((f.0.some c k).1) p m g)) ∙ same s at) f.1)
              (sided_within P y above reached side const v r r_at r_off rest (others_rest r entry column below rest others) (λ q k. same q (in_rest s (member_places rest) q k)) f.2),
        )

  abbrev Avoids : List ℕ → ℕ → Type 0
  Avoids P e = Contains P e → ⊥

  mutual
    avoid_below : (P : List ℕ) (y : ℕ) (above : Option ℕ) → IsReached (class_of es) P y above → (cs : Classes) → AreOff above cs → FollowsBelow es y cs → AllByRecursion (Avoids (y ∷ P)) (entries_below cs)
    avoid_below P y above reached no_class off f = tt
    avoid_below P y above reached (and_class column members rest) off f =
        all_append (Avoids (y ∷ P)) (entries_within members) (entries_below rest)
        (avoid_within P y above reached (place y column) refl (off column (in_front column (class_columns rest) column refl)) members (λ q k. ((f.0.some q k).1, (f.0.some q k).2)) f.1)
        (avoid_below P y above reached rest (off_rest above column members rest off) f.2)

    avoid_within : (P : List ℕ) (y : ℕ) (above : Option ℕ) → IsReached (class_of es) P y above → (r : Place) → r.entry ≡ y → above ≢ Some r.column → (ms : Members) → AreOthers r ms → FollowsWithin es ms
        → AllByRecursion (Avoids (y ∷ P)) (entries_within ms)
    avoid_within P y above reached r r_at r_off (one_member entry column below) others f =
        let s : Place = place entry column in
        let reached_s : IsReached (class_of es) (y ∷ P) entry (Some column) = next P y above reached r s r_at r_off (others s (in_front s [] s refl)) in (
          avoided (class_of es) (y ∷ P) entry (Some column) reached_s,
          all_map (Avoids (entry ∷ (y ∷ P))) (Avoids (y ∷ P)) (λ e h k. h (in_rest entry (y ∷ P) e k)) (entries_below below)
              (avoid_below (y ∷ P) entry (Some column) reached_s below (off_below entry column below f.0) f.1),
        )
    avoid_within P y above reached r r_at r_off (and_member entry column below rest) others f =
        let s : Place = place entry column in
        let reached_s : IsReached (class_of es) (y ∷ P) entry (Some column) = next P y above reached r s r_at r_off (others s (in_front s (member_places rest) s refl)) in (
          avoided (class_of es) (y ∷ P) entry (Some column) reached_s,
          all_append (Avoids (y ∷ P)) (entries_below below) (entries_within rest)
              (all_map (Avoids (entry ∷ (y ∷ P))) (Avoids (y ∷ P)) (λ e h k. h (in_rest entry (y ∷ P) e k)) (entries_below below)
              (avoid_below (y ∷ P) entry (Some column) reached_s below (off_below entry column below f.0) f.1))
              (avoid_within P y above reached r r_at r_off rest (others_rest r entry column below rest others) f.2),
        )

  not_the_root : (P : List ℕ) (z : ℕ) (xs : List ℕ) → AllByRecursion (Avoids (z ∷ P)) xs → AllByRecursion (λ e. z ≢ e) xs
  not_the_root P z xs h = all_map (Avoids (z ∷ P)) (λ e. z ≢ e) (λ e k is. k (in_front z P e (sym is))) xs h

  mutual
    once_below : (P : List ℕ) (y : ℕ) (above : Option ℕ) → IsReached (class_of es) P y above → (cs : Classes) → AllPairs (λ a b. a < b) (class_columns cs) → AreOff above cs → FollowsBelow es y cs
        → Distinct (entries_below cs)
    once_below P y above reached no_class pairs off f = tt
    once_below P y above reached (and_class column members rest) pairs off f =
        let r : Place = place y column in
        let r_off : above ≢ Some column = off column (in_front column (class_columns rest) column refl) in
        let b : IsBridge (class_of es) r = nc.bridges r in
        let others : AreOthers r members = λ q k. ((f.0.some q k).1, (f.0.some q k).2) in
        let const : ConstOutside (class_of es) (y ∷ P) b.side = λ u v e out. off_class (class_of es) r b u v e (λ is. out r (in_front y P y refl) (sym is)) in
        joined_distinct b.side (not (b.side y)) (entries_within members) (entries_below rest)
        (once_within P y above reached r refl r_off members (AllPairs-from_increasing (member_entries members) f.0.ascending) others f.1)
        (once_below P y above reached rest (pairs_tail column (class_columns rest) pairs) (off_rest above column members rest off) f.2)
        (sided_within P y above reached b.side const (not (b.side y)) r refl r_off members others (λ q k. on_other_side (class_of es) r b q (others q k).0 (others q k).1) f.1)
        (sided_below P y above reached b.side const (not (not (b.side y))) rest (off_rest above column members rest off)
        (λ c k q e ne. sym (off_class (class_of es) r b (place y c) q e
        (λ is. differs (column) c (later_above column (class_columns rest) pairs c k) (ap (λ (u : Place). u.column) (nc.one_column (place y c) r is refl)))) ∙ not_not (b.side y)) f.2)

    once_within : (P : List ℕ) (y : ℕ) (above : Option ℕ) → IsReached (class_of es) P y above → (r : Place) → r.entry ≡ y → above ≢ Some r.column → (ms : Members) → AllPairs (λ a b. a < b) (member_entries ms)
        → AreOthers r ms → FollowsWithin es ms → Distinct (entries_within ms)
    once_within P y above reached r r_at r_off (one_member entry column below) pairs others f =
        let s : Place = place entry column in
        let reached_s : IsReached (class_of es) (y ∷ P) entry (Some column) = next P y above reached r s r_at r_off (others s (in_front s [] s refl)) in (
          not_the_root (y ∷ P) entry (entries_below below) (avoid_below (y ∷ P) entry (Some column) reached_s below (off_below entry column below f.0) f.1),
          once_below (y ∷ P) entry (Some column) reached_s below (AllPairs-from_increasing (class_columns below) f.0.ascending) (off_below entry column below f.0) f.1,
        )
    once_within P y above reached r r_at r_off (and_member entry column below rest) pairs others f =
        let s : Place = place entry column in
        let s_in : (class_of es r ≡ class_of es s) × (s ≢ r) = others s (in_front s (member_places rest) s refl) in
        let reached_s : IsReached (class_of es) (y ∷ P) entry (Some column) = next P y above reached r s r_at r_off s_in in
        let b : IsBridge (class_of es) s = nc.bridges s in
        let others_r : AreOthers r rest = others_rest r entry column below rest others in
        let const : ConstOutside (class_of es) (y ∷ P) b.side = λ u v e out. off_class (class_of es) s b u v e (λ is. out r (in_front y P r.entry r_at) (s_in.0 ∙ sym is)) in
        joined_distinct b.side (b.side entry) (entry ∷ entries_below below) (entries_within rest) (
          not_the_root (y ∷ P) entry (entries_below below) (avoid_below (y ∷ P) entry (Some column) reached_s below (off_below entry column below f.0) f.1),
          once_below (y ∷ P) entry (Some column) reached_s below (AllPairs-from_increasing (class_columns below) f.0.ascending) (off_below entry column below f.0) f.1,
        )
        (once_within P y above reached r r_at r_off rest (pairs_tail entry (member_entries rest) pairs) others_r f.2) (
          refl,
          sided_below (y ∷ P) entry (Some column) reached_s b.side (λ u w e out. const u w e (λ p k g. out p (in_rest entry (y ∷ P) p.entry k) g)) (b.side entry) below
              (off_below entry column below f.0)
              (λ c k q e ne. sym (off_class (class_of es) s b (place entry c) q e
              (λ is. (f.0.some c k).1 (ap (λ (u : Place). Some u.column) (sym (nc.one_column (place entry c) s is refl)))))) f.1,
        )
        (sided_within P y above reached b.side const (not (b.side entry)) r r_at r_off rest others_r
        (λ q k. on_other_side (class_of es) s b q (sym s_in.0 ∙ (others_r q k).0)
        (λ is. differs entry q.entry (later_above entry (member_entries rest) pairs q.entry (entry_in rest q k)) (ap (λ (u : Place). u.entry) is))) f.2)

  pub once_tree : (t : BergeTree) → AreItsColumns es t.root None (class_columns t.below) → FollowsBelow es t.root t.below → Distinct (entries t)
  once_tree t columns f =
      let off : AreOff None t.below = λ c k. (columns.some c k).1 in (
        not_the_root [] t.root (entries_below t.below) (avoid_below [] t.root None (root_reached (class_of es) t.root) t.below off f),
        once_below [] t.root None (root_reached (class_of es) t.root) t.below (AllPairs-from_increasing (class_columns t.below) columns.ascending) off f,
      )

  pub one_side : (t : BergeTree) → AreItsColumns es t.root None (class_columns t.below) → FollowsBelow es t.root t.below
      → (side : ℕ → Bool) → ((u v : Place) → class_of es u ≡ class_of es v → side u.entry ≡ side v.entry) → AllByRecursion (λ e. side e ≡ side t.root) (entries t)
  one_side t columns f side const = (
    refl,
    sided_below [] t.root None (root_reached (class_of es) t.root) side (λ u v e out. const u v e) (side t.root) t.below (λ c k. (columns.some c k).1)
        (λ c k q e ne. sym (const (place t.root c) q e)) f,
  )

at_index : (x : ℕ) (xs : List ℕ) → AllByRecursion (λ y. x ≢ y) xs → (j d : ℕ) → j < length xs → x ≢ get_or xs j d
at_index x [] h j d l = absurd (omega (arith, l))
at_index x (y ∷ ys) h zero d l = h.0
at_index x (y ∷ ys) h (suc j) d l = at_index x ys h.1 j d (omega (arith, l))

pub pairs_from : (xs : List ℕ) → Distinct xs → AllPairs (λ e f. e ≢ f) xs
pairs_from [] h i j d l m = absurd (omega (arith, m))
pairs_from (x ∷ xs) h i zero d l m = absurd (omega (arith, l))
pairs_from (x ∷ xs) h zero (suc j) d l m = at_index x xs h.0 j d (omega (arith, m))
pairs_from (x ∷ xs) h (suc i) (suc j) d l m = pairs_from xs h.1 i j d (omega (arith, l)) (omega (arith, m))
