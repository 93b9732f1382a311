-- Suppose that equalities close no cycle, and that each row in a family of lists has a match across each equality of its entry. Then each row extends
-- to a choice for all connected entries. A match (a partner) of a row is a row of the other list that an equality joins with it.
use Rattle.std.proofs.Common.{◌≡◌, ℕ, Bool, true, eqb, List, [], ◌∷◌, refl, ap, sym, ◌∙◌, subst, inl, inr}
use Rattle.std.specs.Prelude.{◌⊎◌, if◌then◌else◌}
use Rattle.std.specs.List.{AllByRecursion, Contains}
use Rattle.std.proofs.lemmas.Bool.{cases_eq, eq-eqb, ne_eqb}
use Rattle.berge_tree.specs.declared.edges.Edge.{Edge}
use Rattle.berge_tree.specs.Equalities.{AreApart, ClosesNoCycle, ClosesNoCycleAfter}
use Rattle.join_graph.specs.Kept.{AreConnected}
use Rattle.join_steps.specs.Lists.{list_at}
use Rattle.reduced_scans.specs.Families.{HasPartner, HavePartners}
use Rattle.reduced_scans.proofs.Members.{behind, in_cases, in_front, not_in_none}
use Rattle.set_bounds.proofs.Forests.{onto}
use Rattle.planning.proofs.Components.{ends_in_one_component, component, merged_cases, same_connects}

-- ---- equalities in the order of the induction

earlier_in_onto : (earlier es : List Edge) (e : Edge) → Contains earlier e → Contains (onto earlier es) e
earlier_in_onto earlier [] e has = has
earlier_in_onto earlier (f ∷ es) e has = earlier_in_onto (f ∷ earlier) es e (behind e f earlier has)

pub rest_in_onto : (earlier es : List Edge) (e : Edge) → Contains es e → Contains (onto earlier es) e
rest_in_onto earlier [] e has = absurd (not_in_none e has)
rest_in_onto earlier (f ∷ es) e has = elim (in_cases e f es has) [
  | inl here ↦ earlier_in_onto (f ∷ earlier) es e (in_front e f earlier here)
  | inr there ↦ rest_in_onto (f ∷ earlier) es e there
]

all_of_onto : (P : Edge → Type 0) (earlier es : List Edge) → AllByRecursion P (onto earlier es) → AllByRecursion P earlier × AllByRecursion P es
all_of_onto P earlier [] all = (all, tt)
all_of_onto P earlier (e ∷ es) all = (let parts : AllByRecursion P (e ∷ earlier) × AllByRecursion P es = all_of_onto P (e ∷ earlier) es all in (parts.0.1, (parts.0.0, parts.1)))

pub still_connected : (es : List Edge) (a b : ℕ) → AreConnected es a b → AreConnected (onto [] es) a b
still_connected es a b connected side all = connected side (all_of_onto (λ e. side e.left.entry ≡ side e.right.entry) [] es all).1

module _ (equal : Edge → ℕ → ℕ → Bool) (family : List (List ℕ)) where
  abbrev pub Meet : Edge → Type 0
  Meet e = HavePartners (equal e) (list_at family e.left.entry) (list_at family e.right.entry)
      × HavePartners (λ right left. equal e left right) (list_at family e.right.entry) (list_at family e.left.entry)

  abbrev pub HaveAll : List Edge → Type 0
  HaveAll es = (e : Edge) → Contains es e → Meet e

  abbrev Holds : (ℕ → ℕ) → Edge → Type 0
  Holds row_of e = equal e (row_of e.left.entry) (row_of e.right.entry) ≡ true

  pub record Extends (es : List Edge) (entry row : ℕ) : Type 0 where
    pub row_of : ℕ → ℕ
    pub its_own : row_of entry ≡ row
    pub listed : (other : ℕ) → component es other ≡ component es entry → Contains (list_at family other) (row_of other)
    pub holds : (e : Edge) → Contains es e → component es e.left.entry ≡ component es entry → Holds row_of e

  -- ---- the induction step: one more equality

  -- if the equality joins no entry of the row's component
  untouched : (e : Edge) (es : List Edge) (entry row : ℕ) → Extends es entry row
      → (component es entry ≡ component es e.left.entry → ⊥) → (component es entry ≡ component es e.right.entry → ⊥) → Extends (e ∷ es) entry row
  untouched e es entry row f not_left not_right = record {
    row_of = f.row_of;
    its_own = f.its_own;
    listed = λ other same. f.listed other (stays other same);
    holds = λ g has same. elim (in_cases g e es has) [
      | inl here ↦ absurd (not_left (sym (stays e.left.entry (subst (λ (k : Edge). component (e ∷ es) k.left.entry ≡ component (e ∷ es) entry) (sym here) same))))
      | inr there ↦ f.holds g there (stays g.left.entry same)
    ];
  }
    where
      stays : (other : ℕ) → component (e ∷ es) other ≡ component (e ∷ es) entry → component es other ≡ component es entry
      stays other same = elim (merged_cases (component es e.left.entry) (component es e.right.entry) (component es other) (component es entry) same) [
        | inl one ↦ one
        | inr sides ↦ elim sides [
          | inl there ↦ absurd (not_right there.1)
          | inr back ↦ absurd (not_left back.1)
        ]
      ]

  -- if the equality joins the row's component with another component
  module _ (e : Edge) (es : List Edge) (entry row near far partner : ℕ) (f : Extends es entry row) (g : Extends es far partner)
      (at_near : component es entry ≡ component es near) (apart : component es near ≡ component es far → ⊥) where
    abbrev both : ℕ → ℕ
    both x = if eqb (component es x) (component es far) then g.row_of x else f.row_of x

    on_far : (x : ℕ) → component es x ≡ component es far → both x ≡ g.row_of x
    on_far x there = rw (eq-eqb (component es x) (component es far) there) refl

    on_near : (x : ℕ) → component es x ≡ component es near → both x ≡ f.row_of x
    on_near x here = rw (ne_eqb (component es x) (component es far) (λ there. apart (sym here ∙ there))) refl

    glued : ((other : ℕ) → component (e ∷ es) other ≡ component (e ∷ es) entry → (component es other ≡ component es near) ⊎ (component es other ≡ component es far))
        → Holds both e → Extends (e ∷ es) entry row
    glued tell meets = record {
      row_of = both;
      its_own = on_near entry at_near ∙ f.its_own;
      listed = λ other same. elim (tell other same) [
        | inl here ↦ subst (Contains (list_at family other)) (sym (on_near other here)) (f.listed other (here ∙ sym at_near))
        | inr there ↦ subst (Contains (list_at family other)) (sym (on_far other there)) (g.listed other there)
      ];
      holds = λ k has same. elim (in_cases k e es has) [
        | inl first ↦ subst (Holds both) first meets
        | inr later ↦ elim (tell k.left.entry same) [
          | inl here ↦ (let also : component es k.right.entry ≡ component es near = sym (ends_in_one_component es k later) ∙ here in
              ap (λ (n : ℕ). equal k n (both k.right.entry)) (on_near k.left.entry here) ∙ ap (λ (n : ℕ). equal k (f.row_of k.left.entry) n) (on_near k.right.entry also)
              ∙ f.holds k later (here ∙ sym at_near))
          | inr there ↦ (let also : component es k.right.entry ≡ component es far = sym (ends_in_one_component es k later) ∙ there in
              ap (λ (n : ℕ). equal k n (both k.right.entry)) (on_far k.left.entry there) ∙ ap (λ (n : ℕ). equal k (g.row_of k.left.entry) n) (on_far k.right.entry also)
              ∙ g.holds k later there)
        ]
      ];
    }

  one_more : (e : Edge) (es : List Edge) → AreApart es e.left.entry e.right.entry → Meet e → ((entry row : ℕ) → Contains (list_at family entry) row → Extends es entry row)
      → (entry row : ℕ) → Contains (list_at family entry) row → Extends (e ∷ es) entry row
  one_more e es none have rest entry row listed = elim (cases_eq (component es entry) (component es e.left.entry)) [
    | inl at_left ↦ (let partner : HasPartner (equal e) (list_at family e.right.entry) (f.row_of e.left.entry) =
        have.0 (f.row_of e.left.entry) (f.listed e.left.entry (sym at_left)) in
        let g : Extends es e.right.entry partner.0 = rest e.right.entry partner.0 partner.1 in
        glued e es entry row e.left.entry e.right.entry partner.0 f g at_left apart (from_left at_left)
        (ap (λ (n : ℕ). equal e n (both e es entry row e.left.entry e.right.entry partner.0 f g at_left apart e.right.entry))
        (on_near e es entry row e.left.entry e.right.entry partner.0 f g at_left apart e.left.entry refl)
        ∙ ap (λ (n : ℕ). equal e (f.row_of e.left.entry) n) (on_far e es entry row e.left.entry e.right.entry partner.0 f g at_left apart e.right.entry refl ∙ g.its_own)
        ∙ partner.2))
    | inr not_left ↦ elim (cases_eq (component es entry) (component es e.right.entry)) [
      | inl at_right ↦ (let partner : HasPartner (λ right left. equal e left right) (list_at family e.left.entry) (f.row_of e.right.entry) =
          have.1 (f.row_of e.right.entry) (f.listed e.right.entry (sym at_right)) in
          let g : Extends es e.left.entry partner.0 = rest e.left.entry partner.0 partner.1 in
          let apart_too : component es e.right.entry ≡ component es e.left.entry → ⊥ = λ same. apart (sym same) in
          glued e es entry row e.right.entry e.left.entry partner.0 f g at_right apart_too (from_right at_right)
          (ap (λ (n : ℕ). equal e n (both e es entry row e.right.entry e.left.entry partner.0 f g at_right apart_too e.right.entry))
          (on_far e es entry row e.right.entry e.left.entry partner.0 f g at_right apart_too e.left.entry refl ∙ g.its_own)
          ∙ ap (λ (n : ℕ). equal e partner.0 n) (on_near e es entry row e.right.entry e.left.entry partner.0 f g at_right apart_too e.right.entry refl)
          ∙ partner.2))
      | inr not_right ↦ untouched e es entry row f not_left not_right
    ]
  ]
    where
      apart : component es e.left.entry ≡ component es e.right.entry → ⊥
      apart same = none.across (same_connects es e.left.entry e.right.entry same none.side none.together)

      f : Extends es entry row
      f = rest entry row listed

      from_left : component es entry ≡ component es e.left.entry → (other : ℕ) → component (e ∷ es) other ≡ component (e ∷ es) entry
          → (component es other ≡ component es e.left.entry) ⊎ (component es other ≡ component es e.right.entry)
      from_left at other same = elim (merged_cases (component es e.left.entry) (component es e.right.entry) (component es other) (component es entry) same) [
        | inl one ↦ inl (one ∙ at)
        | inr sides ↦ elim sides [
          | inl there ↦ inl there.0
          | inr back ↦ inr back.0
        ]
      ]

      from_right : component es entry ≡ component es e.right.entry → (other : ℕ) → component (e ∷ es) other ≡ component (e ∷ es) entry
          → (component es other ≡ component es e.right.entry) ⊎ (component es other ≡ component es e.left.entry)
      from_right at other same = elim (merged_cases (component es e.left.entry) (component es e.right.entry) (component es other) (component es entry) same) [
        | inl one ↦ inl (one ∙ at)
        | inr sides ↦ elim sides [
          | inl there ↦ inr there.0
          | inr back ↦ inl back.0
        ]
      ]

  extended_from : (earlier es : List Edge) → ClosesNoCycleAfter earlier es → HaveAll es → ((entry row : ℕ) → Contains (list_at family entry) row → Extends earlier entry row)
      → (entry row : ℕ) → Contains (list_at family entry) row → Extends (onto earlier es) entry row
  extended_from earlier [] none have rest = rest
  extended_from earlier (e ∷ es) none have rest =
      extended_from (e ∷ earlier) es none.1 (λ k has. have k (behind k e es has)) (one_more e earlier none.0 (have e (in_front e e es refl)) rest)

  extends_itself : (entry row : ℕ) → Contains (list_at family entry) row → Extends [] entry row
  extends_itself entry row listed = record {
    row_of = λ x. row;
    its_own = refl;
    listed = λ other same. subst (λ (k : ℕ). Contains (list_at family k) row) (sym same) listed;
    holds = λ e has same. absurd (not_in_none e has);
  }

  pub extended : (es : List Edge) → ClosesNoCycle es → HaveAll es → (entry row : ℕ) → Contains (list_at family entry) row → Extends (onto [] es) entry row
  extended es none have = extended_from [] es none have extends_itself
