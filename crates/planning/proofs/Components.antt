-- Each entry gets the number of its component. Two entries have the same number exactly if equalities connect them.
use Rattle.std.proofs.Common.{◌≡◌, ℕ, Bool, eqb, List, [], ◌∷◌, refl, ap, sym, ◌∙◌, subst, inl, inr}
use Rattle.std.specs.Prelude.{◌⊎◌, if◌then◌else◌}
use Rattle.std.specs.List.{Contains}
use Rattle.std.proofs.lemmas.Bool.{cases_eq, eq-eqb, eqb-true, ne_eqb}
use Rattle.berge_tree.specs.declared.edges.Edge.{Edge}
use Rattle.level_bounds.proofs.Lists.{from_members}
use Rattle.reduced_scans.proofs.Members.{in_cases, not_in_none}
use Rattle.join_graph.specs.Kept.{AreConnected}

abbrev pub merged : ℕ → ℕ → ℕ → ℕ
merged left right n = if eqb n right then left else n

abbrev pub component : List Edge → ℕ → ℕ
component [] x = x
component (e ∷ es) x = merged (component es e.left.entry) (component es e.right.entry) (component es x)

pub merged_there : (left right n : ℕ) → n ≡ right → merged left right n ≡ left
merged_there left right n here = rw (eq-eqb n right here) refl

pub merged_other : (left right n : ℕ) → (n ≡ right → ⊥) → merged left right n ≡ n
merged_other left right n apart = rw (ne_eqb n right apart) refl

merged_left : (left right : ℕ) → merged left right left ≡ left
merged_left left right = elim (cases_eq left right) [
  | inl same ↦ merged_there left right left same
  | inr apart ↦ merged_other left right left apart
]

pub merged_cases : (left right n m : ℕ) → merged left right n ≡ merged left right m
    → (n ≡ m) ⊎ (((n ≡ left) × (m ≡ right)) ⊎ ((n ≡ right) × (m ≡ left)))
merged_cases left right n m same = elim (cases_eq n right) [
  | inl n_there ↦ elim (cases_eq m right) [
    | inl m_there ↦ inl (n_there ∙ sym m_there)
    | inr m_other ↦ inr (inr (n_there, sym (merged_other left right m m_other) ∙ sym same ∙ merged_there left right n n_there))
  ]
  | inr n_other ↦ elim (cases_eq m right) [
    | inl m_there ↦ inr (inl (sym (merged_other left right n n_other) ∙ same ∙ merged_there left right m m_there, m_there))
    | inr m_other ↦ inl (sym (merged_other left right n n_other) ∙ same ∙ merged_other left right m m_other)
  ]
]

pub ends_in_one_component : (es : List Edge) (e : Edge) → Contains es e → component es e.left.entry ≡ component es e.right.entry
ends_in_one_component [] e has = absurd (not_in_none e has)
ends_in_one_component (f ∷ es) e has = elim (in_cases e f es has) [
  | inl here ↦ subst (λ (g : Edge). component (f ∷ es) g.left.entry ≡ component (f ∷ es) g.right.entry) here
      (merged_left (component es f.left.entry) (component es f.right.entry)
      ∙ sym (merged_there (component es f.left.entry) (component es f.right.entry) (component es f.right.entry) refl))
  | inr there ↦ ap (merged (component es f.left.entry) (component es f.right.entry)) (ends_in_one_component es e there)
]

pub connected_same : (es : List Edge) (a b : ℕ) → AreConnected es a b → component es b ≡ component es a
connected_same es a b connected =
    let in_component : ℕ → Bool = λ x. eqb (component es x) (component es a) in
    eqb-true (component es b) (component es a)
    (sym (connected in_component (from_members (λ e. in_component e.left.entry ≡ in_component e.right.entry) es (λ e there. ap (λ (n : ℕ). eqb n (component es a)) (ends_in_one_component es e there))))
    ∙ eq-eqb (component es a) (component es a) refl)

pub same_connects : (es : List Edge) (a b : ℕ) → component es a ≡ component es b → AreConnected es a b
same_connects [] a b same set closed = ap set same
same_connects (e ∷ es) a b same set closed =
    elim (merged_cases (component es e.left.entry) (component es e.right.entry) (component es a) (component es b) same) [
      | inl one ↦ same_connects es a b one set closed.1
      | inr sides ↦ elim sides [
        | inl there ↦ same_connects es a e.left.entry there.0 set closed.1 ∙ closed.0 ∙ sym (same_connects es b e.right.entry there.1 set closed.1)
        | inr back ↦ same_connects es a e.right.entry back.0 set closed.1 ∙ sym closed.0 ∙ sym (same_connects es b e.left.entry back.1 set closed.1)
      ]
    ]
