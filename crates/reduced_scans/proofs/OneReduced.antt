-- There is at most one reduced family.
use Rattle.std.proofs.Common.{◌≡◌, ℕ, suc, Bool, ◌<◌, List, [], ◌∷◌, length, refl, sym, ◌∙◌, arith, inl, inr}
use Rattle.std.specs.List.{Contains}
use Rattle.berge_tree.specs.declared.edges.Edge.{Edge}
use Rattle.join_steps.specs.Lists.{IsAscending, list_at}
use Rattle.reduced_scans.specs.Families.{IsReduced}
use Rattle.reduced_scans.proofs.Members.{not_in_none, in_front, behind, in_cases, all_has}

pub same_members : (a b : List ℕ) → IsAscending a → IsAscending b → ((x : ℕ) → Contains a x → Contains b x) → ((x : ℕ) → Contains b x → Contains a x) → a ≡ b
same_members [] [] p q f g = refl
same_members [] (y ∷ b) p q f g = absurd (not_in_none y (g y (in_front y y b refl)))
same_members (x ∷ a) [] p q f g = absurd (not_in_none x (f x (in_front x x a refl)))
same_members (x ∷ a) (y ∷ b) p q f g =
    let first : x ≡ y = elim (in_cases x y b (f x (in_front x x a refl))) [
      | inl same ↦ sym same
      | inr later ↦ elim (in_cases y x a (g y (in_front y y b refl))) [
        | inl same ↦ same
        | inr after ↦ absurd (omega (arith, all_has (λ r. y < r) b x q.0 later, all_has (λ r. x < r) a y p.0 after))
      ]
    ] in
    let rest : a ≡ b = same_members a b p.1 q.1
    (λ z has. elim (in_cases z y b (f z (behind z x a has))) [
      | inl here ↦ absurd (omega (arith, all_has (λ r. x < r) a z p.0 has))
      | inr there ↦ there
    ])
    (λ z has. elim (in_cases z x a (g z (behind z y b has))) [
      | inl here ↦ absurd (omega (arith, all_has (λ r. y < r) b z q.0 has))
      | inr there ↦ there
    ]) in
    rw (first, rest) refl

pub same_lists : (a b : List (List ℕ)) → length a ≡ length b → ((e : ℕ) → list_at a e ≡ list_at b e) → a ≡ b
same_lists [] [] size each = refl
same_lists [] (y ∷ b) size each = absurd (omega arith)
same_lists (x ∷ a) [] size each = absurd (omega arith)
same_lists (x ∷ a) (y ∷ b) size each =
    let first : x ≡ y = each 0 in
    let rest : a ≡ b = same_lists a b (omega arith) (λ e. each (suc e)) in
    rw (first, rest) refl

pub one_reduced : (scans : List (List ℕ)) (equalities : List Edge) (equal : Edge → ℕ → ℕ → Bool) (a b : List (List ℕ)) → IsReduced scans equalities equal a → IsReduced scans equalities equal b → a ≡ b
one_reduced scans equalities equal a b p q = same_lists a b (p.consistent.is_family.count ∙ sym q.consistent.is_family.count)
    (λ e. same_members (list_at a e) (list_at b e) (p.consistent.is_family.ascending e) (q.consistent.is_family.ascending e) (λ row. q.greatest a p.consistent e row) (λ row. p.greatest b q.consistent e row))
