-- Columns in the same class are joined by the equalities.
use Rattle.std.proofs.Common.{◌≡◌, ℕ, List, [], ◌∷◌, true, false, refl, ap, subst, sym, ◌∙◌, inl, inr}
use Rattle.std.specs.List.{AllByRecursion}
use Rattle.std.proofs.lemmas.Bool.{cases_Bool}
use Rattle.berge_tree.specs.declared.edges.Place.{Place}
use Rattle.berge_tree.specs.declared.edges.Edge.{Edge}
use Rattle.berge_tree.specs.Equalities.{place, same_place, merged, classes_from, class_of, AreInOneClass}
use Rattle.berge_tree.proofs.NoCycle.{same_place-true, merged-yes, merged-no}
use Rattle.berge_tree.proofs.Steps.{same_place-is}

abbrev at_place : (ℕ → ℕ → ℕ) → Place → ℕ
at_place key p = key p.entry p.column

same_key_as_class : (key : ℕ → ℕ → ℕ) (h : Place → Place) → ((p : Place) → at_place key (h p) ≡ at_place key p) → (es : List Edge)
    → AllByRecursion (λ e. key e.left.entry e.left.column ≡ key e.right.entry e.right.column) es → (p : Place) → at_place key (classes_from h es p) ≡ at_place key p
same_key_as_class key h same [] all p = same p
same_key_as_class key h same (e ∷ es) all p = same_key_as_class key (merged h e.left e.right) more es all.1 p
  where
    more : (q : Place) → at_place key (merged h e.left e.right q) ≡ at_place key q
    more q = elim (cases_Bool (same_place (h q) (h e.right))) [
      | inl t ↦ ap (at_place key) (merged-yes same_place h e.left e.right q t) ∙ same e.left ∙ all.0 ∙ sym (same e.right)
          ∙ ap (at_place key) (sym (same_place-true (h q) (h e.right) t)) ∙ same q
      | inr n ↦ ap (at_place key) (merged-no same_place h e.left e.right q n) ∙ same q
    ]

pub same_class_same_keys : (es : List Edge) (p q : Place) → class_of es p ≡ class_of es q → AreInOneClass es p q
same_class_same_keys es p q e key all = sym (same_key_as_class key (λ r. r) (λ r. refl) es all p) ∙ ap (at_place key) e ∙ same_key_as_class key (λ r. r) (λ r. refl) es all q

merged_keeps : (h : Place → Place) (l r x y : Place) → h x ≡ h y → merged h l r x ≡ merged h l r y
merged_keeps h l r x y e = elim (cases_Bool (same_place (h x) (h r))) [
  | inl t ↦ merged-yes same_place h l r x t ∙ sym (merged-yes same_place h l r y (subst (λ u. same_place u (h r) ≡ true) e t))
  | inr n ↦ merged-no same_place h l r x n ∙ e ∙ sym (merged-no same_place h l r y (subst (λ u. same_place u (h r) ≡ false) e n))
]

pub later_equalities_keep : (es : List Edge) (h : Place → Place) (x y : Place) → h x ≡ h y → classes_from h es x ≡ classes_from h es y
later_equalities_keep [] h x y e = e
later_equalities_keep (f ∷ es) h x y e = later_equalities_keep es (merged h f.left f.right) x y (merged_keeps h f.left f.right x y e)

pub merge_joins : (h : Place → Place) (l r : Place) → merged h l r l ≡ merged h l r r
merge_joins h l r = left ∙ sym (merged-yes same_place h l r r (same_place-is (h r) (h r) refl))
  where
    left : merged h l r l ≡ h l
    left = elim (cases_Bool (same_place (h l) (h r))) [ inl t ↦ merged-yes same_place h l r l t | inr n ↦ merged-no same_place h l r l n ]

pub class_of-joined : (es : List Edge) (p q : Place) → AreInOneClass es p q → class_of es p ≡ class_of es q
class_of-joined es p q joined =
    by_parts (class_of es p) (class_of es q)
    (joined (λ entry column. (class_of es (place entry column)).entry) (along (λ u. u.entry) es (λ u. u)))
    (joined (λ entry column. (class_of es (place entry column)).column) (along (λ u. u.column) es (λ u. u)))
  where
    by_parts : (u v : Place) → u.entry ≡ v.entry → u.column ≡ v.column → u ≡ v
    by_parts u v e f = rw (e, f) refl

    along : (part : Place → ℕ) (es : List Edge) (h : Place → Place) → AllByRecursion (λ e. part (classes_from h es e.left) ≡ part (classes_from h es e.right)) es
    along part [] h = tt
    along part (e ∷ es) h = (ap part (later_equalities_keep es (merged h e.left e.right) e.left e.right (merge_joins h e.left e.right)), along part es (merged h e.left e.right))
