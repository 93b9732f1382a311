-- `es` and `fs` are alike if each equality of one has both columns in one class of the other.
use Rattle.std.proofs.Common.{◌≡◌, ◌≢◌, ℕ, zero, suc, ◌<◌, List, [], ◌∷◌, get_or, length, take, ap, sym, subst, inl, inr, arith}
use Rattle.std.specs.List.{AllByRecursion, Contains}
use Rattle.entry_sets.proofs.Listing.{not_in_empty, in_front_or_rest}
use Rattle.berge_tree.specs.declared.edges.Edge.{Edge}
use Rattle.berge_tree.specs.declared.edges.Place.{Place}
use Rattle.berge_tree.specs.Equalities.{ClosesNoCycle, ClosesNoCycleAfter, class_of, places_of}
use Rattle.berge_tree.proofs.Joining.{class_of-joined, same_class_same_keys}
use Rattle.berge_tree.proofs.Closed.{named_if_not_alone}
use Rattle.set_bounds.specs.Alike.{AreAlike, IsWithinOneClass}
use Rattle.set_bounds.proofs.Forests.{all_in, each}

-- ---- equalities whose columns are in the same class of other equalities

pub all_more : (Q : Edge → Type 0) (es : List Edge) (i : ℕ) (d : Edge) → i < length es → AllByRecursion Q (take i es) → Q (get_or es i d)
    → AllByRecursion Q (take (suc i) es)
all_more Q [] i d low h k = absurd (omega arith)
all_more Q (e ∷ es) zero d low h k = (k, tt)
all_more Q (e ∷ es) (suc i) d low h k = (h.0, all_more Q es i d (omega arith) h.1 k)

same_class_in_wider : (es fs : List Edge) → AllByRecursion (IsWithinOneClass es) fs → (p q : Place) → class_of fs p ≡ class_of fs q → class_of es p ≡ class_of es q
same_class_in_wider es fs h p q same =
    class_of-joined es p q (λ key all. same_class_same_keys fs p q same key (all_in (λ f. key f.left.entry f.left.column ≡ key f.right.entry f.right.column) fs
    (λ f k. same_class_same_keys es f.left f.right (each (IsWithinOneClass es) fs h f k) key all)))

-- ---- equalities that are alike

two_columns : (earlier es : List Edge) → ClosesNoCycleAfter earlier es → AllByRecursion (λ e. e.left ≢ e.right) es
two_columns earlier [] h = tt
two_columns earlier (e ∷ es) h = (λ same. h.0.across (ap (λ (p : Place). h.0.side p.entry) same), two_columns (e ∷ earlier) es h.1)

all_named : (es fs : List Edge) → AllByRecursion (IsWithinOneClass es) fs → AllByRecursion (λ e. e.left ≢ e.right) fs → (p : Place) → Contains (places_of fs) p → Contains (places_of es) p
all_named es [] h differ p k = absurd (not_in_empty p k)
all_named es (f ∷ fs) h differ p k = elim (in_front_or_rest f.left (f.right ∷ places_of fs) p k) [
  | inr left ↦ subst (Contains (places_of es)) (sym left) (named_if_not_alone es f.left f.right h.0 differ.0)
  | inl later ↦ elim (in_front_or_rest f.right (places_of fs) p later) [
    | inr right ↦ subst (Contains (places_of es)) (sym right) (named_if_not_alone es f.right f.left (sym h.0) (λ same. differ.0 (sym same)))
    | inl rest ↦ all_named es fs h.1 differ.1 p rest
  ]
]

pub alike_by_classes : (es fs : List Edge) → ClosesNoCycle es → ClosesNoCycle fs → AllByRecursion (IsWithinOneClass es) fs → AllByRecursion (IsWithinOneClass fs) es → AreAlike es fs
alike_by_classes es fs closes_es closes_fs there back = record {
  columns = λ p. (all_named fs es back (two_columns [] es closes_es) p, all_named es fs there (two_columns [] fs closes_fs) p);
  classes = λ p q. (same_class_in_wider fs es back p q, same_class_in_wider es fs there p q);
}
