-- A set's bound depends only on the equalities within the set.
use Rattle.std.proofs.Common.{◌≡◌, ℕ, ◌-◌, min, max, List, [], ◌∷◌, length, refl, ap, sym, subst, inl, inr, ◌∙◌}
use Rattle.std.specs.Prelude.{IsSome}
use Rattle.std.proofs.lemmas.Bool.{cases_Bool}
use Rattle.limits.specs.Profile.{most_turns}
use Rattle.degree_sequences.specs.Saturation.{saturated}
use Rattle.berge_tree.specs.declared.edges.Edge.{Edge}
use Rattle.join_graph.specs.Kept.{equalities_within, rotated, joins_within, kept_in_order}
use Rattle.tree_bounds.specs.Columns.{EachNamedColumn}
use Rattle.tree_bounds.specs.SetBounds.{least_to, trees_of}
use Rattle.tree_bounds.specs.TreeBounds.{EntryBounds, bound_of_trees}
use Rattle.bound_fold.specs.declared.lists.EntryLists.{EntryLists}
use Rattle.bound_fold.specs.Lists.{list_of}
use Rattle.bound_fold.specs.Sets.{SetHasBounds}
use Rattle.set_bounds.specs.AllSets.{bound_in_128_bits}

within_twice : (subset : ℕ) (es : List Edge) → equalities_within subset (equalities_within subset es) ≡ equalities_within subset es
within_twice subset [] = refl
within_twice subset (e ∷ es) = elim (cases_Bool (joins_within subset e)) [
  | inl t ↦ rw (t, t) (ap (λ (s : List Edge). e ∷ s) (within_twice subset es))
  | inr n ↦ rw n (within_twice subset es)
]

pub own_equalities_have_bounds : (lists : EntryLists) (es own : List Edge) (subset : ℕ) → own ≡ equalities_within subset es → SetHasBounds lists es subset → SetHasBounds lists own subset
own_equalities_have_bounds lists es own subset is h =
    let same : equalities_within subset es ≡ equalities_within subset own = sym (ap (equalities_within subset) is ∙ within_twice subset es) in
    record {
      rows = h.rows;
      columns = subst (EachNamedColumn (λ entry column. IsSome (list_of lists entry column))) same h.columns;
    }

pub own_bound : (b : EntryBounds) (es own : List Edge) (subset : ℕ) → own ≡ equalities_within subset es → bound_in_128_bits b own subset ≡ bound_in_128_bits b es subset
own_bound b es own subset is =
    ap (λ (within : List Edge). saturated (least_to (λ turn. bound_of_trees b (trees_of (kept_in_order (rotated turn within)) subset)) (max (min (length within) most_turns) 1 - 1)))
    (ap (equalities_within subset) is ∙ within_twice subset es)
