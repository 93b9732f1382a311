-- The bound of the empty set, and of a set with one entry, by computation.
use Rattle.std.proofs.Common.{◌≡◌, ℕ, ◌-◌, ◌≤◌, List, [], ◌∷◌, map, length, sum, refl, ap, sym, ◌∙◌, subst, arith, inl, inr}
use Rattle.std.specs.List.{Contains, range_with_len}
use Rattle.std.proofs.Math.Nat.{mul-one}
use Rattle.std.proofs.lemmas.List.Sums.{sum_by-cons}
use Rattle.std.proofs.lemmas.List.FromFn.{length-range_with_len}
use Rattle.limits.specs.Profile.{greatest_entries}
use Rattle.degree_sequences.specs.Composition.{root_total, weight_by_rank}
use Rattle.berge_tree.specs.declared.edges.Edge.{Edge}
use Rattle.berge_tree.specs.Equalities.{AreWithin, ClosesNoCycle}
use Rattle.entry_sets.specs.Sets.{entries_of_set}
use Rattle.berge_tree.specs.Walk.{columns_of, forest}
use Rattle.join_graph.specs.Kept.{kept_of, turn_count}
use Rattle.join_graph.proofs.Turning.{kept_within}
use Rattle.entry_sets.proofs.Listing.{not_in_empty, in_front_or_rest}
use Rattle.tree_bounds.specs.TreeBounds.{EntryBounds, bound_of_trees}
use Rattle.tree_bounds.specs.SetBounds.{bound_of_turn, bound_of_set, least_to, trees_of}
use Rattle.tree_bounds.proofs.Turns.{closes, least_to-some}

all_turns : (f : ℕ → ℕ) (n bound : ℕ) → ((k : ℕ) → f k ≡ bound) → least_to f n ≡ bound
all_turns f n bound h = let some : (k : ℕ) × (k ≤ n) × (least_to f n ≡ f k) = least_to-some f n in some.2 ∙ h some.0

no_entries : entries_of_set 0 ≡ []
unfolding entries_of_set
no_entries = refl

pub empty_is : (b : EntryBounds) (es : List Edge) → bound_of_set b es 0 ≡ 1
empty_is b es = all_turns (bound_of_turn b es 0) (turn_count 0 es - 1) 1 (λ turn. ap (λ set. bound_of_trees b (forest greatest_entries (columns_of (kept_of 0 turn es)) [] set)) no_entries)

-- ---- the bound of a set with one entry

only_member : (entry x : ℕ) → Contains (entry ∷ []) x → x ≡ entry
only_member entry x k = elim (in_front_or_rest entry [] x k) [ inr is ↦ is | inl none ↦ absurd (not_in_empty x none) ]

-- an equality between columns of one entry closes a cycle
none_kept : (entry : ℕ) (kept : List Edge) → AreWithin (entry ∷ []) kept → ClosesNoCycle kept → kept ≡ []
none_kept entry [] inside closed = refl
none_kept entry (e ∷ es) inside closed =
    absurd (closed.0.across (ap closed.0.side (only_member entry e.left.entry inside.0.0 ∙ sym (only_member entry e.right.entry inside.0.1))))

unit_weights : (ts : List ℕ) → sum (map (weight_by_rank []) ts) ≡ length ts
unit_weights [] = refl
unit_weights (t ∷ ts) = omega (arith, unit_weights ts, sum_by-cons (λ y. y) 1 (map (weight_by_rank []) ts))

pub single_is : (b : EntryBounds) (es : List Edge) (subset entry : ℕ) → entries_of_set subset ≡ entry ∷ [] → bound_of_set b es subset ≡ b.rows entry
single_is b es subset entry one = all_turns (bound_of_turn b es subset) (turn_count subset es - 1) (b.rows entry) each_turn
  where
    each_turn : (turn : ℕ) → bound_of_turn b es subset turn ≡ b.rows entry
    each_turn turn =
        let none : kept_of subset turn es ≡ [] =
        none_kept entry (kept_of subset turn es) (subst (λ set. AreWithin set (kept_of subset turn es)) one (kept_within subset turn es)) (closes es subset turn) in
        ap (λ kept. bound_of_trees b (trees_of kept subset)) none
        ∙ ap (λ set. bound_of_trees b (forest greatest_entries (columns_of []) [] set)) one
        ∙ mul-one (root_total [] (b.rows entry))
        ∙ unit_weights (range_with_len 1 (b.rows entry)) ∙ length-range_with_len 1 (b.rows entry)
