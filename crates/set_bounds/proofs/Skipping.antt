-- A turn that is like an earlier turn doesn't change the least bound, so it can be skipped.
use Rattle.std.proofs.Common.{◌≡◌, ℕ, zero, suc, ◌+◌, ◌-◌, ◌<◌, ◌≤◌, List, [], ◌∷◌, ◌++◌, get_or, length, ap, sym, ◌∙◌, subst, arith}
use Rattle.degree_sequences.specs.Saturation.{saturated}
use Rattle.berge_tree.specs.declared.edges.Edge.{Edge}
use Rattle.berge_tree.specs.Equalities.{ClosesNoCycle}
use Rattle.join_graph.specs.Kept.{kept_of}
use Rattle.tree_bounds.specs.SetBounds.{bound_of_turn, least_to}
use Rattle.tree_bounds.specs.TreeBounds.{EntryBounds, bound_of_trees}
use Rattle.tree_bounds.proofs.Turns.{closes, least_to-le}
use Rattle.set_bounds.specs.Alike.{AreAlike, AreOfTurnsBefore, IsLikeEarlier, IsOfTurnBefore, least_in_128_bits}
use Rattle.set_bounds.proofs.SameTrees.{alike_trees}

-- ---- the least of several bounds, if one of them occurs twice

least_same : (f : ℕ → ℕ) (n k : ℕ) → k ≤ n → f k ≡ f (suc n) → least_to f (suc n) ≡ least_to f n
least_same f n k low same = omega (arith, least_to-le f n k low, same)

module _ (b : EntryBounds) (es : List Edge) (subset : ℕ) where
  pub skipped : (turn least : ℕ) → 0 < turn → least ≡ least_in_128_bits b es subset (turn - 1) → IsLikeEarlier es subset turn → least ≡ least_in_128_bits b es subset turn
  skipped zero least some before like = absurd (omega arith)
  skipped (suc k) least some before like =
      let earlier : suc k - 1 ≡ k = omega arith in
      let same : bound_of_turn b es subset like.earlier ≡ bound_of_turn b es subset (suc k) = ap (bound_of_trees b) (alike_trees es subset like.earlier (suc k) like.alike) in
      before ∙ ap (least_in_128_bits b es subset) earlier
      ∙ sym (ap saturated (least_same (bound_of_turn b es subset) k like.earlier (omega (arith, like.before)) same))

-- ---- the turns that were folded before a turn

module _ (es : List Edge) (subset turn : ℕ) where
  pub later : (folded : List (List Edge)) → AreOfTurnsBefore es subset turn folded → AreOfTurnsBefore es subset (turn + 1) folded
  later [] h = tt
  later (c ∷ cs) h = (record { earlier = h.0.earlier; before = omega (arith, h.0.before); are_kept = h.0.are_kept }, later cs h.1)

  pub one_more_folded : (folded : List (List Edge)) (kept : List Edge) → AreOfTurnsBefore es subset turn folded → kept ≡ kept_of subset turn es
      → AreOfTurnsBefore es subset (turn + 1) (folded ++ kept ∷ [])
  one_more_folded [] kept h own = (record { earlier = turn; before = omega arith; are_kept = own }, tt)
  one_more_folded (c ∷ cs) kept h own = (record { earlier = h.0.earlier; before = omega (arith, h.0.before); are_kept = h.0.are_kept }, one_more_folded cs kept h.1 own)

  item : (folded : List (List Edge)) (i : ℕ) (d : List Edge) → AreOfTurnsBefore es subset turn folded → i < length folded → IsOfTurnBefore es subset turn (get_or folded i d)
  item [] i d h low = absurd (omega arith)
  item (c ∷ cs) zero d h low = h.0
  item (c ∷ cs) (suc i) d h low = item cs i d h.1 (omega arith)

  pub like_one : (folded : List (List Edge)) (i : ℕ) (one kept : List Edge) → i < length folded → one ≡ get_or folded i one
      → (ClosesNoCycle one → ClosesNoCycle kept → AreAlike one kept) → kept ≡ kept_of subset turn es → AreOfTurnsBefore es subset turn folded → IsLikeEarlier es subset turn
  like_one folded i one kept low is alike own h =
      let there : IsOfTurnBefore es subset turn one = subst (IsOfTurnBefore es subset turn) (sym is) (item folded i one h low) in
      record {
        earlier = there.earlier;
        before = there.before;
        alike = subst (AreAlike (kept_of subset there.earlier es)) own (subst (λ gs. AreAlike gs kept) there.are_kept
            (alike (subst ClosesNoCycle (sym there.are_kept) (closes es subset there.earlier)) (subst ClosesNoCycle (sym own) (closes es subset turn))));
      }
