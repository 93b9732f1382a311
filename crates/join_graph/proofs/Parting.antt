-- The code has a list with the name of each entry's component, for at most sixteen entries. These lemmas are the invariants of two loops: one joins
-- two components, and one goes through the equalities of a set.
use Rattle.std.proofs.Common.{◌≡◌, ◌≢◌, ℕ, ◌+◌, ◌<◌, ◌≤◌, true, false, cond, eqb, List, [], ◌∷◌, ◌++◌, length, get_or, take, drop, refl, ap, sym, ◌∙◌}
use Rattle.std.proofs.lemmas.Bool.{ne_eqb}
use Rattle.std.proofs.lemmas.List.{append_assoc, append-nil}
use Rattle.std.proofs.Math.Numerals.{add-one}
use Rattle.std.proofs.Math.Seq.{drop-cons}
use Rattle.limits.specs.Profile.{greatest_entries}
use Rattle.berge_tree.specs.declared.edges.Edge.{Edge}
use Rattle.berge_tree.specs.Testing.{merged_components}
use Rattle.join_graph.specs.Kept.{equalities_within, joins_within, order_of_turn, kept_by_names, kept_in_order, kept_of}
use Rattle.join_graph.specs.Names.{HasEntriesBelow16, HaveEntriesBelow16}
use Rattle.join_graph.proofs.Turning.{append_all, have_entries_below_16}

-- the state of the loop that joins two components. The names with indices below i are done
pub record MergeSoFar (before now : List ℕ) (i old new : ℕ) : Type 0 where
  pub done : (x : ℕ) → x < i → get_or now x 0 ≡ cond (eqb (get_or before x 0) old) new (get_or before x 0)
  pub left : (x : ℕ) → i ≤ x → get_or now x 0 ≡ get_or before x 0

pub same_names_same_kept : (g h : ℕ → ℕ) → ((x : ℕ) → x < greatest_entries → g x ≡ h x) → (es : List Edge) → HaveEntriesBelow16 es → kept_by_names g es ≡ kept_by_names h es
same_names_same_kept g h same [] named = refl
same_names_same_kept g h same (e ∷ es) named = rw (same e.left.entry named.0.0, same e.right.entry named.0.1)
    (elim (eqb (h e.left.entry) (h e.right.entry)) as (λ t. cond t (kept_by_names g es) (e ∷ kept_by_names (merged_components g e.left.entry e.right.entry) es)
    ≡ cond t (kept_by_names h es) (e ∷ kept_by_names (merged_components h e.left.entry e.right.entry) es)) [
      | true ↦ same_names_same_kept g h same es named.1
      | false ↦ ap (λ s. e ∷ s) (same_names_same_kept (merged_components g e.left.entry e.right.entry) (merged_components h e.left.entry e.right.entry) more es named.1)
    ])
  where
    more : (x : ℕ) → x < greatest_entries → merged_components g e.left.entry e.right.entry x ≡ merged_components h e.left.entry e.right.entry x
    more x less = rw (same x less, same e.left.entry named.0.0, same e.right.entry named.0.1) refl

-- an equality between entries of two components is kept, and the components are joined
pub equality_is_kept : (e : Edge) (names more : List ℕ) (kept longer rest : List Edge) → HasEntriesBelow16 e → HaveEntriesBelow16 rest
    → get_or names e.left.entry 0 ≢ get_or names e.right.entry 0 → longer ≡ kept ++ e ∷ []
    → ((x : ℕ) → x < greatest_entries → get_or more x 0 ≡ cond (eqb (get_or names x 0) (get_or names e.right.entry 0)) (get_or names e.left.entry 0) (get_or names x 0))
    → longer ++ kept_by_names (λ x. get_or more x 0) rest ≡ kept ++ kept_by_names (λ x. get_or names x 0) (e ∷ rest)
equality_is_kept e names more kept longer rest small named differ is_longer is_more =
    let g : ℕ → ℕ = λ x. get_or names x 0 in
    let t : eqb (g e.left.entry) (g e.right.entry) ≡ false = ne_eqb (g e.left.entry) (g e.right.entry) differ in
    ap (λ l. l ++ kept_by_names (λ x. get_or more x 0) rest) is_longer
    ∙ append_assoc kept (e ∷ []) (kept_by_names (λ x. get_or more x 0) rest)
    ∙ ap (λ s. kept ++ e ∷ s) (same_names_same_kept (λ x. get_or more x 0) (merged_components g e.left.entry e.right.entry) is_more rest named)
    ∙ ap (λ b. kept ++ cond b (kept_by_names g rest) (e ∷ kept_by_names (merged_components g e.left.entry e.right.entry) rest)) (sym t)

-- ---- the walk through the equalities of a set

-- the state of the walk. The walk still goes through the set's equalities in `es`, and then through `rest`. `whole rest` has the equalities kept so
-- far (`kept`), followed by those that the walk still keeps
abbrev pub WalkEndsWith : ℕ → List ℕ → List Edge → List Edge → (List Edge → List Edge) → Type 0
WalkEndsWith subset names kept es whole = (rest : List Edge) → HaveEntriesBelow16 rest → kept ++ kept_by_names (λ x. get_or names x 0) (equalities_within subset es ++ rest) ≡ whole rest

set_front : (subset i : ℕ) (es : List Edge) (d : Edge) → i < length es
    → equalities_within subset (drop i es) ≡ cond (joins_within subset (get_or es i d)) (get_or es i d ∷ equalities_within subset (drop (i + 1) es)) (equalities_within subset (drop (i + 1) es))
set_front subset i es d h = rw add-one (ap (equalities_within subset) (drop-cons es i d h))

-- an equality that doesn't join entries of the set is skipped
pub equality_is_skipped : (subset i : ℕ) (es : List Edge) (d : Edge) (names : List ℕ) (kept : List Edge) (whole : List Edge → List Edge) → i < length es → joins_within subset (get_or es i d) ≡ false
    → WalkEndsWith subset names kept (drop i es) whole → WalkEndsWith subset names kept (drop (i + 1) es) whole
equality_is_skipped subset i es d names kept whole h out leads rest named =
    let front : equalities_within subset (drop i es) ≡ equalities_within subset (drop (i + 1) es) = rw out at (set_front subset i es d h) in
    ap (λ s. kept ++ kept_by_names (λ x. get_or names x 0) (s ++ rest)) (sym front) ∙ leads rest named

-- an equality of the set is considered
pub equality_is_considered : (subset i : ℕ) (es : List Edge) (d : Edge) (names more : List ℕ) (kept longer : List Edge) (whole : List Edge → List Edge) → i < length es → joins_within subset (get_or es i d) ≡ true
    → ((rest : List Edge) → HaveEntriesBelow16 rest → longer ++ kept_by_names (λ x. get_or more x 0) rest ≡ kept ++ kept_by_names (λ x. get_or names x 0) (get_or es i d ∷ rest))
    → WalkEndsWith subset names kept (drop i es) whole → WalkEndsWith subset more longer (drop (i + 1) es) whole
equality_is_considered subset i es d names more kept longer whole h inside step leads rest named =
    let front : equalities_within subset (drop i es) ≡ get_or es i d ∷ equalities_within subset (drop (i + 1) es) = rw inside at (set_front subset i es d h) in
    step (equalities_within subset (drop (i + 1) es) ++ rest) (append_all HasEntriesBelow16 (equalities_within subset (drop (i + 1) es)) rest (have_entries_below_16 subset (drop (i + 1) es)) named)
    ∙ ap (λ s. kept ++ kept_by_names (λ x. get_or names x 0) (s ++ rest)) (sym front) ∙ leads rest named

-- a turn goes through the equalities from index i to the last, and then through those before index i
pub turn_wraps_around : (subset turn i : ℕ) (es front back start kept kept' : List Edge) (own names names' : List ℕ)
    → front ≡ take i es → back ≡ drop i es
    → equalities_within subset (take i es) ≡ take turn (equalities_within subset es) → equalities_within subset (drop i es) ≡ drop turn (equalities_within subset es)
    → ((x : ℕ) → x < greatest_entries → get_or own x 0 ≡ x) → start ≡ []
    → ((rest : List Edge) → HaveEntriesBelow16 rest → kept ++ kept_by_names (λ x. get_or names x 0) rest ≡ start ++ kept_by_names (λ x. get_or own x 0) (equalities_within subset back ++ rest))
    → ((rest : List Edge) → HaveEntriesBelow16 rest → kept' ++ kept_by_names (λ x. get_or names' x 0) rest ≡ kept ++ kept_by_names (λ x. get_or names x 0) (equalities_within subset front ++ rest))
    → kept' ≡ kept_of subset turn es
turn_wraps_around subset turn i es front back start kept kept' own names names' is_front is_back before from is_own empty first second =
    let part : List Edge = equalities_within subset front ++ [] in
    let named : HaveEntriesBelow16 part = append_all HasEntriesBelow16 (equalities_within subset front) [] (have_entries_below_16 subset front) tt in
    let round : equalities_within subset back ++ part ≡ order_of_turn subset turn es = rw (append-nil, is_front, is_back, before, from) refl in
    sym (append-nil kept') ∙ second [] tt ∙ first part named
    ∙ ap (λ s. s ++ kept_by_names (λ x. get_or own x 0) (equalities_within subset back ++ part)) empty
    ∙ same_names_same_kept (λ x. get_or own x 0) (λ x. x) is_own (equalities_within subset back ++ part) (append_all HasEntriesBelow16 (equalities_within subset back) part (have_entries_below_16 subset back) named)
    ∙ ap kept_in_order round
