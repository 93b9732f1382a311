-- A turn goes through the equalities of a set in text order. It begins at one of them, and after the last it continues with the first. These lemmas
-- say where it begins, and carry properties of equalities over to those of the turn.
use Rattle.std.proofs.Common.{◌≡◌, ℕ, zero, suc, ◌<◌, true, eqb, List, [], ◌∷◌, ◌++◌, length, take, drop, refl, ap, sym, ◌∙◌, inl, inr}
use Rattle.std.specs.List.{AllByRecursion}
use Rattle.std.proofs.lemmas.Bool.{cases_Bool, ltb-true, and_parts}
use Rattle.std.proofs.lemmas.List.{take-append-drop}
use Rattle.std.proofs.lemmas.List.Elements.{filter-append}
use Rattle.std.proofs.Math.Seq.{take-append_seam, drop-append_seam}
use Rattle.limits.specs.Profile.{greatest_entries}
use Rattle.berge_tree.specs.declared.edges.Edge.{Edge}
use Rattle.berge_tree.specs.Equalities.{AreWithin}
use Rattle.entry_sets.specs.Sets.{entries_of_set, has_entry}
use Rattle.berge_tree.specs.Testing.{has_entries, merged_components}
use Rattle.berge_tree.proofs.Tested.{has_within}
use Rattle.join_graph.specs.Kept.{joins_within, equalities_within, order_of_turn, kept_by_names, kept_of}
use Rattle.join_graph.specs.Names.{HasEntriesBelow16, HaveEntriesBelow16}

-- ---- a property of each equality of a set, carried over to the order of a turn

abbrev AreJoining : ℕ → List Edge → Type 0
AreJoining subset es = AllByRecursion (λ e. joins_within subset e ≡ true) es

filter_all : (subset : ℕ) (es : List Edge) → AreJoining subset (equalities_within subset es)
filter_all subset [] = tt
filter_all subset (e ∷ es) = elim (cases_Bool (joins_within subset e)) [ inl t ↦ rw t (t, filter_all subset es) | inr n ↦ rw n (filter_all subset es) ]

pub append_all : (P : Edge → Type 0) (xs ys : List Edge) → AllByRecursion P xs → AllByRecursion P ys → AllByRecursion P (xs ++ ys)
append_all P [] ys h k = k
append_all P (x ∷ xs) ys h k = (h.0, append_all P xs ys h.1 k)

drop_all : (P : Edge → Type 0) (n : ℕ) (xs : List Edge) → AllByRecursion P xs → AllByRecursion P (drop n xs)
drop_all P zero xs h = h
drop_all P (suc n) [] h = tt
drop_all P (suc n) (x ∷ xs) h = drop_all P n xs h.1

take_all : (P : Edge → Type 0) (n : ℕ) (xs : List Edge) → AllByRecursion P xs → AllByRecursion P (take n xs)
take_all P zero xs h = tt
take_all P (suc n) [] h = tt
take_all P (suc n) (x ∷ xs) h = (h.0, take_all P n xs h.1)

kept_all : (P : Edge → Type 0) (name : ℕ → ℕ) (es : List Edge) → AllByRecursion P es → AllByRecursion P (kept_by_names name es)
kept_all P name [] h = tt
kept_all P name (e ∷ es) h = elim (cases_Bool (eqb (name e.left.entry) (name e.right.entry))) [
  | inl t ↦ rw t (kept_all P name es h.1)
  | inr n ↦ rw n (h.0, kept_all P (merged_components name e.left.entry e.right.entry) es h.1)
]

have_entries : (subset : ℕ) (es : List Edge) → AreJoining subset es → has_entries subset es ≡ true
have_entries subset [] h = refl
have_entries subset (e ∷ es) h =
    let k : (has_entry subset e.left.entry ≡ true) × (has_entry subset e.right.entry ≡ true) = and_parts (has_entry subset e.left.entry) (has_entry subset e.right.entry) h.0 in
    rw (k.0, k.1) (have_entries subset es h.1)

pub kept_within : (subset turn : ℕ) (es : List Edge) → AreWithin (entries_of_set subset) (kept_of subset turn es)
kept_within subset turn es =
    let P : Edge → Type 0 = λ e. joins_within subset e ≡ true in
    let of_set : List Edge = equalities_within subset es in
    let all : AreJoining subset of_set = filter_all subset es in
    has_within subset (kept_of subset turn es) (have_entries subset (kept_of subset turn es)
    (kept_all P (λ x. x) (order_of_turn subset turn es) (append_all P (drop turn of_set) (take turn of_set) (drop_all P turn of_set all) (take_all P turn of_set all))))

joining_has_entries_below_16 : (subset : ℕ) (e : Edge) → joins_within subset e ≡ true → HasEntriesBelow16 e
joining_has_entries_below_16 subset e t =
    let k : (has_entry subset e.left.entry ≡ true) × (has_entry subset e.right.entry ≡ true) = and_parts (has_entry subset e.left.entry) (has_entry subset e.right.entry) t in
    (entry_named e.left.entry k.0, entry_named e.right.entry k.1)
  where
    entry_named : (x : ℕ) → has_entry subset x ≡ true → x < greatest_entries
    entry_named x t = ltb-true x greatest_entries (and_parts _ _ t).0

pub has_entries_below_16 : (subset : ℕ) (e : Edge) → joins_within subset e ≡ true → HasEntriesBelow16 e
has_entries_below_16 = joining_has_entries_below_16

pub have_entries_below_16 : (subset : ℕ) (es : List Edge) → HaveEntriesBelow16 (equalities_within subset es)
have_entries_below_16 subset es = names (equalities_within subset es) (filter_all subset es)
  where
    names : (es : List Edge) → AreJoining subset es → HaveEntriesBelow16 es
    names [] h = tt
    names (e ∷ es) h = (joining_has_entries_below_16 subset e h.0, names es h.1)

-- if exactly `turn` equalities of the set come before index i, the turn begins at index i
pub turn_begins : (subset turn i : ℕ) (es : List Edge) → turn ≡ length (equalities_within subset (take i es))
    → (equalities_within subset (take i es) ≡ take turn (equalities_within subset es)) × (equalities_within subset (drop i es) ≡ drop turn (equalities_within subset es))
turn_begins subset turn i es is =
    let before : List Edge = equalities_within subset (take i es) in
    let after : List Edge = equalities_within subset (drop i es) in
    let whole : equalities_within subset es ≡ before ++ after = ap (equalities_within subset) (sym (take-append-drop i es)) ∙ filter-append (joins_within subset) (take i es) (drop i es) in (
      sym (rw (whole, is) (take-append_seam before after)),
      sym (rw (whole, is) (drop-append_seam before after)),
    )
