-- The sets of neighbours are filled equality by equality.
use Rattle.std.proofs.Common.{◌≡◌, ℕ, ◌<◌, Bool, true, false, ◌&&◌, ◌||◌, eqb, ltb, List, length, replicate, set, refl, ap, sym, ◌∙◌, inl, inr, arith}
use Rattle.std.specs.Prelude.{slice_index}
use Rattle.std.proofs.Math.Bool.{or-false}
use Rattle.std.proofs.lemmas.Bool.{and_right, cases_eq, eq-eqb, ne_eqb}
use Rattle.std.proofs.lemmas.Nat.Bits.{bit_at-zero}
use Rattle.std.specs.Int.{bit_at}
use Rattle.std.proofs.lemmas.List.{get_or-replicate, get_or-set_same, get_or-set_other, length-set}
use Rattle.limits.specs.Profile.{greatest_entries}
use Rattle.entry_sets.specs.Sets.{has_entry}
use Rattle.berge_tree.specs.declared.edges.Edge.{Edge}
use Rattle.join_graph.specs.Kept.{equalities_within}
use Rattle.set_bounds.specs.Neighbours.{are_joined, joins}

or_assoc : (x y z : Bool) → ((x || y) || z) ≡ (x || (y || z))
or_assoc true y z = refl
or_assoc false y z = refl

-- ---- one equality

-- one entry gets one neighbour more
one_more : (before after : List ℕ) (i more entry : ℕ) → i < length before → after ≡ set before i more
    → ((b : ℕ) → has_entry more b ≡ (has_entry (slice_index before i) b || eqb b entry))
    → (a b : ℕ) → has_entry (slice_index after a) b ≡ (has_entry (slice_index before a) b || (eqb a i && eqb b entry))
one_more before after i more entry i_in_range is adds a b = elim (cases_eq a i) [
  | inl same ↦
      ap (λ (s : List ℕ). has_entry (slice_index s a) b) is
      ∙ ap (λ (j : ℕ). has_entry (slice_index (set before i more) j) b) same
      ∙ ap (λ (s : ℕ). has_entry s b) (get_or-set_same before i more 0 i_in_range)
      ∙ adds b
      ∙ ap (λ (j : ℕ). has_entry (slice_index before j) b || eqb b entry) (sym same)
      ∙ ap (λ (t : Bool). has_entry (slice_index before a) b || (t && eqb b entry)) (sym (eq-eqb a i same))
  | inr apart ↦
      ap (λ (s : List ℕ). has_entry (slice_index s a) b) is
      ∙ ap (λ (s : ℕ). has_entry s b) (get_or-set_other before i a more 0 apart)
      ∙ sym (or-false (has_entry (slice_index before a) b))
      ∙ ap (λ (t : Bool). has_entry (slice_index before a) b || (t && eqb b entry)) (sym (ne_eqb a i apart))
]

pub both_more : (e : Edge) (before once after : List ℕ) (left right : ℕ) → e.left.entry < length before → e.right.entry < length before
    → once ≡ set before e.left.entry left → ((b : ℕ) → has_entry left b ≡ (has_entry (slice_index before e.left.entry) b || eqb b e.right.entry))
    → after ≡ set once e.right.entry right → ((b : ℕ) → has_entry right b ≡ (has_entry (slice_index once e.right.entry) b || eqb b e.left.entry))
    → (a b : ℕ) → has_entry (slice_index after a) b ≡ (has_entry (slice_index before a) b || joins a b e)
both_more e before once after left right left_in_range right_in_range is_once adds_right is_after adds_left a b =
    let lengths : length once ≡ length before = ap length is_once ∙ length-set before e.left.entry left in
    one_more once after e.right.entry right e.left.entry (omega (arith, right_in_range, lengths)) is_after adds_left a b
    ∙ ap (λ (t : Bool). t || (eqb a e.right.entry && eqb b e.left.entry)) (one_more before once e.left.entry left e.right.entry left_in_range is_once adds_right a b)
    ∙ or_assoc (has_entry (slice_index before a) b) (eqb a e.left.entry && eqb b e.right.entry) (eqb a e.right.entry && eqb b e.left.entry)

-- ---- one equality after another

-- the neighbours found so far, and those by the equalities that are left, are all neighbours
abbrev pub AreNeighboursBut : List Edge → ℕ → List Edge → List ℕ → Type 0
AreNeighboursBut es whole left neighbours = (a b : ℕ) → a < greatest_entries
    → (has_entry (slice_index neighbours a) b || are_joined (equalities_within whole left) a b) ≡ are_joined (equalities_within whole es) a b

has_none : (b : ℕ) → has_entry 0 b ≡ false
has_none b = and_right (ltb b greatest_entries) (eqb (bit_at 0 b) 1) (ap (λ (t : ℕ). eqb t 1) (bit_at-zero b))

pub none_so_far : (es : List Edge) (whole none : ℕ) → none ≡ 0 → AreNeighboursBut es whole es (replicate greatest_entries none)
none_so_far es whole none is a b low =
    ap (λ (s : ℕ). has_entry s b || are_joined (equalities_within whole es) a b) (get_or-replicate greatest_entries a none 0 low ∙ is)
    ∙ ap (λ (t : Bool). t || are_joined (equalities_within whole es) a b) (has_none b)
