-- Entries that are on every cycle: how they are found one by one, and what a set without one of them has.
use Rattle.std.proofs.Common.{◌≡◌, ◌<◌, ℕ, zero, suc, ◌+◌, Bool, true, false, not, ◌&&◌, ◌||◌, eqb, List, refl, ap, sym, subst, ◌∙◌, inl, inr, arith}
use Rattle.std.proofs.Math.Bool.{or-false, or-true, and-false}
use Rattle.std.proofs.lemmas.Bool.{cases_Bool, cases_eq, eq-eqb, ne_eqb, and_from, and_parts}
use Rattle.std.proofs.lemmas.Nat.Bits.{bit_at-zero}
use Rattle.std.specs.Int.{bit_at}
use Rattle.limits.specs.Profile.{greatest_entries}
use Rattle.entry_sets.specs.Sets.{IsSubset, has_entry}
use Rattle.entry_sets.proofs.Listing.{has_bit}
use Rattle.berge_tree.specs.declared.edges.Edge.{Edge}
use Rattle.berge_tree.specs.Equalities.{ClosesNoCycle}
use Rattle.join_graph.specs.Kept.{equalities_within}
use Rattle.set_bounds.specs.Cycles.{AreAllOnEveryCycle, AreOnEveryCycle, IsOnEveryCycle}
use Rattle.set_bounds.proofs.Forests.{forest_within}

pub none_on_every_cycle : (es : List Edge) (whole : ℕ) → AreAllOnEveryCycle es whole 0 0
none_on_every_cycle es whole entry = (
  λ has. (let bit : (entry < greatest_entries) × (bit_at 0 entry ≡ 1) = has_bit 0 entry has in absurd (omega (arith, bit.1, bit_at-zero entry))),
  λ on. absurd (omega (arith, on.0)),
)

-- ---- the equalities of a set close no cycle without an entry exactly if the entry is on every cycle

module _ (es : List Edge) (whole cut entry : ℕ) (removed : (other : ℕ) → has_entry cut other ≡ (has_entry whole other && not (eqb other entry))) where
  on_every_cycle : ClosesNoCycle (equalities_within cut es) → IsOnEveryCycle es whole entry
  on_every_cycle closes subset within lacks =
      forest_within es subset cut (λ other k. removed other ∙ and_from (has_entry whole other) (not (eqb other entry)) (within other k) (ap not (ne_eqb other entry (apart other k)))) closes
    where
      apart : (other : ℕ) → has_entry subset other ≡ true → other ≡ entry → ⊥
      apart other k is = absurd (cc (sym k ∙ ap (has_entry subset) is ∙ lacks))

  closes_without : IsOnEveryCycle es whole entry → ClosesNoCycle (equalities_within cut es)
  closes_without on =
      on cut (λ other k. (and_parts (has_entry whole other) (not (eqb other entry)) (sym (removed other) ∙ k)).0)
      (removed entry ∙ ap (λ (b : Bool). has_entry whole entry && not b) (eq-eqb entry entry refl) ∙ and-false (has_entry whole entry))

  -- ---- one entry after another is tested

  module _ (found : ℕ) (before : AreAllOnEveryCycle es whole entry found) where
    pub one_more_on_every_cycle : (more : ℕ) → ((other : ℕ) → has_entry more other ≡ (has_entry found other || eqb other entry)) → ClosesNoCycle (equalities_within cut es)
        → AreAllOnEveryCycle es whole (entry + 1) more
    one_more_on_every_cycle more added closes x = elim (cases_eq x entry) [
      | inl same ↦ (
        λ has. (omega (arith, same), subst (IsOnEveryCycle es whole) (sym same) (on_every_cycle closes)),
        λ on. added x ∙ ap (λ (b : Bool). has_entry found x || b) (eq-eqb x entry same) ∙ or-true (has_entry found x),
      )
      | inr other ↦
          let as_before : has_entry more x ≡ has_entry found x = added x ∙ ap (λ (b : Bool). has_entry found x || b) (ne_eqb x entry other) ∙ or-false (has_entry found x) in (
            λ has. (let on = (before x).0 (sym as_before ∙ has) in (omega (arith, on.0), on.1)),
            λ on. as_before ∙ (before x).1 (omega (arith, on.0, other), on.1),
          )
    ]

    pub not_on_every_cycle : (ClosesNoCycle (equalities_within cut es) → ⊥) → AreAllOnEveryCycle es whole (entry + 1) found
    not_on_every_cycle closes x = (
      λ has. (let on = (before x).0 has in (omega (arith, on.0), on.1)),
      λ on. elim (cases_eq x entry) [
        | inl same ↦ absurd (closes (closes_without (subst (IsOnEveryCycle es whole) same on.1)))
        | inr other ↦ (before x).1 (omega (arith, on.0, other), on.1)
      ],
    )

-- ---- a set within another

pub on_every_cycle_within : (es : List Edge) (subset whole entries : ℕ) → IsSubset subset whole → AreAllOnEveryCycle es whole greatest_entries entries → AreOnEveryCycle es subset entries
on_every_cycle_within es subset whole entries within all entry has smaller low lacks = ((all entry).0 has).1 smaller (λ other k. within other (low other k)) lacks

-- ---- if a set isn't a subset of another, it has an entry that the other lacks

module _ (P : Type 0) (has other : ℕ → Bool) (found : (x : ℕ) → has x ≡ true → other x ≡ false → P) where
  one_below : (n : ℕ) → (((x : ℕ) → x < n → has x ≡ true → other x ≡ true) → ⊥) → P
  one_below zero none = absurd (none (λ x low h. absurd (omega (arith, low))))
  one_below (suc n) none = elim (cases_Bool (other n)) [
    | inl t ↦ one_below n (λ all. none (λ x low h. elim (cases_eq x n) [ inl same ↦ ap other same ∙ t | inr apart ↦ all x (omega (arith, low, apart)) h ]))
    | inr f ↦ elim (cases_Bool (has n)) [
      | inl t ↦ found n t f
      | inr g ↦ one_below n (λ all. none (λ x low h. elim (cases_eq x n) [ inl same ↦ absurd (cc (sym h ∙ ap has same ∙ g)) | inr apart ↦ all x (omega (arith, low, apart)) h ]))
    ]
  ]

pub forest_without_one : (es : List Edge) (subset entries : ℕ) → AreOnEveryCycle es subset entries → (IsSubset entries subset → ⊥) → ClosesNoCycle (equalities_within subset es)
forest_without_one es subset entries on_cycles not_within =
    one_below (ClosesNoCycle (equalities_within subset es)) (has_entry entries) (has_entry subset) (λ x h lacks. on_cycles x h subset (λ other k. k) lacks) greatest_entries
    (λ all. not_within (λ x h. all x (has_bit entries x h).0 h))
