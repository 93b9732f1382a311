-- The least weight of a way through a set is computed from the least weights of ways through smaller sets. A way is an order of the entries that are
-- still to be joined.
use Rattle.std.proofs.Common.{◌≡◌, ℕ, ◌+◌, ◌-◌, ◌^◌, ◌<◌, ◌≤◌, min, List, [], ◌∷◌, get_or, refl, ap, sym, ◌∙◌, subst, arith, inl, inr}
use Rattle.std.specs.Prelude.{◌⊎◌}
use Rattle.std.specs.Int.{bit_at}
use Rattle.std.proofs.lemmas.Bool.{cases_lt, cases_eq, le-leb, lt-leb}
use Rattle.order_search.specs.declared.weight.Weighing.{Weighing}
use Rattle.order_search.specs.declared.weight.Weighing.TheVariants as weight
use Rattle.order_search.specs.Ways.{IsWay, IsLeastWeight, HasLeastWeights, bound_with, combined, weight_of, weight_through}
use Rattle.order_search.proofs.Bits.{set_has_entry}
use Rattle.entry_sets.proofs.Bits.{entry_below, set_without_is_less}

pub combined-within : (most bound behind : ℕ) → bound ≤ most → combined (weight.SumIfBoundsAtMost most) bound behind ≡ min (bound + behind) (2 ^ 128 - 1)
combined-within most bound behind h = rw (le-leb bound most h) refl

pub combined-beyond : (most bound behind : ℕ) → most < bound → combined (weight.SumIfBoundsAtMost most) bound behind ≡ 2 ^ 128 - 1
combined-beyond most bound behind h = rw (lt-leb bound most h) refl

pub combined-mono : (w : Weighing) (bound a b : ℕ) → a ≤ b → combined w bound a ≤ combined w bound b
combined-mono weight.Greatest bound a b h = omega arith
combined-mono (weight.SumIfBoundsAtMost most) bound a b h = elim (cases_lt most bound) [
  | inl beyond ↦ omega (arith, combined-beyond most bound a beyond, combined-beyond most bound b beyond)
  | inr within ↦ omega (arith, combined-within most bound a within, combined-within most bound b within)
]

-- the state of the loop that tries each entry as the first of a way. The entries below `end` were tried
pub record LeastOfTried (w : Weighing) (bounds table : List ℕ) (all left end least : ℕ) : Type 0 where
  pub below : (entry : ℕ) → entry < end → bit_at left entry ≡ 1 → (least ≤ weight_through w bounds table all left entry) × (weight_through w bounds table all left entry < 2 ^ 128)
  pub found : (least ≡ 2 ^ 128 - 1) ⊎ ((entry : ℕ) × (bit_at left entry ≡ 1) × (weight_through w bounds table all left entry ≡ least))

pub tried_other : (w : Weighing) (bounds table : List ℕ) (all left end least : ℕ) → LeastOfTried w bounds table all left end least → (bit_at left end ≡ 1 → ⊥) → LeastOfTried w bounds table all left (end + 1) least
tried_other w bounds table all left end least tried out = record {
  below = λ entry h has. elim (cases_eq entry end) [
    | inl same ↦ absurd (out (ap (bit_at left) (sym same) ∙ has))
    | inr apart ↦ tried.below entry (omega arith) has
  ];
  found = tried.found;
}

pub tried_more : (w : Weighing) (bounds table : List ℕ) (all left end least through : ℕ) → LeastOfTried w bounds table all left end least → bit_at left end ≡ 1
    → through ≡ weight_through w bounds table all left end → through < 2 ^ 128 → LeastOfTried w bounds table all left (end + 1) (min least through)
tried_more w bounds table all left end least through tried has is fits = record {
  below = λ entry h there. elim (cases_eq entry end) [
    | inl same ↦ (let this : weight_through w bounds table all left entry ≡ through = ap (weight_through w bounds table all left) same ∙ sym is in
        (omega arith, omega arith))
    | inr apart ↦ (let before : (least ≤ weight_through w bounds table all left entry) × (weight_through w bounds table all left entry < 2 ^ 128) = tried.below entry (omega arith) there in
        (omega arith, before.1))
  ];
  found = elim (cases_lt through least) [
    | inl lighter ↦ (let is_min : min least through ≡ through = omega arith in inr (end, has, sym is ∙ sym is_min))
    | inr heavier ↦ (let is_min : min least through ≡ least = omega arith in
        subst (λ (v : ℕ). (v ≡ 2 ^ 128 - 1) ⊎ ((entry : ℕ) × (bit_at left entry ≡ 1) × (weight_through w bounds table all left entry ≡ v))) (sym is_min) tried.found)
  ];
}

-- the way begins with the entry and continues with a lightest way through the other entries
pub record WayBeginningWith (w : Weighing) (bounds table : List ℕ) (all left entry : ℕ) : Type 0 where
  pub way : List ℕ
  pub is_way : IsWay left way
  pub weighs : weight_of w bounds all left way ≡ weight_through w bounds table all left entry

pub way_through : (w : Weighing) (bounds table : List ℕ) (all left entry : ℕ) → bit_at left entry ≡ 1 → IsLeastWeight w bounds all (left - 2 ^ entry) (get_or table (left - 2 ^ entry) 0)
    → WayBeginningWith w bounds table all left entry
way_through w bounds table all left entry has behind = record {
  way = entry ∷ behind.way;
  is_way = (has, behind.is_way);
  weighs = ap (combined w (bound_with bounds all left entry)) behind.weighs;
}

pub through_is_least : (w : Weighing) (bounds table : List ℕ) (all left end entry : ℕ) (entries : List ℕ) → left ≤ end → HasLeastWeights w bounds all table end → IsWay left (entry ∷ entries)
    → weight_through w bounds table all left entry ≤ weight_of w bounds all left (entry ∷ entries)
through_is_least w bounds table all left end entry entries h is_table way =
    combined-mono w (bound_with bounds all left entry) (get_or table (left - 2 ^ entry) 0) (weight_of w bounds all (left - 2 ^ entry) entries)
    ((is_table (left - 2 ^ entry) (omega (arith, set_without_is_less left entry way.0))).none_lighter entries way.1)

pub least_of_tried : (w : Weighing) (bounds table : List ℕ) (n all left least : ℕ) → 0 < left → left < 2 ^ n → HasLeastWeights w bounds all table left → LeastOfTried w bounds table all left n least
    → IsLeastWeight w bounds all left least
least_of_tried w bounds table n all left least some fits is_table tried = elim tried.found [
  | inl heaviest ↦ (let any : (entry : ℕ) × (bit_at left entry ≡ 1) = set_has_entry n left some fits in
      let its : (least ≤ weight_through w bounds table all left any.0) × (weight_through w bounds table all left any.0 < 2 ^ 128) = tried.below any.0 (entry_below n left any.0 fits any.1) any.1 in
      made any.0 any.1 (omega arith))
  | inr one ↦ made one.0 one.1 one.2
]
  where
    none_lighter : (other : List ℕ) → IsWay left other → least ≤ weight_of w bounds all left other
    none_lighter [] way = absurd (omega arith)
    none_lighter (entry ∷ entries) way =
        omega (arith, (tried.below entry (entry_below n left entry fits way.0) way.0).0, through_is_least w bounds table all left left entry entries (omega arith) is_table way)

    made : (entry : ℕ) → bit_at left entry ≡ 1 → weight_through w bounds table all left entry ≡ least → IsLeastWeight w bounds all left least
    made entry has is =
        let through : WayBeginningWith w bounds table all left entry = way_through w bounds table all left entry has (is_table (left - 2 ^ entry) (set_without_is_less left entry has)) in
        record {
          way = through.way;
          is_way = through.is_way;
          weighs = through.weighs ∙ is;
          none_lighter = none_lighter;
        }
