-- For any number of entries some order is best.
use Rattle.std.proofs.Common.{◌≡◌, ℕ, zero, suc, ◌+◌, ◌-◌, ◌^◌, ◌<◌, List, [], ◌∷◌, ◌++◌, ap, sym, ◌∙◌, subst, arith, inl, inr}
use Rattle.std.specs.Prelude.{◌⊎◌}
use Rattle.std.specs.Int.{bit_at}
use Rattle.std.proofs.lemmas.Bool.{cases_eq}
use Rattle.std.proofs.lemmas.List.{append_assoc}
use Rattle.std.proofs.lemmas.Nat.{pow_pos}
use Rattle.order_search.specs.Orders.{IsBest}
use Rattle.order_search.specs.Ways.{IsWay}
use Rattle.order_search.proofs.Bits.{set_is_empty, size_below, size-none, size-whole, size-without, some_entry}
use Rattle.entry_sets.proofs.Bits.{entry_below, set_without_is_less}
use Rattle.order_search.proofs.NoWorse.{NoWorse, best_of, is_transitive, is_total, is_reflexive}
use Rattle.order_search.proofs.WholeWays.{order_from_way, way_from_order}

-- ---- the best way to continue an order that begins with the entries `front`

record Best (bounds front : List ℕ) (left : ℕ) : Type 0 where
  way : List ℕ
  is_way : IsWay left way
  none_better : (other : List ℕ) → IsWay left other → NoWorse bounds (front ++ way) (front ++ other)

record BestBelow (bounds front : List ℕ) (left end : ℕ) : Type 0 where
  way : List ℕ
  is_way : IsWay left way
  none_better : (entry : ℕ) (entries : List ℕ) → entry < end → IsWay left (entry ∷ entries) → NoWorse bounds (front ++ way) (front ++ (entry ∷ entries))

abbrev NoneBelow : ℕ → ℕ → Type 0
NoneBelow left end = (entry : ℕ) → entry < end → bit_at left entry ≡ 1 → ⊥

best_through : (bounds front : List ℕ) (left entry : ℕ) → bit_at left entry ≡ 1 → Best bounds (front ++ entry ∷ []) (left - 2 ^ entry)
    → (way : List ℕ) × IsWay left way × ((entries : List ℕ) → IsWay left (entry ∷ entries) → NoWorse bounds (front ++ way) (front ++ (entry ∷ entries)))
best_through bounds front left entry has best = (
  entry ∷ best.way,
  (has, best.is_way),
  λ entries way.
      subst (λ (s : List ℕ). NoWorse bounds s (front ++ (entry ∷ entries))) (append_assoc front (entry ∷ []) best.way)
      (subst (λ (s : List ℕ). NoWorse bounds ((front ++ entry ∷ []) ++ best.way) s) (append_assoc front (entry ∷ []) entries) (best.none_better entries way.1)),
)

below_more : (bounds front : List ℕ) (left end : ℕ) → bit_at left end ≡ 1 → Best bounds (front ++ end ∷ []) (left - 2 ^ end) → NoneBelow left end ⊎ BestBelow bounds front left end → BestBelow bounds front left (end + 1)
below_more bounds front left end has best so_far = elim so_far [
  | inl none ↦ record {
    way = new.0;
    is_way = new.1;
    none_better = λ entry entries h way. at entry entries h way (λ below. absurd (none entry below way.0)) (is_reflexive bounds (front ++ new.0));
  }
  | inr old ↦ elim (is_total bounds (front ++ new.0) (front ++ old.way)) [
    | inl better ↦ record {
      way = new.0;
      is_way = new.1;
      none_better = λ entry entries h way. at entry entries h way (λ below. is_transitive bounds (front ++ new.0) (front ++ old.way) (front ++ (entry ∷ entries)) better (old.none_better entry entries below way)) (is_reflexive bounds (front ++ new.0));
    }
    | inr worse ↦ record {
      way = old.way;
      is_way = old.is_way;
      none_better = λ entry entries h way. from_old old worse entry entries h way;
    }
  ]
]
  where
    new : (way : List ℕ) × IsWay left way × ((entries : List ℕ) → IsWay left (end ∷ entries) → NoWorse bounds (front ++ way) (front ++ (end ∷ entries)))
    new = best_through bounds front left end has best

    here : (entry : ℕ) (entries : List ℕ) → entry ≡ end → IsWay left (entry ∷ entries) → NoWorse bounds (front ++ new.0) (front ++ (entry ∷ entries))
    here entry entries same way =
        subst (λ (k : ℕ). NoWorse bounds (front ++ new.0) (front ++ (k ∷ entries))) (sym same) (new.2 entries (subst (λ (k : ℕ). IsWay left (k ∷ entries)) same way))

    at : (entry : ℕ) (entries : List ℕ) → entry < end + 1 → IsWay left (entry ∷ entries) → (entry < end → NoWorse bounds (front ++ new.0) (front ++ (entry ∷ entries)))
        → NoWorse bounds (front ++ new.0) (front ++ new.0) → NoWorse bounds (front ++ new.0) (front ++ (entry ∷ entries))
    at entry entries h way before same = elim (cases_eq entry end) [
      | inl equal ↦ here entry entries equal way
      | inr apart ↦ before (omega arith)
    ]

    from_old : (old : BestBelow bounds front left end) → NoWorse bounds (front ++ old.way) (front ++ new.0) → (entry : ℕ) (entries : List ℕ) → entry < end + 1 → IsWay left (entry ∷ entries)
        → NoWorse bounds (front ++ old.way) (front ++ (entry ∷ entries))
    from_old old worse entry entries h way = elim (cases_eq entry end) [
      | inl equal ↦ is_transitive bounds (front ++ old.way) (front ++ new.0) (front ++ (entry ∷ entries)) worse (here entry entries equal way)
      | inr apart ↦ old.none_better entry entries (omega arith) way
    ]

below_other : (bounds front : List ℕ) (left end : ℕ) → (bit_at left end ≡ 1 → ⊥) → NoneBelow left end ⊎ BestBelow bounds front left end → NoneBelow left (end + 1) ⊎ BestBelow bounds front left (end + 1)
below_other bounds front left end out so_far = elim so_far [
  | inl none ↦ inl (λ entry h has. elim (cases_eq entry end) [
    | inl same ↦ out (ap (bit_at left) (sym same) ∙ has)
    | inr apart ↦ none entry (omega arith) has
  ])
  | inr old ↦ inr (record {
    way = old.way;
    is_way = old.is_way;
    none_better = λ entry entries h way. elim (cases_eq entry end) [
      | inl same ↦ absurd (out (ap (bit_at left) (sym same) ∙ way.0))
      | inr apart ↦ old.none_better entry entries (omega arith) way
    ];
  })
]

best_below : (bounds front : List ℕ) (left end : ℕ) → ((entry : ℕ) → bit_at left entry ≡ 1 → Best bounds (front ++ entry ∷ []) (left - 2 ^ entry)) → NoneBelow left end ⊎ BestBelow bounds front left end
best_below bounds front left zero behind = inl (λ entry h has. absurd (omega arith))
best_below bounds front left (suc end) behind = elim (cases_eq (bit_at left end) 1) [
  | inl has ↦ (let more : BestBelow bounds front left (end + 1) = below_more bounds front left end has (behind end has) (best_below bounds front left end behind) in inr (at_suc end more))
  | inr out ↦ elim (below_other bounds front left end out (best_below bounds front left end behind)) [
    | inl none ↦ inl (λ entry h has. none entry (omega arith) has)
    | inr more ↦ inr (at_suc end more)
  ]
]
  where
    at_suc : (end : ℕ) → BestBelow bounds front left (end + 1) → BestBelow bounds front left (suc end)
    at_suc end more = record {
      way = more.way;
      is_way = more.is_way;
      none_better = λ entry entries h way. more.none_better entry entries (omega arith) way;
    }

from_all : (bounds : List ℕ) (n left : ℕ) (front : List ℕ) → left < 2 ^ n → 0 < size_below n left → NoneBelow left n ⊎ BestBelow bounds front left n → Best bounds front left
from_all bounds n left front fits some so_far = elim so_far [
  | inl none ↦ (let any : (entry : ℕ) × (bit_at left entry ≡ 1) = some_entry n left some in absurd (none any.0 (entry_below n left any.0 fits any.1) any.1))
  | inr best ↦ record {
    way = best.way;
    is_way = best.is_way;
    none_better = λ other way. begun best other way;
  }
]
  where
    begun : (best : BestBelow bounds front left n) (other : List ℕ) → IsWay left other → NoWorse bounds (front ++ best.way) (front ++ other)
    begun best [] way = absurd (omega (arith, size-none n, ap (size_below n) way))
    begun best (entry ∷ entries) way = best.none_better entry entries (entry_below n left entry fits way.0) way

best_behind : (bounds : List ℕ) (size n left : ℕ) (front : List ℕ) → left < 2 ^ n → size_below n left ≡ size → Best bounds front left
best_behind bounds zero n left front fits none = record {
  way = [];
  is_way = set_is_empty n left fits none;
  none_better = λ other way. only other way;
}
  where
    only : (other : List ℕ) → IsWay left other → NoWorse bounds (front ++ []) (front ++ other)
    only [] way = is_reflexive bounds (front ++ [])
    only (entry ∷ entries) way = absurd (omega (arith, set_without_is_less left entry way.0, set_is_empty n left fits none))
best_behind bounds (suc size) n left front fits some =
    from_all bounds n left front fits (omega arith)
    (best_below bounds front left n
    (λ entry has. best_behind bounds size n (left - 2 ^ entry) (front ++ entry ∷ []) (omega arith) (omega (arith, size-without n entry left (entry_below n left entry fits has) has))))

-- ---- some order of all entries is best

pub some_best : (bounds : List ℕ) (n : ℕ) → (best : List ℕ) × IsBest bounds n best
some_best bounds n = (best.way, best_of bounds n best.way (order_from_way n best.way best.is_way) (λ other is_order. best.none_better other (way_from_order n other is_order)))
  where
    best : Best bounds [] (2 ^ n - 1)
    best = best_behind bounds n n (2 ^ n - 1) [] (omega (arith, pow_pos n)) (size-whole n)
