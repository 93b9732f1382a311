-- The first of the lightest ways is read off the array entry by entry.
use Rattle.std.proofs.Common.{◌≡◌, ℕ, ◌+◌, ◌-◌, ◌^◌, ◌<◌, ◌≤◌, List, [], ◌∷◌, ◌++◌, get_or, ap, sym, ◌∙◌, subst, arith, inl, inr}
use Rattle.std.proofs.lemmas.Bool.{cases_lt, cases_eq, cases_order}
use Rattle.std.proofs.lemmas.List.{append_assoc, append-nil}
use Rattle.order_search.specs.declared.weight.Weighing.{Weighing}
use Rattle.order_search.specs.declared.weight.Weighing.TheVariants as weight
use Rattle.order_search.specs.Orders.{IsNotAfter}
use Rattle.order_search.specs.Ways.{IsWay, IsLeastWeight, HasLeastWeights, IsFirstLightest, BeginsLightest, bound_with, combined, weight_of}
use Rattle.entry_sets.proofs.Bits.{entry_below, set_without_is_less}
use Rattle.order_search.proofs.Lightest.{WayBeginningWith, combined-beyond, combined-within, through_is_least, way_through}

begins_if_lightest : (w : Weighing) (bounds table : List ℕ) (all left end entry : ℕ) (entries : List ℕ) → left < end → HasLeastWeights w bounds all table end → IsWay left (entry ∷ entries)
    → weight_of w bounds all left (entry ∷ entries) ≡ get_or table left 0 → BeginsLightest w bounds table all left entry
begins_if_lightest w bounds table all left end entry entries h is_table way is =
    let through : WayBeginningWith w bounds table all left entry = way_through w bounds table all left entry way.0 (is_table (left - 2 ^ entry) (omega (arith, set_without_is_less left entry way.0))) in
    record {
      is_left = way.0;
      is_least = omega (arith, (is_table left h).none_lighter through.way through.is_way, through.weighs, is, through_is_least w bounds table all left end entry entries (omega arith) is_table way);
    }

pub some_begins : (w : Weighing) (bounds table : List ℕ) (all left end : ℕ) → 0 < left → left < end → HasLeastWeights w bounds all table end → (entry : ℕ) × BeginsLightest w bounds table all left entry
some_begins w bounds table all left end some h is_table = first (is_table left h).way (is_table left h).is_way (is_table left h).weighs
  where
    first : (way : List ℕ) → IsWay left way → weight_of w bounds all left way ≡ get_or table left 0 → (entry : ℕ) × BeginsLightest w bounds table all left entry
    first [] way is = absurd (omega arith)
    first (entry ∷ entries) way is = (entry, begins_if_lightest w bounds table all left end entry entries h is_table way is)

-- ---- the loop that looks for the first entry that begins a lightest way

pub none_begins_before_0 : (w : Weighing) (bounds table : List ℕ) (n all left end : ℕ) → 0 < left → left < end → left < 2 ^ n → HasLeastWeights w bounds all table end → 0 < n
none_begins_before_0 w bounds table n all left end some h fits is_table =
    let one : (entry : ℕ) × BeginsLightest w bounds table all left entry = some_begins w bounds table all left end some h is_table in
    omega (arith, entry_below n left one.0 fits one.1.is_left)

pub record NoneBeginsBefore (w : Weighing) (bounds table : List ℕ) (n all left place : ℕ) : Type 0 where
  pub within : place < n
  pub none : (earlier : ℕ) → earlier < place → BeginsLightest w bounds table all left earlier → ⊥

pub none_begins_before_next : (w : Weighing) (bounds table : List ℕ) (n all left end place : ℕ) → 0 < left → left < end → left < 2 ^ n → HasLeastWeights w bounds all table end
    → NoneBeginsBefore w bounds table n all left place → (BeginsLightest w bounds table all left place → ⊥) → NoneBeginsBefore w bounds table n all left (place + 1)
none_begins_before_next w bounds table n all left end place some h fits is_table looked not = record {
  within = later;
  none = none;
}
  where
    none : (earlier : ℕ) → earlier < place + 1 → BeginsLightest w bounds table all left earlier → ⊥
    none earlier before is = elim (cases_eq earlier place) [
      | inl same ↦ not (subst (λ (k : ℕ). BeginsLightest w bounds table all left k) same is)
      | inr apart ↦ looked.none earlier (omega arith) is
    ]

    later : place + 1 < n
    later =
        let one : (entry : ℕ) × BeginsLightest w bounds table all left entry = some_begins w bounds table all left end some h is_table in
        elim (cases_lt one.0 (place + 1)) [
          | inl before ↦ absurd (none one.0 before one.1)
          | inr behind ↦ omega (arith, entry_below n left one.0 fits one.1.is_left)
        ]

-- ---- the first lightest way: an entry, followed by the first lightest way through the other entries

first_none : (w : Weighing) (bounds : List ℕ) (all left : ℕ) → left ≡ 0 → IsFirstLightest w bounds all left []
first_none w bounds all left none = record {
  is_way = none;
  none_lighter = λ other way. omega arith;
  none_earlier = λ other way same. tt;
}

-- if the sums `bound` + a and `bound` + b are equal, a and b are equal. The sums must be below the greatest weight, at which sums are capped
behind_is : (most bound a b : ℕ) → combined (weight.SumIfBoundsAtMost most) bound a ≡ combined (weight.SumIfBoundsAtMost most) bound b → combined (weight.SumIfBoundsAtMost most) bound a < 2 ^ 128 - 1 → a ≡ b
behind_is most bound a b same light = elim (cases_lt most bound) [
  | inl beyond ↦ absurd (omega (arith, combined-beyond most bound a beyond))
  | inr within ↦ omega (arith, combined-within most bound a within, combined-within most bound b within)
]

pub light_behind : (most : ℕ) (bounds table : List ℕ) (all left entry : ℕ) → get_or table left 0 < 2 ^ 128 - 1 → BeginsLightest (weight.SumIfBoundsAtMost most) bounds table all left entry
    → get_or table (left - 2 ^ entry) 0 < 2 ^ 128 - 1
light_behind most bounds table all left entry light is = elim (cases_lt most (bound_with bounds all left entry)) [
  | inl beyond ↦ absurd (omega (arith, combined-beyond most (bound_with bounds all left entry) (get_or table (left - 2 ^ entry) 0) beyond, is.is_least))
  | inr within ↦ omega (arith, combined-within most (bound_with bounds all left entry) (get_or table (left - 2 ^ entry) 0) within, is.is_least)
]

first_more : (most : ℕ) (bounds table : List ℕ) (all left end entry : ℕ) (entries : List ℕ) → left < end → HasLeastWeights (weight.SumIfBoundsAtMost most) bounds all table end → get_or table left 0 < 2 ^ 128 - 1
    → BeginsLightest (weight.SumIfBoundsAtMost most) bounds table all left entry → ((earlier : ℕ) → earlier < entry → BeginsLightest (weight.SumIfBoundsAtMost most) bounds table all left earlier → ⊥)
    → IsFirstLightest (weight.SumIfBoundsAtMost most) bounds all (left - 2 ^ entry) entries → IsFirstLightest (weight.SumIfBoundsAtMost most) bounds all left (entry ∷ entries)
first_more most bounds table all left end entry entries h is_table light is first rest = record {
  is_way = (is.is_left, rest.is_way);
  none_lighter = λ other way. omega (arith, weighs, (is_table left h).none_lighter other way);
  none_earlier = none_earlier;
}
  where
    behind : IsLeastWeight (weight.SumIfBoundsAtMost most) bounds all (left - 2 ^ entry) (get_or table (left - 2 ^ entry) 0)
    behind = is_table (left - 2 ^ entry) (omega (arith, set_without_is_less left entry is.is_left))

    weighs_behind : weight_of (weight.SumIfBoundsAtMost most) bounds all (left - 2 ^ entry) entries ≡ get_or table (left - 2 ^ entry) 0
    weighs_behind = omega (arith, behind.none_lighter entries rest.is_way, rest.none_lighter behind.way behind.is_way, behind.weighs)

    weighs : weight_of (weight.SumIfBoundsAtMost most) bounds all left (entry ∷ entries) ≡ get_or table left 0
    weighs = ap (combined (weight.SumIfBoundsAtMost most) (bound_with bounds all left entry)) weighs_behind ∙ is.is_least

    none_earlier : (other : List ℕ) → IsWay left other → weight_of (weight.SumIfBoundsAtMost most) bounds all left other ≡ weight_of (weight.SumIfBoundsAtMost most) bounds all left (entry ∷ entries)
        → IsNotAfter (entry ∷ entries) other
    none_earlier [] way same = absurd (omega (arith, set_without_is_less left entry is.is_left))
    none_earlier (y ∷ ys) way same = elim (cases_order entry y) [
      | inl equal ↦ inr (equal, rest.none_earlier ys (subst (λ (k : ℕ). IsWay (left - 2 ^ k) ys) (sym equal) way.1) (tails equal))
      | inr apart ↦ elim apart [
        | inl before ↦ inl before
        | inr behind ↦ absurd (first y behind (begins_if_lightest (weight.SumIfBoundsAtMost most) bounds table all left end y ys h is_table way (same ∙ weighs)))
      ]
    ]
      where
        tails : entry ≡ y → weight_of (weight.SumIfBoundsAtMost most) bounds all (left - 2 ^ entry) ys ≡ weight_of (weight.SumIfBoundsAtMost most) bounds all (left - 2 ^ entry) entries
        tails equal =
            let there : weight_of (weight.SumIfBoundsAtMost most) bounds all left (entry ∷ ys) ≡ weight_of (weight.SumIfBoundsAtMost most) bounds all left (entry ∷ entries) =
            ap (λ k. weight_of (weight.SumIfBoundsAtMost most) bounds all left (k ∷ ys)) equal ∙ same in
            behind_is most (bound_with bounds all left entry) (weight_of (weight.SumIfBoundsAtMost most) bounds all (left - 2 ^ entry) ys) (weight_of (weight.SumIfBoundsAtMost most) bounds all (left - 2 ^ entry) entries)
            there (omega (arith, there, weighs))

-- ---- the loop that reads the first lightest way off the array

pub record ReadOff (most : ℕ) (bounds table : List ℕ) (all left : ℕ) (front : List ℕ) : Type 0 where
  pub within : left ≤ all
  pub light : get_or table left 0 < 2 ^ 128 - 1
  pub goes_on : (rest : List ℕ) → IsFirstLightest (weight.SumIfBoundsAtMost most) bounds all left rest → IsFirstLightest (weight.SumIfBoundsAtMost most) bounds all all (front ++ rest)

pub read_none : (most : ℕ) (bounds table : List ℕ) (all : ℕ) → get_or table all 0 < 2 ^ 128 - 1 → ReadOff most bounds table all all []
read_none most bounds table all light = record {
  within = omega arith;
  light = light;
  goes_on = λ rest first. first;
}

pub read_more : (most : ℕ) (bounds table front front' : List ℕ) (all left left' end entry : ℕ) → left < end → HasLeastWeights (weight.SumIfBoundsAtMost most) bounds all table end → ReadOff most bounds table all left front
    → BeginsLightest (weight.SumIfBoundsAtMost most) bounds table all left entry → ((earlier : ℕ) → earlier < entry → BeginsLightest (weight.SumIfBoundsAtMost most) bounds table all left earlier → ⊥)
    → front' ≡ front ++ entry ∷ [] → left' ≡ left - 2 ^ entry → ReadOff most bounds table all left' front'
read_more most bounds table front front' all left left' end entry h is_table read is first pushed taken = record {
  within = omega (arith, read.within);
  light = rw taken (light_behind most bounds table all left entry read.light is);
  goes_on = λ rest behind.
      (let there : IsFirstLightest (weight.SumIfBoundsAtMost most) bounds all (left - 2 ^ entry) rest = subst (λ (k : ℕ). IsFirstLightest (weight.SumIfBoundsAtMost most) bounds all k rest) taken behind in
      let whole : IsFirstLightest (weight.SumIfBoundsAtMost most) bounds all all (front ++ (entry ∷ rest)) =
      read.goes_on (entry ∷ rest) (first_more most bounds table all left end entry rest h is_table read.light is first there) in
      let same : front' ++ rest ≡ front ++ (entry ∷ rest) = ap (λ (s : List ℕ). s ++ rest) pushed ∙ append_assoc front (entry ∷ []) rest in
      subst (λ (s : List ℕ). IsFirstLightest (weight.SumIfBoundsAtMost most) bounds all all s) (sym same) whole);
}

pub read_all : (most : ℕ) (bounds table front : List ℕ) (all left : ℕ) → left ≡ 0 → ReadOff most bounds table all left front → IsFirstLightest (weight.SumIfBoundsAtMost most) bounds all all front
read_all most bounds table front all left none read =
    subst (λ (s : List ℕ). IsFirstLightest (weight.SumIfBoundsAtMost most) bounds all all s) (append-nil front) (read.goes_on [] (first_none (weight.SumIfBoundsAtMost most) bounds all left none))
