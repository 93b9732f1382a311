-- Items are removed one by one. The counts of slots stay correct, and no item of a consistent set is removed.
use Rattle.std.proofs.Common.{◌≡◌, ℕ, zero, suc, ◌+◌, ◌-◌, ◌<◌, ◌≤◌, Bool, true, false, List, length, get_or, set, refl, ap, sym, ◌∙◌, subst, arith, inl, inr}
use Rattle.std.specs.Prelude.{◌==◌, replicate}
use Rattle.std.specs.List.{Contains}
use Rattle.std.proofs.lemmas.Bool.{cases_eq, cases_lt, cases_Bool, eq-eqb, false≢true}
use Rattle.std.proofs.lemmas.List.{get_or-set_same, get_or-set_other, length-set, get_or_default, get_or_past, set-get_or}
use Rattle.row_buf.specs.Rows.{Rows}
use Rattle.counted_sets.specs.declared.uses.Use.{Use}
use Rattle.counted_sets.specs.Sets.{marked, IsGiven, IsConsistent, IsGreatest}
use Rattle.counted_sets.specs.UseChains.{AreUseChains, last_before}
use Rattle.counted_sets.specs.Counts.{giver_count, item_at, need_at, use_at, NeedersAreUnmarked, Extends, CountsAreCorrect, IsSafe, IsWorkOf}
use Rattle.counted_sets.proofs.Chaining.{last_has_key, last_at_most, none_after}
use Rattle.counted_sets.proofs.GiverCounts.{given-giver_count, place_of, stands_there, giver_count-given, giver_count-set, giver_count-last, giver_count-one, giver_count-other}

-- ---- the loop that lowers one count for each use of `item`, along the item's chain

pub record AreLowered (uses : List Use) (item : ℕ) (before counts : List ℕ) (at : ℕ) : Type 0 where
  pub within : at ≤ length uses
  pub here : 0 < at → item_at uses (at - 1) ≡ item
  pub same_length : length counts ≡ length before
  pub taken : (slot : ℕ) → slot < length before
      → get_or counts slot 0 + giver_count (λ i. i == item) uses slot (length uses) ≡ get_or before slot 0 + giver_count (λ i. i == item) uses slot at

last_is : (key_of : ℕ → ℕ) (key n at : ℕ) → last_before key_of key n ≡ at → 0 < at → key_of (at - 1) ≡ key
last_is key_of key n zero is at_positive = absurd (omega arith)
last_is key_of key n (suc k) is at_positive = let e : suc k - 1 ≡ k = omega arith in ap key_of e ∙ last_has_key key_of key n k is

pub taken_at_start : (uses : List Use) (item keys at : ℕ) (lasts befores before : List ℕ) → AreUseChains (item_at uses) keys (length uses) lasts befores → item < keys → at ≡ get_or lasts item 0 → AreLowered uses item before before at
taken_at_start uses item keys at lasts befores before chains item_in_range is =
    let last : last_before (item_at uses) item (length uses) ≡ at = sym (chains.last item item_in_range) ∙ sym is in
    record {
      within = omega (arith, last_at_most (item_at uses) item (length uses));
      here = last_is (item_at uses) item (length uses) at last;
      same_length = refl;
      taken = λ slot h. ap (λ n. get_or before slot 0 + n) (giver_count-last uses slot item (length uses) ∙ ap (giver_count (λ i. i == item) uses slot) last);
    }

first_left : (uses : List Use) (item slot place : ℕ) → item_at uses place ≡ item → (use_at uses place).gives ≡ slot → giver_count (λ i. i == item) uses slot (suc place) ≡ 1 + giver_count (λ i. i == item) uses slot place
first_left uses item slot place here gives = giver_count-one (λ i. i == item) uses slot place (eq-eqb (item_at uses place) item here) gives

pub taken_some : (uses : List Use) (item at slot : ℕ) (before counts : List ℕ) → 0 < at → slot ≡ (use_at uses (at - 1)).gives → slot < length before
    → giver_count (λ i. i == item) uses slot (length uses) ≤ get_or before slot 0 → AreLowered uses item before counts at → 0 < get_or counts slot 0
taken_some uses item zero slot before counts at_positive is within enough so_far = absurd (omega arith)
taken_some uses item (suc place) slot before counts at_positive is within enough so_far =
    let e : suc place - 1 ≡ place = omega arith in
    let here : item_at uses place ≡ item = ap (item_at uses) (sym e) ∙ so_far.here at_positive in
    let gives : (use_at uses place).gives ≡ slot = ap (λ p. (use_at uses p).gives) (sym e) ∙ sym is in
    omega (arith, so_far.taken slot within, enough, first_left uses item slot place here gives)

pub taken_after_step : (uses : List Use) (item at slot next keys : ℕ) (lasts befores before counts : List ℕ) → AreUseChains (item_at uses) keys (length uses) lasts befores → 0 < at → slot ≡ (use_at uses (at - 1)).gives
    → next ≡ get_or befores (at - 1) 0 → slot < length before → 0 < get_or counts slot 0 → AreLowered uses item before counts at
    → AreLowered uses item before (set counts slot (get_or counts slot 0 - 1)) next
taken_after_step uses item zero slot next keys lasts befores before counts chains at_positive is link within left so_far = absurd (omega arith)
taken_after_step uses item (suc place) slot next keys lasts befores before counts chains at_positive is link within left so_far =
    let e : suc place - 1 ≡ place = omega arith in
    let here : item_at uses place ≡ item = ap (item_at uses) (sym e) ∙ so_far.here at_positive in
    let gives : (use_at uses place).gives ≡ slot = ap (λ p. (use_at uses p).gives) (sym e) ∙ sym is in
    let place_in_range : place < length uses = omega (arith, so_far.within) in
    let last : last_before (item_at uses) item place ≡ next = sym (link ∙ ap (λ p. get_or befores p 0) e ∙ chains.before place place_in_range ∙ ap (λ k. last_before (item_at uses) k place) here) in
    record {
      within = omega (arith, last_at_most (item_at uses) item place);
      here = last_is (item_at uses) item place next last;
      same_length = length-set counts slot (get_or counts slot 0 - 1) ∙ so_far.same_length;
      taken = λ q h. (let rest : giver_count (λ i. i == item) uses q place ≡ giver_count (λ i. i == item) uses q next = giver_count-last uses q item place ∙ ap (giver_count (λ i. i == item) uses q) last in
          elim (cases_eq q slot) [
            | inl same ↦ (let now : get_or (set counts slot (get_or counts slot 0 - 1)) q 0 ≡ get_or counts slot 0 - 1 =
                ap (λ j. get_or (set counts slot (get_or counts slot 0 - 1)) j 0) same ∙ get_or-set_same counts slot (get_or counts slot 0 - 1) 0 (omega (arith, so_far.same_length)) in
                let had : get_or counts q 0 ≡ get_or counts slot 0 = ap (λ j. get_or counts j 0) same in
                omega (arith, now, had, left, rest, so_far.taken q h, first_left uses item q place here (gives ∙ sym same)))
            | inr apart ↦ (let now : get_or (set counts slot (get_or counts slot 0 - 1)) q 0 ≡ get_or counts q 0 = get_or-set_other counts slot q (get_or counts slot 0 - 1) 0 apart in
                omega (arith, now, rest, so_far.taken q h, giver_count-other (λ i. i == item) uses q place (λ g. apart (sym g ∙ gives))))
          ]);
    }

-- each link leads to a lower index, so the loop along a chain ends
pub back_before : (key_of : ℕ → ℕ) (at places next keys : ℕ) (lasts befores : List ℕ) → AreUseChains key_of keys places lasts befores → 0 < at → at ≤ places → next ≡ get_or befores (at - 1) 0 → next < at
back_before key_of zero places next keys lasts befores chains at_positive within link = absurd (omega arith)
back_before key_of (suc place) places next keys lasts befores chains at_positive within link =
    let e : suc place - 1 ≡ place = omega arith in
    let last : next ≡ last_before key_of (key_of place) place = link ∙ ap (λ p. get_or befores p 0) e ∙ chains.before place (omega arith) in
    omega (arith, last, last_at_most key_of (key_of place) place)

-- ---- the state after one item is removed

pub enough_left : (items slots : ℕ) (uses : List Use) (marks : List Bool) (counts : List ℕ) (work : Rows ℕ) (item : ℕ) → CountsAreCorrect items slots uses marks counts work → item < items → marked marks item ≡ true
    → (slot : ℕ) → slot < length counts → giver_count (λ i. i == item) uses slot (length uses) ≤ get_or counts slot 0
enough_left items slots uses marks counts work item counted h stands slot b =
    omega (arith, counted.counted slot (omega (arith, counted.slot_count)), giver_count-set uses marks slot item (length uses) (omega (arith, counted.item_count)) stands)

pub removed : (items slots : ℕ) (uses : List Use) (marks : List Bool) (counts new_counts : List ℕ) (work new_work : Rows ℕ) (item : ℕ) → CountsAreCorrect items slots uses marks counts work → item < items
    → marked marks item ≡ true → length new_counts ≡ length counts
    → ((slot : ℕ) → slot < length counts → get_or new_counts slot 0 + giver_count (λ i. i == item) uses slot (length uses) ≡ get_or counts slot 0) → IsWorkOf new_counts new_work
    → CountsAreCorrect items slots uses (set marks item false) new_counts new_work
removed items slots uses marks counts new_counts work new_work item counted h stands size fell listed = record {
  item_count = length-set marks item false ∙ counted.item_count;
  slot_count = size ∙ counted.slot_count;
  counted = λ slot b. omega (arith, fell slot (omega (arith, counted.slot_count)), counted.counted slot b, giver_count-set uses marks slot item (length uses) (omega (arith, counted.item_count)) stands);
  listed = listed;
}

pub not_marked : (marks : List Bool) (item : ℕ) → marked marks item ≡ false → set marks item false ≡ marks
not_marked marks item gone = ap (set marks item) (sym gone) ∙ set-get_or marks item false

-- ---- no item of a consistent set is removed

-- if no marked item gives `slot`, a consistent set of marked items has no item that needs `slot`
not_in_consistent_set : (items : ℕ) (uses : List Use) (marks : List Bool) (slot : ℕ) → giver_count (marked marks) uses slot (length uses) ≡ 0 → (other : ℕ → Bool) → IsConsistent items uses other
    → ((i : ℕ) → other i ≡ true → marked marks i ≡ true) → (k : ℕ) → k < length uses → need_at uses k ≡ slot → other (item_at uses k) ≡ true → ⊥
not_in_consistent_set items uses marks slot none other consistent within k h needs stands =
    let given : IsGiven uses other (need_at uses k) = consistent.given (use_at uses k) (stands_there uses k h) stands in
    omega (arith, none, given-giver_count (marked marks) uses slot (given.0, given.1, within given.0.item given.2, given.3 ∙ needs))

pub safe_at_start : (items : ℕ) (uses : List Use) (marks : List Bool) → IsSafe items uses marks marks
safe_at_start items uses marks = record { fewer = λ i m. m; safe = λ other consistent within i stands. within i stands }

set_other : (marks : List Bool) (item i : ℕ) → (i ≡ item → ⊥) → marked (set marks item false) i ≡ marked marks i
set_other marks item i apart = get_or-set_other marks item i false false apart

set_same : (marks : List Bool) (item i : ℕ) → i ≡ item → marked (set marks item false) i ≡ false
set_same marks item i same = elim (cases_lt item (length marks)) [
  | inl within ↦ ap (λ k. marked (set marks item false) k) same ∙ get_or-set_same marks item false false within
  | inr past ↦ get_or_past (set marks item false) i false (omega (arith, length-set marks item false, same))
]

pub safe_after_step : (items : ℕ) (uses : List Use) (old marks : List Bool) (slot k : ℕ) → giver_count (marked old) uses slot (length uses) ≡ 0 → k < length uses → need_at uses k ≡ slot → IsSafe items uses old marks
    → IsSafe items uses old (set marks (item_at uses k) false)
safe_after_step items uses old marks slot k none h needs so_far = record {
  fewer = λ i m. elim (cases_eq i (item_at uses k)) [
    | inl same ↦ absurd (false≢true (sym (set_same marks (item_at uses k) i same) ∙ m))
    | inr apart ↦ so_far.fewer i (sym (set_other marks (item_at uses k) i apart) ∙ m)
  ];
  safe = λ other consistent within i stands. elim (cases_eq i (item_at uses k)) [
    | inl same ↦ absurd (not_in_consistent_set items uses old slot none other consistent within k h needs (subst (λ j. other j ≡ true) same stands))
    | inr apart ↦ set_other marks (item_at uses k) i apart ∙ so_far.safe other consistent within i stands
  ];
}

-- ---- the loop that removes every item that needs `slot`, along the slot's chain

pub record AreGoneFrom (uses : List Use) (slot at : ℕ) (marks : List Bool) : Type 0 where
  pub within : at ≤ length uses
  pub here : 0 < at → need_at uses (at - 1) ≡ slot
  pub gone : (k : ℕ) → at ≤ k → k < length uses → need_at uses k ≡ slot → marked marks (item_at uses k) ≡ false

pub gone_at_start : (uses : List Use) (slot keys at : ℕ) (lasts befores : List ℕ) (marks : List Bool) → AreUseChains (need_at uses) keys (length uses) lasts befores → slot < keys → at ≡ get_or lasts slot 0 → AreGoneFrom uses slot at marks
gone_at_start uses slot keys at lasts befores marks chains slot_in_range is =
    let last : last_before (need_at uses) slot (length uses) ≡ at = sym (chains.last slot slot_in_range) ∙ sym is in
    record {
      within = omega (arith, last_at_most (need_at uses) slot (length uses));
      here = last_is (need_at uses) slot (length uses) at last;
      gone = λ k from below needs. absurd (none_after (need_at uses) slot (length uses) k (omega (arith, last)) below needs);
    }

pub gone_after_step : (uses : List Use) (slot keys at item next : ℕ) (lasts befores : List ℕ) (marks : List Bool) → AreUseChains (need_at uses) keys (length uses) lasts befores → 0 < at → item ≡ item_at uses (at - 1)
    → next ≡ get_or befores (at - 1) 0 → AreGoneFrom uses slot at marks → AreGoneFrom uses slot next (set marks item false)
gone_after_step uses slot keys zero item next lasts befores marks chains at_positive is link so_far = absurd (omega arith)
gone_after_step uses slot keys (suc place) item next lasts befores marks chains at_positive is link so_far =
    let e : suc place - 1 ≡ place = omega arith in
    let here : need_at uses place ≡ slot = ap (need_at uses) (sym e) ∙ so_far.here at_positive in
    let place_in_range : place < length uses = omega (arith, so_far.within) in
    let last : last_before (need_at uses) slot place ≡ next = sym (link ∙ ap (λ p. get_or befores p 0) e ∙ chains.before place place_in_range ∙ ap (λ k. last_before (need_at uses) k place) here) in
    record {
      within = omega (arith, last_at_most (need_at uses) slot place);
      here = last_is (need_at uses) slot place next last;
      gone = λ k from below needs. elim (cases_eq (item_at uses k) item) [
        | inl same ↦ set_same marks item (item_at uses k) same
        | inr apart ↦ set_other marks item (item_at uses k) apart ∙ elim (cases_lt place k) [
          | inl after ↦ so_far.gone k (omega arith) below needs
          | inr upto ↦ elim (cases_eq k place) [
            | inl same ↦ absurd (apart (ap (item_at uses) (same ∙ sym e) ∙ sym is))
            | inr before ↦ absurd (none_after (need_at uses) slot place k (omega (arith, last)) (omega arith) needs)
          ]
        ]
      ];
    }

gone_still : (items : ℕ) (uses : List Use) (old new : List Bool) (slot : ℕ) → IsSafe items uses old new → NeedersAreUnmarked uses slot old → NeedersAreUnmarked uses slot new
gone_still items uses old new slot safe gone k h needs = elim (cases_Bool (marked new (item_at uses k))) [
  | inl stays ↦ absurd (false≢true (sym (gone k h needs) ∙ safe.fewer (item_at uses k) stays))
  | inr goes ↦ goes
]

-- ---- the main loop: no marked item needs one of the slots that are listed before index `at`

pub record Reducing (items slots : ℕ) (uses : List Use) (marks : List Bool) (counts : List ℕ) (work : Rows ℕ) (at : ℕ) : Type 0 where
  pub within : at ≤ length work.items
  pub counted : CountsAreCorrect items slots uses marks counts work
  pub safe : (other : ℕ → Bool) → IsConsistent items uses other → (item : ℕ) → other item ≡ true → marked marks item ≡ true
  pub passed : (p : ℕ) → p < at → NeedersAreUnmarked uses (get_or work.items p 0) marks

all_marked : (n i : ℕ) → i < n → marked (replicate n true) i ≡ true
all_marked zero i h = absurd (omega arith)
all_marked (suc n) zero h = refl
all_marked (suc n) (suc i) h = all_marked n i (omega arith)

length-all_marked : (n : ℕ) → length (replicate n true) ≡ n
length-all_marked zero = refl
length-all_marked (suc n) = ap suc (length-all_marked n)

giver_count-all : (items n : ℕ) (uses : List Use) (slot : ℕ) → ((k : ℕ) → k < n → item_at uses k < items) → giver_count (marked (replicate items true)) uses slot n ≡ giver_count (λ item. true) uses slot n
giver_count-all items zero uses slot within = refl
giver_count-all items (suc n) uses slot within = rw (all_marked items (item_at uses n) (within n (omega arith)), giver_count-all items n uses slot (λ k h. within k (omega arith))) refl

pub reducing_at_start : (items slots : ℕ) (uses : List Use) (marks : List Bool) (counts : List ℕ) (work : Rows ℕ) → ((k : ℕ) → k < length uses → item_at uses k < items) → marks ≡ replicate items true → length counts ≡ slots
    → ((slot : ℕ) → slot < slots → get_or counts slot 0 ≡ giver_count (λ item. true) uses slot (length uses)) → IsWorkOf counts work → Reducing items slots uses marks counts work 0
reducing_at_start items slots uses marks counts work items_in_range all size counted is_work = record {
  within = omega arith;
  counted = record {
    item_count = ap length all ∙ length-all_marked items;
    slot_count = size;
    counted = λ slot b. counted slot b ∙ sym (giver_count-all items (length uses) uses slot items_in_range) ∙ ap (λ m. giver_count (marked m) uses slot (length uses)) (sym all);
    listed = is_work;
  };
  safe = λ other consistent item stands. ap (λ m. marked m item) all ∙ all_marked items item (consistent.within item stands);
  passed = λ p h. absurd (omega arith);
}

pub reducing_after_step : (items slots : ℕ) (uses : List Use) (marks new_marks : List Bool) (counts new_counts : List ℕ) (work new_work : Rows ℕ) (at slot : ℕ) → at < length work.items → slot ≡ get_or work.items at 0
    → Reducing items slots uses marks counts work at → NeedersAreUnmarked uses slot new_marks → IsSafe items uses marks new_marks
    → CountsAreCorrect items slots uses new_marks new_counts new_work → Extends work.items new_work.items → Reducing items slots uses new_marks new_counts new_work (at + 1)
reducing_after_step items slots uses marks new_marks counts new_counts work new_work at slot h is so_far gone safe counted extends = record {
  within = omega (arith, extends.longer);
  counted = counted;
  safe = λ other consistent item stands. safe.safe other consistent (so_far.safe other consistent) item stands;
  passed = λ p b. subst (λ q. NeedersAreUnmarked uses q new_marks) (sym (extends.same p (omega arith))) (elim (cases_eq p at) [
    | inl last ↦ subst (λ q. NeedersAreUnmarked uses q new_marks) (is ∙ ap (λ j. get_or work.items j 0) (sym last)) gone
    | inr before ↦ gone_still items uses marks new_marks (get_or work.items p 0) safe (so_far.passed p (omega arith))
  ]);
}

pub slot_within : (items slots : ℕ) (uses : List Use) (marks : List Bool) (counts : List ℕ) (work : Rows ℕ) (at slot : ℕ) → at < length work.items → slot ≡ get_or work.items at 0
    → Reducing items slots uses marks counts work at → slot < length counts
slot_within items slots uses marks counts work at slot h is so_far = omega (arith, is, so_far.counted.listed.listed.within at h)

pub slot_count_is_zero : (items slots : ℕ) (uses : List Use) (marks : List Bool) (counts : List ℕ) (work : Rows ℕ) (at slot : ℕ) → at < length work.items → slot ≡ get_or work.items at 0
    → Reducing items slots uses marks counts work at → get_or counts slot 0 ≡ 0
slot_count_is_zero items slots uses marks counts work at slot h is so_far = ap (λ q. get_or counts q 0) is ∙ so_far.counted.listed.listed.zero_there at h

pub reduced : (items slots : ℕ) (uses : List Use) (marks : List Bool) (counts : List ℕ) (work : Rows ℕ) (at : ℕ) → ((k : ℕ) → k < length uses → need_at uses k < slots) → length work.items ≤ at
    → Reducing items slots uses marks counts work at → IsGreatest items uses (marked marks)
reduced items slots uses marks counts work at needs_in_range ended so_far = record {
  consistent = record {
    within = λ item m. elim (cases_lt item items) [
      | inl within ↦ within
      | inr past ↦ absurd (false≢true (sym (get_or_past marks item false (omega (arith, so_far.counted.item_count))) ∙ m))
    ];
    given = λ need in_uses m. (
        let place : (k : ℕ) × (k < length uses) × (use_at uses k ≡ need) = place_of uses need in_uses in
        let slot_in_range : need_at uses place.0 < slots = needs_in_range place.0 place.1 in
        let stands : marked marks (item_at uses place.0) ≡ true = ap (λ (u : Use). marked marks u.item) place.2 ∙ m in
        subst (λ (u : Use). IsGiven uses (marked marks) u.needs) place.2 (elim (cases_lt 0 (get_or counts (need_at uses place.0) 0)) [
          | inl some ↦ giver_count-given (marked marks) uses (need_at uses place.0) (omega (arith, so_far.counted.counted (need_at uses place.0) slot_in_range))
          | inr none ↦ (let there : Contains work.items (need_at uses place.0) = so_far.counted.listed.listed.all_there (need_at uses place.0) (omega (arith, so_far.counted.slot_count)) (omega arith) in
              let is : get_or work.items there.0 0 ≡ need_at uses place.0 = get_or_default work.items there.0 0 (need_at uses place.0) there.1 ∙ there.2 in
              absurd (false≢true (sym (so_far.passed there.0 (omega (arith, there.1)) place.0 place.1 (sym is)) ∙ stands)))
        ]));
  };
  greatest = so_far.safe;
}
