-- The code keeps a worklist of the slots whose count is 0. The worklist has exactly these slots when it is made, and after a count is lowered.
use Rattle.std.proofs.Common.{◌≡◌, ℕ, zero, suc, ◌+◌, ◌-◌, ◌<◌, ◌≤◌, List, [], ◌∷◌, ◌++◌, length, get_or, set, take, refl, ap, sym, ◌∙◌, subst, arith, inl, inr, length-append}
use Rattle.std.specs.List.{Contains}
use Rattle.std.proofs.Math.ListN.{get_or-append}
use Rattle.std.proofs.lemmas.Bool.{cases_eq, cases_lt}
use Rattle.std.proofs.lemmas.List.{get_or_push, get_or-set_same, get_or-set_other, length-set, take_more, length-take-le}
use Rattle.std.proofs.lemmas.List.Elements.{Contains-append_left, Contains-append_right}
use Rattle.row_buf.specs.Rows.{Rows}
use Rattle.counted_sets.specs.Counts.{EmptySlotsAreListed, Extends, IsWorkOf, positive_count}

pub positive_count-set_zero : (counts : List ℕ) (q : ℕ) → q < length counts → 0 < get_or counts q 0 → positive_count (set counts q 0) + 1 ≡ positive_count counts
positive_count-set_zero [] q h is_positive = absurd (omega arith)
positive_count-set_zero (zero ∷ counts) zero h is_positive = absurd (omega arith)
positive_count-set_zero (suc n ∷ counts) zero h is_positive = omega arith
positive_count-set_zero (zero ∷ counts) (suc q) h is_positive = positive_count-set_zero counts q (omega arith) is_positive
positive_count-set_zero (suc n ∷ counts) (suc q) h is_positive = omega (arith, positive_count-set_zero counts q (omega arith) is_positive)

pub positive_count-set_some : (counts : List ℕ) (q n : ℕ) → q < length counts → 0 < get_or counts q 0 → positive_count (set counts q (suc n)) ≡ positive_count counts
positive_count-set_some [] q n h is_positive = absurd (omega arith)
positive_count-set_some (zero ∷ counts) zero n h is_positive = absurd (omega arith)
positive_count-set_some (suc m ∷ counts) zero n h is_positive = refl
positive_count-set_some (zero ∷ counts) (suc q) n h is_positive = positive_count-set_some counts q n (omega arith) is_positive
positive_count-set_some (suc m ∷ counts) (suc q) n h is_positive = ap suc (positive_count-set_some counts q n (omega arith) is_positive)

pub positive_count-push_zero : (counts : List ℕ) → positive_count (counts ++ 0 ∷ []) ≡ positive_count counts
positive_count-push_zero [] = refl
positive_count-push_zero (zero ∷ counts) = positive_count-push_zero counts
positive_count-push_zero (suc n ∷ counts) = ap suc (positive_count-push_zero counts)

pub positive_count-push_some : (counts : List ℕ) (m : ℕ) → positive_count (counts ++ suc m ∷ []) ≡ positive_count counts + 1
positive_count-push_some [] m = refl
positive_count-push_some (zero ∷ counts) m = positive_count-push_some counts m
positive_count-push_some (suc n ∷ counts) m = omega (arith, positive_count-push_some counts m)

pub pushed-last : (work : List ℕ) (q : ℕ) → Contains (work ++ q ∷ []) q
pushed-last work q = Contains-append_right work (q ∷ []) q (0, omega arith, refl)

pub pushed_place : (P : ℕ → Type 0) (work : List ℕ) (q p : ℕ) → p < length (work ++ q ∷ []) → (p < length work → P (get_or work p 0)) → P q → P (get_or (work ++ q ∷ []) p 0)
pushed_place P work q p h old last = elim (cases_lt p (length work)) [
  | inl before ↦ subst P (sym (get_or-append work (q ∷ []) 0 p before)) (old before)
  | inr behind ↦ subst P (sym (get_or_push work q 0 p (omega (arith, length-append work (q ∷ []))))) last
]

pub extends_same : (work : List ℕ) → Extends work work
extends_same work = record { longer = omega arith; same = λ p h. refl }

pub extends_more : (a b c : List ℕ) → Extends a b → Extends b c → Extends a c
extends_more a b c f g = record {
  longer = omega (arith, f.longer, g.longer);
  same = λ p h. g.same p (omega (arith, f.longer)) ∙ f.same p h;
}

pub listed_after_zero_count : (counts work : List ℕ) → EmptySlotsAreListed counts work → EmptySlotsAreListed (counts ++ 0 ∷ []) (work ++ length counts ∷ [])
listed_after_zero_count counts work slots_listed = record {
  within = λ p h. pushed_place (λ q. q < length (counts ++ 0 ∷ [])) work (length counts) p h (λ before. omega (arith, slots_listed.within p before, length-append counts (0 ∷ []))) (omega (arith, length-append counts (0 ∷ [])));
  zero_there = λ p h. pushed_place (λ q. get_or (counts ++ 0 ∷ []) q 0 ≡ 0) work (length counts) p h
      (λ before. get_or-append counts (0 ∷ []) 0 (get_or work p 0) (slots_listed.within p before) ∙ slots_listed.zero_there p before)
      (get_or_push counts 0 0 (length counts) refl);
  all_there = λ q h is. elim (cases_lt q (length counts)) [
    | inl before ↦ Contains-append_left work (length counts ∷ []) q (slots_listed.all_there q before (sym (get_or-append counts (0 ∷ []) 0 q before) ∙ is))
    | inr behind ↦ (let last : length counts ≡ q = omega (arith, length-append counts (0 ∷ [])) in subst (λ k. Contains (work ++ length counts ∷ []) k) last (pushed-last work (length counts)))
  ];
  room = omega (arith, slots_listed.room, length-append counts (0 ∷ []), length-append work (length counts ∷ []), positive_count-push_zero counts);
}

pub listed_after_positive_count : (counts work : List ℕ) (m : ℕ) → EmptySlotsAreListed counts work → EmptySlotsAreListed (counts ++ suc m ∷ []) work
listed_after_positive_count counts work m slots_listed = record {
  within = λ p h. omega (arith, slots_listed.within p h, length-append counts (suc m ∷ []));
  zero_there = λ p h. get_or-append counts (suc m ∷ []) 0 (get_or work p 0) (slots_listed.within p h) ∙ slots_listed.zero_there p h;
  all_there = λ q h is. elim (cases_lt q (length counts)) [
    | inl before ↦ slots_listed.all_there q before (sym (get_or-append counts (suc m ∷ []) 0 q before) ∙ is)
    | inr behind ↦ (let last : get_or (counts ++ suc m ∷ []) q 0 ≡ suc m = get_or_push counts (suc m) 0 q (omega (arith, length-append counts (suc m ∷ []))) in absurd (omega (arith, last, is)))
  ];
  room = omega (arith, slots_listed.room, length-append counts (suc m ∷ []), positive_count-push_some counts m);
}

listed_apart : (counts work : List ℕ) (q p : ℕ) → EmptySlotsAreListed counts work → 0 < get_or counts q 0 → p < length work → get_or work p 0 ≡ q → ⊥
listed_apart counts work q p slots_listed is_positive h is =
    let none : get_or counts q 0 ≡ 0 = subst (λ k. get_or counts k 0 ≡ 0) is (slots_listed.zero_there p h) in omega (arith, none, is_positive)

pub listed_after_last_giver : (counts work : List ℕ) (q : ℕ) → q < length counts → 0 < get_or counts q 0 → EmptySlotsAreListed counts work → EmptySlotsAreListed (set counts q 0) (work ++ q ∷ [])
listed_after_last_giver counts work q within is_positive slots_listed = record {
  within = λ p h. pushed_place (λ k. k < length (set counts q 0)) work q p h (λ before. omega (arith, slots_listed.within p before, length-set counts q 0)) (omega (arith, length-set counts q 0));
  zero_there = λ p h. pushed_place (λ k. get_or (set counts q 0) k 0 ≡ 0) work q p h
      (λ before. get_or-set_other counts q (get_or work p 0) 0 0 (listed_apart counts work q p slots_listed is_positive before) ∙ slots_listed.zero_there p before)
      (get_or-set_same counts q 0 0 within);
  all_there = λ k h is. elim (cases_eq k q) [
    | inl same ↦ subst (λ j. Contains (work ++ q ∷ []) j) (sym same) (pushed-last work q)
    | inr apart ↦ Contains-append_left work (q ∷ []) k (slots_listed.all_there k (omega (arith, length-set counts q 0)) (sym (get_or-set_other counts q k 0 0 apart) ∙ is))
  ];
  room = omega (arith, slots_listed.room, length-set counts q 0, length-append work (q ∷ []), positive_count-set_zero counts q within is_positive);
}

pub listed_after_one_giver_less : (counts work : List ℕ) (q n : ℕ) → q < length counts → 0 < get_or counts q 0 → EmptySlotsAreListed counts work → EmptySlotsAreListed (set counts q (suc n)) work
listed_after_one_giver_less counts work q n within is_positive slots_listed = record {
  within = λ p h. omega (arith, slots_listed.within p h, length-set counts q (suc n));
  zero_there = λ p h. get_or-set_other counts q (get_or work p 0) (suc n) 0 (listed_apart counts work q p slots_listed is_positive h) ∙ slots_listed.zero_there p h;
  all_there = λ k h is. elim (cases_eq k q) [
    | inl same ↦ (let now : get_or (set counts q (suc n)) q 0 ≡ suc n = get_or-set_same counts q (suc n) 0 within in
        absurd (omega (arith, now, subst (λ j. get_or (set counts q (suc n)) j 0 ≡ 0) same is)))
    | inr apart ↦ slots_listed.all_there k (omega (arith, length-set counts q (suc n))) (sym (get_or-set_other counts q k (suc n) 0 apart) ∙ is)
  ];
  room = omega (arith, slots_listed.room, length-set counts q (suc n), positive_count-set_some counts q n within is_positive);
}

pub slot_not_listed_yet : (counts : List ℕ) (q : ℕ) → q < length counts → 0 < get_or counts q 0 → 1 ≤ positive_count counts
slot_not_listed_yet counts q within is_positive = omega (arith, positive_count-set_zero counts q within is_positive)

pub work_after_last_giver : (counts : List ℕ) (work new : Rows ℕ) (q left : ℕ) → q < length counts → 0 < get_or counts q 0 → left ≡ 0 → new.items ≡ work.items ++ q ∷ [] → new.spare + 1 ≡ work.spare → IsWorkOf counts work
    → IsWorkOf (set counts q left) new
work_after_last_giver counts work new q left within is_positive last items spare are = record {
  listed = subst (λ n. EmptySlotsAreListed (set counts q n) new.items) (sym last) (subst (EmptySlotsAreListed (set counts q 0)) (sym items) (listed_after_last_giver counts work.items q within is_positive are.listed));
  spare = omega (arith, spare, are.spare, positive_count-set_zero counts q within is_positive, ap (λ n. positive_count (set counts q n)) last);
}

pub work_after_one_giver_less : (counts : List ℕ) (work : Rows ℕ) (q left : ℕ) → q < length counts → 0 < get_or counts q 0 → (left ≡ 0 → ⊥) → IsWorkOf counts work → IsWorkOf (set counts q left) work
work_after_one_giver_less counts work q zero within is_positive more are = absurd (more refl)
work_after_one_giver_less counts work q (suc n) within is_positive more are = record {
  listed = listed_after_one_giver_less counts work.items q n within is_positive are.listed;
  spare = are.spare ∙ sym (positive_count-set_some counts q n within is_positive);
}

pub slots_after_zero_count : (counts work : List ℕ) (slot : ℕ) → slot < length counts → get_or counts slot 0 ≡ 0 → EmptySlotsAreListed (take slot counts) work → EmptySlotsAreListed (take (slot + 1) counts) (work ++ slot ∷ [])
slots_after_zero_count counts work slot h none slots_listed =
    let size : length (take slot counts) ≡ slot = length-take-le slot counts (omega arith) in
    let next : take (slot + 1) counts ≡ take slot counts ++ 0 ∷ [] = take_more counts slot 0 h ∙ ap (λ c. take slot counts ++ c ∷ []) none in
    subst (λ k. EmptySlotsAreListed (take (slot + 1) counts) (work ++ k ∷ [])) size (subst (λ l. EmptySlotsAreListed l (work ++ length (take slot counts) ∷ [])) (sym next) (listed_after_zero_count (take slot counts) work slots_listed))

pub slots_after_positive_count : (counts work : List ℕ) (slot : ℕ) → slot < length counts → (get_or counts slot 0 ≡ 0 → ⊥) → EmptySlotsAreListed (take slot counts) work → EmptySlotsAreListed (take (slot + 1) counts) work
slots_after_positive_count counts work slot h some slots_listed = by_cases (get_or counts slot 0) refl
  where
    by_cases : (c : ℕ) → get_or counts slot 0 ≡ c → EmptySlotsAreListed (take (slot + 1) counts) work
    by_cases zero is = absurd (some is)
    by_cases (suc m) is = subst (λ l. EmptySlotsAreListed l work) (sym (take_more counts slot 0 h ∙ ap (λ c. take slot counts ++ c ∷ []) is)) (listed_after_positive_count (take slot counts) work m slots_listed)
