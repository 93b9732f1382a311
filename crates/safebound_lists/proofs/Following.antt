-- The sum and the length of the list that valid runs stand for, and the loop that tests runs.
use Rattle.std.proofs.Common.{◌≡◌, ℕ, zero, suc, ◌+◌, ◌-◌, ◌*◌, ◌/◌, ◌<◌, ◌≤◌, ◌^◌, List, [], ◌∷◌, ◌++◌, length, take, replicate, ap, sym, ◌∙◌, subst, sum, arith}
use Rattle.std.specs.List.{AllByRecursion, All}
use Rattle.std.proofs.Math.Nat.{le-div_iff_mul-le}
use Rattle.std.proofs.lemmas.List.{append_assoc, append-nil, take_all, take_more}
use Rattle.std.proofs.lemmas.List.Folds.{sum_by-replicate}
use Rattle.std.proofs.lemmas.List.Sums.{sum_by-append, sum_by-cons}
use Rattle.std.proofs.lemmas.List.Elements.{All-from_recursion}
use borrow.Author.Count.{below_more}
use Rattle.safebound_lists.specs.declared.runs.Run.{Run}
use Rattle.safebound_lists.specs.Runs.{AreValid, IsValidAt, MayFollow, list_of, no_run, run_at}

-- ---- properties of all runs, after one more run and after the least degree is lowered

pub all_with_one_more : (P : Run → Type 0) (xs : List Run) (x : Run) → AllByRecursion P xs → P x → AllByRecursion P (xs ++ x ∷ [])
all_with_one_more P [] x all here = (here, tt)
all_with_one_more P (y ∷ xs) x all here = (all.0, all_with_one_more P xs x all.1 here)

pub last_satisfies : (P : Run → Type 0) (xs : List Run) (x : Run) → AllByRecursion P (xs ++ x ∷ []) → P x
last_satisfies P [] x all = all.0
last_satisfies P (y ∷ xs) x all = last_satisfies P xs x all.1

pub all_at_least_lower : (low least : ℕ) → low ≤ least → (xs : List Run) → AllByRecursion (λ e. least ≤ e.degree) xs → AllByRecursion (λ e. low ≤ e.degree) xs
all_at_least_lower low least h [] all = tt
all_at_least_lower low least h (x ∷ xs) all = (omega (arith, all.0), all_at_least_lower low least h xs all.1)

-- ---- the list that runs stand for, when one more run is added

pub list_with_one_more_run : (before : List Run) (run : Run) → list_of (before ++ run ∷ []) ≡ list_of before ++ replicate run.keys run.degree
list_with_one_more_run [] run = append-nil (replicate run.keys run.degree)
list_with_one_more_run (b ∷ bs) run =
    ap (λ (s : List ℕ). replicate b.keys b.degree ++ s) (list_with_one_more_run bs run)
    ∙ sym (append_assoc (replicate b.keys b.degree) (list_of bs) (replicate run.keys run.degree))

pub sum_with_one_more_run : (before : List Run) (run : Run) → sum (list_of (before ++ run ∷ [])) ≡ sum (list_of before) + run.keys * run.degree
sum_with_one_more_run before run =
    ap sum (list_with_one_more_run before run)
    ∙ sum_by-append (λ (x : ℕ). x) (list_of before) (replicate run.keys run.degree)
    ∙ ap (λ n. sum (list_of before) + n) (sum_by-replicate (λ (x : ℕ). x) run.keys run.degree)

elements_of_run : (v d n : ℕ) → v ≤ d → (s : List ℕ) → AllByRecursion (λ x. v ≤ x) s → AllByRecursion (λ x. v ≤ x) (replicate n d ++ s)
elements_of_run v d zero h s all = all
elements_of_run v d (suc n) h s all = (h, elements_of_run v d n h s all)

pub elements_at_least : (v : ℕ) (xs : List Run) → AllByRecursion (λ e. v ≤ e.degree) xs → AllByRecursion (λ x. v ≤ x) (list_of xs)
elements_at_least v [] all = tt
elements_at_least v (x ∷ xs) all = elements_of_run v x.degree x.keys all.0 (list_of xs) (elements_at_least v xs all.1)

pub may_be_pushed : (v : ℕ) (xs : List Run) → AllByRecursion (λ e. v ≤ e.degree) xs → All (λ x. v ≤ x) (list_of xs)
may_be_pushed v xs all = All-from_recursion (λ x. v ≤ x) (list_of xs) (elements_at_least v xs all)

pub list_is_no_longer_than_sum : (s : List ℕ) → AllByRecursion (λ x. 1 ≤ x) s → length s ≤ sum s
list_is_no_longer_than_sum [] all = omega arith
list_is_no_longer_than_sum (x ∷ s) all = omega (arith, all.0, list_is_no_longer_than_sum s all.1, sum_by-cons (λ (y : ℕ). y) x s)

keys_are_at_most_rows : (keys degree : ℕ) → 0 < degree → keys ≤ keys * degree
keys_are_at_most_rows zero degree h = omega arith
keys_are_at_most_rows (suc keys) degree h = omega (arith, keys_are_at_most_rows keys degree h)

pub room_for_keys_of_run : (before : List Run) (run : Run) → MayFollow before run → length (list_of before) + run.keys ≤ 2 ^ 48
room_for_keys_of_run before run may =
    omega (
      arith,
      list_is_no_longer_than_sum (list_of before) (elements_at_least 1 before (all_at_least_lower 1 run.degree (omega (arith, may.degree)) before may.descends)),
      keys_are_at_most_rows run.keys run.degree may.degree,
      sum_with_one_more_run before run,
      may.sum,
    )

-- ---- the test of the runs, one after another

-- The loop of `first_invalid_run` has found that the runs before index `place` are valid. `least` is their least degree, or 2^64 - 1 if there are
-- no runs before `place`. `remaining` is 2^48 minus the sum of their list
pub record IsTested (runs : List Run) (place least remaining : ℕ) : Type 0 where
  pub valid : (i : ℕ) → i < place → IsValidAt runs i
  pub least_below : AllByRecursion (λ e. least ≤ e.degree) (take place runs)
  pub greatest : (x : ℕ) → x < 2 ^ 64 → AllByRecursion (λ e. x ≤ e.degree) (take place runs) → x ≤ least
  pub sums : remaining + sum (list_of (take place runs)) ≡ 2 ^ 48

pub no_run_is_tested_yet : (runs : List Run) → IsTested runs 0 18446744073709551615 281474976710656
no_run_is_tested_yet runs = record {
  valid = λ i h. absurd (omega arith);
  least_below = tt;
  greatest = λ x h all. omega arith;
  sums = omega arith;
}

module _ (runs : List Run) (place least remaining : ℕ) (tested : IsTested runs place least remaining) (place_exists : place < length runs) where
  next_runs_are : take (place + 1) runs ≡ take place runs ++ run_at runs place ∷ []
  next_runs_are = take_more runs place no_run place_exists

  -- A run is invalid in two cases. Its degree is above `least`, or it has more keys than `remaining` divided by its degree
  pub rising_degree_is_invalid : (run_at runs place).degree < 2 ^ 64 → least < (run_at runs place).degree → IsValidAt runs place → ⊥
  rising_degree_is_invalid fits above may = absurd (omega (arith, tested.greatest (run_at runs place).degree fits may.descends))

  pub too_many_keys_are_invalid : 0 < (run_at runs place).degree → remaining / (run_at runs place).degree < (run_at runs place).keys → IsValidAt runs place → ⊥
  too_many_keys_are_invalid some above may =
      let within : (run_at runs place).keys * (run_at runs place).degree ≤ remaining = omega (arith, sum_with_one_more_run (take place runs) (run_at runs place), may.sum, tested.sums) in
      absurd (omega (arith, above, (le-div_iff_mul-le {k = (run_at runs place).degree} {x = (run_at runs place).keys} {y = remaining} some).1 within))

  -- a run that passes all four tests is valid
  module _ (degree : 0 < (run_at runs place).degree) (keys : 0 < (run_at runs place).keys) (descends : (run_at runs place).degree ≤ least)
      (fits : (run_at runs place).keys ≤ remaining / (run_at runs place).degree) where
    pub keys_fit_remaining : (run_at runs place).keys * (run_at runs place).degree ≤ remaining
    keys_fit_remaining = (le-div_iff_mul-le {k = (run_at runs place).degree} {x = (run_at runs place).keys} {y = remaining} degree).0 fits

    may_follow : IsValidAt runs place
    may_follow = record {
      degree = degree;
      keys = keys;
      descends = all_at_least_lower (run_at runs place).degree least descends (take place runs) tested.least_below;
      sum = omega (arith, sum_with_one_more_run (take place runs) (run_at runs place), tested.sums, keys_fit_remaining);
    }

    valid_so_far : (i : ℕ) → i < place + 1 → IsValidAt runs i
    valid_so_far = below_more (IsValidAt runs) place tested.valid may_follow

    pub one_more_tested : IsTested runs (place + 1) (run_at runs place).degree (remaining - (run_at runs place).degree * (run_at runs place).keys)
    one_more_tested = record {
      valid = valid_so_far;
      least_below = subst (AllByRecursion (λ e. (run_at runs place).degree ≤ e.degree)) (sym next_runs_are)
          (all_with_one_more (λ e. (run_at runs place).degree ≤ e.degree) (take place runs) (run_at runs place) may_follow.descends (omega arith));
      greatest = λ x h all. last_satisfies (λ e. x ≤ e.degree) (take place runs) (run_at runs place) (subst (AllByRecursion (λ e. x ≤ e.degree)) next_runs_are all);
      sums = omega (arith, ap (λ (s : List Run). sum (list_of s)) next_runs_are, sum_with_one_more_run (take place runs) (run_at runs place), tested.sums, keys_fit_remaining);
    }

-- ---- the list that valid runs stand for sums to at most 2^48

pub valid_sum : (runs : List Run) → AreValid runs → sum (list_of runs) ≤ 2 ^ 48
valid_sum [] valid = omega arith
valid_sum (r ∷ rs) valid =
    let whole : take (length rs + 1) (r ∷ rs) ≡ r ∷ rs = take_all (length rs + 1) (r ∷ rs) (omega arith) in
    let last : take (length rs + 1) (r ∷ rs) ≡ take (length rs) (r ∷ rs) ++ run_at (r ∷ rs) (length rs) ∷ [] = take_more (r ∷ rs) (length rs) no_run (omega arith) in
    let may : IsValidAt (r ∷ rs) (length rs) = valid (length rs) (omega arith) in
    subst (λ (s : List Run). sum (list_of s) ≤ 2 ^ 48) (sym last ∙ whole) may.sum

-- ---- the loop of `pieces_of`, which adds the runs to a list one by one

module _ (runs : List Run) (i v : ℕ) (pieces : List ℕ) (so_far : pieces ≡ list_of (take i runs)) (value : v ≡ (run_at runs i).degree) (run_exists : i < length runs) (valid : AreValid runs) where
  pub next_falls : All (λ x. v ≤ x) pieces
  next_falls = rw (so_far, value) (may_be_pushed (run_at runs i).degree (take i runs) (valid i run_exists).descends)

  pub next_room : length pieces + (run_at runs i).keys < 2 ^ 64
  next_room = omega (arith, ap length so_far, room_for_keys_of_run (take i runs) (run_at runs i) (valid i run_exists))

  pub next_list : (longer : List ℕ) → longer ≡ pieces ++ replicate (run_at runs i).keys v → longer ≡ list_of (take (i + 1) runs)
  next_list longer is =
      is ∙ ap (λ (s : List ℕ). s ++ replicate (run_at runs i).keys v) so_far
      ∙ ap (λ x. list_of (take i runs) ++ replicate (run_at runs i).keys x) value
      ∙ sym (list_with_one_more_run (take i runs) (run_at runs i))
      ∙ ap list_of (sym (take_more runs i no_run run_exists))
