-- The list of a set's entries from a given entry on ascends, and it has exactly the entries whose bits are 1.
use Rattle.std.proofs.Common.{◌≡◌, ℕ, zero, suc, ◌+◌, ◌-◌, ◌^◌, ◌<◌, ◌≤◌, Bool, true, false, eqb, ltb, List, [], ◌∷◌, refl, ap, sym, ◌∙◌, subst, arith, inl, inr}
use Rattle.std.specs.Prelude.{filter, ◌&&◌, ◌⊎◌}
use Rattle.std.specs.List.{AllByRecursion, Contains, range_with_len}
use Rattle.std.specs.List.Sorted.{IsStrictlyIncreasing}
use Rattle.std.specs.Int.{bit_at}
use Rattle.std.proofs.lemmas.Bool.{cases_Bool, cases_eq, cases_lt, eq-eqb, eqb-true, lt-ltb, ltb-true, and_parts}
use Rattle.std.proofs.lemmas.Nat.Bits.{bit_at_above}
use Rattle.limits.specs.Profile.{greatest_entries}
use Rattle.entry_sets.specs.Sets.{entries_from, entries_of_set, has_entry}

-- ---- members of lists, ascending lists, and the numbers of a range

pub in_rest : {X : Type 0} (x : X) (xs : List X) (y : X) → Contains xs y → Contains (x ∷ xs) y
in_rest x xs y h = (suc h.0, omega (arith, h.1), h.2)

pub in_front : {X : Type 0} (x : X) (xs : List X) (y : X) → y ≡ x → Contains (x ∷ xs) y
in_front x xs y e = (0, omega arith, sym e)

pub not_in_empty : {X : Type 0} (y : X) → Contains [] y → ⊥
not_in_empty y h = omega (arith, h.1)

pub in_front_or_rest : {X : Type 0} (x : X) (xs : List X) (y : X) → Contains (x ∷ xs) y → Contains xs y ⊎ (y ≡ x)
in_front_or_rest x xs y (zero, h, e) = inr (sym e)
in_front_or_rest x xs y (suc k, h, e) = inl (k, omega (arith, h), e)

pub at_member : (Q : ℕ → Type 0) (xs : List ℕ) → AllByRecursion Q xs → (x : ℕ) → Contains xs x → Q x
at_member Q [] h x k = absurd (not_in_empty x k)
at_member Q (y ∷ ys) h x k = elim (in_front_or_rest y ys x k) [ inl old ↦ at_member Q ys h.1 x old | inr is ↦ subst Q (sym is) h.0 ]

pub increasing_with_front : (x : ℕ) (xs : List ℕ) → AllByRecursion (λ y. x < y) xs → IsStrictlyIncreasing xs → IsStrictlyIncreasing (x ∷ xs)
increasing_with_front x [] h r k l = absurd (omega (arith, l))
increasing_with_front x (y ∷ ys) h r zero l = h.0
increasing_with_front x (y ∷ ys) h r (suc k) l = let e : suc k + 1 ≡ suc (k + 1) = omega arith in rw e (r k (omega (arith, l)))

range_above : (first count : ℕ) (x : ℕ) → x < first → AllByRecursion (λ y. x < y) (range_with_len first count)
range_above first zero x h = tt
range_above first (suc count) x h = (h, range_above (first + 1) count x (omega arith))

range_below : (first count n : ℕ) → first + count ≤ n → AllByRecursion (λ y. y < n) (range_with_len first count)
range_below first zero n h = tt
range_below first (suc count) n h = (omega arith, range_below (first + 1) count n (omega arith))

filter_keeps_all : (Q : ℕ → Type 0) (test : ℕ → Bool) (xs : List ℕ) → AllByRecursion Q xs → AllByRecursion Q (filter test xs)
filter_keeps_all Q test [] h = tt
filter_keeps_all Q test (x ∷ xs) h = elim (cases_Bool (test x)) [
  | inl t ↦ rw t (h.0, filter_keeps_all Q test xs h.1)
  | inr n ↦ rw n (filter_keeps_all Q test xs h.1)
]

-- ---- the list of a set's entries ascends, and has the entries whose bits are 1

from_increase : (set first count : ℕ) → IsStrictlyIncreasing (entries_from set first count)
from_increase set first zero = λ k l. absurd (omega (arith, l))
from_increase set first (suc count) = elim (cases_Bool (eqb (bit_at set first) 1)) [
  | inl t ↦ rw t (increasing_with_front first (entries_from set (first + 1) count) (filter_keeps_all (λ y. first < y) (λ e. eqb (bit_at set e) 1) (range_with_len (first + 1) count) (range_above (first + 1) count first (omega arith))) (from_increase set (first + 1) count))
  | inr n ↦ rw n (from_increase set (first + 1) count)
]

pub set_increases : (set : ℕ) → IsStrictlyIncreasing (entries_of_set set)
unfolding entries_of_set
set_increases set = from_increase set 0 greatest_entries

pub set_entries_below_limit : (set : ℕ) → AllByRecursion (λ x. x < greatest_entries) (entries_of_set set)
unfolding entries_of_set
set_entries_below_limit set = filter_keeps_all (λ y. y < greatest_entries) (λ e. eqb (bit_at set e) 1) (range_with_len 0 greatest_entries) (range_below 0 greatest_entries greatest_entries (omega arith))

pub set_from : (set : ℕ) → entries_of_set set ≡ entries_from set 0 greatest_entries
unfolding entries_of_set
set_from set = refl

pub from_next : (set first count : ℕ) → eqb (bit_at set first) 1 ≡ true → entries_from set first (suc count) ≡ first ∷ entries_from set (first + 1) count
from_next set first count t = rw t refl

pub from_skip : (set first count : ℕ) → eqb (bit_at set first) 1 ≡ false → entries_from set first (suc count) ≡ entries_from set (first + 1) count
from_skip set first count n = rw n refl

from_in : (set first count x : ℕ) → first ≤ x → x < first + count → eqb (bit_at set x) 1 ≡ true → Contains (entries_from set first count) x
from_in set first zero x low high bit = absurd (omega arith)
from_in set first (suc count) x low high bit = elim (cases_eq first x) [
  | inl same ↦ rw (subst (λ (y : ℕ). eqb (bit_at set y) 1 ≡ true) (sym same) bit) (in_front first (entries_from set (first + 1) count) x (sym same))
  | inr apart ↦ elim (cases_Bool (eqb (bit_at set first) 1)) [
    | inl t ↦ rw t (in_rest first (entries_from set (first + 1) count) x (from_in set (first + 1) count x (omega arith) (omega arith) bit))
    | inr n ↦ rw n (from_in set (first + 1) count x (omega arith) (omega arith) bit)
  ]
]

pub listed_if_bit_is_set : (set x : ℕ) → x < greatest_entries → eqb (bit_at set x) 1 ≡ true → Contains (entries_of_set set) x
listed_if_bit_is_set set x h bit = subst (λ xs. Contains xs x) (sym (set_from set)) (from_in set 0 greatest_entries x (omega arith) (omega arith) bit)

filtered_pass : (test : ℕ → Bool) (xs : List ℕ) → AllByRecursion (λ x. test x ≡ true) (filter test xs)
filtered_pass test [] = tt
filtered_pass test (x ∷ xs) = elim (cases_Bool (test x)) [
  | inl t ↦ rw t (t, filtered_pass test xs)
  | inr n ↦ rw n (filtered_pass test xs)
]

pub set_bits : (set x : ℕ) → Contains (entries_of_set set) x → (x < greatest_entries) × (bit_at set x ≡ 1)
set_bits set x k = (
  at_member (λ y. y < greatest_entries) (entries_of_set set) (set_entries_below_limit set) x k,
  eqb-true (bit_at set x) 1 (at_member (λ y. eqb (bit_at set y) 1 ≡ true) (entries_from set 0 greatest_entries) (filtered_pass (λ e. eqb (bit_at set e) 1) (range_with_len 0 greatest_entries)) x (subst (λ xs. Contains xs x) (set_from set) k)),
)

pub set_bits_only : (set x : ℕ) → (x < greatest_entries) × (bit_at set x ≡ 1) → Contains (entries_of_set set) x
set_bits_only set x h = listed_if_bit_is_set set x h.0 (eq-eqb (bit_at set x) 1 h.1)

-- ---- an entry is in the set exactly if it is in the list of the set's entries

pub has_bit : (set x : ℕ) → has_entry set x ≡ true → (x < greatest_entries) × (bit_at set x ≡ 1)
has_bit set x h =
    let parts : (ltb x greatest_entries ≡ true) × (eqb (bit_at set x) 1 ≡ true) = and_parts (ltb x greatest_entries) (eqb (bit_at set x) 1) h in
    (ltb-true x greatest_entries parts.0, eqb-true (bit_at set x) 1 parts.1)

pub bit_has : (set x : ℕ) → (x < greatest_entries) × (bit_at set x ≡ 1) → has_entry set x ≡ true
bit_has set x h = rw (lt-ltb x greatest_entries h.0, eq-eqb (bit_at set x) 1 h.1) refl

pub set_entries : (set x : ℕ) → Contains (entries_of_set set) x → has_entry set x ≡ true
set_entries set x k = bit_has set x (set_bits set x k)

pub set_entries_only : (set x : ℕ) → has_entry set x ≡ true → Contains (entries_of_set set) x
set_entries_only set x h = set_bits_only set x (has_bit set x h)

pub entry_below : (n subset entry : ℕ) → subset < 2 ^ n → has_entry subset entry ≡ true → entry < n
entry_below n subset entry fits has =
    let bit : (entry < greatest_entries) × (bit_at subset entry ≡ 1) = has_bit subset entry has in
    elim (cases_lt entry n) [
      | inl below ↦ below
      | inr above ↦ absurd (omega (arith, bit.1, bit_at_above subset n entry fits above))
    ]

-- ---- the list from an entry on, with the entry and without it

second_is_false : (a b : Bool) → a ≡ true → (a && b) ≡ false → b ≡ false
second_is_false true b refl_a h = h
second_is_false false b is h = absurd (cc)

pub entries_from_member : (set i : ℕ) → i < greatest_entries → has_entry set i ≡ true → entries_from set i (greatest_entries - i) ≡ i ∷ entries_from set (i + 1) (greatest_entries - (i + 1))
entries_from_member set i low has =
    let more : greatest_entries - i ≡ suc (greatest_entries - (i + 1)) = omega arith in
    ap (entries_from set i) more ∙ from_next set i (greatest_entries - (i + 1)) (and_parts (ltb i greatest_entries) (eqb (bit_at set i) 1) has).1

pub entries_from_nonmember : (set i : ℕ) → i < greatest_entries → has_entry set i ≡ false → entries_from set i (greatest_entries - i) ≡ entries_from set (i + 1) (greatest_entries - (i + 1))
entries_from_nonmember set i low out =
    let more : greatest_entries - i ≡ suc (greatest_entries - (i + 1)) = omega arith in
    ap (entries_from set i) more ∙ from_skip set i (greatest_entries - (i + 1)) (second_is_false (ltb i greatest_entries) (eqb (bit_at set i) 1) (lt-ltb i greatest_entries low) out)

-- ---- for entries below `greatest_entries`, `has_entry` tests the entry's bit

pub bit_of_member : (set i : ℕ) → has_entry set i ≡ true → eqb (bit_at set i) 1 ≡ true
bit_of_member set i has = (and_parts (ltb i greatest_entries) (eqb (bit_at set i) 1) has).1

pub no_bit_of_nonmember : (set i : ℕ) → i < greatest_entries → has_entry set i ≡ false → eqb (bit_at set i) 1 ≡ false
no_bit_of_nonmember set i low out = second_is_false (ltb i greatest_entries) (eqb (bit_at set i) 1) (lt-ltb i greatest_entries low) out
