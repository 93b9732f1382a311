-- The list of all orders has exactly the orders of the entries, and is in lexicographic order.
use Rattle.std.proofs.Common.{◌≡◌, ℕ, zero, suc, ◌+◌, ◌<◌, ◌≤◌, Bool, true, false, eqb, List, [], ◌∷◌, ◌++◌, length, map, refl, ap, sym, subst, arith, inl, inr}
use Rattle.std.specs.Prelude.{filter, flat_map, not, ⊤}
use Rattle.std.specs.List.{AllByRecursion as Each, Contains, IsDistinct, range_with_len}
use Rattle.std.proofs.lemmas.Bool.{cases_Bool, cases_eq, not-true, not_from_false}
use Rattle.std.proofs.lemmas.Map.Keys.{IsDistinct-head, IsDistinct-tail, IsDistinct-cons}
use Rattle.plans.specs.LeftDeep.{IsOrder}
use Rattle.entry_sets.proofs.Listing.{at_member, in_front, not_in_empty, in_rest, in_front_or_rest}
use Rattle.order_search.specs.Orders.{IsNotAfter}
use Rattle.plan_answers.specs.BestOrder.{orders_of, all_orders}

-- ---- a property of each element of a list, carried over to a weaker property

pub each_so : {X : Type 0} (P Q : X → Type 0) → ((x : X) → P x → Q x) → (xs : List X) → Each P xs → Each Q xs
each_so P Q so [] h = tt
each_so P Q so (x ∷ xs) h = (so x h.0, each_so P Q so xs h.1)

each_any : {X : Type 0} (P : X → Type 0) → ((x : X) → P x) → (xs : List X) → Each P xs
each_any P so [] = tt
each_any P so (x ∷ xs) = (so x, each_any P so xs)

each_both : {X : Type 0} (P Q : X → Type 0) (xs : List X) → Each P xs → Each Q xs → Each (λ x. P x × Q x) xs
each_both P Q [] p q = tt
each_both P Q (x ∷ xs) p q = ((p.0, q.0), each_both P Q xs p.1 q.1)

pub each_append : {X : Type 0} (P : X → Type 0) (xs ys : List X) → Each P xs → Each P ys → Each P (xs ++ ys)
each_append P [] ys p q = q
each_append P (x ∷ xs) ys p q = (p.0, each_append P xs ys p.1 q)

pub each_of_two : {X : Type 0} (P : X → Type 0) (xs ys : List X) → Each P (xs ++ ys) → Each P xs × Each P ys
each_of_two P [] ys h = (tt, h)
each_of_two P (x ∷ xs) ys h = let rest : Each P xs × Each P ys = each_of_two P xs ys h.1 in ((h.0, rest.0), rest.1)

pub each_map : {X Y : Type 0} (P : Y → Type 0) (f : X → Y) (xs : List X) → Each (λ x. P (f x)) xs → Each P (map f xs)
each_map P f [] h = tt
each_map P f (x ∷ xs) h = (h.0, each_map P f xs h.1)

pub each_of_map : {X Y : Type 0} (P : Y → Type 0) (f : X → Y) (xs : List X) → Each P (map f xs) → Each (λ x. P (f x)) xs
each_of_map P f [] h = tt
each_of_map P f (x ∷ xs) h = (h.0, each_of_map P f xs h.1)

pub each_flat : {X Y : Type 0} (P : Y → Type 0) (f : X → List Y) (xs : List X) → Each (λ x. Each P (f x)) xs → Each P (flat_map f xs)
each_flat P f [] h = tt
each_flat P f (x ∷ xs) h = each_append P (f x) (flat_map f xs) h.0 (each_flat P f xs h.1)

pub each_of_flat : {X Y : Type 0} (P : Y → Type 0) (f : X → List Y) (xs : List X) → Each P (flat_map f xs) → Each (λ x. Each P (f x)) xs
each_of_flat P f [] h = tt
each_of_flat P f (x ∷ xs) h =
    let parts : Each P (f x) × Each P (flat_map f xs) = each_of_two P (f x) (flat_map f xs) h in (parts.0, each_of_flat P f xs parts.1)

-- ---- the entries except the first of an order

abbrev others : ℕ → List ℕ → List ℕ
others first entries = filter (λ entry. not (eqb first entry)) entries

filtered_still_hold : (P : ℕ → Type 0) (first : ℕ) (entries : List ℕ) → Each P entries → Each (λ entry. P entry × (eqb first entry ≡ false)) (others first entries)
filtered_still_hold P first [] h = tt
filtered_still_hold P first (entry ∷ entries) h = elim (cases_Bool (not (eqb first entry))) [
  | inl t ↦ rw t ((h.0, not-true (eqb first entry) t), filtered_still_hold P first entries h.1)
  | inr n ↦ rw n (filtered_still_hold P first entries h.1)
]

still_in : (test : ℕ → Bool) (xs : List ℕ) (y : ℕ) → Contains xs y → test y ≡ true → Contains (filter test xs) y
still_in test [] y k t = absurd (not_in_empty y k)
still_in test (x ∷ xs) y k t = elim (in_front_or_rest x xs y k) [
  | inl old ↦ elim (cases_Bool (test x)) [
    | inl keeps ↦ rw keeps (in_rest x (filter test xs) y (still_in test xs y old t))
    | inr drops ↦ rw drops (still_in test xs y old t)
  ]
  | inr same ↦ rw (subst (λ (z : ℕ). test z ≡ true) same t) (in_front x (filter test xs) y same)
]

-- ---- orders of some entries

record AreArranged (P : ℕ → Type 0) (count : ℕ) (order : List ℕ) : Type 0 where
  entries : Each P order
  once : IsDistinct eqb order
  all : length order ≡ count

none_distinct : IsDistinct eqb []
unfolding IsDistinct
none_distinct = tt

arranged_with_first : (P : ℕ → Type 0) (count first : ℕ) → P first → (rest : List ℕ) → AreArranged (λ entry. P entry × (eqb first entry ≡ false)) count rest → AreArranged P (suc count) (first ∷ rest)
arranged_with_first P count first p rest so = record {
  entries = (p, each_so (λ entry. P entry × (eqb first entry ≡ false)) P (λ entry both. both.0) rest so.entries);
  once = IsDistinct-cons eqb first rest (each_so (λ entry. P entry × (eqb first entry ≡ false)) (λ entry. eqb first entry ≡ false) (λ entry both. both.1) rest so.entries) so.once;
  all = ap suc so.all;
}

arranged : (P : ℕ → Type 0) (count : ℕ) (entries : List ℕ) → Each P entries → Each (AreArranged P count) (orders_of count entries)
arranged P zero entries h = (record { entries = tt; once = none_distinct; all = refl }, tt)
arranged P (suc count) entries h =
    each_flat (AreArranged P (suc count)) (λ first. map (λ rest. first ∷ rest) (orders_of count (others first entries))) entries
    (each_so P (λ first. Each (AreArranged P (suc count)) (map (λ rest. first ∷ rest) (orders_of count (others first entries))))
    (λ first p. each_map (AreArranged P (suc count)) (λ rest. first ∷ rest) (orders_of count (others first entries))
    (each_so (AreArranged (λ entry. P entry × (eqb first entry ≡ false)) count) (λ rest. AreArranged P (suc count) (first ∷ rest)) (arranged_with_first P count first p)
    (orders_of count (others first entries))
    (arranged (λ entry. P entry × (eqb first entry ≡ false)) count (others first entries) (filtered_still_hold P first entries h))))
    entries h)

at_arranged : (Q : List ℕ → Type 0) (count : ℕ) (entries order : List ℕ) → Each Q (orders_of count entries) → AreArranged (Contains entries) count order → Q order
at_arranged Q zero entries [] h is = h.0
at_arranged Q zero entries (x ∷ xs) h is = absurd (omega (arith, is.all))
at_arranged Q (suc count) entries [] h is = absurd (omega (arith, is.all))
at_arranged Q (suc count) entries (x ∷ xs) h is =
    at_arranged (λ rest. Q (x ∷ rest)) count (others x entries) xs
    (each_of_map Q (λ rest. x ∷ rest) (orders_of count (others x entries))
    (at_member (λ first. Each Q (map (λ rest. first ∷ rest) (orders_of count (others first entries)))) entries
    (each_of_flat Q (λ first. map (λ rest. first ∷ rest) (orders_of count (others first entries))) entries h) x is.entries.0))
    (record {
      entries = each_so (λ y. Contains entries y × (eqb x y ≡ false)) (Contains (others x entries))
          (λ y both. still_in (λ entry. not (eqb x entry)) entries y both.0 (not_from_false (eqb x y) both.1)) xs
          (each_both (Contains entries) (λ y. eqb x y ≡ false) xs is.entries.1 (IsDistinct-head eqb x xs is.once));
      once = IsDistinct-tail eqb x xs is.once;
      all = omega (arith, is.all);
    })

-- ---- lists of orders in lexicographic order

abbrev pub AreSorted : List (List ℕ) → Type 0
AreSorted [] = ⊤
AreSorted (x ∷ xs) = Each (IsNotAfter x) xs × AreSorted xs

are_sorted-append : (xs ys : List (List ℕ)) → AreSorted xs → AreSorted ys → Each (λ x. Each (IsNotAfter x) ys) xs → AreSorted (xs ++ ys)
are_sorted-append [] ys p q before = q
are_sorted-append (x ∷ xs) ys p q before = (each_append (IsNotAfter x) xs ys p.0 before.0, are_sorted-append xs ys p.1 q before.1)

are_sorted-arranged_with_first : (first : ℕ) (xs : List (List ℕ)) → AreSorted xs → AreSorted (map (λ rest. first ∷ rest) xs)
are_sorted-arranged_with_first first [] p = tt
are_sorted-arranged_with_first first (x ∷ xs) p = (
  each_map (IsNotAfter (first ∷ x)) (λ rest. first ∷ rest) xs (each_so (IsNotAfter x) (λ rest. IsNotAfter (first ∷ x) (first ∷ rest)) (λ rest q. inr (refl, q)) xs p.0),
  are_sorted-arranged_with_first first xs p.1,
)

abbrev Ascend : List ℕ → Type 0
Ascend [] = ⊤
Ascend (x ∷ xs) = Each (λ y. x < y) xs × Ascend xs

kept_of : (P : ℕ → Type 0) (test : ℕ → Bool) (xs : List ℕ) → Each P xs → Each P (filter test xs)
kept_of P test [] h = tt
kept_of P test (x ∷ xs) h = elim (cases_Bool (test x)) [
  | inl t ↦ rw t (h.0, kept_of P test xs h.1)
  | inr n ↦ rw n (kept_of P test xs h.1)
]

ascend-filtered_still_hold : (test : ℕ → Bool) (xs : List ℕ) → Ascend xs → Ascend (filter test xs)
ascend-filtered_still_hold test [] h = tt
ascend-filtered_still_hold test (x ∷ xs) h = elim (cases_Bool (test x)) [
  | inl t ↦ rw t (kept_of (λ y. x < y) test xs h.0, ascend-filtered_still_hold test xs h.1)
  | inr n ↦ rw n (ascend-filtered_still_hold test xs h.1)
]

are_sorted-firsts : (behind : ℕ → List (List ℕ)) → ((first : ℕ) → AreSorted (behind first)) → (firsts : List ℕ) → Ascend firsts → AreSorted (flat_map (λ first. map (λ rest. first ∷ rest) (behind first)) firsts)
are_sorted-firsts behind h [] a = tt
are_sorted-firsts behind h (x ∷ xs) a =
    are_sorted-append (map (λ rest. x ∷ rest) (behind x)) (flat_map (λ first. map (λ rest. first ∷ rest) (behind first)) xs)
    (are_sorted-arranged_with_first x (behind x) (h x))
    (are_sorted-firsts behind h xs a.1)
    (each_map (λ order. Each (IsNotAfter order) (flat_map (λ first. map (λ rest. first ∷ rest) (behind first)) xs)) (λ rest. x ∷ rest) (behind x)
    (each_any (λ rest. Each (IsNotAfter (x ∷ rest)) (flat_map (λ first. map (λ rest. first ∷ rest) (behind first)) xs)) before (behind x)))
  where
    before : (rest : List ℕ) → Each (IsNotAfter (x ∷ rest)) (flat_map (λ first. map (λ rest. first ∷ rest) (behind first)) xs)
    before rest =
        each_flat (IsNotAfter (x ∷ rest)) (λ first. map (λ rest. first ∷ rest) (behind first)) xs
        (each_so (λ y. x < y) (λ y. Each (IsNotAfter (x ∷ rest)) (map (λ rest. y ∷ rest) (behind y)))
        (λ y below. each_map (IsNotAfter (x ∷ rest)) (λ rest. y ∷ rest) (behind y) (each_any (λ other. IsNotAfter (x ∷ rest) (y ∷ other)) (λ other. inl below) (behind y)))
        xs a.0)

are_sorted : (count : ℕ) (entries : List ℕ) → Ascend entries → AreSorted (orders_of count entries)
are_sorted zero entries h = (tt, tt)
are_sorted (suc count) entries h =
    are_sorted-firsts (λ first. orders_of count (others first entries))
    (λ first. are_sorted count (others first entries) (ascend-filtered_still_hold (λ entry. not (eqb first entry)) entries h))
    entries h

-- ---- the list of the entries 0 to n - 1

range_above : (first count x : ℕ) → x < first → Each (λ y. x < y) (range_with_len first count)
range_above first zero x h = tt
range_above first (suc count) x h = (h, range_above (first + 1) count x (omega arith))

range_below : (first count n : ℕ) → first + count ≤ n → Each (λ y. y < n) (range_with_len first count)
range_below first zero n h = tt
range_below first (suc count) n h = (omega arith, range_below (first + 1) count n (omega arith))

range_ascends : (first count : ℕ) → Ascend (range_with_len first count)
range_ascends first zero = tt
range_ascends first (suc count) = (range_above (first + 1) count first (omega arith), range_ascends (first + 1) count)

in_range : (first count x : ℕ) → first ≤ x → x < first + count → Contains (range_with_len first count) x
in_range first zero x low high = absurd (omega arith)
in_range first (suc count) x low high = elim (cases_eq first x) [
  | inl same ↦ in_front first (range_with_len (first + 1) count) x (sym same)
  | inr apart ↦ in_rest first (range_with_len (first + 1) count) x (in_range (first + 1) count x (omega arith) (omega arith))
]

pub listed_are_orders : (n : ℕ) → Each (IsOrder n) (all_orders n)
listed_are_orders n =
    each_so (AreArranged (λ x. x < n) n) (IsOrder n) (λ order so. record { entries = so.entries; once = so.once; all = so.all }) (all_orders n)
    (arranged (λ x. x < n) n (range_with_len 0 n) (range_below 0 n n (omega arith)))

pub at_order : (Q : List ℕ → Type 0) (n : ℕ) → Each Q (all_orders n) → (order : List ℕ) → IsOrder n order → Q order
at_order Q n h order is =
    at_arranged Q n (range_with_len 0 n) order h
    (record { entries = each_so (λ x. x < n) (Contains (range_with_len 0 n)) (λ x below. in_range 0 n x (omega arith) (omega arith)) order is.entries; once = is.once; all = is.all })

pub all_in_order : (n : ℕ) → AreSorted (all_orders n)
all_in_order n = are_sorted n (range_with_len 0 n) (range_ascends 0 n)
