-- A list of different entries is an order of its set.
use Rattle.std.proofs.Common.{◌≡◌, ◌≢◌, ℕ, zero, suc, ◌+◌, ◌/◌, ◌%◌, ◌^◌, ◌<◌, ◌≤◌, true, false, eqb, nat_eq, List, [], ◌∷◌, length, take, refl, ap, sym, ◌∙◌, subst, arith, inl, inr}
use Rattle.std.specs.Int.{bit_at}
use Rattle.std.specs.List.{AllByRecursion, Contains, IsDistinct, range_with_len}
use Rattle.std.specs.Set.{is_member}
use Rattle.std.proofs.lemmas.Bool.{cases_Bool, cases_eq, eq-eqb, false≢true, ne_eqb}
use Rattle.std.proofs.lemmas.Cmp.{nat_eq_equiv}
use Rattle.std.proofs.lemmas.List.FromFn.{length-range_with_len}
use Rattle.std.proofs.lemmas.Map.Keys.{IsDistinct-head, IsDistinct-tail, IsDistinct-cons}
use Rattle.std.proofs.lemmas.Map.Made.{length-le_from_is_member}
use Rattle.std.proofs.lemmas.Nat.Bits.{bit_at_lowest, bit_at-suc, bit_at-zero, bit_at-lt}
use Rattle.entry_sets.specs.Sets.{entries_of_set, set_of}
use Rattle.entry_sets.proofs.Bits.{power_of_next, bit_added}
use Rattle.entry_sets.proofs.Listing.{set_bits, set_bits_only}
use Rattle.entry_sets.proofs.Listing.{in_front_or_rest, in_front, in_rest, not_in_empty}
use Rattle.tree_bounds.proofs.NearSets.{empty_is_distinct}
use Rattle.degree_sequences.proofs.Counting.{IsDistinct-filter}
use Rattle.degree_sequences.proofs.ProductDominates.{All-first}
use Rattle.level_bounds.specs.Orders.{IsOrderOfSet}
use Rattle.level_bounds.proofs.Lists.{at_member, from_members, is_in, test_of_member, in_from_test, in_range, range_within}

-- ---- ranges

pub range_distinct : (a n : ℕ) → IsDistinct nat_eq (range_with_len a n)
range_distinct a zero = empty_is_distinct
range_distinct a (suc n) =
    IsDistinct-cons nat_eq a (range_with_len (a + 1) n)
    (from_members (λ y. nat_eq a y ≡ false) (range_with_len (a + 1) n) (λ y k. ne_eqb a y (λ e. absurd (omega (arith, (range_within (a + 1) n y k).0, e)))))
    (range_distinct (a + 1) n)

pub set_is_distinct : (set : ℕ) → IsDistinct nat_eq (entries_of_set set)
unfolding entries_of_set
set_is_distinct set = IsDistinct-filter (λ entry. eqb (bit_at set entry) 1) (range_with_len 0 16) (range_distinct 0 16)

pub range_is_order : (n : ℕ) → IsOrderOfSet (range_with_len 0 n) (range_with_len 0 n)
range_is_order n = record {
  once = range_distinct 0 n;
  within = from_members (Contains (range_with_len 0 n)) (range_with_len 0 n) (λ x k. k);
  covers = from_members (Contains (range_with_len 0 n)) (range_with_len 0 n) (λ x k. k);
}

pub order_of_all : (n : ℕ) (order : List ℕ) → AllByRecursion (λ entry. entry < n) order → IsDistinct nat_eq order → length order ≡ n → IsOrderOfSet (range_with_len 0 n) order
order_of_all n order is_below once lengths = record {
  once = once;
  within = from_members (Contains (range_with_len 0 n)) order (λ x k. in_range 0 n x (omega arith) (omega (arith, at_member (λ entry. entry < n) order is_below x k)));
  covers = from_members (Contains order) (range_with_len 0 n) (λ x k. elim (cases_Bool (is_in order x)) [
    | inl here ↦ in_from_test order x here
    | inr gone ↦ absurd (omega (arith, one_more x gone (range_within 0 n x k).1, lengths, length-range_with_len 0 n))
  ]);
}
  where
    apart : (x : ℕ) → is_in order x ≡ false → (y : ℕ) → Contains order y → nat_eq x y ≡ false
    apart x gone y k = ne_eqb x y (λ e. false≢true (sym gone ∙ test_of_member order x (subst (Contains order) (sym e) k)))

    members : (x : ℕ) → x < 0 + n → (q : ℕ) → is_member nat_eq (x ∷ order) q ≡ true → is_member nat_eq (range_with_len 0 n) q ≡ true
    members x below q h = test_of_member (range_with_len 0 n) q (elim (in_front_or_rest x order q (in_from_test (x ∷ order) q h)) [
      | inl later ↦ in_range 0 n q (omega arith) (omega (arith, at_member (λ entry. entry < n) order is_below q later))
      | inr is ↦ in_range 0 n q (omega arith) (omega (arith, below, is))
    ])

    one_more : (x : ℕ) → is_in order x ≡ false → x < 0 + n → suc (length order) ≤ length (range_with_len 0 n)
    one_more x gone below =
        length-le_from_is_member nat_eq_equiv (x ∷ order) (range_with_len 0 n)
        (IsDistinct-cons nat_eq x order (from_members (λ y. nat_eq x y ≡ false) order (apart x gone)) once) (members x below)

-- ---- the bits of a list's set are the list's entries

pub other_bit_kept : (entry set other : ℕ) → bit_at set entry ≡ 0 → other ≢ entry → bit_at (2 ^ entry + set) other ≡ bit_at set other
other_bit_kept zero set zero out apart = absurd (apart refl)
other_bit_kept zero set (suc other) out apart =
    let even : set % 2 ≡ 0 = sym (bit_at_lowest set) ∙ out in
    let half : (1 + set) / 2 ≡ set / 2 = omega arith in
    bit_at-suc (1 + set) other ∙ ap (λ n. bit_at n other) half ∙ sym (bit_at-suc set other)
other_bit_kept (suc entry) set zero out apart =
    let lowest : (2 ^ suc entry + set) % 2 ≡ set % 2 = omega (arith, power_of_next entry) in
    bit_at_lowest (2 ^ suc entry + set) ∙ lowest ∙ sym (bit_at_lowest set)
other_bit_kept (suc entry) set (suc other) out apart =
    let half : (2 ^ suc entry + set) / 2 ≡ 2 ^ entry + set / 2 = omega (arith, power_of_next entry) in
    bit_at-suc (2 ^ suc entry + set) other
    ∙ ap (λ n. bit_at n other) half
    ∙ other_bit_kept entry (set / 2) other (sym (bit_at-suc set entry) ∙ out) (λ same. apart (ap suc same))
    ∙ sym (bit_at-suc set other)

pub bits_are_entries : (entries : List ℕ) → IsDistinct nat_eq entries → (x : ℕ) → (bit_at (set_of entries) x ≡ 1 → Contains entries x) × (Contains entries x → bit_at (set_of entries) x ≡ 1)
bits_are_entries [] d x = ((λ h. absurd (omega (arith, h, bit_at-zero x))), (λ k. absurd (not_in_empty x k)))
bits_are_entries (e ∷ entries) d x =
    let rest : (y : ℕ) → (bit_at (set_of entries) y ≡ 1 → Contains entries y) × (Contains entries y → bit_at (set_of entries) y ≡ 1) = bits_are_entries entries (IsDistinct-tail nat_eq e entries d) in
    let out : bit_at (set_of entries) e ≡ 0 = free (λ h. (rest e).0 h) in
    elim (cases_eq x e) [
      | inl same ↦ (
        (λ h. in_front e entries x same),
        (λ k. ap (bit_at (2 ^ e + set_of entries)) same ∙ bit_added e (set_of entries) out),
      )
      | inr apart ↦ (
        (λ h. in_rest e entries x ((rest x).0 (sym (other_bit_kept e (set_of entries) x out apart) ∙ h))),
        (λ k. other_bit_kept e (set_of entries) x out apart ∙ (rest x).1 (elim (in_front_or_rest e entries x k) [ inl later ↦ later | inr is ↦ absurd (apart is) ])),
      )
    ]
  where
    not_again : Contains entries e → ⊥
    not_again k = false≢true (sym (at_member (λ y. nat_eq e y ≡ false) entries (IsDistinct-head nat_eq e entries d) e k) ∙ eq-eqb e e refl)

    free : (bit_at (set_of entries) e ≡ 1 → Contains entries e) → bit_at (set_of entries) e ≡ 0
    free there = elim (cases_eq (bit_at (set_of entries) e) 0) [
      | inl none ↦ none
      | inr some ↦ absurd (not_again (there (omega (arith, bit_at-lt (set_of entries) e))))
    ]

pub order_of_set : (entries : List ℕ) → AllByRecursion (λ entry. entry < 16) entries → IsDistinct nat_eq entries → IsOrderOfSet (entries_of_set (set_of entries)) entries
order_of_set entries is_below once = record {
  once = once;
  within = from_members (Contains (entries_of_set (set_of entries))) entries
      (λ x k. set_bits_only (set_of entries) x (at_member (λ entry. entry < 16) entries is_below x k, (bits_are_entries entries once x).1 k));
  covers = from_members (Contains entries) (entries_of_set (set_of entries)) (λ x k. (bits_are_entries entries once x).0 (set_bits (set_of entries) x k).1);
}

-- ---- prefixes

distinct_taken : (k : ℕ) (xs : List ℕ) → IsDistinct nat_eq xs → IsDistinct nat_eq (take k xs)
distinct_taken zero xs d = empty_is_distinct
distinct_taken (suc k) [] d = empty_is_distinct
distinct_taken (suc k) (x ∷ xs) d =
    IsDistinct-cons nat_eq x (take k xs) (All-first (λ y. nat_eq x y ≡ false) k xs (IsDistinct-head nat_eq x xs d)) (distinct_taken k xs (IsDistinct-tail nat_eq x xs d))

pub prefix_of_order : (order : List ℕ) (k : ℕ) → AllByRecursion (λ entry. entry < 16) order → IsDistinct nat_eq order → IsOrderOfSet (entries_of_set (set_of (take k order))) (take k order)
prefix_of_order order k is_below once = order_of_set (take k order) (All-first (λ entry. entry < 16) k order is_below) (distinct_taken k order once)
