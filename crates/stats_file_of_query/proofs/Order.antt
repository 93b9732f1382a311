-- Pairs that are made column by column ascend by their columns. Sections that are made table by table ascend by their tables.
use Rattle.std.proofs.Common.{◌≡◌, ℕ, zero, suc, ◌+◌, ◌<◌, Bool, List, [], ◌∷◌, ◌++◌, length, map, get_or, Option, None, Some, refl, arith}
use Rattle.std.specs.List.{AllByRecursion, AllPairs, cons_option, filter, filter_map, flat_map, list_any, range_with_len}
use Rattle.std.proofs.lemmas.Bool.{cond_both}
use Rattle.stats_file_of_query.specs.declared.column_pairs.ColumnPair.{ColumnPair}
use Rattle.stats_file_of_query.specs.ColumnPairs.{is_pair}
use Rattle.stats_file_of_query.specs.Files.{for_each_pair, joined_with}

abbrev pub IsOrderedBy : {X : Type 0} → (X → X → Type 0) → List X → Type 0
IsOrderedBy R [] = Unit {0}
IsOrderedBy R (x ∷ xs) = AllByRecursion (R x) xs × IsOrderedBy R xs

each_at : {X : Type 0} (P : X → Type 0) (xs : List X) → AllByRecursion P xs → (i : ℕ) (d : X) → i < length xs → P (get_or xs i d)
each_at P [] all i d low = absurd (omega (arith, low))
each_at P (x ∷ xs) all zero d low = all.0
each_at P (x ∷ xs) all (suc i) d low = each_at P xs all.1 i d (omega (arith, low))

pub all_pairs_if_ordered : {X : Type 0} (R : X → X → Type 0) (xs : List X) → IsOrderedBy R xs → AllPairs R xs
all_pairs_if_ordered R [] follow i j d before low = absurd (omega (arith, low))
all_pairs_if_ordered R (x ∷ xs) follow zero zero d before low = absurd (omega (arith, before))
all_pairs_if_ordered R (x ∷ xs) follow zero (suc j) d before low = each_at (R x) xs follow.0 j d (omega (arith, low))
all_pairs_if_ordered R (x ∷ xs) follow (suc i) zero d before low = absurd (omega (arith, before))
all_pairs_if_ordered R (x ∷ xs) follow (suc i) (suc j) d before low = all_pairs_if_ordered R xs follow.1 i j d (omega (arith, before)) (omega (arith, low))

all_weaker : {X : Type 0} (P Q : X → Type 0) → ((x : X) → P x → Q x) → (xs : List X) → AllByRecursion P xs → AllByRecursion Q xs
all_weaker P Q h [] all = tt
all_weaker P Q h (x ∷ xs) all = (h x all.0, all_weaker P Q h xs all.1)

all_appended : {X : Type 0} (P : X → Type 0) (xs ys : List X) → AllByRecursion P xs → AllByRecursion P ys → AllByRecursion P (xs ++ ys)
all_appended P [] ys all more = more
all_appended P (x ∷ xs) ys all more = (all.0, all_appended P xs ys all.1 more)

all_mapped : {X Y : Type 0} (P : Y → Type 0) (f : X → Y) (xs : List X) → AllByRecursion (λ x. P (f x)) xs → AllByRecursion P (map f xs)
all_mapped P f [] all = tt
all_mapped P f (x ∷ xs) all = (all.0, all_mapped P f xs all.1)

all_filtered : (P : ℕ → Type 0) (p : ℕ → Bool) (xs : List ℕ) → AllByRecursion P xs → AllByRecursion P (filter p xs)
all_filtered P p [] all = tt
all_filtered P p (x ∷ xs) all = cond_both (p x) (x ∷ filter p xs) (filter p xs) (AllByRecursion P) (λ e. (all.0, all_filtered P p xs all.1)) (λ e. all_filtered P p xs all.1)

pub ordered_append : {X : Type 0} (R : X → X → Type 0) (xs ys : List X) → IsOrderedBy R xs → IsOrderedBy R ys → AllByRecursion (λ x. AllByRecursion (R x) ys) xs → IsOrderedBy R (xs ++ ys)
ordered_append R [] ys follow more each = more
ordered_append R (x ∷ xs) ys follow more each = (all_appended (R x) xs ys follow.0 each.0, ordered_append R xs ys follow.1 more each.1)

ordered_map : {X Y : Type 0} (R : Y → Y → Type 0) (f : X → Y) (xs : List X) → IsOrderedBy (λ x y. R (f x) (f y)) xs → IsOrderedBy R (map f xs)
ordered_map R f [] follow = tt
ordered_map R f (x ∷ xs) follow = (all_mapped (R (f x)) f xs follow.0, ordered_map R f xs follow.1)

ordered_if_weaker : {X : Type 0} (R S : X → X → Type 0) → ((x y : X) → R x y → S x y) → (xs : List X) → IsOrderedBy R xs → IsOrderedBy S xs
ordered_if_weaker R S h [] follow = tt
ordered_if_weaker R S h (x ∷ xs) follow = (all_weaker (R x) (S x) (h x) xs follow.0, ordered_if_weaker R S h xs follow.1)

-- ---- numbers that ascend

pub range_ascends : (first count : ℕ) → IsOrderedBy (λ a b. a < b) (range_with_len first count)
range_ascends first zero = tt
range_ascends first (suc count) = (above first (first + 1) count (omega arith), range_ascends (first + 1) count)
  where
    above : (least first count : ℕ) → least < first → AllByRecursion (λ b. least < b) (range_with_len first count)
    above least first zero low = tt
    above least first (suc count) low = (low, above least (first + 1) count (omega (arith, low)))

pub filtered_ascend : (p : ℕ → Bool) (xs : List ℕ) → IsOrderedBy (λ a b. a < b) xs → IsOrderedBy (λ a b. a < b) (filter p xs)
filtered_ascend p [] follow = tt
filtered_ascend p (x ∷ xs) follow =
    cond_both (p x) (x ∷ filter p xs) (filter p xs) (IsOrderedBy (λ a b. a < b)) (λ e. (all_filtered (λ b. x < b) p xs follow.0, filtered_ascend p xs follow.1)) (λ e. filtered_ascend p xs follow.1)

-- ---- pairs, by the filter column and then by the joined column

module _ {A : Type 0} (make : ℕ → ℕ → A) (needed : List ColumnPair) (count : ℕ) (R : A → A → Type 0)
    (by_filter : (filter_column joined other also : ℕ) → filter_column < other → R (make filter_column joined) (make other also))
    (by_joined : (filter_column joined also : ℕ) → joined < also → R (make filter_column joined) (make filter_column also)) where
  abbrev block : ℕ → List A
  block column = map (make column) (joined_with needed count column)

  one_block : (column : ℕ) → IsOrderedBy R (block column)
  one_block column =
      ordered_map R (make column) (joined_with needed count column)
      (ordered_if_weaker (λ a b. a < b) (λ a b. R (make column a) (make column b)) (by_joined column) (joined_with needed count column)
      (filtered_ascend (λ joined. list_any (is_pair column joined) needed) (range_with_len 0 count) (range_ascends 0 count)))

  trivial : (xs : List ℕ) (P : ℕ → Type 0) → ((x : ℕ) → P x) → AllByRecursion P xs
  trivial [] P h = tt
  trivial (x ∷ xs) P h = (h x, trivial xs P h)

  later_blocks : (column joined : ℕ) (columns : List ℕ) → AllByRecursion (λ other. column < other) columns → AllByRecursion (R (make column joined)) (flat_map block columns)
  later_blocks column joined [] all = tt
  later_blocks column joined (other ∷ columns) all =
      all_appended (R (make column joined)) (block other) (flat_map block columns)
      (all_mapped (R (make column joined)) (make other) (joined_with needed count other)
      (trivial (joined_with needed count other) (λ also. R (make column joined) (make other also)) (λ also. by_filter column joined other also all.0)))
      (later_blocks column joined columns all.1)

  blocks : (columns : List ℕ) → IsOrderedBy (λ a b. a < b) columns → IsOrderedBy R (flat_map block columns)
  blocks [] follow = tt
  blocks (column ∷ columns) follow =
      ordered_append R (block column) (flat_map block columns) (one_block column) (blocks columns follow.1)
      (all_mapped (λ x. AllByRecursion (R x) (flat_map block columns)) (make column) (joined_with needed count column)
      (trivial (joined_with needed count column) (λ joined. AllByRecursion (R (make column joined)) (flat_map block columns))
      (λ joined. later_blocks column joined columns follow.0)))

  pub pairs_in_order : AllPairs R (for_each_pair make needed count)
  pairs_in_order = all_pairs_if_ordered R (for_each_pair make needed count) (blocks (range_with_len 0 count) (range_ascends 0 count))

-- ---- items made for some of the numbers of an ascending list

each_cons : {A : Type 0} (P : A → Type 0) (found : Option A) (rest : List A) → ((y : A) → found ≡ Some y → P y) → AllByRecursion P rest → AllByRecursion P (cons_option found rest)
each_cons P None rest h all = all
each_cons P (Some y) rest h all = (h y refl, all)

ordered_cons : {A : Type 0} (R : A → A → Type 0) (found : Option A) (rest : List A) → ((x : A) → found ≡ Some x → AllByRecursion (R x) rest) → IsOrderedBy R rest → IsOrderedBy R (cons_option found rest)
ordered_cons R None rest h follow = follow
ordered_cons R (Some x) rest h follow = (h x refl, follow)

module _ {A : Type 0} (make : ℕ → Option A) (number : A → ℕ) (is : (n : ℕ) (x : A) → make n ≡ Some x → number x ≡ n) where
  made_later : (n : ℕ) (x : A) → make n ≡ Some x → (ns : List ℕ) → AllByRecursion (λ m. n < m) ns → AllByRecursion (λ y. number x < number y) (filter_map make ns)
  made_later n x made [] all = tt
  made_later n x made (m ∷ ns) all =
      each_cons (λ y. number x < number y) (make m) (filter_map make ns) (λ y some. omega (arith, is n x made, is m y some, all.0)) (made_later n x made ns all.1)

  made_follow : (ns : List ℕ) → IsOrderedBy (λ a b. a < b) ns → IsOrderedBy (λ x y. number x < number y) (filter_map make ns)
  made_follow [] follow = tt
  made_follow (n ∷ ns) follow =
      ordered_cons (λ x y. number x < number y) (make n) (filter_map make ns) (λ x some. made_later n x some ns follow.0) (made_follow ns follow.1)

  pub made_in_order : (count : ℕ) → AllPairs (λ x y. number x < number y) (filter_map make (range_with_len 0 count))
  made_in_order count = all_pairs_if_ordered (λ x y. number x < number y) (filter_map make (range_with_len 0 count)) (made_follow (range_with_len 0 count) (range_ascends 0 count))
