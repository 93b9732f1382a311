-- The tree of an order is a plan, and its right children are leaves.
use Rattle.std.proofs.Common.{◌≡◌, ℕ, suc, ◌+◌, ◌-◌, ◌*◌, ◌<◌, ◌≤◌, Bool, true, false, eqb, cond, List, [], ◌∷◌, length, refl, ap, sym, ◌∙◌, subst, arith, inl, inr}
use Rattle.std.specs.List.{AllByRecursion, IsDistinct, count_by, list_any}
use Rattle.std.proofs.lemmas.Bool.{cases_Bool, cases_eq, cases_lt, eqb-true, ne_eqb}
use Rattle.std.proofs.lemmas.Bool.Decides.{nat_tests}
use Rattle.std.proofs.lemmas.List.Sums.{sum_by-cons}
use Rattle.std.proofs.lemmas.Map.Keys.{IsDistinct-cons, IsDistinct-head, IsDistinct-tail}
use Rattle.std.proofs.lemmas.Map.Steps.{length-le_from_distinct_below}
use Rattle.plans.specs.LeftDeep.{IsOrder, IsPlan}
use Rattle.plans.specs.declared.left_deep.Plan.{Plan}
use Rattle.plans.specs.declared.bushy.Join.{Join}
use Rattle.plans.specs.Orders.{joins_along, joins_of_order, tree_of_order}
use Rattle.plans.specs.TreePlans.{joined_nodes, HaveHigherNumbers, IsTreePlan}
use Rattle.plans.proofs.Building.{join_of}

-- ---- how often a number is in a list

abbrev count_in : ℕ → List ℕ → ℕ
count_in x xs = count_by (λ other. eqb other x) xs

abbrev one_if_equal : ℕ → ℕ → ℕ
one_if_equal a b = cond (eqb a b) 1 0

one_same : (a b : ℕ) → a ≡ b → one_if_equal a b ≡ 1
one_same a b same = grind (arith, nat_tests)

one_other : (a b : ℕ) → (a ≡ b → ⊥) → one_if_equal a b ≡ 0
one_other a b other = ap (λ (v : Bool). cond v 1 0) (ne_eqb a b other)

times_more : (x y : ℕ) (ys : List ℕ) → count_in x (y ∷ ys) ≡ one_if_equal y x + count_in x ys
times_more x y ys = sum_by-cons (λ (z : ℕ). cond (eqb z x) 1 0) y ys

apart_from : (x y : ℕ) → eqb x y ≡ false → y ≡ x → ⊥
apart_from x y apart same = let here : eqb x y ≡ true = grind (arith, nat_tests) in cc

none_among : (x y : ℕ) (ys : List ℕ) → x ≡ y → AllByRecursion (λ z. eqb y z ≡ false) ys → count_in x ys ≡ 0
none_among x y [] same apart = refl
none_among x y (z ∷ ys) same apart =
    omega (arith, times_more x z ys, one_other z x (λ is. apart_from y z apart.0 (is ∙ same)), none_among x y ys same apart.1)

at_most_once : (x : ℕ) (ys : List ℕ) → IsDistinct eqb ys → count_in x ys ≤ 1
at_most_once x [] once = omega arith
at_most_once x (y ∷ ys) once = elim (cases_eq x y) [
  | inl same ↦ omega (arith, times_more x y ys, one_same y x (sym same), none_among x y ys same (IsDistinct-head eqb y ys once))
  | inr other ↦ omega (arith, times_more x y ys, one_other y x (λ is. other (sym is)), at_most_once x ys (IsDistinct-tail eqb y ys once))
]

apart_of_none : (x : ℕ) (ys : List ℕ) → count_in x ys ≡ 0 → AllByRecursion (λ y. eqb x y ≡ false) ys
apart_of_none x [] none = tt
apart_of_none x (y ∷ ys) none = elim (cases_eq x y) [
  | inl same ↦ absurd (omega (arith, none, times_more x y ys, one_same y x (sym same)))
  | inr other ↦ (ne_eqb x y other, apart_of_none x ys (omega (arith, none, times_more x y ys)))
]

pub all_below : (n : ℕ) (entries : List ℕ) → AllByRecursion (λ e. e < n) entries → (q : ℕ) → list_any (eqb q) entries ≡ true → q < n
all_below n [] below q some = cc
all_below n (e ∷ entries) below q some = elim (cases_Bool (eqb q e)) [
  | inl same ↦ (let here : q ≡ e = eqb-true q e same in omega (arith, below.0))
  | inr other ↦ all_below n entries below.1 q (rw other at some)
]

-- an order has each entry once. If an entry were missing, this entry and the order would make a list of n + 1 different numbers below n
entry_once : (n : ℕ) (order : List ℕ) → IsOrder n order → (entry : ℕ) → entry < n → count_in entry order ≡ 1
entry_once n order is entry low = elim (cases_eq (count_in entry order) 0) [
  | inr some ↦ omega (arith, at_most_once entry order is.once, some)
  | inl none ↦ (let more : length (entry ∷ order) ≤ n =
      length-le_from_distinct_below (entry ∷ order) n (IsDistinct-cons eqb entry order (apart_of_none entry order none) is.once) (all_below n (entry ∷ order) (low, is.entries)) in
      absurd (omega (arith, more, is.all)))
]

-- ---- the joins along some entries

along_length : (left own : ℕ) (entries bounds : List ℕ) → length bounds ≡ length entries → length (joins_along left own entries bounds) ≡ length entries
along_length left own [] bounds lengths = refl
along_length left own (e ∷ entries) [] lengths = absurd (omega arith)
along_length left own (e ∷ entries) (b ∷ bounds) lengths = ap suc (along_length own (own + 1) entries bounds (omega arith))

along_behind : (n left own : ℕ) (entries bounds : List ℕ) → left < own → n ≤ own → AllByRecursion (λ e. e < n) entries → HaveHigherNumbers own (joins_along left own entries bounds)
along_behind n left own [] bounds low from below = tt
along_behind n left own (e ∷ entries) [] low from below = tt
along_behind n left own (e ∷ entries) (b ∷ bounds) low from below = (low, omega (arith, below.0, from), along_behind n own (own + 1) entries bounds (omega arith) (omega arith) below.1)

along_leaves : (n left own : ℕ) (entries bounds : List ℕ) → AllByRecursion (λ e. e < n) entries → AllByRecursion (λ join. join.right < n) (joins_along left own entries bounds)
along_leaves n left own [] bounds below = tt
along_leaves n left own (e ∷ entries) [] below = tt
along_leaves n left own (e ∷ entries) (b ∷ bounds) below = (below.0, along_leaves n own (own + 1) entries bounds below.1)

abbrev times_joined : ℕ → List Join → ℕ
times_joined node joins = count_in node (joined_nodes joins)

named_more : (node : ℕ) (join : Join) (joins : List Join) → times_joined node (join ∷ joins) ≡ one_if_equal join.left node + one_if_equal join.right node + times_joined node joins
named_more node join joins =
    omega (arith, times_more node join.left (join.right ∷ joined_nodes joins), times_more node join.right (joined_nodes joins))

-- a node numbered below these joins, except the first left node, is joined as often as it occurs in `entries`
named_entry : (node left own : ℕ) (entries bounds : List ℕ) → length bounds ≡ length entries → node < own → (left ≡ node → ⊥) → times_joined node (joins_along left own entries bounds) ≡ count_in node entries
named_entry node left own [] bounds lengths low other = refl
named_entry node left own (e ∷ entries) [] lengths low other = absurd (omega arith)
named_entry node left own (e ∷ entries) (b ∷ bounds) lengths low other = omega (
  arith,
  named_more node (join_of left e b) (joins_along own (own + 1) entries bounds),
  one_other left node other,
  named_entry node own (own + 1) entries bounds (omega arith) (omega arith) (λ same. absurd (omega (arith, same))),
  times_more node e entries,
)

none_of_entries : (n node : ℕ) (entries : List ℕ) → n ≤ node → AllByRecursion (λ e. e < n) entries → count_in node entries ≡ 0
none_of_entries n node [] from below = refl
none_of_entries n node (e ∷ entries) from below =
    omega (arith, times_more node e entries, one_other e node (λ same. absurd (omega (arith, same, below.0, from))), none_of_entries n node entries from below.1)

first_left : (n own : ℕ) (entries bounds : List ℕ) → length bounds ≡ length entries → AllByRecursion (λ e. e < n) entries → n ≤ own → 1 ≤ length entries → times_joined own (joins_along own (own + 1) entries bounds) ≡ 1
first_left n own [] bounds lengths below from some = absurd (omega arith)
first_left n own (e ∷ entries) [] lengths below from some = absurd (omega arith)
first_left n own (e ∷ entries) (b ∷ bounds) lengths below from some = omega (
  arith,
  named_more own (join_of own e b) (joins_along (own + 1) (own + 1 + 1) entries bounds),
  one_same own own refl,
  one_other e own (λ same. absurd (omega (arith, same, below.0, from))),
  named_entry own (own + 1) (own + 1 + 1) entries bounds (omega arith) (omega arith) (λ same. absurd (omega (arith, same))),
  none_of_entries n own entries from below.1,
)

-- each join except the last is the left node of the next join, and isn't joined anywhere else
named_join : (n node left own : ℕ) (entries bounds : List ℕ) → length bounds ≡ length entries → AllByRecursion (λ e. e < n) entries → n ≤ own → own ≤ node → node + 1 < own + length entries → (left ≡ node → ⊥)
    → times_joined node (joins_along left own entries bounds) ≡ 1
named_join n node left own [] bounds lengths below from under within other = absurd (omega arith)
named_join n node left own (e ∷ entries) [] lengths below from under within other = absurd (omega arith)
named_join n node left own (e ∷ entries) (b ∷ bounds) lengths below from under within other =
    let rest : times_joined node (joins_along own (own + 1) entries bounds) ≡ 1 =
    elim (cases_eq own node) [
      | inr later ↦ named_join n node own (own + 1) entries bounds (omega arith) below.1 (omega arith) (omega (arith, under, later)) (omega arith) later
      | inl here ↦ ap (λ (m : ℕ). times_joined m (joins_along own (own + 1) entries bounds)) (sym here) ∙ first_left n own entries bounds (omega arith) below.1 from (omega (arith, within, here))
    ] in
    omega (arith, named_more node (join_of left e b) (joins_along own (own + 1) entries bounds), one_other left node other, one_other e node (λ same. absurd (omega (arith, same, below.0, from, under))), rest)

-- ---- the joins of an order

named_in_order : (n : ℕ) (order levels : List ℕ) → IsOrder n order → length levels ≡ length order → (node : ℕ) → node < 2 * n - 2 → times_joined node (joins_of_order n order levels) ≡ 1
named_in_order n [] levels is lengths node low = absurd (omega (arith, is.all))
named_in_order n (first ∷ others) [] is lengths node low = absurd (omega arith)
named_in_order n (first ∷ []) (l ∷ levels) is lengths node low = absurd (omega (arith, is.all))
named_in_order n (first ∷ second ∷ others) (l ∷ []) is lengths node low = absurd (omega arith)
named_in_order n (first ∷ second ∷ others) (l ∷ m ∷ levels) is lengths node low = elim (cases_lt node n) [
  | inl entry ↦ omega (
    arith,
    named_more node (join_of first second m) (joins_along n (n + 1) others levels),
    named_entry node n (n + 1) others levels (omega arith) (omega arith) (λ same. absurd (omega (arith, same))),
    times_more node first (second ∷ others),
    times_more node second others,
    entry_once n (first ∷ second ∷ others) is node entry,
  )
  | inr inner ↦ named_join n node first n (second ∷ others) (m ∷ levels) (omega arith) is.entries.1 (omega arith) inner (omega (arith, is.all, low)) (λ same. absurd (omega (arith, same, is.entries.0)))
]

pub order_length : (n : ℕ) (order levels : List ℕ) → 1 ≤ length order → length levels ≡ length order → length (joins_of_order n order levels) + 1 ≡ length order
order_length n [] levels some lengths = absurd (omega arith)
order_length n (first ∷ others) [] some lengths = absurd (omega arith)
order_length n (first ∷ others) (l ∷ levels) some lengths = omega (arith, along_length first n others levels (omega arith))

order_behind : (n : ℕ) (order levels : List ℕ) → AllByRecursion (λ e. e < n) order → HaveHigherNumbers n (joins_of_order n order levels)
order_behind n [] levels below = tt
order_behind n (first ∷ others) [] below = tt
order_behind n (first ∷ others) (l ∷ levels) below = along_behind n first n others levels below.0 (omega arith) below.1

pub order_leaves : (n : ℕ) (order levels : List ℕ) → AllByRecursion (λ e. e < n) order → AllByRecursion (λ join. join.right < n) (joins_of_order n order levels)
order_leaves n [] levels below = tt
order_leaves n (first ∷ others) [] below = tt
order_leaves n (first ∷ others) (l ∷ levels) below = along_leaves n first n others levels below.1

-- ---- the tree of a plan

pub order_is_tree : (n : ℕ) (plan : Plan) → 1 ≤ n → n ≤ 12 → IsPlan n plan → IsTreePlan n (tree_of_order plan)
order_is_tree n plan some few is =
    let lengths : length plan.levels ≡ length plan.order = is.levels ∙ sym is.order.all in
    subst (λ (m : ℕ). IsTreePlan n (record { joins = joins_of_order m plan.order plan.levels; scans = plan.scans; cost = (tree_of_order plan).cost })) (sym is.scans)
    (record {
      few = few;
      scans = is.scans;
      joins = order_length n plan.order plan.levels (omega (arith, is.order.all, some)) lengths ∙ is.order.all;
      behind = order_behind n plan.order plan.levels is.order.entries;
      once = named_in_order n plan.order plan.levels is.order lengths;
    })

pub right_leaves : (n : ℕ) (plan : Plan) → IsPlan n plan → AllByRecursion (λ join. join.right < n) (tree_of_order plan).joins
right_leaves n plan is =
    subst (λ (m : ℕ). AllByRecursion (λ join. join.right < n) (joins_of_order m plan.order plan.levels)) (sym is.scans) (order_leaves n plan.order plan.levels is.order.entries)
