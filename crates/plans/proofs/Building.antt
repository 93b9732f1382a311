-- The joins of an order are made one after another.
use Rattle.std.proofs.Common.{◌≡◌, ℕ, zero, suc, ◌+◌, ◌-◌, ◌<◌, ◌≤◌, Bool, cond, List, [], ◌∷◌, ◌++◌, length, max, take, set, get_or, refl, ap, sym, ◌∙◌, arith}
use Rattle.std.proofs.lemmas.Bool.{ne_eqb}
use Rattle.std.proofs.lemmas.List.{length-take-le, take_more, take_more_set}
use Rattle.plans.specs.declared.bushy.Join.{Join}
use Rattle.plans.specs.Orders.{greatest_bound, joins_along, joins_of_order, level_node}

abbrev pub join_of : ℕ → ℕ → ℕ → Join
join_of left entry bound = record { left = left; right = entry; bound = bound }

-- the node that is joined after m entries
abbrev node_after : ℕ → ℕ → ℕ → ℕ
node_after left own zero = left
node_after left own (suc m) = own + m

along_more : (left own : ℕ) (entries bounds : List ℕ) (entry bound : ℕ) → length bounds ≡ length entries
    → joins_along left own (entries ++ entry ∷ []) (bounds ++ bound ∷ []) ≡ joins_along left own entries bounds ++ join_of (node_after left own (length entries)) entry bound ∷ []
along_more left own [] [] entry bound lengths = refl
along_more left own [] (b ∷ bounds) entry bound lengths = absurd (omega arith)
along_more left own (e ∷ entries) [] entry bound lengths = absurd (omega arith)
along_more left own (e ∷ entries) (b ∷ bounds) entry bound lengths =
    ap (λ (s : List Join). join_of left e b ∷ s) (along_more own (own + 1) entries bounds entry bound (omega arith) ∙ ap (λ (m : ℕ). joins_along own (own + 1) entries bounds ++ join_of m entry bound ∷ []) (next (length entries)))
  where
    next : (m : ℕ) → node_after own (own + 1) m ≡ node_after left own (suc m)
    next zero = omega arith
    next (suc m) = omega arith

-- from level 2 on, the node of a level is an inner node
pub level_later : (n : ℕ) (order : List ℕ) (k : ℕ) → 2 ≤ k → level_node n order k ≡ n + (k - 2)
level_later n order k later = ap (λ (b : Bool). cond b (get_or order 0 0) (n + (k - 2))) (ne_eqb k 1 (λ same. absurd (omega (arith, same))))

order_more : (n : ℕ) (order levels : List ℕ) (entry level k : ℕ) → length levels ≡ length order → k ≡ length order → 1 ≤ k
    → joins_of_order n (order ++ entry ∷ []) (levels ++ level ∷ []) ≡ joins_of_order n order levels ++ join_of (level_node n order k) entry level ∷ []
order_more n [] levels entry level k lengths is some = absurd (omega arith)
order_more n (first ∷ others) [] entry level k lengths is some = absurd (omega arith)
order_more n (first ∷ others) (l ∷ levels) entry level k lengths is some =
    along_more first n others levels entry level (omega arith) ∙ ap (λ (m : ℕ). joins_along first n others levels ++ join_of m entry level ∷ []) (here others k (omega arith))
  where
    here : (others : List ℕ) (k : ℕ) → k ≡ length others + 1 → node_after first n (length others) ≡ level_node n (first ∷ others) k
    here [] k is = let one : k ≡ 1 = omega arith in sym (ap (λ (j : ℕ). level_node n (first ∷ []) j) one)
    here (other ∷ others) k is =
        let same : n + length others ≡ n + (k - 2) = omega (arith, is) in
        same ∙ sym (level_later n (first ∷ other ∷ others) k (omega (arith, is)))

level_node_taken : (n : ℕ) (order : List ℕ) (k : ℕ) → 1 ≤ k → level_node n (take k order) k ≡ level_node n order k
level_node_taken n [] zero some = absurd (omega arith)
level_node_taken n [] (suc k) some = refl
level_node_taken n (first ∷ others) zero some = absurd (omega arith)
level_node_taken n (first ∷ others) (suc k) some = refl

-- one more join is that of the next entry
pub next_join : (n : ℕ) (order levels : List ℕ) (k : ℕ) (d e : ℕ) → length levels ≡ length order → 1 ≤ k → k < length order → (joins : List Join) → joins ≡ joins_of_order n (take k order) (take k levels)
    → joins ++ join_of (level_node n order k) (get_or order k d) (get_or levels k e) ∷ [] ≡ joins_of_order n (take (k + 1) order) (take (k + 1) levels)
next_join n order levels k d e lengths some low joins so_far =
    let first : length (take k order) ≡ k = length-take-le k order (omega arith) in
    let firsts : length (take k levels) ≡ k = length-take-le k levels (omega arith) in
    ap (λ (s : List Join). s ++ join_of (level_node n order k) (get_or order k d) (get_or levels k e) ∷ []) so_far
    ∙ ap (λ (m : ℕ). joins_of_order n (take k order) (take k levels) ++ join_of m (get_or order k d) (get_or levels k e) ∷ []) (sym (level_node_taken n order k some))
    ∙ sym (order_more n (take k order) (take k levels) (get_or order k d) (get_or levels k e) k (omega arith) (sym first) some)
    ∙ ap (λ (s : List ℕ). joins_of_order n s (take k levels ++ get_or levels k e ∷ [])) (sym (take_more order k d low))
    ∙ ap (joins_of_order n (take (k + 1) order)) (sym (take_more levels k e (omega arith)))

pub greatest_more : (joins : List Join) (join : Join) → greatest_bound (joins ++ join ∷ []) ≡ max join.bound (greatest_bound joins)
greatest_more [] join = refl
greatest_more (first ∷ joins) join = let rest = greatest_more joins join in omega (arith, rest)

pub next_written : (n : ℕ) (order levels : List ℕ) (k : ℕ) (d e left : ℕ) → length levels ≡ length order → 1 ≤ k → k < length order → (into : List Join) → length into + 1 ≡ length order → left ≡ level_node n order k
    → take (k - 1) into ≡ joins_of_order n (take k order) (take k levels)
    → take (k + 1 - 1) (set into (k - 1) (join_of left (get_or order k d) (get_or levels k e))) ≡ joins_of_order n (take (k + 1) order) (take (k + 1) levels)
next_written n order levels k d e left lengths some low into room is so_far =
    let join : Join = join_of left (get_or order k d) (get_or levels k e) in
    let place : k + 1 - 1 ≡ (k - 1) + 1 = omega (arith, some) in
    ap (λ (m : ℕ). take m (set into (k - 1) join)) place
    ∙ take_more_set into (k - 1) join (omega (arith, some, low, room))
    ∙ ap (λ (m : ℕ). take (k - 1) into ++ join_of m (get_or order k d) (get_or levels k e) ∷ []) is
    ∙ next_join n order levels k d e lengths some low (take (k - 1) into) so_far
