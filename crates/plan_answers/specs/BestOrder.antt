-- The best order, by computation. It is the first order that is no worse than any order.
use Rattle.std.specs.Prelude.{ℕ, zero, suc, Bool, not, ◌&&◌, ◌||◌, ◌==◌, nat_lt, nat_le, List, [], ◌∷◌, map, filter, find, flat_map, unwrap_or}
use Rattle.std.specs.List.{list_all, range_with_len}
use Rattle.order_search.specs.Orders.{cost, total}

-- the orders of `count` of these entries. Each begins with one of the entries, followed by an order of `count - 1` of the others
abbrev pub orders_of : ℕ → List ℕ → List (List ℕ)
orders_of zero entries = [] ∷ []
orders_of (suc count) entries =
    flat_map (λ first. map (λ rest. first ∷ rest) (orders_of count (filter (λ entry. not (first == entry)) entries))) entries

-- all orders of the entries 0 to n - 1, in lexicographic order
abbrev pub all_orders : ℕ → List (List ℕ)
all_orders n = orders_of n (range_with_len 0 n)

-- whether the order costs less than the other order, or costs the same and has a total that is no greater
abbrev pub is_no_worse : List ℕ → List ℕ → List ℕ → Bool
is_no_worse bounds order other =
    nat_lt (cost bounds order) (cost bounds other)
    || ((cost bounds order == cost bounds other) && nat_le (total bounds order) (total bounds other))

-- the first order that is no worse than any order
unfoldable pub best_order : List ℕ → ℕ → List ℕ
best_order bounds n = unwrap_or (find (λ order. list_all (λ other. is_no_worse bounds order other) (all_orders n)) (all_orders n)) []
