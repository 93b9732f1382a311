-- A pool that grows keeps the values of its cells.
use Rattle.std.proofs.Common.{◌≡◌, ℕ, ◌≤◌, List, [], ◌∷◌, ◌++◌, length, get_or, refl, sym, ap, ◌∙◌, arith, append_assoc, append-nil, length-append}
use Rattle.std.proofs.Math.ListN.{get_or-append}
use Rattle.schema_types.specs.declared.types.Kind.{Kind}
use Rattle.schema_types.specs.declared.types.Kind.TheVariants as kind
use Rattle.csv_tables.specs.Cells.{value_of_cell, IsCell}
use Rattle.csv_tables.specs.Pools.{PoolBeginsWith}
use Rattle.csv_tables.specs.Reads.{AreCellsOfRow, IsCellOf}
use Rattle.csv_tables.specs.Rows.{Row}
use Rattle.csv_tables.specs.Values.{Value, Text}

pub begins_itself : (texts : List (List ℕ)) → PoolBeginsWith texts texts
begins_itself texts = record { more = []; grew = sym (append-nil texts) }

pub begins_then : (a b c : List (List ℕ)) → PoolBeginsWith a b → PoolBeginsWith b c → PoolBeginsWith a c
begins_then a b c p q = record { more = p.more ++ q.more; grew = q.grew ∙ ap (λ l. l ++ q.more) p.grew ∙ append_assoc a p.more q.more }

begins_long : (a b : List (List ℕ)) → PoolBeginsWith a b → length a ≤ length b
begins_long a b p = omega (arith, ap length p.grew, length-append a p.more)

pub is_cell-grown : (a b : List (List ℕ)) (k : Kind) (cell : ℕ) → PoolBeginsWith a b → IsCell a k cell → IsCell b k cell
is_cell-grown a b kind.Int cell p h = h
is_cell-grown a b (kind.Text most) cell p h = omega (arith, h, begins_long a b p)

pub value-grown : (a b : List (List ℕ)) (k : Kind) (cell : ℕ) → PoolBeginsWith a b → IsCell a k cell → value_of_cell b k cell ≡ value_of_cell a k cell
value-grown a b kind.Int cell p h = refl
value-grown a b (kind.Text most) cell p h = ap Text (ap (λ l. get_or l cell []) p.grew ∙ get_or-append a p.more [] cell h)

cell_of-grown : (a b : List (List ℕ)) (k : Kind) (value : Value) (cell : ℕ) → PoolBeginsWith a b → IsCellOf a k value cell → IsCellOf b k value cell
cell_of-grown a b k value cell p h = record { value_is = value-grown a b k cell p h.is_cell ∙ h.value_is; is_cell = is_cell-grown a b k cell p h.is_cell }

pub row-grown : (a b : List (List ℕ)) (kinds : List Kind) (row : Row) (cells : List ℕ) → PoolBeginsWith a b → AreCellsOfRow a kinds row cells → AreCellsOfRow b kinds row cells
row-grown a b [] [] [] p h = tt
row-grown a b [] [] (x ∷ xs) p h = absurd h
row-grown a b [] (v ∷ vs) cells p h = absurd h
row-grown a b (k ∷ ks) [] cells p h = absurd h
row-grown a b (k ∷ ks) (v ∷ vs) [] p h = absurd h
row-grown a b (k ∷ ks) (v ∷ vs) (x ∷ xs) p h = (cell_of-grown a b k v x p h.0, row-grown a b ks vs xs p h.1)

pub row-push : (texts : List (List ℕ)) (kinds : List Kind) (row : Row) (cells : List ℕ) (k : Kind) (value : Value) (cell : ℕ)
    → AreCellsOfRow texts kinds row cells → IsCellOf texts k value cell → AreCellsOfRow texts (kinds ++ k ∷ []) (row ++ value ∷ []) (cells ++ cell ∷ [])
row-push texts [] [] [] k value cell h c = (c, tt)
row-push texts [] [] (x ∷ xs) k value cell h c = absurd h
row-push texts [] (v ∷ vs) cells k value cell h c = absurd h
row-push texts (l ∷ ks) [] cells k value cell h c = absurd h
row-push texts (l ∷ ks) (v ∷ vs) [] k value cell h c = absurd h
row-push texts (l ∷ ks) (v ∷ vs) (x ∷ xs) k value cell h c = (h.0, row-push texts ks vs xs k value cell h.1 c)
