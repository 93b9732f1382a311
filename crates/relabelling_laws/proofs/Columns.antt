-- The laws about columns. Here the property P of the lemmas in Mapped and Ordered is: the number is in the column.
use Rattle.std.proofs.Common.{◌≡◌, ℕ, ◌<◌, Bool, List, map, length, get_or, sym, ◌∙◌, arith}
use Rattle.std.specs.List.{AllByRecursion, Contains, filter}
use Rattle.std.proofs.lemmas.List.{get_or-map, length-map}
use Rattle.std.proofs.lemmas.List.Elements.{All-contains, All-contains_itself, All-filter, Contains-get_or, recursion_from_All}
use Rattle.degree_sequences.specs.Degrees.{degree, degree_list}
use Rattle.cond_stats.specs.Frequency.{frequent, remaining}
use Rattle.cond_stats.specs.Leaves.{cuts, last_leaf_where}
use Rattle.relabelling_laws.specs.Relabelling.{IsOneToOne, KeepsOrder, PassAlike}
use Rattle.relabelling_laws.proofs.Mapped.{KeepsEqual, keeps_equal, degree-mapped, degree_list-mapped}
use Rattle.relabelling_laws.proofs.Ordered.{cuts-mapped, frequent-mapped, leaf-mapped, remaining-mapped}

pub column_contains_each : (column : List ℕ) → AllByRecursion (Contains column) column
column_contains_each column = recursion_from_All (Contains column) column (All-contains_itself column)

pub from_map : (f : ℕ → ℕ) (column : List ℕ) (n : ℕ) → Contains (map f column) n → (a : ℕ) × Contains column a × (n ≡ f a)
from_map f column n has =
    let within : has.0 < length column = omega (arith, has.1, length-map column f) in
    (get_or column has.0 0, Contains-get_or column has.0 0 within, sym has.2 ∙ get_or-map f column has.0 0 n within)

pub from_filter : (passes : ℕ → Bool) (column : List ℕ) (a : ℕ) → Contains (filter passes column) a → Contains column a
from_filter passes column a has =
    All-contains (Contains column) (filter passes column) a (All-filter passes (Contains column) column (All-contains_itself column)) has

pub equality_is_kept : (f : ℕ → ℕ) (column : List ℕ) → IsOneToOne f column → KeepsEqual (Contains column) f
equality_is_kept f column one = keeps_equal (Contains column) f one

pub degree_unchanged : (f : ℕ → ℕ) (column : List ℕ) (a : ℕ) → IsOneToOne f column → Contains column a
    → degree (map f column) (f a) ≡ degree column a
degree_unchanged f column a one has = degree-mapped (Contains column) f (equality_is_kept f column one) column (column_contains_each column) a has

pub degree_list_unchanged : (f : ℕ → ℕ) (column : List ℕ) → IsOneToOne f column → degree_list (map f column) ≡ degree_list column
degree_list_unchanged f column one = degree_list-mapped (Contains column) f (equality_is_kept f column one) column (column_contains_each column)

pub frequent_is : (f : ℕ → ℕ) (column : List ℕ) → IsOneToOne f column → frequent (map f column) ≡ map f (frequent column)
frequent_is f column one = frequent-mapped (Contains column) f (equality_is_kept f column one) column (column_contains_each column)

pub remaining_is : (f : ℕ → ℕ) (column : List ℕ) → IsOneToOne f column → remaining (map f column) ≡ map f (remaining column)
remaining_is f column one = remaining-mapped (Contains column) f (equality_is_kept f column one) column (column_contains_each column)

pub cuts_are : (at_most other : ℕ → ℕ → Bool) (f : ℕ → ℕ) (column : List ℕ) → KeepsOrder at_most other f column
    → cuts other (map f column) ≡ map f (cuts at_most column)
cuts_are at_most other f column alike = cuts-mapped (Contains column) at_most other f alike column (column_contains_each column)

pub leaf_is : (at_most other : ℕ → ℕ → Bool) (f : ℕ → ℕ) (column : List ℕ) (passes other_passes : ℕ → Bool)
    → KeepsOrder at_most other f column → PassAlike passes other_passes f column
    → last_leaf_where other (map f column) other_passes ≡ last_leaf_where at_most column passes
leaf_is at_most other f column passes other_passes alike same =
    leaf-mapped (Contains column) at_most other f alike passes other_passes same column (column_contains_each column)
