-- The bounds of scans and of sets that the code computes are those of the definitions.
use Rattle.std.proofs.Common.{◌≡◌, ℕ, zero, suc, ◌-◌, ◌<◌, ◌^◌, Bool, true, false, ◌||◌, eqb, List, [], ◌∷◌, map, length, get_or, Some, None, refl, ap, ◌∙◌, arith}
use Rattle.std.specs.Prelude.{IsSome, if◌then◌else◌}
use Rattle.std.specs.List.{range_with_len}
use Rattle.std.proofs.lemmas.Bool.{and_from, eq-eqb, lt-ltb, or_left}
use Rattle.std.proofs.lemmas.List.{length-map}
use Rattle.std.proofs.lemmas.List.FromFn.{get_or-map-range_with_len, length-range_with_len}
use Rattle.std.proofs.lemmas.Nat.{pow_pos}
use Rattle.degree_sequences.specs.Saturation.{saturated}
use Rattle.berge_tree.specs.declared.edges.Edge.{Edge}
use Rattle.berge_tree.specs.declared.edges.Place.{Place}
use Rattle.berge_tree.specs.Equalities.{places_of}
use Rattle.query_types.specs.declared.types.Query.{Query}
use Rattle.tree_bounds.specs.TreeBounds.{EntryBounds}
use Rattle.tree_bounds.proofs.SmallSets.{empty_is}
use Rattle.bound_fold.specs.declared.lists.EntryLists.{EntryLists}
use Rattle.bound_fold.specs.Lists.{list_of, row_bound_of}
use Rattle.bound_fold.specs.Sets.{SetHasBounds}
use Rattle.bound_fold.proofs.TestedSets.{each_in_set, each_named_column}
use Rattle.set_bounds.specs.AllSets.{bound_in_128_bits, bounds_of_sets}
use Rattle.set_bounds.proofs.SetBySet.{bound_of_sets_at}
use Rattle.entry_sets.proofs.Listing.{entry_below}
use Rattle.query_bounds.specs.Bounds.{HoldsKnown, is_among, is_at, scan_list, scan_row_bound}
use Rattle.query_bounds.specs.Statistics.{Statistics}
use Rattle.query_bounds.proofs.Holding.{is_some_of}

-- ---- entries and columns that have a row bound and a list

pub row_bound_is_held : (query : Query) (known : Statistics) (n : ℕ) (places : List Place) (lists : EntryLists) → HoldsKnown query known n places lists → (entry : ℕ) → entry < n → row_bound_of lists entry ≡ Some (scan_row_bound query known entry)
row_bound_is_held query known n places lists held entry low = held.rows entry ∙ ap (λ (t : Bool). if t then Some (scan_row_bound query known entry) else None) (lt-ltb entry n low)

pub list_is_held : (query : Query) (known : Statistics) (n : ℕ) (places : List Place) (lists : EntryLists) → HoldsKnown query known n places lists → (entry column : ℕ) → is_among places entry column ≡ true
    → list_of lists entry column ≡ Some (scan_list query known entry column)
list_is_held query known n places lists held entry column among = held.columns entry column ∙ ap (λ (t : Bool). if t then Some (scan_list query known entry column) else None) among

at_itself : (p : Place) → is_at p.entry p.column p ≡ true
at_itself p = and_from (eqb p.entry p.entry) (eqb p.column p.column) (eq-eqb p.entry p.entry refl) (eq-eqb p.column p.column refl)

or_more : (a b c : Bool) → c ≡ true → (a || (b || c)) ≡ true
or_more true b c h = refl
or_more false true c h = refl
or_more false false c h = h

next_or : (a b c : Bool) → b ≡ true → (a || (b || c)) ≡ true
next_or true b c h = refl
next_or false b c h = rw h refl

pub both_among : (es : List Edge) (k : ℕ) (d : Edge) → k < length es
    → (is_among (places_of es) (get_or es k d).left.entry (get_or es k d).left.column ≡ true) × (is_among (places_of es) (get_or es k d).right.entry (get_or es k d).right.column ≡ true)
both_among [] k d low = absurd (omega arith)
both_among (e ∷ es) zero d low = (
  or_left (is_at e.left.entry e.left.column e.left) (is_at e.left.entry e.left.column e.right || is_among (places_of es) e.left.entry e.left.column) (at_itself e.left),
  next_or (is_at e.right.entry e.right.column e.left) (is_at e.right.entry e.right.column e.right) (is_among (places_of es) e.right.entry e.right.column) (at_itself e.right),
)
both_among (e ∷ es) (suc k) d low =
    let later = both_among es k d (omega arith) in
    let l : Place = (get_or es k d).left in
    let r : Place = (get_or es k d).right in (
      or_more (is_at l.entry l.column e.left) (is_at l.entry l.column e.right) (is_among (places_of es) l.entry l.column) later.0,
      or_more (is_at r.entry r.column e.left) (is_at r.entry r.column e.right) (is_among (places_of es) r.entry r.column) later.1,
    )

pub all_bounds_are_held : (query : Query) (known : Statistics) (n : ℕ) (es : List Edge) (lists : EntryLists) → HoldsKnown query known n (places_of es) lists → SetHasBounds lists es (2 ^ n - 1)
all_bounds_are_held query known n es lists held = record {
  rows = each_in_set (λ k. IsSome (row_bound_of lists k)) (2 ^ n - 1) (λ k low has. is_some_of (row_bound_of lists k) (scan_row_bound query known k)
      (row_bound_is_held query known n (places_of es) lists held k (entry_below n (2 ^ n - 1) k (omega (arith, pow_pos n)) has)));
  columns = each_named_column (λ entry column. IsSome (list_of lists entry column)) (2 ^ n - 1) es (λ k d low joins.
      let among = both_among es k d low in
      let l : Place = (get_or es k d).left in
      let r : Place = (get_or es k d).right in (
        is_some_of (list_of lists l.entry l.column) (scan_list query known l.entry l.column) (list_is_held query known n (places_of es) lists held l.entry l.column among.0),
        is_some_of (list_of lists r.entry r.column) (scan_list query known r.entry r.column) (list_is_held query known n (places_of es) lists held r.entry r.column among.1),
      ));
}

-- ---- the bound of an entry's scan

pub scan_at : (query : Query) (known : Statistics) (n entry : ℕ) (scans : List ℕ) → scans ≡ map (scan_row_bound query known) (range_with_len 0 n) → entry < n → get_or scans entry 0 ≡ scan_row_bound query known entry
scan_at query known n entry scans is low = ap (λ (s : List ℕ). get_or s entry 0) is ∙ get_or-map-range_with_len (scan_row_bound query known) 0 n entry entry 0 low (omega arith)

-- ---- the bounds of sets

pub set_count : (b : EntryBounds) (es : List Edge) (n : ℕ) → length (bounds_of_sets b es n) ≡ 2 ^ n
set_count b es n = length-map (range_with_len 0 (2 ^ n)) (bound_in_128_bits b es) ∙ length-range_with_len 0 (2 ^ n)

pub empty_set_bound : (b : EntryBounds) (es : List Edge) (n : ℕ) → get_or (bounds_of_sets b es n) 0 0 ≡ 1
empty_set_bound b es n =
    bound_of_sets_at b es n 0 (bounds_of_sets b es n) refl (pow_pos n)
    ∙ ap saturated (empty_is b es)
