-- If a set has its row bounds and lists (`SetHasBounds`), each set within it has them too.
use Rattle.std.proofs.Common.{◌≡◌, ℕ, ◌-◌, ◌^◌, ◌<◌, true, List, get_or, inl, inr, arith}
use Rattle.std.specs.Prelude.{IsSome}
use Rattle.std.specs.Int.{bit_at}
use Rattle.std.proofs.lemmas.Bool.{cases_lt, and_parts, and_from}
use Rattle.std.proofs.lemmas.Nat.Bits.{bit_at_above, bit_at_ones}
use Rattle.limits.specs.Profile.{greatest_entries}
use Rattle.entry_sets.specs.Sets.{IsSubset, has_entry}
use Rattle.entry_sets.proofs.Listing.{bit_has, has_bit}
use Rattle.berge_tree.specs.declared.edges.Edge.{Edge}
use Rattle.join_graph.specs.Kept.{joins_within}
use Rattle.bound_fold.specs.declared.lists.EntryLists.{EntryLists}
use Rattle.bound_fold.specs.Lists.{list_of, row_bound_of}
use Rattle.bound_fold.specs.Sets.{SetHasBounds}
use Rattle.bound_fold.proofs.TestedSets.{each_in_set, each_named_column, entry_at, named_at}

pub joins_more : (subset whole : ℕ) → IsSubset subset whole → (e : Edge) → joins_within subset e ≡ true → joins_within whole e ≡ true
joins_more subset whole within e joins =
    let has : (has_entry subset e.left.entry ≡ true) × (has_entry subset e.right.entry ≡ true) = and_parts (has_entry subset e.left.entry) (has_entry subset e.right.entry) joins in
    and_from (has_entry whole e.left.entry) (has_entry whole e.right.entry) (within e.left.entry has.0) (within e.right.entry has.1)

pub has_bounds_within : (lists : EntryLists) (es : List Edge) (subset whole : ℕ) → IsSubset subset whole → SetHasBounds lists es whole → SetHasBounds lists es subset
has_bounds_within lists es subset whole within h = record {
  rows = each_in_set (λ k. IsSome (row_bound_of lists k)) subset (λ k low has. entry_at (λ k. IsSome (row_bound_of lists k)) whole h.rows k (within k has));
  columns = each_named_column (λ entry column. IsSome (list_of lists entry column)) subset es
      (λ k d low joins. named_at (λ entry column. IsSome (list_of lists entry column)) whole es h.columns k d low (joins_more subset whole within (get_or es k d) joins));
}

pub first_within : (n subset : ℕ) → subset < 2 ^ n → IsSubset subset (2 ^ n - 1)
first_within n subset fits entry has =
    let bit : (entry < greatest_entries) × (bit_at subset entry ≡ 1) = has_bit subset entry has in
    elim (cases_lt entry n) [
      | inl below ↦ bit_has (2 ^ n - 1) entry (bit.0, bit_at_ones n entry below)
      | inr above ↦ absurd (omega (arith, bit.1, bit_at_above subset n entry fits above))
    ]

pub first_entries_have_bounds : (lists : EntryLists) (es : List Edge) (n subset : ℕ) → SetHasBounds lists es (2 ^ n - 1) → subset < 2 ^ n → SetHasBounds lists es subset
first_entries_have_bounds lists es n subset h fits = has_bounds_within lists es subset (2 ^ n - 1) (first_within n subset fits) h
