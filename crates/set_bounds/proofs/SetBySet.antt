-- The bounds of sets are computed one after another, in the order of the sets' numbers.
use Rattle.std.proofs.Common.{◌≡◌, ◌⊎◌, ℕ, ◌+◌, ◌*◌, ◌-◌, ◌%◌, ◌^◌, ◌<◌, ◌≤◌, List, [], ◌∷◌, ◌++◌, get_or, length, ap, sym, ◌∙◌, pow_mono, arith}
use Rattle.std.specs.List.{AllByRecursion}
use Rattle.limits.specs.Profile.{greatest_entries}
use Rattle.std.proofs.lemmas.List.FromFn.{get_or-map-range_with_len, map-range_with_len_more}
use Rattle.entry_sets.specs.Sets.{entries_of_set}
use Rattle.berge_tree.specs.declared.edges.Edge.{Edge}
use Rattle.join_graph.specs.Kept.{equalities_within}
use Rattle.tree_bounds.specs.Tables.{KeyedTables, ChoicesAreDifferent, Satisfies, SetDominates}
use Rattle.tree_bounds.specs.TreeBounds.{EntryBounds}
use Rattle.bound_fold.specs.declared.lists.EntryLists.{EntryLists}
use Rattle.bound_fold.specs.Lists.{bounds_of}
use Rattle.bound_fold.specs.Sets.{SetHasBounds}
use Rattle.bound_fold.proofs.SetBounds.{set_never_under}
use Rattle.set_bounds.specs.AllSets.{bound_in_128_bits, bounds_below, bounds_in_sets, bounds_of_sets, first_entries, in_every_set}
use Rattle.set_bounds.proofs.Listing.{first_entries_have_bounds}

-- the number of sets fits into 32 bits
pub sets_fit : (n : ℕ) → n ≤ greatest_entries → 1 * 2 ^ n % 4294967296 ≡ 2 ^ n
sets_fit n within_limit = let powers : 2 ^ n ≤ 2 ^ greatest_entries = pow_mono within_limit in omega (arith, powers)

pub bounds_pushed : (b : ℕ → EntryBounds) (es : List Edge) (k n : ℕ) (bounds longer : List ℕ) → bounds ≡ bounds_below b es k → n ≡ bound_in_128_bits (b k) es k → longer ≡ bounds ++ n ∷ []
    → longer ≡ bounds_below b es (k + 1)
bounds_pushed b es k n bounds longer before is pushed =
    pushed ∙ ap (λ (s : List ℕ). s ++ n ∷ []) before ∙ ap (λ m. bounds_below b es k ++ m ∷ []) is ∙ sym (map-range_with_len_more (λ (subset : ℕ). bound_in_128_bits (b subset) es subset) 0 k k (omega arith))

pub bound_in_sets_at : (b : ℕ → EntryBounds) (es : List Edge) (n subset : ℕ) (bounds : List ℕ) → bounds ≡ bounds_in_sets b es n → subset < 2 ^ n → get_or bounds subset 0 ≡ bound_in_128_bits (b subset) es subset
bound_in_sets_at b es n subset bounds is fits =
    ap (λ (s : List ℕ). get_or s subset 0) is ∙ get_or-map-range_with_len (λ (set : ℕ). bound_in_128_bits (b set) es set) 0 (2 ^ n) subset subset 0 fits (omega arith)

pub bound_of_sets_at : (b : EntryBounds) (es : List Edge) (n subset : ℕ) (bounds : List ℕ) → bounds ≡ bounds_of_sets b es n → subset < 2 ^ n → get_or bounds subset 0 ≡ bound_in_128_bits b es subset
bound_of_sets_at b es n subset bounds is fits = bound_in_sets_at (in_every_set b) es n subset bounds is fits

-- no join of a set's tables has more rows than the set's bound, unless the bound is the greatest number of 128 bits
abbrev pub AreNeverTooLow : EntryLists → List Edge → ℕ → List ℕ → Type 0
AreNeverTooLow lists es n bounds = (subset : ℕ) → subset < 2 ^ n → (tables : KeyedTables) → SetDominates (bounds_of lists) tables es subset → (choices : List (ℕ → ℕ))
    → AllByRecursion (Satisfies tables (entries_of_set subset) (equalities_within subset es)) choices → ChoicesAreDifferent (entries_of_set subset) choices
    → (length choices ≤ get_or bounds subset 0) ⊎ (get_or bounds subset 0 ≡ 2 ^ 128 - 1)

pub never_under : (lists : EntryLists) (es : List Edge) (n : ℕ) (bounds : List ℕ) → SetHasBounds lists es (first_entries n) → bounds ≡ bounds_of_sets (bounds_of lists) es n
    → AreNeverTooLow lists es n bounds
never_under lists es n bounds listed is subset fits tables dominates choices satisfy differ =
    set_never_under lists es subset (get_or bounds subset 0) (first_entries_have_bounds lists es n subset listed fits) (bound_of_sets_at (bounds_of lists) es n subset bounds is fits) tables dominates choices satisfy differ
