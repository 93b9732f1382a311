-- Sets of entries that consist of two parts which no equality joins.
use Rattle.std.specs.Prelude.{◌≡◌, ℕ, Bool, false, ◌&&◌, ◌||◌, not, if◌then◌else◌, List, [], ◌∷◌}
use Rattle.std.specs.List.{AllByRecursion}
use Rattle.entry_sets.specs.Sets.{IsSubset, has_entry}
use Rattle.berge_tree.specs.declared.edges.Edge.{Edge}
use Rattle.join_graph.specs.Kept.{equalities_within, joins_within}
use Rattle.tree_bounds.specs.TreeBounds.{EntryBounds}
use Rattle.set_bounds.specs.AllSets.{bound_in_128_bits}

-- no equality of the set joins an entry of the part with an entry outside the part
abbrev pub AreUnjoined : List Edge → ℕ → ℕ → Type 0
AreUnjoined es subset part = AllByRecursion (λ e. has_entry part e.left.entry ≡ has_entry part e.right.entry) (equalities_within subset es)

-- the set consists of a part and the rest, and no equality joins the two
pub record ConsistsOfParts (es : List Edge) (subset part rest : ℕ) : Type 0 where
  pub within : IsSubset part subset
  pub others : (entry : ℕ) → has_entry rest entry ≡ (has_entry subset entry && not (has_entry part entry))
  pub unjoined : AreUnjoined es subset part

-- the row bounds and lists of entries in a part don't depend on the rest of the set. So a part has the same bound by the row bounds and lists of the
-- set as by its own. The same is true of the bound of the rest
abbrev pub DependsOnPartsOnly : (ℕ → EntryBounds) → List Edge → Type 0
DependsOnPartsOnly b es = (subset part rest : ℕ) → ConsistsOfParts es subset part rest
    → (bound_in_128_bits (b part) es part ≡ bound_in_128_bits (b subset) es part) × (bound_in_128_bits (b rest) es rest ≡ bound_in_128_bits (b subset) es rest)

-- ---- tests whether a set consists of two parts

-- the equality is within the set, and joins an entry of the part with an entry outside the part
abbrev pub crosses : ℕ → ℕ → Edge → Bool
crosses subset part e =
    joins_within subset e && (if has_entry part e.left.entry then not (has_entry part e.right.entry) else has_entry part e.right.entry)

abbrev pub some_cross : ℕ → ℕ → List Edge → Bool
some_cross subset part [] = false
some_cross subset part (e ∷ es) = crosses subset part e || some_cross subset part es
