-- Families in which each row has a match (a partner) across each equality of its entry, and the greatest of these families. A family has for each
-- entry a list of some of its scanned rows.
use Rattle.std.specs.Prelude.{◌≡◌, ℕ, ◌<◌, Bool, true, List, length, slice_index}
use Rattle.std.specs.List.{Contains}
use Rattle.berge_tree.specs.declared.edges.Edge.{Edge}
use Rattle.join_steps.specs.Lists.{list_at, IsAscending, IsFamily}

-- the row has a partner among `partners`. The definition after it, `HavePartners`, says this of each row of a list
abbrev pub HasPartner : (ℕ → ℕ → Bool) → List ℕ → ℕ → Type 0
HasPartner equal partners row = (partner : ℕ) × Contains partners partner × (equal row partner ≡ true)

abbrev pub HavePartners : (ℕ → ℕ → Bool) → List ℕ → List ℕ → Type 0
HavePartners equal rows partners = (row : ℕ) → Contains rows row → HasPartner equal partners row

-- a family in which each row has a partner in the list of the other entry, for each equality at its entry. `equal e left right` says that the two
-- rows have the same value in the columns of equality `e`
pub record IsConsistent (scans : List (List ℕ)) (equalities : List Edge) (equal : Edge → ℕ → ℕ → Bool) (family : List (List ℕ))
    : Type 0 where
  pub is_family : IsFamily scans family
  pub from_left : (e : Edge) → Contains equalities e → HavePartners (equal e) (list_at family e.left.entry) (list_at family e.right.entry)
  pub from_right : (e : Edge) → Contains equalities e
      → HavePartners (λ right left. equal e left right) (list_at family e.right.entry) (list_at family e.left.entry)

-- the family `reduced` is consistent, and has the rows of every consistent family
pub record IsReduced (scans : List (List ℕ)) (equalities : List Edge) (equal : Edge → ℕ → ℕ → Bool) (reduced : List (List ℕ)) : Type 0 where
  pub consistent : IsConsistent scans equalities equal reduced
  pub greatest : (other : List (List ℕ)) → IsConsistent scans equalities equal other
      → (entry row : ℕ) → Contains (list_at other entry) row → Contains (list_at reduced entry) row

-- the choice has a scanned row for each entry, and its rows together satisfy every equality
pub record SatisfiesAll (scans : List (List ℕ)) (equalities : List Edge) (equal : Edge → ℕ → ℕ → Bool) (choice : List ℕ) : Type 0 where
  pub count : length choice ≡ length scans
  pub scanned : (entry : ℕ) → entry < length scans → Contains (list_at scans entry) (slice_index choice entry)
  pub satisfied : (e : Edge) → Contains equalities e → equal e (slice_index choice e.left.entry) (slice_index choice e.right.entry) ≡ true

-- each scan is in file order
abbrev pub AreAscending : List (List ℕ) → Type 0
AreAscending scans = (entry : ℕ) → IsAscending (list_at scans entry)

-- the entries of each equality have numbers below `entries`
abbrev pub NameEntries : ℕ → List Edge → Type 0
NameEntries entries equalities = (e : Edge) → Contains equalities e → (e.left.entry < entries) × (e.right.entry < entries)
