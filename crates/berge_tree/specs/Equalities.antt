-- Equalities of columns, the classes of columns that they make, and what it means that they close no cycle between entries.
use Rattle.std.specs.Prelude.{◌≡◌, ◌≢◌, ℕ, Bool, not, ◌&&◌, ◌==◌, if◌then◌else◌, ⊤, List, [], ◌∷◌}
use Rattle.std.specs.List.{AllByRecursion, Contains}
use Rattle.berge_tree.specs.declared.edges.Place.{Place}
use Rattle.berge_tree.specs.declared.edges.Edge.{Edge}

abbrev pub place : ℕ → ℕ → Place
place entry column = record { entry = entry; column = column }

abbrev pub same_place : Place → Place → Bool
same_place p q = (p.entry == q.entry) && (p.column == q.column)

-- the columns that equalities name
abbrev pub places_of : List Edge → List Place
places_of [] = []
places_of (e ∷ es) = e.left ∷ (e.right ∷ places_of es)

-- each equality joins entries of the set
abbrev pub AreWithin : List ℕ → List Edge → Type 0
AreWithin set es = AllByRecursion (λ e. Contains set e.left.entry × Contains set e.right.entry) es

-- ---- connected entries

-- no equalities connect a with b. That is: the entries can be divided into two sides with each equality within one side, but a and b on different
-- sides
pub record AreApart (es : List Edge) (a b : ℕ) : Type 0 where
  pub side : ℕ → Bool
  pub together : AllByRecursion (λ e. side e.left.entry ≡ side e.right.entry) es
  pub across : side a ≢ side b

-- each of these equalities joins two entries that the equalities before it don't connect
abbrev pub ClosesNoCycleAfter : List Edge → List Edge → Type 0
ClosesNoCycleAfter earlier [] = ⊤
ClosesNoCycleAfter earlier (e ∷ es) = AreApart earlier e.left.entry e.right.entry × ClosesNoCycleAfter (e ∷ earlier) es

abbrev pub ClosesNoCycle : List Edge → Type 0
ClosesNoCycle es = ClosesNoCycleAfter [] es

-- ---- classes of columns

-- `name` gives each column the name of its class. After an equality of a and b, the columns in the class of b take the name of the class of a
abbrev pub merged : (Place → Place) → Place → Place → Place → Place
merged name a b p = if same_place (name p) (name b) then name a else name p

abbrev pub classes_from : (Place → Place) → List Edge → Place → Place
classes_from name [] = name
classes_from name (e ∷ es) = classes_from (merged name e.left e.right) es

-- the class of a column. At first each column is a class of its own; then each equality merges the classes of its two columns
abbrev pub class_of : List Edge → Place → Place
class_of es = classes_from (λ p. p) es

-- p and q are in the same class: whenever the keys in both columns of each equality are equal, the keys in p and q are equal
abbrev pub AreInOneClass : List Edge → Place → Place → Type 0
AreInOneClass es p q =
    (key : ℕ → ℕ → ℕ) → AllByRecursion (λ e. key e.left.entry e.left.column ≡ key e.right.entry e.right.column) es
    → key p.entry p.column ≡ key q.entry q.column

-- ---- no cycle of entries and classes

-- the side of column q is the side of its entry. Column p alone is not on the side of its entry, but on the other side
abbrev pub side_of_column : (ℕ → Bool) → Place → Place → Bool
side_of_column side p q = if same_place q p then not (side q.entry) else side q.entry

-- column p is a bridge: without p, its entry isn't connected with its class. That is: the entries can be divided into two sides so that all columns
-- of each class are on one side. A column is on the side of its entry, except p, which is on the other side
pub record IsBridge (class : Place → Place) (p : Place) : Type 0 where
  pub side : ℕ → Bool
  pub together : (q r : Place) → class q ≡ class r → side_of_column side p q ≡ side_of_column side p r

-- no class has two columns of one entry, and entries and classes make no cycle
pub record HasNoCycle (class : Place → Place) : Type 0 where
  pub one_column : (p q : Place) → class p ≡ class q → p.entry ≡ q.entry → p ≡ q
  pub bridges : (p : Place) → IsBridge class p
