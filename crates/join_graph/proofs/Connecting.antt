-- Two definitions of kept equalities agree. The first is about connected entries; the second compares the names of the entries' components.
use Rattle.std.proofs.Common.{◌≡◌, ◌⊎◌, ℕ, Bool, true, false, eqb, List, [], ◌∷◌, refl, ap, sym, ◌∙◌, inl, inr}
use Rattle.std.specs.List.{AllByRecursion}
use Rattle.std.proofs.lemmas.Bool.{cases_Bool, eqb-true, eqb-false, eq-eqb}
use Rattle.berge_tree.specs.declared.edges.Edge.{Edge}
use Rattle.berge_tree.specs.Equalities.{AreApart}
use Rattle.berge_tree.specs.Testing.{merged_components, joins_parts}
use Rattle.berge_tree.proofs.NoCycle.{apart_by}
use Rattle.berge_tree.proofs.Tested.{joined_same, joined_ends}
use Rattle.join_graph.specs.Kept.{AreConnected, KeepsAfter, at_end, keeps, leaves_out, kept_by_names}

-- two entries have the same name exactly if the equalities of `earlier` connect them
pub record NamesTellComponents (name : ℕ → ℕ) (earlier : List Edge) : Type 0 where
  pub same_names : AllByRecursion (λ e. name e.left.entry ≡ name e.right.entry) earlier
  pub same_sides : (side : ℕ → Bool) → AllByRecursion (λ e. side e.left.entry ≡ side e.right.entry) earlier → (x : ℕ) → side (name x) ≡ side x

pub own_components : NamesTellComponents (λ x. x) []
own_components = record { same_names = tt; same_sides = λ side all x. refl }

-- ---- the names after one more equality

joined_yes : (name : ℕ → ℕ) (a b x : ℕ) → eqb (name x) (name b) ≡ true → merged_components name a b x ≡ name a
joined_yes name a b x t = rw t refl

joined_no : (name : ℕ → ℕ) (a b x : ℕ) → eqb (name x) (name b) ≡ false → merged_components name a b x ≡ name x
joined_no name a b x n = rw n refl

joined_along : (name : ℕ → ℕ) (a b : ℕ) (es : List Edge) → AllByRecursion (λ e. name e.left.entry ≡ name e.right.entry) es
    → AllByRecursion (λ e. merged_components name a b e.left.entry ≡ merged_components name a b e.right.entry) es
joined_along name a b [] h = tt
joined_along name a b (e ∷ es) h = (joined_same name a b e.left.entry e.right.entry h.0, joined_along name a b es h.1)

pub join_names : (name : ℕ → ℕ) (earlier : List Edge) (e : Edge) → NamesTellComponents name earlier → NamesTellComponents (merged_components name e.left.entry e.right.entry) (e ∷ earlier)
join_names name earlier e tell = record {
  same_names = (joined_ends name e.left.entry e.right.entry, joined_along name e.left.entry e.right.entry earlier tell.same_names);
  same_sides = λ side all x. elim (cases_Bool (eqb (name x) (name e.right.entry))) [
    | inl t ↦ ap side (joined_yes name e.left.entry e.right.entry x t) ∙ tell.same_sides side all.1 e.left.entry ∙ all.0
        ∙ sym (tell.same_sides side all.1 e.right.entry) ∙ ap side (sym (eqb-true (name x) (name e.right.entry) t)) ∙ tell.same_sides side all.1 x
    | inr n ↦ ap side (joined_no name e.left.entry e.right.entry x n) ∙ tell.same_sides side all.1 x
  ];
}

-- ---- entries with the same name are connected, and entries with different names are apart

connects : (name : ℕ → ℕ) (earlier : List Edge) (a b : ℕ) → NamesTellComponents name earlier → name a ≡ name b → AreConnected earlier a b
connects name earlier a b tell is side all = sym (tell.same_sides side all a) ∙ ap side is ∙ tell.same_sides side all b

tests_along : (name : ℕ → ℕ) (a : ℕ) (es : List Edge) → AllByRecursion (λ e. name e.left.entry ≡ name e.right.entry) es
    → AllByRecursion (λ e. eqb (name e.left.entry) (name a) ≡ eqb (name e.right.entry) (name a)) es
tests_along name a [] h = tt
tests_along name a (e ∷ es) h = (ap (λ n. eqb n (name a)) h.0, tests_along name a es h.1)

connected_names : (name : ℕ → ℕ) (earlier : List Edge) (a b : ℕ) → NamesTellComponents name earlier → AreConnected earlier a b → eqb (name a) (name b) ≡ true
connected_names name earlier a b tell connected =
    let same : eqb (name a) (name a) ≡ eqb (name b) (name a) = connected (λ x. eqb (name x) (name a)) (tests_along name a earlier tell.same_names) in
    eq-eqb (name a) (name b) (sym (eqb-true (name b) (name a) (sym same ∙ eq-eqb (name a) (name a) refl)))

apart_names : (name : ℕ → ℕ) (earlier : List Edge) (a b : ℕ) → NamesTellComponents name earlier → AreApart earlier a b → eqb (name a) (name b) ≡ false
apart_names name earlier a b tell apart = elim (cases_Bool (eqb (name a) (name b))) [
  | inl t ↦ absurd (apart.across (connects name earlier a b tell (eqb-true (name a) (name b) t) apart.side apart.together))
  | inr n ↦ n
]

-- ---- the equalities that are computed by names are the kept equalities

pub keeps_computed : (name : ℕ → ℕ) (earlier es : List Edge) → NamesTellComponents name earlier → KeepsAfter earlier es (kept_by_names name es)
keeps_computed name earlier [] tell = at_end earlier
keeps_computed name earlier (e ∷ es) tell = elim (cases_Bool (eqb (name e.left.entry) (name e.right.entry))) [
  | inl t ↦ rw t (leaves_out earlier e es (kept_by_names name es) (connects name earlier e.left.entry e.right.entry tell (eqb-true (name e.left.entry) (name e.right.entry) t))
      (keeps_computed name earlier es tell))
  | inr n ↦ rw n (keeps earlier e es (kept_by_names (merged_components name e.left.entry e.right.entry) es)
      (apart_by earlier e.left.entry e.right.entry name tell.same_names (eqb-false (name e.left.entry) (name e.right.entry) n))
      (keeps_computed (merged_components name e.left.entry e.right.entry) (e ∷ earlier) es (join_names name earlier e tell)))
]

pub kept_are_computed : {earlier es kept : List Edge} → KeepsAfter earlier es kept → (name : ℕ → ℕ) → NamesTellComponents name earlier → kept ≡ kept_by_names name es
kept_are_computed (at_end earlier) name tell = refl
kept_are_computed (keeps earlier e es kept apart more) name tell =
    rw (apart_names name earlier e.left.entry e.right.entry tell apart)
    (ap (λ s. e ∷ s) (kept_are_computed more (merged_components name e.left.entry e.right.entry) (join_names name earlier e tell)))
kept_are_computed (leaves_out earlier e es kept connected more) name tell = rw (connected_names name earlier e.left.entry e.right.entry tell connected) (kept_are_computed more name tell)

-- ---- each kept equality joins two components

pub kept_joins : (name : ℕ → ℕ) (es : List Edge) → joins_parts name (kept_by_names name es) ≡ true
kept_joins name [] = refl
kept_joins name (e ∷ es) = elim (cases_Bool (eqb (name e.left.entry) (name e.right.entry))) [
  | inl t ↦ rw t (kept_joins name es)
  | inr n ↦ rw (n, n) (kept_joins (merged_components name e.left.entry e.right.entry) es)
]

-- ---- two entries are apart or connected

abbrev component_names : List Edge → ℕ → ℕ
component_names [] = λ x. x
component_names (e ∷ es) = merged_components (component_names es) e.left.entry e.right.entry

names_tell : (es : List Edge) → NamesTellComponents (component_names es) es
names_tell [] = own_components
names_tell (e ∷ es) = join_names (component_names es) es e (names_tell es)

pub apart_or_connected : (es : List Edge) (a b : ℕ) → AreApart es a b ⊎ AreConnected es a b
apart_or_connected es a b = elim (cases_Bool (eqb (component_names es a) (component_names es b))) [
  | inl t ↦ inr (connects (component_names es) es a b (names_tell es) (eqb-true (component_names es a) (component_names es b) t))
  | inr n ↦ inl (apart_by es a b (component_names es) (names_tell es).same_names (eqb-false (component_names es a) (component_names es b) n))
]
