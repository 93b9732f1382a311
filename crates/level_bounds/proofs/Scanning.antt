-- The choices of a level are all different, and have only scanned rows.
use Rattle.std.proofs.Common.{◌≡◌, ℕ, ◌<◌, ◌≤◌, Bool, true, false, not, ◌||◌, eqb, List, [], ◌∷◌, length, get_or, map, refl, ap, sym, ◌∙◌, subst, arith, inl, inr}
use Rattle.std.specs.List.{AllByRecursion, Contains, list_all, range_with_len}
use Rattle.std.proofs.lemmas.Bool.{eqb-true, false≢true, or_cases, and_parts}
use Rattle.std.proofs.lemmas.List.{get_or-map, length-map}
use Rattle.std.proofs.lemmas.List.Elements.{Contains-get_or}
use Rattle.berge_tree.specs.declared.edges.Edge.{Edge}
use Rattle.berge_tree.specs.Equalities.{AreWithin}
use Rattle.entry_sets.specs.Sets.{entries_of_set}
use Rattle.join_graph.specs.Kept.{equalities_within}
use Rattle.tree_bounds.specs.Scans.{SatisfiesScanned, scanned}
use Rattle.tree_bounds.specs.SetBounds.{SetHasLists, bound_of_set}
use Rattle.tree_bounds.specs.Tables.{ChoicesAreDifferent, SetDominates}
use Rattle.tree_bounds.specs.TreeBounds.{EntryBounds}
use Rattle.tree_bounds.proofs.Scanned.{equalities_inside, scanned_within}
use Rattle.sql_meaning.specs.Levels.{DependsOnNamed, Conjunct, level_of, is_own_conjunct, names_only, row_in, scan}
use Rattle.sql_meaning.proofs.LevelFacts.{names_at}
use Rattle.level_bounds.specs.Equalities.{IsImplied}
use Rattle.level_bounds.specs.Keys.{Keys}
use Rattle.level_bounds.specs.Orders.{IsOrderOfSet}
use Rattle.level_bounds.proofs.Lists.{from_members, all_true, at_member, from_map, in_filter, in_range, test_of_member, is_in, map_same_on_members, same_at, true_for_all, in_from_test}
use Rattle.level_bounds.proofs.Choosing.{choice_row, set_entry_in_order, order_entry_in_set}
use Rattle.level_bounds.proofs.Reordering.{is_level_choice, level_differs, reordered_back}

names_only_more : (entries subset superset : List ℕ) → ((x : ℕ) → Contains subset x → Contains superset x) → list_all (is_in subset) entries ≡ true → list_all (is_in superset) entries ≡ true
names_only_more entries subset superset more h = true_for_all (is_in superset) entries (λ x k. test_of_member superset x (more x (in_from_test subset x (all_true (is_in subset) entries h x k))))

pub implied : (a b : Bool) → (not a || b) ≡ true → a ≡ true → b ≡ true
implied true b h e = h
implied false b h e = absurd (false≢true e)

pub implies : (a b : Bool) → (a ≡ true → b ≡ true) → (not a || b) ≡ true
implies true b h = h refl
implies false b h = refl

module _ (conjuncts : List Conjunct) (rows : ℕ → ℕ) (set order : List ℕ) (o : IsOrderOfSet set order) where
  holds_within : (choice : List ℕ) → Contains (level_of conjuncts rows order) choice → (c : Conjunct) → Contains conjuncts c → names_only c order ≡ true → c.holds (row_in order choice) ≡ true
  holds_within choice k c there names =
      implied (names_only c order) (c.holds (row_in order choice))
      (all_true (λ c. not (names_only c order) || c.holds (row_in order choice)) conjuncts (is_level_choice conjuncts rows order choice k).holds c there) names

  row_exists : (choice : List ℕ) → Contains (level_of conjuncts rows order) choice → (x : ℕ) → Contains set x → row_in order choice x < rows x
  row_exists choice k x here = choice_row rows order choice (is_level_choice conjuncts rows order choice k).chosen x (test_of_member order x (set_entry_in_order set order o x here))

  module _ (depend_on_named : AllByRecursion DependsOnNamed conjuncts) where
    depends_on_row : (c : Conjunct) → Contains conjuncts c → (entry : ℕ) (f : ℕ → ℕ) → names_only c (entry ∷ []) ≡ true → c.holds (λ e. f entry) ≡ c.holds f
    depends_on_row c there entry f names = at_member DependsOnNamed conjuncts depend_on_named c there (λ e. f entry) f (λ x here. ap f (alone x here))
      where
        alone : (x : ℕ) → is_in c.entries x ≡ true → entry ≡ x
        alone x here = elim (or_cases (eqb x entry) false (names_at c.entries (entry ∷ []) names x here)) [
          | inl hit ↦ sym (eqb-true x entry hit)
          | inr never ↦ absurd (false≢true never)
        ]

    row_scanned : (choice : List ℕ) → Contains (level_of conjuncts rows order) choice → (entry : ℕ) → Contains set entry → Contains (scan conjuncts rows entry) (row_in order choice entry)
    row_scanned choice k entry here =
        in_filter (λ row. list_all (λ c. not (is_own_conjunct c entry) || c.holds (λ e. row)) conjuncts) (range_with_len 0 (rows entry)) (row_in order choice entry)
        (in_range 0 (rows entry) (row_in order choice entry) (omega arith) (omega (arith, row_exists choice k entry here)))
        (true_for_all (λ c. not (is_own_conjunct c entry) || c.holds (λ e. row_in order choice entry)) conjuncts
        (λ c there. implies (is_own_conjunct c entry) (c.holds (λ e. row_in order choice entry)) (λ just. passes c there just)))
      where
        one_entry : (x : ℕ) → Contains (entry ∷ []) x → Contains order x
        one_entry x at = elim (or_cases (eqb x entry) false (test_of_member (entry ∷ []) x at)) [
          | inl hit ↦ subst (Contains order) (sym (eqb-true x entry hit)) (set_entry_in_order set order o entry here)
          | inr never ↦ absurd (false≢true never)
        ]

        passes : (c : Conjunct) → Contains conjuncts c → is_own_conjunct c entry ≡ true → c.holds (λ e. row_in order choice entry) ≡ true
        passes c there just =
            let alone : names_only c (entry ∷ []) ≡ true = (and_parts (names_only c (entry ∷ [])) (not (names_only c [])) just).0 in
            depends_on_row c there entry (row_in order choice) alone ∙ holds_within choice k c there (names_only_more c.entries (entry ∷ []) order one_entry alone)

  keys_equal : (key : Keys) (e : Edge) → IsImplied conjuncts rows key e → Contains set e.left.entry → Contains set e.right.entry
      → (choice : List ℕ) → Contains (level_of conjuncts rows order) choice
      → key e.left.entry e.left.column (row_in order choice e.left.entry) ≡ key e.right.entry e.right.column (row_in order choice e.right.entry)
  keys_equal key e asked left right choice k =
      asked.equal (row_in order choice) (row_exists choice k e.left.entry left) (row_exists choice k e.right.entry right)
      (holds_within choice k asked.conjunct asked.one_of_them (names_only_more asked.conjunct.entries (e.left.entry ∷ e.right.entry ∷ []) order both asked.names))
    where
      both : (x : ℕ) → Contains (e.left.entry ∷ e.right.entry ∷ []) x → Contains order x
      both x at = elim (or_cases (eqb x e.left.entry) (eqb x e.right.entry || false) (test_of_member (e.left.entry ∷ e.right.entry ∷ []) x at)) [
        | inl hit ↦ subst (Contains order) (sym (eqb-true x e.left.entry hit)) (set_entry_in_order set order o e.left.entry left)
        | inr other ↦ elim (or_cases (eqb x e.right.entry) false other) [
          | inl hit ↦ subst (Contains order) (sym (eqb-true x e.right.entry hit)) (set_entry_in_order set order o e.right.entry right)
          | inr never ↦ absurd (false≢true never)
        ]
      ]

  pub choices_differ : ChoicesAreDifferent set (map (row_in order) (level_of conjuncts rows order))
  choices_differ i j d less within same =
      let cs : List (List ℕ) = level_of conjuncts rows order in
      let j_in : j < length cs = omega (arith, within, length-map cs (row_in order)) in
      let i_in : i < length cs = omega arith in
      let x : List ℕ = get_or cs i [] in
      let y : List ℕ = get_or cs j [] in
      level_differs conjuncts rows order i j [] less j_in
      (one_choice x y (Contains-get_or cs i [] i_in) (Contains-get_or cs j [] j_in)
      (ap (λ (f : ℕ → ℕ). map f set) (sym (get_or-map (row_in order) cs i [] d i_in)) ∙ same ∙ ap (λ (f : ℕ → ℕ). map f set) (get_or-map (row_in order) cs j [] d j_in)))
    where
      one_choice : (x y : List ℕ) → Contains (level_of conjuncts rows order) x → Contains (level_of conjuncts rows order) y
          → map (row_in order x) set ≡ map (row_in order y) set → x ≡ y
      one_choice x y k l same =
          sym (reordered_back conjuncts rows set order order o o x k)
          ∙ map_same_on_members (row_in order x) (row_in order y) order (λ entry here. same_at (row_in order x) (row_in order y) set same entry (order_entry_in_set set order o entry here))
          ∙ reordered_back conjuncts rows set order order o o y l

module _ (conjuncts : List Conjunct) (rows : ℕ → ℕ) (key : Keys) (es : List Edge) (subset : ℕ) (order : List ℕ)
    (asks : AllByRecursion DependsOnNamed conjuncts) (asked : AllByRecursion (IsImplied conjuncts rows key) (equalities_within subset es)) (o : IsOrderOfSet (entries_of_set subset) order) where
  equalities_satisfied : (choice : List ℕ) → Contains (level_of conjuncts rows order) choice → (edges : List Edge) → AreWithin (entries_of_set subset) edges → AllByRecursion (IsImplied conjuncts rows key) edges
      → AllByRecursion (λ e. key e.left.entry e.left.column (row_in order choice e.left.entry) ≡ key e.right.entry e.right.column (row_in order choice e.right.entry)) edges
  equalities_satisfied choice k [] inside asked' = tt
  equalities_satisfied choice k (e ∷ edges) inside asked' = (
    keys_equal conjuncts rows (entries_of_set subset) order o key e asked'.0 inside.0.0 inside.0.1 choice k,
    equalities_satisfied choice k edges inside.1 asked'.1,
  )

  pub level_satisfies : AllByRecursion (SatisfiesScanned (scan conjuncts rows) key (entries_of_set subset) (equalities_within subset es)) (map (row_in order) (level_of conjuncts rows order))
  level_satisfies =
      from_members (SatisfiesScanned (scan conjuncts rows) key (entries_of_set subset) (equalities_within subset es)) (map (row_in order) (level_of conjuncts rows order))
      (λ f k. let from : (choice : List ℕ) × Contains (level_of conjuncts rows order) choice × (f ≡ row_in order choice) = from_map (row_in order) (level_of conjuncts rows order) f k in
      subst (SatisfiesScanned (scan conjuncts rows) key (entries_of_set subset) (equalities_within subset es)) (sym from.2) (satisfies from.0 from.1))
    where
      satisfies : (choice : List ℕ) → Contains (level_of conjuncts rows order) choice → SatisfiesScanned (scan conjuncts rows) key (entries_of_set subset) (equalities_within subset es) (row_in order choice)
      satisfies choice k = record {
        rows = from_members (λ entry. Contains (scan conjuncts rows entry) (row_in order choice entry)) (entries_of_set subset) (row_scanned conjuncts rows (entries_of_set subset) order o asks choice k);
        equal = equalities_satisfied choice k (equalities_within subset es) (equalities_inside subset es) asked;
      }

  pub level_within : (b : EntryBounds) → SetHasLists b es subset → SetDominates b (scanned (scan conjuncts rows) key) es subset → length (level_of conjuncts rows order) ≤ bound_of_set b es subset
  level_within b lists dominates =
      omega (
        arith,
        scanned_within b (scan conjuncts rows) key es subset lists dominates (map (row_in order) (level_of conjuncts rows order)) level_satisfies
            (choices_differ conjuncts rows (entries_of_set subset) order o),
        length-map (level_of conjuncts rows order) (row_in order),
      )
