-- Different choices that agree in a tree are different members of the list of all its choices. So their number is at most the length of the list.
use Rattle.std.proofs.Common.{◌≡◌, ◌≢◌, ℕ, zero, suc, ◌+◌, ◌<◌, ◌≤◌, true, false, cond, eqb, List, [], ◌∷◌, ◌++◌, length, get_or, map, refl, ap, sym, ◌∙◌, subst, arith, ◌⊎◌, inl, inr, nat_eq}
use Rattle.std.specs.List.{AllByRecursion, Contains, IsDistinct, flat_map, range_with_len, list_any}
use Rattle.std.specs.Set.{is_member}
use Rattle.std.specs.Cmp.Lexicographic.{pointwise, same_text}
use Rattle.std.proofs.Math.Nat.{mul-le-mul}
use Rattle.std.proofs.lemmas.Bool.{cases_Bool, cases_lt, eq-eqb, false≢true, or_right}
use Rattle.std.proofs.lemmas.Cmp.{nat_list_eq_equiv}
use Rattle.std.proofs.lemmas.List.{length-map, map-append, get_or-map}
use Rattle.std.proofs.lemmas.Map.Keys.{IsDistinct-cons}
use Rattle.std.proofs.lemmas.Map.Made.{length-le_from_is_member}
use Rattle.berge_tree.specs.Trees.{Classes, no_class, and_class, Members, one_member, and_member, BergeTree, entries_below, entries_within, entries, entries_of_all}
use Rattle.tree_bounds.specs.Columns.{EachColumnBelow, EachColumnWithin}
use Rattle.tree_bounds.specs.TreeBounds.{EntryBounds, TreeHasLists, bound_of_tree, bound_of_trees}
use Rattle.tree_bounds.specs.Tables.{KeyedTables, key_of, AgreesBelow, AgreesWithin, Agrees, ChoicesAreDifferent, Dominates, TreeDominates}
use Rattle.tree_bounds.specs.Counting.{with_row, each_followed_by_each, rows_with_key, chosen_below, chosen_within, tree_choices, chosen_rows_of_all}
use Rattle.tree_bounds.proofs.BoundsSuffice.{number_within}
use Rattle.tree_bounds.proofs.ChoiceLists.{length-each_followed_by_each, length-chosen_rows}

-- ---- members of lists of rows

abbrev IsMember : List ℕ → List (List ℕ) → Type 0
IsMember q [] = ⊥
IsMember q (x ∷ xs) = (q ≡ x) ⊎ IsMember q xs

member_left : (q : List ℕ) (xs ys : List (List ℕ)) → IsMember q xs → IsMember q (xs ++ ys)
member_left q [] ys h = absurd h
member_left q (x ∷ xs) ys h = elim h [ inl now ↦ inl now | inr later ↦ inr (member_left q xs ys later) ]

member_right : (q : List ℕ) (xs ys : List (List ℕ)) → IsMember q ys → IsMember q (xs ++ ys)
member_right q [] ys h = h
member_right q (x ∷ xs) ys h = inr (member_right q xs ys h)

member_mapped : (f : List ℕ → List ℕ) (q : List ℕ) (xs : List (List ℕ)) → IsMember q xs → IsMember (f q) (map f xs)
member_mapped f q [] h = absurd h
member_mapped f q (x ∷ xs) h = elim h [ inl now ↦ inl (ap f now) | inr later ↦ inr (member_mapped f q xs later) ]

member_paired : (p q : List ℕ) (xs ys : List (List ℕ)) → IsMember p xs → IsMember q ys → IsMember (p ++ q) (each_followed_by_each xs ys)
member_paired p q [] ys h k = absurd h
member_paired p q (x ∷ xs) ys h k = elim h [
  | inl now ↦ member_left (p ++ q) (map (λ y. x ++ y) ys) (each_followed_by_each xs ys) (rw now (member_mapped (λ y. x ++ y) q ys k))
  | inr later ↦ member_right (p ++ q) (map (λ y. x ++ y) ys) (each_followed_by_each xs ys) (member_paired p q xs ys later k)
]

member_for_row : (f : ℕ → List (List ℕ)) (q : List ℕ) (n first row : ℕ) → first ≤ row → row < first + n → IsMember q (f row) → IsMember q (flat_map f (range_with_len first n))
member_for_row f q zero first row from below h = absurd (omega arith)
member_for_row f q (suc n) first row from below h = elim (cases_lt first row) [
  | inl later ↦ member_right q (f first) (flat_map f (range_with_len (first + 1) n)) (member_for_row f q n (first + 1) row (omega arith) (omega arith) h)
  | inr now ↦ (let same : row ≡ first = omega arith in member_left q (f first) (flat_map f (range_with_len (first + 1) n)) (subst (λ j. IsMember q (f j)) same h))
]

member_with_key : (n : ℕ) (keys : List ℕ) (below : ℕ → List (List ℕ)) (key row : ℕ) (rows : List ℕ) → length keys ≡ n → row < n → get_or keys row 0 ≡ key → IsMember rows (below row)
    → IsMember (row ∷ rows) (rows_with_key keys below key)
member_with_key n keys below key row rows per_row h is k =
    member_for_row (λ row. cond (eqb (get_or keys row 0) key) (with_row row (below row)) []) (row ∷ rows) (length keys) 0 row (omega arith) (omega arith)
    (rw (eq-eqb (get_or keys row 0) key is) (member_mapped (λ (rows : List ℕ). row ∷ rows) rows (below row) k))

-- ---- a choice that agrees in the tree is in the list

module _ (b : EntryBounds) (tables : KeyedTables) (choice : ℕ → ℕ) where
  mutual
    choice_in_list_below : (entry : ℕ) (cs : Classes) → EachColumnBelow (Dominates b tables) entry cs → AgreesBelow tables choice entry cs
        → IsMember (map choice (entries_below cs)) (chosen_below tables entry cs (choice entry))
    choice_in_list_below entry no_class d a = inl refl
    choice_in_list_below entry (and_class column members rest) d a =
        rw (map-append choice (entries_within members) (entries_below rest))
        (member_paired (map choice (entries_within members)) (map choice (entries_below rest))
        (chosen_within tables members (key_of tables choice entry column)) (chosen_below tables entry rest (choice entry))
        (choice_in_list_within (key_of tables choice entry column) members d.1 a.0) (choice_in_list_below entry rest d.2 a.1))

    choice_in_list_within : (key : ℕ) (ms : Members) → EachColumnWithin (Dominates b tables) ms → AgreesWithin tables choice key ms
        → IsMember (map choice (entries_within ms)) (chosen_within tables ms key)
    choice_in_list_within key (one_member entry column below) d a =
        member_with_key (tables.rows entry) (tables.keys entry column) (chosen_below tables entry below) key (choice entry) (map choice (entries_below below))
        d.0.key_per_row a.0 a.1 (choice_in_list_below entry below d.1 a.2)
    choice_in_list_within key (and_member entry column below rest) d a =
        rw (map-append choice (entries_below below) (entries_within rest))
        (member_paired (choice entry ∷ map choice (entries_below below)) (map choice (entries_within rest))
        (rows_with_key (tables.keys entry column) (chosen_below tables entry below) key) (chosen_within tables rest key)
        (member_with_key (tables.rows entry) (tables.keys entry column) (chosen_below tables entry below) key (choice entry) (map choice (entries_below below))
        d.0.key_per_row a.0 a.1 (choice_in_list_below entry below d.1 a.2))
        (choice_in_list_within key rest d.2 a.3))

  choice_in_tree_list : (t : BergeTree) → TreeDominates b tables t → Agrees tables t choice → IsMember (map choice (entries t)) (tree_choices tables t)
  choice_in_tree_list t d a =
      member_for_row (λ row. with_row row (chosen_below tables t.root t.below row)) (map choice (entries t)) (tables.rows t.root) 0 (choice t.root) (omega arith) (omega (arith, a.0))
      (member_mapped (λ (rows : List ℕ). choice t.root ∷ rows) (map choice (entries_below t.below)) (chosen_below tables t.root t.below (choice t.root)) (choice_in_list_below t.root t.below d.columns a.1))

  choice_in_forest_list : (ts : List BergeTree) → AllByRecursion (TreeDominates b tables) ts → AllByRecursion (λ t. Agrees tables t choice) ts
      → IsMember (map choice (entries_of_all ts)) (chosen_rows_of_all tables ts)
  choice_in_forest_list [] d a = inl refl
  choice_in_forest_list (t ∷ ts) d a =
      rw (map-append choice (entries t) (entries_of_all ts))
      (member_paired (map choice (entries t)) (map choice (entries_of_all ts)) (tree_choices tables t) (chosen_rows_of_all tables ts) (choice_in_tree_list t d.0 a.0) (choice_in_forest_list ts d.1 a.1))

contains_from : (q : List ℕ) (xs : List (List ℕ)) → IsMember q xs → Contains xs q
contains_from q [] h = absurd h
contains_from q (x ∷ xs) h = elim h [
  | inl now ↦ (0, omega arith, sym now)
  | inr later ↦ (let k : Contains xs q = contains_from q xs later in (suc k.0, omega (arith, k.1), k.2))
]

pub choice_listed : (b : EntryBounds) (tables : KeyedTables) (t : BergeTree) → TreeDominates b tables t → (choice : ℕ → ℕ) → Agrees tables t choice
    → Contains (tree_choices tables t) (map choice (entries t))
choice_listed b tables t d choice a = contains_from (map choice (entries t)) (tree_choices tables t) (choice_in_tree_list b tables choice t d a)

-- ---- different choices are different members

is_member_where : (q : List ℕ) (xs : List (List ℕ)) → IsMember q xs → is_member (pointwise nat_eq) xs q ≡ true
is_member_where q [] h = absurd h
is_member_where q (x ∷ xs) h = elim h [
  | inl now ↦ rw (sym now, nat_list_eq_equiv.refl q) refl
  | inr later ↦ or_right (pointwise nat_eq q x) (list_any (pointwise nat_eq q) xs) (is_member_where q xs later)
]

none_alike : IsDistinct (pointwise nat_eq) []
unfolding IsDistinct
none_alike = tt

not_alike : (xs ys : List ℕ) → xs ≢ ys → pointwise nat_eq xs ys ≡ false
not_alike xs ys differ = elim (cases_Bool (pointwise nat_eq xs ys)) [
  | inl same ↦ absurd (differ (same_text xs ys (sym same)))
  | inr other ↦ other
]

first_is_different : (set : List ℕ) (x : ℕ → ℕ) (cs : List (ℕ → ℕ)) → ((j : ℕ) → j < length cs → map x set ≢ map (get_or cs j x) set)
    → AllByRecursion (λ q. pointwise nat_eq (map x set) q ≡ false) (map (λ c. map c set) cs)
first_is_different set x [] h = tt
first_is_different set x (c ∷ cs) h = (not_alike (map x set) (map c set) (h 0 (omega arith)), first_is_different set x cs (λ j k. h (suc j) (omega arith)))

all_are_different : (set : List ℕ) (cs : List (ℕ → ℕ)) → ChoicesAreDifferent set cs → IsDistinct (pointwise nat_eq) (map (λ c. map c set) cs)
all_are_different set [] h = none_alike
all_are_different set (c ∷ cs) h =
    IsDistinct-cons (pointwise nat_eq) (map c set) (map (λ c. map c set) cs)
    (first_is_different set c cs (λ j k. h 0 (suc j) c (omega arith) (omega arith)))
    (all_are_different set cs (λ i j d k l. h (suc i) (suc j) d (omega arith) (omega arith)))

all_members : (set : List ℕ) (cs : List (ℕ → ℕ)) (xs : List (List ℕ)) → AllByRecursion (λ c. IsMember (map c set) xs) cs
    → (q : List ℕ) → is_member (pointwise nat_eq) (map (λ c. map c set) cs) q ≡ true → is_member (pointwise nat_eq) xs q ≡ true
all_members set [] xs h q e = absurd (false≢true e)
all_members set (c ∷ cs) xs h q e = elim (cases_Bool (pointwise nat_eq q (map c set))) [
  | inl same ↦ is_member_where q xs (subst (λ r. IsMember r xs) (sym (same_text q (map c set) (sym same))) h.0)
  | inr other ↦ all_members set cs xs h.1 q (rw other at e)
]

at_most_list_length : (set : List ℕ) (cs : List (ℕ → ℕ)) (xs : List (List ℕ)) → ChoicesAreDifferent set cs → AllByRecursion (λ c. IsMember (map c set) xs) cs → length cs ≤ length xs
at_most_list_length set cs xs differ all =
    omega (arith, length-map cs (λ c. map c set), length-le_from_is_member nat_list_eq_equiv (map (λ c. map c set) cs) xs (all_are_different set cs differ) (all_members set cs xs all))

-- ---- the bound of one tree, and of several trees

pub for_each : (Q R : (ℕ → ℕ) → Type 0) → ((c : ℕ → ℕ) → Q c → R c) → (cs : List (ℕ → ℕ)) → AllByRecursion Q cs → AllByRecursion R cs
for_each Q R f [] h = tt
for_each Q R f (c ∷ cs) h = (f c h.0, for_each Q R f cs h.1)

module _ (b : EntryBounds) (tables : KeyedTables) where
  pub choices_within : (t : BergeTree) → TreeHasLists b t → TreeDominates b tables t → (cs : List (ℕ → ℕ)) → AllByRecursion (Agrees tables t) cs → ChoicesAreDifferent (entries t) cs
      → length cs ≤ bound_of_tree b t
  choices_within t h d cs agree differ =
      omega (
        arith,
        at_most_list_length (entries t) cs (tree_choices tables t) differ
            (for_each (Agrees tables t) (λ c. IsMember (map c (entries t)) (tree_choices tables t)) (λ c a. choice_in_tree_list b tables c t d a) cs agree),
        length-chosen_rows tables t,
        number_within b tables t h d,
      )

  length-all : (ts : List BergeTree) → AllByRecursion (TreeHasLists b) ts → AllByRecursion (TreeDominates b tables) ts → length (chosen_rows_of_all tables ts) ≤ bound_of_trees b ts
  length-all [] h d = omega arith
  length-all (t ∷ ts) h d =
      let one : length (tree_choices tables t) ≤ bound_of_tree b t = omega (arith, length-chosen_rows tables t, number_within b tables t h.0 d.0) in
      omega (arith, length-each_followed_by_each (tree_choices tables t) (chosen_rows_of_all tables ts), mul-le-mul one (length-all ts h.1 d.1))

  same_there : (es : List ℕ) (e : ℕ) → Contains es e → (x y : ℕ → ℕ) → map x es ≡ map y es → x e ≡ y e
  same_there es e k x y same =
      ap x (sym k.2) ∙ sym (get_or-map x es k.0 e 0 k.1) ∙ ap (λ l. get_or l k.0 0) same ∙ get_or-map y es k.0 e 0 k.1 ∙ ap y k.2

  same_on : (es set : List ℕ) → AllByRecursion (Contains es) set → (x y : ℕ → ℕ) → map x es ≡ map y es → map x set ≡ map y set
  same_on es [] k x y same = refl
  same_on es (e ∷ set) k x y same = rw (same_there es e k.0 x y same, same_on es set k.1 x y same) refl

  pub choices_within_all : (ts : List BergeTree) → AllByRecursion (TreeHasLists b) ts → AllByRecursion (TreeDominates b tables) ts → (set : List ℕ) → AllByRecursion (Contains (entries_of_all ts)) set
      → (cs : List (ℕ → ℕ)) → AllByRecursion (λ c. AllByRecursion (λ t. Agrees tables t c) ts) cs → ChoicesAreDifferent set cs → length cs ≤ bound_of_trees b ts
  choices_within_all ts h d set inside cs agree differ =
      omega (
        arith,
        at_most_list_length (entries_of_all ts) cs (chosen_rows_of_all tables ts)
            (λ i j e k l same. differ i j e k l (same_on (entries_of_all ts) set inside (get_or cs i e) (get_or cs j e) same))
            (for_each (λ c. AllByRecursion (λ t. Agrees tables t c) ts) (λ c. IsMember (map c (entries_of_all ts)) (chosen_rows_of_all tables ts)) (λ c a. choice_in_forest_list b tables c ts d a) cs agree),
        length-all ts h d,
      )
