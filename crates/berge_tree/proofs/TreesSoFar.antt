-- The loop makes the trees of a set, one tree after another. After its last step it has all trees of `forest`.
use Rattle.std.proofs.Common.{◌≡◌, ℕ, suc, ◌+◌, Bool, true, false, eqb, List, [], ◌∷◌, ◌++◌, map, cond, refl, ap, sym, ◌∙◌, subst, inl, inr}
use Rattle.std.specs.Prelude.{◌||◌}
use Rattle.std.specs.Int.{bit_at}
use Rattle.std.proofs.lemmas.Bool.{cases_Bool}
use Rattle.std.proofs.lemmas.List.{append_assoc, append-nil}
use Rattle.limits.specs.Profile.{greatest_entries}
use Rattle.berge_tree.specs.declared.edges.Edge.{Edge}
use Rattle.berge_tree.specs.declared.columns.Column.{Column}
use Rattle.berge_tree.specs.declared.tree.Tree.{Tree}
use Rattle.berge_tree.specs.Boxed.{tree_of}
use Rattle.berge_tree.specs.Equalities.{AreWithin, ClosesNoCycle}
use Rattle.berge_tree.specs.Trees.{BergeTree, entries}
use Rattle.berge_tree.specs.Rooted.{AreAllTreesOf}
use Rattle.entry_sets.specs.Sets.{entries_from, entries_of_set}
use Rattle.entry_sets.proofs.Listing.{from_next, from_skip, set_from, set_increases, set_entries_below_limit}
use Rattle.berge_tree.specs.Walk.{columns_of, is_among, is_in_a_tree, tree_of_new_entry, tree_at, forest}
use Rattle.berge_tree.proofs.Among.{among-append}
use Rattle.berge_tree.proofs.Listing.{columns_are}
use Rattle.berge_tree.proofs.Forest.{all_trees}

-- ---- whether an entry is in one of the trees

abbrev is_in_some_tree : List BergeTree → ℕ → Bool
is_in_some_tree [] x = false
is_in_some_tree (t ∷ ts) x = is_among (entries t) x || is_in_some_tree ts x

in_a_tree_is : (trees : List Tree) (x : ℕ) → is_in_a_tree trees x ≡ is_in_some_tree (map tree_of trees) x
in_a_tree_is [] x = refl
in_a_tree_is (t ∷ trees) x = ap (λ b. is_among (entries (tree_of t)) x || b) (in_a_tree_is trees x)

or_swap : (a b c : Bool) → (a || (b || c)) ≡ (b || (a || c))
or_swap true true c = refl
or_swap true false c = refl
or_swap false true c = refl
or_swap false false c = refl

in_a_tree_push : (ts : List BergeTree) (t : BergeTree) (x : ℕ) → is_in_some_tree (ts ++ t ∷ []) x ≡ (is_among (entries t) x || is_in_some_tree ts x)
in_a_tree_push [] t x = refl
in_a_tree_push (u ∷ ts) t x = ap (λ b. is_among (entries u) x || b) (in_a_tree_push ts t x) ∙ or_swap (is_among (entries u) x) (is_among (entries t) x) (is_in_some_tree ts x)

-- ---- one step of the loop

-- `whole` has the trees that were made so far, followed by the trees that are still to come
pub record TreesSoFar (columns : List Column) (trees : List Tree) (rest : List ℕ) (whole : List BergeTree) : Type 0 where
  pub done : List ℕ
  pub same : (e : ℕ) → is_among done e ≡ is_in_a_tree trees e
  pub all : map tree_of trees ++ forest greatest_entries columns done rest ≡ whole

pub planting_none : (columns : List Column) (subset : ℕ) (trees : List Tree) → trees ≡ [] → TreesSoFar columns trees (entries_from subset 0 greatest_entries) (forest greatest_entries columns [] (entries_of_set subset))
planting_none columns subset trees none = record {
  done = [];
  same = λ e. sym (ap (λ (ts : List Tree). is_in_a_tree ts e) none);
  all = ap (λ (ts : List Tree). map tree_of ts ++ forest greatest_entries columns [] (entries_from subset 0 greatest_entries)) none ∙ ap (forest greatest_entries columns []) (sym (set_from subset));
}

pub planting_skip : (columns : List Column) (trees : List Tree) (subset first count left : ℕ) (whole : List BergeTree) → left ≡ suc count → eqb (bit_at subset first) 1 ≡ false
    → TreesSoFar columns trees (entries_from subset first left) whole → TreesSoFar columns trees (entries_from subset (first + 1) count) whole
planting_skip columns trees subset first count left whole is bit so_far =
    subst (λ xs. TreesSoFar columns trees xs whole) (ap (entries_from subset first) is ∙ from_skip subset first count bit) so_far

planted : (columns : List Column) (trees more : List Tree) (x : ℕ) (xs : List ℕ) (whole : List BergeTree) → map tree_of more ≡ map tree_of trees ++ tree_of_new_entry columns trees x → TreesSoFar columns trees (x ∷ xs) whole → TreesSoFar columns more xs whole
planted columns trees more x xs whole is so_far = elim (cases_Bool (is_in_a_tree trees x)) [
  | inl old ↦
      let same_trees : map tree_of more ≡ map tree_of trees = subst (λ b. map tree_of more ≡ map tree_of trees ++ cond b [] (tree_at greatest_entries columns x ∷ [])) old is ∙ append-nil (map tree_of trees) in
      let skipped : forest greatest_entries columns so_far.done (x ∷ xs) ≡ forest greatest_entries columns so_far.done xs = rw (so_far.same x ∙ old) refl in
      record {
        done = so_far.done;
        same = λ e. so_far.same e ∙ in_a_tree_is trees e ∙ ap (λ ts. is_in_some_tree ts e) (sym same_trees) ∙ sym (in_a_tree_is more e);
        all = ap (λ ts. ts ++ forest greatest_entries columns so_far.done xs) same_trees ∙ ap (λ ts. map tree_of trees ++ ts) (sym skipped) ∙ so_far.all;
      }
  | inr new ↦
      let t : BergeTree = tree_at greatest_entries columns x in
      let longer : map tree_of more ≡ map tree_of trees ++ t ∷ [] = subst (λ b. map tree_of more ≡ map tree_of trees ++ cond b [] (t ∷ [])) new is in
      let made : forest greatest_entries columns so_far.done (x ∷ xs) ≡ t ∷ forest greatest_entries columns (entries t ++ so_far.done) xs = rw (so_far.same x ∙ new) refl in
      record {
        done = entries t ++ so_far.done;
        same = λ e. among-append (entries t) so_far.done e ∙ ap (λ b. is_among (entries t) e || b) (so_far.same e ∙ in_a_tree_is trees e)
            ∙ sym (in_a_tree_push (map tree_of trees) t e) ∙ ap (λ ts. is_in_some_tree ts e) (sym longer) ∙ sym (in_a_tree_is more e);
        all = ap (λ ts. ts ++ forest greatest_entries columns (entries t ++ so_far.done) xs) longer
            ∙ append_assoc (map tree_of trees) (t ∷ []) (forest greatest_entries columns (entries t ++ so_far.done) xs)
            ∙ ap (λ ts. map tree_of trees ++ ts) (sym made) ∙ so_far.all;
      }
]

pub planting_more : (columns : List Column) (trees more : List Tree) (subset first count left : ℕ) (whole : List BergeTree) → left ≡ suc count → eqb (bit_at subset first) 1 ≡ true → map tree_of more ≡ map tree_of trees ++ tree_of_new_entry columns trees first
    → TreesSoFar columns trees (entries_from subset first left) whole → TreesSoFar columns more (entries_from subset (first + 1) count) whole
planting_more columns trees more subset first count left whole left_is bit is so_far =
    planted columns trees more first (entries_from subset (first + 1) count) whole is
    (subst (λ xs. TreesSoFar columns trees xs whole) (ap (entries_from subset first) left_is ∙ from_next subset first count bit) so_far)

-- ---- all trees of the set are made

module _ (es : List Edge) (closes : ClosesNoCycle es) (subset : ℕ) (inside : AreWithin (entries_of_set subset) es) where
  all_planted : AreAllTreesOf es (entries_of_set subset) (forest greatest_entries (columns_of es) [] (entries_of_set subset))
  all_planted = all_trees es closes (columns_of es) (columns_are es) (entries_of_set subset) greatest_entries inside (set_entries_below_limit subset) (set_increases subset)

  pub planting_rooted : (columns : List Column) (trees : List Tree) (first left : ℕ) → columns ≡ columns_of es → left ≡ 0 → TreesSoFar columns trees (entries_from subset first left) (forest greatest_entries columns [] (entries_of_set subset))
      → AreAllTreesOf es (entries_of_set subset) (map tree_of trees)
  planting_rooted columns trees first left is none so_far =
      subst (AreAllTreesOf es (entries_of_set subset)) (sym (trees_are columns trees first left is none so_far)) all_planted
    where
      trees_are : (columns : List Column) (trees : List Tree) (first left : ℕ) → columns ≡ columns_of es → left ≡ 0 → TreesSoFar columns trees (entries_from subset first left) (forest greatest_entries columns [] (entries_of_set subset))
          → map tree_of trees ≡ forest greatest_entries (columns_of es) [] (entries_of_set subset)
      trees_are columns trees first left is none so_far =
          sym (append-nil (map tree_of trees)) ∙ ap (λ (n : ℕ). map tree_of trees ++ forest greatest_entries columns so_far.done (entries_from subset first n)) (sym none) ∙ so_far.all
          ∙ ap (λ (cs : List Column). forest greatest_entries cs [] (entries_of_set subset)) is
