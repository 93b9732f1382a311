-- `EntriesNamed` says whether a list of entries has no entry, just one entry, or several entries. These lemmas compute it for appended lists and for
-- equalities.
use Rattle.std.proofs.Common.{◌≡◌, ℕ, ◌+◌, ◌<◌, Bool, true, false, ◌&&◌, eqb, List, [], ◌∷◌, ◌++◌, map, length, get_or, drop, Some, None, refl, ap, sym, ◌∙◌, subst, inl, inr}
use Rattle.std.specs.List.{flat_map, list_all}
use Rattle.std.proofs.lemmas.Bool.{cases_Bool, eqb-true, eqb-false, eq-eqb, ne_eqb}
use Rattle.std.proofs.Math.Numerals.{add-one}
use Rattle.std.proofs.Math.Seq.{drop-cons}
use Rattle.std.proofs.Math.Bool.{and-true, and-false, or-false}
use Rattle.berge_tree.specs.declared.edges.Edge.{Edge}
use Rattle.query_grammar.specs.declared.tree.Op.{Op}
use Rattle.query_grammar.specs.declared.tree.Op.TheVariants as op
use Rattle.query_types.specs.declared.types.Operand.{Operand}
use Rattle.query_types.specs.declared.types.Operand.TheVariants as operand
use Rattle.query_types.specs.declared.types.Cond.{Cond}
use Rattle.query_types.specs.declared.types.Cond.TheOpen.{Cond-F}
use Rattle.query_types.specs.declared.types.Cond.TheViews.{out-Cond, roll-Cond, roll-out-Cond}
use Rattle.query_types.specs.declared.types.Cond.TheFolds.{fold-roll-Cond}
use Rattle.join_graph.specs.declared.naming.EntriesNamed.{EntriesNamed}
use Rattle.join_graph.specs.declared.naming.EntriesNamed.TheVariants as named
use Rattle.entry_sets.specs.Naming.{is_only_named, are_within}
use Rattle.join_graph.specs.Conjuncts.{column_of, equality_in, equality_of, equality_between, compared, have_one_entry}
use Rattle.query_types.specs.Named.{entries_of_operand, entries_named, entries_step}
use Rattle.join_graph.specs.Naming.{named_of, together}

pub together_assoc : (a b c : EntriesNamed) → together (together a b) c ≡ together a (together b c)
together_assoc named.NoEntry b c = refl
together_assoc named.Several b c = refl
together_assoc (named.OneEntry a) named.NoEntry c = refl
together_assoc (named.OneEntry a) named.Several c = refl
together_assoc (named.OneEntry a) (named.OneEntry b) named.NoEntry = elim (cases_Bool (eqb a b)) [ inl t ↦ rw t refl | inr n ↦ rw n refl ]
together_assoc (named.OneEntry a) (named.OneEntry b) named.Several = elim (cases_Bool (eqb a b)) [ inl t ↦ rw t refl | inr n ↦ rw n refl ]
together_assoc (named.OneEntry a) (named.OneEntry b) (named.OneEntry c) = elim (cases_Bool (eqb a b)) [
  | inl t ↦ (let e : a ≡ b = eqb-true a b t in subst (λ d. together (together (named.OneEntry a) (named.OneEntry d)) (named.OneEntry c) ≡ together (named.OneEntry a) (together (named.OneEntry d) (named.OneEntry c))) e (same a c))
  | inr n ↦ elim (cases_Bool (eqb b c)) [ inl u ↦ rw (n, u, n) refl | inr u ↦ rw (n, u) refl ]
]
  where
    same : (a c : ℕ) → together (together (named.OneEntry a) (named.OneEntry a)) (named.OneEntry c) ≡ together (named.OneEntry a) (together (named.OneEntry a) (named.OneEntry c))
    same a c = elim (cases_Bool (eqb a c)) [
      | inl t ↦ rw (eq-eqb a a refl, t, eq-eqb a a refl) refl
      | inr n ↦ rw (eq-eqb a a refl, n) refl
    ]

pub named_of-append : (xs ys : List ℕ) → named_of (xs ++ ys) ≡ together (named_of xs) (named_of ys)
named_of-append [] ys = refl
named_of-append (x ∷ xs) ys = ap (together (named.OneEntry x)) (named_of-append xs ys) ∙ sym (together_assoc (named.OneEntry x) (named_of xs) (named_of ys))

-- one step of the loop over the members of AND or OR. `names` is for the members before i
pub member_more : (members : List Cond) (i : ℕ) (d : Cond) (names more one : EntriesNamed) → i < length members → one ≡ named_of (entries_named (get_or members i d)) → more ≡ together names one
    → together names (named_of (flat_map (λ inner. inner) (map entries_named (drop i members)))) ≡ named_of (flat_map (λ inner. inner) (map entries_named members))
    → together more (named_of (flat_map (λ inner. inner) (map entries_named (drop (i + 1) members)))) ≡ named_of (flat_map (λ inner. inner) (map entries_named members))
member_more members i d names more one h is is_more so_far =
    let rest : List Cond = drop (i + 1) members in
    let front : drop i members ≡ get_or members i d ∷ rest = rw add-one (drop-cons members i d h) in
    rw (is_more, is) (together_assoc names (named_of (entries_named (get_or members i d))) (named_of (flat_map (λ inner. inner) (map entries_named rest)))
    ∙ ap (together names) (sym (named_of-append (entries_named (get_or members i d)) (flat_map (λ inner. inner) (map entries_named rest))))
    ∙ ap (λ cs. together names (named_of (flat_map (λ inner. inner) (map entries_named cs)))) (sym front) ∙ so_far)

-- ---- whether a list names just one entry

abbrev pub names_no_other_entry : ℕ → EntriesNamed → Bool
names_no_other_entry entry named.NoEntry = false
names_no_other_entry entry (named.OneEntry own) = eqb own entry
names_no_other_entry entry named.Several = false

abbrev pub names_one_entry : EntriesNamed → Bool
names_one_entry named.NoEntry = false
names_one_entry (named.OneEntry own) = true
names_one_entry named.Several = false

abbrev names_at_most_entry : ℕ → EntriesNamed → Bool
names_at_most_entry entry named.NoEntry = true
names_at_most_entry entry (named.OneEntry own) = eqb own entry
names_at_most_entry entry named.Several = false

not_both_equal : (a b c : ℕ) → eqb a b ≡ false → (eqb a c && eqb b c) ≡ false
not_both_equal a b c n = elim (cases_Bool (eqb a c)) [
  | inl t ↦ elim (cases_Bool (eqb b c)) [
    | inl u ↦ absurd (eqb-false a b n (eqb-true a c t ∙ sym (eqb-true b c u)))
    | inr u ↦ rw (t, u) refl
  ]
  | inr m ↦ rw m refl
]

all_with : (entry x : ℕ) (n : EntriesNamed) → (eqb x entry && names_at_most_entry entry n) ≡ names_at_most_entry entry (together (named.OneEntry x) n)
all_with entry x named.NoEntry = and-true (eqb x entry)
all_with entry x named.Several = and-false (eqb x entry)
all_with entry x (named.OneEntry own) = elim (cases_Bool (eqb x own)) [
  | inl t ↦ (let e : x ≡ own = eqb-true x own t in
      rw t (subst (λ o. (eqb x entry && eqb o entry) ≡ eqb x entry) e (twice (eqb x entry))))
  | inr n ↦ rw n (not_both_equal x own entry n)
]
  where
    twice : (b : Bool) → (b && b) ≡ b
    twice true = refl
    twice false = refl

all_named : (entry : ℕ) (xs : List ℕ) → list_all (λ e. eqb e entry) xs ≡ names_at_most_entry entry (named_of xs)
all_named entry [] = refl
all_named entry (x ∷ xs) = ap (λ b. eqb x entry && b) (all_named entry xs) ∙ all_with entry x (named_of xs)

just_with : (entry x : ℕ) (n : EntriesNamed) → names_at_most_entry entry (together (named.OneEntry x) n) ≡ names_no_other_entry entry (together (named.OneEntry x) n)
just_with entry x named.NoEntry = refl
just_with entry x named.Several = refl
just_with entry x (named.OneEntry own) = elim (cases_Bool (eqb x own)) [ inl t ↦ rw t refl | inr n ↦ rw n refl ]

one_with : (x : ℕ) (n : EntriesNamed) → names_at_most_entry x n ≡ names_one_entry (together (named.OneEntry x) n)
one_with x named.NoEntry = refl
one_with x named.Several = refl
one_with x (named.OneEntry own) = elim (cases_Bool (eqb x own)) [
  | inl t ↦ rw (t, eq-eqb own x (sym (eqb-true x own t))) refl
  | inr n ↦ rw (n, ne_eqb own x (λ e. eqb-false x own n (sym e))) refl
]

within_one : (entry : ℕ) (xs : List ℕ) → are_within xs (entry ∷ []) ≡ list_all (λ e. eqb e entry) xs
within_one entry [] = refl
within_one entry (x ∷ xs) = rw (or-false (eqb x entry), within_one entry xs) refl

pub only_named_is : (entry : ℕ) (xs : List ℕ) → is_only_named xs entry ≡ names_no_other_entry entry (named_of xs)
only_named_is entry [] = refl
only_named_is entry (x ∷ xs) =
    and-true (are_within (x ∷ xs) (entry ∷ [])) ∙ within_one entry (x ∷ xs) ∙ all_named entry (x ∷ xs) ∙ just_with entry x (named_of xs)

pub one_named : (xs : List ℕ) → have_one_entry xs ≡ names_one_entry (named_of xs)
one_named [] = refl
one_named (x ∷ xs) = all_named x xs ∙ one_with x (named_of xs)

-- ---- an equality that joins two entries names several entries

joins_several : (left right : Operand) (edge : Edge) → equality_between (column_of left) (column_of right) ≡ Some edge → named_of (entries_of_operand left ++ entries_of_operand right) ≡ named.Several
joins_several (operand.Column left) (operand.Column right) edge e = elim (cases_Bool (eqb left.from right.from)) [
  | inl t ↦ (let no : None ≡ Some edge = rw t at e in absurd (cc))
  | inr n ↦ rw n refl
]
joins_several (operand.Column left) (operand.Int number) edge e = absurd (cc)
joins_several (operand.Column left) (operand.Text text) edge e = absurd (cc)
joins_several (operand.Int number) right edge e = absurd (cc)
joins_several (operand.Text text) right edge e = absurd (cc)

compares_several : (op : Op) (left right : Operand) (edge : Edge) → compared op (column_of left) (column_of right) ≡ Some edge → named_of (entries_of_operand left ++ entries_of_operand right) ≡ named.Several
compares_several op.Eq left right edge e = joins_several left right edge e
compares_several op.Ne left right edge e = absurd (cc)
compares_several op.Lt left right edge e = absurd (cc)
compares_several op.Le left right edge e = absurd (cc)
compares_several op.Gt left right edge e = absurd (cc)
compares_several op.Ge left right edge e = absurd (cc)

rolled_several : (layer : Cond-F Cond) (edge : Edge) → equality_in layer ≡ Some edge → named_of (entries_named (roll-Cond layer)) ≡ named.Several
rolled_several (Cond-F.Compare op left right) edge e = ap named_of (fold-roll-Cond (List ℕ) entries_step (Cond-F.Compare op left right)) ∙ compares_several op left right edge e
rolled_several (Cond-F.And members) edge e = absurd (cc)
rolled_several (Cond-F.Or members) edge e = absurd (cc)
rolled_several (Cond-F.Not member) edge e = absurd (cc)

pub equality_several : (c : Cond) (edge : Edge) → equality_of c ≡ Some edge → named_of (entries_named c) ≡ named.Several
equality_several c edge e = subst (λ d. named_of (entries_named d) ≡ named.Several) (roll-out-Cond c) (rolled_several (out-Cond c) edge e)
