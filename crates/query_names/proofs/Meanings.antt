-- The meaning of a condition from the meanings of its parts.
use Rattle.std.proofs.Common.{◌≡◌, ℕ, zero, suc, ◌<◌, ◌≤◌, List, [], ◌∷◌, ◌++◌, length, map, Some, ap, subst, sym, ◌∙◌, refl, arith}
use Rattle.std.specs.Prelude.{slice_get, true, false}
use Rattle.query_grammar.specs.declared.tree.ColumnNode.{ColumnNode}
use Rattle.query_names.specs.declared.binder.Binder.{Binder}
use Rattle.query_names.specs.declared.scope.Scope.{Scope}
use Rattle.query_names.specs.declared.scope.EntryColumn.{EntryColumn}
use Rattle.query_types.specs.declared.types.Source.{Source}
use Rattle.query_types.specs.declared.types.Cond.{Cond}
use Rattle.query_types.specs.declared.types.Cond.TheVariants as cond
use Rattle.std.specs.List.{flat_map}
use Rattle.std.specs.Prelude.{Result, Ok, Err, IfOk, All}
use Rattle.ll_grammars.specs.declared.lexeme.Lexeme.{Lexeme}
use Rattle.query_grammar.specs.Lexemes.{IsCondWith, IsTestWith}
use Rattle.query_grammar.proofs.CondTokens.{members_of_and, members_of_or, inner_of_not, test_in}
use Rattle.query_grammar.specs.declared.tree.TestNode.{TestNode}
use Rattle.query_grammar.specs.declared.tree.TestNode.TheVariants as test
use Rattle.query_grammar.specs.declared.tree.CondNode.{CondNode}
use Rattle.query_grammar.specs.declared.tree.CondNode.TheVariants as text
use Rattle.query_grammar.specs.declared.tree.CondNode.TheVariants.{rolls-And, rolls-Or, rolls-Not, rolls-Test}
use Rattle.query_grammar.specs.declared.tree.CondNode.TheOpen.{CondNode-F}
use Rattle.query_grammar.specs.declared.tree.CondNode.TheFolds.{fold-roll-CondNode}
use Rattle.query_names.specs.Values.{any_of, all_of, equality, meaning_of_one, conditions_of_meanings, Meaning, meaning, meaning_step, test_meaning}
use Rattle.query_names.specs.Binding.{schema_of, from_of, resolved_by, compared_by, test_value_by, test_members_by, value_by, members_by}
use Rattle.query_names.specs.Checking.{comparisons_by, test_condition, is_range}
use Rattle.query_names.proofs.Resolved.{ColumnExists, resolved_exists}

within : (from : List Source) (n : ℕ) (source : Source) → slice_get from n ≡ Some source → n < length from
within [] n source is = absurd cc
within (x ∷ from) zero source is = omega arith
within (x ∷ from) (suc n) source is = let more : n < length from = within from n source is in omega arith

pub found_entry_in_8_bits : (binder : Binder) (scope : Scope) (reference : ColumnNode) (column : EntryColumn) → Some column ≡ resolved_by binder scope reference → length (from_of binder) ≤ 12 → column.from < 256
found_entry_in_8_bits binder scope reference column is few =
    let stands : ColumnExists (schema_of binder) (from_of binder) column = resolved_exists (schema_of binder) binder.text.now (from_of binder) scope reference column (sym is) in
    let below : column.from < length (from_of binder) = within (from_of binder) column.from stands.source stands.entry in
    omega arith

pub only_part_is_or : (parts rest : List Cond) (one : Cond) → length parts ≡ 1 → parts ≡ rest ++ one ∷ [] → one ≡ (any_of parts).whole
only_part_is_or [] rest one few is = absurd (omega arith)
only_part_is_or (x ∷ []) [] one few is = cc
only_part_is_or (x ∷ []) (y ∷ rest) one few is = absurd (let e : [] ≡ rest ++ one ∷ [] = cc in nothing rest e) where
  nothing : (rest : List Cond) → [] ≡ rest ++ one ∷ [] → ⊥
  nothing [] e = cc
  nothing (z ∷ rest) e = cc
only_part_is_or (x ∷ y ∷ parts) rest one few is = absurd (omega arith)

pub several_parts_are_or : (parts : List Cond) → (length parts ≡ 1 → ⊥) → cond.Or parts ≡ (any_of parts).whole
several_parts_are_or [] many = refl
several_parts_are_or (x ∷ []) many = absurd (many refl)
several_parts_are_or (x ∷ y ∷ parts) many = refl

-- ---- `test_condition` of a test's comparisons is the condition that the test means

module _ (binder : Binder) (scope : Scope) where
  pub whole_is : (t : TestNode) → test_condition t (comparisons_by binder scope t) ≡ test_value_by binder scope t
  unfolding comparisons_by compared_by test_value_by
  whole_is (test.Compare left how right) = refl
  whole_is (test.Between left true low high) = refl
  whole_is (test.Between left false low high) = refl
  whole_is (test.In left true values) = refl
  whole_is (test.In left false values) = refl

  pub range_members : (t : TestNode) → is_range t ≡ true → comparisons_by binder scope t ≡ test_members_by binder scope t
  unfolding comparisons_by compared_by test_members_by
  range_members (test.Compare left how right) is = absurd cc
  range_members (test.Between left true low high) is = absurd cc
  range_members (test.Between left false low high) is = refl
  range_members (test.In left negated values) is = absurd cc

  any_alone : (parts : List Cond) → (any_of parts).whole ∷ [] ≡ (any_of parts).members
  any_alone [] = refl
  any_alone (x ∷ []) = refl
  any_alone (x ∷ y ∷ parts) = refl

  pub whole_member : (t : TestNode) → is_range t ≡ false → test_value_by binder scope t ∷ [] ≡ test_members_by binder scope t
  unfolding test_value_by test_members_by
  whole_member (test.Compare left how right) is = refl
  whole_member (test.Between left true low high) is = refl
  whole_member (test.Between left false low high) is = absurd cc
  whole_member (test.In left true values) is = refl
  whole_member (test.In left false values) is = any_alone (map (equality (schema_of binder) binder.text.now (from_of binder) scope left) values)

-- ---- the meaning of an AND, an OR and a NOT, from the meanings of its members

module _ (binder : Binder) (scope : Scope) where
  abbrev step : CondNode-F Meaning → Meaning
  step = meaning_step (schema_of binder) binder.text.now (from_of binder) scope

  wholes_map : (cs : List CondNode) → conditions_of_meanings (map (meaning (schema_of binder) binder.text.now (from_of binder) scope) cs) ≡ map (value_by binder scope) cs
  unfolding value_by
  wholes_map [] = refl
  wholes_map (c ∷ cs) = ap (λ rest. value_by binder scope c ∷ rest) (wholes_map cs)

  members_map : (cs : List CondNode) → flat_map (λ part. part.members) (map (meaning (schema_of binder) binder.text.now (from_of binder) scope) cs) ≡ flat_map (members_by binder scope) cs
  unfolding members_by
  members_map [] = refl
  members_map (c ∷ cs) = ap (λ rest. members_by binder scope c ++ rest) (members_map cs)

  meaning_and : (cs : List CondNode) → meaning (schema_of binder) binder.text.now (from_of binder) scope (text.And cs) ≡ all_of (map (meaning (schema_of binder) binder.text.now (from_of binder) scope) cs)
  meaning_and cs = ap (meaning (schema_of binder) binder.text.now (from_of binder) scope) (sym (rolls-And cs)) ∙ fold-roll-CondNode Meaning step (CondNode-F.And cs)

  meaning_or : (cs : List CondNode) → meaning (schema_of binder) binder.text.now (from_of binder) scope (text.Or cs) ≡ meaning_of_one (cond.Or (conditions_of_meanings (map (meaning (schema_of binder) binder.text.now (from_of binder) scope) cs)))
  meaning_or cs = ap (meaning (schema_of binder) binder.text.now (from_of binder) scope) (sym (rolls-Or cs)) ∙ fold-roll-CondNode Meaning step (CondNode-F.Or cs)

  meaning_not : (c : CondNode) → meaning (schema_of binder) binder.text.now (from_of binder) scope (text.Not c) ≡ meaning_of_one (cond.Not (meaning (schema_of binder) binder.text.now (from_of binder) scope c).whole)
  meaning_not c = ap (meaning (schema_of binder) binder.text.now (from_of binder) scope) (sym (rolls-Not c)) ∙ fold-roll-CondNode Meaning step (CondNode-F.Not c)

  meaning_test : (t : TestNode) → meaning (schema_of binder) binder.text.now (from_of binder) scope (text.Test t) ≡ test_meaning (schema_of binder) binder.text.now (from_of binder) scope t
  meaning_test t = ap (meaning (schema_of binder) binder.text.now (from_of binder) scope) (sym (rolls-Test t)) ∙ fold-roll-CondNode Meaning step (CondNode-F.Test t)

  pub value_and : (cs : List CondNode) → value_by binder scope (text.And cs) ≡ cond.And (map (value_by binder scope) cs)
  unfolding value_by
  value_and cs = ap (λ m. m.whole) (meaning_and cs) ∙ ap cond.And (wholes_map cs)

  pub value_or : (cs : List CondNode) → value_by binder scope (text.Or cs) ≡ cond.Or (map (value_by binder scope) cs)
  unfolding value_by
  value_or cs = ap (λ m. m.whole) (meaning_or cs) ∙ ap cond.Or (wholes_map cs)

  pub value_not : (c : CondNode) → value_by binder scope (text.Not c) ≡ cond.Not (value_by binder scope c)
  unfolding value_by
  value_not c = ap (λ m. m.whole) (meaning_not c)

  pub value_test : (t : TestNode) → value_by binder scope (text.Test t) ≡ test_value_by binder scope t
  unfolding value_by test_value_by
  value_test t = ap (λ m. m.whole) (meaning_test t)

  pub members_and : (cs : List CondNode) → members_by binder scope (text.And cs) ≡ flat_map (members_by binder scope) cs
  unfolding members_by
  members_and cs = ap (λ m. m.members) (meaning_and cs) ∙ members_map cs

  pub members_or : (cs : List CondNode) → members_by binder scope (text.Or cs) ≡ value_by binder scope (text.Or cs) ∷ []
  unfolding members_by value_by
  members_or cs = ap (λ m. m.members) (meaning_or cs) ∙ ap (λ m. m.whole ∷ []) (sym (meaning_or cs))

  pub members_not : (c : CondNode) → members_by binder scope (text.Not c) ≡ value_by binder scope (text.Not c) ∷ []
  unfolding members_by value_by
  members_not c = ap (λ m. m.members) (meaning_not c) ∙ ap (λ m. m.whole ∷ []) (sym (meaning_not c))

  pub members_test : (t : TestNode) → members_by binder scope (text.Test t) ≡ test_members_by binder scope t
  unfolding members_by test_members_by
  members_test t = ap (λ m. m.members) (meaning_test t)

-- ---- if a condition's tokens have P, so have the tokens of its members

pub tokens_of_and : (P : Lexeme → Type 0) (c : CondNode) (members items : List CondNode) → c ≡ text.And members → items ≡ members → IsCondWith P c → All (IsCondWith P) items
tokens_of_and P c members items is same h = subst (All (IsCondWith P)) (sym same) (members_of_and P members (subst (IsCondWith P) is h))

pub tokens_of_or : (P : Lexeme → Type 0) (c : CondNode) (members items : List CondNode) → c ≡ text.Or members → items ≡ members → IsCondWith P c → All (IsCondWith P) items
tokens_of_or P c members items is same h = subst (All (IsCondWith P)) (sym same) (members_of_or P members (subst (IsCondWith P) is h))

pub tokens_of_not : (P : Lexeme → Type 0) (c member inner : CondNode) → c ≡ text.Not member → inner ≡ member → IsCondWith P c → IsCondWith P inner
tokens_of_not P c member inner is same h = subst (IsCondWith P) (sym same) (inner_of_not P member (subst (IsCondWith P) is h))

pub tokens_of_test : (P : Lexeme → Type 0) (c : CondNode) (t : TestNode) → c ≡ text.Test t → IsCondWith P c → IsTestWith P t
tokens_of_test P c t is h = test_in P t (subst (IsCondWith P) is h)

pub if_ok_map : {A E : Type 0} (P Q : A → Type 0) (r : Result A E) → IfOk r P → ((v : A) → P v → Q v) → IfOk r Q
if_ok_map P Q (Ok v) h f = f v h
if_ok_map P Q (Err e) h f = tt
