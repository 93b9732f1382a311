-- If a condition has no wrong name or kind, its meaning names only columns that exist. Each comparison in it has two operands of one kind.
use Rattle.std.proofs.Common.{◌≡◌, ℕ, Bool, true, false, List, [], ◌∷◌, ◌++◌, All, map, Option, Some, None, ap, subst, sym, ◌∙◌, refl, append_assoc}
use Rattle.std.specs.Prelude.{is_none}
use Rattle.std.specs.List.{flat_map}
use Rattle.std.proofs.lemmas.List.Elements.{All-nil, All-cons, All-head, All-tail, All-append}
use Rattle.ll_grammars.specs.declared.lexeme.Lexeme.{Lexeme}
use Rattle.query_grammar.specs.declared.tree.Op.{Op}
use Rattle.query_grammar.specs.declared.tree.Op.TheVariants as op
use Rattle.query_grammar.specs.declared.tree.ColumnNode.{ColumnNode}
use Rattle.query_grammar.specs.declared.tree.LiteralNode.{LiteralNode}
use Rattle.query_grammar.specs.declared.tree.LiteralNode.TheVariants as literal
use Rattle.query_grammar.specs.declared.tree.OperandNode.{OperandNode}
use Rattle.query_grammar.specs.declared.tree.OperandNode.TheVariants as operand
use Rattle.query_grammar.specs.declared.tree.TestNode.{TestNode}
use Rattle.query_grammar.specs.declared.tree.TestNode.TheVariants as test
use Rattle.query_grammar.specs.declared.tree.CondNode.{CondNode, map-CondNode}
use Rattle.query_grammar.specs.declared.tree.CondNode.TheVariants as text
use Rattle.query_grammar.specs.declared.tree.CondNode.TheVariants.{rolls-And, rolls-Or, rolls-Not, rolls-Test}
use Rattle.query_grammar.specs.declared.tree.CondNode.TheOpen.{CondNode-F}
use Rattle.query_grammar.specs.declared.tree.CondNode.TheViews.{roll-CondNode}
use Rattle.query_grammar.specs.declared.tree.CondNode.TheFolds.{fold-roll-CondNode, ind-CondNode}
use Rattle.schema_types.specs.declared.types.Schema.{Schema}
use Rattle.query_names.specs.declared.scope.EntryColumn.{EntryColumn}
use Rattle.query_names.specs.declared.scope.Scope.{Scope}
use Rattle.query_types.specs.declared.types.Source.{Source}
use Rattle.query_types.specs.declared.types.Cond.{Cond}
use Rattle.query_types.specs.declared.types.Operand.{Operand}
use Rattle.query_types.specs.declared.types.Cond.TheVariants as cond
use Rattle.query_types.specs.Validity.{is_text, FindsColumn, IsColumnOf, IsCondOf}
use Rattle.query_types.specs.Typing.{IsOfKind, Compares}
use Rattle.query_names.specs.Names.{offset_if}
use Rattle.query_names.specs.Scopes.{resolve, head_of, tests}
use Rattle.query_names.specs.Offences.{of_literal, first_of, differ, operand_offences, test_offences, is_text_column, is_text_operand, kind_offence, kind_offences}
use Rattle.query_names.specs.Values.{Meaning, meaning_of_one, conditions_of_meanings, all_of, any_of, negated_where, resolved_column, operand_value, comparison, equality, test_meaning, meaning_step, meaning}
use Rattle.query_names.proofs.TestFacts.{tests_and, tests_or, tests_not, tests_test}
use Rattle.query_names.proofs.Resolved.{ColumnExists, resolved_exists}
use Rattle.schema_types.proofs.Above.{empty_left, empty_right}
use Rattle.sql_parse.proofs.CondShapes.{compare_of, not_of, and_of, or_of}

-- ---- lists without offences

pub flat_map-append : {A B : Type 0} (f : A → List B) (xs ys : List A) → flat_map f (xs ++ ys) ≡ flat_map f xs ++ flat_map f ys
flat_map-append f [] ys = refl
flat_map-append f (x ∷ xs) ys = ap (λ l. f x ++ l) (flat_map-append f xs ys) ∙ sym (append_assoc (f x) (flat_map f xs) (flat_map f ys))

pub without_offences : {A B : Type 0} (f g : A → List ℕ) (h : A → List B) (P : B → Type 0) → ((a : A) → f a ≡ [] → g a ≡ [] → All P (h a))
    → (xs : List A) → flat_map f xs ≡ [] → flat_map g xs ≡ [] → All P (flat_map h xs)
without_offences f g h P each [] no_f no_g = All-nil P
without_offences f g h P each (x ∷ xs) no_f no_g =
    All-append P (h x) (flat_map h xs)
    (each x (empty_left (f x) (flat_map f xs) no_f) (empty_left (g x) (flat_map g xs) no_g))
    (without_offences f g h P each xs (empty_right (f x) (flat_map f xs) no_f) (empty_right (g x) (flat_map g xs) no_g))

pub not_at : (wrong : Bool) (token : Lexeme) → offset_if wrong token ≡ [] → wrong ≡ false
not_at true token none = absurd cc
not_at false token none = refl

same_kind : (a b : Bool) → differ a b ≡ false → b ≡ a
same_kind true true is = refl
same_kind true false is = sym is
same_kind false b is = is

-- ---- meanings whose conditions name only columns that exist

pub record IsMeaningOf (schema : Schema) (from : List Source) (m : Meaning) : Type 0 where
  pub whole : IsCondOf schema from m.whole
  pub members : All (IsCondOf schema from) m.members

module _ (schema : Schema) (from : List Source) where
  abbrev IsCondOfSchema : Cond → Type 0
  IsCondOfSchema c = IsCondOf schema from c

  alone_of : (c : Cond) → IsCondOfSchema c → IsMeaningOf schema from (meaning_of_one c)
  alone_of c good = record { whole = good; members = All-cons IsCondOfSchema c [] good (All-nil IsCondOfSchema) }

  wholes_of : (ms : List Meaning) → All (IsMeaningOf schema from) ms → All IsCondOfSchema (conditions_of_meanings ms)
  wholes_of [] good = All-nil IsCondOfSchema
  wholes_of (m ∷ ms) good =
      All-cons IsCondOfSchema m.whole (conditions_of_meanings ms) (All-head (IsMeaningOf schema from) m ms good).whole (wholes_of ms (All-tail (IsMeaningOf schema from) m ms good))

  members_of : (ms : List Meaning) → All (IsMeaningOf schema from) ms → All IsCondOfSchema (flat_map (λ part. part.members) ms)
  members_of [] good = All-nil IsCondOfSchema
  members_of (m ∷ ms) good =
      All-append IsCondOfSchema m.members (flat_map (λ part. part.members) ms) (All-head (IsMeaningOf schema from) m ms good).members
      (members_of ms (All-tail (IsMeaningOf schema from) m ms good))

  all_of_of : (ms : List Meaning) → All (IsMeaningOf schema from) ms → IsMeaningOf schema from (all_of ms)
  all_of_of ms good = record { whole = and_of schema from (conditions_of_meanings ms) (wholes_of ms good); members = members_of ms good }

  or_alone : (cs : List Cond) → All IsCondOfSchema cs → IsMeaningOf schema from (meaning_of_one (cond.Or cs))
  or_alone cs good = alone_of (cond.Or cs) (or_of schema from cs good)

  any_of_of : (cs : List Cond) → All IsCondOfSchema cs → IsMeaningOf schema from (any_of cs)
  any_of_of [] good = or_alone [] good
  any_of_of (c ∷ []) good = alone_of c (All-head IsCondOfSchema c [] good)
  any_of_of (c ∷ d ∷ rest) good = or_alone (c ∷ d ∷ rest) good

  negated_of : (negated : Bool) (m : Meaning) → IsMeaningOf schema from m → IsMeaningOf schema from (negated_where negated m)
  negated_of true m good = alone_of (cond.Not m.whole) (not_of schema from m.whole good.whole)
  negated_of false m good = good

-- ---- operands and tests

pub found_finds : (schema : Schema) (from : List Source) (found : EntryColumn) (there : ColumnExists schema from found) → FindsColumn schema from (resolved_column (Some found)) there.column
found_finds schema from found there = record { source = there.source; entry = there.entry; table = there.table; exists = there.exists; declared = there.declared }

module _ (schema : Schema) (words : List ℕ) (from : List Source) (scope : Scope) where
  abbrev value : OperandNode → Operand
  value o = operand_value schema words from scope o

  column_kind : (reference : ColumnNode) (found : Option EntryColumn) → found ≡ resolve schema words from scope reference → offset_if (is_none found) (head_of reference) ≡ []
      → IsColumnOf schema from (resolved_column found) (is_text_column schema words from scope found)
  column_kind reference None is none = absurd cc
  column_kind reference (Some found) is none =
      let there : ColumnExists schema from found = resolved_exists schema words from scope reference found (sym is) in
      record { column = there.column; finds = found_finds schema from found there; kind = ap is_text there.kind }

  operand_kind : (o : OperandNode) → operand_offences schema words from scope o ≡ [] → IsOfKind (IsColumnOf schema from) (value o) (is_text_operand schema words from scope o)
  operand_kind (operand.Column reference) none = column_kind reference (resolve schema words from scope reference) refl none
  operand_kind (operand.Literal (literal.Number sign digits)) none = refl
  operand_kind (operand.Literal (literal.Text token)) none = refl

  compared : (left other : OperandNode) → operand_offences schema words from scope left ≡ [] → operand_offences schema words from scope other ≡ []
      → kind_offence schema words from scope (is_text_operand schema words from scope left) other ≡ [] → Compares (IsColumnOf schema from) (value left) (value other)
  compared left other left_named other_named alike = record {
    text = is_text_operand schema words from scope left;
    left_kind = operand_kind left left_named;
    right_kind = subst (IsOfKind (IsColumnOf schema from) (value other))
        (same_kind (is_text_operand schema words from scope left) (is_text_operand schema words from scope other)
        (not_at (differ (is_text_operand schema words from scope left) (is_text_operand schema words from scope other)) (first_of other) alike))
        (operand_kind other other_named);
  }

  comparison_of : (how : Op) (left other : OperandNode) → operand_offences schema words from scope left ≡ [] → operand_offences schema words from scope other ≡ []
      → kind_offence schema words from scope (is_text_operand schema words from scope left) other ≡ [] → IsCondOf schema from (comparison schema words from scope how left other)
  comparison_of how left other left_named other_named alike =
      compare_of schema from how (value left) (value other) (compared left other left_named other_named alike)

  equalities_of : (left : OperandNode) (values : List LiteralNode) → operand_offences schema words from scope left ≡ []
      → flat_map (kind_offence schema words from scope (is_text_operand schema words from scope left)) (map of_literal values) ≡ []
      → All (IsCondOf schema from) (map (equality schema words from scope left) values)
  equalities_of left [] named alike = All-nil (IsCondOf schema from)
  equalities_of left (l ∷ values) named alike =
      let wrong : OperandNode → List ℕ = kind_offence schema words from scope (is_text_operand schema words from scope left) in
      All-cons (IsCondOf schema from) (equality schema words from scope left l) (map (equality schema words from scope left) values)
      (comparison_of op.Eq left (of_literal l) named refl (empty_left (wrong (of_literal l)) (flat_map wrong (map of_literal values)) alike))
      (equalities_of left values named (empty_right (wrong (of_literal l)) (flat_map wrong (map of_literal values)) alike))

  test_of : (t : TestNode) → test_offences schema words from scope t ≡ [] → kind_offences schema words from scope t ≡ [] → IsMeaningOf schema from (test_meaning schema words from scope t)
  test_of (test.Compare left how right) names kinds =
      let rest : List ℕ = operand_offences schema words from scope right ++ [] in
      alone_of schema from (comparison schema words from scope how left right)
      (comparison_of how left right (empty_left (operand_offences schema words from scope left) rest names)
      (empty_left (operand_offences schema words from scope right) [] (empty_right (operand_offences schema words from scope left) rest names))
      (empty_left (kind_offence schema words from scope (is_text_operand schema words from scope left) right) [] kinds))
  test_of (test.Between left negated low high) names kinds =
      let name : OperandNode → List ℕ = operand_offences schema words from scope in
      let wrong : OperandNode → List ℕ = kind_offence schema words from scope (is_text_operand schema words from scope left) in
      let both : name low ++ (name high ++ []) ≡ [] = empty_right (name left) (name low ++ (name high ++ [])) names in
      let named : name left ≡ [] = empty_left (name left) (name low ++ (name high ++ [])) names in
      let at_least : Cond = comparison schema words from scope op.Ge left low in
      let at_most : Cond = comparison schema words from scope op.Le left high in
      negated_of schema from negated (all_of (meaning_of_one at_least ∷ meaning_of_one at_most ∷ []))
      (all_of_of schema from (meaning_of_one at_least ∷ meaning_of_one at_most ∷ [])
      (All-cons (IsMeaningOf schema from) (meaning_of_one at_least) (meaning_of_one at_most ∷ [])
      (alone_of schema from at_least (comparison_of op.Ge left low named (empty_left (name low) (name high ++ []) both) (empty_left (wrong low) (wrong high ++ []) kinds)))
      (All-cons (IsMeaningOf schema from) (meaning_of_one at_most) []
      (alone_of schema from at_most (comparison_of op.Le left high named (empty_left (name high) [] (empty_right (name low) (name high ++ []) both))
      (empty_left (wrong high) [] (empty_right (wrong low) (wrong high ++ []) kinds))))
      (All-nil (IsMeaningOf schema from)))))
  test_of (test.In left negated values) names kinds =
      let named : operand_offences schema words from scope left ≡ [] =
      empty_left (operand_offences schema words from scope left) (flat_map (operand_offences schema words from scope) (map of_literal values)) names in
      negated_of schema from negated (any_of (map (equality schema words from scope left) values))
      (any_of_of schema from (map (equality schema words from scope left) values) (equalities_of left values named kinds))

  -- ---- conditions

  abbrev means : CondNode → Meaning
  means c = meaning schema words from scope c

  pub means_and : (members : List CondNode) → means (text.And members) ≡ all_of (map means members)
  means_and members = ap means (sym (rolls-And members)) ∙ fold-roll-CondNode Meaning (meaning_step schema words from scope) (CondNode-F.And members)

  pub means_or : (members : List CondNode) → means (text.Or members) ≡ meaning_of_one (cond.Or (conditions_of_meanings (map means members)))
  means_or members = ap means (sym (rolls-Or members)) ∙ fold-roll-CondNode Meaning (meaning_step schema words from scope) (CondNode-F.Or members)

  pub means_not : (member : CondNode) → means (text.Not member) ≡ meaning_of_one (cond.Not (means member).whole)
  means_not member = ap means (sym (rolls-Not member)) ∙ fold-roll-CondNode Meaning (meaning_step schema words from scope) (CondNode-F.Not member)

  pub means_test : (t : TestNode) → means (text.Test t) ≡ test_meaning schema words from scope t
  means_test t = ap means (sym (rolls-Test t)) ∙ fold-roll-CondNode Meaning (meaning_step schema words from scope) (CondNode-F.Test t)

  abbrev names_in : CondNode → List ℕ
  names_in c = flat_map (test_offences schema words from scope) (tests c)

  abbrev kinds_in : CondNode → List ℕ
  kinds_in c = flat_map (kind_offences schema words from scope) (tests c)

  abbrev HasMeaningOfSchema : CondNode → Type 0
  HasMeaningOfSchema c = names_in c ≡ [] → kinds_in c ≡ [] → IsMeaningOf schema from (means c)

  chain_of : (held : List ((c : CondNode) × HasMeaningOfSchema c)) → flat_map (test_offences schema words from scope) (flat_map tests (map (λ e. e.0) held)) ≡ []
      → flat_map (kind_offences schema words from scope) (flat_map tests (map (λ e. e.0) held)) ≡ [] → All (IsMeaningOf schema from) (map means (map (λ e. e.0) held))
  chain_of [] names kinds = All-nil (IsMeaningOf schema from)
  chain_of (e ∷ held) names kinds =
      let cs : List CondNode = map (λ (e : (c : CondNode) × HasMeaningOfSchema c). e.0) held in
      let named : names_in e.0 ++ flat_map (test_offences schema words from scope) (flat_map tests cs) ≡ [] =
      sym (flat_map-append (test_offences schema words from scope) (tests e.0) (flat_map tests cs)) ∙ names in
      let alike : kinds_in e.0 ++ flat_map (kind_offences schema words from scope) (flat_map tests cs) ≡ [] =
      sym (flat_map-append (kind_offences schema words from scope) (tests e.0) (flat_map tests cs)) ∙ kinds in
      All-cons (IsMeaningOf schema from) (means e.0) (map means cs)
      (e.1 (empty_left (names_in e.0) _ named) (empty_left (kinds_in e.0) _ alike))
      (chain_of held (empty_right (names_in e.0) _ named) (empty_right (kinds_in e.0) _ alike))

  good_layer : (y : CondNode-F ((c : CondNode) × HasMeaningOfSchema c)) → HasMeaningOfSchema (roll-CondNode (map-CondNode ((c : CondNode) × HasMeaningOfSchema c) CondNode (λ e. e.0) y))
  good_layer (CondNode-F.And held) =
      let cs : List CondNode = map (λ (e : (c : CondNode) × HasMeaningOfSchema c). e.0) held in
      subst HasMeaningOfSchema (sym (rolls-And cs)) (λ names kinds. subst (IsMeaningOf schema from) (sym (means_and cs))
      (all_of_of schema from (map means cs)
      (chain_of held (sym (ap (flat_map (test_offences schema words from scope)) (tests_and cs)) ∙ names) (sym (ap (flat_map (kind_offences schema words from scope)) (tests_and cs)) ∙ kinds))))
  good_layer (CondNode-F.Or held) =
      let cs : List CondNode = map (λ (e : (c : CondNode) × HasMeaningOfSchema c). e.0) held in
      subst HasMeaningOfSchema (sym (rolls-Or cs)) (λ names kinds. subst (IsMeaningOf schema from) (sym (means_or cs))
      (or_alone schema from (conditions_of_meanings (map means cs)) (wholes_of schema from (map means cs)
      (chain_of held (sym (ap (flat_map (test_offences schema words from scope)) (tests_or cs)) ∙ names) (sym (ap (flat_map (kind_offences schema words from scope)) (tests_or cs)) ∙ kinds)))))
  good_layer (CondNode-F.Not e) =
      subst HasMeaningOfSchema (sym (rolls-Not e.0)) (λ names kinds. subst (IsMeaningOf schema from) (sym (means_not e.0))
      (alone_of schema from (cond.Not (means e.0).whole) (not_of schema from (means e.0).whole
      (e.1 (sym (ap (flat_map (test_offences schema words from scope)) (tests_not e.0)) ∙ names) (sym (ap (flat_map (kind_offences schema words from scope)) (tests_not e.0)) ∙ kinds)).whole)))
  good_layer (CondNode-F.Test t) =
      subst HasMeaningOfSchema (sym (rolls-Test t)) (λ names kinds. subst (IsMeaningOf schema from) (sym (means_test t))
      (test_of t (empty_left (test_offences schema words from scope t) [] (sym (ap (flat_map (test_offences schema words from scope)) (tests_test t)) ∙ names))
      (empty_left (kind_offences schema words from scope t) [] (sym (ap (flat_map (kind_offences schema words from scope)) (tests_test t)) ∙ kinds))))

  pub condition_of : (c : CondNode) → names_in c ≡ [] → kinds_in c ≡ [] → IsMeaningOf schema from (means c)
  condition_of = ind-CondNode HasMeaningOfSchema (λ x y is. subst (λ z. HasMeaningOfSchema (roll-CondNode z)) is (good_layer y))
