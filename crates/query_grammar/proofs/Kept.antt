-- The tokens of a query's syntax tree are tokens of its text.
use Rattle.std.proofs.Common.{Bool, true, false, All, Contains, IfSome, Option, Some, None, List, [], ◌∷◌, ℕ, zero, suc}
use Rattle.std.proofs.lemmas.List.Elements.{All-head}
use Rattle.ll_grammars.specs.declared.lexeme.Lexeme.{Lexeme}
use Rattle.ll_grammars.specs.declared.terminal.Terminal.TheVariants as terminal
use Rattle.ll_grammars.specs.Language.{Language}
use Rattle.ll_grammars.specs.Preserving.{Preserves}
use Rattle.ll_grammars.proofs.Preserving.{preserves_one, preserves_then, preserves_mapped, preserves_union, preserves_maybe, preserves_many, kept_of_text}
use Rattle.ll_grammars.proofs.PreservingRules.{preserves_any, preserves_word, preserves_after_word, preserves_listed, preserves_inside}
use Rattle.query_grammar.specs.declared.tree.CondNode.{CondNode}
use Rattle.query_grammar.specs.declared.tree.QueryNode.{QueryNode}
use Rattle.query_grammar.specs.Values.{column, number, text, of_column, of_literal, comparison, between, among_values, tested, negate, all_of, any_of, source, join, part, all_columns, one_column, everything, these_outs, query}
use Rattle.query_grammar.specs.Grammar.{name_terminals, sign_terminals, digit_terminals, Name, NewName, ColumnReference, Literal, Operand, ComparisonOperator, Negation, Predicate, BooleanTest, ConditionOf, EmptyLanguage, TestWithin, SearchCondition, TableReference, QualifiedJoin, FromPart, SelectSublist, SelectList, QuerySpecification}
use Rattle.query_grammar.specs.Lexemes.{IsNameWith, IsColumnWith, IsLiteralWith, IsOperandWith, IsTestWith, IsCondWith, IsSourceWith, IsJoinWith, IsFromItemWith, IsOutWith, IsOutListWith, IsQueryWith}
use Rattle.query_grammar.proofs.CondTokens.{test_of, not_of, and_of, or_of}

module _ (P : Lexeme → Type 0) where
  name : Preserves P Name (IsNameWith P)
  name = preserves_one P name_terminals

  new_name : Preserves P NewName (λ new. IfSome new (IsNameWith P))
  new_name = preserves_maybe (preserves_mapped _ (IsNameWith P) (preserves_then (preserves_maybe (preserves_word P terminal.As)) name) (λ parts q. q.1))

  column_made : (first : Lexeme) (other : Option Lexeme) → IsNameWith P first → IfSome other (IsNameWith P) → IsColumnWith P (column (first, other))
  column_made first None h k = (tt, h)
  column_made first (Some other) h k = (h, k)

  column_of : Preserves P ColumnReference (IsColumnWith P)
  column_of = preserves_mapped column (IsColumnWith P) (preserves_then name (preserves_maybe (preserves_after_word terminal.Dot name))) (λ parts q. column_made parts.0 parts.1 q.0 q.1)

  literal_of : Preserves P Literal (IsLiteralWith P)
  literal_of =
      preserves_union (preserves_mapped number (IsLiteralWith P) (preserves_then (preserves_maybe (preserves_one P sign_terminals)) (preserves_one P digit_terminals)) (λ parts q. (q.0, q.1)))
      (preserves_mapped text (IsLiteralWith P) (preserves_word P terminal.Text) (λ token q. q))

  operand_of : Preserves P Operand (IsOperandWith P)
  operand_of = preserves_union (preserves_mapped of_column (IsOperandWith P) column_of (λ c q. q)) (preserves_mapped of_literal (IsOperandWith P) literal_of (λ l q. q))

  predicate_of : Preserves P Predicate (IsTestWith P)
  predicate_of =
      preserves_union (preserves_mapped comparison (IsTestWith P) (preserves_then operand_of (preserves_then (preserves_any {L = ComparisonOperator}) operand_of)) (λ parts q. (q.0, q.1.1)))
      (preserves_union (preserves_mapped between (IsTestWith P) (preserves_then operand_of (preserves_then (preserves_any {L = Negation}) (preserves_then (preserves_word P terminal.Between) (preserves_then operand_of (preserves_then (preserves_word P terminal.And) operand_of))))) (λ parts q. (q.0, q.1.1.1.0, q.1.1.1.1.1)))
      (preserves_mapped among_values (IsTestWith P) (preserves_then operand_of (preserves_then (preserves_any {L = Negation}) (preserves_then (preserves_word P terminal.In) (preserves_inside (preserves_listed terminal.Comma literal_of))))) (λ parts q. (q.0, q.1.1.1))))

  -- ---- conditions

  negate_keeps : (negated : Bool) (c : CondNode) → IsCondWith P c → IsCondWith P (negate (negated, c))
  negate_keeps false c h = h
  negate_keeps true c h = not_of P c h

  all_of_keeps : (cs : List CondNode) → All (IsCondWith P) cs → IsCondWith P (all_of cs)
  all_of_keeps [] h = and_of P [] h
  all_of_keeps (c ∷ []) h = All-head (IsCondWith P) c [] h
  all_of_keeps (c ∷ d ∷ cs) h = and_of P (c ∷ d ∷ cs) h

  any_of_keeps : (cs : List CondNode) → All (IsCondWith P) cs → IsCondWith P (any_of cs)
  any_of_keeps [] h = or_of P [] h
  any_of_keeps (c ∷ []) h = All-head (IsCondWith P) c [] h
  any_of_keeps (c ∷ d ∷ cs) h = or_of P (c ∷ d ∷ cs) h

  boolean_test : {C : Language CondNode} → Preserves P C (IsCondWith P) → Preserves P (BooleanTest C) (IsCondWith P)
  boolean_test inner = preserves_union (preserves_inside inner) (preserves_mapped tested (IsCondWith P) predicate_of (λ t q. test_of P t q))

  condition_of : {T : Language CondNode} → Preserves P T (IsCondWith P) → Preserves P (ConditionOf T) (IsCondWith P)
  condition_of test =
      let factor = preserves_mapped negate (IsCondWith P) (preserves_then (preserves_any {L = Negation}) test) (λ parts q. negate_keeps parts.0 parts.1 q.1) in
      let term = preserves_mapped all_of (IsCondWith P) (preserves_listed terminal.And factor) all_of_keeps in
      preserves_mapped any_of (IsCondWith P) (preserves_listed terminal.Or term) any_of_keeps

  nothing_kept : Preserves P EmptyLanguage (IsCondWith P)
  nothing_kept = record { kept = λ text value l h. absurd l }

  test_within : (n : ℕ) → Preserves P (TestWithin n) (IsCondWith P)
  test_within zero = boolean_test nothing_kept
  test_within (suc n) = boolean_test (condition_of (test_within n))

  search_condition : Preserves P SearchCondition (IsCondWith P)
  unfolding SearchCondition
  search_condition = record { kept = λ text value l h. (condition_of (test_within l.0)).kept text value l.1 h }

  -- ---- queries

  source_of : Preserves P TableReference (IsSourceWith P)
  source_of = preserves_mapped source (IsSourceWith P) (preserves_then name new_name) (λ parts q. (q.0, q.1))

  join_of : Preserves P (QualifiedJoin SearchCondition) (IsJoinWith P)
  join_of =
      preserves_mapped join (IsJoinWith P) (preserves_then (preserves_maybe (preserves_word P terminal.Inner)) (preserves_then (preserves_word P terminal.Join) (preserves_then source_of (preserves_then (preserves_word P terminal.On) search_condition))))
      (λ parts q. (q.1.1.0, q.1.1.1.1))

  part_of : Preserves P (FromPart SearchCondition) (IsFromItemWith P)
  part_of = preserves_mapped part (IsFromItemWith P) (preserves_then source_of (preserves_many join_of)) (λ parts q. (q.0, q.1))

  out_of : Preserves P SelectSublist (IsOutWith P)
  out_of =
      preserves_union (preserves_mapped all_columns (IsOutWith P) (preserves_then name (preserves_then (preserves_word P terminal.Dot) (preserves_word P terminal.Star))) (λ parts q. q.0))
      (preserves_mapped one_column (IsOutWith P) (preserves_then column_of new_name) (λ parts q. (q.0, q.1)))

  outs_of : Preserves P SelectList (IsOutListWith P)
  outs_of =
      preserves_union (preserves_mapped everything (IsOutListWith P) (preserves_word P terminal.Star) (λ star q. tt))
      (preserves_mapped these_outs (IsOutListWith P) (preserves_listed terminal.Comma out_of) (λ list q. q))

  pub query_of : Preserves P QuerySpecification (IsQueryWith P)
  unfolding QuerySpecification IsQueryWith
  query_of =
      preserves_mapped query (IsQueryWith P)
      (preserves_then (preserves_word P terminal.Select)
      (preserves_then outs_of
      (preserves_then (preserves_word P terminal.From)
      (preserves_then (preserves_listed terminal.Comma part_of)
      (preserves_then (preserves_maybe (preserves_after_word terminal.Where search_condition)) (preserves_maybe (preserves_word P terminal.Semicolon)))))))
      (λ parts q. (q.1.0, q.1.1.1.0, q.1.1.1.1.0))

pub query_has_text_tokens : (tokens : List Lexeme) (tree : QueryNode) → QuerySpecification tokens tree → IsQueryWith (Contains tokens) tree
query_has_text_tokens tokens tree l = kept_of_text IsQueryWith query_of tokens tree l

pub query_with_tokens : (P : Lexeme → Type 0) (tokens : List Lexeme) (tree : QueryNode) → QuerySpecification tokens tree → All P tokens → IsQueryWith P tree
query_with_tokens P tokens tree l h = (query_of P).kept tokens tree l h
