-- If every token of a schema text has a property, every token of its syntax tree has the property.
use Rattle.std.proofs.Common.{All, Contains, List, [], ◌∷◌}
use Rattle.std.proofs.lemmas.List.Elements.{All-cons}
use Rattle.ll_grammars.specs.declared.lexeme.Lexeme.{Lexeme}
use Rattle.ll_grammars.specs.declared.terminal.Terminal.{Terminal}
use Rattle.ll_grammars.specs.declared.terminal.Terminal.TheVariants as terminal
use Rattle.ll_grammars.specs.Language.{Language, mapped, many}
use Rattle.ll_grammars.specs.Rules.{first_and_others, second, word, listed, in_parentheses}
use Rattle.ll_grammars.specs.Preserving.{Preserves, IsOneOf}
use Rattle.ll_grammars.proofs.Preserving.{preserves_one, preserves_then, preserves_mapped, preserves_union, preserves_maybe, preserves_many, kept_of_text}
use Rattle.ll_grammars.proofs.PreservingRules.{preserves_any, preserves_inside}
use Rattle.schema_grammar.specs.declared.tree.TableNode.{TableNode}
use Rattle.schema_grammar.specs.Grammar.{drop_value, target, number_type, text_type, varying_type, not_null, primary_key, unique, references, column, primary_key_over, unique_over, foreign_key, of_column, of_rule, table, tables, name_terminals, number_types, Name, Names, Length, DataType, TriggeredAction, Target, ConstraintName, with_constraint_name, ColumnConstraint, TableConstraint, ColumnDefinition, TableElement, TableDefinition, SchemaText}
use Rattle.schema_grammar.specs.Lexemes.{IsNameWith, IsTargetWith, IsTypeWith, IsColumnConstraintWith, IsColumnWith, IsTableConstraintWith, IsElementWith, IsTableWith, AreTablesWith}

preserves_listed : {P : Lexeme → Type 0} {A : Type 0} {L : Language A} {Q : A → Type 0} → Preserves P L Q → Preserves P (listed terminal.Comma L) (All Q)
preserves_listed {P = P} {L = L} {Q = Q} item =
    preserves_mapped first_and_others (All Q) (preserves_then item (preserves_many (preserves_mapped second Q (preserves_then (preserves_one P (terminal.Comma ∷ [])) item) (λ parts q. q.1)))) (λ parts q. All-cons Q parts.0 parts.1 q.0 q.1)

module _ (P : Lexeme → Type 0) where
  a_word : (t : Terminal) → Preserves P (word t) (IsOneOf (t ∷ []) P)
  a_word t = preserves_one P (t ∷ [])

  preserves_name : Preserves P Name (IsNameWith P)
  preserves_name = preserves_one P name_terminals

  preserves_name_list : Preserves P (in_parentheses Names) (All (IsNameWith P))
  preserves_name_list = preserves_inside (preserves_listed preserves_name)

  preserves_length : Preserves P Length (IsOneOf (terminal.Number ∷ []) P)
  preserves_length = preserves_inside (a_word terminal.Number)

  preserves_data_type : Preserves P DataType (IsTypeWith P)
  preserves_data_type =
      preserves_union (preserves_mapped number_type (IsTypeWith P) (preserves_one P number_types) (λ parts q. tt))
      (preserves_union (preserves_mapped text_type (IsTypeWith P) (preserves_then (a_word terminal.Varchar) preserves_length) (λ parts q. q.1))
      (preserves_mapped varying_type (IsTypeWith P) (preserves_then (preserves_one P (terminal.Char ∷ terminal.Character ∷ [])) (preserves_then (a_word terminal.Varying) preserves_length)) (λ parts q. q.1.1)))

  preserves_target : Preserves P Target (IsTargetWith P)
  preserves_target = preserves_mapped target (IsTargetWith P) (preserves_then preserves_name (preserves_then (preserves_maybe preserves_name_list) (preserves_any {L = mapped drop_value (many TriggeredAction)}))) (λ parts q. (q.0, q.1.0))

  preserves_constraint : {A : Type 0} {L : Language A} {Q : A → Type 0} → Preserves P L Q → Preserves P (with_constraint_name L) Q
  preserves_constraint {Q = Q} rule = preserves_mapped second Q (preserves_then (preserves_any {L = ConstraintName}) rule) (λ parts q. q.1)

  preserves_column_constraint : Preserves P ColumnConstraint (IsColumnConstraintWith P)
  preserves_column_constraint =
      preserves_union (preserves_mapped not_null (IsColumnConstraintWith P) (preserves_then (a_word terminal.Not) (a_word terminal.Null)) (λ parts q. tt))
      (preserves_union (preserves_mapped primary_key (IsColumnConstraintWith P) (preserves_then (a_word terminal.Primary) (a_word terminal.Key)) (λ parts q. q.0))
      (preserves_union (preserves_mapped unique (IsColumnConstraintWith P) (a_word terminal.Unique) (λ parts q. tt))
      (preserves_mapped references (IsColumnConstraintWith P) (preserves_then (a_word terminal.References) preserves_target) (λ parts q. q.1))))

  preserves_table_constraint : Preserves P TableConstraint (IsTableConstraintWith P)
  preserves_table_constraint =
      preserves_union (preserves_mapped primary_key_over (IsTableConstraintWith P) (preserves_then (a_word terminal.Primary) (preserves_then (a_word terminal.Key) preserves_name_list)) (λ parts q. (q.0, q.1.1)))
      (preserves_union (preserves_mapped unique_over (IsTableConstraintWith P) (preserves_then (a_word terminal.Unique) preserves_name_list) (λ parts q. q.1))
      (preserves_mapped foreign_key (IsTableConstraintWith P) (preserves_then (a_word terminal.Foreign) (preserves_then (a_word terminal.Key) (preserves_then preserves_name_list (preserves_then (a_word terminal.References) preserves_target)))) (λ parts q. (q.1.1.0, q.1.1.1.1))))

  preserves_column : Preserves P ColumnDefinition (IsColumnWith P)
  preserves_column = preserves_mapped column (IsColumnWith P) (preserves_then preserves_name (preserves_then preserves_data_type (preserves_many (preserves_constraint preserves_column_constraint)))) (λ parts q. (q.0, q.1.0, q.1.1))

  preserves_element : Preserves P TableElement (IsElementWith P)
  preserves_element = preserves_union (preserves_mapped of_column (IsElementWith P) preserves_column (λ parts q. q)) (preserves_mapped of_rule (IsElementWith P) (preserves_constraint preserves_table_constraint) (λ parts q. q))

  preserves_table : Preserves P TableDefinition (IsTableWith P)
  preserves_table =
      preserves_mapped table (IsTableWith P) (preserves_then (a_word terminal.Create) (preserves_then (a_word terminal.Table) (preserves_then preserves_name (preserves_inside (preserves_listed preserves_element))))) (λ parts q. (q.1.1.0, q.1.1.1))

  pub preserves_schema_text : Preserves P SchemaText (AreTablesWith P)
  unfolding SchemaText AreTablesWith
  preserves_schema_text =
      preserves_mapped tables (AreTablesWith P)
      (preserves_then preserves_table (preserves_then (preserves_many (preserves_mapped second (IsTableWith P) (preserves_then (a_word terminal.Semicolon) preserves_table) (λ parts q. q.1))) (preserves_maybe (a_word terminal.Semicolon))))
      (λ parts q. All-cons (IsTableWith P) parts.0 parts.1.0 q.0 q.1.0)

pub trees_have_text_tokens : (tokens : List Lexeme) (trees : List TableNode) → SchemaText tokens trees → AreTablesWith (Contains tokens) trees
trees_have_text_tokens tokens trees l = kept_of_text AreTablesWith preserves_schema_text tokens trees l

pub tables_with : (P : Lexeme → Type 0) (tokens : List Lexeme) (trees : List TableNode) → SchemaText tokens trees → All P tokens → AreTablesWith P trees
tables_with P tokens trees l h = (preserves_schema_text P).kept tokens trees l h
