-- A schema text has at least one table. Each table has at least one element, and each list of columns has at least one column.
use Rattle.std.proofs.Common.{All, List, [], ◌∷◌}
use Rattle.std.specs.Prelude.{⊤}
use Rattle.std.proofs.lemmas.List.Elements.{All-cons}
use Rattle.ll_grammars.specs.declared.lexeme.Lexeme.{Lexeme}
use Rattle.ll_grammars.specs.declared.terminal.Terminal.TheVariants as terminal
use Rattle.ll_grammars.specs.Language.{Language}
use Rattle.ll_grammars.specs.Rules.{first_and_others, second, middle, in_parentheses}
use Rattle.ll_grammars.specs.Preserving.{Preserves}
use Rattle.ll_grammars.proofs.Preserving.{preserves_one, preserves_then, preserves_mapped, preserves_union, preserves_many}
use Rattle.schema_grammar.specs.declared.tree.TableConstraintNode.{TableConstraintNode}
use Rattle.schema_grammar.specs.declared.tree.TableConstraintNode.TheVariants as table_rule
use Rattle.schema_grammar.specs.declared.tree.Element.{Element}
use Rattle.schema_grammar.specs.declared.tree.Element.TheVariants as element
use Rattle.schema_grammar.specs.declared.tree.TableNode.{TableNode}
use Rattle.schema_grammar.specs.Grammar.{primary_key_over, unique_over, foreign_key, of_column, of_rule, table, tables, Names, TableConstraint, TableElement, TableDefinition, SchemaText}

abbrev pub IsNotEmpty : {A : Type 0} → List A → Type 0
IsNotEmpty [] = ⊥
IsNotEmpty (x ∷ xs) = ⊤

abbrev pub ConstraintHasColumns : TableConstraintNode → Type 0
ConstraintHasColumns (table_rule.PrimaryKey _ columns) = IsNotEmpty columns
ConstraintHasColumns (table_rule.Unique columns) = IsNotEmpty columns
ConstraintHasColumns (table_rule.ForeignKey columns _) = IsNotEmpty columns

abbrev pub ElementHasColumns : Element → Type 0
ElementHasColumns (element.Column _) = ⊤
ElementHasColumns (element.Rule rule) = ConstraintHasColumns rule

-- there is a first element, and if it is a constraint, its list of columns isn't empty
abbrev pub FirstElementHasColumns : List Element → Type 0
FirstElementHasColumns [] = ⊥
FirstElementHasColumns (x ∷ xs) = ElementHasColumns x

abbrev pub TableHasColumns : TableNode → Type 0
TableHasColumns t = FirstElementHasColumns t.elements

abbrev Any : Lexeme → Type 0
Any token = Unit {0}

preserves_any : {A : Type 0} {L : Language A} → Preserves Any L (λ _. Unit {0})
preserves_any = record { kept = λ text value l h. tt }

preserves_inside : {A : Type 0} {L : Language A} {Q : A → Type 0} → Preserves Any L Q → Preserves Any (in_parentheses L) Q
preserves_inside {Q = Q} inner = preserves_mapped middle Q (preserves_then (preserves_one Any (terminal.Open ∷ [])) (preserves_then inner (preserves_one Any (terminal.Close ∷ [])))) (λ parts q. q.1.0)

names : Preserves Any (in_parentheses Names) IsNotEmpty
names = preserves_inside (preserves_mapped first_and_others IsNotEmpty preserves_any (λ parts q. tt))

rule : Preserves Any TableConstraint ConstraintHasColumns
rule =
    preserves_union (preserves_mapped primary_key_over ConstraintHasColumns (preserves_then preserves_any (preserves_then preserves_any names)) (λ parts q. q.1.1))
    (preserves_union (preserves_mapped unique_over ConstraintHasColumns (preserves_then preserves_any names) (λ parts q. q.1))
    (preserves_mapped foreign_key ConstraintHasColumns (preserves_then preserves_any (preserves_then preserves_any (preserves_then names preserves_any))) (λ parts q. q.1.1.0)))

one_element : Preserves Any TableElement ElementHasColumns
one_element =
    preserves_union (preserves_mapped of_column ElementHasColumns preserves_any (λ parts q. tt))
    (preserves_mapped of_rule ElementHasColumns (preserves_mapped second ConstraintHasColumns (preserves_then preserves_any rule) (λ parts q. q.1)) (λ parts q. q))

one_table : Preserves Any TableDefinition TableHasColumns
one_table =
    preserves_mapped table TableHasColumns
    (preserves_then preserves_any (preserves_then preserves_any (preserves_then preserves_any (preserves_inside (preserves_mapped first_and_others FirstElementHasColumns (preserves_then one_element preserves_any) (λ parts q. q.0))))))
    (λ parts q. q.1.1.1)

abbrev pub AreTablesWithColumns : List TableNode → Type 0
AreTablesWithColumns ts = IsNotEmpty ts × All TableHasColumns ts

all_tables : Preserves Any SchemaText AreTablesWithColumns
unfolding SchemaText
all_tables =
    preserves_mapped tables AreTablesWithColumns
    (preserves_then one_table (preserves_then (preserves_many (preserves_mapped second TableHasColumns (preserves_then preserves_any one_table) (λ parts q. q.1))) preserves_any))
    (λ parts q. (tt, All-cons TableHasColumns parts.0 parts.1.0 q.0 q.1.0))

pub tables_have_columns : (tokens : List Lexeme) (trees : List TableNode) → SchemaText tokens trees → AreTablesWithColumns trees
tables_have_columns tokens trees l = all_tables.kept tokens trees l (λ k d h. tt)
