-- Small lists of tokens and their trees. The comment before each list has its text.
use Rattle.std.specs.Prelude.{ℕ, Some, None, List, [], ◌∷◌}
use Rattle.ll_grammars.specs.declared.lexeme.Lexeme.{Lexeme}
use Rattle.ll_grammars.specs.declared.terminal.Terminal.{Terminal}
use Rattle.ll_grammars.specs.declared.terminal.Terminal.TheVariants as terminal
use Rattle.query_grammar.specs.declared.tree.LiteralNode.TheVariants as literal
use Rattle.query_grammar.specs.declared.tree.OperandNode.TheVariants as operand
use Rattle.query_grammar.specs.declared.tree.Op.TheVariants as op
use Rattle.query_grammar.specs.declared.tree.TestNode.TheVariants as test
use Rattle.query_grammar.specs.declared.tree.CondNode.{CondNode}
use Rattle.query_grammar.specs.declared.tree.CondNode.TheVariants as cond
use Rattle.query_grammar.specs.declared.tree.OutsNode.TheVariants as outs
use Rattle.query_grammar.specs.declared.tree.QueryNode.{QueryNode}

abbrev pub token : Terminal → ℕ → ℕ → Lexeme
token t start end = record { terminal = t; start = start; end = end }

-- name = number
abbrev pub equals : Lexeme → Lexeme → CondNode
equals name number =
    cond.Test (test.Compare (operand.Column (record { table = None; column = name })) op.Eq (operand.Literal (literal.Number None number)))

-- SELECT * FROM source WHERE c
abbrev pub all_where : Lexeme → CondNode → QueryNode
all_where source c =
    record { outs = outs.All; parts = record { first = record { table = source; alias = None }; joins = [] } ∷ []; filter = Some c }

-- SELECT * FROM R WHERE A=1 OR B=2 AND NOT C=3
abbrev pub precedence : List Lexeme
precedence =
    token terminal.Select 0 6 ∷ token terminal.Star 7 8 ∷ token terminal.From 9 13 ∷ token terminal.Name 14 15 ∷ token terminal.Where 16 21
    ∷ token terminal.Name 22 23 ∷ token terminal.Equal 23 24 ∷ token terminal.Number 24 25 ∷ token terminal.Or 26 28
    ∷ token terminal.Name 29 30 ∷ token terminal.Equal 30 31 ∷ token terminal.Number 31 32 ∷ token terminal.And 33 36
    ∷ token terminal.Not 37 40 ∷ token terminal.Name 41 42 ∷ token terminal.Equal 42 43 ∷ token terminal.Number 43 44 ∷ []

-- AND binds tighter than OR, and NOT applies only to the next test
abbrev pub precedence_tree : QueryNode
precedence_tree =
    all_where (token terminal.Name 14 15) (cond.Or (equals (token terminal.Name 22 23) (token terminal.Number 24 25)
    ∷ cond.And (equals (token terminal.Name 29 30) (token terminal.Number 31 32)
    ∷ cond.Not (equals (token terminal.Name 41 42) (token terminal.Number 43 44)) ∷ [])
    ∷ []))

-- SELECT * FROM R WHERE (A=1 OR B=2) AND C=3
abbrev pub grouped : List Lexeme
grouped =
    token terminal.Select 0 6 ∷ token terminal.Star 7 8 ∷ token terminal.From 9 13 ∷ token terminal.Name 14 15 ∷ token terminal.Where 16 21
    ∷ token terminal.Open 22 23 ∷ token terminal.Name 23 24 ∷ token terminal.Equal 24 25 ∷ token terminal.Number 25 26
    ∷ token terminal.Or 27 29 ∷ token terminal.Name 30 31 ∷ token terminal.Equal 31 32 ∷ token terminal.Number 32 33
    ∷ token terminal.Close 33 34 ∷ token terminal.And 35 38 ∷ token terminal.Name 39 40 ∷ token terminal.Equal 40 41
    ∷ token terminal.Number 41 42 ∷ []

abbrev pub grouped_tree : QueryNode
grouped_tree =
    all_where (token terminal.Name 14 15) (cond.And (cond.Or (equals (token terminal.Name 23 24) (token terminal.Number 25 26)
    ∷ equals (token terminal.Name 30 31) (token terminal.Number 32 33) ∷ [])
    ∷ equals (token terminal.Name 39 40) (token terminal.Number 41 42) ∷ []))

-- SELECT * FROM R WHERE NOT NOT A=1
abbrev pub not_twice : List Lexeme
not_twice =
    token terminal.Select 0 6 ∷ token terminal.Star 7 8 ∷ token terminal.From 9 13 ∷ token terminal.Name 14 15 ∷ token terminal.Where 16 21
    ∷ token terminal.Not 22 25 ∷ token terminal.Not 26 29 ∷ token terminal.Name 30 31 ∷ token terminal.Equal 31 32
    ∷ token terminal.Number 32 33 ∷ []

-- SELECT * FROM R INNER S
abbrev pub inner_alone : List Lexeme
inner_alone =
    token terminal.Select 0 6 ∷ token terminal.Star 7 8 ∷ token terminal.From 9 13 ∷ token terminal.Name 14 15 ∷ token terminal.Inner 16 21
    ∷ token terminal.Name 22 23 ∷ []
