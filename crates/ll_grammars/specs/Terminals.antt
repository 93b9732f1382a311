-- Terminal symbols, and sets of them.
use Rattle.std.specs.Prelude.{ℕ, Bool, true, false, ◌==◌, ◌||◌, if◌then◌else◌, List, [], ◌∷◌}
use Rattle.ll_grammars.specs.declared.terminal.Terminal.{Terminal}
use Rattle.ll_grammars.specs.declared.terminal.Terminal.TheVariants as terminal

-- a terminal's number, by which terminals are compared
abbrev pub code : Terminal → ℕ
code terminal.Name = 0
code terminal.Key = 1
code terminal.No = 2
code terminal.Action = 3
code terminal.Cascade = 4
code terminal.And = 5
code terminal.As = 6
code terminal.Between = 7
code terminal.Bigint = 8
code terminal.Char = 9
code terminal.Character = 10
code terminal.Constraint = 11
code terminal.Create = 12
code terminal.Default = 13
code terminal.Delete = 14
code terminal.Foreign = 15
code terminal.From = 16
code terminal.In = 17
code terminal.Inner = 18
code terminal.Int = 19
code terminal.Integer = 20
code terminal.Join = 21
code terminal.Not = 22
code terminal.Null = 23
code terminal.On = 24
code terminal.Or = 25
code terminal.Primary = 26
code terminal.References = 27
code terminal.Select = 28
code terminal.Set = 29
code terminal.Smallint = 30
code terminal.Table = 31
code terminal.Unique = 32
code terminal.Update = 33
code terminal.Varchar = 34
code terminal.Varying = 35
code terminal.Where = 36
code terminal.Reserved = 37
code terminal.Zero = 38
code terminal.Number = 39
code terminal.Text = 40
code terminal.Equal = 41
code terminal.NotEqual = 42
code terminal.Less = 43
code terminal.LessOrEqual = 44
code terminal.Greater = 45
code terminal.GreaterOrEqual = 46
code terminal.Open = 47
code terminal.Close = 48
code terminal.Comma = 49
code terminal.Dot = 50
code terminal.Semicolon = 51
code terminal.Star = 52
code terminal.Plus = 53
code terminal.Minus = 54

-- whether t is in a set of terminals, which is given as a list
abbrev pub among : List Terminal → Terminal → Bool
among [] t = false
among (s ∷ rest) t = (code s == code t) || among rest t

-- whether no terminal is in both sets. An LL(1) grammar requires this of the FIRST sets of two alternatives. It also requires this of the terminals
-- that can continue a part, and the FIRST set of the next part
abbrev pub apart : List Terminal → List Terminal → Bool
apart [] others = true
apart (s ∷ rest) others = if among others s then false else apart rest others
