-- How deep parentheses are nested in a list of tokens.
use Rattle.std.specs.Prelude.{ℕ, suc, ◌-◌, max, if◌then◌else◌, List, [], ◌∷◌}
use Rattle.ll_grammars.specs.declared.lexeme.Lexeme.{Lexeme}
use Rattle.ll_grammars.specs.declared.terminal.Terminal.TheVariants as terminal
use Rattle.ll_grammars.specs.Terminals.{among}

-- how many parentheses are open after a token, if `open_` parentheses are open before it. A ")" without an open parenthesis closes nothing
abbrev pub open_after : ℕ → Lexeme → ℕ
open_after open_ token =
    if among (terminal.Open ∷ []) token.terminal then suc open_
    else (if among (terminal.Close ∷ []) token.terminal then open_ - 1 else open_)

-- how many parentheses are open before the first token (`open_`) and after each token
abbrev pub open_counts : ℕ → List Lexeme → List ℕ
open_counts open_ [] = open_ ∷ []
open_counts open_ (token ∷ rest) = open_ ∷ open_counts (open_after open_ token) rest

abbrev pub greatest : List ℕ → ℕ
greatest [] = 0
greatest (n ∷ ns) = max n (greatest ns)

-- how deep parentheses are nested in the tokens, if `open_` parentheses are open before them. In `nesting` no parenthesis is open before them
abbrev pub nesting_from : ℕ → List Lexeme → ℕ
nesting_from open_ tokens = greatest (open_counts open_ tokens)

unfoldable pub nesting : List Lexeme → ℕ
nesting tokens = nesting_from 0 tokens
