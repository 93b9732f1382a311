-- The number of open parentheses, and how deep they are nested.
use Rattle.std.proofs.Common.{◌≡◌, ℕ, suc, ◌-◌, ◌≤◌, Bool, true, false, cond, List, [], ◌∷◌, ◌++◌, refl, subst, arith}
use Rattle.ll_grammars.specs.declared.lexeme.Lexeme.{Lexeme}
use Rattle.ll_grammars.specs.declared.terminal.Terminal.TheVariants as terminal
use Rattle.ll_grammars.specs.Terminals.{among}
use Rattle.ll_grammars.specs.Reading.{starts}
use Rattle.query_grammar.specs.Nesting.{open_after, nesting_from}

step_more : (a b : ℕ) → a ≤ b → (x y : Bool) → cond x (suc a) (cond y (a - 1) a) ≤ cond x (suc b) (cond y (b - 1) b)
step_more a b le true y = omega arith
step_more a b le false true = omega arith
step_more a b le false false = le

pub nesting-here : (n : ℕ) (text : List Lexeme) → n ≤ nesting_from n text
nesting-here n [] = omega arith
nesting-here n (t ∷ rest) = omega arith

pub nesting-open_after : (n : ℕ) (t : Lexeme) (rest : List Lexeme) → nesting_from (open_after n t) rest ≤ nesting_from n (t ∷ rest)
nesting-open_after n t rest = omega arith

pub nesting-more : (text : List Lexeme) (a b : ℕ) → a ≤ b → nesting_from a text ≤ nesting_from b text
nesting-more [] a b le = omega arith
nesting-more (t ∷ rest) a b le =
    let ih : nesting_from (open_after a t) rest ≤ nesting_from (open_after b t) rest = nesting-more rest (open_after a t) (open_after b t) (step_more a b le (among (terminal.Open ∷ []) t.terminal) (among (terminal.Close ∷ []) t.terminal)) in
    omega arith

pub nesting-rest : (front rest : List Lexeme) → nesting_from 0 rest ≤ nesting_from 0 (front ++ rest)
nesting-rest [] rest = omega arith
nesting-rest (t ∷ front) rest =
    let ih = nesting-rest front rest in
    let more = nesting-more (front ++ rest) 0 (open_after 0 t) (omega arith) in
    let behind = nesting-open_after 0 t (front ++ rest) in
    omega arith

pub preserves_open : (n : ℕ) (t : Lexeme) (rest : List Lexeme) → among (terminal.Close ∷ []) t.terminal ≡ false → nesting_from n rest ≤ nesting_from n (t ∷ rest)
preserves_open n t rest h =
    let more = nesting-more rest n (open_after n t) (at (among (terminal.Open ∷ []) t.terminal) (among (terminal.Close ∷ []) t.terminal) h) in
    let behind = nesting-open_after n t rest in
    omega arith where
      at : (x y : Bool) → y ≡ false → n ≤ cond x (suc n) (cond y (n - 1) n)
      at true y h = omega arith
      at false true h = absurd cc
      at false false h = omega arith

pub opens_one : (n : ℕ) (t : Lexeme) → among (terminal.Open ∷ []) t.terminal ≡ true → open_after n t ≡ suc n
opens_one n t h = rw h refl

pub closes_one : (n : ℕ) (t : Lexeme) (rest : List Lexeme) → nesting_from n rest ≤ nesting_from (suc n) (t ∷ rest)
closes_one n t rest =
    let more = nesting-more rest n (open_after (suc n) t) (at (among (terminal.Open ∷ []) t.terminal) (among (terminal.Close ∷ []) t.terminal)) in
    let behind = nesting-open_after (suc n) t rest in
    omega arith where
      at : (x y : Bool) → n ≤ cond x (suc (suc n)) (cond y (suc n - 1) (suc n))
      at true y = omega arith
      at false true = omega arith
      at false false = omega arith

pub none_opens : (n limit : ℕ) (text : List Lexeme) → limit ≤ n → nesting_from n text ≤ limit → starts (terminal.Open ∷ []) text ≡ false
none_opens n limit [] le within = refl
none_opens n limit (t ∷ rest) le within = at (among (terminal.Open ∷ []) t.terminal) refl where
  at : (b : Bool) → among (terminal.Open ∷ []) t.terminal ≡ b → among (terminal.Open ∷ []) t.terminal ≡ false
  at false e = e
  at true e = absurd (
      let behind : nesting_from (suc n) rest ≤ nesting_from n (t ∷ rest) = subst (λ x. nesting_from x rest ≤ nesting_from n (t ∷ rest)) (opens_one n t e) (nesting-open_after n t rest) in
      let here = nesting-here (suc n) rest in
      omega arith
      )
