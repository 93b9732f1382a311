-- A loop that counts open parentheses from left to right finds how deep parentheses are nested.
use Rattle.std.proofs.Common.{nat_cmp, rules, ◌≡◌, ℕ, suc, ◌+◌, ◌-◌, ◌≤◌, ◌<◌, max, Bool, true, false, cond, List, [], ◌∷◌, length, drop, get_or, sym, ap, ◌∙◌, add-one, arith}
use Rattle.std.specs.Ordering.{ord_max}
use Rattle.std.proofs.Math.Seq.{drop-cons}
use Rattle.std.proofs.lemmas.List.{drop_all}
use Rattle.ll_grammars.specs.declared.lexeme.Lexeme.{Lexeme}
use Rattle.ll_grammars.specs.declared.terminal.Terminal.TheVariants as terminal
use Rattle.ll_grammars.specs.Terminals.{among}
use Rattle.query_grammar.specs.Nesting.{open_after, nesting_from, nesting}
use Rattle.query_grammar.proofs.Counting.{nesting-here}

pub count_start : (tokens : List Lexeme) → max 0 (nesting_from 0 tokens) ≡ nesting tokens
unfolding nesting
count_start tokens = omega arith

behind_le : (n : ℕ) (t : Lexeme) → open_after n t ≤ n + 1
behind_le n t = at (among (terminal.Open ∷ []) t.terminal) (among (terminal.Close ∷ []) t.terminal) where
  at : (x y : Bool) → cond x (suc n) (cond y (n - 1) n) ≤ n + 1
  at true y = omega arith
  at false true = omega arith
  at false false = omega arith

pub larger_is : (a b larger : ℕ) → larger ≡ ord_max nat_cmp a b → larger ≡ max a b
larger_is a b larger e = e ∙ same where
  same : ord_max nat_cmp a b ≡ max a b
  same = search rules

pub open_count_within_index : (tokens : List Lexeme) (i n next : ℕ) (d : Lexeme) → next ≡ open_after n (get_or tokens i d) → n ≤ i → next ≤ i + 1
open_count_within_index tokens i n next d e le = let step = behind_le n (get_or tokens i d) in omega arith

pub count_on : (tokens : List Lexeme) (i n m next more total : ℕ) (d : Lexeme) → i < length tokens → next ≡ open_after n (get_or tokens i d) → more ≡ max m next → n ≤ m
    → max m (nesting_from n (drop i tokens)) ≡ total → max more (nesting_from next (drop (i + 1) tokens)) ≡ total
count_on tokens i n m next more total d lt e f le so_far =
    let t = get_or tokens i d in
    let rest = drop (suc i) tokens in
    let split : drop i tokens ≡ t ∷ rest = drop-cons tokens i d lt in
    let old : max m (max n (nesting_from (open_after n t) rest)) ≡ total = ap (λ x. max m (nesting_from n x)) (sym split) ∙ so_far in
    let here : next ≤ nesting_from next rest = nesting-here next rest in
    let same : nesting_from (open_after n t) rest ≡ nesting_from next rest = ap (λ x. nesting_from x rest) (sym e) in
    let whole : max more (nesting_from next rest) ≡ total = omega arith in
    rw add-one whole

pub count_end : (tokens : List Lexeme) (i n m : ℕ) → length tokens ≤ i → n ≤ m → max m (nesting_from n (drop i tokens)) ≡ nesting tokens → m ≡ nesting tokens
count_end tokens i n m ge le so_far =
    let none : drop i tokens ≡ [] = drop_all i tokens ge in
    let old : max m (max n 0) ≡ nesting tokens = ap (λ x. max m (nesting_from n x)) (sym none) ∙ so_far in
    omega arith
