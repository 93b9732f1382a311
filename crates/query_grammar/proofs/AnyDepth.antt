-- The parser of conditions reads all conditions, however deep their parentheses are nested.
use Rattle.std.proofs.Common.{◌≡◌, ℕ, zero, suc, ◌+◌, ◌≤◌, Option, Some, None, List, ◌++◌, sym, ap, ◌∙◌, arith}
use Rattle.ll_grammars.specs.declared.lexeme.Lexeme.{Lexeme}
use Rattle.ll_grammars.specs.declared.terminal.Terminal.TheVariants as terminal
use Rattle.ll_grammars.specs.Language.{Language}
use Rattle.ll_grammars.specs.Parses.{Parses, BeginsOutside, SameHead, Splits}
use Rattle.ll_grammars.proofs.Growing.{IsSublanguage, itself_grows, then_grows, made_grows, either_grows, listed_grows, parentheses_grow}
use Rattle.query_grammar.specs.declared.tree.CondNode.{CondNode}
use Rattle.query_grammar.specs.Nesting.{nesting}
use Rattle.query_grammar.specs.Grammar.{BooleanTest, ConditionOf, EmptyLanguage, TestWithin, SearchCondition}
use Rattle.query_grammar.specs.Readers.{read_within, read_condition}
use Rattle.query_grammar.proofs.ConditionRules.{cond_shape, reads_within}
use Rattle.query_grammar.proofs.EnoughDepth.{within_alike}

-- ---- conditions nested at most n deep are also nested at most m deep, if n ≤ m

conds_grow : (T T' : Language CondNode) → IsSublanguage T T' → IsSublanguage (ConditionOf T) (ConditionOf T')
conds_grow T T' h = made_grows _ _ _ (listed_grows terminal.Or _ _ (made_grows _ _ _ (listed_grows terminal.And _ _ (made_grows _ _ _ (then_grows _ _ _ _ (itself_grows _) h)))))

nothing_grows : (C : Language CondNode) → IsSublanguage EmptyLanguage C
nothing_grows C text value l = absurd l

tests_of_grow : (C C' : Language CondNode) → IsSublanguage C C' → IsSublanguage (BooleanTest C) (BooleanTest C')
tests_of_grow C C' h = either_grows _ _ _ _ (parentheses_grow C C' h) (itself_grows _)

tests_grow : (n m : ℕ) → n ≤ m → IsSublanguage (TestWithin n) (TestWithin m)
tests_grow zero zero le = itself_grows (TestWithin zero)
tests_grow zero (suc m) le = tests_of_grow EmptyLanguage (ConditionOf (TestWithin m)) (nothing_grows (ConditionOf (TestWithin m)))
tests_grow (suc n) zero le = absurd (omega arith)
tests_grow (suc n) (suc m) le = tests_of_grow (ConditionOf (TestWithin n)) (ConditionOf (TestWithin m)) (conds_grow (TestWithin n) (TestWithin m) (tests_grow n m (omega arith)))

grows : (n m : ℕ) → n ≤ m → IsSublanguage (ConditionOf (TestWithin n)) (ConditionOf (TestWithin m))
grows n m le = conds_grow (TestWithin n) (TestWithin m) (tests_grow n m le)

-- ---- for a text, a parser with the depth of the text's nesting is enough

enough_depth : (n : ℕ) (text : List Lexeme) → nesting text ≤ n → read_condition text ≡ read_within n text
unfolding read_condition
enough_depth n text le = within_alike (nesting text) n text (omega arith) le

to_conditions : (n : ℕ) (text : List Lexeme) (o : Option CondNode) (rest : List Lexeme) → Splits (ConditionOf (TestWithin n)) text o rest → Splits SearchCondition text o rest
unfolding SearchCondition
to_conditions n text None rest d = record { front = d.front; whole = d.whole; spelled = record { more = d.spelled.more; value = d.spelled.value; spelled = (n, d.spelled.spelled) } }
to_conditions n text (Some c) rest d = record { front = d.front; whole = d.whole; spelled = (n, d.spelled) }

splits : (text : List Lexeme) → Splits SearchCondition text (read_condition text).0 (read_condition text).1
unfolding read_condition
splits text = let n = nesting text in to_conditions n text (read_within n text).0 (read_within n text).1 ((reads_within n).splits text)

complete : (front rest : List Lexeme) (value : CondNode) → SearchCondition front value → BeginsOutside cond_shape.more rest → read_condition (front ++ rest) ≡ (Some value, rest)
unfolding SearchCondition
complete front rest value l stop =
    let n = l.0 + nesting (front ++ rest) in
    enough_depth n (front ++ rest) (omega arith) ∙ (reads_within n).complete front rest value (grows l.0 n (omega arith) front value l.1) stop

looks : (front rest other : List Lexeme) → SameHead rest other → (read_condition (front ++ rest)).1 ≡ rest → read_condition (front ++ other) ≡ ((read_condition (front ++ rest)).0, other)
looks front rest other same stop =
    let n = nesting (front ++ rest) + nesting (front ++ other) in
    let here = enough_depth n (front ++ rest) (omega arith) in
    enough_depth n (front ++ other) (omega arith) ∙ (reads_within n).looks front rest other same (ap (λ x. x.1) (sym here) ∙ stop) ∙ ap (λ x. (x.0, other)) (sym here)

pub reads_condition : Parses SearchCondition cond_shape read_condition
unfolding SearchCondition
reads_condition =
    let base = reads_within 0 in
    record {
      some = record { more = base.some.more; value = base.some.value; spelled = (0, base.some.spelled) };
      begins = λ text value l. (reads_within l.0).begins text value l.1;
      splits = splits;
      complete = complete;
      looks = looks;
    }
