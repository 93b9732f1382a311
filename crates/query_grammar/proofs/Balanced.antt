-- Each text of a rule for conditions closes the parentheses that it opens. So the tokens after a text are, alone, nested at most as deep as the text
-- followed by them.
use Rattle.std.proofs.Common.{◌≡◌, ℕ, zero, suc, ◌≤◌, true, Option, Some, None, List, [], ◌∷◌, ◌++◌, inl, inr, refl, sym, subst, append_assoc, arith}
use Rattle.ll_grammars.specs.declared.lexeme.Lexeme.{Lexeme}
use Rattle.ll_grammars.specs.declared.terminal.Terminal.{Terminal}
use Rattle.ll_grammars.specs.declared.terminal.Terminal.TheVariants as terminal
use Rattle.ll_grammars.specs.Terminals.{apart}
use Rattle.ll_grammars.specs.Language.{Language, one, ◌▸◌, mapped, ◌∪◌, maybe, many}
use Rattle.ll_grammars.specs.Rules.{first_and_others, second, word, listed, in_parentheses}
use Rattle.ll_grammars.proofs.Sets.{apart_false}
use Rattle.query_grammar.specs.declared.tree.CondNode.{CondNode}
use Rattle.query_grammar.specs.declared.tree.Op.TheVariants as op
use Rattle.query_grammar.specs.Nesting.{nesting_from}
use Rattle.query_grammar.specs.Values.{is_written, constant, column, number, text, of_column, of_literal, comparison, between, among_values, tested, negate, all_of, any_of}
use Rattle.query_grammar.specs.Grammar.{name_terminals, sign_terminals, digit_terminals, Name, ColumnReference, Literal, Operand, ComparisonOperator, Negation, InValueList, Predicate, BooleanTest, BooleanFactor, BooleanTerm, ConditionOf, EmptyLanguage, TestWithin}
use Rattle.query_grammar.proofs.Counting.{nesting-open_after, preserves_open, opens_one, closes_one}

pub record IsBalanced {A : Type 0} (L : Language A) : Type 0 where
  pub closes : (front : List Lexeme) (value : A) → L front value → (n : ℕ) (rest : List Lexeme) → nesting_from n rest ≤ nesting_from n (front ++ rest)

-- ---- languages built from balanced languages

one_balanced : (terminals : List Terminal) → apart (terminal.Close ∷ []) terminals ≡ true → IsBalanced (one terminals)
one_balanced terminals h = record {
  closes = λ front value l n rest. subst (λ x. nesting_from n rest ≤ nesting_from n (x ++ rest)) (sym l.0) (preserves_open n value rest (apart_false (terminal.Close ∷ []) terminals value.terminal h l.1));
}

pub word_balanced : (t : Terminal) → apart (terminal.Close ∷ []) (t ∷ []) ≡ true → IsBalanced (word t)
word_balanced t h = one_balanced (t ∷ []) h

then_balanced : {A B : Type 0} {L : Language A} {M : Language B} → IsBalanced L → IsBalanced M → IsBalanced (L ▸ M)
then_balanced {A = A} {B = B} {L = L} {M = M} f g = record { closes = both } where
  both : (front : List Lexeme) (value : A × B) → (L ▸ M) front value → (n : ℕ) (rest : List Lexeme) → nesting_from n rest ≤ nesting_from n (front ++ rest)
  both front value l n rest =
      let first : nesting_from n (l.rest ++ rest) ≤ nesting_from n (l.front ++ (l.rest ++ rest)) = f.closes l.front value.0 l.first n (l.rest ++ rest) in
      let next : nesting_from n rest ≤ nesting_from n (l.rest ++ rest) = g.closes l.rest value.1 l.second n rest in
      let whole : nesting_from n rest ≤ nesting_from n (l.front ++ (l.rest ++ rest)) = omega arith in
      subst (λ x. nesting_from n rest ≤ nesting_from n (x ++ rest)) (sym l.whole) (rw append_assoc whole)

made_balanced : {A B : Type 0} (f : A → B) {L : Language A} → IsBalanced L → IsBalanced (mapped f L)
made_balanced f h = record { closes = λ front value l. h.closes front l.0 l.2 }

either_balanced : {A : Type 0} {L M : Language A} → IsBalanced L → IsBalanced M → IsBalanced (L ∪ M)
either_balanced {A = A} {L = L} {M = M} f g = record { closes = one_of } where
  one_of : (front : List Lexeme) (value : A) → (L ∪ M) front value → (n : ℕ) (rest : List Lexeme) → nesting_from n rest ≤ nesting_from n (front ++ rest)
  one_of front value (inl l) = f.closes front value l
  one_of front value (inr m) = g.closes front value m

nothing_there : (front : List Lexeme) → front ≡ [] → (n : ℕ) (rest : List Lexeme) → nesting_from n rest ≤ nesting_from n (front ++ rest)
nothing_there front e n rest = rw e (omega arith)

maybe_balanced : {A : Type 0} {L : Language A} → IsBalanced L → IsBalanced (maybe L)
maybe_balanced {A = A} {L = L} h = record { closes = at } where
  at : (front : List Lexeme) (value : Option A) → maybe L front value → (n : ℕ) (rest : List Lexeme) → nesting_from n rest ≤ nesting_from n (front ++ rest)
  at front None l = nothing_there front l
  at front (Some value) l = h.closes front value l

many_balanced : {A : Type 0} {L : Language A} → IsBalanced L → IsBalanced (many L)
many_balanced {A = A} {L = L} h = record { closes = at } where
  at : (front : List Lexeme) (values : List A) → many L front values → (n : ℕ) (rest : List Lexeme) → nesting_from n rest ≤ nesting_from n (front ++ rest)
  at front [] l n rest = nothing_there front l n rest
  at front (v ∷ values) l n rest =
      let first : nesting_from n (l.1 ++ rest) ≤ nesting_from n (l.0 ++ (l.1 ++ rest)) = h.closes l.0 v l.3 n (l.1 ++ rest) in
      let next : nesting_from n rest ≤ nesting_from n (l.1 ++ rest) = at l.1 values l.4 n rest in
      let whole : nesting_from n rest ≤ nesting_from n (l.0 ++ (l.1 ++ rest)) = omega arith in
      subst (λ x. nesting_from n rest ≤ nesting_from n (x ++ rest)) (sym l.2) (rw append_assoc whole)

pub next_balanced : {A : Type 0} {L : Language A} (t : Terminal) → apart (terminal.Close ∷ []) (t ∷ []) ≡ true → IsBalanced L → IsBalanced (mapped second (word t ▸ L))
next_balanced t apart_ h = made_balanced second (then_balanced (word_balanced t apart_) h)

listed_balanced : {A : Type 0} {L : Language A} (separator : Terminal) → apart (terminal.Close ∷ []) (separator ∷ []) ≡ true → IsBalanced L → IsBalanced (listed separator L)
listed_balanced separator apart_ h = made_balanced first_and_others (then_balanced h (many_balanced (next_balanced separator apart_ h)))

parentheses_balanced : {A : Type 0} {L : Language A} → IsBalanced L → IsBalanced (in_parentheses L)
parentheses_balanced {A = A} {L = L} h = record { closes = at } where
  at : (front : List Lexeme) (value : A) → in_parentheses L front value → (n : ℕ) (rest : List Lexeme) → nesting_from n rest ≤ nesting_from n (front ++ rest)
  at front value l n rest =
      let open_ = l.0.0 in
      let inner = l.2.second in
      let close = l.0.1.1 in
      let behind = inner.front ++ (close ∷ rest) in
      let closed : nesting_from n rest ≤ nesting_from (suc n) (close ∷ rest) = closes_one n close rest in
      let within : nesting_from (suc n) (close ∷ rest) ≤ nesting_from (suc n) behind = h.closes inner.front l.0.1.0 inner.first (suc n) (close ∷ rest) in
      let opened : nesting_from (suc n) behind ≤ nesting_from n (open_ ∷ behind) =
      subst (λ x. nesting_from x behind ≤ nesting_from n (open_ ∷ behind)) (opens_one n open_ l.2.first.1) (nesting-open_after n open_ behind) in
      let whole : nesting_from n rest ≤ nesting_from n (open_ ∷ behind) = omega arith in
      let shape : front ++ rest ≡ open_ ∷ behind = rw (l.2.whole, l.2.first.0, inner.whole, inner.second.0, append_assoc inner.front (close ∷ []) rest) refl in
      subst (λ x. nesting_from n rest ≤ nesting_from n x) (sym shape) whole

-- ---- the rules for conditions

names_balanced : IsBalanced Name
names_balanced = one_balanced name_terminals refl

literals_balanced : IsBalanced Literal
literals_balanced =
    either_balanced (made_balanced number (then_balanced (maybe_balanced (one_balanced sign_terminals refl)) (one_balanced digit_terminals refl)))
    (made_balanced text (word_balanced terminal.Text refl))

columns_balanced : IsBalanced ColumnReference
columns_balanced = made_balanced column (then_balanced names_balanced (maybe_balanced (next_balanced terminal.Dot refl names_balanced)))

operands_balanced : IsBalanced Operand
operands_balanced = either_balanced (made_balanced of_column columns_balanced) (made_balanced of_literal literals_balanced)

operators_balanced : IsBalanced ComparisonOperator
operators_balanced =
    either_balanced (made_balanced (constant op.Eq) (word_balanced terminal.Equal refl))
    (either_balanced (made_balanced (constant op.Ne) (word_balanced terminal.NotEqual refl))
    (either_balanced (made_balanced (constant op.Lt) (word_balanced terminal.Less refl))
    (either_balanced (made_balanced (constant op.Le) (word_balanced terminal.LessOrEqual refl))
    (either_balanced (made_balanced (constant op.Gt) (word_balanced terminal.Greater refl)) (made_balanced (constant op.Ge) (word_balanced terminal.GreaterOrEqual refl))))))

pub negations_balanced : IsBalanced Negation
negations_balanced = made_balanced is_written (maybe_balanced (word_balanced terminal.Not refl))

value_lists_balanced : IsBalanced InValueList
value_lists_balanced = parentheses_balanced (listed_balanced terminal.Comma refl literals_balanced)

predicates_balanced : IsBalanced Predicate
predicates_balanced =
    let between_ = then_balanced (word_balanced terminal.Between refl) (then_balanced operands_balanced (then_balanced (word_balanced terminal.And refl) operands_balanced)) in
    let in_ = then_balanced (word_balanced terminal.In refl) value_lists_balanced in
    either_balanced (made_balanced comparison (then_balanced operands_balanced (then_balanced operators_balanced operands_balanced)))
    (either_balanced (made_balanced between (then_balanced operands_balanced (then_balanced negations_balanced between_)))
    (made_balanced among_values (then_balanced operands_balanced (then_balanced negations_balanced in_))))

module _ {T : Language CondNode} (h : IsBalanced T) where
  pub factors_balanced : IsBalanced (BooleanFactor T)
  factors_balanced = made_balanced negate (then_balanced negations_balanced h)

  pub terms_balanced : IsBalanced (BooleanTerm T)
  terms_balanced = made_balanced all_of (listed_balanced terminal.And refl factors_balanced)

  pub conds_balanced : IsBalanced (ConditionOf T)
  conds_balanced = made_balanced any_of (listed_balanced terminal.Or refl terms_balanced)

tests_balanced_of : {C : Language CondNode} → IsBalanced C → IsBalanced (BooleanTest C)
tests_balanced_of h = either_balanced (parentheses_balanced h) (made_balanced tested predicates_balanced)

nothing_balanced : IsBalanced {A = CondNode} EmptyLanguage
nothing_balanced = record { closes = λ front value l. absurd l }

pub tests_balanced : (n : ℕ) → IsBalanced (TestWithin n)
tests_balanced zero = tests_balanced_of nothing_balanced
tests_balanced (suc n) = tests_balanced_of (conds_balanced (tests_balanced n))
