-- A parser with enough depth for the nesting of the tokens reads the same as a parser with more depth.
use Rattle.std.proofs.Common.{◌≡◌, ℕ, zero, suc, ◌+◌, ◌-◌, ◌≤◌, ◌<◌, Bool, true, false, List, [], ◌∷◌, refl, sym, ap, subst, ◌∙◌, arith}
use Rattle.ll_grammars.specs.declared.lexeme.Lexeme.{Lexeme}
use Rattle.ll_grammars.specs.declared.terminal.Terminal.TheVariants as terminal
use Rattle.ll_grammars.specs.Terminals.{among}
use Rattle.ll_grammars.specs.Language.{Language}
use Rattle.ll_grammars.specs.Reading.{Parser, Answer, ◌>>=◌, give, starts, read_then}
use Rattle.ll_grammars.specs.Parses.{FirstAndFollow, Parses}
use Rattle.ll_grammars.specs.Rules.{first_and_others, second, middle, read_word, read_in_parentheses}
use Rattle.ll_grammars.proofs.Combined.{a_word}
use Rattle.ll_grammars.proofs.Alike.{AreAlikeOn, StaysIn, itself_alike, stays, then_alike, made_alike, many_alike}
use Rattle.query_grammar.specs.declared.tree.CondNode.{CondNode}
use Rattle.query_grammar.specs.Values.{negate, all_of, any_of}
use Rattle.query_grammar.specs.Nesting.{nesting_from, nesting}
use Rattle.query_grammar.specs.Readers.{read_flat, read_factor, read_next_factor, read_factors, read_term, read_next_term, read_terms, read_cond, read_inside, read_test, read_within}
use Rattle.query_grammar.proofs.OperandRules.{reads_negation}
use Rattle.query_grammar.proofs.ConditionRules.{test_shape, reads_factor, reads_next_factor, reads_term, reads_next_term, reads_cond, reads_test}
use Rattle.query_grammar.proofs.Counting.{nesting-open_after, opens_one, none_opens}
use Rattle.query_grammar.proofs.Balanced.{IsBalanced, word_balanced, negations_balanced, next_balanced, factors_balanced, terms_balanced, conds_balanced, tests_balanced}

-- ---- how a test is read with a given depth

pub test_zero : (n : ℕ) (text : List Lexeme) → n ≡ 0 → read_test n text ≡ read_flat text
unfolding read_test
test_zero n text e = rw e refl

pub test_flat : (n : ℕ) (text : List Lexeme) → starts (terminal.Open ∷ []) text ≡ false → read_test n text ≡ read_flat text
unfolding read_test
test_flat zero text h = refl
test_flat (suc n) text h = rw h refl

pub test_inside : (n : ℕ) (text : List Lexeme) → 0 < n → starts (terminal.Open ∷ []) text ≡ true → read_test n text ≡ read_inside (read_test (n - 1)) text
unfolding read_test
test_inside zero text lt h = absurd (omega arith)
test_inside (suc n) text lt h = let e : suc n - 1 ≡ n = omega arith in rw (e, h) refl

opened : (n : ℕ) (x : Lexeme) (rest : List Lexeme) → among (terminal.Open ∷ []) x.terminal ≡ true → read_test (suc n) (x ∷ rest) ≡ read_in_parentheses (read_cond (read_test n)) (x ∷ rest)
unfolding read_test read_inside
opened n x rest h = rw h refl

-- ---- parsers on tokens that follow n open parentheses and are nested at most `limit` deep, counting these

abbrev pub IsNestedWithin : ℕ → ℕ → List Lexeme → Type 0
IsNestedWithin n limit text = nesting_from n text ≤ limit

stays_within : {A : Type 0} {L : Language A} {s : FirstAndFollow} {p : Parser A} (n limit : ℕ) → Parses L s p → IsBalanced L → StaysIn (IsNestedWithin n limit) p
stays_within n limit reads balanced = stays (IsNestedWithin n limit) reads (λ front rest value l h. let less = balanced.closes front value l n rest in omega arith)

module _ {T : Language CondNode} {t : Parser CondNode} (t' : Parser CondNode) (reads : Parses T test_shape t) (balanced : IsBalanced T) (n limit : ℕ) (same : AreAlikeOn (IsNestedWithin n limit) t t') where
  abbrev P : List Lexeme → Type 0
  P = IsNestedWithin n limit

  factor_alike : AreAlikeOn P (read_factor t) (read_factor t')
  unfolding read_factor
  factor_alike = made_alike P negate _ _ (then_alike P _ _ t t' (stays_within n limit reads_negation negations_balanced) (itself_alike P _) same)

  next_factor_alike : AreAlikeOn P (read_next_factor t) (read_next_factor t')
  unfolding read_next_factor
  next_factor_alike = made_alike P second _ _ (then_alike P _ _ _ _ (stays_within n limit (a_word terminal.And refl) (word_balanced terminal.And refl)) (itself_alike P _) factor_alike)

  factors_alike : AreAlikeOn P (read_factors t) (read_factors t')
  unfolding read_factors
  factors_alike = made_alike P first_and_others _ _ (then_alike P _ _ _ _ (stays_within n limit (reads_factor reads) (factors_balanced balanced)) factor_alike
      (many_alike P _ _ _ (stays_within n limit (reads_next_factor reads) (next_balanced terminal.And refl (factors_balanced balanced))) next_factor_alike))

  term_alike : AreAlikeOn P (read_term t) (read_term t')
  unfolding read_term
  term_alike = made_alike P all_of _ _ factors_alike

  next_term_alike : AreAlikeOn P (read_next_term t) (read_next_term t')
  unfolding read_next_term
  next_term_alike = made_alike P second _ _ (then_alike P _ _ _ _ (stays_within n limit (a_word terminal.Or refl) (word_balanced terminal.Or refl)) (itself_alike P _) term_alike)

  terms_alike : AreAlikeOn P (read_terms t) (read_terms t')
  unfolding read_terms
  terms_alike = made_alike P first_and_others _ _ (then_alike P _ _ _ _ (stays_within n limit (reads_term reads) (terms_balanced balanced)) term_alike
      (many_alike P _ _ _ (stays_within n limit (reads_next_term reads) (next_balanced terminal.Or refl (terms_balanced balanced))) next_term_alike))

  pub cond_alike : AreAlikeOn P (read_cond t) (read_cond t')
  unfolding read_cond
  cond_alike = made_alike P any_of _ _ terms_alike

inside_alike : (n limit : ℕ) (c c' : Parser CondNode) → StaysIn (IsNestedWithin (suc n) limit) c → AreAlikeOn (IsNestedWithin (suc n) limit) c c' → (x : Lexeme) (rest : List Lexeme) → among (terminal.Open ∷ []) x.terminal ≡ true → IsNestedWithin n limit (x ∷ rest)
    → read_in_parentheses c (x ∷ rest) ≡ read_in_parentheses c' (x ∷ rest)
inside_alike n limit c c' stay same x rest h within =
    let behind : nesting_from (suc n) rest ≤ nesting_from n (x ∷ rest) = subst (λ k. nesting_from k rest ≤ nesting_from n (x ∷ rest)) (opens_one n x h) (nesting-open_after n x rest) in
    let deeper : IsNestedWithin (suc n) limit rest = omega arith in
    let e : read_then c (read_word terminal.Close) rest ≡ read_then c' (read_word terminal.Close) rest =
    then_alike (IsNestedWithin (suc n) limit) c c' (read_word terminal.Close) (read_word terminal.Close) stay same (itself_alike (IsNestedWithin (suc n) limit) (read_word terminal.Close)) rest deeper in
    rw h (ap (λ (y : Answer (CondNode × Lexeme)). (y >>= λ b. give (x, b)) >>= λ parts. give (middle parts)) e)

deeper_alike : (a b n limit : ℕ) → AreAlikeOn (IsNestedWithin (suc n) limit) (read_test a) (read_test b) → (text : List Lexeme) → IsNestedWithin n limit text → (opens : Bool) → starts (terminal.Open ∷ []) text ≡ opens → read_test (suc a) text ≡ read_test (suc b) text
deeper_alike a b n limit same text within false e = test_flat (suc a) text e ∙ sym (test_flat (suc b) text e)
deeper_alike a b n limit same [] within true e = absurd cc
deeper_alike a b n limit same (x ∷ rest) within true e =
    let alike = cond_alike (read_test b) (reads_test a) (tests_balanced a) (suc n) limit same in
    let stay = stays_within (suc n) limit (reads_cond (reads_test a)) (conds_balanced (tests_balanced a)) in
    opened a x rest e ∙ inside_alike n limit (read_cond (read_test a)) (read_cond (read_test b)) stay alike x rest e within ∙ sym (opened b x rest e)

pub test_alike : (a b n limit : ℕ) → limit ≤ n + a → limit ≤ n + b → AreAlikeOn (IsNestedWithin n limit) (read_test a) (read_test b)
test_alike zero b n limit le le' text within = let h = none_opens n limit text (omega arith) within in test_flat zero text h ∙ sym (test_flat b text h)
test_alike (suc a) zero n limit le le' text within = let h = none_opens n limit text (omega arith) within in test_flat (suc a) text h ∙ sym (test_flat zero text h)
test_alike (suc a) (suc b) n limit le le' text within = deeper_alike a b n limit (test_alike a b (suc n) limit (omega arith) (omega arith)) text within (starts (terminal.Open ∷ []) text) refl

pub within_alike : (a b : ℕ) (text : List Lexeme) → nesting text ≤ a → nesting text ≤ b → read_within a text ≡ read_within b text
unfolding read_within nesting
within_alike a b text le le' =
    let limit = nesting_from 0 text in
    cond_alike (read_test b) (reads_test a) (tests_balanced a) 0 limit (test_alike a b 0 limit (omega arith) (omega arith)) text (omega arith)
