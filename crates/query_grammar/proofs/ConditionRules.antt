-- The parsers of conditions read their rules, at each depth of parentheses.
use Rattle.std.proofs.Common.{ℕ, zero, suc, List, refl}
use Rattle.ll_grammars.specs.declared.lexeme.Lexeme.{Lexeme}
use Rattle.ll_grammars.specs.declared.terminal.Terminal.TheVariants as terminal
use Rattle.ll_grammars.specs.Language.{Language, ◌▸◌, mapped}
use Rattle.ll_grammars.specs.Reading.{Parser}
use Rattle.ll_grammars.specs.Parses.{FirstAndFollow, Parses}
use Rattle.ll_grammars.specs.Rules.{first_and_others, second, word, listed, in_parentheses}
use Rattle.ll_grammars.proofs.Steps.{then_shape, either_shape}
use Rattle.ll_grammars.proofs.Combined.{in_sequence, with_value, choice, repeat, a_word, parenthesized, word_shape, next_shape, listed_shape, right_only}
use Rattle.query_grammar.specs.declared.tree.CondNode.{CondNode}
use Rattle.query_grammar.specs.Values.{negate, all_of, any_of}
use Rattle.query_grammar.specs.Grammar.{BooleanFactor, BooleanTerm, ConditionOf, EmptyLanguage, TestWithin}
use Rattle.query_grammar.specs.Readers.{read_factor, read_next_factor, read_factors, read_term, read_next_term, read_terms, read_cond, read_inside, read_test, read_within}
use Rattle.query_grammar.proofs.OperandRules.{negation_shape, reads_negation}
use Rattle.query_grammar.proofs.PredicateRules.{predicate_shape, reads_flat}

abbrev pub test_shape : FirstAndFollow
test_shape = either_shape (word_shape terminal.Open) predicate_shape

abbrev pub factor_shape : FirstAndFollow
factor_shape = then_shape negation_shape test_shape

abbrev pub term_shape : FirstAndFollow
term_shape = listed_shape terminal.And factor_shape

abbrev pub cond_shape : FirstAndFollow
cond_shape = listed_shape terminal.Or term_shape

module _ {T : Language CondNode} {t : Parser CondNode} (reads : Parses T test_shape t) where
  pub reads_factor : Parses (BooleanFactor T) factor_shape (read_factor t)
  unfolding read_factor
  reads_factor = with_value negate (in_sequence reads_negation reads refl)

  pub reads_next_factor : Parses (mapped second (word terminal.And ▸ BooleanFactor T)) (next_shape terminal.And factor_shape) (read_next_factor t)
  unfolding read_next_factor
  reads_next_factor = with_value second (in_sequence (a_word terminal.And refl) reads_factor refl)

  pub reads_factors : Parses (listed terminal.And (BooleanFactor T)) term_shape (read_factors t)
  unfolding read_factors
  reads_factors = with_value first_and_others (in_sequence reads_factor (repeat reads_next_factor refl refl) refl)

  pub reads_term : Parses (BooleanTerm T) term_shape (read_term t)
  unfolding read_term
  reads_term = with_value all_of reads_factors

  pub reads_next_term : Parses (mapped second (word terminal.Or ▸ BooleanTerm T)) (next_shape terminal.Or term_shape) (read_next_term t)
  unfolding read_next_term
  reads_next_term = with_value second (in_sequence (a_word terminal.Or refl) reads_term refl)

  pub reads_terms : Parses (listed terminal.Or (BooleanTerm T)) cond_shape (read_terms t)
  unfolding read_terms
  reads_terms = with_value first_and_others (in_sequence reads_term (repeat reads_next_term refl refl) refl)

  pub reads_cond : Parses (ConditionOf T) cond_shape (read_cond t)
  unfolding read_cond
  reads_cond = with_value any_of reads_terms

  pub reads_inside : Parses (in_parentheses (ConditionOf T)) (word_shape terminal.Open) (read_inside t)
  unfolding read_inside
  reads_inside = parenthesized reads_cond refl

none_inside : (text : List Lexeme) (c : CondNode) → in_parentheses EmptyLanguage text c → ⊥
none_inside text c l = l.2.second.first

pub reads_test : (n : ℕ) → Parses (TestWithin n) test_shape (read_test n)
unfolding read_test
reads_test zero = right_only (word_shape terminal.Open) none_inside reads_flat refl
reads_test (suc n) = choice (reads_inside (reads_test n)) reads_flat refl refl refl

pub reads_within : (n : ℕ) → Parses (ConditionOf (TestWithin n)) cond_shape (read_within n)
unfolding read_within
reads_within n = reads_cond (reads_test n)
