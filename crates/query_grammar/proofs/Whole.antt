-- The answer of the parser for all tokens of a text, if parentheses are nested no deeper than the limit.
use Rattle.std.proofs.Common.{◌≡◌, ℕ, ◌≤◌, true, false, List, [], ◌∷◌, Some, None, refl, sym, ◌∙◌, arith}
use Rattle.ll_grammars.specs.declared.lexeme.Lexeme.{Lexeme}
use Rattle.ll_grammars.specs.declared.terminal.Terminal.TheVariants as terminal
use Rattle.ll_grammars.specs.Language.{Language}
use Rattle.ll_grammars.specs.Reading.{Parser}
use Rattle.ll_grammars.specs.Parses.{FirstAndFollow, Parses}
use Rattle.ll_grammars.specs.Rules.{first_and_others, second, is_empty, next_token_start}
use Rattle.ll_grammars.specs.Places.{IsSyntaxErrorAt}
use Rattle.ll_grammars.proofs.Combined.{a_word, option}
use Rattle.ll_grammars.proofs.Alike.{AreAlikeOn, StaysIn, itself_alike, stays, then_alike, made_alike, maybe_alike, many_alike}
use Rattle.ll_grammars.proofs.Ends as ends
use Rattle.query_grammar.specs.declared.tree.CondNode.{CondNode}
use Rattle.query_grammar.specs.declared.tree.QueryNode.{QueryNode}
use Rattle.query_grammar.specs.Values.{join, part, query}
use Rattle.query_grammar.specs.Nesting.{nesting}
use Rattle.query_grammar.specs.Grammar.{QuerySpecification}
use Rattle.query_grammar.specs.Readers.{read_within, read_condition, read_join, read_joins, read_part, read_next_part, read_parts, read_condition_after_where, read_filter, read_query}
use Rattle.query_grammar.proofs.ConditionRules.{reads_within}
use Rattle.query_grammar.proofs.OutputRules.{reads_outs}
use Rattle.query_grammar.proofs.ClauseRules.{query_shape, reads_source, reads_join, reads_part, reads_next_part, reads_parts, reads_filter, reads_query}
use Rattle.query_grammar.proofs.Counting.{nesting-rest}
use Rattle.query_grammar.proofs.EnoughDepth.{within_alike}
use Rattle.query_grammar.proofs.AnyDepth.{reads_condition}

pub reads_queries : Parses QuerySpecification query_shape (read_query read_condition)
unfolding QuerySpecification
reads_queries = reads_query reads_condition

-- ---- a parser with enough depth for the tokens reads the same as the parser without a limit

abbrev IsNestedWithin : ℕ → List Lexeme → Type 0
IsNestedWithin n text = nesting text ≤ n

stays_nested_within : {A : Type 0} {L : Language A} {s : FirstAndFollow} {p : Parser A} (n : ℕ) → Parses L s p → StaysIn (IsNestedWithin n) p
unfolding nesting
stays_nested_within n reads = stays (IsNestedWithin n) reads (λ front rest value l h. let less = nesting-rest front rest in omega arith)

module _ (n : ℕ) where
  abbrev P : List Lexeme → Type 0
  P = IsNestedWithin n

  abbrev c : Parser CondNode
  c = read_within n

  abbrev d : Parser CondNode
  d = read_condition

  condition_alike : AreAlikeOn P c d
  unfolding read_condition
  condition_alike text h = within_alike n (nesting text) text h (omega arith)

  join_alike : AreAlikeOn P (read_join c) (read_join d)
  unfolding read_join
  join_alike =
      made_alike P join _ _ (then_alike P _ _ _ _ (stays_nested_within n (option (a_word terminal.Inner refl) refl)) (itself_alike P _)
      (then_alike P _ _ _ _ (stays_nested_within n (a_word terminal.Join refl)) (itself_alike P _)
      (then_alike P _ _ _ _ (stays_nested_within n reads_source) (itself_alike P _)
      (then_alike P _ _ _ _ (stays_nested_within n (a_word terminal.On refl)) (itself_alike P _) condition_alike))))

  joins_alike : AreAlikeOn P (read_joins c) (read_joins d)
  unfolding read_joins
  joins_alike = many_alike P _ _ _ (stays_nested_within n (reads_join (reads_within n))) join_alike

  part_alike : AreAlikeOn P (read_part c) (read_part d)
  unfolding read_part
  part_alike = made_alike P part _ _ (then_alike P _ _ _ _ (stays_nested_within n reads_source) (itself_alike P _) joins_alike)

  next_part_alike : AreAlikeOn P (read_next_part c) (read_next_part d)
  unfolding read_next_part
  next_part_alike = made_alike P second _ _ (then_alike P _ _ _ _ (stays_nested_within n (a_word terminal.Comma refl)) (itself_alike P _) part_alike)

  parts_alike : AreAlikeOn P (read_parts c) (read_parts d)
  unfolding read_parts
  parts_alike = made_alike P first_and_others _ _ (then_alike P _ _ _ _ (stays_nested_within n (reads_part (reads_within n))) part_alike (many_alike P _ _ _ (stays_nested_within n (reads_next_part (reads_within n))) next_part_alike))

  where_alike : AreAlikeOn P (read_condition_after_where c) (read_condition_after_where d)
  unfolding read_condition_after_where
  where_alike = made_alike P second _ _ (then_alike P _ _ _ _ (stays_nested_within n (a_word terminal.Where refl)) (itself_alike P _) condition_alike)

  filter_alike : AreAlikeOn P (read_filter c) (read_filter d)
  unfolding read_filter
  filter_alike = maybe_alike P (terminal.Where ∷ []) _ _ where_alike

  pub query_alike : AreAlikeOn P (read_query c) (read_query d)
  unfolding read_query
  query_alike =
      made_alike P query _ _ (then_alike P _ _ _ _ (stays_nested_within n (a_word terminal.Select refl)) (itself_alike P _)
      (then_alike P _ _ _ _ (stays_nested_within n reads_outs) (itself_alike P _)
      (then_alike P _ _ _ _ (stays_nested_within n (a_word terminal.From refl)) (itself_alike P _)
      (then_alike P _ _ _ _ (stays_nested_within n (reads_parts (reads_within n))) parts_alike
      (then_alike P _ _ _ _ (stays_nested_within n (reads_filter (reads_within n))) filter_alike (itself_alike P _))))))

-- ---- the results of the parser

pub spelled : (n : ℕ) (tokens : List Lexeme) (q : QueryNode) (rest : List Lexeme) → nesting tokens ≤ n → read_query (read_within n) tokens ≡ (Some q, rest) → is_empty rest ≡ true → QuerySpecification tokens q
spelled n tokens q rest shallow e h = ends.spelled reads_queries tokens q rest (sym (query_alike n tokens shallow) ∙ e) h

pub wrong_after : (n : ℕ) (tokens : List Lexeme) (q : QueryNode) (rest : List Lexeme) (text_len at : ℕ) → nesting tokens ≤ n → read_query (read_within n) tokens ≡ (Some q, rest) → is_empty rest ≡ false → at ≡ next_token_start rest text_len
    → IsSyntaxErrorAt QuerySpecification tokens text_len at
wrong_after n tokens q rest text_len at shallow e h here = ends.wrong_after reads_queries tokens q rest text_len at (sym (query_alike n tokens shallow) ∙ e) h here

pub wrong_at : (n : ℕ) (tokens rest : List Lexeme) (text_len at : ℕ) → nesting tokens ≤ n → read_query (read_within n) tokens ≡ (None, rest) → at ≡ next_token_start rest text_len → IsSyntaxErrorAt QuerySpecification tokens text_len at
wrong_at n tokens rest text_len at shallow e here = ends.wrong_at reads_queries tokens rest text_len at (sym (query_alike n tokens shallow) ∙ e) here

pub all_found : (n : ℕ) (tokens : List Lexeme) (q : QueryNode) → nesting tokens ≤ n → QuerySpecification tokens q → read_query (read_within n) tokens ≡ (Some q, [])
all_found n tokens q shallow l = query_alike n tokens shallow ∙ ends.all_found reads_queries tokens q l

pub one_query : (tokens : List Lexeme) (a b : QueryNode) → QuerySpecification tokens a → QuerySpecification tokens b → a ≡ b
one_query tokens a b l m = ends.at_most_one reads_queries tokens a b l m
