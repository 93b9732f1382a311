-- A text is read in stages: tokens, nesting, grammar, numbers, and the tree. The lemmas give the result for a text at the end of each stage.
use Rattle.std.proofs.Common.{◌≡◌, inl, inr, ℕ, ◌-◌, ◌^◌, ◌<◌, ◌≤◌, min, All, List, [], ◌∷◌, length, Option, Some, None, Result, Err, ap, subst, sym, ◌∙◌, refl, arith}
use Rattle.ll_grammars.specs.declared.lexeme.Lexeme.{Lexeme}
use Rattle.ll_grammars.specs.Places.{IsSyntaxErrorAt}
use Rattle.sql_tokens.specs.Words.{IsLexemeOf}
use Rattle.query_grammar.specs.declared.tree.QueryNode.{QueryNode}
use Rattle.query_grammar.specs.Grammar.{QuerySpecification}
use Rattle.query_grammar.specs.Lexemes.{IsQueryWith}
use Rattle.query_grammar.specs.Nesting.{nesting}
use Rattle.query_grammar.proofs.Kept.{query_with_tokens}
use Rattle.schema_types.specs.declared.types.Schema.{Schema}
use Rattle.schema_types.specs.declared.errors.LimitKind.TheVariants as limit
use Rattle.query_names.specs.declared.errors.QueryError.{QueryError}
use Rattle.query_names.specs.declared.errors.QueryError.TheVariants as error
use Rattle.query_types.specs.declared.types.Query.{Query}
use Rattle.query_names.specs.Numbers.{number_offences}
use Rattle.sql_parse.specs.QueryOrRefusal.{query_or_refusal}
use Rattle.query_names.specs.Answers.{first}
use Rattle.sql_parse.specs.Refusing.{Answers}
use Rattle.sql_parse.specs.Reading.{earlier_offset, unless_number, IsAnswer}
use Rattle.sql_parse.specs.Stages.{AreLexemes, IsLexRefusal, least_of}

pub unlexed : (schema : Schema) (text : List ℕ) (e : QueryError) → IsLexRefusal text e → IsAnswer schema text (Err e)
unlexed schema text (error.Syntax place) bad = inr (inl (record { place = place; bad = bad; refused = refl }))
unlexed schema text error.NoMemory bad = inl refl
unlexed schema text (error.Name place) bad = absurd bad
unlexed schema text (error.Kind place) bad = absurd bad
unlexed schema text (error.Limit which n) bad = absurd bad

least_is : (place : ℕ) (others : List ℕ) → least_of place (first others) ≡ earlier_offset place others
least_is place [] = refl
least_is place (other ∷ rest) = refl

number_first : (places : List ℕ) (at : ℕ) (answer : Result Query QueryError) → Some at ≡ first places → Err (error.Syntax at) ≡ unless_number places answer
number_first [] at answer is = absurd cc
number_first (place ∷ rest) at answer is = let same : at ≡ place = cc in ap (λ p. Err (error.Syntax p)) same

no_number : (places : List ℕ) (answer : Result Query QueryError) → None ≡ first places → unless_number places answer ≡ answer
no_number [] answer none = refl
no_number (place ∷ rest) answer none = absurd cc

module _ (schema : Schema) (text : List ℕ) (lexemes : List Lexeme) (are : AreLexemes text lexemes) where
  pub too_deep : 64 < nesting lexemes → nesting lexemes < 2 ^ 64 → IsAnswer schema text (Err (error.Limit limit.Nesting (nesting lexemes)))
  too_deep deep small =
      let same : nesting lexemes ≡ min (nesting lexemes) (2 ^ 64 - 1) = grind (arith, small) in
      inr (inr (inl (record {
        tokens = are.tokens;
        lexed = are.lexed;
        deep = subst (λ l. 64 < nesting l) are.are deep;
        refused = ap (λ n. Err (error.Limit limit.Nesting n)) same ∙ ap (λ l. Err (error.Limit limit.Nesting (min (nesting l) (2 ^ 64 - 1)))) are.are;
      })))

  module _ (shallow : nesting lexemes ≤ 64) where
    pub unspelled : (place : ℕ) (number : Option ℕ) → number ≡ first (number_offences text lexemes) → IsSyntaxErrorAt QuerySpecification lexemes (length text) place → IsAnswer schema text (Err (error.Syntax (least_of place number)))
    unspelled place number is wrong = inr (inr (inr (inl (record {
      tokens = are.tokens;
      lexed = are.lexed;
      shallow = subst (λ l. nesting l ≤ 64) are.are shallow;
      place = place;
      wrong = subst (λ l. IsSyntaxErrorAt QuerySpecification l (length text) place) are.are wrong;
      refused = ap (λ n. Err (error.Syntax (least_of place n))) is ∙ ap (λ p. Err (error.Syntax p)) (least_is place (number_offences text lexemes))
          ∙ ap (λ l. Err (error.Syntax (earlier_offset place (number_offences text l)))) are.are;
    }))))

    module _ (tree : QueryNode) (spells : QuerySpecification lexemes tree) where
      by : (answer : Result Query QueryError) → answer ≡ unless_number (number_offences text lexemes) (query_or_refusal schema text tree) → IsAnswer schema text answer
      by answer is = inr (inr (inr (inr (record {
        tokens = are.tokens;
        lexed = are.lexed;
        shallow = subst (λ l. nesting l ≤ 64) are.are shallow;
        tree = tree;
        spelled = subst (λ l. QuerySpecification l tree) are.are spells;
        answered = is ∙ ap (λ l. unless_number (number_offences text l) (query_or_refusal schema text tree)) are.are;
      }))))

      pub wrong_number : (at : ℕ) → Some at ≡ first (number_offences text lexemes) → IsAnswer schema text (Err (error.Syntax at))
      wrong_number at is = by (Err (error.Syntax at)) (number_first (number_offences text lexemes) at (query_or_refusal schema text tree) is)

      pub spelled : (answer : Result Query QueryError) → None ≡ first (number_offences text lexemes) → Answers (query_or_refusal schema text tree) answer → IsAnswer schema text answer
      spelled answer none (inl memory) = inl memory
      spelled answer none (inr is) = by answer (is ∙ sym (no_number (number_offences text lexemes) (query_or_refusal schema text tree) none))

pub tree_lies_in_text : (text : List ℕ) (lexemes : List Lexeme) (tree : QueryNode) → QuerySpecification lexemes tree → All (IsLexemeOf text) lexemes → IsQueryWith (IsLexemeOf text) tree
tree_lies_in_text text lexemes tree spells within = query_with_tokens (IsLexemeOf text) lexemes tree spells within
