-- A text has at most one result, apart from `NoMemory`.
use Rattle.std.proofs.Common.{◌≡◌, ◌⊎◌, inl, inr, ℕ, ◌<◌, ◌≤◌, List, [], ◌∷◌, ◌++◌, length, Result, Err, ap, subst, sym, ◌∙◌, refl, arith, append_assoc}
use Rattle.std.proofs.lemmas.List.{append-nil}
use Rattle.ll_grammars.specs.declared.lexeme.Lexeme.{Lexeme}
use Rattle.ll_grammars.specs.Language.{Language, IsViablePrefix, Fails, GoesWrong}
use Rattle.ll_grammars.specs.Places.{IsSyntaxErrorAt}
use Rattle.ll_grammars.specs.Rules.{next_token_start}
use Rattle.query_grammar.specs.declared.tree.QueryNode.{QueryNode}
use Rattle.query_grammar.specs.Grammar.{QuerySpecification}
use Rattle.query_grammar.specs.Nesting.{nesting}
use Rattle.query_grammar.proofs.Whole.{one_query}
use Rattle.schema_types.specs.declared.types.Schema.{Schema}
use Rattle.schema_types.specs.declared.errors.LimitKind.TheVariants as limit
use Rattle.sql_tokens.specs.declared.token.Token.{Token}
use Rattle.sql_tokens.specs.Lexing.{IsLexed}
use Rattle.sql_tokens.proofs.WholeTexts.{one_token_list, one_error_offset, never_both}
use Rattle.query_names.specs.declared.errors.QueryError.{QueryError}
use Rattle.query_names.specs.declared.errors.QueryError.TheVariants as error
use Rattle.query_types.specs.declared.types.Query.{Query}
use Rattle.query_names.specs.Numbers.{number_offences}
use Rattle.sql_parse.specs.QueryOrRefusal.{query_or_refusal, refusal}
use Rattle.sql_parse.specs.Reading.{lexemes_of, earlier_offset, unless_number, IsUnlexed, IsTooDeep, IsUnspelled, IsSpelled, IsAnswer}

-- ---- a list of tokens has a syntax error at one position at most

record Longer (front rest front' rest' : List Lexeme) : Type 0 where
  next : Lexeme
  more : List Lexeme
  whole : front' ≡ front ++ next ∷ more
  left : rest ≡ next ∷ (more ++ rest')

grown : (t u : Lexeme) (f r f' r' : List Lexeme) → t ≡ u → Longer f r f' r' → Longer (t ∷ f) r (u ∷ f') r'
grown t u f r f' r' same longer = record {
  next = longer.next;
  more = longer.more;
  whole = ap (λ l. u ∷ l) longer.whole ∙ ap (λ h. h ∷ (f ++ longer.next ∷ longer.more)) (sym same);
  left = longer.left;
}

split : (f r f' r' : List Lexeme) → f ++ r ≡ f' ++ r' → (r ≡ r') ⊎ Longer f r f' r' ⊎ Longer f' r' f r
split [] r [] r' e = inl e
split [] r (t ∷ f') r' e = inr (inl (record { next = t; more = f'; whole = refl; left = e }))
split (t ∷ f) r [] r' e = inr (inr (record { next = t; more = f; whole = refl; left = sym e }))
split (t ∷ f) r (u ∷ f') r' e = at (split f r f' r' (let tails : f ++ r ≡ f' ++ r' = cc in tails)) where
  heads : t ≡ u
  heads = cc

  at : (r ≡ r') ⊎ Longer f r f' r' ⊎ Longer f' r' f r → (r ≡ r') ⊎ Longer (t ∷ f) r (u ∷ f') r' ⊎ Longer (u ∷ f') r' (t ∷ f) r
  at (inl same) = inl same
  at (inr (inl longer)) = inr (inl (grown t u f r f' r' heads longer))
  at (inr (inr longer)) = inr (inr (grown u t f' r' f r (sym heads) longer))

module _ {A : Type 0} (L : Language A) where
  not_longer : (f r f' r' : List Lexeme) → Fails L f r → IsViablePrefix L f' → Longer f r f' r' → ⊥
  not_longer f r f' r' fails viable longer =
      let at_next : Fails L f (longer.next ∷ (longer.more ++ r')) = subst (Fails L f) longer.left fails in
      at_next (record {
        more = longer.more ++ viable.more;
        value = viable.value;
        spelled = subst (λ l. L l viable.value)
            (ap (λ l. l ++ viable.more) longer.whole ∙ append_assoc f (longer.next ∷ longer.more) viable.more ∙ sym (append_assoc f (longer.next ∷ []) (longer.more ++ viable.more)))
            viable.spelled;
      })

  one_rest : (tokens r r' : List Lexeme) → GoesWrong L tokens r → GoesWrong L tokens r' → r ≡ r'
  one_rest tokens r r' a b = at (split a.front r b.front r' (sym a.whole ∙ b.whole)) where
    at : (r ≡ r') ⊎ Longer a.front r b.front r' ⊎ Longer b.front r' a.front r → r ≡ r'
    at (inl same) = same
    at (inr (inl longer)) = absurd (not_longer a.front r b.front r' a.fails b.begins longer)
    at (inr (inr longer)) = absurd (not_longer b.front r' a.front r b.fails a.begins longer)

  not_spelled : (tokens r : List Lexeme) (value : A) → GoesWrong L tokens r → L tokens value → ⊥
  not_spelled tokens r value wrong spells = at r wrong.whole wrong.fails where
    at : (rest : List Lexeme) → tokens ≡ wrong.front ++ rest → Fails L wrong.front rest → ⊥
    at [] whole fails = fails value (subst (λ l. L l value) (whole ∙ append-nil wrong.front) spells)
    at (t ∷ rest) whole fails =
        fails (record { more = rest; value = value; spelled = subst (λ l. L l value) (whole ∙ sym (append_assoc wrong.front (t ∷ []) rest)) spells })

  one_syntax_place : (tokens : List Lexeme) (text_len at other : ℕ) → IsSyntaxErrorAt L tokens text_len at → IsSyntaxErrorAt L tokens text_len other → at ≡ other
  one_syntax_place tokens text_len at other a b = a.here ∙ ap (λ r. next_token_start r text_len) (one_rest tokens a.rest b.rest a.wrong b.wrong) ∙ sym b.here

-- ---- at most one result

module _ (schema : Schema) (text : List ℕ) (a b : Result Query QueryError) where
  both_unlexed : IsUnlexed schema text a → IsUnlexed schema text b → a ≡ b
  both_unlexed x y = x.refused ∙ ap (λ at. Err (error.Syntax at)) (one_error_offset text x.place y.place x.bad y.bad) ∙ sym y.refused

  both_deep : IsTooDeep schema text a → IsTooDeep schema text b → a ≡ b
  both_deep x y = x.refused ∙ ap (λ ts. Err (refusal limit.Nesting (nesting (lexemes_of text ts)))) (one_token_list text x.tokens y.tokens x.lexed y.lexed) ∙ sym y.refused

  both_unspelled : IsUnspelled schema text a → IsUnspelled schema text b → a ≡ b
  both_unspelled x y =
      let same : x.tokens ≡ y.tokens = one_token_list text x.tokens y.tokens x.lexed y.lexed in
      let there : IsSyntaxErrorAt QuerySpecification (lexemes_of text y.tokens) (length text) x.place = subst (λ ts. IsSyntaxErrorAt QuerySpecification (lexemes_of text ts) (length text) x.place) same x.wrong in
      x.refused
      ∙ ap (λ ts. Err (error.Syntax (earlier_offset x.place (number_offences text (lexemes_of text ts))))) same
      ∙ ap (λ at. Err (error.Syntax (earlier_offset at (number_offences text (lexemes_of text y.tokens))))) (one_syntax_place QuerySpecification (lexemes_of text y.tokens) (length text) x.place y.place there y.wrong)
      ∙ sym y.refused

  both_spelled : IsSpelled schema text a → IsSpelled schema text b → a ≡ b
  both_spelled x y =
      let same : x.tokens ≡ y.tokens = one_token_list text x.tokens y.tokens x.lexed y.lexed in
      let there : QuerySpecification (lexemes_of text y.tokens) x.tree = subst (λ ts. QuerySpecification (lexemes_of text ts) x.tree) same x.spelled in
      x.answered
      ∙ ap (λ ts. unless_number (number_offences text (lexemes_of text ts)) (query_or_refusal schema text x.tree)) same
      ∙ ap (λ tree. unless_number (number_offences text (lexemes_of text y.tokens)) (query_or_refusal schema text tree)) (one_query (lexemes_of text y.tokens) x.tree y.tree there y.spelled)
      ∙ sym y.answered

  deep_or_not : (ts us : List Token) → IsLexed text ts → IsLexed text us → 64 < nesting (lexemes_of text ts) → nesting (lexemes_of text us) ≤ 64 → ⊥
  deep_or_not ts us lexed others deep shallow =
      let same : nesting (lexemes_of text ts) ≡ nesting (lexemes_of text us) = ap (λ l. nesting (lexemes_of text l)) (one_token_list text ts us lexed others) in
      omega arith

  spelled_or_not : (ts us : List Token) (at : ℕ) (tree : QueryNode) → IsLexed text ts → IsLexed text us → IsSyntaxErrorAt QuerySpecification (lexemes_of text ts) (length text) at
      → QuerySpecification (lexemes_of text us) tree → ⊥
  spelled_or_not ts us at tree lexed others wrong spells =
      not_spelled QuerySpecification (lexemes_of text ts) wrong.rest tree wrong.wrong
      (subst (λ l. QuerySpecification (lexemes_of text l) tree) (sym (one_token_list text ts us lexed others)) spells)

pub one_answer : (schema : Schema) (text : List ℕ) (a b : Result Query QueryError) → IsAnswer schema text a → IsAnswer schema text b → (a ≡ Err error.NoMemory) ⊎ (b ≡ Err error.NoMemory) ⊎ (a ≡ b)
one_answer schema text a b (inl memory) y = inl memory
one_answer schema text a b (inr x) (inl memory) = inr (inl memory)
one_answer schema text a b (inr x) (inr y) = inr (inr (same x y)) where
  same : IsUnlexed schema text a ⊎ IsTooDeep schema text a ⊎ IsUnspelled schema text a ⊎ IsSpelled schema text a
      → IsUnlexed schema text b ⊎ IsTooDeep schema text b ⊎ IsUnspelled schema text b ⊎ IsSpelled schema text b → a ≡ b
  same (inl x) (inl y) = both_unlexed schema text a b x y
  same (inl x) (inr (inl y)) = absurd (never_both text y.tokens x.place y.lexed x.bad)
  same (inl x) (inr (inr (inl y))) = absurd (never_both text y.tokens x.place y.lexed x.bad)
  same (inl x) (inr (inr (inr y))) = absurd (never_both text y.tokens x.place y.lexed x.bad)
  same (inr (inl x)) (inl y) = absurd (never_both text x.tokens y.place x.lexed y.bad)
  same (inr (inl x)) (inr (inl y)) = both_deep schema text a b x y
  same (inr (inl x)) (inr (inr (inl y))) = absurd (deep_or_not schema text a b x.tokens y.tokens x.lexed y.lexed x.deep y.shallow)
  same (inr (inl x)) (inr (inr (inr y))) = absurd (deep_or_not schema text a b x.tokens y.tokens x.lexed y.lexed x.deep y.shallow)
  same (inr (inr (inl x))) (inl y) = absurd (never_both text x.tokens y.place x.lexed y.bad)
  same (inr (inr (inl x))) (inr (inl y)) = absurd (deep_or_not schema text a b y.tokens x.tokens y.lexed x.lexed y.deep x.shallow)
  same (inr (inr (inl x))) (inr (inr (inl y))) = both_unspelled schema text a b x y
  same (inr (inr (inl x))) (inr (inr (inr y))) = absurd (spelled_or_not schema text a b x.tokens y.tokens x.place y.tree x.lexed y.lexed x.wrong y.spelled)
  same (inr (inr (inr x))) (inl y) = absurd (never_both text x.tokens y.place x.lexed y.bad)
  same (inr (inr (inr x))) (inr (inl y)) = absurd (deep_or_not schema text a b y.tokens x.tokens y.lexed x.lexed y.deep x.shallow)
  same (inr (inr (inr x))) (inr (inr (inl y))) = absurd (spelled_or_not schema text a b y.tokens x.tokens y.place x.tree y.lexed x.lexed y.wrong x.spelled)
  same (inr (inr (inr x))) (inr (inr (inr y))) = both_spelled schema text a b x y
