-- The computed result for a query text is the only one that the contract of `read_query` allows, unless memory runs out.
use Rattle.std.proofs.Common.{◌≡◌, ◌≢◌, ◌⊎◌, inl, inr, ℕ, ◌≤◌, Bool, true, false, cond, nat_lt, List, [], ◌∷◌, ◌++◌, length, Result, Ok, Err, refl, subst}
use Rattle.std.proofs.lemmas.Bool.{ltb-true, ltb-false}
use Rattle.std.specs.Bool.{⊤}
use Rattle.limits.specs.Profile.{most_conjuncts, most_entries, most_outputs}
use Rattle.ll_grammars.specs.declared.lexeme.Lexeme.{Lexeme}
use Rattle.query_grammar.specs.declared.tree.QueryNode.{QueryNode}
use Rattle.query_grammar.specs.Grammar.{QuerySpecification}
use Rattle.query_grammar.specs.Nesting.{nesting}
use Rattle.query_grammar.proofs.Whole.{reads_queries}
use Rattle.sql_tokens.specs.declared.token.Token.{Token}
use Rattle.sql_tokens.specs.Lexing.{IsLexed}
use Rattle.schema_types.specs.declared.errors.LimitKind.{LimitKind}
use Rattle.schema_types.specs.declared.errors.LimitKind.TheVariants as limit
use Rattle.schema_types.specs.declared.types.Schema.{Schema}
use Rattle.query_types.specs.declared.types.Query.{Query}
use Rattle.query_types.specs.Validity.{IsQueryOf}
use Rattle.query_names.specs.declared.errors.QueryError.{QueryError}
use Rattle.query_names.specs.declared.errors.QueryError.TheVariants as error
use Rattle.query_names.specs.Names.{entries}
use Rattle.query_names.specs.Offences.{name_offences, all_kind_offences}
use Rattle.query_names.specs.Values.{query_of}
use Rattle.sql_parse.specs.QueryOrRefusal.{refusal, refusal_if_above, first_long_list_refusal, limit_refusals, refusal_at_first, name_error, kind_error, long_lists, refusals, first_refusal_or, query_or_refusal}
use Rattle.query_names.specs.Numbers.{number_offences}
use Rattle.sql_parse.specs.Reading.{lexemes_of, most_nesting, unless_number, IsAnswer}
use Rattle.sql_parse.proofs.OneAnswer.{one_answer}
use Rattle.sql_parse.proofs.AnswerOfSchema.{answer_of_schema}
use Rattle.text_answers.specs.Stages.{or_refused_at, tokens_of}
use Rattle.text_answers.specs.QueryTexts.{syntax, syntax_tree_of, spelled_answer, nested_answer, query_answer}
use Rattle.text_answers.proofs.Tokens.{AreTokensOrPlace, tokens_or_error}
use Rattle.text_answers.proofs.Spellings.{SpellsOrGoesWrong, is_spelling}

tree_or_error : (text_len : ℕ) (tokens : List Lexeme) → SpellsOrGoesWrong QuerySpecification tokens text_len (syntax_tree_of text_len tokens)
unfolding syntax_tree_of
tree_or_error text_len tokens = is_spelling reads_queries tokens text_len

-- ---- the computed result is allowed

module _ (schema : Schema) (text : List ℕ) where
  spelled_allowed : (tokens : List Token) (tree : Result QueryNode ℕ) → IsLexed text tokens → nesting (lexemes_of text tokens) ≤ most_nesting → SpellsOrGoesWrong QuerySpecification (lexemes_of text tokens) (length text) tree
      → IsAnswer schema text (spelled_answer schema text (lexemes_of text tokens) tree)
  spelled_allowed tokens (Ok tree) lexed shallow spelled = inr (inr (inr (inr (record { tokens = tokens; lexed = lexed; shallow = shallow; tree = tree; spelled = spelled; answered = refl }))))
  spelled_allowed tokens (Err at) lexed shallow wrong = inr (inr (inr (inl (record { tokens = tokens; lexed = lexed; shallow = shallow; place = at; wrong = wrong; refused = refl }))))

  nested_allowed : (tokens : List Token) → IsLexed text tokens → IsAnswer schema text (nested_answer schema text (lexemes_of text tokens))
  unfolding nested_answer
  nested_allowed tokens lexed = by (nat_lt most_nesting (nesting (lexemes_of text tokens))) refl where
    by : (deep : Bool) → nat_lt most_nesting (nesting (lexemes_of text tokens)) ≡ deep
        → IsAnswer schema text (cond deep (Err (refusal limit.Nesting (nesting (lexemes_of text tokens)))) (spelled_answer schema text (lexemes_of text tokens) (syntax_tree_of (length text) (lexemes_of text tokens))))
    by true e = inr (inr (inl (record { tokens = tokens; lexed = lexed; deep = ltb-true most_nesting (nesting (lexemes_of text tokens)) e; refused = refl })))
    by false e =
        spelled_allowed tokens (syntax_tree_of (length text) (lexemes_of text tokens)) lexed (ltb-false most_nesting (nesting (lexemes_of text tokens)) e) (tree_or_error (length text) (lexemes_of text tokens))

  lexed_allowed : (tokens : Result (List Token) ℕ) → AreTokensOrPlace text tokens → IsAnswer schema text (or_refused_at syntax tokens (λ tokens. nested_answer schema text (lexemes_of text tokens)))
  lexed_allowed (Ok tokens) lexed = nested_allowed tokens lexed
  lexed_allowed (Err at) bad = inr (inl (record { place = at; bad = bad; refused = refl }))

  pub result_is_allowed : IsAnswer schema text (query_answer schema text)
  unfolding query_answer
  result_is_allowed = lexed_allowed (tokens_of text) (tokens_or_error text)

-- ---- the computed result isn't NoMemory

abbrev FirstIsNotNoMemory : List QueryError → Type 0
FirstIsNotNoMemory [] = ⊤
FirstIsNotNoMemory (wrong ∷ rest) = wrong ≢ error.NoMemory

both_begin : (front rest : List QueryError) → FirstIsNotNoMemory front → FirstIsNotNoMemory rest → FirstIsNotNoMemory (front ++ rest)
both_begin [] rest h k = k
both_begin (wrong ∷ front) rest h k = h

places_begin : (wrong : ℕ → QueryError) (places : List ℕ) → ((n : ℕ) → wrong n ≢ error.NoMemory) → FirstIsNotNoMemory (refusal_at_first wrong places)
places_begin wrong [] none = tt
places_begin wrong (place ∷ rest) none = none place

over_begins : (which : LimitKind) (most n : ℕ) → FirstIsNotNoMemory (refusal_if_above which most n)
over_begins which most n = by (nat_lt most n) where
  by : (more : Bool) → FirstIsNotNoMemory (cond more (refusal which n ∷ []) [])
  by true = λ e. cc
  by false = tt

lists_begin : (lists : List ℕ) → FirstIsNotNoMemory (first_long_list_refusal lists)
lists_begin [] = tt
lists_begin (n ∷ rest) = λ e. cc

limits_begin : (query : Query) (lists : List ℕ) → FirstIsNotNoMemory (limit_refusals query lists)
limits_begin query lists =
    let many_entries = refusal_if_above limit.FromEntries most_entries (length query.from) in
    let many_conjuncts = refusal_if_above limit.Conjuncts most_conjuncts (length query.conjuncts) in
    let many_outputs = refusal_if_above limit.Outputs most_outputs (length query.select) in
    both_begin ((many_entries ++ first_long_list_refusal lists) ++ many_conjuncts) many_outputs
    (both_begin (many_entries ++ first_long_list_refusal lists) many_conjuncts
    (both_begin many_entries (first_long_list_refusal lists) (over_begins limit.FromEntries most_entries (length query.from)) (lists_begin lists))
    (over_begins limit.Conjuncts most_conjuncts (length query.conjuncts)))
    (over_begins limit.Outputs most_outputs (length query.select))

refusals_begin : (schema : Schema) (text : List ℕ) (tree : QueryNode) → FirstIsNotNoMemory (refusals schema text tree)
unfolding refusals
refusals_begin schema text tree =
    let from = entries schema text tree in
    let names = refusal_at_first name_error (name_offences schema text from tree) in
    let kinds = refusal_at_first kind_error (all_kind_offences schema text from tree) in
    both_begin (names ++ kinds) (limit_refusals (query_of schema text tree) (long_lists from tree))
    (both_begin names kinds (places_begin name_error (name_offences schema text from tree) (λ n e. cc)) (places_begin kind_error (all_kind_offences schema text from tree) (λ n e. cc)))
    (limits_begin (query_of schema text tree) (long_lists from tree))

unless_not_memory : (wrong : List QueryError) (query : Query) → FirstIsNotNoMemory wrong → first_refusal_or wrong query ≢ Err error.NoMemory
unless_not_memory [] query h e = cc
unless_not_memory (w ∷ rest) query h e = h (let same : w ≡ error.NoMemory = cc in same)

query_or_refusal_not_memory : (schema : Schema) (text : List ℕ) (tree : QueryNode) → query_or_refusal schema text tree ≢ Err error.NoMemory
unfolding query_or_refusal
query_or_refusal_not_memory schema text tree = unless_not_memory (refusals schema text tree) (query_of schema text tree) (refusals_begin schema text tree)

number_not_memory : (places : List ℕ) (answer : Result Query QueryError) → answer ≢ Err error.NoMemory → unless_number places answer ≢ Err error.NoMemory
number_not_memory [] answer h = h
number_not_memory (place ∷ rest) answer h = λ e. cc

module _ (schema : Schema) (text : List ℕ) where
  spelled_not_memory : (tokens : List Lexeme) (tree : Result QueryNode ℕ) → spelled_answer schema text tokens tree ≢ Err error.NoMemory
  spelled_not_memory tokens (Ok tree) = number_not_memory (number_offences text tokens) (query_or_refusal schema text tree) (query_or_refusal_not_memory schema text tree)
  spelled_not_memory tokens (Err at) = λ e. cc

  nested_not_memory : (tokens : List Lexeme) → nested_answer schema text tokens ≢ Err error.NoMemory
  unfolding nested_answer
  nested_not_memory tokens = by (nat_lt most_nesting (nesting tokens)) where
    by : (deep : Bool) → cond deep (Err (refusal limit.Nesting (nesting tokens))) (spelled_answer schema text tokens (syntax_tree_of (length text) tokens)) ≢ Err error.NoMemory
    by true = λ e. cc
    by false = spelled_not_memory tokens (syntax_tree_of (length text) tokens)

  lexed_not_memory : (tokens : Result (List Token) ℕ) → or_refused_at syntax tokens (λ tokens. nested_answer schema text (lexemes_of text tokens)) ≢ Err error.NoMemory
  lexed_not_memory (Ok tokens) = nested_not_memory (lexemes_of text tokens)
  lexed_not_memory (Err at) = λ e. cc

  pub never_out_of_memory : query_answer schema text ≢ Err error.NoMemory
  unfolding query_answer
  never_out_of_memory = lexed_not_memory (tokens_of text)

-- ---- no other result is allowed

pub only_result : (schema : Schema) (text : List ℕ) (answer : Result Query QueryError) → IsAnswer schema text answer → (answer ≡ Err error.NoMemory) ⊎ (answer ≡ query_answer schema text)
only_result schema text answer is = by (one_answer schema text answer (query_answer schema text) is (result_is_allowed schema text)) where
  by : (answer ≡ Err error.NoMemory) ⊎ (query_answer schema text ≡ Err error.NoMemory) ⊎ (answer ≡ query_answer schema text) → (answer ≡ Err error.NoMemory) ⊎ (answer ≡ query_answer schema text)
  by (inl memory) = inl memory
  by (inr (inl memory)) = absurd (never_out_of_memory schema text memory)
  by (inr (inr same)) = inr same

pub of_schema : (schema : Schema) (text : List ℕ) (query : Query) → query_answer schema text ≡ Ok query → IsQueryOf schema query
of_schema schema text query e = answer_of_schema schema text query (subst (IsAnswer schema text) e (result_is_allowed schema text))
