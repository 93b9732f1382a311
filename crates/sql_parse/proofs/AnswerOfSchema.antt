-- Each query that `IsAnswer` allows as a text's result is a query over the schema.
use Rattle.std.proofs.Common.{◌≡◌, inl, inr, ℕ, ◌≤◌, List, [], ◌∷◌, ◌++◌, length, Result, Ok, Err, subst, sym, refl}
use Rattle.std.specs.Prelude.{IfOk}
use Rattle.limits.specs.Profile.{most_conjuncts, most_entries, most_outputs}
use Rattle.ll_grammars.specs.declared.lexeme.Lexeme.{Lexeme}
use Rattle.query_grammar.specs.declared.tree.QueryNode.{QueryNode}
use Rattle.query_grammar.specs.Grammar.{QuerySpecification}
use Rattle.schema_types.specs.declared.types.Schema.{Schema}
use Rattle.schema_types.specs.declared.errors.LimitKind.TheVariants as limit
use Rattle.query_names.specs.declared.errors.QueryError.{QueryError}
use Rattle.query_types.specs.declared.types.Query.{Query}
use Rattle.query_types.specs.declared.types.Source.{Source}
use Rattle.query_types.specs.Validity.{IsQueryOf}
use Rattle.query_names.specs.Names.{entries}
use Rattle.query_names.specs.Offences.{name_offences, all_kind_offences}
use Rattle.query_names.specs.Values.{conjuncts, query_of}
use Rattle.sql_parse.specs.QueryOrRefusal.{refusal_if_above, first_long_list_refusal, refusal_at_first, name_error, kind_error, limit_refusals, long_lists, refusals, first_refusal_or, query_or_refusal}
use Rattle.query_names.specs.Numbers.{number_offences}
use Rattle.sql_parse.proofs.BindFacts.{within_limit_if_no_refusal}
use Rattle.sql_parse.specs.Reading.{lexemes_of, unless_number, IsAnswer}
use Rattle.sql_parse.proofs.OfSchema.{of_schema}
use Rattle.sql_parse.proofs.SomeEntry.{entries_not_empty}

pub none_before : (xs ys : List QueryError) → xs ++ ys ≡ [] → xs ≡ []
none_before [] ys none = refl
none_before (x ∷ xs) ys none = absurd cc

pub none_behind : (xs ys : List QueryError) → xs ++ ys ≡ [] → ys ≡ []
none_behind [] ys none = none
none_behind (x ∷ xs) ys none = absurd cc

no_place : (wrong : ℕ → QueryError) (places : List ℕ) → refusal_at_first wrong places ≡ [] → places ≡ []
no_place wrong [] none = refl
no_place wrong (place ∷ rest) none = absurd cc

pub unless_ok : (wrong : List QueryError) (value query : Query) → first_refusal_or wrong value ≡ Ok query → (wrong ≡ []) × (value ≡ query)
unless_ok [] value query is = (refl, cc)
unless_ok (e ∷ rest) value query is = absurd cc

pub result_is_of_schema : (schema : Schema) (text : List ℕ) (tokens : List Lexeme) (tree : QueryNode) (query : Query) → QuerySpecification tokens tree → query_or_refusal schema text tree ≡ Ok query → IsQueryOf schema query
unfolding query_or_refusal refusals query_of
result_is_of_schema schema text tokens tree query spelled is =
    let from : List Source = entries schema text tree in
    let names : List QueryError = refusal_at_first name_error (name_offences schema text from tree) in
    let kinds : List QueryError = refusal_at_first kind_error (all_kind_offences schema text from tree) in
    let many_entries : List QueryError = refusal_if_above limit.FromEntries most_entries (length from) in
    let lists : List QueryError = first_long_list_refusal (long_lists from tree) in
    let many_conjuncts : List QueryError = refusal_if_above limit.Conjuncts most_conjuncts (length (conjuncts schema text from tree)) in
    let many_outputs : List QueryError = refusal_if_above limit.Outputs most_outputs (length (query_of schema text tree).select) in
    let parts : (refusals schema text tree ≡ []) × (query_of schema text tree ≡ query) = unless_ok (refusals schema text tree) (query_of schema text tree) query is in
    let limits : limit_refusals (query_of schema text tree) (long_lists from tree) ≡ [] = none_behind (names ++ kinds) (limit_refusals (query_of schema text tree) (long_lists from tree)) parts.0 in
    let bad : names ++ kinds ≡ [] = none_before (names ++ kinds) (limit_refusals (query_of schema text tree) (long_lists from tree)) parts.0 in
    let first_three : (many_entries ++ lists) ++ many_conjuncts ≡ [] = none_before ((many_entries ++ lists) ++ many_conjuncts) many_outputs limits in
    let first_two : many_entries ++ lists ≡ [] = none_before (many_entries ++ lists) many_conjuncts first_three in
    let few : length from ≤ 12 = within_limit_if_no_refusal limit.FromEntries most_entries (length from) (none_before many_entries lists first_two) in
    let few_conjuncts : length (conjuncts schema text from tree) ≤ most_conjuncts = within_limit_if_no_refusal limit.Conjuncts most_conjuncts (length (conjuncts schema text from tree)) (none_behind (many_entries ++ lists) many_conjuncts first_three) in
    subst (IsQueryOf schema) parts.1
    (of_schema schema text tree (entries_not_empty schema text tokens tree spelled) few few_conjuncts
    (no_place name_error (name_offences schema text from tree) (none_before names kinds bad))
    (no_place kind_error (all_kind_offences schema text from tree) (none_behind names kinds bad)))

pub unless_number_ok : (places : List ℕ) (answer : Result Query QueryError) (query : Query) → Ok query ≡ unless_number places answer → answer ≡ Ok query
unless_number_ok [] answer query is = sym is
unless_number_ok (place ∷ rest) answer query is = absurd cc

pub answer_of_schema : (schema : Schema) (text : List ℕ) (query : Query) → IsAnswer schema text (Ok query) → IsQueryOf schema query
answer_of_schema schema text query (inl memory) = absurd cc
answer_of_schema schema text query (inr (inl unlexed)) = absurd (let is = unlexed.refused in cc)
answer_of_schema schema text query (inr (inr (inl deep))) = absurd (let is = deep.refused in cc)
answer_of_schema schema text query (inr (inr (inr (inl unspelled)))) = absurd (let is = unspelled.refused in cc)
answer_of_schema schema text query (inr (inr (inr (inr spelled)))) =
    result_is_of_schema schema text (lexemes_of text spelled.tokens) spelled.tree query spelled.spelled
    (unless_number_ok (number_offences text (lexemes_of text spelled.tokens)) (query_or_refusal schema text spelled.tree) query spelled.answered)

pub answers_of_schema : (schema : Schema) (text : List ℕ) (answer : Result Query QueryError) → IsAnswer schema text answer → IfOk answer (IsQueryOf schema)
answers_of_schema schema text (Ok query) is = answer_of_schema schema text query is
answers_of_schema schema text (Err e) is = tt
