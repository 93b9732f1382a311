-- If the result for a query text is a query, the query keeps the limits.
use Rattle.std.proofs.Common.{◌≡◌, inl, inr, ℕ, ◌≤◌, List, [], ◌++◌, length, Ok, subst}
use Rattle.limits.specs.Profile.{most_conjuncts, most_entries, most_outputs}
use Rattle.query_grammar.specs.declared.tree.QueryNode.{QueryNode}
use Rattle.schema_types.specs.declared.errors.LimitKind.TheVariants as limit
use Rattle.schema_types.specs.declared.types.Schema.{Schema}
use Rattle.query_types.specs.declared.types.Query.{Query}
use Rattle.query_names.specs.declared.errors.QueryError.{QueryError}
use Rattle.query_names.specs.Names.{entries}
use Rattle.query_names.specs.Offences.{name_offences, all_kind_offences}
use Rattle.query_names.specs.Values.{query_of}
use Rattle.sql_parse.specs.QueryOrRefusal.{refusal_if_above, first_long_list_refusal, limit_refusals, refusal_at_first, name_error, kind_error, long_lists, refusals, query_or_refusal}
use Rattle.query_names.specs.Numbers.{number_offences}
use Rattle.sql_parse.specs.Reading.{lexemes_of, IsAnswer}
use Rattle.sql_parse.proofs.AnswerOfSchema.{none_before, none_behind, unless_ok, unless_number_ok}
use Rattle.sql_parse.proofs.BindFacts.{within_limit_if_no_refusal}
use Rattle.text_answers.specs.QueryTexts.{query_answer}
use Rattle.text_answers.proofs.QueryAnswers.{result_is_allowed}

-- ---- a query that is made from a syntax tree without a refusal keeps the limits

pub record KeepsLimits (query : Query) : Type 0 where
  pub conjuncts : length query.conjuncts ≤ most_conjuncts
  pub outputs : length query.select ≤ most_outputs

kept : (query : Query) (lists : List ℕ) → limit_refusals query lists ≡ [] → KeepsLimits query
kept query lists none =
    let before : List QueryError = refusal_if_above limit.FromEntries most_entries (length query.from) ++ first_long_list_refusal lists in
    let many_conjuncts : List QueryError = refusal_if_above limit.Conjuncts most_conjuncts (length query.conjuncts) in
    let many_outputs : List QueryError = refusal_if_above limit.Outputs most_outputs (length query.select) in
    record {
      conjuncts = within_limit_if_no_refusal limit.Conjuncts most_conjuncts (length query.conjuncts)
          (none_behind before many_conjuncts (none_before (before ++ many_conjuncts) many_outputs none));
      outputs = within_limit_if_no_refusal limit.Outputs most_outputs (length query.select) (none_behind (before ++ many_conjuncts) many_outputs none);
    }

query_or_refusal_keeps : (schema : Schema) (text : List ℕ) (tree : QueryNode) (query : Query) → query_or_refusal schema text tree ≡ Ok query → KeepsLimits query
unfolding query_or_refusal refusals
query_or_refusal_keeps schema text tree query is =
    let names : List QueryError = refusal_at_first name_error (name_offences schema text (entries schema text tree) tree) in
    let kinds : List QueryError = refusal_at_first kind_error (all_kind_offences schema text (entries schema text tree) tree) in
    let made : Query = query_of schema text tree in
    let limits : List QueryError = limit_refusals made (long_lists (entries schema text tree) tree) in
    let parts : (refusals schema text tree ≡ []) × (made ≡ query) = unless_ok (refusals schema text tree) made query is in
    subst KeepsLimits parts.1 (kept made (long_lists (entries schema text tree) tree) (none_behind (names ++ kinds) limits parts.0))

pub answer_keeps : (schema : Schema) (text : List ℕ) (query : Query) → IsAnswer schema text (Ok query) → KeepsLimits query
answer_keeps schema text query (inl memory) = absurd cc
answer_keeps schema text query (inr (inl unlexed)) = absurd (let is = unlexed.refused in cc)
answer_keeps schema text query (inr (inr (inl deep))) = absurd (let is = deep.refused in cc)
answer_keeps schema text query (inr (inr (inr (inl unspelled)))) = absurd (let is = unspelled.refused in cc)
answer_keeps schema text query (inr (inr (inr (inr spelled)))) =
    query_or_refusal_keeps schema text spelled.tree query
    (unless_number_ok (number_offences text (lexemes_of text spelled.tokens)) (query_or_refusal schema text spelled.tree) query spelled.answered)

pub text_keeps : (schema : Schema) (text : List ℕ) (query : Query) → query_answer schema text ≡ Ok query → KeepsLimits query
text_keeps schema text query is = answer_keeps schema text query (subst (IsAnswer schema text) is (result_is_allowed schema text))
