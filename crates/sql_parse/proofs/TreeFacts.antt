-- The FROM entries of a syntax tree, and what follows for a binder that has these entries.
use Rattle.std.proofs.Common.{◌≡◌, ℕ, ◌≤◌, All, List, [], ◌∷◌, length, map, None, Result, Ok, Err, ap, subst, sym, ◌∙◌, arith}
use Rattle.std.specs.Prelude.{IfErr}
use Rattle.std.specs.List.{flat_map}
use Rattle.std.proofs.lemmas.List.{length-map}
use Rattle.std.proofs.lemmas.List.Elements.{All-nil, All-cons, All-head, All-tail, All-append}
use Rattle.ll_grammars.specs.declared.lexeme.Lexeme.{Lexeme}
use Rattle.query_grammar.specs.declared.tree.JoinedNode.{JoinedNode}
use Rattle.query_grammar.specs.declared.tree.FromItemNode.{FromItemNode}
use Rattle.query_grammar.specs.declared.tree.QueryNode.{QueryNode}
use Rattle.query_grammar.specs.declared.tree.SourceNode.{SourceNode}
use Rattle.query_grammar.specs.Lexemes.{IsSourceWith, IsJoinWith, IsFromItemWith, IsQueryWith}
use Rattle.schema_types.specs.declared.types.Schema.{Schema}
use Rattle.query_names.specs.declared.binder.Binder.{Binder}
use Rattle.query_names.specs.declared.errors.QueryError.{QueryError}
use Rattle.query_types.specs.declared.types.Cond.{Cond}
use Rattle.query_types.specs.declared.types.Out.{Out}
use Rattle.query_types.specs.declared.types.Source.{Source}
use Rattle.query_names.specs.Names.{sources_of, entry_of, entries, from_offences}
use Rattle.sql_parse.specs.QueryOrRefusal.{query_or_refusal}
use Rattle.query_names.specs.Answers.{first}
use Rattle.query_names.specs.Binding.{schema_of, from_of}
use Rattle.sql_parse.specs.AfterFrom.{conjuncts_by}
use Rattle.sql_parse.specs.Outputs.{selected_by}
use Rattle.sql_parse.specs.Refusing.{refusals_after_from, IsFirstOf, Answers}
use Rattle.sql_parse.proofs.BindFacts.{behind_by, value_by}

module _ (P : Lexeme → Type 0) where
  joined_lie_in : (joins : List JoinedNode) → All (IsJoinWith P) joins → All (IsSourceWith P) (map (λ join. join.source) joins)
  joined_lie_in [] lie = All-nil (IsSourceWith P)
  joined_lie_in (join ∷ rest) lie = All-cons (IsSourceWith P) join.source (map (λ join. join.source) rest) (All-head (IsJoinWith P) join rest lie).0 (joined_lie_in rest (All-tail (IsJoinWith P) join rest lie))

  part_lies_in : (part : FromItemNode) → IsFromItemWith P part → All (IsSourceWith P) (sources_of part)
  part_lies_in part lies = All-cons (IsSourceWith P) part.first (map (λ join. join.source) part.joins) lies.0 (joined_lie_in part.joins lies.1)

  parts_lie_in : (parts : List FromItemNode) → All (IsFromItemWith P) parts → All (IsSourceWith P) (flat_map sources_of parts)
  parts_lie_in [] lie = All-nil (IsSourceWith P)
  parts_lie_in (part ∷ rest) lie =
      All-append (IsSourceWith P) (sources_of part) (flat_map sources_of rest) (part_lies_in part (All-head (IsFromItemWith P) part rest lie)) (parts_lie_in rest (All-tail (IsFromItemWith P) part rest lie))

  pub sources_lie_in : (query : QueryNode) → IsQueryWith P query → All (IsSourceWith P) (flat_map sources_of query.parts)
  unfolding IsQueryWith
  sources_lie_in query lies = parts_lie_in query.parts lies.1

  pub all_lie_in : (query : QueryNode) (sources : List SourceNode) → sources ≡ flat_map sources_of query.parts → IsQueryWith P query → All (IsSourceWith P) sources
  all_lie_in query sources is lies = subst (All (IsSourceWith P)) (sym is) (sources_lie_in query lies)

module _ (schema : Schema) (text : List ℕ) (query : QueryNode) (from : List Source) where
  pub ends_within : from ≡ entries schema text query → length (flat_map sources_of query.parts) ≤ length from
  unfolding entries
  ends_within is =
      let same : length from ≡ length (flat_map sources_of query.parts) = ap length is ∙ length-map (flat_map sources_of query.parts) (entry_of schema text) in
      omega arith

module _ (schema : Schema) (text : List ℕ) (query : QueryNode) (binder : Binder) where
  pub behind_refused : schema_of binder ≡ schema → binder.text.now ≡ text → from_of binder ≡ entries schema text query → from_offences schema text query ≡ []
      → (e : QueryError) → IsFirstOf (refusals_after_from binder query) e → Answers (query_or_refusal schema text query) (Err e)
  behind_refused is_schema is_text is_from none e wrong = behind_by schema text query binder (record { schema_is = is_schema; text_is = is_text; from_is = is_from; no_offence = none }) e wrong

  pub behind_errs : schema_of binder ≡ schema → binder.text.now ≡ text → from_of binder ≡ entries schema text query → from_offences schema text query ≡ []
      → {A : Type 0} (answer : Result A QueryError) → IfErr answer (IsFirstOf (refusals_after_from binder query)) → IfErr answer (λ e. Answers (query_or_refusal schema text query) (Err e))
  behind_errs is_schema is_text is_from none (Ok value) wrong = tt
  behind_errs is_schema is_text is_from none (Err e) wrong = behind_refused is_schema is_text is_from none e wrong

  pub answered : schema_of binder ≡ schema → binder.text.now ≡ text → from_of binder ≡ entries schema text query → from_offences schema text query ≡ []
      → (conjs : List Cond) (outs : List Out) → conjs ≡ conjuncts_by binder query → outs ≡ selected_by binder query.outs → first (refusals_after_from binder query) ≡ None
      → Answers (query_or_refusal schema text query) (Ok (record { from = from_of binder; conjuncts = conjs; select = outs }))
  answered is_schema is_text is_from none conjs outs is_conjs is_outs no_refusal =
      value_by schema text query binder (record { schema_is = is_schema; text_is = is_text; from_is = is_from; no_offence = none }) (from_of binder) conjs outs is_from is_conjs is_outs no_refusal
