-- The clauses of a query whose FROM entries are known. The code checks the SELECT list, then the ON conditions, and then the condition of WHERE.
use Rattle.std.proofs.Common.{◌≡◌, ℕ, List, [], ◌++◌, Option, ap, subst, sym, ◌∙◌, append_assoc}
use Rattle.std.specs.List.{flat_map}
use Rattle.query_grammar.specs.declared.tree.FromItemNode.{FromItemNode}
use Rattle.query_grammar.specs.declared.tree.QueryNode.{QueryNode}
use Rattle.query_names.specs.declared.binder.Binder.{Binder}
use Rattle.query_names.specs.declared.errors.QueryError.{QueryError}
use Rattle.query_types.specs.declared.types.Cond.{Cond}
use Rattle.query_types.specs.declared.types.Source.{Source}
use Rattle.query_names.specs.Answers.{IsNameError, or_first}
use Rattle.query_names.specs.Scopes.{ConditionInScope, whole_scope, conditions, on_conditions, where_condition}
use Rattle.query_names.specs.Binding.{from_of, outs_offences_of, names_in, kinds_in, long_lists_in, members_in}
use Rattle.sql_parse.specs.AfterFrom.{names_after_from, kinds_after_from, lists_after_from, conjuncts_by}
use Rattle.sql_parse.proofs.KindFacts.{flat_map-append}
use Rattle.query_names.proofs.Walk.{error_after, name_error_append, or_first_append}

split : {B : Type 0} (f : ConditionInScope → List B) (from : List Source) (query : QueryNode) → flat_map f (conditions from query) ≡ flat_map f (on_conditions 0 query.parts) ++ flat_map f (where_condition from query.filter)
unfolding conditions
split f from query = flat_map-append f (on_conditions 0 query.parts) (where_condition from query.filter)

module _ (binder : Binder) (query : QueryNode) where
  abbrev in_outs : List ℕ
  in_outs = outs_offences_of binder (whole_scope (from_of binder)) query.outs

  abbrev in_parts : List ℕ
  in_parts = flat_map (names_in binder) (on_conditions 0 query.parts)

  abbrev in_filter : List ℕ
  in_filter = flat_map (names_in binder) (where_condition (from_of binder) query.filter)

  names_are : names_after_from binder query ≡ in_outs ++ (in_parts ++ in_filter)
  unfolding names_after_from
  names_are = ap (λ l. in_outs ++ l) (split (names_in binder) (from_of binder) query)

  pub no_name : in_outs ≡ [] → in_parts ≡ [] → in_filter ≡ [] → names_after_from binder query ≡ []
  no_name outs parts filter = names_are ∙ ap (λ l. l ++ (in_parts ++ in_filter)) outs ∙ ap (λ l. l ++ in_filter) parts ∙ filter

  pub name_in_outs : (e : QueryError) → IsNameError in_outs e → IsNameError (names_after_from binder query) e
  name_in_outs e wrong = subst (λ l. IsNameError l e) (sym names_are) (name_error_append in_outs (in_parts ++ in_filter) e wrong)

  pub name_in_parts : (e : QueryError) → in_outs ≡ [] → IsNameError in_parts e → IsNameError (names_after_from binder query) e
  name_in_parts e outs wrong = subst (λ l. IsNameError l e) (sym names_are) (error_after in_outs (in_parts ++ in_filter) e outs (name_error_append in_parts in_filter e wrong))

  pub name_in_filter : (e : QueryError) → in_outs ≡ [] → in_parts ≡ [] → IsNameError in_filter e → IsNameError (names_after_from binder query) e
  name_in_filter e outs parts wrong = subst (λ l. IsNameError l e) (sym names_are) (error_after in_outs (in_parts ++ in_filter) e outs (error_after in_parts in_filter e parts wrong))

  pub kinds_behind_are : (old : Option ℕ) → or_first (or_first old (flat_map (kinds_in binder) (on_conditions 0 query.parts))) (flat_map (kinds_in binder) (where_condition (from_of binder) query.filter)) ≡ or_first old (kinds_after_from binder query)
  unfolding kinds_after_from
  kinds_behind_are old =
      sym (or_first_append old (flat_map (kinds_in binder) (on_conditions 0 query.parts)) (flat_map (kinds_in binder) (where_condition (from_of binder) query.filter)))
      ∙ ap (or_first old) (sym (split (kinds_in binder) (from_of binder) query))

  pub lists_behind_are : (old : Option ℕ) → or_first (or_first old (flat_map long_lists_in (on_conditions 0 query.parts))) (flat_map long_lists_in (where_condition (from_of binder) query.filter)) ≡ or_first old (lists_after_from binder query)
  unfolding lists_after_from
  lists_behind_are old =
      sym (or_first_append old (flat_map long_lists_in (on_conditions 0 query.parts)) (flat_map long_lists_in (where_condition (from_of binder) query.filter)))
      ∙ ap (or_first old) (sym (split long_lists_in (from_of binder) query))

  pub conjuncts_are_both : conjuncts_by binder query ≡ flat_map (members_in binder) (on_conditions 0 query.parts) ++ flat_map (members_in binder) (where_condition (from_of binder) query.filter)
  unfolding conjuncts_by
  conjuncts_are_both = split (members_in binder) (from_of binder) query

  pub members_added : (old : List Cond) {mid new : List Cond} {parts : List FromItemNode} → parts ≡ query.parts → mid ≡ old ++ flat_map (members_in binder) (on_conditions 0 parts)
      → new ≡ mid ++ flat_map (members_in binder) (where_condition (from_of binder) query.filter) → new ≡ old ++ conjuncts_by binder query
  members_added old {mid} {new} {parts} same first second =
      let last : List Cond = flat_map (members_in binder) (where_condition (from_of binder) query.filter) in
      second
      ∙ ap (λ l. l ++ last) (first ∙ ap (λ p. old ++ flat_map (members_in binder) (on_conditions 0 p)) same)
      ∙ append_assoc old (flat_map (members_in binder) (on_conditions 0 query.parts)) last
      ∙ ap (λ l. old ++ l) (sym conjuncts_are_both)
