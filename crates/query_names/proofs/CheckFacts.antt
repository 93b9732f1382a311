-- Offences of a test or an output list, from the offences of its parts.
use Rattle.std.proofs.Common.{◌≡◌, List, [], ◌++◌, ap, ◌∙◌, refl}
use Rattle.std.specs.List.{flat_map}
use Rattle.query_grammar.specs.declared.tree.TestNode.{TestNode}
use Rattle.query_grammar.specs.declared.tree.OutNode.{OutNode}
use Rattle.query_grammar.specs.declared.tree.OutsNode.TheVariants as outs
use Rattle.query_names.specs.declared.binder.Binder.{Binder}
use Rattle.query_names.specs.declared.scope.Scope.{Scope}
use Rattle.query_names.specs.declared.errors.QueryError.{QueryError}
use Rattle.query_names.specs.Answers.{IsNameError}
use Rattle.query_names.specs.Offences.{left_of, others_of}
use Rattle.query_names.specs.Binding.{name_offences_of, is_text_by, kind_offence_of, test_offences_of, kind_offences_of, out_offences_of, outs_offences_of}
use Rattle.query_names.proofs.Walk.{error_after, name_error_append}

module _ (binder : Binder) (scope : Scope) (test : TestNode) where
  pub error_at_left : (e : QueryError) → IsNameError (name_offences_of binder scope (left_of test)) e → IsNameError (test_offences_of binder scope test) e
  unfolding test_offences_of name_offences_of
  error_at_left e wrong = name_error_append (name_offences_of binder scope (left_of test)) (flat_map (name_offences_of binder scope) (others_of test)) e wrong

  pub error_at_others : (e : QueryError) → name_offences_of binder scope (left_of test) ≡ []
      → IsNameError (flat_map (name_offences_of binder scope) (others_of test)) e → IsNameError (test_offences_of binder scope test) e
  unfolding test_offences_of name_offences_of
  error_at_others e none wrong = error_after (name_offences_of binder scope (left_of test)) (flat_map (name_offences_of binder scope) (others_of test)) e none wrong

  pub no_error : name_offences_of binder scope (left_of test) ≡ [] → flat_map (name_offences_of binder scope) (others_of test) ≡ [] → test_offences_of binder scope test ≡ []
  unfolding test_offences_of name_offences_of
  no_error left others = ap (λ l. l ++ flat_map (name_offences_of binder scope) (others_of test)) left ∙ others

  pub kinds_of_test : kind_offences_of binder scope test ≡ flat_map (kind_offence_of binder scope (is_text_by binder scope (left_of test))) (others_of test)
  unfolding kind_offences_of kind_offence_of is_text_by
  kinds_of_test = refl

pub outs_listed : (binder : Binder) (scope : Scope) (list : List OutNode) → outs_offences_of binder scope (outs.Listed list) ≡ flat_map (out_offences_of binder scope) list
unfolding outs_offences_of out_offences_of
outs_listed binder scope list = refl
