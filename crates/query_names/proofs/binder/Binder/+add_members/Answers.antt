use Rattle.std.proofs.Common.{All, rules, refl, ap, sym, subst, ◌∙◌}
use Rattle.std.proofs.lemmas.Result.{err_from_is_err_and}
use Rattle.std.specs.List.{flat_map}
use Rattle.sql_tokens.specs.Words.{IsLexemeOf}
use Rattle.query_grammar.specs.Lexemes.{IsCondWith}
use Rattle.query_grammar.specs.declared.tree.CondNode.TheViews.{the_lemmas}
use Rattle.query_names.specs.Scopes.{tests}
use Rattle.query_names.specs.Answers.{IsNameError}
use Rattle.query_names.specs.Binding.{test_offences_of, members_by}
use Rattle.query_names.proofs.Meanings.{tokens_of_and, tokens_of_test, members_and, members_test, if_ok_map}
use Rattle.query_names.proofs.CheckSteps.{checked_of_equal, checked_all, wrong_in}
use Rattle.query_names.proofs.CondFacts.{of_and, checked_at, wrong_at, one_test, one_member}
use Rattle.query_names.proofs.binder.Binder.+add_members.Goals as goal

pub add_members-requires : goal.add_members-requires
add_members-requires t c =
    let told : All (IsCondWith (IsLexemeOf c.args.self.now.text.now)) c.as_slice-member-items.result.now =
    tokens_of_and (IsLexemeOf c.args.self.now.text.now) c.args.condition.now c.in-And.members c.as_slice-member-items.result.now c.in-And.is c.as_slice-member-items.ensures c.requires.tokens in
    search (rules, the_lemmas, told)

pub add_test_members-requires-clause-tokens : goal.add_test_members-requires-clause-tokens
add_test_members-requires-clause-tokens t c =
    tokens_of_test (IsLexemeOf c.args.self.now.text.now) c.args.condition.now c.in-Test.test c.in-Test.is c.requires.tokens

pub returns-in_err-add_members-in-And-clause-err : goal.returns-in_err-add_members-in-And-clause-err
returns-in_err-add_members-in-And-clause-err t c =
    let p = err_from_is_err_and c.from_residual.result c.from_residual.ensures.1 in
    rw (p.1, p.2) (wrong_at c.args.self.now c.args.visible.now.scope c.in_err-add_members-in-And.field-0.0 (of_and c.in-And.is c.as_slice-member-items.ensures)
    (wrong_in c.args.self.now c.args.visible.now.scope c.as_slice-member-items.result.now _ c.in_err-add_members-in-And.field-0.0 c.all-test.true c.all.invariant.none
    (subst (λ member. IsNameError (flat_map (test_offences_of c.args.self.now c.args.visible.now.scope) (tests member)) c.in_err-add_members-in-And.field-0.0) c.member-item.is c.in_err-add_members-in-And.ensures.err)))

pub returns-after-all-clause-ok : goal.returns-after-all-clause-ok
returns-after-all-clause-ok t c =
    checked_at c.args.self.now c.args.visible.now.scope (of_and c.in-And.is c.as_slice-member-items.ensures)
    (checked_of_equal refl refl refl (λ _. ap (flat_map (members_by c.args.self.now c.args.visible.now.scope)) c.as_slice-member-items.ensures ∙ sym (ap (members_by c.args.self.now c.args.visible.now.scope) c.in-And.is ∙ members_and c.args.self.now c.args.visible.now.scope c.in-And.members))
    (checked_all c.args.self.now c.args.visible.now.scope c.as_slice-member-items.result.now (flat_map (members_by c.args.self.now c.args.visible.now.scope)) c.all-test.false c.all.invariant))

pub returns-in-Test-clause-ok : goal.returns-in-Test-clause-ok
returns-in-Test-clause-ok t c =
    if_ok_map _ _ c.add_test_members.result c.add_test_members.ensures.ok (λ _ l.
    one_test c.args.self.now c.args.visible.now.scope c.in-Test.test c.in-Test.is (sym (ap (members_by c.args.self.now c.args.visible.now.scope) c.in-Test.is ∙ members_test c.args.self.now c.args.visible.now.scope c.in-Test.test)) l)

pub returns-in-Or-clause-ok : goal.returns-in-Or-clause-ok
returns-in-Or-clause-ok t c =
    if_ok_map _ _ c.add_value.result c.add_value.ensures.ok (λ _ l. checked_of_equal refl refl refl (λ _. one_member c.args.self.now c.args.visible.now.scope c.in-Or.is) l)
