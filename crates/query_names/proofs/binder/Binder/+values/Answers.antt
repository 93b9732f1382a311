use Rattle.std.proofs.Common.{All, rules, [], ◌∷◌, ◌++◌, sym, subst, refl, ap, ◌∙◌}
use Rattle.std.proofs.lemmas.Bool.{false≢true}
use Rattle.std.proofs.lemmas.Result.{err_from_is_err_and}
use Rattle.query_types.specs.declared.types.Cond.TheVariants as cond
use Rattle.std.specs.List.{flat_map}
use Rattle.sql_tokens.specs.Words.{IsLexemeOf}
use Rattle.query_names.specs.Scopes.{tests}
use Rattle.query_names.specs.Answers.{IsNameError}
use Rattle.query_names.specs.Binding.{test_offences_of, value_by}
use Rattle.query_grammar.specs.Lexemes.{IsCondWith}
use Rattle.query_grammar.specs.declared.tree.CondNode.TheViews.{the_lemmas}
use Rattle.query_names.proofs.Meanings.{tokens_of_and, tokens_of_or, tokens_of_not, tokens_of_test, only_part_is_or, if_ok_map, value_test}
use Rattle.query_names.proofs.CheckSteps.{wrong_in}
use Rattle.query_names.proofs.CondFacts.{of_and, of_or, wrong_at, one_test, and_checked, or_checked, not_checked, not_empty}
use Rattle.query_names.proofs.binder.Binder.+values.Goals as goal
use Rattle.query_names.proofs.binder.Binder.+values.Goals.{add_value-in-Some+in_ok-new-in-Not+in_ok-push-in-Not, add_value-in_default}

pub add_value-values-requires : goal.add_value-values-requires
add_value-values-requires t c =
    let told : All (IsCondWith (IsLexemeOf c.args.self.now.text.now)) c.as_slice.result.now =
    tokens_of_and (IsLexemeOf c.args.self.now.text.now) c.args.condition.now c.in-And.members c.as_slice.result.now c.in-And.is c.as_slice.ensures c.requires.tokens in
    search (rules, the_lemmas, told)

pub add_value-values-requires-in-Or : goal.add_value-values-requires-in-Or
add_value-values-requires-in-Or t c =
    let told : All (IsCondWith (IsLexemeOf c.args.self.now.text.now)) c.as_slice-in-Or.result.now =
    tokens_of_or (IsLexemeOf c.args.self.now.text.now) c.args.condition.now c.in-Or.members c.as_slice-in-Or.result.now c.in-Or.is c.as_slice-in-Or.ensures c.requires.tokens in
    search (rules, the_lemmas, told)

pub add_value-add_value-requires : goal.add_value-add_value-requires
add_value-add_value-requires t c =
    let told : IsCondWith (IsLexemeOf c.args.self.now.text.now) c.get.result.now =
    tokens_of_not (IsLexemeOf c.args.self.now.text.now) c.args.condition.now c.in-Not.member c.get.result.now c.in-Not.is c.get.ensures c.requires.tokens in
    search (rules, the_lemmas, told)

pub add_value-add_test-requires-clause-tokens : goal.add_value-add_test-requires-clause-tokens
add_value-add_test-requires-clause-tokens t c =
    tokens_of_test (IsLexemeOf c.args.self.now.text.now) c.args.condition.now c.in-Test.test c.in-Test.is c.requires.tokens

pub values-returns-in_err-add_value-clause-err : goal.values-returns-in_err-add_value-clause-err
values-returns-in_err-add_value-clause-err t c =
    let p = err_from_is_err_and c.from_residual.result c.from_residual.ensures.1 in
    rw (p.1, p.2) (wrong_in c.args.self.now c.args.visible.now.scope c.args.conditions.now _ c.in_err-add_value.field-0.0 c.all-test.true c.all.invariant.none
    (subst (λ condition. IsNameError (flat_map (test_offences_of c.args.self.now c.args.visible.now.scope) (tests condition)) c.in_err-add_value.field-0.0) c.condition-item.is c.in_err-add_value.ensures.err))

pub add_value-returns-in_err-parts-in-And-clause-err : goal.add_value-returns-in_err-parts-in-And-clause-err
add_value-returns-in_err-parts-in-And-clause-err t c =
    let p = err_from_is_err_and c.from_residual.result c.from_residual.ensures.1 in
    rw (p.1, p.2) (wrong_at c.args.self.now c.args.visible.now.scope c.in_err-parts-in-And.field-0.0 (of_and c.in-And.is c.as_slice.ensures) c.in_err-parts-in-And.ensures.err)

pub add_value-returns-in_err-parts-in-Or-clause-err : goal.add_value-returns-in_err-parts-in-Or-clause-err
add_value-returns-in_err-parts-in-Or-clause-err t c =
    let p = err_from_is_err_and c.from_residual-in_err-parts-in-Or.result c.from_residual-in_err-parts-in-Or.ensures.1 in
    rw (p.1, p.2) (wrong_at c.args.self.now c.args.visible.now.scope c.in_err-parts-in-Or.field-0.0 (of_or c.in-Or.is c.as_slice-in-Or.ensures) c.in_err-parts-in-Or.ensures.err)

pub add_value-returns-in_ok-push-in-And-clause-ok : goal.add_value-returns-in_ok-push-in-And-clause-ok
add_value-returns-in_ok-push-in-And-clause-ok t c =
    and_checked c.args.self.now c.args.visible.now.scope c.in-And.members c.in-And.is c.as_slice.ensures c.in_ok-parts-in-And.ensures.ok (λ _ _. c.in_ok-push-in-And.ensures.ok)

pub add_value-returns-else-builds-clause-ok : goal.add_value-returns-else-builds-clause-ok
add_value-returns-else-builds-clause-ok t c =
    and_checked c.args.self.now c.args.visible.now.scope c.in-And.members c.in-And.is c.as_slice.ensures c.in_ok-parts-in-And.ensures.ok
    (λ few none. absurd (false≢true (sym c.if-builds.false ∙ c.builds.ensures.within few none)))

pub add_value-returns-in_ok-push-in-Or-clause-ok : goal.add_value-returns-in_ok-push-in-Or-clause-ok
add_value-returns-in_ok-push-in-Or-clause-ok t c =
    or_checked c.args.self.now c.args.visible.now.scope c.in-Or.members c.in-Or.is c.as_slice-in-Or.ensures c.in_ok-parts-in-Or.ensures.ok (λ _ _. c.in_ok-push-in-Or.ensures.ok)

pub add_value-returns-else-builds-2-clause-ok : goal.add_value-returns-else-builds-2-clause-ok
add_value-returns-else-builds-2-clause-ok t c =
    or_checked c.args.self.now c.args.visible.now.scope c.in-Or.members c.in-Or.is c.as_slice-in-Or.ensures c.in_ok-parts-in-Or.ensures.ok
    (λ few none. absurd (false≢true (sym c.if-builds-2.false ∙ c.builds-in-Or.ensures.within few none)))

pub add_value-returns-after-pop-clause-ok : goal.add_value-returns-after-pop-clause-ok
add_value-returns-after-pop-clause-ok t c =
    elim c.match-pop.branch [
      | add_value-in-Some+in_ok-new-in-Not+in_ok-push-in-Not w ↦
          not_checked c.args.self.now c.args.visible.now.scope c.in-Not.member c.in-Not.is c.get.ensures c.new-parts.ensures c.in_ok-add_value-in-Not.ensures.ok (λ one is.
          w.found-is ∙ w.in_ok-push-in-Not.ensures.ok
          ∙ ap (λ part. c.args.found.now ++ cond.Not part ∷ []) (w.in_ok-new-in-Not.ensures ∙ only_part_is_or (one ∷ []) c.pop.new.self w.in-Some.part refl (sym is ∙ w.in-Some.ensures)))
      | add_value-in_default w ↦
          not_checked c.args.self.now c.args.visible.now.scope c.in-Not.member c.in-Not.is c.get.ensures c.new-parts.ensures c.in_ok-add_value-in-Not.ensures.ok
          (λ one is. absurd (not_empty one w.in_default.ensures.0 is))
    ]

pub add_value-returns-in-Test-clause-ok : goal.add_value-returns-in-Test-clause-ok
add_value-returns-in-Test-clause-ok t c =
    if_ok_map _ _ c.add_test.result c.add_test.ensures.ok (λ _ l.
    one_test c.args.self.now c.args.visible.now.scope c.in-Test.test c.in-Test.is
    (ap (λ v. v ∷ []) (sym (ap (value_by c.args.self.now c.args.visible.now.scope) c.in-Test.is ∙ value_test c.args.self.now c.args.visible.now.scope c.in-Test.test))) l)
