use Rattle.std.proofs.Common.{◌≡◌, ◌≤◌, length, ap, subst, sym, ◌∙◌}
use Rattle.std.specs.Prelude.{IfOk, IfErr}
use Rattle.std.specs.List.{flat_map}
use Rattle.limits.specs.Profile.{most_outputs}
use Rattle.query_names.specs.Answers.{IsNameError}
use Rattle.query_names.specs.Binding.{from_of, out_offences_of, outs_offences_of}
use Rattle.query_names.proofs.CheckFacts.{outs_listed}
use Rattle.sql_parse.specs.Outputs.{outs_by, selected_by}
use Rattle.sql_parse.proofs.OutFacts.{selected_listed}
use Rattle.sql_parse.proofs.select_list.select.Goals as goal

pub returns-in-Listed-clause-outs : goal.returns-in-Listed-clause-outs
returns-in-Listed-clause-outs c =
    subst (λ l. IfOk c.listed.result (λ found. length (from_of c.args.binder.now) ≤ 12 → found.count ≤ most_outputs → found.outs ≡ l))
    (ap (flat_map (outs_by c.args.binder.now)) c.as_slice.ensures
    ∙ sym (ap (selected_by c.args.binder.now) c.in-Listed.is ∙ selected_listed c.args.binder.now c.in-Listed.list))
    c.listed.ensures.outs

pub returns-in-Listed-clause-err : goal.returns-in-Listed-clause-err
returns-in-Listed-clause-err c =
    subst (λ l. IfErr c.listed.result (IsNameError l))
    (ap (flat_map (out_offences_of c.args.binder.now c.args.visible.now.scope)) c.as_slice.ensures
    ∙ sym (ap (outs_offences_of c.args.binder.now c.args.visible.now.scope) c.in-Listed.is ∙ outs_listed c.args.binder.now c.args.visible.now.scope c.in-Listed.list))
    c.listed.ensures.err
