-- If no kind is wrong, the refusal is the first exceeded limit. If no limit is exceeded, all outputs were built.
use Rattle.std.proofs.Common.{◌≡◌, ◌≤◌, ◌++◌, None, length, ap, sym, ◌∙◌, arith}
use Rattle.limits.specs.Profile.{most_outputs}
use Rattle.query_names.specs.Answers.{first}
use Rattle.query_names.specs.Binding.{from_of}
use Rattle.sql_parse.specs.AfterFrom.{conjuncts_by}
use Rattle.sql_parse.specs.Refusing.{late_refusals}
use Rattle.sql_parse.proofs.BindFacts.{late_refused, late_first, none_refused, entries_within_limit, outputs_within_limit, no_long_list}
use Rattle.sql_parse.proofs.query_limits.after_from.Goals as goal

pub returns-in-Some-first_limit-clause-err : goal.returns-in-Some-first_limit-clause-err
returns-in-Some-first_limit-clause-err c =
    late_refused c.args.binder.now c.args.query.now c.in-Some-first_limit.wrong c.in_ok-found.ensures.names
    (sym c.in-Some-first_limit.is ∙ late_first c.args.binder.now c.args.query.now c.check_clauses.new.held.list c.check_clauses.new.conjuncts
    (sym c.in_default.is ∙ c.in_ok-found.ensures.kind) c.in_ok-found.ensures.list
    (λ few none. c.in_ok-found.ensures.members few none ∙ ap (λ l. l ++ conjuncts_by c.args.binder.now c.args.query.now) c.new-conjuncts.ensures)
    c.in_ok-found.ensures.count c.len-entries.ensures c.len.ensures c.first_limit.ensures)

pub returns : goal.returns
returns c =
    let members : length (from_of c.args.binder.now) ≤ 12 → c.check_clauses.new.held.list ≡ None → c.check_clauses.new.conjuncts ≡ conjuncts_by c.args.binder.now c.args.query.now =
    λ few none. c.in_ok-found.ensures.members few none ∙ ap (λ l. l ++ conjuncts_by c.args.binder.now c.args.query.now) c.new-conjuncts.ensures in
    let late : None ≡ first (late_refusals c.args.binder.now c.args.query.now) =
    sym c.in-None.is ∙ late_first c.args.binder.now c.args.query.now c.check_clauses.new.held.list c.check_clauses.new.conjuncts
    (sym c.in_default.is ∙ c.in_ok-found.ensures.kind) c.in_ok-found.ensures.list members
    c.in_ok-found.ensures.count c.len-entries.ensures c.len.ensures c.first_limit.ensures in
    let few : length (from_of c.args.binder.now) ≤ 12 = entries_within_limit c.args.binder.now c.args.query.now late in
    let within : c.in_ok-found.found.count ≤ most_outputs = omega (arith, outputs_within_limit c.args.binder.now c.args.query.now late, c.in_ok-found.ensures.count) in
    record {
      none = none_refused c.args.binder.now c.args.query.now c.in_ok-found.ensures.names late;
      conjuncts = members few (c.in_ok-found.ensures.list ∙ no_long_list c.args.binder.now c.args.query.now late);
      outputs = c.in_ok-found.ensures.outs few within;
      err = tt;
    }
