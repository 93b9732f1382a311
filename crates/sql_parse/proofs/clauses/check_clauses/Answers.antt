use Rattle.sql_parse.proofs.AfterFromFacts.{members_added}
use Rattle.sql_parse.proofs.clauses.check_clauses.Goals as goal

pub returns-clause-members : goal.returns-clause-members
returns-clause-members c = λ few none.
    members_added c.args.binder.now c.args.query.now c.args.conjuncts.now c.as_slice.ensures (c.in_ok-bind_parts.ensures.members few (c.in_ok-bind_filter.ensures.list_stays_noted none)) (c.in_ok-bind_filter.ensures.members few none)
