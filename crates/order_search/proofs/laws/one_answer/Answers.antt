use Rattle.order_search.proofs.OneBest.{accepted, refused}
use Rattle.order_search.proofs.laws.one_answer.Goals as goal

pub returns-clause-accepted : goal.returns-clause-accepted
returns-clause-accepted c bounds n budget best e within_limit is_best within cause = accepted bounds n budget best e within_limit is_best within cause

pub returns-clause-refused : goal.returns-clause-refused
returns-clause-refused c bounds n budget e f p q = refused bounds n budget e f p q
