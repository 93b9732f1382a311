use Rattle.bushy_plan.proofs.OneBest.{accepted, refused}
use Rattle.bushy_plan.proofs.laws.one_answer.Goals as goal

pub returns-clause-accepted : goal.returns-clause-accepted
returns-clause-accepted c bounds n budget best e few is_best within cause = accepted bounds n budget best e few is_best within cause

pub returns-clause-refused : goal.returns-clause-refused
returns-clause-refused c bounds n budget e f p q = refused bounds n budget e f p q
