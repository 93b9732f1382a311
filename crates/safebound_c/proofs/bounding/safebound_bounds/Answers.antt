use Rattle.safebound_c.proofs.StatusFacts.{done_from_status}
use Rattle.safebound_c.proofs.bounding.safebound_bounds.Goals as goal

pub returns-clause-exact : goal.returns-clause-exact
returns-clause-exact c = record {
  answer = c.bounds.result;
  told = c.answer_status.ensures.status;
  detail = c.answer_status.ensures.detail;
  done = c.bounds.ensures.done;
  refused = c.bounds.ensures.refused;
  kept = c.bounds.ensures.kept;
}

pub returns-clause-valid : goal.returns-clause-valid
returns-clause-valid c = λ zero. done_from_status _ c.bounds.result c.answer_status.result c.answer_status.ensures.status zero c.bounds.ensures.valid

pub returns-clause-never_under : goal.returns-clause-never_under
returns-clause-never_under c = λ zero. done_from_status _ c.bounds.result c.answer_status.result c.answer_status.ensures.status zero c.bounds.ensures.never_under
