use Rattle.safebound_c.proofs.StatusFacts.{done_from_status}
use Rattle.safebound_c.proofs.bounding.safebound_bounds_within.Goals as goal

pub returns-clause-exact : goal.returns-clause-exact
returns-clause-exact c = record {
  answer = c.bounds_within.result;
  told = c.answer_status.ensures.status;
  detail = c.answer_status.ensures.detail;
  done = c.bounds_within.ensures.done;
  refused = c.bounds_within.ensures.refused;
  kept = c.bounds_within.ensures.kept;
}

pub returns-clause-valid : goal.returns-clause-valid
returns-clause-valid c = λ zero. done_from_status _ c.bounds_within.result c.answer_status.result c.answer_status.ensures.status zero c.bounds_within.ensures.valid

pub returns-clause-never_under : goal.returns-clause-never_under
returns-clause-never_under c = λ zero. done_from_status _ c.bounds_within.result c.answer_status.result c.answer_status.ensures.status zero c.bounds_within.ensures.never_under

pub returns-clause-within : goal.returns-clause-within
returns-clause-within c = λ zero. done_from_status _ c.bounds_within.result c.answer_status.result c.answer_status.ensures.status zero c.bounds_within.ensures.within
