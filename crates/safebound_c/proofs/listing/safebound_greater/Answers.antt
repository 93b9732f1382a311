use Rattle.safebound_c.proofs.StatusFacts.{done_from_status}
use Rattle.safebound_c.proofs.listing.safebound_greater.Goals as goal

pub returns-clause-exact : goal.returns-clause-exact
returns-clause-exact c = record {
  answer = c.greater_of.result;
  told = c.answer_status.ensures.status;
  detail = c.answer_status.ensures.detail;
  done = c.greater_of.ensures.done;
  refused = c.greater_of.ensures.refused;
  kept = c.greater_of.ensures.kept;
}

pub returns-clause-valid : goal.returns-clause-valid
returns-clause-valid c = λ zero. done_from_status _ c.greater_of.result c.answer_status.result c.answer_status.ensures.status zero c.greater_of.ensures.valid
