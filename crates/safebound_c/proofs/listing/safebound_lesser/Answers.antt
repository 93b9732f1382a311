use Rattle.safebound_c.proofs.StatusFacts.{done_from_status}
use Rattle.safebound_c.proofs.listing.safebound_lesser.Goals as goal

pub returns-clause-exact : goal.returns-clause-exact
returns-clause-exact c = record {
  answer = c.lesser_of.result;
  told = c.answer_status.ensures.status;
  detail = c.answer_status.ensures.detail;
  done = c.lesser_of.ensures.done;
  refused = c.lesser_of.ensures.refused;
  kept = c.lesser_of.ensures.kept;
}

pub returns-clause-valid : goal.returns-clause-valid
returns-clause-valid c = λ zero. done_from_status _ c.lesser_of.result c.answer_status.result c.answer_status.ensures.status zero c.lesser_of.ensures.valid
