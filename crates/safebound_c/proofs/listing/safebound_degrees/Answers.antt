use Rattle.safebound_c.proofs.StatusFacts.{done_from_status}
use Rattle.safebound_c.proofs.listing.safebound_degrees.Goals as goal

pub returns-clause-exact : goal.returns-clause-exact
returns-clause-exact c = record {
  answer = c.degrees.result;
  told = c.answer_status.ensures.status;
  detail = c.answer_status.ensures.detail;
  done = c.degrees.ensures.done;
  refused = c.degrees.ensures.refused;
  kept = c.degrees.ensures.kept;
}

pub returns-clause-few : goal.returns-clause-few
returns-clause-few c = λ zero. done_from_status _ c.degrees.result c.answer_status.result c.answer_status.ensures.status zero c.degrees.ensures.few
