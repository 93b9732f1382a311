use Rattle.safebound_c.proofs.StatusFacts.{done_from_status}
use Rattle.safebound_c.proofs.listing.safebound_cut.Goals as goal

pub returns-clause-exact : goal.returns-clause-exact
returns-clause-exact c = record {
  answer = c.cut.result;
  told = c.answer_status.ensures.status;
  detail = c.answer_status.ensures.detail;
  done = c.cut.ensures.done;
  refused = c.cut.ensures.refused;
  kept = c.cut.ensures.kept;
}

pub returns-clause-valid : goal.returns-clause-valid
returns-clause-valid c = λ zero. done_from_status _ c.cut.result c.answer_status.result c.answer_status.ensures.status zero c.cut.ensures.valid
