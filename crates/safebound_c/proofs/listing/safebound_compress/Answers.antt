use Rattle.safebound_c.proofs.StatusFacts.{done_from_status}
use Rattle.safebound_c.proofs.listing.safebound_compress.Goals as goal

pub returns-clause-exact : goal.returns-clause-exact
returns-clause-exact c = record {
  answer = c.compress.result;
  told = c.answer_status.ensures.status;
  detail = c.answer_status.ensures.detail;
  done = c.compress.ensures.done;
  refused = c.compress.ensures.refused;
  kept = c.compress.ensures.kept;
}

pub returns-clause-valid : goal.returns-clause-valid
returns-clause-valid c = λ zero. done_from_status _ c.compress.result c.answer_status.result c.answer_status.ensures.status zero c.compress.ensures.valid
