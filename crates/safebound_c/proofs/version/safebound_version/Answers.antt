use Rattle.safebound_c.proofs.version.safebound_version.Goals as goal

pub returns : goal.returns
returns c = record {
  exact = record {
    answer = c.version.result;
    told = c.answer_status.ensures.status;
    detail = c.answer_status.ensures.detail;
    done = c.version.ensures.done;
    refused = c.version.ensures.refused;
    kept = c.version.ensures.kept;
  };
}
