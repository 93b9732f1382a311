use Rattle.safebound_c.proofs.planning.safebound_tree.Goals as goal

pub returns : goal.returns
returns c = record {
  exact = record {
    answer = c.tree.result;
    told = c.answer_status.ensures.status;
    detail = c.answer_status.ensures.detail;
    done = c.tree.ensures.done;
    refused = c.tree.ensures.refused;
    kept = c.tree.ensures.kept;
  };
}
