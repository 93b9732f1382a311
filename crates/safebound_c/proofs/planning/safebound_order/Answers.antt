use Rattle.safebound_c.proofs.planning.safebound_order.Goals as goal

pub returns : goal.returns
returns c = record {
  exact = record {
    answer = c.order.result;
    told = c.answer_status.ensures.status;
    detail = c.answer_status.ensures.detail;
    done = c.order.ensures.done;
    refused = c.order.ensures.refused;
    kept = c.order.ensures.kept;
  };
}
