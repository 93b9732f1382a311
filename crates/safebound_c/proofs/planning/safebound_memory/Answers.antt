use Rattle.std.proofs.Common.{◌≡◌, refl}
use Rattle.safebound_c.proofs.StatusFacts.{buffer_is_unchanged}
use Rattle.safebound_c.proofs.planning.safebound_memory.Goals as goal

pub returns : goal.returns
returns c = record {
  exact = record {
    answer = c.order_memory.result;
    told = c.answer_status.ensures.status;
    detail = c.answer_status.ensures.detail;
    done = c.order_memory.ensures.done;
    refused = c.order_memory.ensures.refused;
    kept = buffer_is_unchanged (c.args.levels.now ≡ c.args.levels.now) c.order_memory.result refl;
  };
}
