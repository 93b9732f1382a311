use Rattle.std.proofs.Common.{◌≡◌, refl}
use Rattle.safebound_c.proofs.StatusFacts.{buffer_is_unchanged}
use Rattle.safebound_c.proofs.planning.safebound_tree_memory.Goals as goal

pub returns : goal.returns
returns c = record {
  exact = record {
    answer = c.tree_memory.result;
    told = c.answer_status.ensures.status;
    detail = c.answer_status.ensures.detail;
    done = c.tree_memory.ensures.done;
    refused = c.tree_memory.ensures.refused;
    kept = buffer_is_unchanged (c.args.joins.now ≡ c.args.joins.now) c.tree_memory.result refl;
  };
}
