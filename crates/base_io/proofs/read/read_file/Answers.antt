use Rattle.std.proofs.Common.{arith, ◌≡◌, length, ◌++◌, take, ◌≤◌, ◌+◌, ap, sym, ◌∙◌}
use Rattle.std.proofs.lemmas.Grind.{common_steps}
use Rattle.base_io.proofs.FileFacts.{block_appended, first_bytes_after_read_since}
use Rattle.base_io.proofs.read.read_file.Goals as goal

pub rounds-preserved : goal.rounds-preserved
rounds-preserved g c =
    let place : c.len-at.result ≡ length c.rounds.items.items = grind (arith, common_steps) in
    let front : take c.len-at.result c.deref_mut.result.now ≡ c.rounds.items.items = grind (arith, common_steps) in
    let fits : c.in-Ok.count ≤ length c.read_at.new.into = c.in-Ok.ensures.read.0 in
    let within : c.len-at.result + c.in-Ok.count ≤ c.resize.new.self.len = grind (arith, common_steps) in
    let kept : c.truncate-in-Ok.new.self.items ≡ c.rounds.items.items ++ take c.in-Ok.count c.read_at.new.into
    = rw c.truncate-in-Ok.ensures.items (block_appended c.rounds.items.items _ _ _ _ _ _ _ place front fits within) in
    let taken : length (c.rounds.items.items ++ take c.in-Ok.count c.read_at.new.into) ≡ length c.rounds.items.items + c.in-Ok.count
    = grind (arith, common_steps) in
    record {
      rounds = grind (arith, common_steps);
      within = grind (arith, common_steps);
      later = grind (arith, common_steps);
      same = grind (arith, common_steps);
      misses = grind (arith, common_steps);
      first = λ none. absurd (omega (arith, taken, sym (ap length kept) ∙ none));
      front = rw kept (first_bytes_after_read_since _ _ _ _ _ _ _ c.rounds.invariant.same place c.in-Ok.ensures.read c.rounds.invariant.front);
    }
