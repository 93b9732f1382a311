use Rattle.std.proofs.Common.{arith}
use Rattle.stats_reading.proofs.PlaceFacts.{not_next_value}
use Rattle.stats_reading.proofs.takes.take_frequent.Goals as goal

pub returns-then-not-frequent_follows : goal.returns-then-not-frequent_follows
returns-then-not-frequent_follows c = λ x may e.
    let s = c.args.draft.now in
    not_next_value s (omega arith) c.args.value.now c.args.word.now c.in_ok-value.field-0 c.in-Some.value c.in_ok-list.field-0 c.in-Some-2.list
    c.in_ok-value.ensures c.in-Some.is c.in_ok-list.ensures c.in-Some-2.is (λ follows. let told = c.frequent_follows.ensures.1 follows in cc) x may e
