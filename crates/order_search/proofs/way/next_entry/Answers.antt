use Rattle.std.proofs.Common.{◌-◌, length, arith}
use Rattle.std.proofs.lemmas.Bool.{iff_false}
use Rattle.order_search.proofs.ReadingOff.{none_begins_before_next, none_begins_before_0}
use Rattle.order_search.proofs.way.next_entry.Goals as goal

pub entries-init : goal.entries-init
entries-init c = record {
  within = none_begins_before_0 c.args.weight c.args.bounds.now c.args.table.now c.args.count (length c.args.bounds.now - 1) c.args.left (length c.args.bounds.now)
      c.requires.not_empty c.requires.left (omega arith) c.requires.table;
  none = λ earlier h is. omega arith;
}

pub entries-preserved : goal.entries-preserved
entries-preserved c =
    none_begins_before_next c.args.weight c.args.bounds.now c.args.table.now c.args.count (length c.args.bounds.now - 1) c.args.left (length c.args.bounds.now) c.entries.entry
    c.requires.not_empty c.requires.left (omega arith) c.requires.table c.entries.invariant (iff_false c.begins_lightest.ensures c.entries-test.true)
