use Rattle.std.proofs.Common.{◌≡◌, ◌-◌, length, arith}
use Rattle.order_search.proofs.ReadingOff.{read_all, read_more, read_none}
use Rattle.order_search.proofs.way.first_lightest.Goals as goal

pub loop-left-init : goal.loop-left-init
loop-left-init c = let whole : c.from_bits-left.result ≡ length c.args.bounds.now - 1 = c.from_bits-left.ensures in rw (c.new-order.ensures.items, whole) (read_none c.args.most c.args.bounds.now c.args.table.now (length c.args.bounds.now - 1) c.requires.light)

pub loop-left-preserved : goal.loop-left-preserved
loop-left-preserved c =
    read_more c.args.most c.args.bounds.now c.args.table.now c.loop-left.order.items c.push.new.self.items (length c.args.bounds.now - 1) c.loop-left.left c.without-left.result
    (length c.args.bounds.now) c.next_entry-entry.result (omega arith) c.requires.table c.loop-left.invariant c.next_entry-entry.ensures.begins c.next_entry-entry.ensures.first
    c.in_ok-push.ensures.items (c.without-left.ensures.number c.next_entry-entry.ensures.begins.is_left)

pub returns : goal.returns
returns c =
    read_all c.args.most c.args.bounds.now c.args.table.now c.loop-left.order.items (length c.args.bounds.now - 1) c.loop-left.left (omega arith) c.loop-left.invariant
