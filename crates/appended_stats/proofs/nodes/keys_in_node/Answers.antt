use Rattle.std.proofs.Common.{◌/◌, get_or, refl}
use Rattle.std.proofs.lemmas.Bool.{eq-eqb, ne_eqb}
use Rattle.cond_stats.specs.Leaves.{in_node}
use Rattle.appended_stats.proofs.Walks.{all_keys, no_key_more, one_key_more}
use Rattle.appended_stats.proofs.nodes.keys_in_node.Goals as goal
use Rattle.appended_stats.proofs.nodes.keys_in_node.Goals.{then-other-size+in_ok-push, else-other-size}

pub loop-i-preserved : goal.loop-i-preserved
loop-i-preserved c = elim c.if-other-size.branch [
  | then-other-size+in_ok-push w ↦ rw w.keys-is (one_key_more (in_node c.args.size c.args.leaf) c.args.leaves.now c.args.joined.now c.loop-i.keys.items w.push.new.self.items c.loop-i.i
      (get_or c.args.joined.now c.loop-i.i 0) c.loop-i-test.true c.requires.joined c.loop-i.invariant (eq-eqb (get_or c.args.leaves.now c.loop-i.i 0 / c.args.size) (c.args.leaf / c.args.size) w.if-other-size.true) refl w.in_ok-push.ensures.items)
  | else-other-size w ↦ rw w.keys-is (no_key_more (in_node c.args.size c.args.leaf) c.args.leaves.now c.args.joined.now c.loop-i.keys.items c.loop-i.keys.items c.loop-i.i
      c.loop-i-test.true c.requires.joined c.loop-i.invariant (ne_eqb (get_or c.args.leaves.now c.loop-i.i 0 / c.args.size) (c.args.leaf / c.args.size) w.if-other-size.false) refl)
]

pub returns : goal.returns
returns c = all_keys (in_node c.args.size c.args.leaf) c.args.leaves.now c.args.joined.now c.loop-i.keys.items c.loop-i.i c.loop-i-test.false c.requires.joined c.loop-i.invariant
