use Rattle.bound_fold.specs.BoundMaps.{same_pair}
use Rattle.bound_fold.proofs.MapInsertions.{put_or_failed, lists_after, others_stay}
use Rattle.bound_fold.proofs.lists.EntryLists.add.Goals as goal

pub invariant_of-self : goal.invariant_of-self
invariant_of-self c = record {
  bounds = c.args.self.now.bounds;
  sums = lists_after c.args.self.now.rows c.args.self.now.lists c.insert.new.self c.args.entry c.args.column c.args.list c.args.self.now.sums c.pieces.ensures.list_falls c.requires.total
      (put_or_failed same_pair c.args.self.now.lists c.insert.new.self (c.args.entry, c.args.column) c.args.list c.insert.result c.insert.ensures.updates c.insert.ensures.err);
}

pub returns-clause-others : goal.returns-clause-others
returns-clause-others c =
    others_stay c.args.self.now.lists c.insert.new.self c.args.entry c.args.column c.args.list
    (put_or_failed same_pair c.args.self.now.lists c.insert.new.self (c.args.entry, c.args.column) c.args.list c.insert.result c.insert.ensures.updates c.insert.ensures.err)
