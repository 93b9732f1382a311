use Rattle.std.proofs.Common.{arith}
use Rattle.std.specs.Prelude.{nat_eq}
use Rattle.bound_fold.proofs.MapInsertions.{put_or_failed, bounds_after, rows_after}
use Rattle.bound_fold.proofs.lists.EntryLists.set_rows.Goals as goal

pub invariant_of-self : goal.invariant_of-self
invariant_of-self c =
    let puts = put_or_failed nat_eq c.args.self.now.rows c.insert.new.self c.args.entry c.args.rows c.insert.result c.insert.ensures.updates c.insert.ensures.err in
    record {
      bounds = bounds_after c.args.self.now.rows c.insert.new.self c.args.entry c.args.rows c.args.self.now.bounds (omega arith) puts;
      sums = rows_after c.args.self.now.rows c.insert.new.self c.args.self.now.lists c.args.entry c.args.rows c.args.self.now.sums c.requires.no_list puts;
    }
