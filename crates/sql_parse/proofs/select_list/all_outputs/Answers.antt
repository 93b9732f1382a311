use Rattle.std.proofs.Common.{◌<◌, length, arith}
use Rattle.query_names.specs.Binding.{from_of}
use Rattle.sql_parse.proofs.OutFacts.{gathered_more, one_more_before, outs_before}
use Rattle.sql_parse.proofs.select_list.all_outputs.Goals as goal

pub all-preserved : goal.all-preserved
all-preserved c =
    let below : c.all.number < length (from_of c.args.binder.now) = omega arith in
    gathered_more c.args.binder.now (outs_before c.args.binder.now c.all.number) _ (one_more_before c.args.binder.now c.index-as_slice-number.result c.as_slice.ensures below)
    c.all.invariant c.in_ok-add_entry.ensures.count c.in_ok-add_entry.ensures.outs
