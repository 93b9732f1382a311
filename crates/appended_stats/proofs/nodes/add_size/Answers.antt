use Rattle.std.proofs.Common.{◌≡◌, ◌*◌, ◌/◌, ◌++◌, ◌^◌, map, ap, ◌∙◌, arith}
use Rattle.std.specs.List.{range_with_len, zip}
use Rattle.cond_stats.specs.Leaves.{in_node}
use Rattle.cond_stats.specs.Lists.{compressed_degrees, list_where}
use Rattle.column_stats.proofs.NodeLists.{one_more_node}
use Rattle.appended_stats.proofs.Walks.{fewer_keys_than}
use Rattle.appended_stats.proofs.nodes.add_size.Goals as goal

pub whole_list-requires : goal.whole_list-requires
whole_list-requires c = record {
  rows =
      fewer_keys_than (in_node c.args.size (c.args.size * c.loop-i.i)) c.args.leaves.now c.args.joined.now c.as_slice.result.now (2 ^ 32) c.requires.rows
      (c.as_slice.ensures.value ∙ c.in_ok-keys.ensures);
}

pub loop-i-preserved : goal.loop-i-preserved
loop-i-preserved c =
    one_more_node (λ i. list_where c.args.accuracy (λ leaf. in_node c.args.size (c.args.size * i) leaf) (zip c.args.leaves.now c.args.joined.now))
    c.args.nodes.now c.loop-i.nodes c.push.new.self c.loop-i.i c.in_ok-whole_list.field-0 c.loop-i.invariant
    (c.in_ok-whole_list.ensures.list ∙ ap (compressed_degrees c.args.accuracy) (c.as_slice.ensures.value ∙ c.in_ok-keys.ensures)) c.in_ok-push.ensures.ok

pub returns : goal.returns
returns c =
    let end : c.loop-i.i ≡ 32 / c.args.size = omega (arith, c.loop-i-test.false, c.loop-i.auto.i-end) in
    c.loop-i.invariant
    ∙ ap (λ n. c.args.nodes.now ++ map (λ i. list_where c.args.accuracy (λ leaf. in_node c.args.size (c.args.size * i) leaf) (zip c.args.leaves.now c.args.joined.now)) (range_with_len 0 n)) end
