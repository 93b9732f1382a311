use Rattle.std.proofs.Common.{◌≡◌, max, arith}
use Rattle.query_grammar.proofs.CountingOn.{count_start, larger_is, open_count_within_index, count_on, count_end}
use Rattle.query_grammar.proofs.depth.nesting.Goals as goal

pub loop-token-init : goal.loop-token-init
loop-token-init c = record { few = omega arith; counted = omega arith; so_far = count_start c.args.tokens.now }

pub loop-token-preserved : goal.loop-token-preserved
loop-token-preserved c =
    let larger : c.max-greatest.result ≡ max c.loop-token.greatest c.open_behind-open.result = larger_is _ _ _ c.max-greatest.ensures in
    let held = c.loop-token.invariant in
    record {
      few = open_count_within_index c.args.tokens.now _ _ _ _ c.open_behind-open.ensures held.few;
      counted = omega arith;
      so_far = count_on c.args.tokens.now _ _ _ _ _ _ _ c.loop-token-test.true c.open_behind-open.ensures larger held.counted held.so_far;
    }

pub returns : goal.returns
returns c = count_end c.args.tokens.now _ _ _ c.loop-token-test.false c.loop-token.invariant.counted c.loop-token.invariant.so_far
