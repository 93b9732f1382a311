use Rattle.std.proofs.Common.{◌≡◌}
use Rattle.std.specs.Slice.Iter.{chunks_rest, chunks_size}
use Rattle.plain_records.specs.Plain.{has_quote}
use Rattle.plain_records.proofs.quotes.scan.Given as goal

abbrev pub invariant-loop-block : goal.invariant-loop-block
invariant-loop-block l =
    goal.iterator-loop-block.can_next l.block-iterator
    × goal.iterator-loop-block.is_finite l.block-iterator
    × (chunks_size l.block-iterator ≡ 128)
    × (has_quote (chunks_rest l.block-iterator) ≡ has_quote l.bytes)
