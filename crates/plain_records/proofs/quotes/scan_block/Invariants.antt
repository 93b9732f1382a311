use Rattle.std.proofs.Common.{◌≡◌, take}
use Rattle.plain_records.specs.Plain.{has_quote}
use Rattle.plain_records.proofs.quotes.scan_block.Given as goal

abbrev pub invariant-bytes : goal.invariant-bytes
invariant-bytes l = l.quote ≡ has_quote (take l.byte-index l.block)
