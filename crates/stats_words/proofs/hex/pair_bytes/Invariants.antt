use Rattle.std.proofs.Common.{◌≡◌, ◌*◌, take}
use Rattle.std.specs.List.{flat_map}
use Rattle.stats_file.specs.Lines.{hex_byte}
use Rattle.stats_words.proofs.hex.pair_bytes.Given as goal

abbrev pub invariant-loop-i : goal.invariant-loop-i
invariant-loop-i l = flat_map hex_byte l.bytes.items ≡ take (2 * l.i) l.digits
