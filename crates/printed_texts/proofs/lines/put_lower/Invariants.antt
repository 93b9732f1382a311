use Rattle.std.proofs.Common.{[], ◌∷◌, Ok, take}
use Rattle.std.specs.Char.{to_ascii_lowercase}
use Rattle.std.specs.List.{flat_map}
use Rattle.base_io.specs.Devices.{growth}
use Rattle.base_io.specs.Writes.{WroteBuffered}
use Rattle.printed_texts.proofs.lines.put_lower.Given as goal

abbrev pub invariant-bytes : goal.invariant-bytes
invariant-bytes g l =
    WroteBuffered (growth g.N.Sink.taken g.N.Sink.faults l.initial.sink l.sink) l.initial.buffer l.buffer (flat_map (λ b. to_ascii_lowercase b ∷ []) (take l.byte-index l.name)) (Ok tt)
