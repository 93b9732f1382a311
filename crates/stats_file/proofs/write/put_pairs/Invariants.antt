use Rattle.std.proofs.Common.{Ok, take}
use Rattle.std.specs.List.{concat, flat_map}
use Rattle.base_io.specs.Devices.{growth}
use Rattle.base_io.specs.Writes.{WroteBuffered}
use Rattle.stats_file.specs.FileText.{pair_lines}
use Rattle.stats_file.specs.declared.types.PairStats.{PairStats}
use Rattle.stats_file.proofs.write.put_pairs.Given as goal

abbrev pub invariant-pairs : goal.invariant-pairs
invariant-pairs g l =
    WroteBuffered (growth g.N.Sink.taken g.N.Sink.faults l.initial.sink l.sink) l.initial.buffer l.buffer (flat_map (λ (pair : PairStats). concat (pair_lines l.table pair)) (take l.pair-index l.pairs)) (Ok tt)
