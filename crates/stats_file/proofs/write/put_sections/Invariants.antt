use Rattle.std.proofs.Common.{Ok, take}
use Rattle.std.specs.List.{concat, flat_map}
use Rattle.base_io.specs.Devices.{growth}
use Rattle.base_io.specs.Writes.{WroteBuffered}
use Rattle.stats_file.specs.FileText.{section_lines}
use Rattle.stats_file.specs.declared.types.TableStats.{TableStats}
use Rattle.stats_file.proofs.write.put_sections.Given as goal

abbrev pub invariant-sections : goal.invariant-sections
invariant-sections g l =
    WroteBuffered (growth g.N.Sink.taken g.N.Sink.faults l.initial.sink l.sink) l.initial.buffer l.buffer (flat_map (λ (section : TableStats). concat (section_lines l.schema section)) (take l.section-index l.sections)) (Ok tt)
