use Rattle.std.proofs.Common.{◌≡◌, ◌≤◌, ◌-◌, length, take}
use Rattle.base_io.specs.Sinks.{appended}
use Rattle.base_io.proofs.write.write_all.Given as goal

abbrev pub invariant-rest : goal.invariant-rest
invariant-rest g l = record {
  within : l.done ≤ length l.bytes;
  later : g.N.Sink.faults l.initial.sink ≤ g.N.Sink.faults l.sink;
  took : g.N.Sink.taken l.sink ≡ appended (g.N.Sink.taken l.initial.sink) (take l.done l.bytes);
}

abbrev pub decreases-rest : goal.decreases-rest
decreases-rest g l = length l.initial.bytes - l.done
