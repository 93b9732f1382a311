use Rattle.std.proofs.Common.{◌+◌, ◌-◌, arith}
use Rattle.std.proofs.lemmas.Slice.{drop-put_mid}
use Rattle.slice_devices.proofs.slice_sink.SliceSinkSink.write.Goals as goal

pub returns-clause-kept : goal.returns-clause-kept
returns-clause-kept c =
    let s = c.args.self.now in
    let end = s.used + c.min-count.result in
    drop-put_mid s.used (end - s.used) s.room.now c.copy_from_slice.new.self end (omega arith) (omega (arith, s.within)) (omega (arith, c.copy_from_slice.auto.self))
