use Rattle.std.proofs.Common.{refl}
use Rattle.table_files.proofs.Loads.{load_absent, load_fault, load_long, load_whole}
use Rattle.table_files.proofs.load.load_file.Goals as goal

pub returns-in-Ok-clause-reads : goal.returns-in-Ok-clause-reads
returns-in-Ok-clause-reads g c =
    load_whole _ c.args.file c.args.limit c.args.name.now c.read_file.ensures.later c.read_file.ensures.files c.in-Ok.bytes c.in-Ok.ensures.read (c.in-Ok.ensures.misses (λ h. cc))

pub returns-in-Err-Missing-clause-reads : goal.returns-in-Err-Missing-clause-reads
returns-in-Err-Missing-clause-reads g c =
    let known = rw c.in-Err-Missing.field-0-is at c.in-Err-Missing.ensures in
    load_absent _ c.args.file c.args.limit c.args.name.now c.read_file.ensures.later c.read_file.ensures.files known.read

pub returns-in-Err-Fault-clause-reads : goal.returns-in-Err-Fault-clause-reads
returns-in-Err-Fault-clause-reads g c =
    let known = rw c.in-Err-Fault.field-0-is at c.in-Err-Fault.ensures in
    load_fault _ c.args.file c.args.limit c.args.name.now c.read_file.ensures.later c.read_file.ensures.files (known.fault refl) (known.misses (λ h. cc))

pub returns-in-Err-TooLong-clause-reads : goal.returns-in-Err-TooLong-clause-reads
returns-in-Err-TooLong-clause-reads g c =
    let known = rw c.in-Err-TooLong.field-0-is at c.in-Err-TooLong.ensures in
    load_long _ c.args.file c.args.limit c.args.name.now c.read_file.ensures.later c.read_file.ensures.files _ known.read (known.misses (λ h. cc))
