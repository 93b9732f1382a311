use Rattle.safebound_laws.proofs.DemoFiles.{no_absent_file, no_read_fault}
use Rattle.safebound_laws.proofs.corollaries.demo_meets_no_read_fault.Goals as goal

pub returns : goal.returns
returns c = record { fault = no_read_fault; absent = no_absent_file }
