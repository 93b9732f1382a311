use Rattle.safebound_top.proofs.report.write_fault.Goals as goal

pub returns : goal.returns
returns g c = rw c.names_of.ensures at c.write_line.ensures
