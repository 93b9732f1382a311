use Rattle.stats_reading.proofs.line.after_kind.Goals as goal

pub returns-in-First : goal.returns-in-First
returns-in-First c = rw c.in-First.is c.after_front.ensures
