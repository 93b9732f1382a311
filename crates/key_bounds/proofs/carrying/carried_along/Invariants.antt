use Rattle.std.proofs.Common.{take}
use Rattle.sql_meaning.specs.Tables.{tables_of}
use Rattle.key_stats.specs.Carrying.{HaveCarriedBounds}
use Rattle.key_bounds.proofs.carrying.carried_along.Given as goal

abbrev pub invariant-edges : goal.invariant-edges
invariant-edges l = HaveCarriedBounds l.query (tables_of l.db) l.accuracy (take l.number l.edges) l.carried
