use Rattle.std.proofs.Common.{length, ap, arith}
use Rattle.std.proofs.lemmas.List.{length-map}
use Rattle.safebound_bounds.specs.Meaning.{edge_of}
use Rattle.safebound_bounds.proofs.bounding.check_work.Goals as goal

pub work-requires-clause-many : goal.work-requires-clause-many
work-requires-clause-many c =
    omega (arith, c.requires.valid.equalities_are_valid.few, ap length c.requires.edges, length-map c.args.given.now.equalities.now edge_of)
