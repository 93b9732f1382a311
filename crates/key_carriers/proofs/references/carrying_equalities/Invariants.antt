use Rattle.std.proofs.Common.{◌≡◌, take}
use Rattle.std.specs.List.{filter}
use Rattle.key_carriers.specs.Carriers.{with_exchanged_sides, carries}
use Rattle.key_carriers.proofs.references.carrying_equalities.Given as goal

abbrev pub invariant-equalities : goal.invariant-equalities
invariant-equalities l = l.edges ≡ filter (carries l.schema l.query) (with_exchanged_sides (take l.number l.equalities))
