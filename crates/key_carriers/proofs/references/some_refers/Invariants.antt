use Rattle.std.proofs.Common.{◌≡◌, false, take}
use Rattle.std.specs.List.{list_any}
use Rattle.key_carriers.specs.Carriers.{is_reference_from_to}
use Rattle.key_carriers.proofs.references.some_refers.Given as goal

abbrev pub invariant-loop-reference : goal.invariant-loop-reference
invariant-loop-reference l = list_any (is_reference_from_to l.column l.table l.target) (take l.reference-index l.references) ≡ false
