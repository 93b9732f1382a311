use Rattle.std.proofs.Common.{◌≡◌, false, take}
use Rattle.std.specs.List.{list_any}
use Rattle.key_carriers.specs.Carriers.{is_only_column}
use Rattle.key_carriers.proofs.references.some_is_only_column.Given as goal

abbrev pub invariant-loop-key : goal.invariant-loop-key
invariant-loop-key l = list_any (is_only_column l.column) (take l.key-index l.keys) ≡ false
