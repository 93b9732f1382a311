use Rattle.std.proofs.Common.{◌≡◌, [], ◌∷◌, take, length}
use Rattle.std.specs.List.{flat_map}
use Rattle.schema_types.specs.Refusals.{numbers_above}
use Rattle.schema_types.proofs.scope.Scope.check_column_counts.Given as goal

abbrev pub invariant-indexes : goal.invariant-indexes
invariant-indexes l = flat_map (λ index. numbers_above 64 (length index.columns ∷ [])) (take l.index-index l.indexes) ≡ []
