use Rattle.std.proofs.Common.{◌≡◌, [], ◌∷◌, length, arith}
use Rattle.std.specs.List.{flat_map}
use Rattle.std.proofs.lemmas.Grind.{common_steps}
use Rattle.std.proofs.lemmas.Result.{err_from_is_err_and}
use Rattle.schema_types.specs.declared.errors.LimitKind.TheVariants as limit
use Rattle.schema_types.specs.declared.index.TableIndex.{TableIndex}
use Rattle.schema_types.specs.Refusals.{numbers_above}
use Rattle.schema_types.proofs.Above.{column_counts_above}
use Rattle.schema_types.proofs.Flat.{above_first}
use Rattle.schema_types.proofs.scope.Scope.check_column_counts.Goals as goal

pub returns-in_err-check_column_count : goal.returns-in_err-check_column_count
returns-in_err-check_column_count c =
    let p = err_from_is_err_and c.from_residual.result c.from_residual.ensures.1 in
    rw (p.1, p.2, ← column_counts_above c.args.self.now.text.now 64 c.args.self.now.tables.now, ← c.args.self.now.indexed)
    (above_first limit.Columns (λ (index : TableIndex). numbers_above 64 (length index.columns ∷ [])) c.args.self.now.indexes c.indexes.index-index c.index-item.result c.in_err-check_column_count.field-0.0
    (grind (arith, common_steps)) (grind (arith, common_steps)) (grind (arith, common_steps)) (grind (arith, common_steps)))

pub returns : goal.returns
returns c =
    let all : flat_map (λ (index : TableIndex). numbers_above 64 (length index.columns ∷ [])) c.args.self.now.indexes ≡ [] = grind (arith, common_steps) in
    rw (← column_counts_above c.args.self.now.text.now 64 c.args.self.now.tables.now, ← c.args.self.now.indexed) all
