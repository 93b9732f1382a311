use Rattle.std.proofs.Common.{◌≡◌, ◌∙◌, sym, ap, refl, None, Some, option_map}
use Rattle.std.specs.Option.{option_copied}
use Rattle.schema_types.specs.Declarations.{target_table}
use Rattle.schema_types.specs.Index.{table_index}
use Rattle.schema_types.specs.Offences.{target_offences}
use Rattle.schema_types.proofs.Targets.{no_map, some_map}
use Rattle.schema_types.proofs.scope.Scope.check_target.Goals as goal

pub returns-in-None : goal.returns-in-None
unfolding target_offences
returns-in-None c =
    let index = table_index c.args.self.now.text.now in
    let table = target_table c.args.self.now.text.now c.args.self.now.tables.now c.args.target.now in
    let e : option_map index table ≡ None = sym c.in_ok-target.ensures ∙ ap option_copied c.in-None.is in
    rw (no_map index table e) refl

pub returns-in-Some : goal.returns-in-Some
unfolding target_offences
returns-in-Some c =
    let index = table_index c.args.self.now.text.now in
    let table = target_table c.args.self.now.text.now c.args.self.now.tables.now c.args.target.now in
    let e : option_map index table ≡ Some c.in-Some.table.now = sym c.in_ok-target.ensures ∙ ap option_copied c.in-Some.is in
    let found = some_map index table c.in-Some.table.now e in
    rw found.1 (c.check_target_columns.ensures found.0 found.2)
