use Rattle.std.proofs.Common.{ap, sym, ◌∙◌}
use Rattle.std.proofs.lemmas.Option.{get_or_from_slice_get}
use Rattle.std.specs.Str.{str_eq_ignore_ascii_case}
use Rattle.schema_types.specs.declared.types.Table.{Table}
use Rattle.table_files.specs.Stage.{no_table}
use Rattle.prepared_runs.proofs.append.is_named.Goals as goal

pub returns : goal.returns
returns c =
    c.are_alike.ensures
    ∙ ap (λ word. str_eq_ignore_ascii_case c.as_str.result.now word) c.get.ensures
    ∙ ap (λ word. str_eq_ignore_ascii_case word c.args.name.now) c.as_str.ensures
    ∙ ap (λ (table : Table). str_eq_ignore_ascii_case table.name c.args.name.now)
    (sym (get_or_from_slice_get c.args.schema.now.tables c.args.section.now.table c.get-table.result.now no_table c.get-table.ensures))
