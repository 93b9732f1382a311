use Rattle.std.proofs.Common.{sym, ◌∙◌}
use Rattle.query_names.proofs.Meanings.{found_entry_in_8_bits}
use Rattle.sql_parse.proofs.select_list.add_out.Goals as goal

pub add_column-requires-clause-small : goal.add_column-requires-clause-small
add_column-requires-clause-small c = λ few.
    found_entry_in_8_bits c.args.binder.now c.args.visible.now.scope c.in-Column.column c.in-Some-2.one (sym c.in-Some-2.is ∙ c.in_ok-one-in-Column.ensures) few
