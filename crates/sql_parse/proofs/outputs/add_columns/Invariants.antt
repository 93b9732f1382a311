use Rattle.std.proofs.Common.{◌≡◌, ◌++◌, drop}
use Rattle.query_names.specs.Values.{outs_from}
use Rattle.sql_parse.proofs.outputs.add_columns.Given as goal

abbrev pub invariant-all : goal.invariant-all
invariant-all l = record {
  here : l.number ≡ l.column-index;
  rest : l.outs ++ outs_from l.from l.number (drop l.column-index l.columns) ≡ l.fn.outs ++ outs_from l.from 0 l.columns;
}
