use Rattle.std.proofs.Common.{ap, ◌∙◌, arith}
use Rattle.schema_types.specs.declared.types.Column.{Column}
use Rattle.sql_parse.proofs.OutFacts.{column_added, columns_added}
use Rattle.sql_parse.proofs.outputs.add_columns.Goals as goal

pub all-preserved : goal.all-preserved
all-preserved c = record {
  here = omega arith;
  rest = column_added c.args.from c.args.columns.now _ c.all.outs c.all.invariant.here c.all-test.true c.all.invariant.rest
      (c.in_ok-name.ensures ∙ c.as_str.ensures ∙ ap (λ (column : Column). column.name) c.column-item.is) c.in_ok-push.ensures.ok;
}

pub returns : goal.returns
returns c = columns_added c.args.from c.args.columns.now c.all.number c.all-test.false c.all.invariant.rest
