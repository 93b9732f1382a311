use Rattle.std.proofs.Common.{◌≡◌, ◌≤◌, All, arith, get_or, length, refl, subst}
use Rattle.std.proofs.lemmas.List.{take_all}
use Rattle.std.proofs.lemmas.List.Elements.{All-nil}
use Rattle.schema_types.specs.declared.types.Column.{Column}
use Rattle.schema_types.specs.declared.types.Kind.TheVariants as kind
use Rattle.csv_tables.proofs.NumberRowFacts.{kinds_more, order_more}
use Rattle.csv_tables.proofs.number_rows.are_numbers_in_order.Goals as goal

pub columns-init : goal.columns-init
columns-init c = record { order = λ i l. absurd (omega (arith, l)); kinds = All-nil (λ (column : Column). column.kind ≡ kind.Int) }

pub columns-preserved : goal.columns-preserved
columns-preserved c =
    let here : get_or c.args.places.now c.columns.at 0 ≡ c.columns.at = omega arith in
    record {
      order = order_more c.args.places.now c.columns.at c.columns.invariant.order here;
      kinds = kinds_more c.args.columns.now c.columns.at c.index-columns-at.result c.columns-test.true c.index-columns-at.is c.columns.invariant.kinds c.in-Int.is;
    }

pub returns : goal.returns
returns c =
    let past : length c.args.columns.now ≤ c.columns.at = omega arith in (
      λ _. record {
        lengths = omega arith;
        order = λ i l. c.columns.invariant.order i (omega (arith, l, c.requires, past));
        kinds = subst (All (λ (column : Column). column.kind ≡ kind.Int)) (take_all c.columns.at c.args.columns.now past) c.columns.invariant.kinds;
      },
      λ _. refl,
    )
