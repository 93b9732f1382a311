use Rattle.std.proofs.Common.{◌≡◌, ◌∙◌, ap, arith}
use Rattle.demo_files.specs.Files.{file_text, order_records, table_records}
use Rattle.demo_files.specs.Shop.{order, order_columns, orders}
use Rattle.demo_files.proofs.RecordTexts.{text_with_next_record, header_only}
use Rattle.demo_files.proofs.tables.orders_csv.Goals as goal

pub loop-i-init : goal.loop-i-init
loop-i-init c = c.in_ok-file.ensures.items ∙ header_only order_columns (order c.args.number)

pub loop-i-preserved : goal.loop-i-preserved
loop-i-preserved c =
    text_with_next_record order_columns (order c.args.number) c.loop-i.i c.loop-i.file.items c.push_order.new.file.items
    c.loop-i.invariant c.in_ok-push_order.ensures

pub returns : goal.returns
unfolding order_records
returns c =
    let all : c.loop-i.i ≡ orders = omega arith in
    c.from_vec.ensures ∙ c.loop-i.invariant ∙ ap (λ n. file_text (table_records order_columns (order c.args.number) n)) all
