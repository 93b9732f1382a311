use Rattle.std.proofs.Common.{◌≡◌, ◌∙◌, ap, arith}
use Rattle.demo_files.specs.Files.{file_text, item_records, table_records}
use Rattle.demo_files.specs.Shop.{item, item_columns, items}
use Rattle.demo_files.proofs.RecordTexts.{text_with_next_record, header_only}
use Rattle.demo_files.proofs.tables.item_csv.Goals as goal

pub loop-i-init : goal.loop-i-init
loop-i-init c = c.in_ok-file.ensures.items ∙ header_only item_columns (item c.args.number)

pub loop-i-preserved : goal.loop-i-preserved
loop-i-preserved c =
    text_with_next_record item_columns (item c.args.number) c.loop-i.i c.loop-i.file.items c.push_item.new.file.items
    c.loop-i.invariant c.in_ok-push_item.ensures

pub returns : goal.returns
unfolding item_records
returns c =
    let all : c.loop-i.i ≡ items = omega arith in
    c.from_vec.ensures ∙ c.loop-i.invariant ∙ ap (λ n. file_text (table_records item_columns (item c.args.number) n)) all
