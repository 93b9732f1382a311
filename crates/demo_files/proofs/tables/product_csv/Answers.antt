use Rattle.std.proofs.Common.{◌≡◌, ◌∙◌, ap, arith}
use Rattle.demo_files.specs.Files.{file_text, product_records, table_records}
use Rattle.demo_files.specs.Shop.{product, product_columns, products}
use Rattle.demo_files.proofs.RecordTexts.{text_with_next_record, header_only}
use Rattle.demo_files.proofs.tables.product_csv.Goals as goal

pub loop-i-init : goal.loop-i-init
loop-i-init c = c.in_ok-file.ensures.items ∙ header_only product_columns product

pub loop-i-preserved : goal.loop-i-preserved
loop-i-preserved c =
    text_with_next_record product_columns product c.loop-i.i c.loop-i.file.items c.push_product.new.file.items
    c.loop-i.invariant c.in_ok-push_product.ensures

pub returns : goal.returns
unfolding product_records
returns c =
    let all : c.loop-i.i ≡ products = omega arith in
    c.from_vec.ensures ∙ c.loop-i.invariant ∙ ap (λ n. file_text (table_records product_columns product n)) all
