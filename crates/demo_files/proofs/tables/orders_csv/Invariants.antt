use Rattle.std.proofs.Common.{◌≡◌}
use Rattle.demo_files.specs.Files.{file_text, table_records}
use Rattle.demo_files.specs.Shop.{order, order_columns}
use Rattle.demo_files.proofs.tables.orders_csv.Given as goal

abbrev pub invariant-loop-i : goal.invariant-loop-i
invariant-loop-i l = l.file.items ≡ file_text (table_records order_columns (order l.number) l.i)
