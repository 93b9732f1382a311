use Rattle.std.proofs.Common.{refl}
use Rattle.std.specs.Fmt.{digits}
use Rattle.demo_files.specs.Files.{file_text, table_records}
use Rattle.demo_files.proofs.laws.examples.Goals as goal

pub returns-clause-first_products : goal.returns-clause-first_products
unfolding digits file_text table_records
returns-clause-first_products c = refl

pub returns-clause-first_items : goal.returns-clause-first_items
unfolding digits file_text table_records
returns-clause-first_items c = refl

pub returns-clause-first_orders : goal.returns-clause-first_orders
unfolding digits file_text table_records
returns-clause-first_orders c = refl

pub returns-clause-first_customers : goal.returns-clause-first_customers
unfolding digits file_text table_records
returns-clause-first_customers c = refl
