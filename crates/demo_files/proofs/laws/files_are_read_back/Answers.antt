use Rattle.demo_files.proofs.TableRecords.{customers_read, items_read, orders_read, products_read}
use Rattle.demo_files.proofs.laws.files_are_read_back.Goals as goal

pub returns-clause-products : goal.returns-clause-products
returns-clause-products c = products_read

pub returns-clause-items : goal.returns-clause-items
returns-clause-items c = items_read

pub returns-clause-orders : goal.returns-clause-orders
returns-clause-orders c = orders_read

pub returns-clause-customers : goal.returns-clause-customers
returns-clause-customers c = customers_read
