-- The binder has the schema, the text and the entries of the tree. So its first refusal is the first refusal of the tree.
use Rattle.std.proofs.Common.{refl}
use Rattle.sql_parse.proofs.TreeFacts.{behind_errs}
use Rattle.sql_parse.proofs.binding.bind_after_from.Goals as goal

pub returns-clause-err : goal.returns-clause-err
returns-clause-err c =
    behind_errs c.args.catalog.now.schema.now c.args.text.now c.args.query.now
    (record { alloc = c.args.alloc; catalog = c.args.catalog; text = c.args.text; entries = c.args.from })
    refl refl c.requires.from c.requires.names c.after_from.result c.after_from.ensures.err
