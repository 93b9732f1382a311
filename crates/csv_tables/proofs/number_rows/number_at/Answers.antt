use Rattle.std.proofs.Common.{◌∙◌, ap}
use Rattle.csv_tables.specs.Numbers.{number_of}
use Rattle.csv_tables.proofs.SpanFacts.{text_is}
use Rattle.csv_tables.proofs.number_rows.number_at.Goals as goal

pub returns-in-None : goal.returns-in-None
returns-in-None c = c.number_of.ensures ∙ ap number_of (text_is c.args.bytes.now c.args.start c.args.field c.requires)
