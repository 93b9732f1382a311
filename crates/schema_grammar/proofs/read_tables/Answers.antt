use Rattle.std.proofs.Common.{sym, ◌∙◌, ap}
use Rattle.schema_grammar.specs.Readers.{read_all_tables}
use Rattle.schema_grammar.proofs.Ends.{spelled, wrong_after}
use Rattle.schema_grammar.proofs.Kept.{trees_have_text_tokens}
use Rattle.schema_grammar.proofs.read_tables.Goals as goal

pub returns-else-is_done-clause-syntax : goal.returns-else-is_done-clause-syntax
returns-else-is_done-clause-syntax c =
    wrong_after c.args.tokens.now c.in-Ok.tables c.tables.new.reader c.args.text_len c.next_token_start.result (ap read_all_tables (sym c.new-reader.ensures) ∙ c.in-Ok.ensures) (sym c.is_done.ensures ∙ c.if-is_done.false) c.next_token_start.ensures

pub returns-then-is_done-clause-from_tokens : goal.returns-then-is_done-clause-from_tokens
returns-then-is_done-clause-from_tokens c =
    trees_have_text_tokens c.args.tokens.now c.in-Ok.tables
    (spelled c.args.tokens.now c.in-Ok.tables c.tables.new.reader (ap read_all_tables (sym c.new-reader.ensures) ∙ c.in-Ok.ensures) (sym c.is_done.ensures ∙ c.if-is_done.true))
