use Rattle.std.proofs.Common.{sym, ◌∙◌, ap}
use Rattle.query_grammar.specs.Readers.{read_within, read_query}
use Rattle.query_grammar.proofs.Kept.{query_has_text_tokens}
use Rattle.query_grammar.proofs.Whole.{spelled, wrong_after}
use Rattle.query_grammar.proofs.parser.read_query_text.Goals as goal

pub returns-else-is_done-clause-syntax : goal.returns-else-is_done-clause-syntax
returns-else-is_done-clause-syntax c =
    wrong_after 64 c.args.tokens.now c.in-Ok.query c.query.new.reader c.args.text_len c.next_token_start.result c.requires (ap (read_query (read_within 64)) (sym c.new-reader.ensures) ∙ c.in-Ok.ensures) (sym c.is_done.ensures ∙ c.if-is_done.false) c.next_token_start.ensures

pub returns-then-is_done-clause-from_tokens : goal.returns-then-is_done-clause-from_tokens
returns-then-is_done-clause-from_tokens c =
    query_has_text_tokens c.args.tokens.now c.in-Ok.query
    (spelled 64 c.args.tokens.now c.in-Ok.query c.query.new.reader c.requires (ap (read_query (read_within 64)) (sym c.new-reader.ensures) ∙ c.in-Ok.ensures) (sym c.is_done.ensures ∙ c.if-is_done.true))
