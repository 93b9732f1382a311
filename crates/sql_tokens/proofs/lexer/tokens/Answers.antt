use Rattle.std.proofs.Common.{List, length}
use Rattle.std.specs.List.{All}
use Rattle.sql_tokens.specs.declared.token.Token.{Token}
use Rattle.sql_tokens.specs.Words.{IsTokenOf}
use Rattle.sql_tokens.specs.Lexing.{IsLexed, TokensAreInOrder}
use Rattle.sql_tokens.proofs.WholeTexts.{lexed_result, refused_result, lexed_in_order, lexed_within, ok_weaker}
use Rattle.sql_tokens.proofs.lexer.tokens.Goals as goal

pub returns-in-Ok-clause-ok : goal.returns-in-Ok-clause-ok
returns-in-Ok-clause-ok c = lexed_result c.args.text.now c.byte_order_mark_len_of-start.result c.byte_order_mark_len_of-start.ensures.value c.in-Ok.ensures.cases.1 c.tokens_from.result c.tokens_from.ensures

pub returns-in-Ok-clause-bad : goal.returns-in-Ok-clause-bad
returns-in-Ok-clause-bad c = refused_result c.args.text.now c.byte_order_mark_len_of-start.result c.byte_order_mark_len_of-start.ensures.value c.in-Ok.ensures.cases.1 c.tokens_from.result c.tokens_from.ensures

pub returns-in-Ok-clause-in_order : goal.returns-in-Ok-clause-in_order
returns-in-Ok-clause-in_order c =
    let text = c.args.text.now in
    ok_weaker (IsLexed text) (TokensAreInOrder 0 (length text)) (lexed_in_order text) c.tokens_from.result
    (lexed_result text c.byte_order_mark_len_of-start.result c.byte_order_mark_len_of-start.ensures.value c.in-Ok.ensures.cases.1 c.tokens_from.result c.tokens_from.ensures)

pub returns-in-Ok-clause-within : goal.returns-in-Ok-clause-within
returns-in-Ok-clause-within c =
    let text = c.args.text.now in
    ok_weaker (IsLexed text) (λ (tokens : List Token). All (IsTokenOf text) tokens) (lexed_within text) c.tokens_from.result
    (lexed_result text c.byte_order_mark_len_of-start.result c.byte_order_mark_len_of-start.ensures.value c.in-Ok.ensures.cases.1 c.tokens_from.result c.tokens_from.ensures)
