use Rattle.std.proofs.Common.{subst, sym}
use Rattle.sql_tokens.specs.Words.{IsLexemeOf}
use Rattle.query_grammar.specs.Lexemes.{IsFromItemWith}
use Rattle.sql_parse.proofs.parts.bind_parts.Goals as goal

pub bind_part-requires-clause-tokens : goal.bind_part-requires-clause-tokens
bind_part-requires-clause-tokens c =
    subst (IsFromItemWith (IsLexemeOf c.args.binder.now.text.now)) (sym c.part-item.is) (c.requires.tokens c.all.part-index c.part-item.result c.all-test.true)
