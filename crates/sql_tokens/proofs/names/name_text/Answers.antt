use Rattle.std.proofs.Common.{None, ◌∙◌, arith}
use Rattle.std.proofs.lemmas.Str.Pattern.{strip_prefix_char}
use Rattle.sql_tokens.proofs.Unquoting.{name_of_word}
use Rattle.sql_tokens.proofs.names.name_text.Goals as goal

pub returns-in_ok-to_ascii_uppercase-in-None : goal.returns-in_ok-to_ascii_uppercase-in-None
returns-in_ok-to_ascii_uppercase-in-None c =
    c.in_ok-to_ascii_uppercase-in-None.ensures.ok ∙ name_of_word c.args.bytes.now (strip_prefix_char 34 c.args.bytes.now None c.in-None.ensures.cases (omega arith))
