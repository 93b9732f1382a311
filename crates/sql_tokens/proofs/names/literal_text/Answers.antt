use Rattle.std.proofs.Common.{None, ◌∙◌, arith}
use Rattle.std.proofs.lemmas.Str.Pattern.{strip_prefix_char}
use Rattle.sql_tokens.proofs.Unquoting.{literal_of_plain}
use Rattle.sql_tokens.proofs.names.literal_text.Goals as goal

pub returns-in_ok-from_str-in-None : goal.returns-in_ok-from_str-in-None
returns-in_ok-from_str-in-None c =
    c.in_ok-from_str-in-None.ensures.ok ∙ literal_of_plain c.args.bytes.now (strip_prefix_char 39 c.args.bytes.now None c.in-None.ensures.cases (omega arith))
