use Rattle.std.proofs.Common.{min, arith}
use Rattle.sql_tokens.specs.Words.{number_of, digits_from, slice}
use Rattle.sql_tokens.proofs.Digits.{no_digit_more}
use Rattle.sql_tokens.proofs.names.number.Goals as goal

pub returns : goal.returns
unfolding number_of
returns c =
    let digits = slice c.args.text.now c.args.lexeme.now.start c.args.lexeme.now.end in
    no_digit_more 18446744073709551615 digits c.all.digit-index c.all.value (min (digits_from 0 digits) 18446744073709551615) c.all.invariant.so_far (omega arith) (omega arith)
