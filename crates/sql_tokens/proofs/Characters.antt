-- No character begins two kinds of token.
use Rattle.std.proofs.Common.{◌≡◌, ℕ, ◌<◌, true, false, not, eqb, arith}
use Rattle.std.proofs.lemmas.Bool.Decides.{nat_tests}
use Rattle.sql_tokens.specs.Tokens.{is_blank, is_letter, is_digit, is_word_byte, is_one_byte_symbol, is_two_byte_symbol}

pub blank_ascii : (b : ℕ) → is_blank b ≡ true → b < 128
blank_ascii b e = grind (arith, nat_tests)

pub letter_no_blank : (b : ℕ) → is_letter b ≡ true → is_blank b ≡ false
letter_no_blank b e = grind (arith, nat_tests)

pub digit_no_blank : (b : ℕ) → is_digit b ≡ true → is_blank b ≡ false
digit_no_blank b e = grind (arith, nat_tests)

pub digit_no_letter : (b : ℕ) → is_digit b ≡ true → is_letter b ≡ false
digit_no_letter b e = grind (arith, nat_tests)

pub letter_is_word_byte : (b : ℕ) → is_letter b ≡ true → is_word_byte b ≡ true
letter_is_word_byte b e = grind (arith, nat_tests)

pub word_byte_ascii : (b : ℕ) → is_word_byte b ≡ true → b < 128
word_byte_ascii b e = grind (arith, nat_tests)

pub digit_ascii : (b : ℕ) → is_digit b ≡ true → b < 128
digit_ascii b e = grind (arith, nat_tests)

-- ---- signs

pub sign_no_blank : (b : ℕ) → is_one_byte_symbol b ≡ true → is_blank b ≡ false
sign_no_blank b e = grind (arith, nat_tests)

pub sign_no_letter : (b : ℕ) → is_one_byte_symbol b ≡ true → is_letter b ≡ false
sign_no_letter b e = grind (arith, nat_tests)

pub sign_no_digit : (b : ℕ) → is_one_byte_symbol b ≡ true → is_digit b ≡ false
sign_no_digit b e = grind (arith, nat_tests)

pub sign_no_double : (b : ℕ) → is_one_byte_symbol b ≡ true → eqb b 34 ≡ false
sign_no_double b e = grind (arith, nat_tests)

pub sign_no_single : (b : ℕ) → is_one_byte_symbol b ≡ true → eqb b 39 ≡ false
sign_no_single b e = grind (arith, nat_tests)

pub sign_ascii : (b : ℕ) → is_one_byte_symbol b ≡ true → b < 128
sign_ascii b e = grind (arith, nat_tests)

pub pair_first : (b c : ℕ) → is_two_byte_symbol b c ≡ true → is_one_byte_symbol b ≡ true
pair_first b c e = grind (arith, nat_tests)

pub pair_second : (b c : ℕ) → is_two_byte_symbol b c ≡ true → is_one_byte_symbol c ≡ true
pair_second b c e = grind (arith, nat_tests)

pub pair_no_minus : (b c : ℕ) → is_two_byte_symbol b c ≡ true → eqb b 45 ≡ false
pair_no_minus b c e = grind (arith, nat_tests)

-- at the end of a text the code reads 0 as the second character of a pair
pub pair_zero : (b : ℕ) → is_two_byte_symbol b 0 ≡ false
pair_zero b = grind (arith, nat_tests)

pub other_no_minus : (b : ℕ) → is_one_byte_symbol b ≡ false → eqb b 45 ≡ false
other_no_minus b e = grind (arith, nat_tests)

pub other_no_pair : (b c : ℕ) → is_one_byte_symbol b ≡ false → is_two_byte_symbol b c ≡ false
other_no_pair b c e = grind (arith, nat_tests)

pub line_end_ascii : (b : ℕ) → not (eqb b 10) ≡ false → b < 128
line_end_ascii b e = grind (arith, nat_tests)
