-- When `parse` reads a number from a word of digits, and which number it reads.
use Rattle.std.proofs.Common.{◌≡◌, ℕ, ◌<◌, ◌^◌, true, List, length, Result, Ok, Err, rules}
use Rattle.std.proofs.lemmas.Bool.{and_from, and_parts, lt-ltb, ltb-true}
use Rattle.std.proofs.lemmas.Str.Parse.{IsNumeralModel, numerals_by_weight, parse_digits}
use Rattle.std.specs.Bool.{IsTrue}
use Rattle.std.specs.Char.{is_ascii_digit}
use Rattle.std.specs.List.{list_all}
use Rattle.std.specs.Option.{SomeIff}
use Rattle.std.specs.Result.{result_ok}
use Rattle.std.specs.Str.Parse.{ParsesUnsigned}
use Rattle.safebound_words.specs.Numbers.{is_number, number_of}

decimal_model : IsNumeralModel (λ ds. list_all is_ascii_digit ds ≡ true) number_of
unfolding number_of
decimal_model = numerals_by_weight _ (search rules) number_of (search rules)

pub read_digits : (E : Type 0) (word : List ℕ) (r : Result ℕ E) → ParsesUnsigned 64 10 word r → list_all is_ascii_digit word ≡ true
    → SomeIff (result_ok r) (IsTrue (is_number word) × (number_of word < 2 ^ 64)) (number_of word)
read_digits E word (Ok number) read digits =
    let so = parse_digits decimal_model {E = E} 64 word (Ok number) read digits in
    ((and_from _ _ digits (lt-ltb 0 (length word) so.0.0), so.0.1), so.1)
read_digits E word (Err error) read digits =
    λ is. parse_digits decimal_model {E = E} 64 word (Err error) read digits (ltb-true 0 (length word) (and_parts _ _ is.0).1, is.1)
