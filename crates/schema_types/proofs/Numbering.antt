-- The code finds the numbers of the columns that a key names.
use Rattle.std.proofs.Common.{◌≡◌, ℕ, List, [], ◌∷◌, Option, Some, None, map, refl, ap}
use Rattle.std.specs.Option.{option_map, unwrap_or}
use Rattle.ll_grammars.specs.declared.lexeme.Lexeme.{Lexeme}
use Rattle.schema_types.specs.Names.{names_of}
use Rattle.schema_types.specs.Numbers.{number_of_name, number_of_column, numbers_of_columns}

numbers_are : (text : List ℕ) (declared : List (List ℕ)) (columns : List Lexeme) → map (number_of_name declared) (names_of text columns) ≡ numbers_of_columns text declared columns
unfolding numbers_of_columns
numbers_are text declared [] = refl
numbers_are text declared (column ∷ columns) = ap (λ rest. number_of_column text declared column ∷ rest) (numbers_are text declared columns)

pub key_numbers_none : (text : List ℕ) (declared : List (List ℕ)) (written : Option (List Lexeme)) → None ≡ option_map (names_of text) written → [] ≡ unwrap_or (option_map (numbers_of_columns text declared) written) []
key_numbers_none text declared None e = refl
key_numbers_none text declared (Some columns) e = cc

pub key_numbers_some : (text : List ℕ) (declared : List (List ℕ)) (written : Option (List Lexeme)) (names : List (List ℕ)) → Some names ≡ option_map (names_of text) written → map (number_of_name declared) names ≡ unwrap_or (option_map (numbers_of_columns text declared) written) []
key_numbers_some text declared None names e = cc
key_numbers_some text declared (Some columns) names e =
    let same : names ≡ names_of text columns = cc in
    rw same (numbers_are text declared columns)
