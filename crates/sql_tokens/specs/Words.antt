-- The terminal of a token, and the name, text or number that the token spells.
use Rattle.std.specs.Prelude.{ℕ, ◌+◌, ◌-◌, ◌*◌, ◌≤◌, Bool, ◌==◌, if◌then◌else◌, List, [], ◌∷◌, ◌++◌, map, length, slice_index, slice_range, codes}
use denote.Ref.{Bor}
use Rattle.std.specs.Char.{to_ascii_uppercase}
use Rattle.std.specs.List.{list_all}
use Rattle.std.specs.Str.{IsUtf8, bytes_eq}
use Rattle.ll_grammars.specs.declared.terminal.Terminal.{Terminal}
use Rattle.ll_grammars.specs.declared.terminal.Terminal.TheVariants as terminal
use Rattle.ll_grammars.specs.declared.lexeme.Lexeme.{Lexeme}
use Rattle.sql_tokens.specs.declared.token.Token.{Token}
use Rattle.sql_tokens.specs.declared.token.TokenKind.{TokenKind}
use Rattle.sql_tokens.specs.declared.token.TokenKind.TheVariants as kind

-- the bytes of a text from byte `start` up to byte `end`, without the byte at `end`
abbrev pub slice : List ℕ → ℕ → ℕ → List ℕ
slice text start end = slice_range text start end

-- the token lies within the text, and its bytes are valid UTF-8. `IsLexemeOf` says the same of a lexeme (a token with its terminal)
pub record IsTokenOf (text : List ℕ) (token : Token) : Type 0 where
  pub begins : token.start ≤ token.end
  pub within : token.end ≤ length text
  pub utf8 : IsUtf8 (slice text token.start token.end)

pub record IsLexemeOf (text : List ℕ) (lexeme : Lexeme) : Type 0 where
  pub begins : lexeme.start ≤ lexeme.end
  pub within : lexeme.end ≤ length text
  pub utf8 : IsUtf8 (slice text lexeme.start lexeme.end)

-- ---- words

-- ASCII letters in upper case, and all other bytes as they are
abbrev pub in_upper_case : List ℕ → List ℕ
in_upper_case bytes = map to_ascii_uppercase bytes

-- the words that some rule of the two grammars expects, each with its terminal
abbrev pub grammar_words : List (List ℕ × Terminal)
grammar_words =
    (codes "AND", terminal.And) ∷ (codes "AS", terminal.As) ∷ (codes "BETWEEN", terminal.Between)
    ∷ (codes "BIGINT", terminal.Bigint) ∷ (codes "CHAR", terminal.Char) ∷ (codes "CHARACTER", terminal.Character)
    ∷ (codes "CONSTRAINT", terminal.Constraint) ∷ (codes "CREATE", terminal.Create) ∷ (codes "DEFAULT", terminal.Default)
    ∷ (codes "DELETE", terminal.Delete) ∷ (codes "FOREIGN", terminal.Foreign) ∷ (codes "FROM", terminal.From)
    ∷ (codes "IN", terminal.In) ∷ (codes "INNER", terminal.Inner) ∷ (codes "INT", terminal.Int)
    ∷ (codes "INTEGER", terminal.Integer) ∷ (codes "JOIN", terminal.Join) ∷ (codes "NOT", terminal.Not)
    ∷ (codes "NULL", terminal.Null) ∷ (codes "ON", terminal.On) ∷ (codes "OR", terminal.Or)
    ∷ (codes "PRIMARY", terminal.Primary) ∷ (codes "REFERENCES", terminal.References) ∷ (codes "SELECT", terminal.Select)
    ∷ (codes "SET", terminal.Set) ∷ (codes "SMALLINT", terminal.Smallint) ∷ (codes "TABLE", terminal.Table)
    ∷ (codes "UNIQUE", terminal.Unique) ∷ (codes "UPDATE", terminal.Update) ∷ (codes "VARCHAR", terminal.Varchar)
    ∷ (codes "VARYING", terminal.Varying) ∷ (codes "WHERE", terminal.Where)
    -- these four are names wherever the grammar doesn't expect them
    ∷ (codes "KEY", terminal.Key) ∷ (codes "NO", terminal.No) ∷ (codes "ACTION", terminal.Action)
    ∷ (codes "CASCADE", terminal.Cascade) ∷ []

-- further reserved words of SQL-92: no rule expects them, and they can't be names. Other reserved words (USER, CURRENT_DATE, ..) are plain names here
abbrev pub reserved_words : List (List ℕ)
reserved_words =
    codes "ALL" ∷ codes "ANY" ∷ codes "ASC" ∷ codes "BY" ∷ codes "CASE" ∷ codes "CAST" ∷ codes "CHECK" ∷ codes "CROSS"
    ∷ codes "DESC" ∷ codes "DISTINCT" ∷ codes "EXCEPT" ∷ codes "EXISTS" ∷ codes "FULL" ∷ codes "GROUP" ∷ codes "HAVING"
    ∷ codes "INTERSECT" ∷ codes "IS" ∷ codes "LEFT" ∷ codes "LIKE" ∷ codes "NATURAL" ∷ codes "ORDER" ∷ codes "OUTER"
    ∷ codes "RIGHT" ∷ codes "UNION" ∷ codes "USING" ∷ codes "VALUES" ∷ []

abbrev pub reserved : List ℕ → List ℕ × Terminal
reserved word = (word, terminal.Reserved)

-- the words whose terminal isn't `Name`
abbrev pub keywords : List (List ℕ × Terminal)
keywords = grammar_words ++ map reserved reserved_words

-- an entry of the code's list: a word and its terminal
abbrev pub word_and_terminal : Bor (List ℕ) × Terminal → List ℕ × Terminal
word_and_terminal entry = (entry.0.now, entry.1)

-- the terminal that a list gives to a word; a word that isn't in the list is a name
abbrev pub terminal_in : List (List ℕ × Terminal) → List ℕ → Terminal
terminal_in [] word = terminal.Name
terminal_in (entry ∷ rest) word = if bytes_eq entry.0 word then entry.1 else terminal_in rest word

-- ---- terminals

-- < > = ( ) , . ; * + -
abbrev pub one_char_terminal : ℕ → Terminal
one_char_terminal b =
    if b == 60 then terminal.Less
    else (if b == 62 then terminal.Greater
    else (if b == 61 then terminal.Equal
    else (if b == 40 then terminal.Open
    else (if b == 41 then terminal.Close
    else (if b == 44 then terminal.Comma
    else (if b == 46 then terminal.Dot
    else (if b == 59 then terminal.Semicolon
    else (if b == 42 then terminal.Star
    else (if b == 43 then terminal.Plus
    else terminal.Minus)))))))))

-- <> <= >=
abbrev pub pair_terminal : ℕ → ℕ → Terminal
pair_terminal b c = if b == 62 then terminal.GreaterOrEqual else (if c == 62 then terminal.NotEqual else terminal.LessOrEqual)

-- the terminal of a symbol's bytes
abbrev pub symbol_terminal : List ℕ → Terminal
symbol_terminal bytes = if length bytes == 2 then pair_terminal (slice_index bytes 0) (slice_index bytes 1)
    else one_char_terminal (slice_index bytes 0)

abbrev pub is_zero_digit : ℕ → Bool
is_zero_digit b = b == 48

-- a number whose digits are all 0 has a terminal of its own
abbrev pub number_terminal : List ℕ → Terminal
number_terminal bytes = if list_all is_zero_digit bytes then terminal.Zero else terminal.Number

-- the terminal of a token of these bytes; a delimited identifier is a name, even if its characters are those of a keyword
unfoldable pub terminal_of : TokenKind → List ℕ → Terminal
terminal_of kind.Word bytes = terminal_in keywords (in_upper_case bytes)
terminal_of kind.Quoted bytes = terminal.Name
terminal_of kind.Number bytes = number_terminal bytes
terminal_of kind.Text bytes = terminal.Text
terminal_of kind.Symbol bytes = symbol_terminal bytes

-- the token with its terminal
abbrev pub lexeme_of : List ℕ → Token → Lexeme
lexeme_of text token = record {
  terminal = terminal_of token.kind (slice text token.start token.end);
  start = token.start;
  end = token.end;
}

-- ---- names, text literals and numbers

-- the characters after an opening quote, up to the closing quote; a doubled quote is read as one quote
abbrev pub unquoted : ℕ → List ℕ → List ℕ
unquoted quote [] = []
unquoted quote (b ∷ []) = if b == quote then [] else b ∷ []
unquoted quote (b ∷ c ∷ rest) = if b == quote then (if c == quote then quote ∷ unquoted quote rest else []) else b ∷ unquoted quote (c ∷ rest)

-- the name in a token: the characters between the quotes of a delimited identifier, or a word folded to upper case
abbrev pub name_of_bytes : List ℕ → List ℕ
name_of_bytes [] = []
name_of_bytes (b ∷ rest) = if b == 34 then unquoted 34 rest else in_upper_case (b ∷ rest)

-- the name that a token spells, as its bytes. Names are equal if their bytes are equal (SQL-92 5.2)
unfoldable pub name_of : List ℕ → Lexeme → List ℕ
name_of text lexeme = name_of_bytes (slice text lexeme.start lexeme.end)

abbrev pub literal_of_bytes : List ℕ → List ℕ
literal_of_bytes [] = []
literal_of_bytes (b ∷ rest) = if b == 39 then unquoted 39 rest else b ∷ rest

-- the characters of a text literal, without its quotes
unfoldable pub literal_text_of : List ℕ → Lexeme → List ℕ
literal_text_of text lexeme = literal_of_bytes (slice text lexeme.start lexeme.end)

-- the decimal value of the digits of `value` followed by these digits
abbrev pub digits_from : ℕ → List ℕ → ℕ
digits_from value [] = value
digits_from value (b ∷ rest) = digits_from (value * 10 + (b - 48)) rest

-- the decimal value of a list of digits
unfoldable pub number_of : List ℕ → ℕ
number_of bytes = digits_from 0 bytes
