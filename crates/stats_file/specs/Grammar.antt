-- The grammar of statistics files, as lists of lines. The grammar allows numbers and names of any length. The rules (`KeepsRules`) say which numbers
-- and names a file may have.
use Rattle.std.specs.Prelude.{ℕ, ◌≡◌, ◌≢◌, ◌&&◌, ◌||◌, ◌==◌, ◌⊎◌, nat_le, nat_lt, Bool, true, false, List, [], ◌∷◌, ◌++◌, length, codes}
use Rattle.std.specs.Char.{is_ascii_digit}
use Rattle.std.specs.List.{AllByRecursion, flat_map, list_all}

-- ---- words

-- decimal digits, at least one, without leading zeros
abbrev pub is_numeral : List ℕ → Bool
is_numeral [] = false
is_numeral (digit ∷ digits) = is_ascii_digit digit && list_all is_ascii_digit digits && (nat_lt 48 digit || length digits == 0)

abbrev pub IsNumeral : List ℕ → Type 0
IsNumeral word = is_numeral word ≡ true

-- a numeral, or a dash and a numeral that isn't zero
abbrev pub IsSignedNumeral : List ℕ → Type 0
IsSignedNumeral word = IsNumeral word ⊎ ((digits : List ℕ) × (word ≡ 45 ∷ digits) × IsNumeral digits × (digits ≢ codes "0"))

-- 0 to 9 or a to f
abbrev pub is_hex_digit : ℕ → Bool
is_hex_digit c = is_ascii_digit c || (nat_le 97 c && nat_le c 102)

-- pairs of hexadecimal digits
abbrev pub are_hex_pairs : List ℕ → Bool
are_hex_pairs [] = true
are_hex_pairs (high ∷ []) = false
are_hex_pairs (high ∷ low ∷ rest) = is_hex_digit high && is_hex_digit low && are_hex_pairs rest

abbrev pub IsHexWord : List ℕ → Type 0
IsHexWord word = (pairs : List ℕ) × (word ≡ 120 ∷ pairs) × (are_hex_pairs pairs ≡ true)

abbrev pub IsValueWord : List ℕ → Type 0
IsValueWord word = IsSignedNumeral word ⊎ IsHexWord word

-- N*N, a run of equal numbers: the number, a star, and how many there are
pub record IsRunWord (word : List ℕ) : Type 0 where
  pub value : List ℕ
  pub count : List ℕ
  pub value_is : IsNumeral value
  pub count_is : IsNumeral count
  pub whole : word ≡ value ++ (codes "*" ++ count)

-- one or more runs with single blanks between them. A list is written as these runs, or as a dash if it is empty
pub record AreRunWords (word : List ℕ) : Type 0 where
  pub first : List ℕ
  pub others : List (List ℕ)
  pub first_is : IsRunWord first
  pub others_are : AllByRecursion IsRunWord others
  pub whole : word ≡ first ++ flat_map (λ run. codes " " ++ run) others

abbrev pub IsListWord : List ℕ → Type 0
IsListWord word = (word ≡ codes "-") ⊎ AreRunWords word

-- ---- lines, each with its end

-- the line is a fixed beginning and then one word
pub record IsLineOf (front : List ℕ) (IsWord : List ℕ → Type 0) (line : List ℕ) : Type 0 where
  pub word : List ℕ
  pub word_is : IsWord word
  pub whole : line ≡ front ++ (word ++ codes "\n")

-- the line is a fixed beginning, and then two words with a blank between them
pub record IsLineOfTwo (front : List ℕ) (IsFirst IsSecond : List ℕ → Type 0) (line : List ℕ) : Type 0 where
  pub first : List ℕ
  pub second : List ℕ
  pub first_is : IsFirst first
  pub second_is : IsSecond second
  pub whole : line ≡ front ++ (first ++ (codes " " ++ (second ++ codes "\n")))

abbrev pub IsFirstLine : List ℕ → Type 0
IsFirstLine = IsLineOf (codes "safebound-stats 1 ") IsNumeral

abbrev pub IsTableLine : List ℕ → Type 0
IsTableLine = IsLineOfTwo (codes "table ") IsHexWord IsNumeral

abbrev pub IsPairLine : List ℕ → Type 0
IsPairLine = IsLineOfTwo (codes "pair ") IsHexWord IsHexWord

abbrev pub IsWholeLine : List ℕ → Type 0
IsWholeLine = IsLineOf (codes "whole ") IsListWord

abbrev pub IsFrequentLine : List ℕ → Type 0
IsFrequentLine = IsLineOfTwo (codes "frequent ") IsValueWord IsListWord

abbrev pub IsRestLine : List ℕ → Type 0
IsRestLine = IsLineOf (codes "rest ") IsListWord

abbrev pub IsCutLine : List ℕ → Type 0
IsCutLine = IsLineOf (codes "cut ") IsValueWord

abbrev pub IsNodeLine : List ℕ → Type 0
IsNodeLine = IsLineOf (codes "node ") IsListWord

-- ---- texts, as lists of lines

-- the lines of a pair: its columns, `whole`, any number of `frequent` lines, `rest`, any number of `cut` lines, and any number of `node` lines
pub record ArePairLines (lines : List (List ℕ)) : Type 0 where
  pub head : List ℕ
  pub whole : List ℕ
  pub frequent : List (List ℕ)
  pub rest : List ℕ
  pub cuts : List (List ℕ)
  pub nodes : List (List ℕ)
  pub head_is : IsPairLine head
  pub whole_is : IsWholeLine whole
  pub frequent_are : AllByRecursion IsFrequentLine frequent
  pub rest_is : IsRestLine rest
  pub cuts_are : AllByRecursion IsCutLine cuts
  pub nodes_are : AllByRecursion IsNodeLine nodes
  pub all : lines ≡ head ∷ (whole ∷ (frequent ++ (rest ∷ (cuts ++ nodes))))

-- the lines of a table: its name and number of rows, and any number of pairs
pub record AreTableLines (lines : List (List ℕ)) : Type 0 where
  pub head : List ℕ
  pub pairs : List (List (List ℕ))
  pub head_is : IsTableLine head
  pub pairs_are : AllByRecursion ArePairLines pairs
  pub all : lines ≡ head ∷ flat_map (λ pair. pair) pairs

-- the lines of a text: its first line, any number of tables, and `end`
pub record IsText (lines : List (List ℕ)) : Type 0 where
  pub head : List ℕ
  pub tables : List (List (List ℕ))
  pub head_is : IsFirstLine head
  pub tables_are : AllByRecursion AreTableLines tables
  pub all : lines ≡ head ∷ (flat_map (λ table. table) tables ++ (codes "end\n" ∷ []))
