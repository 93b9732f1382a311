-- Command lines: a command's name, items that its row of the table allows, and maybe `--` with further positional words.
use Rattle.std.specs.Prelude.{ℕ, ◌≡◌, ◌⊎◌, Bool, false, if◌then◌else◌, List, [], ◌∷◌, ◌++◌, Option, Some, codes}
use Rattle.std.specs.List.{AllByRecursion, flat_map, list_any, sum_by}
use Rattle.std.specs.Str.{bytes_eq}
use Rattle.std.specs.Bool.{IsTrue}
use Rattle.safebound_words.specs.declared.command.Command.{Command}
use Rattle.safebound_words.specs.Table.{Given, command_row, flag_word, option_row}
use Rattle.safebound_words.specs.Words.{Word, is_dashed}
use Rattle.safebound_words.specs.declared.table.CommandName.{CommandName}
use Rattle.safebound_words.specs.declared.table.FlagName.{FlagName}
use Rattle.safebound_words.specs.declared.table.OptionName.{OptionName}

-- an item comes before `--`. It is a positional word, a flag, or an option and its value. An option and its value are two words, or one word with
-- `=` between them
pub data Item : Type 0 where
  Positional : Word → Item
  Flag : FlagName → Item
  WithNextWord : OptionName → Word → Item
  WithEquals : OptionName → Word → Item

-- the words of an item; the value is any word
abbrev pub spelling : Item → List Word
spelling (Positional word) = word ∷ []
spelling (Flag flag) = flag_word flag ∷ []
spelling (WithNextWord option value) = (option_row option).word ∷ value ∷ []
spelling (WithEquals option value) = ((option_row option).word ++ codes "=" ++ value) ∷ []

-- two options are the same if they have the same word
abbrev pub same_option : OptionName → OptionName → Bool
same_option one other = bytes_eq (option_row one).word (option_row other).word

-- the command has this option
abbrev pub has_option : CommandName → OptionName → Bool
has_option command option = list_any (same_option option) (command_row command).options

-- two flags are the same if they have the same word
abbrev pub same_flag : FlagName → FlagName → Bool
same_flag one other = bytes_eq (flag_word one) (flag_word other)

-- the command has this flag
abbrev pub has_flag : CommandName → FlagName → Bool
has_flag command flag = list_any (same_flag flag) (command_row command).flags

-- whether a line of the command may have this item. A positional word before `--` isn't dashed
abbrev pub IsItemOf : CommandName → Item → Type 0
IsItemOf command (Positional word) = is_dashed word ≡ false
IsItemOf command (Flag flag) = IsTrue (has_flag command flag)
IsItemOf command (WithNextWord option value) = IsTrue (has_option command option)
IsItemOf command (WithEquals option value) = IsTrue (has_option command option)

-- a reading of a list of words: a command, its items, and the words after `--`
pub record CommandReading : Type 0 where
  pub command : CommandName
  pub items : List Item
  pub after_dashes : List Word

-- after the items comes nothing, or `--` and any words
abbrev pub IsEnd : List Word → List Word → Type 0
IsEnd rest after_dashes = ((rest ≡ []) × (after_dashes ≡ [])) ⊎ (rest ≡ codes "--" ∷ after_dashes)

-- the words are the command's name, then the spelled items, then the end
pub record AreReadAs (words : List Word) (reading : CommandReading) : Type 0 where
  pub rest : List Word
  pub spelled : words ≡ (command_row reading.command).word ∷ (flat_map spelling reading.items ++ rest)
  pub end : IsEnd rest reading.after_dashes
  pub items : AllByRecursion (IsItemOf reading.command) reading.items

-- the positional words of an item, the values that it gives to an option, and how often it has a flag
abbrev pub positional_words : Item → List Word
positional_words (Positional word) = word ∷ []
positional_words (Flag flag) = []
positional_words (WithNextWord option value) = []
positional_words (WithEquals option value) = []

abbrev pub given_by : OptionName → Item → List Word
given_by option (Positional word) = []
given_by option (Flag flag) = []
given_by option (WithNextWord other value) = if same_option option other then value ∷ [] else []
given_by option (WithEquals other value) = if same_option option other then value ∷ [] else []

abbrev pub times_set_by : FlagName → Item → ℕ
times_set_by flag (Positional word) = 0
times_set_by flag (Flag other) = if same_flag flag other then 1 else 0
times_set_by flag (WithNextWord option value) = 0
times_set_by flag (WithEquals option value) = 0

-- the values that items give to each option, and how often they have each flag
abbrev pub given_of_items : List Item → Given
given_of_items items = record {
  values = λ option. flat_map (given_by option) items;
  times = λ flag. sum_by (times_set_by flag) items;
}

-- the command that a reading asks for, if any
abbrev pub requested : CommandReading → Option Command
requested reading = (command_row reading.command).asks (flat_map positional_words reading.items ++ reading.after_dashes) (given_of_items reading.items)

-- the words ask for this command: some reading of them requests it
abbrev pub AskFor : List Word → Command → Type 0
AskFor words command = (reading : CommandReading) × AreReadAs words reading × (requested reading ≡ Some command)
