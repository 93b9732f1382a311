-- The command that words ask for, computed by reading the words from the first to the last.
use Rattle.std.specs.Prelude.{◌==◌, if◌then◌else◌, find, List, [], ◌∷◌, Option, Some, None, codes}
use Rattle.std.specs.Option.{option_map}
use Rattle.std.specs.Str.{bytes_eq}
use Rattle.safebound_words.specs.CommandLines.{Flag, WithNextWord, Item, WithEquals, Positional, CommandReading, requested}
use Rattle.safebound_words.specs.declared.command.Command.{Command}
use Rattle.safebound_words.specs.Table.{command_row, flag_word, option_row, ◌>>=◌}
use Rattle.safebound_words.specs.Words.{Word, is_dashed}
use Rattle.safebound_words.specs.declared.table.CommandName.{CommandName}
use Rattle.safebound_words.specs.declared.table.CommandName.TheVariants as command
use Rattle.safebound_words.specs.declared.table.FlagName.{FlagName}
use Rattle.safebound_words.specs.declared.table.OptionName.{OptionName}

abbrev pub command_named : Word → Option CommandName
command_named word = find (λ name. bytes_eq word (command_row name).word)
    (command.Run ∷ command.Plan ∷ command.Audit ∷ command.Stats ∷ command.Append ∷ command.Demo ∷ [])

abbrev pub option_named : CommandName → Word → Option OptionName
option_named name word = find (λ option. bytes_eq word (option_row option).word) (command_row name).options

abbrev pub flag_named : CommandName → Word → Option FlagName
flag_named name word = find (λ flag. bytes_eq word (flag_word flag)) (command_row name).flags

-- a word up to its first `=`, and what comes after the `=`, if there is one
abbrev pub split_value : Word → Word × Option Word
split_value [] = ([], None)
split_value (first ∷ rest) = if first == 61 then ([], Some rest) else (first ∷ (split_value rest).0, (split_value rest).1)

-- the kind of a word before `--`
pub data WordKind : Type 0 where
  Ends : WordKind
  IsPositional : WordKind
  Sets : FlagName → WordKind
  Wants : OptionName → WordKind
  Gives : OptionName → Word → WordKind
  Unknown : WordKind

abbrev pub option_kind : Option OptionName → Option Word → WordKind
option_kind None value = Unknown
option_kind (Some option) None = Wants option
option_kind (Some option) (Some value) = Gives option value

abbrev pub dashed_kind : Option FlagName → WordKind → WordKind
dashed_kind None otherwise = otherwise
dashed_kind (Some flag) otherwise = Sets flag

unfoldable pub kind_of_word : CommandName → Word → WordKind
kind_of_word name word =
    if bytes_eq word (codes "--") then Ends
    else if is_dashed word
    then dashed_kind (flag_named name word) (option_kind (option_named name (split_value word).0) (split_value word).1)
    else IsPositional

-- the items of a line, and the words after `--`
abbrev pub ItemsAndAfterDashes : Type 0
ItemsAndAfterDashes = List Item × List Word

abbrev pub in_front : Item → Option ItemsAndAfterDashes → Option ItemsAndAfterDashes
in_front item parts = option_map (λ p. (item ∷ p.0, p.1)) parts

-- the reading of a word and the words after it, by the kind of the word
abbrev pub read_by : WordKind → Word → List Word → (Option OptionName → Option ItemsAndAfterDashes) → Option ItemsAndAfterDashes
read_by Ends word words read_on = Some ([], words)
read_by IsPositional word words read_on = in_front (Positional word) (read_on None)
read_by (Sets flag) word words read_on = in_front (Flag flag) (read_on None)
read_by (Wants option) word words read_on = read_on (Some option)
read_by (Gives option value) word words read_on = in_front (WithEquals option value) (read_on None)
read_by Unknown word words read_on = None

-- the reading of the remaining words. If an option waits for its value, the next word is this value
unfoldable pub parts_from : CommandName → Option OptionName → List Word → Option ItemsAndAfterDashes
parts_from name None [] = Some ([], [])
parts_from name (Some option) [] = None
parts_from name (Some option) (word ∷ words) = in_front (WithNextWord option word) (parts_from name None words)
parts_from name None (word ∷ words) = read_by (kind_of_word name word) word words (λ wanted. parts_from name wanted words)

unfoldable pub reading_of : List Word → Option CommandReading
reading_of [] = None
reading_of (first ∷ words) = do
  name ← command_named first
  parts ← parts_from name None words
  Some (record { command = name; items = parts.0; after_dashes = parts.1 })

unfoldable pub command_of : List Word → Option Command
command_of words = reading_of words >>= requested
