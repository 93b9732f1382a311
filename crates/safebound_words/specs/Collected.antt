-- What the code has read of a command line (a `Line`), and the command that a line and the remaining words ask for.
use Rattle.std.specs.Prelude.{ℕ, ◌+◌, if◌then◌else◌, List, [], ◌∷◌, ◌++◌, Option, Some, None}
use Rattle.std.specs.Borrow.{Bor}
use Rattle.std.specs.Bool.{IsTrue}
use Rattle.std.specs.List.{flat_map, sum_by}
use Rattle.std.specs.Option.{option_map, option_to_list}
use Rattle.safebound_words.specs.Answer.{ItemsAndAfterDashes, parts_from}
use Rattle.safebound_words.specs.CommandLines.{Item, given_by, has_option, positional_words, requested, times_set_by}
use Rattle.safebound_words.specs.declared.command.Command.{Command}
use Rattle.safebound_words.specs.Table.{Given, command_row, ◌>>=◌}
use Rattle.safebound_words.specs.Words.{Word}
use Rattle.safebound_words.specs.declared.table.CommandName.{CommandName}
use Rattle.safebound_words.specs.declared.table.FlagName.{FlagName}
use Rattle.safebound_words.specs.declared.table.FlagName.TheVariants as flag
use Rattle.safebound_words.specs.declared.table.OptionName.{OptionName}
use Rattle.safebound_words.specs.declared.table.OptionName.TheVariants as option
use Rattle.safebound_words.specs.declared.line.Positionals.{Positionals}
use Rattle.safebound_words.specs.declared.line.Positionals.TheVariants as positionals
use Rattle.safebound_words.specs.declared.line.Next.{Next}
use Rattle.safebound_words.specs.declared.line.Next.TheVariants as next
use Rattle.safebound_words.specs.declared.line.Line.{Line}

abbrev pub words_of : Positionals → List Word
words_of positionals.Nothing = []
words_of (positionals.One first) = first.now ∷ []
words_of (positionals.Two first second) = first.now ∷ second.now ∷ []
words_of (positionals.Three first second third) = first.now ∷ second.now ∷ third.now ∷ []
words_of (positionals.Four first second third fourth) = first.now ∷ second.now ∷ third.now ∷ fourth.now ∷ []

-- the value that was given to an option, if any
abbrev pub option_words : Option (Bor (List ℕ)) → List Word
option_words given = option_to_list (option_map (λ word. word.now) given)

abbrev pub given_to : Line → OptionName → List Word
given_to line option.Budget = option_words line.budget
given_to line option.Accuracy = option_words line.accuracy
given_to line option.Memory = option_words line.memory
given_to line option.Stats = option_words line.stats

-- how often a flag was given
abbrev pub times_of : Line → FlagName → ℕ
times_of line flag.Reduce = if line.reduce then 1 else 0
times_of line flag.Bushy = if line.bushy then 1 else 0
times_of line flag.Keys = if line.keys then 1 else 0
times_of line flag.Count = if line.count then 1 else 0

abbrev pub given_of : Line → Given
given_of line = record { values = given_to line; times = times_of line }

-- the values that a line and further items give to each option, and how often they have each flag
abbrev pub given_with : Line → List Item → Given
given_with line items = record {
  values = λ option. given_to line option ++ flat_map (given_by option) items;
  times = λ flag. times_of line flag + sum_by (times_set_by flag) items;
}

-- the reading of the remaining words. `next` says what the first of these words may be
abbrev pub parts_next : CommandName → Next → List Word → Option ItemsAndAfterDashes
parts_next name next.Item words = parts_from name None words
parts_next name (next.Value option) words = parts_from name (Some option) words
parts_next name next.Positional words = Some ([], words)

-- the command that a line asks for if no words remain, if any
abbrev pub collected : CommandName → Line → Option Command
collected name line = (command_row name).asks (words_of line.positionals) (given_of line)

-- the command that a line and further parts ask for, if any
unfoldable pub asked_with : CommandName → Line → ItemsAndAfterDashes → Option Command
asked_with name line parts = (command_row name).asks
    (words_of line.positionals ++ (flat_map positional_words parts.0 ++ parts.1))
    (given_with line parts.0)

-- the command that a line and the remaining words ask for, if any
unfoldable pub asked_from : CommandName → Line → Next → List Word → Option Command
asked_from name line next words = parts_next name next words >>= asked_with name line

-- the command that a command's name and all words after it ask for, if any
unfoldable pub asked_by : CommandName → List Word → Option Command
asked_by name words = parts_from name None words >>= λ parts. requested (record { command = name; items = parts.0; after_dashes = parts.1 })

-- an option that waits for its value is an option of the command
abbrev pub FitsNext : CommandName → Next → Type 0
FitsNext name next.Item = Unit {0}
FitsNext name (next.Value option) = IsTrue (has_option name option)
FitsNext name next.Positional = Unit {0}
