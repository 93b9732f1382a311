-- The table of commands, options and flags, with one row for each. A positional word is an argument that is neither an option nor
-- a flag, and no option's value.
use Rattle.std.specs.Prelude.{ℕ, ◌^◌, ◌-◌, ◌==◌, ◌&&◌, ◌||◌, not, nat_le, if◌then◌else◌, suc, zero, Bool, true, false, List, [], ◌∷◌, length, Option, Some, None, codes}
use Rattle.std.specs.Option.{option_map}
use Rattle.limits.specs.Profile.{least_accuracy, least_budget, most_accuracy, most_budget, most_memory, default_accuracy, default_budget}
use Rattle.safebound_words.specs.Commands.{demo_of, most_budget_of, over_query, shape_by, source_by, terms_by, append_command}
use Rattle.safebound_words.specs.Numbers.{number_within}
use Rattle.safebound_words.specs.Words.{Word}
use Rattle.safebound_words.specs.declared.command.Command.{Command}
use Rattle.safebound_words.specs.declared.command.OutText.{OutText}
use Rattle.safebound_words.specs.declared.command.OutText.TheVariants as out_text
use Rattle.safebound_words.specs.declared.command.PlanTerms.{PlanTerms}
use Rattle.safebound_words.specs.declared.command.QueryTask.{QueryTask}
use Rattle.safebound_words.specs.declared.command.QueryTask.TheVariants as query_tasks
use Rattle.safebound_words.specs.declared.table.CommandName.{CommandName}
use Rattle.safebound_words.specs.declared.table.CommandName.TheVariants as command
use Rattle.safebound_words.specs.declared.table.FlagName.{FlagName}
use Rattle.safebound_words.specs.declared.table.FlagName.TheVariants as flag
use Rattle.safebound_words.specs.declared.table.OptionName.{OptionName}
use Rattle.safebound_words.specs.declared.table.OptionName.TheVariants as option

-- an option: its word, its least and greatest value, and its default
pub record OptionRow : Type 0 where
  pub word : Word
  pub least : ℕ
  pub most : ℕ
  pub default_value : ℕ

abbrev pub number_option : Word → ℕ → ℕ → ℕ → OptionRow
number_option word least most default_value = record { word = word; least = least; most = most; default_value = default_value }

-- an option whose value is a file's name. Its numbers aren't used
abbrev pub file_option : Word → OptionRow
file_option word = number_option word 0 0 0

-- the least limit of memory, in bytes
abbrev pub least_memory : ℕ
least_memory = 1

-- one row for each option
abbrev pub option_row : OptionName → OptionRow
option_row option.Budget = number_option (codes "--budget") least_budget most_budget default_budget
option_row option.Accuracy = number_option (codes "--accuracy") least_accuracy most_accuracy default_accuracy
option_row option.Memory = number_option (codes "--memory") least_memory most_memory 0
option_row option.Stats = file_option (codes "--stats")

-- one row for each flag: its word
abbrev pub flag_word : FlagName → Word
flag_word flag.Reduce = codes "--reduce"
flag_word flag.Bushy = codes "--bushy"
flag_word flag.Keys = codes "--keys"
flag_word flag.Count = codes "--count"

-- what a command line gives: the values of each option, in the order of the line, and how often each flag is given
pub record Given : Type 0 where
  pub values : OptionName → List Word
  pub times : FlagName → ℕ

-- The value of an option. Without a word it is the default. A single word has to spell a number in the option's range. Two words or more have no
-- value
abbrev pub value_of : OptionName → List Word → Option ℕ
value_of option [] = Some (option_row option).default_value
value_of option (word ∷ []) = number_within (option_row option).least (option_row option).most word
value_of option (word ∷ another ∷ words) = None

-- the limit of memory, if there is one. The default is 0, which means no limit
abbrev pub limit_of : ℕ → Option ℕ
limit_of bytes = if bytes == 0 then None else Some bytes

-- whether a word may be a file's name: it isn't empty, and doesn't begin with a dash
abbrev pub is_file_name : Word → Bool
is_file_name [] = false
is_file_name (first ∷ rest) = not (first == 45)

-- the file that an option names, or Some None without the option. The result is None if the option is given twice, or if its word can't be a file's
-- name
abbrev pub option_file : List Word → Option (Option Word)
option_file [] = Some None
option_file (word ∷ []) = if is_file_name word then Some (Some word) else None
option_file (word ∷ another ∷ words) = None

-- whether a flag is given. There is no result if it is given twice or more
abbrev pub flag_value : ℕ → Option Bool
flag_value zero = Some false
flag_value (suc zero) = Some true
flag_value (suc (suc more)) = None

-- a command: its word, its options and its flags. `asks` is the command that it asks for, from the positional words, values and flags of the line
pub record CommandRow : Type 0 where
  pub word : Word
  pub options : List OptionName
  pub flags : List FlagName
  pub asks : List Word → Given → Option Command

abbrev pub table_row : Word → List OptionName → List FlagName → (List Word → Given → Option Command) → CommandRow
table_row word options flags asks = record { word = word; options = options; flags = flags; asks = asks }

-- gives a value to `rest`, if there is a value; otherwise there is no result
infixl 10 ◌>>=◌
abbrev pub ◌>>=◌ : {A B : Type 0} → Option A → (A → Option B) → Option B
None >>= rest = None
(Some value) >>= rest = rest value

-- the budget, shape and limit of memory of a plan. The budget is at most the greatest budget of the shape
abbrev pub terms_given : Given → Option PlanTerms
terms_given given = do
  bytes ← value_of option.Memory (given.values option.Memory)
  budget ← value_of option.Budget (given.values option.Budget)
  bushy ← flag_value (given.times flag.Bushy)
  if nat_le budget (most_budget_of (shape_by bushy)) then Some (terms_by budget bushy (limit_of bytes)) else None

-- whether neither another source of bounds nor an accuracy is given. `--count` requires this. It compresses nothing, so an accuracy makes no sense
abbrev pub count_is_compatible : Given → Bool → Bool → Bool
count_is_compatible given reduce keys = not (reduce || (keys || not (length (given.values option.Accuracy) == 0)))

-- a plan over tables. At most one of `--reduce`, `--keys` and `--count` may be given, and `--count` only without an accuracy
abbrev pub over_tables : OutText → PlanTerms → Given → Option QueryTask
over_tables out terms given = do
  accuracy ← value_of option.Accuracy (given.values option.Accuracy)
  reduce ← flag_value (given.times flag.Reduce)
  keys ← flag_value (given.times flag.Keys)
  count ← flag_value (given.times flag.Count)
  if keys && reduce then None
      else if count && not (count_is_compatible given reduce keys) then None
      else Some (query_tasks.Plan (record { terms = terms; accuracy = accuracy; source = source_by reduce keys count; out = out }))

-- whether neither an accuracy nor another source of bounds is given: a statistics file has its own accuracy
abbrev pub stats_file_is_compatible : Given → Bool
stats_file_is_compatible given =
    length (given.values option.Accuracy) == 0 && (given.times flag.Reduce == 0 && (given.times flag.Keys == 0 && given.times flag.Count == 0))

-- a plan from a statistics file
abbrev pub from_file : Word → PlanTerms → Given → Option QueryTask
from_file file terms given = if stats_file_is_compatible given then Some (query_tasks.PlanFromStats file terms) else None

-- a plan from a statistics file if one is given, otherwise a plan over tables
abbrev pub from_file_or_tables : OutText → Option Word → PlanTerms → Given → Option QueryTask
from_file_or_tables out None terms given = over_tables out terms given
from_file_or_tables out (Some file) terms given = from_file file terms given

abbrev pub work_given : OutText → PlanTerms → Given → Option QueryTask
work_given out terms given = option_file (given.values option.Stats) >>= λ file. from_file_or_tables out file terms given

-- a plan takes exactly two positional words, SCHEMA and QUERY
unfoldable pub over_files : OutText → List Word → Given → Option Command
over_files out (schema ∷ query ∷ []) given = do
  terms ← terms_given given
  work ← work_given out terms given
  Some (over_query None schema query work)
over_files out positionals given = None

-- `stats` takes exactly two positional words, SCHEMA and QUERY. It may have an accuracy
abbrev pub stats_request : List Word → Given → Option Command
stats_request (schema ∷ query ∷ []) given = option_map (λ accuracy. over_query None schema query (query_tasks.WriteStats accuracy)) (value_of option.Accuracy (given.values option.Accuracy))
stats_request positionals given = None

-- `append` takes exactly four positional words: SCHEMA, STATS, TABLE and ROWS
abbrev pub append_request : List Word → Given → Option Command
append_request (schema ∷ file ∷ table ∷ rows ∷ []) given = Some (append_command schema (record { stats_file = file; table = table; rows_file = rows }))
append_request positionals given = None

-- `demo` takes exactly one positional word, NUMBER
abbrev pub demo_request : List Word → Given → Option Command
demo_request (number ∷ []) given = option_map demo_of (number_within 0 (2 ^ 32 - 1) number)
demo_request positionals given = None

-- one row for each command
abbrev pub command_row : CommandName → CommandRow
command_row command.Run = table_row (codes "run") (option.Budget ∷ option.Accuracy ∷ option.Memory ∷ []) (flag.Reduce ∷ flag.Bushy ∷ flag.Keys ∷ flag.Count ∷ []) (over_files out_text.Rows)
command_row command.Plan = table_row (codes "plan") (option.Budget ∷ option.Accuracy ∷ option.Memory ∷ option.Stats ∷ []) (flag.Reduce ∷ flag.Bushy ∷ flag.Keys ∷ flag.Count ∷ []) (over_files out_text.Nothing)
command_row command.Audit = table_row (codes "audit") (option.Budget ∷ option.Accuracy ∷ option.Memory ∷ []) (flag.Reduce ∷ flag.Bushy ∷ flag.Keys ∷ flag.Count ∷ []) (over_files out_text.Audit)
command_row command.Stats = table_row (codes "stats") (option.Accuracy ∷ []) [] stats_request
command_row command.Append = table_row (codes "append") [] [] append_request
command_row command.Demo = table_row (codes "demo") [] [] demo_request
