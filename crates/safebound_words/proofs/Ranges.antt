-- If words ask for a command, the command's values are in their ranges, and only `demo` has a shop.
use Rattle.std.proofs.Common.{◌≡◌, ◌≤◌, ◌&&◌, ℕ, Bool, true, false, inl, inr, List, [], ◌∷◌, Option, None, Some, ap, sym, refl, ◌∙◌, subst, arith}
use Rattle.std.specs.Prelude.{nat_le, not, if◌then◌else◌, option_map}
use Rattle.std.proofs.lemmas.Bool.{cases_Bool}
use Rattle.std.proofs.lemmas.Bool.Decides.{nat_tests}
use Rattle.safebound_words.specs.Answer.{command_of, reading_of}
use Rattle.safebound_words.specs.CommandLines.{CommandReading, requested}
use Rattle.safebound_words.specs.Commands.{demo_of, most_budget_of, over_query, shape_by, source_by, terms_by, append_command}
use Rattle.safebound_words.specs.InRange.{HasRanges, WorkHasRanges}
use Rattle.safebound_words.specs.Numbers.{is_number, number_of, number_within}
use Rattle.safebound_words.specs.Table.{Given, command_row, count_is_compatible, stats_file_is_compatible, from_file_or_tables, flag_value, limit_of, append_request, demo_request, stats_request, option_file, over_files, over_tables, terms_given, value_of, work_given, ◌>>=◌}
use Rattle.safebound_words.specs.Words.{Word}
use Rattle.safebound_words.specs.declared.command.Command.{Command}
use Rattle.safebound_words.specs.declared.command.OutText.{OutText}
use Rattle.safebound_words.specs.declared.command.OutText.TheVariants as out_text
use Rattle.safebound_words.specs.declared.command.PlanTerms.{PlanTerms}
use Rattle.safebound_words.specs.declared.command.PlanWork.{PlanWork}
use Rattle.safebound_words.specs.declared.command.QueryTask.{QueryTask}
use Rattle.safebound_words.specs.declared.command.QueryTask.TheVariants as query_tasks
use Rattle.safebound_words.specs.declared.table.CommandName.{CommandName}
use Rattle.safebound_words.specs.declared.table.CommandName.TheVariants as command
use Rattle.safebound_words.specs.declared.table.FlagName.TheVariants as flag
use Rattle.safebound_words.specs.declared.table.OptionName.TheVariants as option
use Rattle.safebound_words.proofs.Readings.{bind_inversion}

record IsAsked (asked : Command) : Type 0 where
  ranges : HasRanges asked.schema_task
  shop : (number : ℕ) → asked.shop ≡ Some number → asked ≡ demo_of number

asked_without_shop : (asked : Command) → asked.shop ≡ None → HasRanges asked.schema_task → IsAsked asked
asked_without_shop asked none ranges = record {
  ranges = ranges;
  shop = λ number is. absurd (let no : ◌≡◌ {A = Option ℕ} None (Some number) = sym none ∙ is in cc);
}

-- ---- ranges of single values

number_if : (test : Bool) (least most number n : ℕ) → (test ≡ true → (least ≤ number) × (number ≤ most)) → (if test then Some number else None) ≡ Some n → (least ≤ n) × (n ≤ most)
number_if true least most number n in_range is = let same : number ≡ n = cc in (omega (arith, same, (in_range refl).0), omega (arith, same, (in_range refl).1))
number_if false least most number n in_range is = absurd (cc)

both_tests : (digits : Bool) (least most number : ℕ) → (digits && nat_le least number && nat_le number most) ≡ true → (least ≤ number) × (number ≤ most)
both_tests false least most number h = cc
both_tests true least most number h = elim (cases_Bool (nat_le least number)) [
  | inl low ↦ elim (cases_Bool (nat_le number most)) [
    | inl high ↦ (grind (arith, nat_tests), grind (arith, nat_tests))
    | inr past ↦ (let no : (nat_le least number && nat_le number most) ≡ false = rw (low, past) refl in absurd (cc))
  ]
  | inr short ↦ (let no : (nat_le least number && nat_le number most) ≡ false = rw short refl in absurd (cc))
]

number_in_range : (least most : ℕ) (word : Word) (n : ℕ) → number_within least most word ≡ Some n → (least ≤ n) × (n ≤ most)
number_in_range least most word n is =
    number_if (is_number word && nat_le least (number_of word) && nat_le (number_of word) most) least most (number_of word) n (both_tests (is_number word) least most (number_of word)) is

accuracy_in_range : (given : List Word) (n : ℕ) → value_of option.Accuracy given ≡ Some n → (1 ≤ n) × (n ≤ 64)
accuracy_in_range [] n is = let same : 1 ≡ n = cc in (omega arith, omega arith)
accuracy_in_range (word ∷ []) n is = number_in_range 1 64 word n is
accuracy_in_range (word ∷ another ∷ words) n is = absurd (cc)

-- ---- ranges of the values of each command

request_if : {A : Type 0} (test : Bool) (made r : A) → (if test then Some made else None) ≡ Some r → (test ≡ true) × (made ≡ r)
request_if true made r is = (refl, cc)
request_if false made r is = absurd (cc)

-- `is_excluded` says whether an option or flag is given that excludes this command
asked_if_not_excluded : {A : Type 0} (is_excluded : Bool) (asked : Option A) (r : A) → (if is_excluded then None else asked) ≡ Some r → asked ≡ Some r
asked_if_not_excluded true asked r is = absurd (cc)
asked_if_not_excluded false asked r is = is

most_if : (most n : ℕ) → nat_le n most ≡ true → n ≤ most
most_if most n is = grind (arith, nat_tests)

abbrev IsBudgetInRange : PlanTerms → Type 0
IsBudgetInRange terms = terms.budget ≤ most_budget_of terms.shape

terms_in_range : (given : Given) (terms : PlanTerms) → terms_given given ≡ Some terms → IsBudgetInRange terms
terms_in_range given terms is =
    let bytes = bind_inversion (value_of option.Memory (given.values option.Memory)) _ terms is in
    let budget = bind_inversion (value_of option.Budget (given.values option.Budget)) _ terms bytes.2 in
    let bushy = bind_inversion (flag_value (given.times flag.Bushy)) _ terms budget.2 in
    let made = request_if (nat_le budget.0 (most_budget_of (shape_by bushy.0))) (terms_by budget.0 bushy.0 (limit_of bytes.0)) terms bushy.2 in
    subst IsBudgetInRange made.1 (most_if (most_budget_of (shape_by bushy.0)) budget.0 made.0)

module _ (out : OutText) (terms : PlanTerms) (budget_in_range : terms.budget ≤ most_budget_of terms.shape) (given : Given) (work : QueryTask) where
  tables_in_range : over_tables out terms given ≡ Some work → WorkHasRanges work
  tables_in_range is =
      let accuracy = bind_inversion (value_of option.Accuracy (given.values option.Accuracy)) _ work is in
      let reduce = bind_inversion (flag_value (given.times flag.Reduce)) _ work accuracy.2 in
      let keys = bind_inversion (flag_value (given.times flag.Keys)) _ work reduce.2 in
      let count = bind_inversion (flag_value (given.times flag.Count)) _ work keys.2 in
      let task : PlanWork = record { terms = terms; accuracy = accuracy.0; source = source_by reduce.0 keys.0 count.0; out = out } in
      let late : Option QueryTask = if count.0 && not (count_is_compatible given reduce.0 keys.0) then None else Some (query_tasks.Plan task) in
      let alone = asked_if_not_excluded (count.0 && not (count_is_compatible given reduce.0 keys.0)) (Some (query_tasks.Plan task)) work (asked_if_not_excluded (keys.0 && reduce.0) late work count.2) in
      let same : query_tasks.Plan task ≡ work = cc in
      let close = accuracy_in_range (given.values option.Accuracy) accuracy.0 accuracy.1 in
      subst WorkHasRanges same (record { accuracy_least = omega (arith, close.0); accuracy_most = close.1; budget = budget_in_range })

  either_in_range : (file : Option Word) → from_file_or_tables out file terms given ≡ Some work → WorkHasRanges work
  either_in_range None is = tables_in_range is
  either_in_range (Some file) is = let made = request_if (stats_file_is_compatible given) (query_tasks.PlanFromStats file terms) work is in subst WorkHasRanges made.1 budget_in_range

  work_in_range : work_given out terms given ≡ Some work → WorkHasRanges work
  work_in_range is = let file = bind_inversion (option_file (given.values option.Stats)) _ work is in either_in_range file.0 file.2

over_files_in_range : (out : OutText) (positionals : List Word) (given : Given) (r : Command) → over_files out positionals given ≡ Some r → IsAsked r
unfolding over_files
over_files_in_range out [] given r is = absurd (cc)
over_files_in_range out (schema ∷ []) given r is = absurd (cc)
over_files_in_range out (schema ∷ query ∷ []) given r is =
    let terms = bind_inversion (terms_given given) _ r is in
    let work = bind_inversion (work_given out terms.0 given) _ r terms.2 in
    let same : over_query None schema query work.0 ≡ r = cc in
    subst IsAsked same (asked_without_shop (over_query None schema query work.0) refl (work_in_range out terms.0 (terms_in_range given terms.0 terms.1) given work.0 work.1))
over_files_in_range out (schema ∷ query ∷ more ∷ positionals) given r is = absurd (cc)

accuracy_has : (accuracy : Option ℕ) (schema query : Word) (r : Command) → ((n : ℕ) → accuracy ≡ Some n → (1 ≤ n) × (n ≤ 64))
    → option_map (λ a. over_query None schema query (query_tasks.WriteStats a)) accuracy ≡ Some r → IsAsked r
accuracy_has None schema query r close is = absurd (cc)
accuracy_has (Some a) schema query r close is = let same : over_query None schema query (query_tasks.WriteStats a) ≡ r = cc in subst IsAsked same (asked_without_shop (over_query None schema query (query_tasks.WriteStats a)) refl (omega (arith, (close a refl).0), (close a refl).1))

stats_in_range : (positionals : List Word) (given : Given) (r : Command) → stats_request positionals given ≡ Some r → IsAsked r
stats_in_range [] given r is = absurd (cc)
stats_in_range (schema ∷ []) given r is = absurd (cc)
stats_in_range (schema ∷ query ∷ []) given r is =
    accuracy_has (value_of option.Accuracy (given.values option.Accuracy)) schema query r (accuracy_in_range (given.values option.Accuracy)) is
stats_in_range (schema ∷ query ∷ more ∷ positionals) given r is = absurd (cc)

append_in_range : (positionals : List Word) (given : Given) (r : Command) → append_request positionals given ≡ Some r → IsAsked r
append_in_range [] given r is = absurd (cc)
append_in_range (schema ∷ []) given r is = absurd (cc)
append_in_range (schema ∷ file ∷ []) given r is = absurd (cc)
append_in_range (schema ∷ file ∷ table ∷ []) given r is = absurd (cc)
append_in_range (schema ∷ file ∷ table ∷ rows ∷ []) given r is =
    let same : append_command schema (record { stats_file = file; table = table; rows_file = rows }) ≡ r = cc in
    subst IsAsked same (asked_without_shop (append_command schema (record { stats_file = file; table = table; rows_file = rows })) refl tt)
append_in_range (schema ∷ file ∷ table ∷ rows ∷ more ∷ positionals) given r is = absurd (cc)

number_has : (number : Option ℕ) (r : Command) → option_map demo_of number ≡ Some r → IsAsked r
number_has None r is = absurd (cc)
number_has (Some n) r is =
    let same : demo_of n ≡ r = cc in
    subst IsAsked same (record {
      ranges = record { accuracy_least = omega arith; accuracy_most = omega arith; budget = omega arith };
      shop = λ number is. (let same : n ≡ number = cc in ap demo_of same);
    })

demo_in_range : (positionals : List Word) (given : Given) (r : Command) → demo_request positionals given ≡ Some r → IsAsked r
demo_in_range [] given r is = absurd (cc)
demo_in_range (number ∷ []) given r is = number_has (number_within 0 4294967295 number) r is
demo_in_range (number ∷ more ∷ positionals) given r is = absurd (cc)

asks_in_range : (name : CommandName) (positionals : List Word) (given : Given) (r : Command) → (command_row name).asks positionals given ≡ Some r → IsAsked r
asks_in_range command.Run positionals given r is = over_files_in_range out_text.Rows positionals given r is
asks_in_range command.Plan positionals given r is = over_files_in_range out_text.Nothing positionals given r is
asks_in_range command.Audit positionals given r is = over_files_in_range out_text.Audit positionals given r is
asks_in_range command.Stats positionals given r is = stats_in_range positionals given r is
asks_in_range command.Append positionals given r is = append_in_range positionals given r is
asks_in_range command.Demo positionals given r is = demo_in_range positionals given r is

-- ---- ranges of the command that words ask for

read_in_range : (reading : Option CommandReading) (r : Command) → (reading >>= requested) ≡ Some r → IsAsked r
read_in_range None r is = absurd (cc)
read_in_range (Some reading) r is = asks_in_range reading.command _ _ r is

asked_in_range : (words : List Word) (r : Command) → command_of words ≡ Some r → IsAsked r
unfolding command_of
asked_in_range words r is = read_in_range (reading_of words) r is

pub in_range : (words : List Word) (r : Command) → command_of words ≡ Some r → HasRanges r.schema_task
in_range words r is = (asked_in_range words r is).ranges

pub demo_of_shop : (words : List Word) (r : Command) → command_of words ≡ Some r → (number : ℕ) → r.shop ≡ Some number → r ≡ demo_of number
demo_of_shop words r is = (asked_in_range words r is).shop
