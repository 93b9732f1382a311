-- A command line has at most 16 words: positional words, one word for each flag, two words for each option, the command's name and `--`. So the code
-- may refuse longer lines.
use Rattle.std.proofs.Common.{◌≡◌, ◌+◌, ◌*◌, ◌≤◌, ◌<◌, ◌&&◌, ◌++◌, ℕ, Bool, true, false, suc, zero, inl, inr, List, [], ◌∷◌, length, Option, None, Some, ap, sym, refl, ◌∙◌, arith}
use Rattle.std.specs.Prelude.{if◌then◌else◌, option_map, ◌==◌}
use Rattle.std.specs.List.{AllByRecursion, flat_map, list_any, sum_by}
use Rattle.std.proofs.lemmas.Bool.{cases_Bool, eqb-true, false≢true}
use Rattle.std.proofs.lemmas.List.{length-append}
use Rattle.std.proofs.lemmas.List.Sums.{sum_by-cons}
use Rattle.std.proofs.lemmas.Slice.Eq.{bytes_eq-Decides}
use Rattle.safebound_words.specs.Answer.{command_of}
use Rattle.safebound_words.specs.CommandLines.{Flag, WithNextWord, IsEnd, IsItemOf, Item, WithEquals, Positional, given_by, given_of_items, positional_words, same_flag, same_option, times_set_by, spelling}
use Rattle.safebound_words.specs.Commands.{over_query}
use Rattle.safebound_words.specs.Table.{Given, command_row, stats_file_is_compatible, flag_word, from_file, from_file_or_tables, flag_value, append_request, demo_request, stats_request, option_file, option_row, over_files, over_tables, terms_given, value_of, work_given}
use Rattle.safebound_words.specs.Words.{Word}
use Rattle.safebound_words.specs.declared.command.Command.{Command}
use Rattle.safebound_words.specs.declared.command.OutText.{OutText}
use Rattle.safebound_words.specs.declared.command.OutText.TheVariants as out_text
use Rattle.safebound_words.specs.declared.command.PlanTerms.{PlanTerms}
use Rattle.safebound_words.specs.declared.command.QueryTask.{QueryTask}
use Rattle.safebound_words.specs.declared.command.QueryTask.TheVariants as query_tasks
use Rattle.safebound_words.specs.declared.table.CommandName.{CommandName}
use Rattle.safebound_words.specs.declared.table.CommandName.TheVariants as command
use Rattle.safebound_words.specs.declared.table.FlagName.{FlagName}
use Rattle.safebound_words.specs.declared.table.FlagName.TheVariants as flag
use Rattle.safebound_words.specs.declared.table.OptionName.{OptionName}
use Rattle.safebound_words.specs.declared.table.OptionName.TheVariants as option
use Rattle.safebound_words.proofs.Readings.{bind_inversion, computed_asked}

-- ---- number of words of an item: at most one for a positional word, two for a value that it gives, and one for a flag

option_given : (option : OptionName) (item : Item) (value : Word) (options : List OptionName)
    → ((other : OptionName) → given_by other item ≡ (if same_option other option then value ∷ [] else []))
    → list_any (same_option option) options ≡ true → 1 ≤ sum_by (λ other. length (given_by other item)) options
option_given option item value [] gives has = absurd (false≢true has)
option_given option item value (first ∷ options) gives has = elim (cases_Bool (same_option option first)) [
  | inl is ↦
      let words = (bytes_eq-Decides (option_row option).word (option_row first).word).0 is in
      let same : same_option first option ≡ true = (bytes_eq-Decides (option_row first).word (option_row option).word).1 (sym words) in
      let one : length (given_by first item) ≡ 1 = ap (λ (ws : List Word). length ws) (gives first) ∙ rw same refl in
      omega (arith, one, sum_by-cons (λ other. length (given_by other item)) first options)
  | inr isnt ↦
      let rest : list_any (same_option option) options ≡ true = rw isnt at has in
      omega (arith, option_given option item value options gives rest, sum_by-cons (λ other. length (given_by other item)) first options)
]

flag_given : (flag : FlagName) (flags : List FlagName) → list_any (same_flag flag) flags ≡ true → 1 ≤ sum_by (λ other. times_set_by other (Flag flag)) flags
flag_given flag [] has = absurd (false≢true has)
flag_given flag (first ∷ flags) has = elim (cases_Bool (same_flag flag first)) [
  | inl is ↦
      let words = (bytes_eq-Decides (flag_word flag) (flag_word first)).0 is in
      let same : same_flag first flag ≡ true = (bytes_eq-Decides (flag_word first) (flag_word flag)).1 (sym words) in
      let one : times_set_by first (Flag flag) ≡ 1 = rw same refl in
      omega (arith, one, sum_by-cons (λ other. times_set_by other (Flag flag)) first flags)
  | inr isnt ↦
      let rest : list_any (same_flag flag) flags ≡ true = rw isnt at has in
      omega (arith, flag_given flag flags rest, sum_by-cons (λ other. times_set_by other (Flag flag)) first flags)
]

item_words : (name : CommandName) (item : Item) → IsItemOf name item
    → length (spelling item) ≤ length (positional_words item) + (2 * sum_by (λ option. length (given_by option item)) (command_row name).options + sum_by (λ flag. times_set_by flag item) (command_row name).flags)
item_words name (Positional word) of = omega arith
item_words name (Flag f) of = omega (arith, flag_given f (command_row name).flags of)
item_words name (WithNextWord o value) of = omega (arith, option_given o (WithNextWord o value) value (command_row name).options (λ other. refl) of)
item_words name (WithEquals o value) of = omega (arith, option_given o (WithEquals o value) value (command_row name).options (λ other. refl) of)

values_split : (item : Item) (items : List Item) (options : List OptionName)
    → sum_by (λ option. length (flat_map (given_by option) (item ∷ items))) options
    ≡ sum_by (λ option. length (given_by option item)) options + sum_by (λ option. length (flat_map (given_by option) items)) options
values_split item items [] = refl
values_split item items (first ∷ options) =
    omega (
      arith,
      length-append (given_by first item) (flat_map (given_by first) items),
      values_split item items options,
      sum_by-cons (λ option. length (flat_map (given_by option) (item ∷ items))) first options,
      sum_by-cons (λ option. length (given_by option item)) first options,
      sum_by-cons (λ option. length (flat_map (given_by option) items)) first options,
    )

times_split : (item : Item) (items : List Item) (flags : List FlagName)
    → sum_by (λ flag. sum_by (times_set_by flag) (item ∷ items)) flags ≡ sum_by (λ flag. times_set_by flag item) flags + sum_by (λ flag. sum_by (times_set_by flag) items) flags
times_split item items [] = refl
times_split item items (first ∷ flags) =
    omega (
      arith,
      times_split item items flags,
      sum_by-cons (λ flag. sum_by (times_set_by flag) (item ∷ items)) first flags,
      sum_by-cons (λ flag. times_set_by flag item) first flags,
      sum_by-cons (λ flag. sum_by (times_set_by flag) items) first flags,
      sum_by-cons (times_set_by first) item items,
    )

-- the most words for a command's positional words, options and flags: one for each positional word, two for each option's value, one for each flag
abbrev weight : CommandName → List Word → Given → ℕ
weight name positionals given =
    length positionals + (2 * sum_by (λ option. length (given.values option)) (command_row name).options + sum_by (λ flag. given.times flag) (command_row name).flags)

all_words : (name : CommandName) (items : List Item) → AllByRecursion (IsItemOf name) items
    → length (flat_map spelling items) ≤ weight name (flat_map positional_words items) (given_of_items items)
all_words name [] all = omega arith
all_words name (item ∷ items) all =
    omega (
      arith,
      length-append (spelling item) (flat_map spelling items),
      length-append (positional_words item) (flat_map positional_words items),
      values_split item items (command_row name).options,
      times_split item items (command_row name).flags,
      item_words name item all.0,
      all_words name items all.1,
    )

-- ---- each option and each flag is given at most once

one_value : (option : OptionName) (given : List Word) (n : ℕ) → value_of option given ≡ Some n → length given ≤ 1
one_value option [] n is = omega arith
one_value option (word ∷ []) n is = omega arith
one_value option (word ∷ another ∷ words) n is = absurd (cc)

one_file : (given : List Word) (file : Option Word) → option_file given ≡ Some file → length given ≤ 1
one_file [] file is = omega arith
one_file (word ∷ []) file is = omega arith
one_file (word ∷ another ∷ words) file is = absurd (cc)

flag_at_most_once : (times : ℕ) (set : Bool) → flag_value times ≡ Some set → times ≤ 1
flag_at_most_once zero set is = omega arith
flag_at_most_once (suc zero) set is = omega arith
flag_at_most_once (suc (suc more)) set is = absurd (cc)

asked_if : {A : Type 0} (test : Bool) (made r : A) → (if test then Some made else None) ≡ Some r → test ≡ true
asked_if true made r is = refl
asked_if false made r is = absurd (cc)

both_true : (a b : Bool) → (a && b) ≡ true → (a ≡ true) × (b ≡ true)
both_true true b is = (refl, is)
both_true false b is = absurd (false≢true is)

map_inversion : {A B : Type 0} (f : A → B) (from : Option A) (b : B) → option_map f from ≡ Some b → (a : A) × (from ≡ Some a)
map_inversion f None b is = absurd (cc)
map_inversion f (Some a) b is = (a, refl)

record AreTermsGivenOnce (given : Given) : Type 0 where
  memory : length (given.values option.Memory) ≤ 1
  budget : length (given.values option.Budget) ≤ 1
  bushy : given.times flag.Bushy ≤ 1

record AreSourcesGivenOnce (given : Given) : Type 0 where
  accuracy : length (given.values option.Accuracy) ≤ 1
  reduce : given.times flag.Reduce ≤ 1
  keys : given.times flag.Keys ≤ 1
  count : given.times flag.Count ≤ 1

terms_given_once : (given : Given) (terms : PlanTerms) → terms_given given ≡ Some terms → AreTermsGivenOnce given
terms_given_once given terms is =
    let bytes = bind_inversion (value_of option.Memory (given.values option.Memory)) _ terms is in
    let budget = bind_inversion (value_of option.Budget (given.values option.Budget)) _ terms bytes.2 in
    let bushy = bind_inversion (flag_value (given.times flag.Bushy)) _ terms budget.2 in
    record {
      memory = one_value option.Memory (given.values option.Memory) bytes.0 bytes.1;
      budget = one_value option.Budget (given.values option.Budget) budget.0 budget.1;
      bushy = flag_at_most_once (given.times flag.Bushy) bushy.0 bushy.1;
    }

module _ (out : OutText) (terms : PlanTerms) (given : Given) (work : QueryTask) where
  tables_options_given_once : over_tables out terms given ≡ Some work → AreSourcesGivenOnce given
  tables_options_given_once is =
      let accuracy = bind_inversion (value_of option.Accuracy (given.values option.Accuracy)) _ work is in
      let reduce = bind_inversion (flag_value (given.times flag.Reduce)) _ work accuracy.2 in
      let keys = bind_inversion (flag_value (given.times flag.Keys)) _ work reduce.2 in
      let count = bind_inversion (flag_value (given.times flag.Count)) _ work keys.2 in
      record {
        accuracy = one_value option.Accuracy (given.values option.Accuracy) accuracy.0 accuracy.1;
        reduce = flag_at_most_once (given.times flag.Reduce) reduce.0 reduce.1;
        keys = flag_at_most_once (given.times flag.Keys) keys.0 keys.1;
        count = flag_at_most_once (given.times flag.Count) count.0 count.1;
      }

  file_options_given_once : (file : Word) → from_file file terms given ≡ Some work → AreSourcesGivenOnce given
  file_options_given_once file is =
      let alone = asked_if (stats_file_is_compatible given) (query_tasks.PlanFromStats file terms) work is in
      let first = both_true (length (given.values option.Accuracy) == 0) _ alone in
      let second = both_true (given.times flag.Reduce == 0) _ first.1 in
      let third = both_true (given.times flag.Keys == 0) (given.times flag.Count == 0) second.1 in
      record {
        accuracy = omega (arith, eqb-true (length (given.values option.Accuracy)) 0 first.0);
        reduce = omega (arith, eqb-true (given.times flag.Reduce) 0 second.0);
        keys = omega (arith, eqb-true (given.times flag.Keys) 0 third.0);
        count = omega (arith, eqb-true (given.times flag.Count) 0 third.1);
      }

  either_options_given_once : (file : Option Word) → from_file_or_tables out file terms given ≡ Some work → AreSourcesGivenOnce given
  either_options_given_once None is = tables_options_given_once is
  either_options_given_once (Some file) is = file_options_given_once file is

  work_options_given_once : work_given out terms given ≡ Some work → AreSourcesGivenOnce given × (length (given.values option.Stats) ≤ 1)
  work_options_given_once is =
      let file = bind_inversion (option_file (given.values option.Stats)) _ work is in
      (either_options_given_once file.0 file.2, one_file (given.values option.Stats) file.0 file.1)

record IsEachGivenOnce (positionals : List Word) (given : Given) : Type 0 where
  two : length positionals ≡ 2
  terms : AreTermsGivenOnce given
  sources : AreSourcesGivenOnce given
  stats : length (given.values option.Stats) ≤ 1

files_options_given_once : (out : OutText) (positionals : List Word) (given : Given) (r : Command) → over_files out positionals given ≡ Some r → IsEachGivenOnce positionals given
unfolding over_files
files_options_given_once out [] given r is = absurd (cc)
files_options_given_once out (schema ∷ []) given r is = absurd (cc)
files_options_given_once out (schema ∷ query ∷ []) given r is =
    let terms = bind_inversion (terms_given given) _ r is in
    let work = bind_inversion (work_given out terms.0 given) _ r terms.2 in
    let few = work_options_given_once out terms.0 given work.0 work.1 in
    record { two = refl; terms = terms_given_once given terms.0 terms.1; sources = few.0; stats = few.1 }
files_options_given_once out (schema ∷ query ∷ more ∷ positionals) given r is = absurd (cc)

stats_options_given_once : (positionals : List Word) (given : Given) (r : Command) → stats_request positionals given ≡ Some r → (length positionals ≡ 2) × (length (given.values option.Accuracy) ≤ 1)
stats_options_given_once [] given r is = absurd (cc)
stats_options_given_once (schema ∷ []) given r is = absurd (cc)
stats_options_given_once (schema ∷ query ∷ []) given r is =
    let accuracy = map_inversion (λ a. over_query None schema query (query_tasks.WriteStats a)) (value_of option.Accuracy (given.values option.Accuracy)) r is in
    (refl, one_value option.Accuracy (given.values option.Accuracy) accuracy.0 accuracy.1)
stats_options_given_once (schema ∷ query ∷ more ∷ positionals) given r is = absurd (cc)

append_has_four_words : (positionals : List Word) (given : Given) (r : Command) → append_request positionals given ≡ Some r → length positionals ≡ 4
append_has_four_words [] given r is = absurd (cc)
append_has_four_words (schema ∷ []) given r is = absurd (cc)
append_has_four_words (schema ∷ file ∷ []) given r is = absurd (cc)
append_has_four_words (schema ∷ file ∷ table ∷ []) given r is = absurd (cc)
append_has_four_words (schema ∷ file ∷ table ∷ rows ∷ []) given r is = refl
append_has_four_words (schema ∷ file ∷ table ∷ rows ∷ more ∷ positionals) given r is = absurd (cc)

demo_has_one_word : (positionals : List Word) (given : Given) (r : Command) → demo_request positionals given ≡ Some r → length positionals ≡ 1
demo_has_one_word [] given r is = absurd (cc)
demo_has_one_word (number ∷ []) given r is = refl
demo_has_one_word (number ∷ more ∷ positionals) given r is = absurd (cc)

-- two positional words, three options of two words each and four flags have 12 words; `plan` may have one more option of two words
weight_at_most_12 : (positionals : List Word) (given : Given) → IsEachGivenOnce positionals given → weight command.Run positionals given ≤ 12
weight_at_most_12 positionals given few =
    let terms = few.terms in
    let sources = few.sources in
    omega (arith, few.two, terms.memory, terms.budget, terms.bushy, sources.accuracy, sources.reduce, sources.keys, sources.count)

weight_at_most_14 : (name : CommandName) (positionals : List Word) (given : Given) (r : Command) → (command_row name).asks positionals given ≡ Some r → weight name positionals given ≤ 14
weight_at_most_14 command.Run positionals given r is = omega (arith, weight_at_most_12 positionals given (files_options_given_once out_text.Rows positionals given r is))
weight_at_most_14 command.Plan positionals given r is =
    let few = files_options_given_once out_text.Nothing positionals given r is in omega (arith, weight_at_most_12 positionals given few, few.stats)
weight_at_most_14 command.Audit positionals given r is = omega (arith, weight_at_most_12 positionals given (files_options_given_once out_text.Audit positionals given r is))
weight_at_most_14 command.Stats positionals given r is = let few = stats_options_given_once positionals given r is in omega (arith, few.0, few.1)
weight_at_most_14 command.Append positionals given r is = omega (arith, append_has_four_words positionals given r is)
weight_at_most_14 command.Demo positionals given r is = omega (arith, demo_has_one_word positionals given r is)

-- ---- number of words of a line

behind_words : (rest after_dashes : List Word) → IsEnd rest after_dashes → length rest ≤ length after_dashes + 1
behind_words rest after_dashes end = elim end [
  | inl none ↦ omega (arith, ap (λ (ws : List Word). length ws) none.0)
  | inr marked ↦ omega (arith, ap (λ (ws : List Word). length ws) marked)
]

pub at_most_16_words : (words : List Word) (r : Command) → command_of words ≡ Some r → length words ≤ 16
at_most_16_words words r is =
    let asked = computed_asked words r is in
    let reading = asked.0 in
    let reads = asked.1 in
    let positionals = flat_map positional_words reading.items in
    let takes : weight reading.command (positionals ++ reading.after_dashes) (given_of_items reading.items) ≤ 14 = weight_at_most_14 reading.command _ _ r asked.2 in
    omega (
      arith,
      ap (λ (ws : List Word). length ws) reads.spelled,
      length-append (flat_map spelling reading.items) reads.rest,
      length-append positionals reading.after_dashes,
      behind_words reads.rest reading.after_dashes reads.end,
      all_words reading.command reading.items reads.items,
      takes,
    )

-- more than 16 words ask for no command
pub none_if_more_than_16_words : (words : List Word) → 16 < length words → command_of words ≡ None
none_if_more_than_16_words words many = by (command_of words) refl
  where
    by : (asked : Option Command) → command_of words ≡ asked → command_of words ≡ None
    by None is = is
    by (Some r) is = absurd (omega (arith, many, at_most_16_words words r is))
