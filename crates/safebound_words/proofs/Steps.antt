-- One step of the walk over a command line. If the step takes a word, the collected and the remaining words ask for the same command as before. If
-- the step refuses the word, they ask for no command.
use Rattle.std.proofs.Common.{◌≡◌, ℕ, ◌+◌, ◌<◌, ◌≤◌, ◌==◌, ◌&&◌, not, nat_le, Bool, true, false, if◌then◌else◌, option_map, List, [], ◌∷◌, ◌++◌, length, map, drop, Option, Some, None, Result, Ok, Err, Bor, sym, refl, ap, ◌∙◌, append_assoc, append-nil, length-append, suc, zero, arith}
use Rattle.std.proofs.Math.Path.{fun_ext}
use Rattle.std.proofs.lemmas.Bool.{false≢true, ne_eqb}
use Rattle.std.proofs.lemmas.List.{drop_all}
use Rattle.std.proofs.lemmas.List.Sums.{sum_by-cons}
use Rattle.std.proofs.lemmas.Slice.Eq.{bytes_eq-Decides}
use Rattle.std.specs.Bool.{IsTrue}
use Rattle.std.specs.List.{flat_map}
use Rattle.std.specs.Result.{OnErr}
use Rattle.safebound_words.specs.Answer.{WordKind, Ends, IsPositional, Sets, Wants, Gives, Unknown, ItemsAndAfterDashes, in_front, kind_of_word, parts_from, read_by}
use Rattle.safebound_words.specs.Collected.{asked_by, asked_from, asked_with, collected, given_of, given_to, given_with, times_of, words_of}
use Rattle.safebound_words.specs.CommandLines.{Flag, WithNextWord, Item, WithEquals, Positional, given_by, given_of_items, has_flag, has_option, positional_words, same_flag, same_option, times_set_by}
use Rattle.safebound_words.specs.Commands.{most_budget_of, over_query, shape_by, source_by, terms_by}
use Rattle.safebound_words.specs.Table.{Given, command_row, count_is_compatible, stats_file_is_compatible, flag_word, from_file, from_file_or_tables, flag_value, limit_of, append_request, demo_request, stats_request, option_file, option_row, over_files, over_tables, terms_given, value_of, work_given, ◌>>=◌}
use Rattle.safebound_words.specs.Words.{Word}
use Rattle.safebound_words.specs.declared.command.Command.{Command}
use Rattle.safebound_words.specs.declared.command.OutText.{OutText}
use Rattle.safebound_words.specs.declared.command.OutText.TheVariants as out_text
use Rattle.safebound_words.specs.declared.command.PlanTerms.{PlanTerms}
use Rattle.safebound_words.specs.declared.command.QueryTask.{QueryTask}
use Rattle.safebound_words.specs.declared.command.QueryTask.TheVariants as query_tasks
use Rattle.safebound_words.specs.declared.table.CommandName.{CommandName}
use Rattle.safebound_words.specs.declared.table.CommandName.TheVariants as command
use Rattle.safebound_words.specs.declared.table.FlagName.{FlagName}
use Rattle.safebound_words.specs.declared.table.FlagName.TheVariants as flag
use Rattle.safebound_words.specs.declared.table.OptionName.{OptionName}
use Rattle.safebound_words.specs.declared.table.OptionName.TheVariants as option
use Rattle.safebound_words.specs.declared.line.Line.{Line}
use Rattle.safebound_words.specs.declared.line.Next.TheVariants as next
use Rattle.safebound_words.specs.declared.line.Positionals.TheVariants as positionals
use Rattle.safebound_words.proofs.WordKinds.{kind_spells}

-- ---- a command depends only on positional words, on the values of each option, and on how often each flag is given

same_asks : (name : CommandName) (positionals positionals' : List Word) (given given' : Given)
    → positionals ≡ positionals' → ((o : OptionName) → given.values o ≡ given'.values o) → ((f : FlagName) → given.times f ≡ given'.times f)
    → (command_row name).asks positionals given ≡ (command_row name).asks positionals' given'
same_asks name positionals positionals' given given' same values times =
    ap (λ ws. (command_row name).asks ws given) same
    ∙ ap (λ (v : OptionName → List Word). (command_row name).asks positionals' (record { values = v; times = given.times })) (fun_ext values)
    ∙ ap (λ (t : FlagName → ℕ). (command_row name).asks positionals' (record { values = given'.values; times = t })) (fun_ext times)

-- the two lines have the same options and flags. They may have different positional words
pub record HasSameOptionsAndFlags (new old : Line) : Type 0 where
  pub values : (o : OptionName) → given_to new o ≡ given_to old o
  pub times : (f : FlagName) → times_of new f ≡ times_of old f

no_more_times : (new old : Line) (item : Item) (items : List Item) → ((f : FlagName) → times_of new f ≡ times_of old f)
    → ((f : FlagName) → times_set_by f item ≡ 0) → (f : FlagName) → (given_with new items).times f ≡ (given_with old (item ∷ items)).times f
no_more_times new old item items same none f = rw (same f) (omega (arith, sum_by-cons (times_set_by f) item items, none f))

pub one_more_positional : (name : CommandName) (new old : Line) (word : Word) (parts : ItemsAndAfterDashes)
    → words_of new.positionals ≡ words_of old.positionals ++ word ∷ [] → HasSameOptionsAndFlags new old
    → asked_with name new parts ≡ asked_with name old (Positional word ∷ parts.0, parts.1)
unfolding asked_with
one_more_positional name new old word parts positionals same =
    same_asks name
    (words_of new.positionals ++ (flat_map positional_words parts.0 ++ parts.1))
    (words_of old.positionals ++ (word ∷ (flat_map positional_words parts.0 ++ parts.1)))
    (given_with new parts.0)
    (given_with old (Positional word ∷ parts.0))
    (ap (λ ws. ws ++ (flat_map positional_words parts.0 ++ parts.1)) positionals ∙ append_assoc (words_of old.positionals) (word ∷ []) (flat_map positional_words parts.0 ++ parts.1))
    (λ o. ap (λ ws. ws ++ flat_map (given_by o) parts.0) (same.values o))
    (no_more_times new old (Positional word) parts.0 same.times (λ f. refl))

pub one_more_after_dashes : (name : CommandName) (new old : Line) (word : Word) (words : List Word)
    → words_of new.positionals ≡ words_of old.positionals ++ word ∷ [] → HasSameOptionsAndFlags new old
    → asked_with name new ([], words) ≡ asked_with name old ([], word ∷ words)
unfolding asked_with
one_more_after_dashes name new old word words positionals same =
    same_asks name
    (words_of new.positionals ++ words)
    (words_of old.positionals ++ (word ∷ words))
    (given_with new [])
    (given_with old [])
    (ap (λ ws. ws ++ words) positionals ∙ append_assoc (words_of old.positionals) (word ∷ []) words)
    (λ o. ap (λ ws. ws ++ []) (same.values o))
    (λ f. ap (λ n. n + 0) (same.times f))

AddsFlag : Line → Line → FlagName → Type 0
AddsFlag new old f = (other : FlagName) → times_of new other ≡ times_of old other + (if same_flag other f then 1 else 0)

one_more_flag : (name : CommandName) (new old : Line) (f : FlagName) (parts : ItemsAndAfterDashes)
    → new.positionals ≡ old.positionals → ((o : OptionName) → given_to new o ≡ given_to old o) → AddsFlag new old f
    → asked_with name new parts ≡ asked_with name old (Flag f ∷ parts.0, parts.1)
unfolding asked_with AddsFlag
one_more_flag name new old f parts positionals values more =
    same_asks name
    (words_of new.positionals ++ (flat_map positional_words parts.0 ++ parts.1))
    (words_of old.positionals ++ (flat_map positional_words parts.0 ++ parts.1))
    (given_with new parts.0)
    (given_with old (Flag f ∷ parts.0))
    (rw positionals refl)
    (λ o. ap (λ ws. ws ++ flat_map (given_by o) parts.0) (values o))
    (λ other. omega (arith, more other, sum_by-cons (times_set_by other) (Flag f) parts.0))

AddsValue : Line → Line → OptionName → Word → Type 0
AddsValue new old o value = (other : OptionName) → given_to new other ≡ given_to old other ++ (if same_option other o then value ∷ [] else [])

one_more_value : (name : CommandName) (new old : Line) (item : Item) (o : OptionName) (value : Word) (parts : ItemsAndAfterDashes)
    → positional_words item ≡ [] → ((f : FlagName) → times_set_by f item ≡ 0)
    → ((other : OptionName) → given_by other item ≡ (if same_option other o then value ∷ [] else []))
    → new.positionals ≡ old.positionals → ((f : FlagName) → times_of new f ≡ times_of old f) → AddsValue new old o value
    → asked_with name new parts ≡ asked_with name old (item ∷ parts.0, parts.1)
unfolding asked_with AddsValue
one_more_value name new old item o value parts none unset by positionals times given =
    same_asks name
    (words_of new.positionals ++ (flat_map positional_words parts.0 ++ parts.1))
    (words_of old.positionals ++ ((positional_words item ++ flat_map positional_words parts.0) ++ parts.1))
    (given_with new parts.0)
    (given_with old (item ∷ parts.0))
    (rw (none, positionals) refl)
    (λ other. ap (λ ws. ws ++ flat_map (given_by other) parts.0) (given other ∙ ap (λ ws. given_to old other ++ ws) (sym (by other)))
    ∙ append_assoc (given_to old other) (given_by other item) (flat_map (given_by other) parts.0))
    (no_more_times new old item parts.0 times unset)

none_if_first_none : {A B : Type 0} (first : Option A) (rest : A → Option B) → first ≡ None → first >>= rest ≡ None
none_if_first_none first rest is = rw is refl

none_if_rest_none : {A B : Type 0} (first : Option A) (rest : A → Option B) → ((a : A) → rest a ≡ None) → first >>= rest ≡ None
none_if_rest_none None rest all = refl
none_if_rest_none (Some a) rest all = all a

-- ---- no command has more than four positional words, or an option or flag twice

over_files_refuses_five : (out : OutText) (positionals : List Word) (given : Given) → 4 < length positionals → over_files out positionals given ≡ None
unfolding over_files
over_files_refuses_five out [] given many = absurd (omega arith)
over_files_refuses_five out (a ∷ []) given many = absurd (omega arith)
over_files_refuses_five out (a ∷ b ∷ []) given many = absurd (omega arith)
over_files_refuses_five out (a ∷ b ∷ d ∷ rest) given many = refl

demo_refuses_five : (positionals : List Word) (given : Given) → 4 < length positionals → demo_request positionals given ≡ None
demo_refuses_five [] given many = absurd (omega arith)
demo_refuses_five (a ∷ []) given many = absurd (omega arith)
demo_refuses_five (a ∷ b ∷ rest) given many = refl

stats_refuses_five : (positionals : List Word) (given : Given) → 4 < length positionals → stats_request positionals given ≡ None
stats_refuses_five [] given many = absurd (omega arith)
stats_refuses_five (a ∷ []) given many = absurd (omega arith)
stats_refuses_five (a ∷ b ∷ []) given many = absurd (omega arith)
stats_refuses_five (a ∷ b ∷ d ∷ rest) given many = refl

append_refuses_five : (positionals : List Word) (given : Given) → 4 < length positionals → append_request positionals given ≡ None
append_refuses_five [] given many = absurd (omega arith)
append_refuses_five (a ∷ []) given many = absurd (omega arith)
append_refuses_five (a ∷ b ∷ []) given many = absurd (omega arith)
append_refuses_five (a ∷ b ∷ d ∷ []) given many = absurd (omega arith)
append_refuses_five (a ∷ b ∷ d ∷ e ∷ []) given many = absurd (omega arith)
append_refuses_five (a ∷ b ∷ d ∷ e ∷ f ∷ rest) given many = refl

none_if_five_positionals : (name : CommandName) (positionals : List Word) (given : Given) → 4 < length positionals → (command_row name).asks positionals given ≡ None
none_if_five_positionals command.Run = over_files_refuses_five out_text.Rows
none_if_five_positionals command.Plan = over_files_refuses_five out_text.Nothing
none_if_five_positionals command.Audit = over_files_refuses_five out_text.Audit
none_if_five_positionals command.Stats = stats_refuses_five
none_if_five_positionals command.Append = append_refuses_five
none_if_five_positionals command.Demo = demo_refuses_five

no_value_if_given_twice : (o : OptionName) (words : List Word) → 1 < length words → value_of o words ≡ None
no_value_if_given_twice o [] many = absurd (omega arith)
no_value_if_given_twice o (a ∷ []) many = absurd (omega arith)
no_value_if_given_twice o (a ∷ b ∷ rest) many = refl

no_file_if_given_twice : (words : List Word) → 1 < length words → option_file words ≡ None
no_file_if_given_twice [] many = absurd (omega arith)
no_file_if_given_twice (a ∷ []) many = absurd (omega arith)
no_file_if_given_twice (a ∷ b ∷ rest) many = refl

-- whether a flag names a source of bounds
abbrev IsSource : FlagName → Type 0
IsSource flag.Bushy = ⊥
IsSource flag.Reduce = Unit {0}
IsSource flag.Keys = Unit {0}
IsSource flag.Count = Unit {0}

none_if_set_twice : (n : ℕ) → 1 < n → flag_value n ≡ None
none_if_set_twice zero many = absurd (omega arith)
none_if_set_twice (suc zero) many = absurd (omega arith)
none_if_set_twice (suc (suc more)) many = refl

-- ---- `terms_given` is None if `--memory`, `--budget` or `--bushy` is given twice
module _ (given : Given) where
  abbrev by_bushy : ℕ → ℕ → Bool → Option PlanTerms
  by_bushy bytes budget bushy = if nat_le budget (most_budget_of (shape_by bushy)) then Some (terms_by budget bushy (limit_of bytes)) else None

  abbrev by_budget : ℕ → ℕ → Option PlanTerms
  by_budget bytes budget = flag_value (given.times flag.Bushy) >>= λ bushy. by_bushy bytes budget bushy

  abbrev by_memory : ℕ → Option PlanTerms
  by_memory bytes = value_of option.Budget (given.values option.Budget) >>= λ budget. by_budget bytes budget

  no_terms_if_memory_twice : 1 < length (given.values option.Memory) → terms_given given ≡ None
  no_terms_if_memory_twice many = none_if_first_none (value_of option.Memory (given.values option.Memory)) (λ bytes. by_memory bytes) (no_value_if_given_twice option.Memory (given.values option.Memory) many)

  no_terms_if_budget_twice : 1 < length (given.values option.Budget) → terms_given given ≡ None
  no_terms_if_budget_twice many =
      none_if_rest_none (value_of option.Memory (given.values option.Memory)) (λ bytes. by_memory bytes)
      (λ bytes. none_if_first_none (value_of option.Budget (given.values option.Budget)) (λ budget. by_budget bytes budget) (no_value_if_given_twice option.Budget (given.values option.Budget) many))

  no_terms_if_bushy_twice : 1 < given.times flag.Bushy → terms_given given ≡ None
  no_terms_if_bushy_twice many =
      none_if_rest_none (value_of option.Memory (given.values option.Memory)) (λ bytes. by_memory bytes)
      (λ bytes. none_if_rest_none (value_of option.Budget (given.values option.Budget)) (λ budget. by_budget bytes budget)
      (λ budget. none_if_first_none (flag_value (given.times flag.Bushy)) (λ bushy. by_bushy bytes budget bushy) (none_if_set_twice (given.times flag.Bushy) many)))

-- ---- `over_tables` is None if `--accuracy` or a flag for a source of bounds is given twice
module _ (out : OutText) (terms : PlanTerms) (given : Given) where
  abbrev by_count : ℕ → Bool → Bool → Bool → Option QueryTask
  by_count accuracy reduce keys count = if keys && reduce then None
      else if count && not (count_is_compatible given reduce keys) then None
      else Some (query_tasks.Plan (record { terms = terms; accuracy = accuracy; source = source_by reduce keys count; out = out }))

  abbrev by_keys : ℕ → Bool → Bool → Option QueryTask
  by_keys accuracy reduce keys = flag_value (given.times flag.Count) >>= λ count. by_count accuracy reduce keys count

  abbrev by_reduce : ℕ → Bool → Option QueryTask
  by_reduce accuracy reduce = flag_value (given.times flag.Keys) >>= λ keys. by_keys accuracy reduce keys

  abbrev by_accuracy : ℕ → Option QueryTask
  by_accuracy accuracy = flag_value (given.times flag.Reduce) >>= λ reduce. by_reduce accuracy reduce

  tables_refuse_second_accuracy : 1 < length (given.values option.Accuracy) → over_tables out terms given ≡ None
  tables_refuse_second_accuracy many =
      none_if_first_none (value_of option.Accuracy (given.values option.Accuracy)) (λ accuracy. by_accuracy accuracy) (no_value_if_given_twice option.Accuracy (given.values option.Accuracy) many)

  none_if_keys_twice : (accuracy : ℕ) (reduce : Bool) → 1 < given.times flag.Keys → by_reduce accuracy reduce ≡ None
  none_if_keys_twice accuracy reduce many = none_if_first_none (flag_value (given.times flag.Keys)) (λ keys. by_keys accuracy reduce keys) (none_if_set_twice (given.times flag.Keys) many)

  none_if_count_twice : (accuracy : ℕ) (reduce : Bool) → 1 < given.times flag.Count → by_reduce accuracy reduce ≡ None
  none_if_count_twice accuracy reduce many =
      none_if_rest_none (flag_value (given.times flag.Keys)) (λ keys. by_keys accuracy reduce keys)
      (λ keys. none_if_first_none (flag_value (given.times flag.Count)) (λ count. by_count accuracy reduce keys count) (none_if_set_twice (given.times flag.Count) many))

  none_if_source_twice : (accuracy : ℕ) (f : FlagName) → IsSource f → 1 < given.times f → by_accuracy accuracy ≡ None
  none_if_source_twice accuracy flag.Reduce is many = none_if_first_none (flag_value (given.times flag.Reduce)) (λ reduce. by_reduce accuracy reduce) (none_if_set_twice (given.times flag.Reduce) many)
  none_if_source_twice accuracy flag.Bushy is many = absurd is
  none_if_source_twice accuracy flag.Keys is many =
      none_if_rest_none (flag_value (given.times flag.Reduce)) (λ reduce. by_reduce accuracy reduce) (λ reduce. none_if_keys_twice accuracy reduce many)
  none_if_source_twice accuracy flag.Count is many =
      none_if_rest_none (flag_value (given.times flag.Reduce)) (λ reduce. by_reduce accuracy reduce) (λ reduce. none_if_count_twice accuracy reduce many)

  tables_refuse_second_flag : (f : FlagName) → IsSource f → 1 < given.times f → over_tables out terms given ≡ None
  tables_refuse_second_flag f is many =
      none_if_rest_none (value_of option.Accuracy (given.values option.Accuracy)) (λ accuracy. by_accuracy accuracy) (λ accuracy. none_if_source_twice accuracy f is many)

-- ---- `from_file` is None if a flag for a source of bounds is given twice, since it excludes these flags

and_false : (b : Bool) → (b && false) ≡ false
and_false true = refl
and_false false = refl

not_zero_if_twice : (n : ℕ) → 1 < n → (n == 0) ≡ false
not_zero_if_twice n many = ne_eqb n 0 (λ e. absurd (omega (arith, e, many)))

flags_twice : (given : Given) (f : FlagName) → IsSource f → 1 < given.times f → (given.times flag.Reduce == 0 && (given.times flag.Keys == 0 && given.times flag.Count == 0)) ≡ false
flags_twice given flag.Reduce is many = let some = not_zero_if_twice (given.times flag.Reduce) many in rw some refl
flags_twice given flag.Bushy is many = absurd is
flags_twice given flag.Keys is many = let some = not_zero_if_twice (given.times flag.Keys) many in rw some (and_false (given.times flag.Reduce == 0))
flags_twice given flag.Count is many =
    let some = not_zero_if_twice (given.times flag.Count) many in rw some (rw (and_false (given.times flag.Keys == 0)) (and_false (given.times flag.Reduce == 0)))

times_twice : (given : Given) (f : FlagName) → IsSource f → 1 < given.times f → stats_file_is_compatible given ≡ false
times_twice given f is many = let some = flags_twice given f is many in rw some (and_false (length (given.values option.Accuracy) == 0))

words_twice : (words : List Word) (b : Bool) → 1 < length words → (length words == 0 && b) ≡ false
words_twice words b many = let some : (length words == 0) ≡ false = ne_eqb (length words) 0 (λ e. absurd (omega (arith, e, many))) in rw some refl

incompatible_file_is_none : (file : Word) (terms : PlanTerms) (given : Given) → stats_file_is_compatible given ≡ false → from_file file terms given ≡ None
incompatible_file_is_none file terms given beside = rw beside refl

-- ---- `over_files` is None if an option or flag is given twice, with a statistics file or without

module _ (out : OutText) (terms : PlanTerms) (given : Given) where
  either_refuses_second_accuracy : (file : Option Word) → 1 < length (given.values option.Accuracy) → from_file_or_tables out file terms given ≡ None
  either_refuses_second_accuracy None many = tables_refuse_second_accuracy out terms given many
  either_refuses_second_accuracy (Some file) many =
      incompatible_file_is_none file terms given (words_twice (given.values option.Accuracy) (given.times flag.Reduce == 0 && (given.times flag.Keys == 0 && given.times flag.Count == 0)) many)

  either_refuses_second_flag : (file : Option Word) (f : FlagName) → IsSource f → 1 < given.times f → from_file_or_tables out file terms given ≡ None
  either_refuses_second_flag None f is many = tables_refuse_second_flag out terms given f is many
  either_refuses_second_flag (Some file) f is many = incompatible_file_is_none file terms given (times_twice given f is many)

  no_work : ((file : Option Word) → from_file_or_tables out file terms given ≡ None) → work_given out terms given ≡ None
  no_work none = none_if_rest_none (option_file (given.values option.Stats)) (λ file. from_file_or_tables out file terms given) none

  no_second_file : 1 < length (given.values option.Stats) → work_given out terms given ≡ None
  no_second_file many = none_if_first_none (option_file (given.values option.Stats)) (λ file. from_file_or_tables out file terms given) (no_file_if_given_twice (given.values option.Stats) many)

module _ (out : OutText) (given : Given) where
  abbrev by_terms : Word → Word → PlanTerms → Option Command
  by_terms schema query terms = work_given out terms given >>= λ work. Some (over_query None schema query work)

  without_terms : terms_given given ≡ None → (positionals : List Word) → over_files out positionals given ≡ None
  unfolding over_files
  without_terms none [] = refl
  without_terms none (a ∷ []) = refl
  without_terms none (a ∷ b ∷ []) = none_if_first_none (terms_given given) (λ terms. by_terms a b terms) none
  without_terms none (a ∷ b ∷ d ∷ rest) = refl

  without_work : ((terms : PlanTerms) → work_given out terms given ≡ None) → (positionals : List Word) → over_files out positionals given ≡ None
  unfolding over_files
  without_work none [] = refl
  without_work none (a ∷ []) = refl
  without_work none (a ∷ b ∷ []) =
      none_if_rest_none (terms_given given) (λ terms. by_terms a b terms)
      (λ terms. none_if_first_none (work_given out terms given) (λ work. Some (over_query None a b work)) (none terms))
  without_work none (a ∷ b ∷ d ∷ rest) = refl

  files_refuse_second_flag : (f : FlagName) → 1 < given.times f → (positionals : List Word) → over_files out positionals given ≡ None
  files_refuse_second_flag flag.Bushy many = without_terms (no_terms_if_bushy_twice given many)
  files_refuse_second_flag flag.Reduce many = without_work (λ terms. no_work out terms given (λ file. either_refuses_second_flag out terms given file flag.Reduce tt many))
  files_refuse_second_flag flag.Keys many = without_work (λ terms. no_work out terms given (λ file. either_refuses_second_flag out terms given file flag.Keys tt many))
  files_refuse_second_flag flag.Count many = without_work (λ terms. no_work out terms given (λ file. either_refuses_second_flag out terms given file flag.Count tt many))

  files_refuse_second_option : (o : OptionName) → 1 < length (given.values o) → (positionals : List Word) → over_files out positionals given ≡ None
  files_refuse_second_option option.Budget many = without_terms (no_terms_if_budget_twice given many)
  files_refuse_second_option option.Memory many = without_terms (no_terms_if_memory_twice given many)
  files_refuse_second_option option.Accuracy many = without_work (λ terms. no_work out terms given (λ file. either_refuses_second_accuracy out terms given file many))
  files_refuse_second_option option.Stats many = without_work (λ terms. no_second_file out terms given many)

stats_refuse_second_accuracy : (positionals : List Word) (given : Given) → 1 < length (given.values option.Accuracy) → stats_request positionals given ≡ None
stats_refuse_second_accuracy [] given many = refl
stats_refuse_second_accuracy (a ∷ []) given many = refl
stats_refuse_second_accuracy (a ∷ b ∷ []) given many = ap (option_map (λ accuracy. over_query None a b (query_tasks.WriteStats accuracy))) (no_value_if_given_twice option.Accuracy (given.values option.Accuracy) many)
stats_refuse_second_accuracy (a ∷ b ∷ d ∷ rest) given many = refl

flag_refused : (name : CommandName) (f : FlagName) (positionals : List Word) (given : Given) → IsTrue (has_flag name f) → 1 < given.times f
    → (command_row name).asks positionals given ≡ None
flag_refused command.Run f positionals given has many = files_refuse_second_flag out_text.Rows given f many positionals
flag_refused command.Plan f positionals given has many = files_refuse_second_flag out_text.Nothing given f many positionals
flag_refused command.Audit f positionals given has many = files_refuse_second_flag out_text.Audit given f many positionals
flag_refused command.Stats f positionals given has many = absurd (false≢true has)
flag_refused command.Append f positionals given has many = absurd (false≢true has)
flag_refused command.Demo f positionals given has many = absurd (false≢true has)

option_refused : (name : CommandName) (o : OptionName) (positionals : List Word) (given : Given) → IsTrue (has_option name o) → 1 < length (given.values o)
    → (command_row name).asks positionals given ≡ None
option_refused command.Run o positionals given has many = files_refuse_second_option out_text.Rows given o many positionals
option_refused command.Plan o positionals given has many = files_refuse_second_option out_text.Nothing given o many positionals
option_refused command.Audit o positionals given has many = files_refuse_second_option out_text.Audit given o many positionals
option_refused command.Stats option.Budget positionals given has many = absurd (false≢true has)
option_refused command.Stats option.Accuracy positionals given has many = stats_refuse_second_accuracy positionals given many
option_refused command.Stats option.Memory positionals given has many = absurd (false≢true has)
option_refused command.Stats option.Stats positionals given has many = absurd (false≢true has)
option_refused command.Append o positionals given has many = absurd (false≢true has)
option_refused command.Demo o positionals given has many = absurd (false≢true has)

fifth_positional_refused : (name : CommandName) (line : Line) (word : Word) (parts : ItemsAndAfterDashes) → length (words_of line.positionals) ≡ 4
    → asked_with name line (Positional word ∷ parts.0, parts.1) ≡ None
unfolding asked_with
fifth_positional_refused name line word parts full =
    none_if_five_positionals name _ _ (omega (arith, length-append (words_of line.positionals) (word ∷ (flat_map positional_words parts.0 ++ parts.1))))

pub fifth_after_dashes_refused : (name : CommandName) (line : Line) (word : Word) (words : List Word) → length (words_of line.positionals) ≡ 4
    → asked_with name line ([], word ∷ words) ≡ None
unfolding asked_with
fifth_after_dashes_refused name line word words full =
    none_if_five_positionals name _ _ (omega (arith, length-append (words_of line.positionals) (word ∷ words)))

same_itself : (o : OptionName) → same_option o o ≡ true
same_itself o = (bytes_eq-Decides (option_row o).word (option_row o).word).1 refl

second_value_refused : (name : CommandName) (line : Line) (item : Item) (o : OptionName) (value : Word) (parts : ItemsAndAfterDashes) → IsTrue (has_option name o)
    → given_by o item ≡ (if same_option o o then value ∷ [] else [])
    → length (given_to line o) ≡ 1 → asked_with name line (item ∷ parts.0, parts.1) ≡ None
unfolding asked_with
second_value_refused name line item o value parts has by again =
    let gives : given_by o item ≡ value ∷ [] = by ∙ rw (same_itself o) refl in
    let words : given_by o item ++ flat_map (given_by o) parts.0 ≡ value ∷ flat_map (given_by o) parts.0 = ap (λ ws. ws ++ flat_map (given_by o) parts.0) gives in
    option_refused name o _ (given_with line (item ∷ parts.0)) has
    (rw words (omega (arith, length-append (given_to line o) (value ∷ flat_map (given_by o) parts.0))))

flag_itself : (f : FlagName) → same_flag f f ≡ true
flag_itself f = (bytes_eq-Decides (flag_word f) (flag_word f)).1 refl

second_flag_refused : (name : CommandName) (line : Line) (f : FlagName) (parts : ItemsAndAfterDashes) → IsTrue (has_flag name f)
    → times_of line f ≡ 1 → asked_with name line (Flag f ∷ parts.0, parts.1) ≡ None
unfolding asked_with
second_flag_refused name line f parts has again =
    let one : times_set_by f (Flag f) ≡ 1 = rw (flag_itself f) refl in
    flag_refused name f _ (given_with line (Flag f ∷ parts.0)) has (omega (arith, again, one, sum_by-cons (times_set_by f) (Flag f) parts.0))

-- ---- steps of the walk, by the kind of the word

front_asked : (name : CommandName) (new old : Line) (item : Item) (parts : Option ItemsAndAfterDashes)
    → ((p : ItemsAndAfterDashes) → asked_with name new p ≡ asked_with name old (item ∷ p.0, p.1))
    → parts >>= asked_with name new ≡ in_front item parts >>= asked_with name old
front_asked name new old item None same = refl
front_asked name new old item (Some p) same = same p

front_refused : (name : CommandName) (line : Line) (item : Item) (parts : Option ItemsAndAfterDashes)
    → ((p : ItemsAndAfterDashes) → asked_with name line (item ∷ p.0, p.1) ≡ None) → in_front item parts >>= asked_with name line ≡ None
front_refused name line item None none = refl
front_refused name line item (Some p) none = none p

read_so : (name : CommandName) (word : Word) (words : List Word) (kind : WordKind) → kind ≡ kind_of_word name word
    → parts_from name None (word ∷ words) ≡ read_by kind word words (λ wanted. parts_from name wanted words)
unfolding parts_from
read_so name word words kind is = ap (λ k. read_by k word words (λ wanted. parts_from name wanted words)) (sym is)

pub wanted : (name : CommandName) (word : Word) (o : OptionName) → Wants o ≡ kind_of_word name word → IsTrue (has_option name o)
wanted name word o is = let so = kind_spells name word in (rw (← is) at so).1

pub given_is_of_command : (name : CommandName) (word : Word) (o : OptionName) (value : Word) → Gives o value ≡ kind_of_word name word → IsTrue (has_option name o)
given_is_of_command name word o value is = let so = kind_spells name word in (rw (← is) at so).1

set_is_of_command : (name : CommandName) (word : Word) (f : FlagName) → Sets f ≡ kind_of_word name word → IsTrue (has_flag name f)
set_is_of_command name word f is = let so = kind_spells name word in (rw (← is) at so).1

pub end_step : (name : CommandName) (line : Line) (word : Word) → Ends ≡ kind_of_word name word → (words : List Word)
    → asked_from name line next.Positional words ≡ asked_from name line next.Item (word ∷ words)
unfolding asked_from
end_step name line word is words = rw (read_so name word words Ends is) refl

pub option_step : (name : CommandName) (line : Line) (word : Word) (o : OptionName) → Wants o ≡ kind_of_word name word → (words : List Word)
    → asked_from name line (next.Value o) words ≡ asked_from name line next.Item (word ∷ words)
unfolding asked_from
option_step name line word o is words = rw (read_so name word words (Wants o) is) refl

pub unknown_refused : (name : CommandName) (line : Line) (word : Word) → Unknown ≡ kind_of_word name word → (words : List Word)
    → asked_from name line next.Item (word ∷ words) ≡ None
unfolding asked_from
unknown_refused name line word is words = rw (read_so name word words Unknown is) refl

pub positional_step : (name : CommandName) (new old : Line) (word : Word) → IsPositional ≡ kind_of_word name word
    → words_of new.positionals ≡ words_of old.positionals ++ word ∷ [] → HasSameOptionsAndFlags new old → (words : List Word)
    → asked_from name new next.Item words ≡ asked_from name old next.Item (word ∷ words)
unfolding asked_from
positional_step name new old word is positionals same words =
    rw (read_so name word words IsPositional is)
    (front_asked name new old (Positional word) (parts_from name None words) (λ p. one_more_positional name new old word p positionals same))

pub positional_refused : (name : CommandName) (line : Line) (word : Word) → IsPositional ≡ kind_of_word name word → length (words_of line.positionals) ≡ 4
    → (words : List Word) → asked_from name line next.Item (word ∷ words) ≡ None
unfolding asked_from
positional_refused name line word is full words =
    rw (read_so name word words IsPositional is)
    (front_refused name line (Positional word) (parts_from name None words) (λ p. fifth_positional_refused name line word p full))

pub flag_step : (name : CommandName) (new old : Line) (word : Word) (f : FlagName) → Sets f ≡ kind_of_word name word
    → new.positionals ≡ old.positionals → ((o : OptionName) → given_to new o ≡ given_to old o)
    → ((other : FlagName) → times_of new other ≡ times_of old other + (if same_flag other f then 1 else 0))
    → (words : List Word) → asked_from name new next.Item words ≡ asked_from name old next.Item (word ∷ words)
unfolding asked_from AddsFlag
flag_step name new old word f is positionals values more words =
    rw (read_so name word words (Sets f) is)
    (front_asked name new old (Flag f) (parts_from name None words) (λ p. one_more_flag name new old f p positionals values more))

pub flag_again : (name : CommandName) (line : Line) (word : Word) (f : FlagName) → Sets f ≡ kind_of_word name word → times_of line f ≡ 1
    → (words : List Word) → asked_from name line next.Item (word ∷ words) ≡ None
unfolding asked_from
flag_again name line word f is again words =
    rw (read_so name word words (Sets f) is)
    (front_refused name line (Flag f) (parts_from name None words) (λ p. second_flag_refused name line f p (set_is_of_command name word f is) again))

pub joined_step : (name : CommandName) (new old : Line) (word : Word) (o : OptionName) (value : Word) → Gives o value ≡ kind_of_word name word
    → new.positionals ≡ old.positionals → ((f : FlagName) → times_of new f ≡ times_of old f)
    → ((other : OptionName) → given_to new other ≡ given_to old other ++ (if same_option other o then value ∷ [] else []))
    → (words : List Word) → asked_from name new next.Item words ≡ asked_from name old next.Item (word ∷ words)
unfolding asked_from AddsValue
joined_step name new old word o value is positionals times given words =
    rw (read_so name word words (Gives o value) is)
    (front_asked name new old (WithEquals o value) (parts_from name None words)
    (λ p. one_more_value name new old (WithEquals o value) o value p refl (λ f. refl) (λ other. refl) positionals times given))

pub joined_refused : (name : CommandName) (line : Line) (word : Word) (o : OptionName) (value : Word) → Gives o value ≡ kind_of_word name word
    → length (given_to line o) ≡ 1 → (words : List Word) → asked_from name line next.Item (word ∷ words) ≡ None
unfolding asked_from
joined_refused name line word o value is again words =
    rw (read_so name word words (Gives o value) is)
    (front_refused name line (WithEquals o value) (parts_from name None words)
    (λ p. second_value_refused name line (WithEquals o value) o value p (given_is_of_command name word o value is) refl again))

pub value_step : (name : CommandName) (new old : Line) (o : OptionName) (value : Word)
    → new.positionals ≡ old.positionals → ((f : FlagName) → times_of new f ≡ times_of old f)
    → ((other : OptionName) → given_to new other ≡ given_to old other ++ (if same_option other o then value ∷ [] else []))
    → (words : List Word) → asked_from name new next.Item words ≡ asked_from name old (next.Value o) (value ∷ words)
unfolding asked_from parts_from AddsValue
value_step name new old o value positionals times given words =
    front_asked name new old (WithNextWord o value) (parts_from name None words)
    (λ p. one_more_value name new old (WithNextWord o value) o value p refl (λ f. refl) (λ other. refl) positionals times given)

pub value_refused : (name : CommandName) (line : Line) (o : OptionName) (value : Word) → IsTrue (has_option name o)
    → length (given_to line o) ≡ 1 → (words : List Word) → asked_from name line (next.Value o) (value ∷ words) ≡ None
unfolding asked_from parts_from
value_refused name line o value has again words =
    front_refused name line (WithNextWord o value) (parts_from name None words)
    (λ p. second_value_refused name line (WithNextWord o value) o value p has refl again)

pub after_dashes_step : (name : CommandName) (new old : Line) (word : Word)
    → words_of new.positionals ≡ words_of old.positionals ++ word ∷ [] → HasSameOptionsAndFlags new old → (words : List Word)
    → asked_from name new next.Positional words ≡ asked_from name old next.Positional (word ∷ words)
unfolding asked_from
after_dashes_step name new old word positionals same words = one_more_after_dashes name new old word words positionals same

pub after_dashes_refused : (name : CommandName) (line : Line) (word : Word) → length (words_of line.positionals) ≡ 4
    → (words : List Word) → asked_from name line next.Positional (word ∷ words) ≡ None
unfolding asked_from
after_dashes_refused name line word full words = fifth_after_dashes_refused name line word words full

pub true_on_err : {T E P : Type 0} (r : Result T E) → P → OnErr r P
true_on_err (Ok value) holds = tt
true_on_err (Err error) holds = holds

-- ---- the start and the end of the walk

pub nothing_given : (line : Line) → line.budget ≡ None → line.accuracy ≡ None → line.memory ≡ None → line.stats ≡ None → (o : OptionName) → given_to line o ≡ []
nothing_given line budget accuracy memory stats option.Budget = rw budget refl
nothing_given line budget accuracy memory stats option.Accuracy = rw accuracy refl
nothing_given line budget accuracy memory stats option.Memory = rw memory refl
nothing_given line budget accuracy memory stats option.Stats = rw stats refl

pub start_asked : (name : CommandName) (line : Line) (words : List Word) → words_of line.positionals ≡ [] → ((o : OptionName) → given_to line o ≡ [])
    → ((f : FlagName) → times_of line f ≡ 0) → asked_from name line next.Item words ≡ asked_by name words
unfolding asked_from asked_by asked_with
start_asked name line words positionals given times =
    ap (λ (f : ItemsAndAfterDashes → Option Command). parts_from name None words >>= f) (fun_ext (λ (parts : ItemsAndAfterDashes).
    same_asks name
    (words_of line.positionals ++ (flat_map positional_words parts.0 ++ parts.1))
    (flat_map positional_words parts.0 ++ parts.1)
    (given_with line parts.0)
    (given_of_items parts.0)
    (ap (λ ws. ws ++ (flat_map positional_words parts.0 ++ parts.1)) positionals)
    (λ o. ap (λ ws. ws ++ flat_map (given_by o) parts.0) (given o))
    (λ f. omega (arith, times f))))

abbrev no_words : Line
no_words = record { positionals = positionals.Nothing; budget = None; accuracy = None; memory = None; stats = None; reduce = false; bushy = false; keys = false; count = false }

never_set : (f : FlagName) → times_of no_words f ≡ 0
never_set flag.Reduce = refl
never_set flag.Bushy = refl
never_set flag.Keys = refl
never_set flag.Count = refl

pub first_asked : (name : CommandName) (words : List Word) → asked_from name no_words next.Item words ≡ asked_by name words
first_asked name words = start_asked name no_words words refl (nothing_given no_words refl refl refl refl) never_set

no_words_left : (words : List (Bor (List ℕ))) (i : ℕ) → length words ≤ i → map (λ w. w.now) (drop i words) ≡ []
no_words_left words i past = rw (drop_all i words past) refl

nothing_more : (name : CommandName) (line : Line) → collected name line ≡ asked_with name line ([], [])
unfolding asked_with
nothing_more name line =
    same_asks name (words_of line.positionals) (words_of line.positionals ++ []) (given_of line) (given_with line [])
    (sym (append-nil (words_of line.positionals))) (λ o. sym (append-nil (given_to line o))) (λ f. omega arith)

pub line_ended : (name : CommandName) (line : Line) (words : List (Bor (List ℕ))) (i : ℕ) (all : Option Command) → length words ≤ i
    → asked_from name line next.Item (map (λ w. w.now) (drop i words)) ≡ all → collected name line ≡ all
unfolding asked_from parts_from
line_ended name line words i all past is = let none = no_words_left words i past in nothing_more name line ∙ rw none at is

pub line_ended_after_dashes : (name : CommandName) (line : Line) (words : List (Bor (List ℕ))) (i : ℕ) (all : Option Command) → length words ≤ i
    → asked_from name line next.Positional (map (λ w. w.now) (drop i words)) ≡ all → collected name line ≡ all
unfolding asked_from parts_from
line_ended_after_dashes name line words i all past is = let none = no_words_left words i past in nothing_more name line ∙ rw none at is

pub value_missing : (name : CommandName) (line : Line) (o : OptionName) (words : List (Bor (List ℕ))) (i : ℕ) (all : Option Command) → length words ≤ i
    → asked_from name line (next.Value o) (map (λ w. w.now) (drop i words)) ≡ all → all ≡ None
unfolding asked_from parts_from
value_missing name line o words i all past is = let none = no_words_left words i past in sym (rw none at is)
