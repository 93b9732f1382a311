-- The contract of `read_stats` allows the result `stats_answer`. It allows one other result only: that memory ran out.
use Rattle.std.proofs.Common.{◌≡◌, ◌≢◌, ◌⊎◌, inl, inr, ℕ, List, Result, Ok, Err, refl, sym, subst}
use Rattle.schema_types.specs.declared.types.Schema.{Schema}
use Rattle.schema_types.specs.Validity.{IsValid}
use Rattle.stats_file.specs.declared.types.StatsError.{StatsError}
use Rattle.stats_file.specs.declared.types.StatsError.TheVariants as error
use Rattle.stats_file.specs.declared.types.StatsFile.{StatsFile}
use Rattle.stats_file.specs.Answers.{IsAllowedResult}
use Rattle.stats_file.specs.FileText.{file_text}
use Rattle.stats_file.specs.Rules.{KeepsRules}
use Rattle.stats_reading.specs.Names.{HasByteColumns}
use Rattle.stats_lines.proofs.Results.{never_no_memory, result_allowed}
use Rattle.stats_answers.specs.StatsTexts.{stats_answer}
use Rattle.stats_answers.proofs.OneAnswer.{one_answer}

pub allowed : (schema : Schema) (text : List ℕ) → IsValid schema → IsAllowedResult schema text (stats_answer schema text)
unfolding stats_answer
allowed schema text good = result_allowed schema text good

pub never_out_of_memory : (schema : Schema) (text : List ℕ) → stats_answer schema text ≢ Err error.NoMemory
unfolding stats_answer
never_out_of_memory schema text = never_no_memory schema text

pub no_other_result : (schema : Schema) (text : List ℕ) (answer : Result StatsFile StatsError) → IsValid schema → HasByteColumns schema → IsAllowedResult schema text answer
    → (answer ≡ Err error.NoMemory) ⊎ (answer ≡ stats_answer schema text)
no_other_result schema text answer good columns h = one_answer schema text good columns answer (stats_answer schema text) h (allowed schema text good) (never_out_of_memory schema text)

pub result_keeps_rules : (schema : Schema) (text : List ℕ) (file : StatsFile) → IsValid schema → stats_answer schema text ≡ Ok file → KeepsRules schema file × (text ≡ file_text schema file)
result_keeps_rules schema text file good e = subst (IsAllowedResult schema text) e (allowed schema text good)

pub written_file_is_read : (schema : Schema) (file : StatsFile) → IsValid schema → HasByteColumns schema → KeepsRules schema file → stats_answer schema (file_text schema file) ≡ Ok file
written_file_is_read schema file good columns keeps = by (stats_answer schema (file_text schema file)) (no_other_result schema (file_text schema file) (Ok file) good columns (keeps, refl))
  where
    by : (answer : Result StatsFile StatsError) → (Ok file ≡ Err error.NoMemory) ⊎ (Ok file ≡ answer) → answer ≡ Ok file
    by answer (inl e) = absurd (cc)
    by answer (inr e) = sym e
