-- `demo` reads and plans the same as an audit of the shop's texts.
use Rattle.std.proofs.Common.{◌≡◌, ℕ, List, [], ◌∷◌, None, Some, Result, refl, ap, sym, ◌∙◌}
use Rattle.std.specs.Prelude.{codes, false}
use Rattle.base_io.specs.Files.{Files}
use Rattle.safebound_words.specs.Answer.{command_of, kind_of_word, parts_from, reading_of}
use Rattle.safebound_words.specs.Commands.{demo_of, over_query, plan_by}
use Rattle.safebound_words.specs.Table.{over_files}
use Rattle.safebound_words.specs.declared.command.Command.{Command}
use Rattle.safebound_words.specs.declared.command.OutText.TheVariants as out_text
use Rattle.outcomes.specs.Reads.{◌>>=◌}
use Rattle.outcomes.specs.declared.refusal.Refusal.{Refusal}
use Rattle.prepared_runs.specs.Verdict.{command_run, or_usage, verdict}

abbrev audit_words : List (List ℕ)
audit_words = codes "audit" ∷ codes "schema.sql" ∷ codes "query.sql" ∷ []

abbrev audit : Command
audit = over_query None (codes "schema.sql") (codes "query.sql") (plan_by out_text.Audit 1000000 1 false false false None)

audit_is : command_of audit_words ≡ Some audit
unfolding command_of kind_of_word over_files parts_from reading_of
audit_is = refl

same_run : (number : ℕ) (files : Files) → command_run (demo_of number) files ≡ command_run audit files
unfolding command_run
same_run number files = refl

pub demo_as_audit : (number : ℕ) (words : List (List ℕ)) (files : Files) → command_of words ≡ Some (demo_of number)
    → verdict words files ≡ verdict audit_words files
unfolding verdict
demo_as_audit number words files is =
    ap (λ (r : Result Command Refusal). r >>= (λ command. command_run command files)) (ap or_usage is)
    ∙ same_run number files
    ∙ sym (ap (λ (r : Result Command Refusal). r >>= (λ command. command_run command files)) (ap or_usage audit_is))
