-- The values of the command in the words are within their ranges.
use Rattle.std.proofs.Common.{◌≡◌, List, ℕ, Option, None, Some, Ok, Err, ap, sym, subst, refl}
use Rattle.outcomes.specs.declared.refusal.Refusal.TheVariants as refusal
use Rattle.safebound_words.specs.Answer.{command_of}
use Rattle.safebound_words.specs.InRange.{HasRanges}
use Rattle.safebound_words.specs.declared.command.Command.{Command}
use Rattle.safebound_words.proofs.Ranges.{in_range}
use Rattle.prepared_runs.specs.Shops.{shop_asked, demo_number_of}
use Rattle.prepared_runs.specs.Verdict.{command_stage, or_usage}

ranges_in : (asked : Option Command) (command : Command) → ((c : Command) → asked ≡ Some c → HasRanges c.schema_task) → or_usage asked ≡ Ok command
    → HasRanges command.schema_task
ranges_in None command range is = absurd (cc)
ranges_in (Some c) command range is = let same : c ≡ command = cc in subst (λ (c : Command). HasRanges c.schema_task) same (range c refl)

module _ (words : List (List ℕ)) where
  pub command_taken : (command : Command) → Some command ≡ command_of words → command_stage words ≡ Ok command
  command_taken command is = ap or_usage (sym is)

  pub no_command : None ≡ command_of words → command_stage words ≡ Err refusal.Usage
  no_command is = ap or_usage (sym is)

  pub shop_taken : (command : Command) → Some command ≡ command_of words → demo_number_of words ≡ command.shop
  shop_taken command is = ap shop_asked (sym is)

  pub no_shop : None ≡ command_of words → demo_number_of words ≡ None
  no_shop is = ap shop_asked (sym is)

  pub has_ranges : (command : Command) → command_stage words ≡ Ok command → HasRanges command.schema_task
  has_ranges command is = ranges_in (command_of words) command (in_range words) is
