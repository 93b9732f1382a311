-- Bytes that consist of two parts have a quotation mark exactly if one of the parts has one.
use Rattle.std.proofs.Common.{◌≡◌, ℕ, false, List, ◌++◌, ap, sym, ◌∙◌}
use Rattle.std.specs.Prelude.{◌||◌}
use Rattle.std.proofs.lemmas.List.Folds.{list_any-append}
use Rattle.plain_records.specs.Plain.{has_quote, is_quote}

pub quote_behind : (all block rest : List ℕ) → all ≡ block ++ rest → has_quote block ≡ false → has_quote rest ≡ has_quote all
quote_behind all block rest parts none =
    sym (ap has_quote parts ∙ list_any-append is_quote block rest ∙ ap (λ b. b || has_quote rest) none)
