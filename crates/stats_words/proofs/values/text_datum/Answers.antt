use Rattle.std.proofs.Common.{◌≡◌, Option, ap, ◌∙◌}
use Rattle.std.specs.Prelude.{IsUtf8, MatchOption}
use Rattle.std.proofs.lemmas.Result.{IfOk-weaker}
use Rattle.schema_types.specs.declared.types.Kind.TheVariants as kinds
use Rattle.stats_file.specs.declared.types.Datum.{Datum}
use Rattle.stats_file.specs.declared.types.Datum.TheVariants as datums
use Rattle.stats_file.specs.Lines.{datum_text, hex_text}
use Rattle.stats_file.specs.Rules.{IsOfKind}
use Rattle.stats_words.specs.Words.{Spells}
use Rattle.stats_words.proofs.TextFacts.{not_hex_spells_no_text, text_spelled}
use Rattle.stats_words.proofs.values.text_datum.Goals as goal

pub returns-then-not-is_hex_word : goal.returns-then-not-is_hex_word
returns-then-not-is_hex_word c = λ most. not_hex_spells_no_text most c.args.word.now (λ is. let told = c.is_hex_word.ensures.1 is in cc)

pub returns : goal.returns
returns c = λ most.
    let bytes = c.as_slice.result.now in
    let is : hex_text bytes ≡ c.args.word.now = ap hex_text c.as_slice.ensures.value ∙ c.in_ok-bytes.ensures in
    IfOk-weaker c.text_of.result (λ (d : Option Datum). MatchOption d (IsUtf8 bytes → ⊥) (λ x. IsUtf8 bytes × (x ≡ datums.Text bytes)))
    (λ (d : Option Datum). Spells datum_text (IsOfKind (kinds.Text most)) c.args.word.now d)
    (λ (d : Option Datum) h. text_spelled most c.args.word.now bytes d is h) c.text_of.ensures
