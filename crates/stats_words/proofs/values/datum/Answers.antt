use Rattle.std.proofs.Common.{IfOk, Option, subst, sym}
use Rattle.schema_types.specs.declared.types.Kind.{Kind}
use Rattle.stats_file.specs.declared.types.Datum.{Datum}
use Rattle.stats_file.specs.Lines.{datum_text}
use Rattle.stats_file.specs.Rules.{IsOfKind}
use Rattle.stats_words.specs.Words.{Spells}
use Rattle.stats_words.proofs.values.datum.Goals as goal

pub returns-in-Text : goal.returns-in-Text
returns-in-Text c =
    subst (λ (k : Kind). IfOk c.text_datum.result (λ (d : Option Datum). Spells datum_text (IsOfKind k) c.args.word.now d)) (sym c.in-Text.is)
    (c.text_datum.ensures c.in-Text.field-0)
