use Rattle.std.proofs.Common.{◌∙◌, sym}
use Rattle.stats_file.specs.declared.types.Datum.TheVariants as datum
use Rattle.stats_reading.proofs.CodeFacts.{equal_order_is_equality}
use Rattle.stats_reading.proofs.compare.same_text.Goals as goal

pub returns : goal.returns
returns c =
    let same = equal_order_is_equality (datum.Text c.args.a.now) (datum.Text c.args.b.now) in
    (λ t. same.0 (sym c.compare_texts.ensures ∙ c.is_equal.ensures.0 t), λ e. c.is_equal.ensures.1 (c.compare_texts.ensures ∙ same.1 e))
