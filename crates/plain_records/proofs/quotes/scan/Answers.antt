use Rattle.std.proofs.Common.{◌∙◌, sym, ap, rules}
use Rattle.std.proofs.lemmas.List.{nil_from_length}
use Rattle.std.specs.Slice.Iter.{chunks_rest}
use Rattle.plain_records.specs.Plain.{has_quote}
use Rattle.plain_records.proofs.QuoteFacts.{quote_behind}
use Rattle.plain_records.proofs.quotes.scan.Goals as goal

pub loop-block-init : goal.loop-block-init
loop-block-init c = (search rules, tt, search rules, search rules)

pub loop-block-preserved : goal.loop-block-preserved
loop-block-preserved c =
    let steps = c.in-Some.ensures.steps in (
      search rules,
      tt,
      steps.0 ∙ c.loop-block.invariant.2,
      quote_behind _ c.in-Some.block.now (chunks_rest c.next.new.self) steps.1.0 (sym c.scan_block-seen.ensures ∙ c.if-seen.false) ∙ c.loop-block.invariant.3,
    )

pub returns : goal.returns
returns c = sym c.loop-block.invariant.3 ∙ ap has_quote (nil_from_length _ c.in-None.ensures.steps.1.0)
