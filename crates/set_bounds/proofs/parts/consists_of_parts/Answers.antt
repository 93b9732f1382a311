use Rattle.std.proofs.Common.{◌∙◌, sym}
use Rattle.std.proofs.lemmas.Bool.{not-true}
use Rattle.set_bounds.proofs.Tested.{none_cross}
use Rattle.set_bounds.proofs.parts.consists_of_parts.Goals as goal

pub returns-clause-consists : goal.returns-clause-consists
returns-clause-consists c none = record {
  within = c.is_within.ensures.0 c.if-not-is_within.false;
  others = c.requires.others;
  unjoined = none_cross c.args.edges.now c.args.subset c.args.part (sym c.some_cross.ensures ∙ not-true c.some_cross.result none);
}
