use Rattle.std.proofs.Common.{◌≡◌, sym, ◌∙◌}
use Rattle.safebound_words.specs.declared.command.OutText.TheVariants as out_text
use Rattle.prepared_runs.proofs.prepare.make_room.Goals as goal

pub prepare_joins-requires-clause-allowed : goal.prepare_joins-requires-clause-allowed
prepare_joins-requires-clause-allowed c = record {
  asked = λ nothing. let no : out_text.Rows ≡ out_text.Nothing = sym c.in-Rows.is ∙ nothing in cc;
  affordable = c.requires.affordable;
  within = c.requires.within;
}

pub prepare_joins-requires-in-Audit-clause-allowed : goal.prepare_joins-requires-in-Audit-clause-allowed
prepare_joins-requires-in-Audit-clause-allowed c = record {
  asked = λ nothing. let no : out_text.Audit ≡ out_text.Nothing = sym c.in-Audit.is ∙ nothing in cc;
  affordable = c.requires.affordable;
  within = c.requires.within;
}
