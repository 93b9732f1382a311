use Rattle.schema_types.proofs.Stages.{tables_lie_in_text}
use Rattle.schema_types.proofs.read.answer.Goals as goal

pub bind-requires : goal.bind-requires
bind-requires c =
    rw c.as_slice-in-Ok.ensures (tables_lie_in_text c.args.text.now c.in_ok-lexemes.lexemes c.in-Ok.tables (rw c.as_slice.ensures at c.in-Ok.ensures.ok) c.in_ok-lexemes.ensures.within)
