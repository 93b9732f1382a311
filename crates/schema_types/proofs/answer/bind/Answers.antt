use Rattle.schema_types.proofs.answer.bind.Goals as goal

pub answer-requires : goal.answer-requires
answer-requires c = rw (c.in_ok-scope.ensures.text, c.in_ok-scope.ensures.tables) c.requires
