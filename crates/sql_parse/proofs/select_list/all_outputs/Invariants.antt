use Rattle.sql_parse.proofs.OutFacts.{IsCountedAndBuilt, outs_before}
use Rattle.sql_parse.proofs.select_list.all_outputs.Given as goal

abbrev pub invariant-all : goal.invariant-all
invariant-all l = IsCountedAndBuilt l.binder l.found (outs_before l.binder l.number)
