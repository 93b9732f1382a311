use Rattle.std.proofs.Common.{◌≡◌, drop}
use Rattle.ll_grammars.specs.Terminals.{among}
use Rattle.ll_grammars.proofs.terminal.is_among.Given as goal

abbrev pub invariant-all : goal.invariant-all
invariant-all l = among l.terminals l.terminal ≡ among (drop l.other-index l.terminals) l.terminal
