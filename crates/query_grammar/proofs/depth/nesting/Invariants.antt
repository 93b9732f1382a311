use Rattle.std.proofs.Common.{◌≡◌, ◌≤◌, max, drop}
use Rattle.query_grammar.specs.Nesting.{nesting_from, nesting}
use Rattle.query_grammar.proofs.depth.nesting.Given as goal

abbrev pub invariant-loop-token : goal.invariant-loop-token
invariant-loop-token l = record {
  few : l.«open» ≤ l.token-index;
  counted : l.«open» ≤ l.greatest;
  so_far : max l.greatest (nesting_from l.«open» (drop l.token-index l.tokens)) ≡ nesting l.tokens;
}
