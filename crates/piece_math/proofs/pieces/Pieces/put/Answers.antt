use Rattle.std.proofs.Common.{ap, arith}
use Rattle.degree_sequences.specs.Runs.{runs}
use Rattle.piece_math.proofs.Expansion.{runs-push}
use Rattle.piece_math.proofs.pieces.Pieces.put.Goals as goal

pub returns-in_ok-push_run : goal.returns-in_ok-push_run
returns-in_ok-push_run c = record {
  fits = omega (arith, c.ranges.value);
  some = λ pos. c.in_ok-push_run.ensures.ok;
  zeros = λ none. absurd (omega arith);
  few = omega (arith, ap runs c.in_ok-push_run.ensures.ok, runs-push c.args.self.now c.args.count c.args.value);
}
