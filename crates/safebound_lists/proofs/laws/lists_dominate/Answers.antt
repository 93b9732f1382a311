use Rattle.std.proofs.Common.{ℕ, cond, eqb, length, arith}
use Rattle.std.specs.List.{list_any}
use Rattle.std.proofs.lemmas.List.Sums.{sum_by-append}
use Rattle.degree_sequences.proofs.ByRank.{running_sum-rank_sum}
use Rattle.degree_sequences.proofs.CompressedLists.{compressed-above}
use Rattle.degree_sequences.proofs.DegreeLists.{degree_list_dominates}
use Rattle.safebound_lists.proofs.laws.lists_dominate.Goals as goal

pub returns-clause-degrees : goal.returns-clause-degrees
returns-clause-degrees c = degree_list_dominates

pub returns-clause-compressed : goal.returns-clause-compressed
returns-clause-compressed c = λ list accuracy keys descends dominates picked apart.
    omega (arith, dominates picked apart, compressed-above accuracy list descends (length picked))

pub returns-clause-added : goal.returns-clause-added
returns-clause-added c = λ list later keys more first second picked apart.
    omega (
      arith,
      first picked apart,
      second picked apart,
      running_sum-rank_sum list later (length picked),
      sum_by-append (λ (key : ℕ). cond (list_any (λ a. eqb key a) picked) 1 0) keys more,
    )
