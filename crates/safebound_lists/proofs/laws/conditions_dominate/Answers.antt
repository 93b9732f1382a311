use Rattle.std.proofs.Common.{ℕ, Bool, List, length, eqb, map, inl, inr, subst, sym, arith}
use Rattle.std.specs.List.{filter, list_any}
use Rattle.std.proofs.lemmas.List.Sums.{count_by-le-length}
use Rattle.degree_sequences.specs.ByRank.{rank_maximum}
use Rattle.degree_sequences.specs.Domination.{DominatesKeys}
use Rattle.degree_sequences.proofs.ByRank.{running_sum-rank_sum}
use Rattle.degree_sequences.proofs.Minima.{running_sum-capped_at, running_sum-lesser}
use Rattle.safebound_lists.proofs.Conditions.{greater_is_above_first, greater_is_above_second, both_are_at_most_first, both_are_at_most_second, at_least_one_is_at_most_sum}
use Rattle.safebound_lists.proofs.laws.conditions_dominate.Goals as goal

abbrev among : List ℕ → ℕ → Bool
among picked key = list_any (λ a. eqb key a) picked

pub returns-clause-both : goal.returns-clause-both
returns-clause-both c = λ rows key first second list other one two picked apart.
    omega (
      arith,
      one picked apart,
      two picked apart,
      both_are_at_most_first (among picked) key first second rows,
      both_are_at_most_second (among picked) key first second rows,
      running_sum-lesser list other (length picked),
    )

pub returns-clause-at_least_one : goal.returns-clause-at_least_one
returns-clause-at_least_one c = λ rows key first second list other one two picked apart.
    omega (
      arith,
      one picked apart,
      two picked apart,
      at_least_one_is_at_most_sum (among picked) key first second rows,
      running_sum-rank_sum list other (length picked),
    )

pub returns-clause-one_of : goal.returns-clause-one_of
returns-clause-one_of c = λ rows key value one another list other first second any is. elim is [
  | inl same ↦ subst (λ (v : ℕ). DominatesKeys (rank_maximum list other) (map key (filter (λ row. eqb (value row) v) rows))) (sym same)
      (λ picked apart. omega (arith, first picked apart, greater_is_above_first list other (length picked)))
  | inr same ↦ subst (λ (v : ℕ). DominatesKeys (rank_maximum list other) (map key (filter (λ row. eqb (value row) v) rows))) (sym same)
      (λ picked apart. omega (arith, second picked apart, greater_is_above_second list other (length picked)))
]

pub returns-clause-cut : goal.returns-clause-cut
returns-clause-cut c = λ list keys rows dominates few picked apart.
    omega (arith, dominates picked apart, few, count_by-le-length (among picked) keys, running_sum-capped_at list rows (length picked))
