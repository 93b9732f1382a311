use Rattle.std.proofs.Common.{◌≢◌, ℕ, zero, suc, ◌<◌, get_or, map, ap, arith, refl}
use Rattle.entry_sets.specs.Sets.{entries_of_set}
use Rattle.tree_bounds.proofs.Premises.{left_list, right_list, left_dominates, right_dominates, left_near_list, right_near_list, left_near, right_near}
use Rattle.berge_tree.specs.Trees.{entries}
use Rattle.tree_bounds.specs.Examples.{r_and_s, two_choices}
use Rattle.tree_bounds.proofs.examples.instances.Goals as goal

pub returns-clause-lists : goal.returns-clause-lists
returns-clause-lists c = (left_list, (right_list, tt), tt)

pub returns-clause-dominates : goal.returns-clause-dominates
returns-clause-dominates c = record { root = omega arith; columns = (left_dominates, (right_dominates, tt), tt) }

pub returns-clause-set_lists : goal.returns-clause-set_lists
returns-clause-set_lists c = (left_list, (right_list, tt))

pub returns-clause-set_dominates : goal.returns-clause-set_dominates
unfolding entries_of_set
returns-clause-set_dominates c = record { rows = (omega arith, (omega arith, tt)); columns = (left_dominates, (right_dominates, tt)) }

pub returns-clause-set_bound : goal.returns-clause-set_bound
unfolding entries_of_set
returns-clause-set_bound c = refl

pub returns-clause-near_lists : goal.returns-clause-near_lists
returns-clause-near_lists c = (left_near_list, (right_near_list, tt), tt)

pub returns-clause-near : goal.returns-clause-near
returns-clause-near c = record { root = omega arith; columns = (left_near, (right_near, tt), tt) }

pub returns-clause-set_near : goal.returns-clause-set_near
unfolding entries_of_set
returns-clause-set_near c = record { rows = (omega arith, (omega arith, tt)); columns = (left_near, (right_near, tt)) }

pub returns-clause-agree : goal.returns-clause-agree
returns-clause-agree c = ((omega arith, ((omega arith, refl, tt), tt)), ((omega arith, ((omega arith, refl, tt), tt)), tt))

pub returns-clause-satisfy : goal.returns-clause-satisfy
unfolding entries_of_set
returns-clause-satisfy c =
    (record { rows = (omega arith, (omega arith, tt)); equal = (refl, tt) }, (record { rows = (omega arith, (omega arith, tt)); equal = (refl, tt) }, tt))

pub returns-clause-different : goal.returns-clause-different
returns-clause-different c = pairs
  where
    pairs : (i j : ℕ) (d : ℕ → ℕ) → i < j → j < 2 → map (get_or two_choices i d) (entries r_and_s) ≢ map (get_or two_choices j d) (entries r_and_s)
    pairs zero (suc zero) d h k = λ same. absurd (omega (arith, ap (λ l. get_or l 1 0) same))
    pairs zero (suc (suc j)) d h k = absurd (omega (arith, k))
    pairs i zero d h k = absurd (omega (arith, h))
    pairs (suc i) (suc zero) d h k = absurd (omega (arith, h))
    pairs (suc i) (suc (suc j)) d h k = absurd (omega (arith, k))
