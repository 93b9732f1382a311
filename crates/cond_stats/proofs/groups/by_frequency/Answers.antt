use Rattle.std.proofs.Common.{rules, ◌-◌, arith}
use Rattle.std.proofs.lemmas.List.Sorted.{answers_always}
use Rattle.cond_stats.proofs.GroupsFound.{groups_sorted}
use Rattle.cond_stats.proofs.InOrderFacts.{as_many_places, as_many_numbers}
use Rattle.cond_stats.proofs.SortedPairs.{pairs_ascend}
use Rattle.cond_stats.proofs.groups.by_frequency.Goals as goal

pub returns : goal.returns
returns c at_most column places short in_runs = groups_sorted in_runs.order (as_many_numbers in_runs.order) c.args.runs.items c.sort_unstable_by_key.new.self.items
    (omega (arith, as_many_places in_runs.order, short)) in_runs.runs_are c.sort_unstable_by_key.ensures.permutation
    (pairs_ascend (λ group. 4294967295 - group.count) (λ group. group.first) c.sort_unstable_by_key.new.self.items
    (c.sort_unstable_by_key.ensures.sorted (λ group. (4294967295 - group.count, group.first)) (answers_always _ _ _ (λ a r q k. search rules))))
