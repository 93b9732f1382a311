use Rattle.std.proofs.Common.{◌≡◌, ◌-◌, ◌≤◌, ℕ, true, false, eqb, List, drop, get_or, length, take, subst, sym, rules}
use Rattle.std.specs.List.Sorted.{IsPartitionPoint, IsPartitionedBy}
use Rattle.std.proofs.lemmas.List.Sorted.{IsPartitionPoint-from_clause}
use Rattle.piece_math.proofs.FallingRuns.{take_rest_is_drop, equal_come_first, run_not_empty, run_within, run_equal}
use Rattle.piece_math.proofs.listed.run_length.Goals as goal

pub returns : goal.returns
returns c =
    let list : List ℕ = c.args.list.now in
    let start : ℕ = c.args.start in
    let count : ℕ = c.partition_point.result in
    let first : ℕ = get_or list start 0 in
    let rest : List ℕ = take (length list - start) (drop start list) in
    let bound : count ≤ length (drop start list) = subst (λ (s : List ℕ). count ≤ length s) (take_rest_is_drop list start) c.partition_point.ensures.bound in
    let parted : IsPartitionedBy (λ x. eqb x first) rest =
    subst (IsPartitionedBy (λ x. eqb x first)) (sym (take_rest_is_drop list start)) (equal_come_first list start c.requires.descends c.requires.start) in
    let at_rest : IsPartitionPoint (λ x. eqb x first ≡ true) (λ x. eqb x first ≡ false) rest count =
    IsPartitionPoint-from_clause (λ x. eqb x first) rest count c.partition_point.ensures.partitioned parted (λ a r q k. search rules) in
    let split : IsPartitionPoint (λ x. eqb x first ≡ true) (λ x. eqb x first ≡ false) (drop start list) count =
    subst (λ (s : List ℕ). IsPartitionPoint (λ x. eqb x first ≡ true) (λ x. eqb x first ≡ false) s count) (take_rest_is_drop list start) at_rest in
    record {
      some = run_not_empty list start count c.requires.start bound split;
      within = run_within list start count c.requires.start bound split;
      equal = run_equal list start count c.requires.start bound split;
    }
