use Rattle.std.proofs.Common.{◌≡◌, ◌++◌, ◌-◌, map}
use Rattle.std.specs.List.{range_with_len}
use Rattle.join_graph.specs.Conjuncts.{numbers_where}
use Rattle.join_graph.specs.Naming.{is_same_part}
use Rattle.join_graph.specs.declared.splitting.Part.TheVariants as part
use Rattle.join_graph.proofs.splitting.numbers_by_entry.Given as goal

abbrev pub invariant-loop-entry : goal.invariant-loop-entry
invariant-loop-entry l =
    l.lists ++ map (λ entry. numbers_where (is_same_part (part.Local entry)) 0 l.parts) (range_with_len l.entry (l.entries - l.entry))
    ≡ map (λ entry. numbers_where (is_same_part (part.Local entry)) 0 l.parts) (range_with_len 0 l.entries)
