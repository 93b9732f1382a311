use Rattle.std.proofs.Common.{◌≡◌, ◌+◌, ◌-◌, suc, arith, sym, ◌∙◌, ap, subst, List, [], ◌++◌, map}
use Rattle.limits.specs.Profile.{greatest_entries}
use Rattle.berge_tree.specs.declared.columns.Column.{Column}
use Rattle.berge_tree.specs.declared.tree.Tree.{Tree}
use Rattle.entry_sets.specs.Sets.{entries_from, entries_of_set}
use Rattle.berge_tree.specs.Walk.{tree_of_new_entry, forest}
use Rattle.entry_sets.proofs.Listing.{bit_of_member, no_bit_of_nonmember}
use Rattle.berge_tree.specs.Boxed.{tree_of}
use Rattle.berge_tree.proofs.TreesSoFar.{TreesSoFar, planting_none, planting_more, planting_skip, planting_rooted}
use Rattle.berge_tree.proofs.walk.rooted.Goals as goal
use Rattle.berge_tree.proofs.walk.rooted.Goals.{then-has+in_ok-add_tree, else-has}

pub loop-entry-init : goal.loop-entry-init
loop-entry-init c = planting_none c.in_ok-columns.columns.items c.args.subset c.new-trees.result c.new-trees.ensures

pub loop-entry-preserved : goal.loop-entry-preserved
loop-entry-preserved c =
    let more : greatest_entries - c.loop-entry.entry ≡ suc (greatest_entries - (c.loop-entry.entry + 1)) = omega arith in
    elim c.if-has.branch [
      | then-has+in_ok-add_tree w ↦ subst (λ (ts : List Tree). TreesSoFar c.in_ok-columns.columns.items ts (entries_from c.args.subset (c.loop-entry.entry + 1) (greatest_entries - (c.loop-entry.entry + 1))) (forest greatest_entries c.in_ok-columns.columns.items [] (entries_of_set c.args.subset))) (sym w.trees-is)
          (planting_more c.in_ok-columns.columns.items c.loop-entry.trees w.add_tree.new.trees c.args.subset c.loop-entry.entry (greatest_entries - (c.loop-entry.entry + 1)) (greatest_entries - c.loop-entry.entry) (forest greatest_entries c.in_ok-columns.columns.items [] (entries_of_set c.args.subset)) more (bit_of_member c.args.subset c.loop-entry.entry (sym c.has.ensures.value ∙ w.if-has.true))
          (w.in_ok-add_tree.ensures {u = tt} ∙ ap (λ (cs : List Column). map tree_of c.loop-entry.trees ++ tree_of_new_entry cs c.loop-entry.trees c.loop-entry.entry) w.as_slice.ensures.value) c.loop-entry.invariant)
      | else-has w ↦ subst (λ (ts : List Tree). TreesSoFar c.in_ok-columns.columns.items ts (entries_from c.args.subset (c.loop-entry.entry + 1) (greatest_entries - (c.loop-entry.entry + 1))) (forest greatest_entries c.in_ok-columns.columns.items [] (entries_of_set c.args.subset))) (sym w.trees-is)
          (planting_skip c.in_ok-columns.columns.items c.loop-entry.trees c.args.subset c.loop-entry.entry (greatest_entries - (c.loop-entry.entry + 1)) (greatest_entries - c.loop-entry.entry) (forest greatest_entries c.in_ok-columns.columns.items [] (entries_of_set c.args.subset)) more (no_bit_of_nonmember c.args.subset c.loop-entry.entry (omega arith) (sym c.has.ensures.value ∙ w.if-has.false)) c.loop-entry.invariant)
    ]

pub returns : goal.returns
returns c =
    planting_rooted c.args.edges.now c.requires.no_cycle c.args.subset c.requires.within c.in_ok-columns.columns.items c.loop-entry.trees c.loop-entry.entry (greatest_entries - c.loop-entry.entry) (c.in_ok-columns.ensures {u = tt}) (omega (arith, c.loop-entry-test.false)) c.loop-entry.invariant
