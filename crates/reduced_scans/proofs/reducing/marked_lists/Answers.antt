use Rattle.std.proofs.Common.{arith, ap, sym, subst, ◌∙◌, ◌≡◌, ◌<◌, ℕ, List, [], ◌∷◌, length}
use Rattle.std.proofs.lemmas.List.Elements.{All-append, All-from_recursion}
use Rattle.counted_sets.specs.Sets.{marked}
use Rattle.join_steps.specs.Lists.{list_at, lists_of}
use Rattle.row_buf.specs.Rows.{Rows}
use Rattle.reduced_scans.specs.Lists.{HaveNoSpare}
use Rattle.reduced_scans.specs.Wiring.{first_item}
use Rattle.reduced_scans.proofs.MarkedRows.{items_within}
use Rattle.join_steps.proofs.WholeScans.{length-lists_of}
use Rattle.reduced_scans.proofs.OfQuery.{marked_after_step, read_list}
use Rattle.reduced_scans.proofs.reducing.marked_lists.Goals as goal

pub marked_rows-requires-clause-marks : goal.marked_rows-requires-clause-marks
marked_rows-requires-clause-marks c =
    let lists = lists_of c.args.scans.now in
    let in_range : c.lists.entry < length c.args.scans.now = omega arith in
    let list : c.as_slice.result.now ≡ list_at lists c.lists.entry = c.as_slice.ensures ∙ read_list c.args.scans.now c.lists.entry c.index-scans-entry.result in_range c.index-scans-entry.is in
    omega (
      arith,
      c.first_item-first.ensures.first,
      ap (λ (l : List ℕ). length l) list,
      items_within lists c.lists.entry (omega (arith, length-lists_of c.args.scans.now)),
      ap (first_item lists) (length-lists_of c.args.scans.now),
      c.requires.marks,
    )

pub lists-preserved : goal.lists-preserved
lists-preserved c =
    let in_range : c.lists.entry < length c.args.scans.now = omega arith in
    let has_no_spare : Rows ℕ → Type 0 = λ list. list.spare ≡ 0 in
    record {
      lists =
          marked_after_step (marked c.args.marks.now.items) c.args.scans.now c.lists.lists.items c.push_reserved.new.self.items c.lists.entry c.first_item-first.result c.in_ok-rows.rows c.as_slice.result.now in_range c.push_reserved.ensures.items
          c.first_item-first.ensures.first (c.as_slice.ensures ∙ read_list c.args.scans.now c.lists.entry c.index-scans-entry.result in_range c.index-scans-entry.is) c.in_ok-rows.ensures.rows c.lists.invariant.lists;
      no_spare = subst HaveNoSpare (sym c.push_reserved.ensures.items)
          (All-append has_no_spare c.lists.lists.items (c.in_ok-rows.rows ∷ []) c.lists.invariant.no_spare
          (All-from_recursion has_no_spare (c.in_ok-rows.rows ∷ []) (c.in_ok-rows.ensures.no_spare, tt)));
      count = omega (arith, c.push_reserved.ensures.len, c.lists.invariant.count);
      capacity = c.push_reserved.ensures.capacity ∙ c.lists.invariant.capacity;
    }
