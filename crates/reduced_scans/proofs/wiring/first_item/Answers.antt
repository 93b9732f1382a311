use Rattle.std.proofs.Common.{arith, ap, sym, ◌∙◌, ◌≡◌, ◌<◌, ℕ, List, length}
use Rattle.join_steps.specs.Lists.{list_at, lists_of}
use Rattle.reduced_scans.proofs.MarkedRows.{first-take, first_item_of_first_list}
use Rattle.join_steps.proofs.WholeScans.{length-lists_of}
use Rattle.reduced_scans.proofs.OfQuery.{read_list, read_list_within_limit}
use Rattle.reduced_scans.proofs.wiring.first_item.Goals as goal

pub lists-init : goal.lists-init
lists-init c = record { first = sym (first_item_of_first_list (lists_of c.args.scans.now)); few = omega arith }

pub overflow_cast-first : goal.overflow_cast-first
overflow_cast-first c =
    let in_range : c.lists.k < length c.args.scans.now = omega (arith, c.lists-test.true, c.requires.entry) in
    omega (arith, c.len.ensures, read_list_within_limit c.args.scans.now c.requires.sizes c.lists.k c.index-scans-k.result in_range c.index-scans-k.is)

pub overflow_add-first : goal.overflow_add-first
overflow_add-first c =
    let in_range : c.lists.k < length c.args.scans.now = omega (arith, c.lists-test.true, c.requires.entry) in
    omega (
      arith,
      c.len.ensures,
      read_list_within_limit c.args.scans.now c.requires.sizes c.lists.k c.index-scans-k.result in_range c.index-scans-k.is,
      c.lists.invariant.few,
      in_range,
      c.requires.few,
    )

pub lists-preserved : goal.lists-preserved
lists-preserved c =
    let lists = lists_of c.args.scans.now in
    let in_range : c.lists.k < length c.args.scans.now = omega (arith, c.lists-test.true, c.requires.entry) in
    let size : c.len.result ≡ length (list_at lists c.lists.k) = c.len.ensures ∙ ap (λ (l : List ℕ). length l) (read_list c.args.scans.now c.lists.k c.index-scans-k.result in_range c.index-scans-k.is) in
    record {
      first = omega (arith, c.lists.invariant.first, size, first-take lists c.lists.k (omega (arith, length-lists_of c.args.scans.now)));
      few = omega (arith, c.lists.invariant.few, size, c.requires.sizes c.lists.k);
    }
