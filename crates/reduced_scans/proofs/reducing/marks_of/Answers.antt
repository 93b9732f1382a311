use Rattle.std.proofs.Common.{ap, sym, subst, ◌∙◌, ◌≡◌, ◌*◌, length}
use Rattle.std.specs.Prelude.{All}
use Rattle.counted_sets.specs.Sets.{IsGreatest, IsUseOf, marked}
use Rattle.level_bounds.specs.Keys.{cell_at}
use Rattle.join_steps.specs.Lists.{lists_of}
use Rattle.reduced_scans.specs.Wiring.{first_item}
use Rattle.reduced_scans.proofs.Bridge.{marks_reduce}
use Rattle.join_steps.proofs.WholeScans.{length-lists_of}
use Rattle.reduced_scans.proofs.UseFacts.{uses_are_of}
use Rattle.reduced_scans.proofs.reducing.marks_of.Goals as goal

pub reduce-requires-clause-uses : goal.reduce-requires-clause-uses
reduce-requires-clause-uses c =
    let lists = lists_of c.args.scans.now in
    let items : c.first_item-items.result ≡ first_item lists (length lists) = c.first_item-items.ensures.first ∙ ap (first_item lists) (sym (length-lists_of c.args.scans.now)) in
    subst (All (IsUseOf c.first_item-items.result (2 * c.len.result))) (sym c.as_slice.ensures)
    (subst (λ n. All (IsUseOf n (2 * c.len.result)) c.add_all_uses.new.uses.items) (sym items)
    (subst (λ n. All (IsUseOf (first_item lists (length lists)) (2 * n)) c.add_all_uses.new.uses.items) (sym c.len.ensures.len)
    (uses_are_of lists c.args.equalities.now (cell_at c.args.db.now) c.add_all_uses.new.known_values (length c.args.equalities.now) c.add_all_uses.new.uses.items c.in_ok-add_all_uses.ensures.wired)))

pub returns-clause-reduced : goal.returns-clause-reduced
returns-clause-reduced c equal tells ascending =
    let lists = lists_of c.args.scans.now in
    let items : c.first_item-items.result ≡ first_item lists (length lists) = c.first_item-items.ensures.first ∙ ap (first_item lists) (sym (length-lists_of c.args.scans.now)) in
    let kept = marked c.in_ok-marks.marks.items in
    let greatest : IsGreatest (first_item lists (length lists)) c.add_all_uses.new.uses.items kept =
    subst (λ n. IsGreatest n c.add_all_uses.new.uses.items kept) items (subst (λ uses. IsGreatest c.first_item-items.result uses kept) c.as_slice.ensures c.in_ok-marks.ensures.greatest) in
    marks_reduce lists c.args.equalities.now (cell_at c.args.db.now) equal tells c.add_all_uses.new.known_values c.add_all_uses.new.uses.items c.len.ensures.different c.in_ok-add_all_uses.ensures.wired kept ascending greatest
