use Rattle.std.proofs.Common.{arith, ap, sym, ◌∙◌, ◌≡◌, ◌<◌, ◌+◌, ◌++◌, ℕ, false, List, [], ◌∷◌, append-nil, length, length-append, get_or, take}
use Rattle.std.specs.Prelude.{if◌then◌else◌}
use Rattle.counted_sets.specs.Sets.{marked}
use Rattle.reduced_scans.specs.Wiring.{marked_rows}
use Rattle.reduced_scans.proofs.MarkedRows.{room_for_next_row, rows-take}
use Rattle.reduced_scans.proofs.reducing.marked_rows.Goals.{then-stays, else-stays}
use Rattle.reduced_scans.proofs.reducing.marked_rows.Goals as goal

pub push-requires : goal.push-requires
push-requires c =
    let kept = marked c.args.marks.now.items in
    let list = c.args.list.now in
    let in_range : c.rows.at < length list = omega arith in
    omega (
      arith,
      room_for_next_row kept c.args.first list c.rows.at in_range (c.get-stays.ensures false ∙ c.if-stays.true),
      c.rows.invariant.room,
      ap (λ (l : List ℕ). length l) c.rows.invariant.rows,
    )

pub rows-preserved : goal.rows-preserved
rows-preserved c =
    let kept = marked c.args.marks.now.items in
    let list = c.args.list.now in
    let at : ℕ = c.rows.at in
    let row : ℕ = get_or list at 0 in
    let before : List ℕ = marked_rows kept c.args.first (take at list) in
    let at_in_range : at < length list = omega arith in
    let step : marked_rows kept c.args.first (take (at + 1) list) ≡ before ++ (if kept (c.args.first + at) then row ∷ [] else []) = rows-take kept c.args.first list at at_in_range in
    elim c.if-stays.branch [
      | then-stays w ↦ record {
        rows = rw (w.rows-is, w.push.ensures.items)
            (ap (λ (l : List ℕ). l ++ row ∷ []) c.rows.invariant.rows ∙ sym (step ∙ ap (λ b. before ++ (if b then row ∷ [] else [])) (c.get-stays.ensures false ∙ w.if-stays.true)));
        room = rw w.rows-is (omega (arith, w.push.ensures.spare, ap (λ (l : List ℕ). length l) w.push.ensures.items, length-append c.rows.rows.items (row ∷ []), c.rows.invariant.room));
      }
      | else-stays w ↦ record {
        rows = rw w.rows-is (c.rows.invariant.rows ∙ sym (step ∙ ap (λ b. before ++ (if b then row ∷ [] else [])) (c.get-stays.ensures false ∙ w.if-stays.false) ∙ append-nil before));
        room = rw w.rows-is c.rows.invariant.room;
      }
    ]
