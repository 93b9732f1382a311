use Rattle.std.proofs.Common.{arith, subst, ◌≡◌, ◌-◌, ◌<◌, ◌≤◌, ℕ, true, get_or, length, set, take}
use Rattle.std.specs.List.{All}
use Rattle.std.proofs.lemmas.List.{take_all}
use Rattle.std.proofs.lemmas.List.Elements.{All-more, All-weaker}
use Rattle.reduced_scans.specs.SemiJoins.{is_marked}
use Rattle.reduced_scans.proofs.Marking.{marked_now, marked_still}
use Rattle.reduced_scans.proofs.value_sets.mark.Goals as goal

pub rows-preserved : goal.rows-preserved
rows-preserved c =
    let cell : ℕ → ℕ = λ row. get_or c.args.cells.now row 0 in
    let marks = c.rows.marks in
    let least : ℕ = c.args.least in
    let value : ℕ = cell (get_or c.args.list.now c.rows.row-index 0) in
    let within : value - least < length marks = omega (arith, c.requires.below c.rows.row-index 0 c.rows-test.true, c.rows.auto.marks) in
    let above : least ≤ value = c.requires.above c.rows.row-index 0 c.rows-test.true in
    All-more (λ row. is_marked least (set marks (value - least) true) (cell row) ≡ true) c.args.list.now c.rows.row-index 0 c.rows-test.true
    (All-weaker (λ row. is_marked least marks (cell row) ≡ true) (λ row. is_marked least (set marks (value - least) true) (cell row) ≡ true)
    (λ row h. marked_still least marks value within (cell row) h) (take c.rows.row-index c.args.list.now) c.rows.invariant)
    (marked_now least marks value within above)

pub returns : goal.returns
returns c =
    subst (All (λ row. is_marked c.args.least c.rows.marks (get_or c.args.cells.now row 0) ≡ true)) (take_all c.rows.row-index c.args.list.now (omega arith)) c.rows.invariant
