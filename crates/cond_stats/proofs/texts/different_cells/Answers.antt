use Rattle.std.proofs.Common.{ℕ, List, take, get_or, nat_eq, ap, sym, ◌∙◌}
use Rattle.std.proofs.lemmas.List.{take_more, take_all}
use Rattle.degree_sequences.specs.Degrees.{different}
use Rattle.degree_lists.proofs.OneMoreKey.{different-push}
use Rattle.indexmap.specs.IndexSet.{insert_key}
use Rattle.cond_stats.proofs.texts.different_cells.Goals as goal

pub loop-cell-preserved : goal.loop-cell-preserved
loop-cell-preserved c =
    let cells : List ℕ = c.args.cells.now in
    let i : ℕ = c.loop-cell.cell-index in
    c.in_ok-insert.ensures.keys ∙ ap (λ (s : List ℕ). insert_key nat_eq s (get_or cells i 0)) c.loop-cell.invariant
    ∙ sym (different-push (take i cells) (get_or cells i 0)) ∙ ap different (sym (take_more cells i 0 c.loop-cell-test.true))

pub returns : goal.returns
returns c = c.loop-cell.invariant ∙ ap different (take_all c.loop-cell.cell-index c.args.cells.now c.loop-cell-test.false)
