use Rattle.std.proofs.Common.{◌++◌, ◌∷◌, [], ℕ, List, map, get_or, ap, sym, ◌∙◌}
use Rattle.std.proofs.lemmas.List.{take_more, map_push}
use Rattle.std.proofs.lemmas.List.Elements.{All-same, All-push}
use Rattle.cond_stats.specs.declared.texts.Text.{Text}
use Rattle.cond_stats.specs.Texts.{IsTextOf}
use Rattle.cond_stats.proofs.texts.texts_of.Goals as goal

pub loop-cell-preserved : goal.loop-cell-preserved
loop-cell-preserved c =
    let cells : List ℕ = c.args.cells.now in
    let i : ℕ = c.loop-cell.cell-index in
    let new : Text = record { cell = get_or cells i 0; text = c.text_at.result } in
    record {
      cells = ap (map (λ (t : Text). t.cell)) c.in_ok-push.ensures.items ∙ map_push (λ (t : Text). t.cell) c.loop-cell.texts.items new
          ∙ ap (λ (s : List ℕ). s ++ get_or cells i 0 ∷ []) c.loop-cell.invariant.cells ∙ sym (take_more cells i 0 c.loop-cell-test.true);
      texts = All-same (λ (t : Text). IsTextOf c.args.pool.now t.cell t.text.now) c.push.new.self.items (c.loop-cell.texts.items ++ new ∷ []) c.in_ok-push.ensures.items
          (All-push (λ (t : Text). IsTextOf c.args.pool.now t.cell t.text.now) c.loop-cell.texts.items new c.loop-cell.invariant.texts (record { is = c.text_at.ensures; utf8 = c.text_at.utf8 }));
    }
