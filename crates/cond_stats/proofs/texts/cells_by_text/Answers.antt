use Rattle.std.proofs.Common.{rules, ◌≡◌, ap, ◌∙◌, map}
use Rattle.std.specs.Cmp.Lexicographic.{slice_cmp, nat_list_cmp_total}
use Rattle.std.specs.Ordering.{is_lt, nat_cmp}
use Rattle.std.specs.Str.{chars}
use Rattle.std.proofs.lemmas.List.Sorted.{answers_always, ranks_by}
use Rattle.std.proofs.lemmas.Result.{IfOk-weaker}
use Rattle.cond_stats.specs.declared.texts.Text.{Text}
use Rattle.cond_stats.specs.Texts.{AreByText}
use Rattle.cond_stats.proofs.TextsSorted.{texts_sorted}
use Rattle.cond_stats.proofs.texts.cells_by_text.Goals as goal

pub returns : goal.returns
returns c = IfOk-weaker c.cells_of.result (λ cells. cells.items ≡ map (λ (t : Text). t.cell) c.as_slice.result.now) (λ ordered. AreByText c.args.pool.now c.args.cells.now ordered.items)
    (λ ordered is. texts_sorted (λ (t : Text). t.cell) (λ (t : Text). t.text.now) c.args.pool.now c.args.cells.now ordered.items c.in_ok-texts.texts.items c.sort_unstable_by.new.self.items
    c.in_ok-texts.ensures.cells c.in_ok-texts.ensures.texts c.sort_unstable_by.ensures.permutation
    (c.sort_unstable_by.ensures.sorted (λ x y. is_lt (slice_cmp nat_cmp (chars x.text.now) (chars y.text.now))) (ranks_by nat_list_cmp_total (λ (t : Text). chars t.text.now))
    (answers_always _ _ _ (λ a r q k. search rules)))
    (is ∙ ap (map (λ (t : Text). t.cell)) c.as_slice.ensures.value))
    c.cells_of.ensures
