use Rattle.std.proofs.Common.{◌≡◌, ap, sym, subst, ◌∙◌, List, ℕ}
use Rattle.std.proofs.lemmas.Result.{IfOk-weaker}
use Rattle.degree_sequences.specs.Degrees.{different}
use Rattle.cond_stats.specs.Texts.{AreByText}
use Rattle.cond_stats.proofs.TextsSorted.{different-itself, ordered_once}
use Rattle.cond_stats.proofs.texts.text_numbers.Goals as goal

pub returns : goal.returns
returns c =
    let cells : List ℕ = c.args.cells.now in
    let ordered : List ℕ = c.in_ok-ordered.ordered.items in
    let by_text : AreByText c.args.pool.now (different cells) ordered =
    subst (λ (s : List ℕ). AreByText c.args.pool.now s ordered) (c.as_slice.ensures.keys ∙ c.in_ok-first_seen.ensures) c.in_ok-ordered.ensures in
    IfOk-weaker c.different_cells-2.result (λ set. set.keys ≡ different c.as_slice-2.result.now) (λ text_numbers. AreByText c.args.pool.now (different cells) text_numbers.keys)
    (λ text_numbers is. subst (AreByText c.args.pool.now (different cells)) (sym (is ∙ ap different c.as_slice-2.ensures.value ∙ different-itself ordered (ordered_once cells ordered by_text.moved))) by_text)
    c.different_cells-2.ensures
