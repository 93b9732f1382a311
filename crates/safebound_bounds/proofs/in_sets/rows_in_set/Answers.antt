use Rattle.std.proofs.Common.{ℕ, ◌++◌, ◌∷◌, [], List, map, get_or, ap, sym, ◌∙◌, arith}
use Rattle.std.specs.List.{range_with_len}
use Rattle.std.proofs.lemmas.List.FromFn.{map-range_with_len_more}
use Rattle.join_graph.specs.Kept.{equalities_within}
use Rattle.safebound_bounds.specs.Meaning.{joinable_rows}
use Rattle.safebound_bounds.proofs.in_sets.rows_in_set.Goals as goal

pub loop-entry-preserved : goal.loop-entry-preserved
loop-entry-preserved c =
    let given = c.args.given.now in
    let rows : ℕ → ℕ = λ entry. joinable_rows given.lists.now given.runs.now entry (equalities_within c.args.subset c.args.edges.now) (get_or given.rows.now entry 0) in
    c.in_ok-push.ensures.ok ∙ ap (λ (s : List ℕ). s ++ c.joinable_rows.result ∷ []) c.loop-entry.invariant
    ∙ ap (λ (n : ℕ). map rows (range_with_len 0 c.loop-entry.entry) ++ n ∷ []) c.joinable_rows.ensures ∙ sym (map-range_with_len_more rows 0 c.loop-entry.entry c.loop-entry.entry (omega arith))
