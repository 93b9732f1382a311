use Rattle.std.proofs.Common.{ℕ, [], ◌∷◌, ◌++◌, List, Option, map, ap, sym, ◌∙◌, arith}
use Rattle.std.specs.Prelude.{unwrap_or}
use Rattle.std.specs.List.{range_with_len}
use Rattle.std.proofs.lemmas.List.FromFn.{map-range_with_len_more}
use Rattle.bound_fold.specs.Lists.{bounds_of}
use Rattle.query_bounds.proofs.bounds.scans_of.Goals as goal

pub entries-preserved : goal.entries-preserved
entries-preserved c =
    let rows : ℕ → ℕ = (bounds_of c.args.lists.now).rows in
    let entry : ℕ = c.entries.entry in
    c.in_ok-push.ensures.ok
    ∙ ap (λ (s : List ℕ). s ++ c.unwrap_or-rows.result ∷ []) c.entries.invariant
    ∙ ap (λ (n : ℕ). map rows (range_with_len 0 entry) ++ n ∷ []) (c.unwrap_or-rows.ensures ∙ ap (λ (o : Option ℕ). unwrap_or o 0) c.rows.ensures)
    ∙ sym (map-range_with_len_more rows 0 entry entry (omega arith))
