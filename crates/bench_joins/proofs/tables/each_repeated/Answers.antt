use Rattle.std.proofs.Common.{◌≡◌, ℕ, ◌+◌, ◌/◌, List, [], ◌∷◌, ◌++◌, ap, sym, ◌∙◌, arith}
use Rattle.std.proofs.lemmas.List.FromFn.{map-range_with_len_more}
use Rattle.bench_joins.specs.Tables.{each_repeated}
use Rattle.bench_joins.proofs.tables.each_repeated.Goals as goal

pub rows-preserved : goal.rows-preserved
rows-preserved c =
    let row : ℕ = c.rows.row in
    let repeats : ℕ = c.args.repeats in
    let more : each_repeated (row + 1) repeats ≡ each_repeated row repeats ++ (row / repeats) ∷ [] = map-range_with_len_more (λ r. r / repeats) 0 row row (omega arith) in
    let pushed : c.push.new.self.items ≡ c.rows.cells.items ++ c.from.result ∷ [] = c.in_ok-push.ensures.items in
    pushed ∙ ap (λ (s : List ℕ). s ++ c.from.result ∷ []) c.rows.invariant
    ∙ ap (λ (n : ℕ). each_repeated row repeats ++ n ∷ []) c.from.ensures ∙ sym more
