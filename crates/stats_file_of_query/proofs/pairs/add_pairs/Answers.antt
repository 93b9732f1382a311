use Rattle.std.proofs.Common.{◌<◌, ℕ, List, length, ap, sym, subst, ◌∙◌}
use Rattle.std.specs.List.{All, list_any}
use Rattle.stats_file_of_query.specs.ColumnPairs.{is_pair}
use Rattle.stats_file_of_query.specs.Files.{joined_with}
use Rattle.stats_file_of_query.proofs.Walks.{kept_below}
use Rattle.stats_file_of_query.proofs.pairs.add_pairs.Goals as goal

pub add_each-requires-clause-joined : goal.add_each-requires-clause-joined
add_each-requires-clause-joined c =
    subst (λ (s : List ℕ). All (λ column. column < length c.args.cells.now.kinds) s)
    (sym (c.as_slice.ensures ∙ c.in_ok-joined.ensures ∙ ap (λ count. joined_with c.args.needed.now count c.args.filter) c.len.ensures))
    (kept_below (λ joined. list_any (is_pair c.args.filter joined) c.args.needed.now) (length c.args.cells.now.kinds))
