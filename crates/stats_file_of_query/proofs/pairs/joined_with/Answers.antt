use Rattle.std.proofs.Common.{sym, ◌∙◌}
use Rattle.std.specs.List.{list_any}
use Rattle.stats_file_of_query.specs.ColumnPairs.{is_pair}
use Rattle.stats_file_of_query.proofs.Walks.{one_kept, one_passed_over}
use Rattle.stats_file_of_query.proofs.pairs.joined_with.Goals as goal
use Rattle.stats_file_of_query.proofs.pairs.joined_with.Goals.{then-has_pair+in_ok-push, else-has_pair}

pub loop-joined-preserved : goal.loop-joined-preserved
loop-joined-preserved c = elim c.if-has_pair.branch [
  | then-has_pair+in_ok-push w ↦ one_kept (λ joined. list_any (is_pair c.args.filter joined) c.args.needed.now) c.loop-joined.joined c.loop-joined.columns c.if-has_pair.columns
      c.loop-joined.invariant (sym c.has_pair.ensures ∙ w.if-has_pair.true) (w.columns-is ∙ w.in_ok-push.ensures.ok)
  | else-has_pair w ↦ one_passed_over (λ joined. list_any (is_pair c.args.filter joined) c.args.needed.now) c.loop-joined.joined c.loop-joined.columns c.if-has_pair.columns
      c.loop-joined.invariant (sym c.has_pair.ensures ∙ w.if-has_pair.false) w.columns-is
]
