use Rattle.query_names.proofs.ScopeFacts.{first_two_enough_after_push, first_two_enough_if_kept}
use Rattle.query_names.proofs.binder.Binder.bring_into_scope.Goals as goal
use Rattle.query_names.proofs.binder.Binder.bring_into_scope.Goals.{then-count_of-lt2+in_ok-push, else-count_of-lt2}

pub returns-clause-first_two_enough : goal.returns-clause-first_two_enough
returns-clause-first_two_enough c =
    elim c.if-count_of-lt2.branch [
      | then-count_of-lt2+in_ok-push w ↦
          first_two_enough_after_push c.args.self.now c.args.visible.now c.index-as_slice-number.result c.as_slice.ensures c.requires.first_two_enough c.requires.begins c.requires.ends w.visible-is w.in_ok-push.ensures.ok
      | else-count_of-lt2 w ↦
          first_two_enough_if_kept c.args.self.now c.args.visible.now c.index-as_slice-number.result _ c.as_slice.ensures c.requires.first_two_enough c.requires.begins c.requires.ends w.visible-is
          w.if-count_of-lt2.false c.as_slice-2.ensures c.count_of.ensures
    ]
