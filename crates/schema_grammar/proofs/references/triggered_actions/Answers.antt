use Rattle.std.proofs.Common.{sym, ◌∙◌}
use Rattle.schema_grammar.proofs.ActionLoop.{actions_keep, action_shorter}
use Rattle.schema_grammar.proofs.references.triggered_actions.Goals as goal

pub actions-smaller : goal.actions-smaller
actions-smaller c = action_shorter c.actions.reader _ c.triggered_action.new.reader c.in_ok-triggered_action.ensures

pub actions-preserved : goal.actions-preserved
actions-preserved c =
    sym (actions_keep c.actions.reader _ c.triggered_action.new.reader (sym c.starts.ensures ∙ c.actions-test.true) c.in_ok-triggered_action.ensures) ∙ c.actions.invariant
