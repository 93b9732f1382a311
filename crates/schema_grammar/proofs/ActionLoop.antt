-- Steps of the loop that reads the actions of a reference (ON DELETE, ON UPDATE). The tree doesn't keep these actions.
use Rattle.std.proofs.Common.{◌≡◌, ◌<◌, true, false, List, [], ◌∷◌, length, Option, Some, None, Err, refl, sym, ap, ◌∙◌}
use Rattle.ll_grammars.specs.declared.lexeme.Lexeme.{Lexeme}
use Rattle.ll_grammars.specs.declared.terminal.Terminal.TheVariants as terminal
use Rattle.ll_grammars.specs.declared.stop.Stop.{Stop}
use Rattle.ll_grammars.specs.declared.stop.Stop.TheVariants as stop
use Rattle.ll_grammars.specs.Reading.{Answer, next, ◌>>=◌, starts, give, read_many, read_others}
use Rattle.ll_grammars.specs.Rules.{IsReadAs}
use Rattle.ll_grammars.proofs.Repeats.{many_step, many_stop}
use Rattle.ll_grammars.proofs.Loops.{shorter}
use Rattle.schema_grammar.specs.Grammar.{drop_value, TriggeredAction}
use Rattle.schema_grammar.specs.Readers.{read_triggered_action, read_triggered_actions}
use Rattle.schema_grammar.proofs.Rules.{triggered_action_shape, reads_triggered_action}

dropped : (a : Unit {0}) (o : Option (List (Unit {0}))) (end : List Lexeme)
    → (next {B = List (Unit {0})} o end (λ others. give (a ∷ others)) >>= λ values. give (drop_value values)) ≡ (next {B = Unit {0}} o end (λ values. give (drop_value values)))
dropped a None end = refl
dropped a (Some others) end = refl

step : (text : List Lexeme) → starts (terminal.On ∷ []) text ≡ true
    → read_triggered_actions text ≡ (read_triggered_action text >>= read_others (read_many (terminal.On ∷ []) read_triggered_action) >>= λ values. give (drop_value values))
unfolding read_triggered_actions
step text h = ap (λ x. x >>= λ values. give (drop_value values)) (many_step TriggeredAction triggered_action_shape read_triggered_action reads_triggered_action refl text h)

pub actions_keep : (text : List Lexeme) (a : Unit {0}) (rest : List Lexeme) → starts (terminal.On ∷ []) text ≡ true → read_triggered_action text ≡ (Some a, rest) → read_triggered_actions text ≡ read_triggered_actions rest
unfolding read_triggered_actions
actions_keep text a rest h e =
    let others = read_many (terminal.On ∷ []) read_triggered_action rest in
    step text h ∙ ap (λ x. x >>= read_others (read_many (terminal.On ∷ []) read_triggered_action) >>= λ values. give (drop_value values)) e ∙ dropped a others.0 others.1

pub actions_stop : (e : Stop) (text rest : List Lexeme) (total : Answer (Unit {0})) → starts (terminal.On ∷ []) text ≡ true → IsReadAs {A = Unit {0}} (Err e) rest (read_triggered_action text)
    → read_triggered_actions text ≡ total → IsReadAs {A = Unit {0}} (Err e) rest total
actions_stop stop.NoMemory text rest total h g so_far = tt
actions_stop stop.Syntax text rest total h g so_far = sym so_far ∙ step text h ∙ ap (λ x. x >>= read_others (read_many (terminal.On ∷ []) read_triggered_action) >>= λ values. give (drop_value values)) g

pub actions_end : (text : List Lexeme) (total : Answer (Unit {0})) → starts (terminal.On ∷ []) text ≡ false → read_triggered_actions text ≡ total → total ≡ (Some tt, text)
unfolding read_triggered_actions
actions_end text total h so_far = sym so_far ∙ ap (λ x. x >>= λ values. give (drop_value values)) (many_stop TriggeredAction triggered_action_shape read_triggered_action reads_triggered_action refl text h)

pub action_shorter : (text : List Lexeme) (a : Unit {0}) (rest : List Lexeme) → read_triggered_action text ≡ (Some a, rest) → length rest < length text
action_shorter text a rest e = shorter TriggeredAction triggered_action_shape read_triggered_action reads_triggered_action refl text a rest e
