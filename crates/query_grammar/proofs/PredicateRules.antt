-- The parser of predicates reads its rule. The left operand is read before it is known which predicate follows. So the parser follows a rule in which
-- this operand is a common beginning (`Factored`). This rule has the same texts as the grammar's rule.
use Rattle.std.proofs.Common.{◌≡◌, Bool, List, inl, inr, refl, ap, ◌∙◌}
use Rattle.ll_grammars.specs.declared.lexeme.Lexeme.{Lexeme}
use Rattle.ll_grammars.specs.declared.terminal.Terminal.TheVariants as terminal
use Rattle.ll_grammars.specs.Language.{Language, Then, ◌▸◌, mapped, ◌∪◌}
use Rattle.ll_grammars.specs.Parses.{FirstAndFollow, Parses}
use Rattle.ll_grammars.specs.Rules.{word}
use Rattle.ll_grammars.proofs.Steps.{then_shape, either_shape}
use Rattle.ll_grammars.proofs.Combined.{in_sequence, with_value, choice, a_word, word_shape, reads_same}
use Rattle.query_grammar.specs.declared.tree.OperandNode.{OperandNode}
use Rattle.query_grammar.specs.declared.tree.TestNode.{TestNode}
use Rattle.query_grammar.specs.Values.{tested}
use Rattle.query_grammar.specs.Grammar.{Operand, ComparisonOperator, Negation, InValueList, Predicate}
use Rattle.query_grammar.specs.Readers.{apply_to_beginning, compare, ranged, listed_in, read_predicate, read_flat}
use Rattle.query_grammar.proofs.OperandRules.{operand_shape, operator_shape, negation_shape, value_list_shape, reads_operand, reads_operator, reads_negation, reads_value_list}

abbrev AfterNot : Language (Bool → OperandNode → TestNode)
AfterNot = mapped ranged (word terminal.Between ▸ Operand ▸ word terminal.And ▸ Operand)
    ∪ mapped listed_in (word terminal.In ▸ InValueList)

abbrev AfterOperand : Language (OperandNode → TestNode)
AfterOperand = mapped compare (ComparisonOperator ▸ Operand)
    ∪ mapped apply_to_beginning (Negation ▸ AfterNot)

abbrev Factored : Language TestNode
Factored = mapped apply_to_beginning (Operand ▸ AfterOperand)

to_predicates : (text : List Lexeme) (v : TestNode) → Factored text v → Predicate text v
to_predicates text v l = at l.2.second where
  behind_not : (parts : Bool × (Bool → OperandNode → TestNode)) → apply_to_beginning parts ≡ l.0.1 → (t : Then Negation AfterNot l.2.rest parts) → AfterNot t.rest parts.1 → Predicate text v
  behind_not parts e t (inl b) = inr (inl (
    (l.0.0, (parts.0, b.0)),
    ap (λ (g : Bool → OperandNode → TestNode). g parts.0 l.0.0) b.1 ∙ ap (λ (f : OperandNode → TestNode). f l.0.0) e ∙ l.1,
    record { front = l.2.front; rest = l.2.rest; whole = l.2.whole; first = l.2.first; second = record { front = t.front; rest = t.rest; whole = t.whole; first = t.first; second = b.2 } },
  ))
  behind_not parts e t (inr b) = inr (inr (
    (l.0.0, (parts.0, b.0)),
    ap (λ (g : Bool → OperandNode → TestNode). g parts.0 l.0.0) b.1 ∙ ap (λ (f : OperandNode → TestNode). f l.0.0) e ∙ l.1,
    record { front = l.2.front; rest = l.2.rest; whole = l.2.whole; first = l.2.first; second = record { front = t.front; rest = t.rest; whole = t.whole; first = t.first; second = b.2 } },
  ))

  at : AfterOperand l.2.rest l.0.1 → Predicate text v
  at (inl m) = inl ((l.0.0, m.0), ap (λ (f : OperandNode → TestNode). f l.0.0) m.1 ∙ l.1, record { front = l.2.front; rest = l.2.rest; whole = l.2.whole; first = l.2.first; second = m.2 })
  at (inr m) = behind_not m.0 m.1 m.2 m.2.second

from_predicates : (text : List Lexeme) (v : TestNode) → Predicate text v → Factored text v
from_predicates text v (inl l) = ((l.0.0, compare l.0.1), l.1, record { front = l.2.front; rest = l.2.rest; whole = l.2.whole; first = l.2.first; second = inl (l.0.1, refl, l.2.second) })
from_predicates text v (inr (inl l)) =
    let t = l.2.second in
    let parts : Bool × (Bool → OperandNode → TestNode) = (l.0.1.0, ranged l.0.1.1) in (
      (l.0.0, apply_to_beginning parts),
      l.1,
      record {
        front = l.2.front;
        rest = l.2.rest;
        whole = l.2.whole;
        first = l.2.first;
        second = inr (parts, refl, record { front = t.front; rest = t.rest; whole = t.whole; first = t.first; second = inl (l.0.1.1, refl, t.second) });
      },
    )
from_predicates text v (inr (inr l)) =
    let t = l.2.second in
    let parts : Bool × (Bool → OperandNode → TestNode) = (l.0.1.0, listed_in l.0.1.1) in (
      (l.0.0, apply_to_beginning parts),
      l.1,
      record {
        front = l.2.front;
        rest = l.2.rest;
        whole = l.2.whole;
        first = l.2.first;
        second = inr (parts, refl, record { front = t.front; rest = t.rest; whole = t.whole; first = t.first; second = inr (l.0.1.1, refl, t.second) });
      },
    )

abbrev pub between_shape : FirstAndFollow
between_shape = then_shape (word_shape terminal.Between) (then_shape operand_shape (then_shape (word_shape terminal.And) operand_shape))

abbrev pub behind_not_shape : FirstAndFollow
behind_not_shape = either_shape between_shape (then_shape (word_shape terminal.In) value_list_shape)

abbrev pub predicate_shape : FirstAndFollow
predicate_shape = then_shape operand_shape (either_shape (then_shape operator_shape operand_shape) (then_shape negation_shape behind_not_shape))

pub reads_predicate : Parses Predicate predicate_shape read_predicate
unfolding read_predicate
reads_predicate =
    let between_ = in_sequence (a_word terminal.Between refl) (in_sequence reads_operand (in_sequence (a_word terminal.And refl) reads_operand refl) refl) refl in
    let in_ = in_sequence (a_word terminal.In refl) reads_value_list refl in
    let behind_not_ = choice (with_value ranged between_) (with_value listed_in in_) refl refl refl in
    let compared_ = in_sequence reads_operator reads_operand refl in
    reads_same to_predicates from_predicates (with_value apply_to_beginning (in_sequence reads_operand (choice (with_value compare compared_) (with_value apply_to_beginning (in_sequence reads_negation behind_not_ refl)) refl refl refl) refl))

pub reads_flat : Parses (mapped tested Predicate) predicate_shape read_flat
unfolding read_flat
reads_flat = with_value tested reads_predicate
