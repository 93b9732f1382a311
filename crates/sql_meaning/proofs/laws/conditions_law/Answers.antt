use Rattle.sql_meaning.proofs.ConditionFacts.{and_holds_if_each, or_holds_if_some, not_holds_if_fails, holds_compare}
use Rattle.sql_meaning.proofs.laws.conditions_law.Goals as goal

pub returns : goal.returns
returns c = record {
  and = and_holds_if_each;
  or = or_holds_if_some;
  not = not_holds_if_fails;
  compare = holds_compare;
}
