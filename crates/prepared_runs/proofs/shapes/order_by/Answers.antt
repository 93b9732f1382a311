use Rattle.std.proofs.Common.{◌≡◌, ℕ, length, Ok, inr, refl, ap, sym, ◌∙◌, subst, arith}
use Rattle.plans.specs.LeftDeep.{IsPlan}
use Rattle.plan_answers.specs.PlanAnswer.{plan_answer}
use Rattle.order_search.specs.declared.refusal.PlanError.TheVariants as error
use Rattle.outcomes.specs.Reads.{mapped}
use Rattle.planning.proofs.FromLists.{is_plan_from}
use Rattle.plans.specs.declared.bushy.BushyPlan.{BushyPlan}
use Rattle.prepared_runs.proofs.Answered.{same_value}
use Rattle.prepared_runs.proofs.ShapeFacts.{its_tree}
use Rattle.prepared_runs.proofs.shapes.order_by.Goals as goal

pub tree_of_order-requires : goal.tree_of_order-requires
tree_of_order-requires c =
    let known = c.args.known.now in
    let order = c.in_ok-order.order in
    let made : plan_answer known.sets known.scans c.args.budget ≡ Ok order = same_value error.NoMemory (plan_answer known.sets known.scans c.args.budget) order c.in_ok-order.ensures in
    let is : IsPlan (length known.scans) order = is_plan_from known.sets known.scans (length known.scans) c.args.budget refl order made in
    record {
      plan = subst (λ (n : ℕ). IsPlan n order) (sym is.scans) is;
      not_empty = omega (arith, is.scans, c.requires.some);
      few = omega (arith, is.scans, c.requires.few);
    }

pub returns : goal.returns
returns c =
    let known = c.args.known.now in
    let made : plan_answer known.sets known.scans c.args.budget ≡ Ok c.in_ok-order.order =
    same_value error.NoMemory (plan_answer known.sets known.scans c.args.budget) c.in_ok-order.order c.in_ok-order.ensures in
    inr (ap (λ (t : BushyPlan). Ok t) c.in_ok-plan.ensures ∙ sym (ap (mapped its_tree) made))
