use Rattle.plan_answers.proofs.OneTreeAnswer.{no_other_result}
use Rattle.bushy_planning.proofs.plan.plan_tree_from.Goals as goal

pub returns : goal.returns
returns c =
    no_other_result c.args.known.now.sets c.args.known.now.scans c.args.budget c.choose_bushy.result c.requires.some c.requires.budget
    (record {
      plan = c.choose_bushy.ensures.plan c.requires.few;
      best = c.choose_bushy.ensures.best;
      within = c.choose_bushy.ensures.within;
      scans_kept = c.choose_bushy.ensures.scans;
      refused = c.choose_bushy.ensures.refused;
    })
