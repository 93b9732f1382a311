use Rattle.plan_answers.proofs.OneAnswer.{no_other_result}
use Rattle.planning.proofs.known.plan_from.Goals as goal

pub returns : goal.returns
returns c =
    no_other_result c.args.known.now.sets c.args.known.now.scans c.args.budget c.choose.result c.requires.budget
    (record {
      plan = c.choose.ensures.plan;
      best = c.choose.ensures.best;
      within = c.choose.ensures.within;
      levels = c.choose.ensures.levels;
      scans_kept = c.choose.ensures.scans;
      refused = c.choose.ensures.refused;
    })
