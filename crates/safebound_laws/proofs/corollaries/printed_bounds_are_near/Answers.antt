use Rattle.safebound_laws.proofs.NearRuns.{run_levels, run_nodes, stages_of}
use Rattle.safebound_laws.proofs.corollaries.printed_bounds_are_near.Goals as goal

pub returns-clause-levels : goal.returns-clause-levels
returns-clause-levels c = λ words files shop schema query task run asked is source none shape.
    run_levels schema query task files run (stages_of words files shop schema query task run asked is) source none shape

pub returns-clause-nodes : goal.returns-clause-nodes
returns-clause-nodes c = λ words files shop schema query task run asked is source none shape.
    run_nodes schema query task files run (stages_of words files shop schema query task run asked is) source none shape
