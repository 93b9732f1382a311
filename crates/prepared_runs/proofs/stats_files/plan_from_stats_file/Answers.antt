use Rattle.std.proofs.Common.{◌≡◌, Ok, Result, sym, subst}
use Rattle.std.specs.Prelude.{IfErr, IfOk}
use Rattle.join_graph.proofs.FromEntries.{names_its_entries}
use Rattle.outcomes.specs.Reads.{StopsBy}
use Rattle.outcomes.specs.declared.refusal.Refusal.{Refusal}
use Rattle.prepared_runs.specs.RunOutcome.{RunOutcome}
use Rattle.prepared_runs.specs.PreparedRun.{plan_from}
use Rattle.prepared_runs.proofs.StatsFileStages.{all_there, need_stops_by}
use Rattle.prepared_runs.proofs.stats_files.plan_from_stats_file.Goals as goal

pub from_file-requires-clause-file : goal.from_file-requires-clause-file
from_file-requires-clause-file c = record { schema = c.args.schema.now; keeps = c.requires.file }

pub from_file-requires-clause-own : goal.from_file-requires-clause-own
from_file-requires-clause-own c = names_its_entries c.args.schema.now c.args.query c.requires.query

pub returns-in-Ok-clause-planned : goal.returns-in-Ok-clause-planned
returns-in-Ok-clause-planned c =
    subst (λ (s : Result RunOutcome Refusal). IfOk c.plan_known.result (λ made. s ≡ Ok (plan_from made)))
    (sym (all_there c.args.terms.now c.args.query c.args.file c.in-Ok.ensures.all_there)) c.plan_known.ensures.within

pub returns-in-Ok-clause-refused : goal.returns-in-Ok-clause-refused
returns-in-Ok-clause-refused c =
    subst (λ (s : Result RunOutcome Refusal). IfErr c.plan_known.result (StopsBy s))
    (sym (all_there c.args.terms.now c.args.query c.args.file c.in-Ok.ensures.all_there)) c.plan_known.ensures.refused

pub returns-in-Err-clause-refused : goal.returns-in-Err-clause-refused
returns-in-Err-clause-refused c = rw c.failure_of.ensures (need_stops_by c.args.terms.now c.args.query c.args.file c.in-Err.error c.in-Err.ensures.missing)
