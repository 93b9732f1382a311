use Rattle.std.proofs.Common.{refl}
use Rattle.prepared_runs.specs.PreparedRun.{appended_from, file_from}
use Rattle.prepared_runs.proofs.KeptFacts.{if_ok}
use Rattle.safebound_top.proofs.texts.write_outcome.Goals as goal

pub returns-in-StatsMade-clause-texts : goal.returns-in-StatsMade-clause-texts
returns-in-StatsMade-clause-texts g c = rw c.in-StatsMade.is (c.write_file.ensures _ (file_from c.args.schema.now c.in-StatsMade.made_stats) (refl, refl) refl refl)

pub returns-in-StatsMade-clause-kept : goal.returns-in-StatsMade-clause-kept
returns-in-StatsMade-clause-kept g c = rw c.in-StatsMade.is (if_ok c.write_file.result c.requires.none)

pub returns-in-PlannedFromStats-clause-texts : goal.returns-in-PlannedFromStats-clause-texts
returns-in-PlannedFromStats-clause-texts g c = rw c.in-PlannedFromStats.is (c.write_stats_file_plan.ensures _ (refl, refl))

pub returns-in-PlannedFromStats-clause-kept : goal.returns-in-PlannedFromStats-clause-kept
returns-in-PlannedFromStats-clause-kept g c = rw c.in-PlannedFromStats.is (if_ok c.write_stats_file_plan.result c.requires.none)

pub returns-in-Appended-clause-texts : goal.returns-in-Appended-clause-texts
returns-in-Appended-clause-texts g c = rw c.in-Appended.is (c.write_file-in-Appended.ensures _ (appended_from c.args.schema.now c.in-Appended.made) (refl, refl) refl refl)

pub returns-in-Appended-clause-kept : goal.returns-in-Appended-clause-kept
returns-in-Appended-clause-kept g c = rw c.in-Appended.is (if_ok c.write_file-in-Appended.result c.requires.none)
