use Rattle.prepared_runs.proofs.AppendStages.{section_alone, section_counted, section_missing, section_there}
use Rattle.prepared_runs.proofs.append.count_section.Goals as goal

pub returns-in-Some-clause-section_rows : goal.returns-in-Some-clause-section_rows
returns-in-Some-clause-section_rows c = section_counted c.args.name.now c.args.schema.now c.args.stats.now c.in-Some.section.now c.in-Some.ensures

pub returns-in-Some-clause-there : goal.returns-in-Some-clause-there
returns-in-Some-clause-there c = section_there c.args.name.now c.args.schema.now c.args.stats.now c.requires c.in-Some.section.now c.in-Some.ensures

pub returns-in-Some-clause-alone : goal.returns-in-Some-clause-alone
returns-in-Some-clause-alone c = section_alone c.args.name.now c.args.schema.now c.args.stats.now c.requires c.in-Some.section.now c.in-Some.ensures

pub returns-in-None-clause-section_rows : goal.returns-in-None-clause-section_rows
returns-in-None-clause-section_rows c = section_missing c.args.name.now c.args.schema.now c.args.stats.now c.in-None.ensures
