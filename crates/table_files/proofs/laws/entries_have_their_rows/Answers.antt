use Rattle.table_files.proofs.EntryLaws.{entries_have, one_read, one_refused}
use Rattle.table_files.proofs.StagedFiles.{staged_files}
use Rattle.table_files.proofs.laws.entries_have_their_rows.Goals as goal

pub returns-clause-each : goal.returns-clause-each
returns-clause-each c = entries_have

pub returns-clause-files : goal.returns-clause-files
returns-clause-files c = staged_files

pub returns-clause-one : goal.returns-clause-one
returns-clause-one c = one_read

pub returns-clause-refused : goal.returns-clause-refused
returns-clause-refused c = one_refused
