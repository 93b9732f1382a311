use Rattle.prepared_runs.proofs.scans.list_rows.Goals as goal

pub list_scans-requires-clause-fit : goal.list_scans-requires-clause-fit
list_scans-requires-clause-fit c = rw c.in-Whole.is at c.requires.fit

pub returns-in-Whole-clause-lists : goal.returns-in-Whole-clause-lists
returns-in-Whole-clause-lists c = rw c.in-Whole.is c.list_scans.ensures.lists

pub returns-in-Listed-clause-bytes : goal.returns-in-Listed-clause-bytes
returns-in-Listed-clause-bytes c = rw c.in-Listed.is at c.requires.exact
