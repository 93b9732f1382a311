use Rattle.stats_file_of_query.proofs.Standing.{file_stands}
use Rattle.stats_file_of_query.proofs.laws.files_stand_for_their_tables.Goals as goal

pub returns : goal.returns
returns c = λ schema query tables accuracy share. file_stands schema query tables share accuracy
