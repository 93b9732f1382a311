use Rattle.relabelling_laws.proofs.Rows.{missing_has_rest_list}
use Rattle.relabelling_laws.proofs.laws.missing_values_have_the_rest_list.Goals as goal

pub returns : goal.returns
returns c = missing_has_rest_list
