use Rattle.degree_sequences.proofs.Counting.{IsDistinct-different}
use Rattle.degree_sequences.proofs.Rearranged.{degree_list_rearranged, degree_list_positive}
use Rattle.degree_sequences.proofs.DegreeLists.{IsDescending-degree_list, sum-degree_list, degree_list_dominates, degrees_dominated, keys_dominated}
use Rattle.degree_sequences.proofs.laws.degree_lists.Goals as goal

pub returns-clause-different : goal.returns-clause-different
returns-clause-different c = IsDistinct-different

pub returns-clause-rearranged : goal.returns-clause-rearranged
returns-clause-rearranged c = degree_list_rearranged

pub returns-clause-descends : goal.returns-clause-descends
returns-clause-descends c = IsDescending-degree_list

pub returns-clause-positive : goal.returns-clause-positive
returns-clause-positive c = degree_list_positive

pub returns-clause-sum : goal.returns-clause-sum
returns-clause-sum c = sum-degree_list

pub returns-clause-dominates : goal.returns-clause-dominates
returns-clause-dominates c = degree_list_dominates

pub returns-clause-weights : goal.returns-clause-weights
returns-clause-weights c = degrees_dominated

pub returns-clause-from_weights : goal.returns-clause-from_weights
returns-clause-from_weights c = keys_dominated
