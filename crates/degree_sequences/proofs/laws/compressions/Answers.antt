use Rattle.degree_sequences.proofs.Elements.{compressed-element, compressed-goes_on}
use Rattle.degree_sequences.proofs.CompressedLists.{sum-compressed, IsDescending-compressed, compressed-above, compressed-near}
use Rattle.degree_sequences.proofs.FewRuns.{compressed_is_short}
use Rattle.degree_sequences.proofs.laws.compressions.Goals as goal

pub returns-clause-element : goal.returns-clause-element
returns-clause-element c = compressed-element

pub returns-clause-goes_on : goal.returns-clause-goes_on
returns-clause-goes_on c = compressed-goes_on

pub returns-clause-sum : goal.returns-clause-sum
returns-clause-sum c = sum-compressed

pub returns-clause-descends : goal.returns-clause-descends
returns-clause-descends c = IsDescending-compressed

pub returns-clause-above : goal.returns-clause-above
returns-clause-above c = compressed-above

pub returns-clause-near : goal.returns-clause-near
returns-clause-near c = compressed-near

pub returns-clause-few : goal.returns-clause-few
returns-clause-few c = compressed_is_short
