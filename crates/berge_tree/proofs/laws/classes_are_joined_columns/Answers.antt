use Rattle.berge_tree.proofs.Joining.{same_class_same_keys, class_of-joined}
use Rattle.berge_tree.proofs.laws.classes_are_joined_columns.Goals as goal

pub returns : goal.returns
returns c = λ es p q. (same_class_same_keys es p q, class_of-joined es p q)
