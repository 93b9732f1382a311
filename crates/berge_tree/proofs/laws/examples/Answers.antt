use Rattle.std.proofs.Common.{eqb, [], ◌∷◌, refl, arith, sym}
use Rattle.std.proofs.lemmas.Bool.{false≢true}
use Rattle.entry_sets.proofs.Listing.{increasing_with_front}
use Rattle.berge_tree.specs.Examples.{four_entries}
use Rattle.berge_tree.specs.Walk.{columns_of}
use Rattle.berge_tree.proofs.Listing.{columns_are}
use Rattle.berge_tree.proofs.Forest.{all_trees}
use Rattle.berge_tree.proofs.laws.examples.Goals as goal

pub returns-clause-closes : goal.returns-clause-closes
returns-clause-closes c = (
  record { side = λ x. eqb x 0; together = tt; across = λ e. false≢true (sym e) },
  (record { side = λ x. eqb x 2; together = (refl, tt); across = false≢true }, (record { side = λ x. eqb x 3; together = (refl, (refl, tt)); across = false≢true }, tt)),
)

pub returns-clause-within : goal.returns-clause-within
returns-clause-within c = (
  ((0, omega arith, refl), (1, omega arith, refl)),
  (((1, omega arith, refl), (2, omega arith, refl)), (((1, omega arith, refl), (3, omega arith, refl)), tt)),
)

pub returns-clause-tree : goal.returns-clause-tree
returns-clause-tree c =
    all_trees four_entries (returns-clause-closes c) (columns_of four_entries) (columns_are four_entries) (0 ∷ (1 ∷ (2 ∷ (3 ∷ [])))) 4 (returns-clause-within c) (omega arith, (omega arith, (omega arith, (omega arith, tt))))
    (increasing_with_front 0 (1 ∷ (2 ∷ (3 ∷ []))) (omega arith, (omega arith, (omega arith, tt))) (increasing_with_front 1 (2 ∷ (3 ∷ [])) (omega arith, (omega arith, tt)) (increasing_with_front 2 (3 ∷ []) (omega arith, tt) (increasing_with_front 3 [] tt (λ k l. absurd (omega (arith, l)))))))
