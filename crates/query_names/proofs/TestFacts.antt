-- The tests of a condition are the tests of its members, one after another.
use Rattle.std.proofs.Common.{◌≡◌, ◌⊎◌, inl, inr, List, [], ◌∷◌, ◌++◌, map, ap, sym, ◌∙◌, refl}
use Rattle.std.specs.List.{flat_map}
use Rattle.query_grammar.specs.declared.tree.TestNode.{TestNode}
use Rattle.query_grammar.specs.declared.tree.CondNode.{CondNode}
use Rattle.query_grammar.specs.declared.tree.CondNode.TheVariants as cond
use Rattle.query_grammar.specs.declared.tree.CondNode.TheVariants.{rolls-And, rolls-Or, rolls-Not, rolls-Test}
use Rattle.query_grammar.specs.declared.tree.CondNode.TheOpen.{CondNode-F}
use Rattle.query_grammar.specs.declared.tree.CondNode.TheFolds.{fold-roll-CondNode}
use Rattle.query_names.specs.Scopes.{tests, tests_step}

pub flat_map_map : {A B : Type 0} (f : A → List B) (xs : List A) → flat_map (λ list. list) (map f xs) ≡ flat_map f xs
flat_map_map f [] = refl
flat_map_map f (x ∷ xs) = ap (λ rest. f x ++ rest) (flat_map_map f xs)

pub tests_and : (members : List CondNode) → tests (cond.And members) ≡ flat_map tests members
tests_and members = ap tests (sym (rolls-And members)) ∙ fold-roll-CondNode (List TestNode) tests_step (CondNode-F.And members) ∙ flat_map_map tests members

pub tests_or : (members : List CondNode) → tests (cond.Or members) ≡ flat_map tests members
tests_or members = ap tests (sym (rolls-Or members)) ∙ fold-roll-CondNode (List TestNode) tests_step (CondNode-F.Or members) ∙ flat_map_map tests members

pub tests_not : (member : CondNode) → tests (cond.Not member) ≡ tests member
tests_not member = ap tests (sym (rolls-Not member)) ∙ fold-roll-CondNode (List TestNode) tests_step (CondNode-F.Not member)

pub tests_test : (test : TestNode) → tests (cond.Test test) ≡ test ∷ []
tests_test test = ap tests (sym (rolls-Test test)) ∙ fold-roll-CondNode (List TestNode) tests_step (CondNode-F.Test test)

pub tests_chain : (condition : CondNode) (members : List CondNode) → (condition ≡ cond.And members) ⊎ (condition ≡ cond.Or members) → tests condition ≡ flat_map tests members
tests_chain condition members (inl is) = ap tests is ∙ tests_and members
tests_chain condition members (inr is) = ap tests is ∙ tests_or members
