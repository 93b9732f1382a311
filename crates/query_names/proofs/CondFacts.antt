-- `IsStateAfterTests` of a condition, from `IsStateAfterTests` of its parts.
use Rattle.std.proofs.Common.{◌≡◌, ◌⊎◌, inl, inr, ℕ, ◌≤◌, List, [], ◌∷◌, ◌++◌, length, map, None, ap, subst, sym, ◌∙◌, refl}
use Rattle.std.specs.List.{flat_map}
use Rattle.std.proofs.lemmas.List.{append-nil}
use Rattle.query_grammar.specs.declared.tree.CondNode.{CondNode}
use Rattle.query_grammar.specs.declared.tree.CondNode.TheVariants as text
use Rattle.query_grammar.specs.declared.tree.TestNode.{TestNode}
use Rattle.query_types.specs.declared.types.Cond.{Cond}
use Rattle.query_types.specs.declared.types.Cond.TheVariants as cond
use Rattle.query_names.specs.declared.binder.Binder.{Binder}
use Rattle.query_names.specs.declared.checks.LateOffences.{LateOffences}
use Rattle.query_names.specs.declared.errors.QueryError.{QueryError}
use Rattle.query_names.specs.declared.scope.Scope.{Scope}
use Rattle.query_names.specs.Scopes.{tests}
use Rattle.query_names.specs.Offences.{long_list_length}
use Rattle.query_names.specs.Answers.{IsNameError}
use Rattle.query_names.specs.Binding.{from_of, test_offences_of, kind_offences_of, value_by, members_by}
use Rattle.query_names.specs.Checking.{IsStateAfterTests, IsStateAfterTest}
use Rattle.query_names.proofs.TestFacts.{tests_chain, tests_not, tests_test}
use Rattle.query_names.proofs.Meanings.{value_and, value_or, value_not, members_or, members_not}
use Rattle.query_names.proofs.CheckSteps.{checked_of_equal, checked_wrapped}

pub tests_of_one_test : (f : TestNode → List ℕ) (t : TestNode) {c : CondNode} → c ≡ text.Test t → f t ≡ flat_map f (tests c)
tests_of_one_test f t is = sym (append-nil (f t)) ∙ ap (flat_map f) (sym (ap tests is ∙ tests_test t))

pub of_and : {c : CondNode} {members items : List CondNode} → c ≡ text.And members → items ≡ members → flat_map tests items ≡ tests c
of_and {c} {members} is same = ap (flat_map tests) same ∙ sym (tests_chain c members (inl is))

pub of_or : {c : CondNode} {members items : List CondNode} → c ≡ text.Or members → items ≡ members → flat_map tests items ≡ tests c
of_or {c} {members} is same = ap (flat_map tests) same ∙ sym (tests_chain c members (inr is))

pub of_not : {c member inner : CondNode} → c ≡ text.Not member → inner ≡ member → tests inner ≡ tests c
of_not {c} {member} is same = ap tests same ∙ sym (ap tests is ∙ tests_not member)

pub not_empty : {parts : List Cond} (one : Cond) → parts ≡ [] → parts ≡ one ∷ [] → ⊥
not_empty one none is = cc

module _ (binder : Binder) (scope : Scope) where
  -- an OR or a NOT has itself as its only member
  pub one_member : {c : CondNode} → ((members : List CondNode) × (c ≡ text.Or members)) ⊎ ((member : CondNode) × (c ≡ text.Not member)) → value_by binder scope c ∷ [] ≡ members_by binder scope c
  one_member (inl h) = sym (ap (members_by binder scope) h.1 ∙ members_or binder scope h.0 ∙ ap (λ c. value_by binder scope c ∷ []) (sym h.1))
  one_member (inr h) = sym (ap (members_by binder scope) h.1 ∙ members_not binder scope h.0 ∙ ap (λ c. value_by binder scope c ∷ []) (sym h.1))

  pub checked_at : {list list' : List TestNode} {held held' : LateOffences} {found found' more : List Cond} → list ≡ list'
      → IsStateAfterTests binder scope list held held' found found' more → IsStateAfterTests binder scope list' held held' found found' more
  checked_at {held = held} {held' = held'} {found = found} {found' = found'} {more = more} same l = subst (λ list. IsStateAfterTests binder scope list held held' found found' more) same l

  pub wrong_at : {list list' : List TestNode} (e : QueryError) → list ≡ list'
      → IsNameError (flat_map (test_offences_of binder scope) list) e → IsNameError (flat_map (test_offences_of binder scope) list') e
  wrong_at e same wrong = subst (λ list. IsNameError (flat_map (test_offences_of binder scope) list) e) same wrong

  pub one_test : (t : TestNode) {c : CondNode} {held held' : LateOffences} {found found' more more' : List Cond} → c ≡ text.Test t → more ≡ more'
      → IsStateAfterTest binder scope t held held' found found' more → IsStateAfterTests binder scope (tests c) held held' found found' more'
  one_test t is same l = checked_of_equal (tests_of_one_test (test_offences_of binder scope) t is) (tests_of_one_test (kind_offences_of binder scope) t is) (tests_of_one_test long_list_length t is) (λ _. same) l

  pub and_checked : {c : CondNode} (members : List CondNode) {items : List CondNode} {held held' : LateOffences} {found found' parts : List Cond}
      → c ≡ text.And members → items ≡ members → IsStateAfterTests binder scope (flat_map tests items) held held' [] parts (map (value_by binder scope) items)
      → (length (from_of binder) ≤ 12 → held'.list ≡ None → found' ≡ found ++ cond.And parts ∷ [])
      → IsStateAfterTests binder scope (tests c) held held' found found' (value_by binder scope c ∷ [])
  and_checked members is same l added =
      checked_at (of_and is same) (checked_wrapped (λ parts. cond.And parts)
      (ap (λ cs. cond.And (map (value_by binder scope) cs)) same ∙ sym (ap (value_by binder scope) is ∙ value_and binder scope members)) refl l added)

  pub or_checked : {c : CondNode} (members : List CondNode) {items : List CondNode} {held held' : LateOffences} {found found' parts : List Cond}
      → c ≡ text.Or members → items ≡ members → IsStateAfterTests binder scope (flat_map tests items) held held' [] parts (map (value_by binder scope) items)
      → (length (from_of binder) ≤ 12 → held'.list ≡ None → found' ≡ found ++ cond.Or parts ∷ [])
      → IsStateAfterTests binder scope (tests c) held held' found found' (value_by binder scope c ∷ [])
  or_checked members is same l added =
      checked_at (of_or is same) (checked_wrapped (λ parts. cond.Or parts)
      (ap (λ cs. cond.Or (map (value_by binder scope) cs)) same ∙ sym (ap (value_by binder scope) is ∙ value_or binder scope members)) refl l added)

  pub not_checked : {c : CondNode} (member : CondNode) {inner : CondNode} {held held' : LateOffences} {found found' start parts : List Cond}
      → c ≡ text.Not member → inner ≡ member → start ≡ [] → IsStateAfterTests binder scope (tests inner) held held' start parts (value_by binder scope inner ∷ [])
      → ((one : Cond) → parts ≡ one ∷ [] → found' ≡ found ++ cond.Not one ∷ [])
      → IsStateAfterTests binder scope (tests c) held held' found found' (value_by binder scope c ∷ [])
  not_checked {c} member {inner} {found = found} is same empty l added =
      checked_at (of_not is same) (record {
        none = l.none;
        kind = l.kind;
        list = l.list;
        built = λ few none.
            added (value_by binder scope inner) (l.built few none ∙ ap (λ s. s ++ value_by binder scope inner ∷ []) empty)
            ∙ ap (λ v. found ++ v ∷ []) (ap (λ m. cond.Not (value_by binder scope m)) same ∙ sym (ap (value_by binder scope) is ∙ value_not binder scope member));
      })
