-- `IsStateAfterChecks` is the state after some tests were checked. These lemmas combine the states of two parts of a condition, one after the other,
-- into one state.
use Rattle.std.proofs.Common.{◌≡◌, ℕ, ◌+◌, ◌<◌, ◌≤◌, List, [], ◌∷◌, ◌++◌, length, take, drop, get_or, None, ap, subst, sym, ◌∙◌, refl}
use Rattle.std.proofs.lemmas.List.{append_assoc, append-nil, take_more, take_all, take-append-drop, flat_map_more}
use Rattle.std.proofs.lemmas.Grind.{flat_map-append}
use Rattle.std.specs.List.{flat_map}
use Rattle.query_grammar.specs.declared.tree.CondNode.{CondNode}
use Rattle.query_grammar.specs.declared.tree.TestNode.{TestNode}
use Rattle.query_types.specs.declared.types.Cond.{Cond}
use Rattle.query_names.specs.declared.binder.Binder.{Binder}
use Rattle.query_names.specs.declared.checks.LateOffences.{LateOffences}
use Rattle.query_names.specs.declared.errors.QueryError.{QueryError}
use Rattle.query_names.specs.declared.scope.Scope.{Scope}
use Rattle.query_names.specs.Scopes.{tests}
use Rattle.query_names.specs.Answers.{IsNameError, or_first}
use Rattle.query_names.specs.Binding.{from_of, test_offences_of}
use Rattle.query_names.specs.Checking.{IsStateAfterChecks, IsStateAfterTests}
use Rattle.query_names.proofs.Walk.{rest_at, or_first_append, or_first-nil, none_before, error_after, name_error_append}

pub checked_of_equal : {binder : Binder} {names names' kinds kinds' lists lists' : List ℕ} {held held' : LateOffences} {found found' more more' : List Cond}
    → names ≡ names' → kinds ≡ kinds' → lists ≡ lists' → (length (from_of binder) ≤ 12 → more ≡ more')
    → IsStateAfterChecks binder names kinds lists held held' found found' more → IsStateAfterChecks binder names' kinds' lists' held held' found found' more'
checked_of_equal {held = held} {found = found} same_names same_kinds same_lists same_more l = record {
  none = sym same_names ∙ l.none;
  kind = l.kind ∙ ap (or_first held.kind) same_kinds;
  list = l.list ∙ ap (or_first held.list) same_lists;
  built = λ few none. l.built few none ∙ ap (λ m. found ++ m) (same_more few);
}

pub nothing_checked : {binder : Binder} (held : LateOffences) (found : List Cond) → IsStateAfterChecks binder [] [] [] held held found found []
nothing_checked held found = record {
  none = refl;
  kind = sym (or_first-nil held.kind);
  list = sym (or_first-nil held.list);
  built = λ _ _. sym (append-nil found);
}

pub then_checked : {binder : Binder} {names kinds lists names' kinds' lists' : List ℕ} {held mid held' : LateOffences} {found between found' more more' : List Cond}
    → IsStateAfterChecks binder names kinds lists held mid found between more → IsStateAfterChecks binder names' kinds' lists' mid held' between found' more'
    → IsStateAfterChecks binder (names ++ names') (kinds ++ kinds') (lists ++ lists') held held' found found' (more ++ more')
then_checked {kinds = kinds} {lists = lists} {names' = names'} {kinds' = kinds'} {lists' = lists'} {held = held} {mid = mid} {found = found} {more = more} {more' = more'} one next = record {
  none = ap (λ l. l ++ names') one.none ∙ next.none;
  kind = next.kind ∙ ap (λ k. or_first k kinds') one.kind ∙ sym (or_first_append held.kind kinds kinds');
  list = next.list ∙ ap (λ k. or_first k lists') one.list ∙ sym (or_first_append held.list lists lists');
  built = λ few none.
      let before : mid.list ≡ None = none_before mid.list lists' (sym next.list ∙ none) in
      next.built few none ∙ ap (λ l. l ++ more') (one.built few before) ∙ append_assoc found more more';
}

-- the parts were built in a list of their own, and then one condition made of these parts was added to `found`
pub checked_wrapped : {binder : Binder} {names kinds lists : List ℕ} {held held' : LateOffences} {found found' start parts more : List Cond} {whole : Cond} (wrap : List Cond → Cond)
    → wrap more ≡ whole → start ≡ [] → IsStateAfterChecks binder names kinds lists held held' start parts more → (length (from_of binder) ≤ 12 → held'.list ≡ None → found' ≡ found ++ wrap parts ∷ [])
    → IsStateAfterChecks binder names kinds lists held held' found found' (whole ∷ [])
checked_wrapped {found = found} {more = more} wrap is empty l added = record {
  none = l.none;
  kind = l.kind;
  list = l.list;
  built = λ few none. added few none ∙ ap (λ c. found ++ c ∷ []) (ap wrap (l.built few none ∙ ap (λ s. s ++ more) empty) ∙ is);
}

-- ---- a list of conditions that is checked item by item

pub flat_map_step : {A B : Type 0} (f : A → List B) (xs : List A) (i : ℕ) (d : A) → i < length xs → flat_map f (take i xs) ++ f (get_or xs i d) ≡ flat_map f (take (i + 1) xs)
flat_map_step f xs i d below = flat_map_more f [] (take i xs) (get_or xs i d) ∙ ap (flat_map f) (sym (take_more xs i d below))

module _ (binder : Binder) (scope : Scope) where
  pub checked_all : (cs : List CondNode) {i : ℕ} {held held' : LateOffences} {found found' : List Cond} (more : List CondNode → List Cond)
      → length cs ≤ i → IsStateAfterTests binder scope (flat_map tests (take i cs)) held held' found found' (more (take i cs))
      → IsStateAfterTests binder scope (flat_map tests cs) held held' found found' (more cs)
  checked_all cs {i} {held} {held'} {found} {found'} more done l = subst (λ taken. IsStateAfterTests binder scope (flat_map tests taken) held held' found found' (more taken)) (take_all i cs done) l

  pub wrong_in : (cs : List CondNode) {i : ℕ} (d : CondNode) (e : QueryError)
      → i < length cs → flat_map (test_offences_of binder scope) (flat_map tests (take i cs)) ≡ []
      → IsNameError (flat_map (test_offences_of binder scope) (tests (get_or cs i d))) e → IsNameError (flat_map (test_offences_of binder scope) (flat_map tests cs)) e
  wrong_in cs {i} d e below none wrong =
      let offences : List TestNode → List ℕ = flat_map (test_offences_of binder scope) in
      let here : List TestNode = tests (get_or cs i d) in
      let rest : List TestNode = flat_map tests (drop (i + 1) cs) in
      let split : flat_map tests cs ≡ flat_map tests (take i cs) ++ (here ++ rest) =
      ap (flat_map tests) (sym (take-append-drop i cs)) ∙ flat_map-append tests (take i cs) (drop i cs) ∙ ap (λ l. flat_map tests (take i cs) ++ flat_map tests l) (rest_at cs i d below) in
      let parts : offences (flat_map tests cs) ≡ offences (flat_map tests (take i cs)) ++ (offences here ++ offences rest) =
      ap offences split ∙ flat_map-append (test_offences_of binder scope) (flat_map tests (take i cs)) (here ++ rest)
      ∙ ap (λ l. offences (flat_map tests (take i cs)) ++ l) (flat_map-append (test_offences_of binder scope) here rest) in
      subst (λ l. IsNameError l e) (sym parts) (error_after _ _ e none (name_error_append (offences here) (offences rest) e wrong))
