-- A test is checked operand by operand. Facts about its operands, with names resolved, give facts about the test.
use Rattle.std.proofs.Common.{◌≡◌, ℕ, ◌+◌, ◌<◌, ◌≤◌, Bool, List, [], ◌∷◌, ◌++◌, length, map, take, get_or, Option, Some, ap, subst, sym, ◌∙◌, refl}
use Rattle.std.specs.Prelude.{is_none}
use Rattle.std.specs.List.{flat_map}
use Rattle.std.proofs.lemmas.List.Folds.{flat_map-map}
use Rattle.std.proofs.lemmas.List.{append-nil, map-append, take_more}
use Rattle.ll_grammars.specs.declared.lexeme.Lexeme.{Lexeme}
use Rattle.query_grammar.specs.declared.tree.ColumnNode.{ColumnNode}
use Rattle.query_grammar.specs.declared.tree.LiteralNode.{LiteralNode}
use Rattle.query_grammar.specs.declared.tree.Op.{Op}
use Rattle.query_grammar.specs.declared.tree.Op.TheVariants as op
use Rattle.query_grammar.specs.declared.tree.OperandNode.{OperandNode}
use Rattle.query_grammar.specs.declared.tree.OperandNode.TheVariants as operand
use Rattle.query_grammar.specs.declared.tree.TestNode.{TestNode}
use Rattle.query_grammar.specs.declared.tree.TestNode.TheVariants as test
use Rattle.query_types.specs.declared.types.ColumnRef.{ColumnRef}
use Rattle.query_types.specs.declared.types.Operand.TheVariants as value
use Rattle.query_types.specs.declared.types.Cond.{Cond}
use Rattle.query_types.specs.declared.types.Cond.TheVariants as cond
use Rattle.query_types.specs.Validity.{is_text}
use Rattle.query_names.specs.declared.binder.Binder.{Binder}
use Rattle.query_names.specs.declared.checks.LateOffences.{LateOffences}
use Rattle.query_names.specs.declared.errors.QueryError.{QueryError}
use Rattle.query_names.specs.declared.operands.ResolvedOperand.{ResolvedOperand}
use Rattle.query_names.specs.declared.scope.EntryColumn.{EntryColumn}
use Rattle.query_names.specs.declared.scope.Scope.{Scope}
use Rattle.query_names.specs.Names.{offset_if}
use Rattle.query_names.specs.Scopes.{head_of}
use Rattle.query_names.specs.Offences.{left_of, others_of, of_literal, differ, is_text_column, long_list_length}
use Rattle.query_names.specs.Values.{resolved_column}
use Rattle.query_names.specs.Answers.{IsNameError, or_first}
use Rattle.query_names.specs.Binding.{schema_of, from_of, resolved_by, name_offences_of, is_text_by, kind_offence_of, test_offences_of, operand_by, compared_by}
use Rattle.query_names.specs.Checking.{resolved_literal, IsResolvedOperand, IsStateAfterChecks, IsStateAfterTest, comparisons_by, wrong_literal, equal_to}
use Rattle.query_names.proofs.Walk.{error_after, name_error_append, or_first-nil}
use Rattle.query_names.proofs.CheckFacts.{error_at_left, error_at_others, no_error, kinds_of_test}
use Rattle.query_names.proofs.Meanings.{found_entry_in_8_bits}
use Rattle.query_names.proofs.CheckSteps.{checked_of_equal, then_checked, flat_map_step}

-- ---- one operand

module _ (binder : Binder) (scope : Scope) where
  pub resolved_column_operand : (reference : ColumnNode) (column : EntryColumn) (to : ColumnRef) {o : OperandNode} {text : Bool} {begins : Lexeme}
      → o ≡ operand.Column reference → Some column ≡ resolved_by binder scope reference → (column.from < 256 → to ≡ resolved_column (Some column))
      → text ≡ is_text column.kind → begins ≡ head_of reference
      → IsResolvedOperand binder scope o (record { value = value.Column to; is_text = text; first = begins })
  unfolding name_offences_of is_text_by operand_by
  resolved_column_operand reference column to {o} {text} {begins} is found fits kind here =
      subst (λ o. IsResolvedOperand binder scope o (record { value = value.Column to; is_text = text; first = begins })) (sym is) (record {
        none = ap (λ (f : Option EntryColumn). offset_if (is_none f) (head_of reference)) (sym found);
        text = kind ∙ ap (λ (f : Option EntryColumn). is_text_column (schema_of binder) binder.text.now (from_of binder) scope f) found;
        first = here;
        value = λ few. ap (λ (r : ColumnRef). value.Column r) (fits (found_entry_in_8_bits binder scope reference column found few) ∙ ap (λ (f : Option EntryColumn). resolved_column f) found);
      })

  pub resolved_literal_operand : (l : LiteralNode) {o : OperandNode} {bound : ResolvedOperand} → o ≡ operand.Literal l → bound ≡ resolved_literal binder.text.now l → IsResolvedOperand binder scope o bound
  unfolding name_offences_of is_text_by operand_by
  resolved_literal_operand l {o} {bound} is same = subst (λ o. IsResolvedOperand binder scope o bound) (sym is) (record {
    none = refl;
    text = ap (λ b. b.is_text) same;
    first = ap (λ b. b.first) same;
    value = λ _. ap (λ b. b.value) same;
  })

-- ---- a wrong name in an operand is a wrong name of the test

module _ (binder : Binder) (scope : Scope) (t : TestNode) where
  pub wrong_left : {left : OperandNode} (e : QueryError) → left ≡ left_of t → IsNameError (name_offences_of binder scope left) e → IsNameError (test_offences_of binder scope t) e
  wrong_left e is wrong = error_at_left binder scope t e (subst (λ o. IsNameError (name_offences_of binder scope o) e) is wrong)

  pub wrong_other : {left other : OperandNode} (after : List OperandNode) (e : QueryError) → left ≡ left_of t → others_of t ≡ other ∷ after
      → name_offences_of binder scope left ≡ [] → IsNameError (name_offences_of binder scope other) e → IsNameError (test_offences_of binder scope t) e
  wrong_other {left} {other} after e is are none wrong =
      error_at_others binder scope t e (ap (name_offences_of binder scope) (sym is) ∙ none)
      (subst (λ l. IsNameError (flat_map (name_offences_of binder scope) l) e) (sym are)
      (name_error_append (name_offences_of binder scope other) (flat_map (name_offences_of binder scope) after) e wrong))

  pub wrong_second : {left low high : OperandNode} (e : QueryError) → left ≡ left_of t → others_of t ≡ low ∷ high ∷ []
      → name_offences_of binder scope left ≡ [] → name_offences_of binder scope low ≡ [] → IsNameError (name_offences_of binder scope high) e
      → IsNameError (test_offences_of binder scope t) e
  wrong_second {left} {low} {high} e is are none before wrong =
      error_at_others binder scope t e (ap (name_offences_of binder scope) (sym is) ∙ none)
      (subst (λ l. IsNameError (flat_map (name_offences_of binder scope) l) e) (sym are)
      (error_after (name_offences_of binder scope low) (name_offences_of binder scope high ++ []) e before
      (name_error_append (name_offences_of binder scope high) [] e wrong)))

-- ---- the state after a comparison was added

module _ {binder : Binder} {scope : Scope} where
  kind_is : {left right : OperandNode} {l r : ResolvedOperand} → IsResolvedOperand binder scope left l → IsResolvedOperand binder scope right r
      → offset_if (differ l.is_text r.is_text) r.first ≡ kind_offence_of binder scope (is_text_by binder scope left) right
  unfolding kind_offence_of is_text_by
  kind_is {left} {right} {l} {r} lb rb =
      ap (λ b. offset_if (differ b r.is_text) r.first) lb.text
      ∙ ap (λ b. offset_if (differ (is_text_by binder scope left) b) r.first) rb.text
      ∙ ap (λ token. offset_if (differ (is_text_by binder scope left) (is_text_by binder scope right)) token) rb.first

  value_is : {left right : OperandNode} {l r : ResolvedOperand} (how : Op) → IsResolvedOperand binder scope left l → IsResolvedOperand binder scope right r → length (from_of binder) ≤ 12
      → cond.Compare how l.value r.value ≡ compared_by binder scope how left right
  unfolding compared_by operand_by
  value_is {left} {right} {l} {r} how lb rb few = ap (λ v. cond.Compare how v r.value) (lb.value few) ∙ ap (λ v. cond.Compare how (operand_by binder scope left) v) (rb.value few)

  bound_left : (t : TestNode) {o left : OperandNode} {l : ResolvedOperand} → o ≡ left_of t → left_of t ≡ left → IsResolvedOperand binder scope o l → IsResolvedOperand binder scope left l
  bound_left t {l = l} from is bound = subst (λ o. IsResolvedOperand binder scope o l) (from ∙ is) bound

  pub compare_checked : {t : TestNode} {o left right : OperandNode} (how : Op) {l r : ResolvedOperand} {held held' : LateOffences} {found found' : List Cond}
      → t ≡ test.Compare left how right → o ≡ left_of t → IsResolvedOperand binder scope o l → IsResolvedOperand binder scope right r
      → IsStateAfterChecks binder [] (offset_if (differ l.is_text r.is_text) r.first) [] held held' found found' (cond.Compare how l.value r.value ∷ [])
      → IsStateAfterTest binder scope t held held' found found' (comparisons_by binder scope t)
  unfolding comparisons_by
  compare_checked {t} {o} {left} {right} how {l} {r} {held} {held'} {found} {found'} is from ob rb looked =
      let lb : IsResolvedOperand binder scope left l = bound_left t from (ap left_of is) ob in
      subst (λ t. IsStateAfterTest binder scope t held held' found found' (comparisons_by binder scope t)) (sym is)
      (checked_of_equal
      (sym (no_error binder scope (test.Compare left how right) lb.none (ap (λ n. n ++ []) rb.none)))
      (kind_is lb rb ∙ sym (append-nil (kind_offence_of binder scope (is_text_by binder scope left) right)) ∙ sym (kinds_of_test binder scope (test.Compare left how right)))
      refl
      (λ few. ap (λ c. c ∷ []) (value_is how lb rb few))
      looked)

  pub between_checked : {t : TestNode} {o left low high : OperandNode} (negated : Bool) {l a b : ResolvedOperand} {held mid held' : LateOffences} {found between found' : List Cond}
      → t ≡ test.Between left negated low high → o ≡ left_of t → IsResolvedOperand binder scope o l → IsResolvedOperand binder scope low a → IsResolvedOperand binder scope high b
      → IsStateAfterChecks binder [] (offset_if (differ l.is_text a.is_text) a.first) [] held mid found between (cond.Compare op.Ge l.value a.value ∷ [])
      → IsStateAfterChecks binder [] (offset_if (differ l.is_text b.is_text) b.first) [] mid held' between found' (cond.Compare op.Le l.value b.value ∷ [])
      → IsStateAfterTest binder scope t held held' found found' (comparisons_by binder scope t)
  unfolding comparisons_by
  between_checked {t} {o} {left} {low} {high} negated {l} {a} {b} {held} {mid} {held'} {found} {between} {found'} is from ob ab bb first second =
      let lb : IsResolvedOperand binder scope left l = bound_left t from (ap left_of is) ob in
      let range : TestNode = test.Between left negated low high in
      let kind : OperandNode → List ℕ = kind_offence_of binder scope (is_text_by binder scope left) in
      subst (λ t. IsStateAfterTest binder scope t held held' found found' (comparisons_by binder scope t)) (sym is)
      (checked_of_equal
      (sym (no_error binder scope range lb.none (ap (λ n. n ++ (name_offences_of binder scope high ++ [])) ab.none ∙ ap (λ n. n ++ []) bb.none)))
      (ap (λ k. k ++ offset_if (differ l.is_text b.is_text) b.first) (kind_is lb ab)
      ∙ ap (λ k. kind low ++ k) (kind_is lb bb ∙ sym (append-nil (kind high)))
      ∙ sym (kinds_of_test binder scope range))
      refl
      (λ few. ap (λ c. c ∷ cond.Compare op.Le l.value b.value ∷ []) (value_is op.Ge lb ab few) ∙ ap (λ c. compared_by binder scope op.Ge left low ∷ c ∷ []) (value_is op.Le lb bb few))
      (then_checked first second))

-- ---- the state after the values of an IN list were compared

no_names : (binder : Binder) (scope : Scope) (values : List LiteralNode) → flat_map (name_offences_of binder scope) (map of_literal values) ≡ []
unfolding name_offences_of
no_names binder scope [] = refl
no_names binder scope (l ∷ values) = no_names binder scope values

wrong_values : (binder : Binder) (scope : Scope) (text : Bool) (values : List LiteralNode)
    → flat_map (wrong_literal text) values ≡ flat_map (kind_offence_of binder scope text) (map of_literal values)
unfolding kind_offence_of
wrong_values binder scope text values = sym (flat_map-map (kind_offence_of binder scope text) of_literal values)

equal_values : (binder : Binder) (scope : Scope) (left : OperandNode) (values : List LiteralNode)
    → map (equal_to binder.text.now (operand_by binder scope left)) values ≡ map (λ l. compared_by binder scope op.Eq left (of_literal l)) values
unfolding compared_by operand_by
equal_values binder scope left values = refl

pub in_checked : {binder : Binder} {scope : Scope} {t : TestNode} {o left : OperandNode} (negated : Bool) {values items : List LiteralNode} {l : ResolvedOperand}
    {held mid held' : LateOffences} {found found' : List Cond}
    → t ≡ test.In left negated values → items ≡ values → o ≡ left_of t → IsResolvedOperand binder scope o l
    → mid.list ≡ or_first held.list (long_list_length t) → mid.kind ≡ held.kind
    → IsStateAfterChecks binder [] (flat_map (wrong_literal l.is_text) items) [] mid held' found found' (map (equal_to binder.text.now l.value) items)
    → IsStateAfterTest binder scope t held held' found found' (comparisons_by binder scope t)
unfolding comparisons_by
in_checked {binder} {scope} {t} {o} {left} negated {values} {items} {l} {held} {mid} {held'} {found} {found'} is same from ob list kind looked =
    subst (λ t. mid.list ≡ or_first held.list (long_list_length t) → IsStateAfterTest binder scope t held held' found found' (comparisons_by binder scope t)) (sym is) whole list where
      lb : IsResolvedOperand binder scope left l
      lb = bound_left t from (ap left_of is) ob

      noted : mid.list ≡ or_first held.list (long_list_length (test.In left negated values)) → IsStateAfterChecks binder [] [] (long_list_length (test.In left negated values)) held mid found found []
      noted list = record { none = refl; kind = kind ∙ sym (or_first-nil held.kind); list = list; built = λ _ _. sym (append-nil found) }

      whole : mid.list ≡ or_first held.list (long_list_length (test.In left negated values))
          → IsStateAfterTest binder scope (test.In left negated values) held held' found found' (comparisons_by binder scope (test.In left negated values))
      whole list =
          checked_of_equal
          (sym (no_error binder scope (test.In left negated values) lb.none (no_names binder scope values)))
          (ap (λ b. flat_map (wrong_literal b) items) lb.text ∙ ap (flat_map (wrong_literal (is_text_by binder scope left))) same
          ∙ wrong_values binder scope (is_text_by binder scope left) values ∙ sym (kinds_of_test binder scope (test.In left negated values)))
          (append-nil (long_list_length (test.In left negated values)))
          (λ few. ap (λ v. map (equal_to binder.text.now v) items) (lb.value few) ∙ ap (map (equal_to binder.text.now (operand_by binder scope left))) same
          ∙ equal_values binder scope left values)
          (then_checked (noted list) looked)

pub equality_more : {binder : Binder} (l : ResolvedOperand) (values : List LiteralNode) {i : ℕ} (d : LiteralNode) {other : ResolvedOperand} {held mid held' : LateOffences} {found between found' : List Cond}
    → i < length values
    → IsStateAfterChecks binder [] (flat_map (wrong_literal l.is_text) (take i values)) [] held mid found between (map (equal_to binder.text.now l.value) (take i values))
    → other ≡ resolved_literal binder.text.now (get_or values i d)
    → IsStateAfterChecks binder [] (offset_if (differ l.is_text other.is_text) other.first) [] mid held' between found' (cond.Compare op.Eq l.value other.value ∷ [])
    → IsStateAfterChecks binder [] (flat_map (wrong_literal l.is_text) (take (i + 1) values)) [] held held' found found' (map (equal_to binder.text.now l.value) (take (i + 1) values))
equality_more {binder} l values {i} d {other} below one is next =
    let equal : LiteralNode → Cond = equal_to binder.text.now l.value in
    checked_of_equal refl
    (ap (λ o. flat_map (wrong_literal l.is_text) (take i values) ++ offset_if (differ l.is_text o.is_text) o.first) is ∙ flat_map_step (wrong_literal l.is_text) values i d below)
    refl
    (λ _. ap (λ o. map equal (take i values) ++ cond.Compare op.Eq l.value o.value ∷ []) is ∙ sym (map-append equal (take i values) (get_or values i d ∷ [])) ∙ ap (map equal) (sym (take_more values i d below)))
    (then_checked one next)
