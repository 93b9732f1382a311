-- The code finds the query or the refusal that `query_or_refusal` gives for the text.
use Rattle.std.proofs.Common.{◌≡◌, inl, inr, ℕ, ◌-◌, ◌^◌, ◌≤◌, min, Bool, true, false, nat_lt, cond, List, [], ◌∷◌, ◌++◌, length, Option, Some, None, Ok, Err, ap, sym, ◌∙◌, refl, append_assoc, arith}
use Rattle.std.proofs.lemmas.Grind.{common_steps}
use Rattle.std.proofs.lemmas.Bool.{ltb-false}
use Rattle.std.specs.List.{flat_map}
use Rattle.limits.specs.Profile.{most_conjuncts, most_entries, most_outputs}
use Rattle.query_grammar.specs.declared.tree.QueryNode.{QueryNode}
use Rattle.schema_types.specs.declared.types.Schema.{Schema}
use Rattle.schema_types.specs.declared.errors.LimitKind.{LimitKind}
use Rattle.schema_types.specs.declared.errors.LimitKind.TheVariants as limit
use Rattle.query_names.specs.declared.binder.Binder.{Binder}
use Rattle.query_names.specs.declared.errors.QueryError.{QueryError}
use Rattle.query_names.specs.declared.errors.QueryError.TheVariants as error
use Rattle.query_types.specs.declared.types.Cond.{Cond}
use Rattle.query_types.specs.declared.types.Out.{Out}
use Rattle.query_types.specs.declared.types.Query.{Query}
use Rattle.query_types.specs.declared.types.Source.{Source}
use Rattle.query_names.specs.Answers.{IsNameError}
use Rattle.query_names.specs.Names.{entries, from_offences}
use Rattle.query_names.specs.Scopes.{whole_scope, conditions}
use Rattle.query_names.specs.Offences.{outs_offences, name_offences_in, name_offences, all_kind_offences}
use Rattle.query_names.specs.Values.{conjuncts, selected, query_of}
use Rattle.sql_parse.specs.QueryOrRefusal.{refusal, refusal_if_above, first_long_list_refusal, refusal_at_first, name_error, kind_error, limit_refusals, long_lists, refusals, first_refusal_or, query_or_refusal}
use Rattle.query_names.specs.Answers.{first}
use Rattle.query_names.specs.Binding.{schema_of, from_of, names_in, kinds_in, long_lists_in, members_in, outs_offences_of, test_offences_of, kind_offences_of, members_by}
use Rattle.sql_parse.specs.AfterFrom.{names_after_from, kinds_after_from, lists_after_from, conjuncts_by}
use Rattle.sql_parse.specs.Outputs.{selected_by, capped}
use Rattle.sql_parse.specs.Refusing.{long_list_refusal, limits_exceeded, limits_by, late_refusals, refusals_after_from, IsFirstOf, Answers}

-- ---- the first element of a list

first_append : (xs ys : List QueryError) (e : QueryError) → first xs ≡ Some e → first (xs ++ ys) ≡ Some e
first_append [] ys e is = absurd cc
first_append (x ∷ xs) ys e is = is

first_place_append : (place : ℕ) (xs ys : List ℕ) → first xs ≡ Some place → first (xs ++ ys) ≡ Some place
first_place_append place [] ys is = absurd cc
first_place_append place (x ∷ xs) ys is = is

first_behind : (xs ys : List QueryError) → xs ≡ [] → first (xs ++ ys) ≡ first ys
first_behind xs ys none = ap (λ l. first (l ++ ys)) none

none_first : (xs ys : List QueryError) → first (xs ++ ys) ≡ None → xs ≡ []
none_first [] ys none = refl
none_first (x ∷ xs) ys none = absurd cc

none_last : (xs ys : List QueryError) → first (xs ++ ys) ≡ None → first ys ≡ None
none_last [] ys none = none
none_last (x ∷ xs) ys none = absurd cc

none_at_all : (xs : List QueryError) → first xs ≡ None → xs ≡ []
none_at_all [] none = refl
none_at_all (x ∷ xs) none = absurd cc

at_place : (wrong : ℕ → QueryError) (places : List ℕ) (at : ℕ) → first places ≡ Some at → first (refusal_at_first wrong places) ≡ Some (wrong at)
at_place wrong [] at is = absurd cc
at_place wrong (place ∷ rest) at is = let same : place ≡ at = cc in ap (λ p. Some (wrong p)) same

no_place : (wrong : ℕ → QueryError) (places : List ℕ) → first places ≡ None → refusal_at_first wrong places ≡ []
no_place wrong [] none = refl
no_place wrong (place ∷ rest) none = absurd cc

-- ---- limits

pub within_limit_if_no_refusal : (which : LimitKind) (most n : ℕ) → refusal_if_above which most n ≡ [] → n ≤ most
within_limit_if_no_refusal which most n none = at (nat_lt most n) refl none where
  at : (more : Bool) → more ≡ nat_lt most n → cond more (refusal which n ∷ []) [] ≡ [] → n ≤ most
  at true is none = absurd cc
  at false is none = ltb-false most n (sym is)

same_test : (n : ℕ) → nat_lt 1024 (min n (2 ^ 64 - 1)) ≡ nat_lt 1024 n
same_test n = grind (arith, common_steps)

cut_twice : (n : ℕ) → min (min n (2 ^ 64 - 1)) (2 ^ 64 - 1) ≡ min n (2 ^ 64 - 1)
cut_twice n = grind (arith, common_steps)

over_capped : (n : ℕ) → refusal_if_above limit.Outputs most_outputs (capped n) ≡ refusal_if_above limit.Outputs most_outputs n
over_capped n = ap (λ b. cond b (refusal limit.Outputs (capped n) ∷ []) []) (same_test n) ∙ ap (λ m. cond (nat_lt 1024 n) (error.Limit limit.Outputs m ∷ []) []) (cut_twice n)

no_list : (lists : List ℕ) → first (first_long_list_refusal lists) ≡ None → first lists ≡ None
no_list [] none = refl
no_list (n ∷ rest) none = absurd cc

module _ (from counted conjuncts outputs : ℕ) where
  abbrev due : List ℕ → List QueryError
  due lists = refusal_if_above limit.FromEntries most_entries from ++ first_long_list_refusal lists ++ refusal_if_above limit.Conjuncts most_conjuncts conjuncts ++ refusal_if_above limit.Outputs most_outputs outputs

  exceeded_limits_agree_by : (exceeds_entries : Bool) (lists : List ℕ) → exceeds_entries ≡ nat_lt most_entries from → (from ≤ 12 → first lists ≡ None → counted ≡ conjuncts)
      → first (cond exceeds_entries (refusal limit.FromEntries from ∷ []) [] ++ long_list_refusal (first lists) ++ refusal_if_above limit.Conjuncts most_conjuncts counted ++ refusal_if_above limit.Outputs most_outputs (capped outputs))
      ≡ first (cond exceeds_entries (refusal limit.FromEntries from ∷ []) [] ++ first_long_list_refusal lists ++ refusal_if_above limit.Conjuncts most_conjuncts conjuncts ++ refusal_if_above limit.Outputs most_outputs outputs)
  exceeded_limits_agree_by true lists is same = refl
  exceeded_limits_agree_by false (n ∷ rest) is same = refl
  exceeded_limits_agree_by false [] is same =
      ap (λ n. first (refusal_if_above limit.Conjuncts most_conjuncts n ++ refusal_if_above limit.Outputs most_outputs (capped outputs))) (same (ltb-false most_entries from (sym is)) refl)
      ∙ ap (λ l. first (refusal_if_above limit.Conjuncts most_conjuncts conjuncts ++ l)) (over_capped outputs)

  -- if no earlier limit is exceeded, `counted` must be the number of conjuncts; otherwise it may be any number
  exceeded_limits_agree : (lists : List ℕ) → (from ≤ 12 → first lists ≡ None → counted ≡ conjuncts) → first (limits_exceeded from (first lists) counted (capped outputs)) ≡ first (due lists)
  exceeded_limits_agree lists same = exceeded_limits_agree_by (nat_lt most_entries from) lists refl same

module _ (binder : Binder) (query : QueryNode) where
  kind_first : (at : ℕ) → Some at ≡ first (kinds_after_from binder query) → Some (error.Kind at) ≡ first (late_refusals binder query)
  unfolding late_refusals
  kind_first at is = sym (first_append (refusal_at_first kind_error (kinds_after_from binder query)) (limits_by binder query) (error.Kind at) (at_place kind_error (kinds_after_from binder query) at (sym is)))

  limit_first : (list : Option ℕ) (found : List Cond) (outputs : ℕ) → list ≡ first (lists_after_from binder query)
      → (length (from_of binder) ≤ 12 → list ≡ None → found ≡ conjuncts_by binder query) → outputs ≡ capped (length (selected_by binder query.outs))
      → first (limits_exceeded (length (from_of binder)) list (length found) outputs) ≡ first (limits_by binder query)
  unfolding limits_by
  limit_first list found outputs is_list is_found is_outputs =
      ap (λ l. first (limits_exceeded (length (from_of binder)) l (length found) outputs)) is_list
      ∙ ap (λ n. first (limits_exceeded (length (from_of binder)) (first (lists_after_from binder query)) (length found) n)) is_outputs
      ∙ exceeded_limits_agree (length (from_of binder)) (length found) (length (conjuncts_by binder query)) (length (selected_by binder query.outs)) (lists_after_from binder query) (λ few none. ap length (is_found few (is_list ∙ none)))

  no_kind : None ≡ first (kinds_after_from binder query) → first (limits_by binder query) ≡ first (late_refusals binder query)
  unfolding late_refusals
  no_kind none = sym (first_behind (refusal_at_first kind_error (kinds_after_from binder query)) (limits_by binder query) (no_place kind_error (kinds_after_from binder query) (sym none)))

  -- ---- the refusals of a query whose FROM entries are known

  no_name : names_after_from binder query ≡ [] → refusals_after_from binder query ≡ late_refusals binder query
  unfolding refusals_after_from
  no_name none = ap (λ l. refusal_at_first name_error l ++ late_refusals binder query) none

  pub name_refused : (e : QueryError) → IsNameError (names_after_from binder query) e → IsFirstOf (refusals_after_from binder query) e
  unfolding refusals_after_from
  name_refused (error.Name place) wrong = inr (first_append (refusal_at_first name_error (names_after_from binder query)) (late_refusals binder query) (error.Name place) (at_place name_error (names_after_from binder query) place wrong))
  name_refused error.NoMemory wrong = inl refl
  name_refused (error.Syntax place) wrong = absurd wrong
  name_refused (error.Kind place) wrong = absurd wrong
  name_refused (error.Limit which n) wrong = absurd wrong

  pub late_refused : (e : QueryError) → names_after_from binder query ≡ [] → Some e ≡ first (late_refusals binder query) → IsFirstOf (refusals_after_from binder query) e
  late_refused e none is = inr (ap first (no_name none) ∙ sym is)

  pub none_refused : names_after_from binder query ≡ [] → None ≡ first (late_refusals binder query) → first (refusals_after_from binder query) ≡ None
  none_refused none is = ap first (no_name none) ∙ sym is

  pub kind_refused : (at : ℕ) → names_after_from binder query ≡ [] → Some at ≡ first (kinds_after_from binder query) → IsFirstOf (refusals_after_from binder query) (error.Kind at)
  kind_refused at none is = late_refused (error.Kind at) none (kind_first at is)

  pub late_first : {wrong : Option QueryError} (list : Option ℕ) (found : List Cond) {entries number outputs : ℕ} → None ≡ first (kinds_after_from binder query) → list ≡ first (lists_after_from binder query)
      → (length (from_of binder) ≤ 12 → list ≡ None → found ≡ conjuncts_by binder query) → outputs ≡ capped (length (selected_by binder query.outs))
      → entries ≡ length (from_of binder) → number ≡ length found → wrong ≡ first (limits_exceeded entries list number outputs) → wrong ≡ first (late_refusals binder query)
  late_first list found {entries} {number} {outputs} none is_list is_found is_outputs is_entries is_number is =
      is ∙ ap (λ n. first (limits_exceeded n list number outputs)) is_entries ∙ ap (λ n. first (limits_exceeded (length (from_of binder)) list n outputs)) is_number
      ∙ limit_first list found outputs is_list is_found is_outputs ∙ no_kind none

  module _ (no_late_refusal : None ≡ first (late_refusals binder query)) where
    abbrev entries_refusals : List QueryError
    entries_refusals = refusal_if_above limit.FromEntries most_entries (length (from_of binder))

    abbrev lists : List QueryError
    lists = first_long_list_refusal (lists_after_from binder query)

    abbrev conjs : List QueryError
    conjs = refusal_if_above limit.Conjuncts most_conjuncts (length (conjuncts_by binder query))

    abbrev outs : List QueryError
    outs = refusal_if_above limit.Outputs most_outputs (length (selected_by binder query.outs))

    no_limit : first (((entries_refusals ++ lists) ++ conjs) ++ outs) ≡ None
    unfolding late_refusals limits_by
    no_limit = none_last (refusal_at_first kind_error (kinds_after_from binder query)) (limits_by binder query) (sym no_late_refusal)

    no_early : entries_refusals ++ lists ≡ []
    no_early = none_first (entries_refusals ++ lists) conjs (ap first (none_first ((entries_refusals ++ lists) ++ conjs) outs no_limit))

    pub entries_within_limit : length (from_of binder) ≤ 12
    entries_within_limit = within_limit_if_no_refusal limit.FromEntries most_entries (length (from_of binder)) (none_first entries_refusals lists (ap first no_early))

    pub no_long_list : first (lists_after_from binder query) ≡ None
    no_long_list = no_list (lists_after_from binder query) (none_last entries_refusals lists (ap first no_early))

    pub outputs_within_limit : length (selected_by binder query.outs) ≤ most_outputs
    outputs_within_limit = within_limit_if_no_refusal limit.Outputs most_outputs (length (selected_by binder query.outs)) (none_at_all outs (none_last ((entries_refusals ++ lists) ++ conjs) outs no_limit))

-- ---- what the binder computes, in terms of the schema, the text and the tree

abbrev names_after : Schema → List ℕ → List Source → QueryNode → List ℕ
names_after schema text from query = outs_offences schema text from (whole_scope from) query.outs ++ flat_map (name_offences_in schema text from) (conditions from query)

abbrev limits_after : Schema → List ℕ → List Source → QueryNode → List QueryError
limits_after schema text from query =
    refusal_if_above limit.FromEntries most_entries (length from)
    ++ first_long_list_refusal (long_lists from query)
    ++ refusal_if_above limit.Conjuncts most_conjuncts (length (conjuncts schema text from query))
    ++ refusal_if_above limit.Outputs most_outputs (length (selected schema text from query.outs))

unfoldable refusals_after : Schema → List ℕ → List Source → QueryNode → List QueryError
refusals_after schema text from query = refusal_at_first name_error (names_after schema text from query) ++ (refusal_at_first kind_error (all_kind_offences schema text from query) ++ limits_after schema text from query)

refusals_by : (binder : Binder) (query : QueryNode) → refusals_after_from binder query ≡ refusals_after (schema_of binder) binder.text.now (from_of binder) query
unfolding refusals_after refusals_after_from late_refusals limits_by names_after_from kinds_after_from lists_after_from conjuncts_by selected_by names_in kinds_in long_lists_in members_in outs_offences_of test_offences_of kind_offences_of members_by all_kind_offences long_lists conjuncts
refusals_by binder query = refl

conjuncts_are : (binder : Binder) (query : QueryNode) → conjuncts_by binder query ≡ conjuncts (schema_of binder) binder.text.now (from_of binder) query
unfolding conjuncts_by members_in members_by conjuncts
conjuncts_are binder query = refl

selected_are : (binder : Binder) (query : QueryNode) → selected_by binder query.outs ≡ selected (schema_of binder) binder.text.now (from_of binder) query.outs
unfolding selected_by
selected_are binder query = refl

module _ (schema : Schema) (text : List ℕ) (query : QueryNode) where
  refusals_are : from_offences schema text query ≡ [] → refusals schema text query ≡ refusals_after schema text (entries schema text query) query
  unfolding refusals name_offences query_of refusals_after
  refusals_are none =
      let from : List Source = entries schema text query in
      ap (λ l. refusal_at_first name_error (l ++ outs_offences schema text from (whole_scope from) query.outs ++ flat_map (name_offences_in schema text from) (conditions from query))
      ++ refusal_at_first kind_error (all_kind_offences schema text from query) ++ limits_after schema text from query) none
      ∙ append_assoc (refusal_at_first name_error (names_after schema text from query)) (refusal_at_first kind_error (all_kind_offences schema text from query)) (limits_after schema text from query)

  unless_first : (wrong : List QueryError) (value : Query) (e : QueryError) → first wrong ≡ Some e → first_refusal_or wrong value ≡ Err e
  unless_first [] value e is = absurd cc
  unless_first (x ∷ xs) value e is = let same : x ≡ e = cc in ap (λ y. Err y) same

  unless_none : (wrong : List QueryError) (value : Query) → first wrong ≡ None → first_refusal_or wrong value ≡ Ok value
  unless_none [] value none = refl
  unless_none (x ∷ xs) value none = absurd cc

  refused_first : (e : QueryError) → first (refusals schema text query) ≡ Some e → query_or_refusal schema text query ≡ Err e
  unfolding query_or_refusal
  refused_first e is = unless_first (refusals schema text query) (query_of schema text query) e is

  name_in_from : (place : ℕ) → first (from_offences schema text query) ≡ Some place → first (refusals schema text query) ≡ Some (error.Name place)
  unfolding refusals name_offences
  name_in_from place wrong =
      let from : List Source = entries schema text query in
      let outs : List ℕ = outs_offences schema text from (whole_scope from) query.outs in
      let conds : List ℕ = flat_map (name_offences_in schema text from) (conditions from query) in
      let names : first ((from_offences schema text query ++ outs) ++ conds) ≡ Some place = first_place_append place (from_offences schema text query ++ outs) conds (first_place_append place (from_offences schema text query) outs wrong) in
      first_append (refusal_at_first name_error (name_offences schema text from query) ++ refusal_at_first kind_error (all_kind_offences schema text from query)) (limit_refusals (query_of schema text query) (long_lists from query)) (error.Name place)
      (first_append (refusal_at_first name_error (name_offences schema text from query)) (refusal_at_first kind_error (all_kind_offences schema text from query)) (error.Name place)
      (at_place name_error ((from_offences schema text query ++ outs) ++ conds) place names))

  pub from_refused : (e : QueryError) → IsNameError (from_offences schema text query) e → Answers (query_or_refusal schema text query) (Err e)
  from_refused (error.Name place) wrong = inr (sym (refused_first (error.Name place) (name_in_from place wrong)))
  from_refused error.NoMemory wrong = inl refl
  from_refused (error.Syntax place) wrong = absurd wrong
  from_refused (error.Kind place) wrong = absurd wrong
  from_refused (error.Limit which n) wrong = absurd wrong

  module _ (binder : Binder) where
    pub record BinderMatchesTree : Type 0 where
      pub schema_is : schema_of binder ≡ schema
      pub text_is : binder.text.now ≡ text
      pub from_is : from_of binder ≡ entries schema text query
      pub no_offence : from_offences schema text query ≡ []

    same_refusals : BinderMatchesTree → refusals_after_from binder query ≡ refusals schema text query
    same_refusals k =
        refusals_by binder query
        ∙ ap (λ s. refusals_after s binder.text.now (from_of binder) query) k.schema_is
        ∙ ap (λ t. refusals_after schema t (from_of binder) query) k.text_is
        ∙ ap (λ f. refusals_after schema text f query) k.from_is
        ∙ sym (refusals_are k.no_offence)

    pub behind_by : BinderMatchesTree → (e : QueryError) → IsFirstOf (refusals_after_from binder query) e → Answers (query_or_refusal schema text query) (Err e)
    behind_by k e (inl memory) = inl (ap (λ y. Err y) memory)
    behind_by k e (inr is) = inr (sym (refused_first e (ap first (sym (same_refusals k)) ∙ is)))

    made : BinderMatchesTree → (from : List Source) (conjs : List Cond) (outs : List Out) → from ≡ entries schema text query → conjs ≡ conjuncts_by binder query → outs ≡ selected_by binder query.outs
        → query_of schema text query ≡ record { from = from; conjuncts = conjs; select = outs }
    unfolding query_of
    made k from conjs outs is_from is_conjs is_outs =
        let same_conjs : conjs ≡ conjuncts schema text (entries schema text query) query =
        is_conjs ∙ conjuncts_are binder query ∙ ap (λ s. conjuncts s binder.text.now (from_of binder) query) k.schema_is
        ∙ ap (λ t. conjuncts schema t (from_of binder) query) k.text_is ∙ ap (λ f. conjuncts schema text f query) k.from_is in
        let same_outs : outs ≡ selected schema text (entries schema text query) query.outs =
        is_outs ∙ selected_are binder query ∙ ap (λ s. selected s binder.text.now (from_of binder) query.outs) k.schema_is
        ∙ ap (λ t. selected schema t (from_of binder) query.outs) k.text_is ∙ ap (λ f. selected schema text f query.outs) k.from_is in
        rw (is_from, same_conjs, same_outs) refl

    pub value_by : BinderMatchesTree → (from : List Source) (conjs : List Cond) (outs : List Out) → from ≡ entries schema text query → conjs ≡ conjuncts_by binder query → outs ≡ selected_by binder query.outs
        → first (refusals_after_from binder query) ≡ None → Answers (query_or_refusal schema text query) (Ok (record { from = from; conjuncts = conjs; select = outs }))
    unfolding query_or_refusal
    value_by k from conjs outs is_from is_conjs is_outs none =
        inr (sym (unless_none (refusals schema text query) (query_of schema text query) (ap first (sym (same_refusals k)) ∙ none) ∙ ap (λ q. Ok q) (made k from conjs outs is_from is_conjs is_outs)))
