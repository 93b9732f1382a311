-- The query that a syntax tree means, or the first refusal: for a name, for a kind (a number compared with a text) or for a limit.
use Rattle.std.specs.Prelude.{ℕ, ◌-◌, ◌^◌, nat_lt, min, if◌then◌else◌, List, [], ◌∷◌, ◌++◌, length, Result, Ok, Err}
use Rattle.std.specs.List.{flat_map}
use Rattle.limits.specs.Profile.{most_conjuncts, most_entries, most_outputs}
use Rattle.query_grammar.specs.declared.tree.QueryNode.{QueryNode}
use Rattle.schema_types.specs.declared.types.Schema.{Schema}
use Rattle.schema_types.specs.declared.errors.LimitKind.{LimitKind}
use Rattle.schema_types.specs.declared.errors.LimitKind.TheVariants as limit
use Rattle.query_names.specs.declared.errors.QueryError.{QueryError}
use Rattle.query_names.specs.declared.errors.QueryError.TheVariants as error
use Rattle.query_types.specs.declared.types.Query.{Query}
use Rattle.query_types.specs.declared.types.Source.{Source}
use Rattle.query_names.specs.Names.{entries}
use Rattle.query_names.specs.Scopes.{ConditionInScope, conditions, tests}
use Rattle.query_names.specs.Offences.{name_offences, all_kind_offences, long_list_length}
use Rattle.query_names.specs.Values.{query_of}

-- ---- limits

abbrev pub refusal : LimitKind → ℕ → QueryError
refusal which n = error.Limit which (min n (2 ^ 64 - 1))

abbrev pub long_list_lengths_in : ConditionInScope → List ℕ
long_list_lengths_in c = flat_map long_list_length (tests c.condition)

-- the lengths of the IN lists that are too long, in text order
unfoldable pub long_lists : List Source → QueryNode → List ℕ
long_lists from query = flat_map long_list_lengths_in (conditions from query)

-- ---- the refusals for exceeded limits, in the order in which they are reported
abbrev pub refusal_if_above : LimitKind → ℕ → ℕ → List QueryError
refusal_if_above which most n = if nat_lt most n then refusal which n ∷ [] else []

abbrev pub first_long_list_refusal : List ℕ → List QueryError
first_long_list_refusal [] = []
first_long_list_refusal (n ∷ rest) = refusal limit.InValues n ∷ []

abbrev pub limit_refusals : Query → List ℕ → List QueryError
limit_refusals query lists =
    refusal_if_above limit.FromEntries most_entries (length query.from)
    ++ first_long_list_refusal lists
    ++ refusal_if_above limit.Conjuncts most_conjuncts (length query.conjuncts)
    ++ refusal_if_above limit.Outputs most_outputs (length query.select)

-- ---- all refusals: for names, then for kinds, then for limits

abbrev pub refusal_at_first : (ℕ → QueryError) → List ℕ → List QueryError
refusal_at_first wrong [] = []
refusal_at_first wrong (offset ∷ rest) = wrong offset ∷ []

abbrev pub name_error : ℕ → QueryError
name_error offset = error.Name offset

abbrev pub kind_error : ℕ → QueryError
kind_error offset = error.Kind offset

module _ (schema : Schema) (text : List ℕ) (query : QueryNode) where
  unfoldable pub refusals : List QueryError
  refusals =
      let from = entries schema text query in
      refusal_at_first name_error (name_offences schema text from query)
      ++ refusal_at_first kind_error (all_kind_offences schema text from query)
      ++ limit_refusals (query_of schema text query) (long_lists from query)

abbrev pub first_refusal_or : {A : Type 0} → List QueryError → A → Result A QueryError
first_refusal_or [] value = Ok value
first_refusal_or (wrong ∷ rest) value = Err wrong

-- the query, or the first refusal
unfoldable pub query_or_refusal : Schema → List ℕ → QueryNode → Result Query QueryError
query_or_refusal schema text query = first_refusal_or (refusals schema text query) (query_of schema text query)
