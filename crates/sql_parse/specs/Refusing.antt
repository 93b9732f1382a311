-- The refusals of a query whose FROM entries are known. The binder has the schema, the text and the entries.
use Rattle.std.specs.Prelude.{◌≡◌, ◌⊎◌, ℕ, List, [], ◌∷◌, ◌++◌, length, Option, Some, None, Result, Err}
use Rattle.limits.specs.Profile.{most_conjuncts, most_entries, most_outputs}
use Rattle.query_grammar.specs.declared.tree.QueryNode.{QueryNode}
use Rattle.schema_types.specs.declared.errors.LimitKind.TheVariants as limit
use Rattle.query_names.specs.declared.binder.Binder.{Binder}
use Rattle.query_names.specs.declared.errors.QueryError.{QueryError}
use Rattle.query_names.specs.declared.errors.QueryError.TheVariants as error
use Rattle.query_types.specs.declared.types.Query.{Query}
use Rattle.sql_parse.specs.QueryOrRefusal.{refusal, refusal_if_above, first_long_list_refusal, refusal_at_first, name_error, kind_error}
use Rattle.query_names.specs.Answers.{first}
use Rattle.query_names.specs.Binding.{from_of}
use Rattle.sql_parse.specs.AfterFrom.{names_after_from, kinds_after_from, lists_after_from, conjuncts_by}
use Rattle.sql_parse.specs.Outputs.{selected_by}

-- ---- refusals for exceeded limits, from the numbers of entries, conjuncts and outputs, and the length of the first IN list that is too long
abbrev pub long_list_refusal : Option ℕ → List QueryError
long_list_refusal None = []
long_list_refusal (Some n) = refusal limit.InValues n ∷ []

abbrev pub limits_exceeded : ℕ → Option ℕ → ℕ → ℕ → List QueryError
limits_exceeded entries list conjuncts outputs =
    refusal_if_above limit.FromEntries most_entries entries
    ++ long_list_refusal list
    ++ refusal_if_above limit.Conjuncts most_conjuncts conjuncts
    ++ refusal_if_above limit.Outputs most_outputs outputs

unfoldable pub limits_by : Binder → QueryNode → List QueryError
limits_by binder query =
    refusal_if_above limit.FromEntries most_entries (length (from_of binder))
    ++ first_long_list_refusal (lists_after_from binder query)
    ++ refusal_if_above limit.Conjuncts most_conjuncts (length (conjuncts_by binder query))
    ++ refusal_if_above limit.Outputs most_outputs (length (selected_by binder query.outs))

-- the refusals for kinds, then for limits
unfoldable pub late_refusals : Binder → QueryNode → List QueryError
late_refusals binder query = refusal_at_first kind_error (kinds_after_from binder query) ++ limits_by binder query

-- the refusals for names, then for kinds and limits
unfoldable pub refusals_after_from : Binder → QueryNode → List QueryError
refusals_after_from binder query = refusal_at_first name_error (names_after_from binder query) ++ late_refusals binder query

-- `e` is the first of the refusals, or NoMemory
abbrev pub IsFirstOf : List QueryError → QueryError → Type 0
IsFirstOf refusals e = (e ≡ error.NoMemory) ⊎ (first refusals ≡ Some e)

-- the answer is `expected`, or NoMemory
abbrev pub Answers : Result Query QueryError → Result Query QueryError → Type 0
Answers expected answer = (answer ≡ Err error.NoMemory) ⊎ (answer ≡ expected)
