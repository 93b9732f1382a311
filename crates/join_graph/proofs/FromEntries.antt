-- The conjuncts of a query over a schema name only FROM entries.
use Rattle.std.proofs.Common.{◌<◌, length}
use Rattle.std.proofs.lemmas.Option.{slice_get_within}
use Rattle.schema_types.specs.declared.types.Schema.{Schema}
use Rattle.query_types.specs.declared.types.Query.{Query}
use Rattle.query_types.specs.Validity.{IsColumnOf, IsQueryOf}
use Rattle.query_types.specs.Named.{NamesItsEntries}
use Rattle.query_types.proofs.CondFacts.{entries_typed}

pub names_its_entries : (schema : Schema) (query : Query) → IsQueryOf schema query → NamesItsEntries query
names_its_entries schema query is = λ k d h.
    entries_typed (IsColumnOf schema query.from) (λ entry. entry < length query.from)
    (λ column text of. slice_get_within query.from column.from of.finds.source of.finds.entry) _ (is.conjuncts k d h)
