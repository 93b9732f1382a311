-- A pair names its columns by their positions in the table. By the rules, the table has columns at these positions.
use Rattle.std.proofs.Common.{◌≡◌, Some, Option, get_or, subst}
use Rattle.std.specs.Prelude.{All, slice_get}
use Rattle.std.proofs.lemmas.Option.{slice_get_within}
use Rattle.schema_types.specs.declared.types.Schema.{Schema}
use Rattle.schema_types.specs.declared.types.Table.{Table}
use Rattle.stats_file.specs.declared.types.TableStats.{TableStats}
use Rattle.stats_file.specs.Parts.{HasColumns}
use Rattle.stats_file.specs.Rules.{IsSection}

equal_if_both_some : {X : Type 0} (a : Option X) (x y : X) → a ≡ Some x → a ≡ Some y → x ≡ y
equal_if_both_some a x y e f = cc

pub have_columns : (schema : Schema) (section : TableStats) (table : Table) → IsSection schema section → slice_get schema.tables section.table ≡ Some table
    → All (HasColumns table) section.pairs
have_columns schema section table keeps is k d lt =
    let same : keeps.table ≡ table = equal_if_both_some (slice_get schema.tables section.table) keeps.table table keeps.table_is is in
    let pair = keeps.pairs k d lt in
    let found : HasColumns keeps.table (get_or section.pairs k d) = (slice_get_within keeps.table.columns (get_or section.pairs k d).filter pair.filter pair.filter_is, pair.joined) in
    subst (λ (t : Table). HasColumns t (get_or section.pairs k d)) same found
