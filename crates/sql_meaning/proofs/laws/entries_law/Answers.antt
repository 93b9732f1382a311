use Rattle.std.proofs.Common.{◌∙◌}
use Rattle.std.proofs.lemmas.List.Folds.{flat_map-map}
use Rattle.query_types.specs.Named.{entries_named}
use Rattle.query_types.proofs.CondFacts.{entries_and, entries_or, entries_not, entries_compare}
use Rattle.sql_meaning.proofs.NamedFacts.{entries_in_database}
use Rattle.sql_meaning.proofs.laws.entries_law.Goals as goal

pub returns : goal.returns
returns c = record {
  and = λ all. entries_and all ∙ flat_map-map (λ inner. inner) entries_named all;
  or = λ any. entries_or any ∙ flat_map-map (λ inner. inner) entries_named any;
  not = entries_not;
  compare = entries_compare;
  are_in_database = entries_in_database;
}
