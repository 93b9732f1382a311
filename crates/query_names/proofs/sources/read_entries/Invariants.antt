use Rattle.std.proofs.Common.{◌≡◌, map, take, drop, []}
use Rattle.query_names.specs.Names.{entry_of, offences_of_later_sources}
use Rattle.query_names.proofs.sources.read_entries.Given as goal

abbrev pub invariant-all : goal.invariant-all
invariant-all l = record {
  so_far : l.found ≡ map (entry_of l.catalog.schema.now l.text) (take l.source-index l.sources);
  named : l.aliases ≡ map (λ source. source.alias) l.found;
  left : offences_of_later_sources l.catalog.schema.now l.text [] l.sources ≡ offences_of_later_sources l.catalog.schema.now l.text l.aliases (drop l.source-index l.sources);
}
