use Rattle.std.proofs.Common.{◌≡◌, take}
use Rattle.std.specs.List.{flat_map}
use Rattle.query_names.specs.Names.{sources_of}
use Rattle.query_names.proofs.sources.all_sources.Given as goal

abbrev pub invariant-all : goal.invariant-all
invariant-all l = l.found ≡ flat_map sources_of (take l.part-index l.parts)
