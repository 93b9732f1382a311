use Rattle.std.proofs.Common.{◌≡◌, take}
use Rattle.schema_types.specs.Names.{names_of}
use Rattle.schema_types.proofs.index.name_list.Given as goal

abbrev pub invariant-tokens : goal.invariant-tokens
invariant-tokens l = l.found ≡ names_of l.text (take l.token-index l.tokens)
