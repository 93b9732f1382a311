use Rattle.std.proofs.Common.{map, arith}
use Rattle.std.proofs.lemmas.Grind.{common_steps}
use Rattle.std.specs.String.{string_bytes}
use Rattle.schema_types.proofs.NameIndexes.{place_pushed}
use Rattle.schema_types.proofs.name_list.NameList.push.Goals as goal

pub invariant_of-self-2 : goal.invariant_of-self-2
invariant_of-self-2 c = λ name.
    place_pushed (map string_bytes c.self.inside.names.items) (map string_bytes c.push.new.self.items) c.args.name.now name c.in-Ok.index _ _
    (grind (arith, common_steps)) (grind (arith, common_steps)) (c.self.invariant name) (c.in_ok-note_index.ensures.ok name)
