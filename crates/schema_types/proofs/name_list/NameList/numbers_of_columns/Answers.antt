use Rattle.std.proofs.Common.{◌≡◌, ◌∙◌, ap, map, arith}
use Rattle.std.specs.String.{string_bytes}
use Rattle.std.proofs.lemmas.Grind.{common_steps}
use Rattle.schema_types.specs.Numbers.{number_of_name}
use Rattle.schema_types.proofs.name_list.NameList.numbers_of_columns.Goals as goal

pub returns : goal.returns
returns c =
    let all : c.names.found ≡ map (number_of_name c.args.declared.now) (map string_bytes c.self.inside.names.items) = grind (arith, common_steps) in
    all ∙ ap (map (number_of_name c.args.declared.now)) c.self.view_is
