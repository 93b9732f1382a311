use Rattle.std.proofs.Common.{◌≡◌, ◌∙◌, true, is_some, option_map, arith}
use Rattle.schema_types.specs.Declarations.{primary_key, element_primary_key}
use Rattle.schema_types.specs.Names.{first, names_of}
use Rattle.schema_types.proofs.Keys.{key_found}
use Rattle.schema_types.proofs.index.primary_key.Goals as goal

pub returns-then-is_some : goal.returns-then-is_some
unfolding primary_key
returns-then-is_some c =
    let some : is_some (option_map (names_of c.args.text.now) (first (element_primary_key c.element-item.result))) ≡ true = grind arith in
    c.in_ok-key.ensures
    ∙ key_found element_primary_key (names_of c.args.text.now) c.args.elements.now c.elements.element-index c.element-item.result
    c.elements.invariant (omega arith) c.element-item.is some
