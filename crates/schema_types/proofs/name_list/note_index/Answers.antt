use Rattle.std.proofs.Common.{◌≡◌, ◌∙◌, true, is_none, arith}
use Rattle.std.proofs.lemmas.Grind.{common_steps}
use Rattle.std.proofs.lemmas.Map.Text.{hash_map_updates_text}
use Rattle.std.specs.HashMap.{get_by_text}
use Rattle.std.specs.String.{string_bytes}
use Rattle.schema_types.proofs.NameIndexes.{place_added}
use Rattle.schema_types.proofs.name_list.note_index.Goals as goal

pub returns-in_ok-insert-clause-ok : goal.returns-in_ok-insert-clause-ok
returns-in_ok-insert-clause-ok c = λ other.
    let none : is_none (get_by_text c.args.indexes.now c.args.name.now) ≡ true = grind (arith, common_steps) in
    rw c.in_ok-from_str.ensures.ok at (hash_map_updates_text (string_bytes c.in_ok-from_str.field-0) c.args.indexes.now c.insert.new.self _ c.in_ok-insert.ensures.updates other)
    ∙ place_added (get_by_text c.args.indexes.now) c.args.name.now other c.args.index none
