-- A well-typed condition (`IsWellTyped`) names only entries of the database. A comparison is well typed if its operands are of one kind.
use Rattle.std.proofs.Common.{◌<◌, length, refl, subst}
use Rattle.std.specs.List.{All}
use Rattle.csv_tables.specs.declared.types.Database.{Database}
use Rattle.query_grammar.specs.declared.tree.Op.{Op}
use Rattle.query_types.specs.declared.types.Operand.{Operand}
use Rattle.query_types.specs.declared.types.Cond.{Cond, Compare, every-Cond, every_made-Cond}
use Rattle.query_types.specs.declared.types.Cond.TheOpen as layer
use Rattle.query_types.specs.declared.types.Cond.TheVariants.{rolls-Compare}
use Rattle.query_types.specs.Named.{entries_named}
use Rattle.query_types.specs.Typing.{Compares, IsTypedLayer}
use Rattle.query_types.proofs.CondFacts.{entries_typed}
use Rattle.sql_meaning.specs.Databases.{IsWellTyped, IsColumnOfKind}

pub entries_in_database : (db : Database) (cond : Cond) → IsWellTyped db cond → All (λ entry. entry < length db.slots) (entries_named cond)
entries_in_database db = entries_typed (IsColumnOfKind db) (λ entry. entry < length db.slots) (λ column text h. h.exists.entry)

pub same_kinds_are_well_typed : (db : Database) (op : Op) (left right : Operand) → Compares (IsColumnOfKind db) left right → IsWellTyped db (Compare op left right)
same_kinds_are_well_typed db op left right can =
    subst (every-Cond (IsTypedLayer (IsColumnOfKind db))) (rolls-Compare op left right)
    (every_made-Cond (IsTypedLayer (IsColumnOfKind db)) (layer.Compare op left right) (layer.Compare op left right) refl can)
