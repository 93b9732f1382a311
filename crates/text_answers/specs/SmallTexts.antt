-- The schema and the query that small texts spell.
use Rattle.std.specs.Prelude.{[], ◌∷◌, codes, pos}
use Rattle.query_grammar.specs.declared.tree.Op.TheVariants as op
use Rattle.schema_types.specs.declared.types.Kind.TheVariants as kind
use Rattle.schema_types.specs.declared.types.Schema.{Schema}
use Rattle.query_types.specs.declared.types.Operand.TheVariants as value
use Rattle.query_types.specs.declared.types.Cond.TheVariants as cond
use Rattle.query_types.specs.declared.types.Query.{Query}

-- CREATE TABLE R (X INTEGER NOT NULL);
abbrev pub one_column : Schema
one_column =
    record {
      tables =
          record { name = codes "R"; columns = record { name = codes "X"; kind = kind.Int } ∷ []; keys = []; references = [] } ∷ [];
    }

-- SELECT X FROM R WHERE X = 1
abbrev pub where_x_is_one : Query
where_x_is_one = record {
  from = record { table = 0; alias = codes "R" } ∷ [];
  conjuncts = cond.Compare op.Eq (value.Column (record { from = 0; column = 0 })) (value.Int (pos 1)) ∷ [];
  select = record { column = record { from = 0; column = 0 }; name = codes "X" } ∷ [];
}
