use Rattle.std.proofs.Common.{ℕ, List, subst, ◌∙◌}
use Rattle.std.proofs.lemmas.Result.{IfOk-weaker}
use Rattle.berge_tree.specs.declared.edges.Edge.{Edge}
use Rattle.schema_types.specs.declared.types.Schema.{Schema}
use Rattle.sql_meaning.specs.Tables.{Tables, tables_of}
use Rattle.planning.specs.Bounds.{scan_bounds_of}
use Rattle.planning.specs.HasBounds.{HasBounds}
use Rattle.key_stats.specs.Carrying.{HaveCarriedBounds}
use Rattle.key_bounds.specs.Bounds.{set_bounds_by_keys}
use Rattle.key_bounds.specs.TableStats.{AreStatsByKeys}
use Rattle.key_bounds.proofs.CarriedOver.{carriers_joined, entries_named}
use Rattle.key_bounds.proofs.sources.from_keys.Goals as goal

pub carrying_equalities-requires-clause-named : goal.carrying_equalities-requires-clause-named
carrying_equalities-requires-clause-named c = entries_named c.args.query.now c.args.db.now c.requires.database

pub carried_along-requires-clause-joined : goal.carried_along-requires-clause-joined
carried_along-requires-clause-joined c = carriers_joined c.args.schema.now c.args.query.now c.in_ok-edges.edges c.as_slice.result.now c.in_ok-edges.ensures c.as_slice.ensures

pub from_carried-requires-clause-named : goal.from_carried-requires-clause-named
from_carried-requires-clause-named c = entries_named c.args.query.now c.args.db.now c.requires.database

pub from_carried-requires-clause-told : goal.from_carried-requires-clause-told
from_carried-requires-clause-told c = record {
  schema = c.args.schema.now;
  tables = tables_of c.args.db.now;
  accuracy = c.args.accuracy;
  tell = record {
    own = c.in_ok-stats.ensures.tells;
    along = subst (λ (es : List Edge). HaveCarriedBounds c.args.query.now (tables_of c.args.db.now) c.args.accuracy es c.in_ok-carried.carried) (c.as_slice.ensures ∙ c.in_ok-edges.ensures) c.in_ok-carried.ensures;
  };
}

pub returns : goal.returns
returns c =
    IfOk-weaker c.from_carried.result
    (λ known. (schema : Schema) (tables : Tables) (accuracy : ℕ) → AreStatsByKeys schema c.args.query.now tables accuracy c.in_ok-stats.stats c.in_ok-carried.carried
    → HasBounds (set_bounds_by_keys schema c.args.query.now tables accuracy) (scan_bounds_of c.args.query.now tables accuracy) known)
    (HasBounds (set_bounds_by_keys c.args.schema.now c.args.query.now (tables_of c.args.db.now) c.args.accuracy) (scan_bounds_of c.args.query.now (tables_of c.args.db.now) c.args.accuracy))
    (λ known gives. gives c.args.schema.now (tables_of c.args.db.now) c.args.accuracy (record {
      own = c.in_ok-stats.ensures.tells;
      along = subst (λ (es : List Edge). HaveCarriedBounds c.args.query.now (tables_of c.args.db.now) c.args.accuracy es c.in_ok-carried.carried) (c.as_slice.ensures ∙ c.in_ok-edges.ensures) c.in_ok-carried.ensures;
    })) c.from_carried.ensures
