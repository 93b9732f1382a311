-- How a line ends a pair or a table before its own words are read.
use Rattle.std.specs.Prelude.{◌≡◌, ◌⊎◌, ⊤, Result, Ok, Err}
use Rattle.stats_reading.specs.declared.draft.Draft.{Draft}
use Rattle.stats_reading.specs.declared.fault.Fault.{Fault}
use Rattle.stats_reading.specs.declared.fault.Fault.TheVariants as fault
use Rattle.stats_reading.specs.declared.stages.Stage.{Stage}
use Rattle.stats_reading.specs.declared.stages.Stage.TheVariants as stage
use Rattle.stats_reading.specs.Drafts.{pair_ended, table_ended, HasAllNodes}

-- t is draft s after its open pair ends, if it has one
abbrev pub PairEnds : Stage → Draft → Draft → Type 0
PairEnds stage.Cuts s t = HasAllNodes s × (t ≡ pair_ended s)
PairEnds stage.Nodes s t = HasAllNodes s × (t ≡ pair_ended s)
PairEnds _ s t = t ≡ s

-- t is draft s after its open table ends, if it has one
abbrev pub TableEnds : Stage → Draft → Draft → Type 0
TableEnds stage.Tables s t = t ≡ s
TableEnds at s t = (m : Draft) × PairEnds at s m × (t ≡ table_ended m)

-- the result of a step that ends a pair or a table: it ended, or it can't end here
abbrev pub Ends : (Draft → Type 0) → Draft → Result (Unit {0}) Fault → Type 0
Ends MayEnd new (Ok done) = MayEnd new
Ends MayEnd new (Err fault.Syntax) = ⊥
Ends MayEnd new (Err fault.Rule) = (t : Draft) → MayEnd t → ⊥
Ends MayEnd new (Err fault.NoMemory) = ⊤

-- the result of a step that first ends a pair or a table, and then reads words
abbrev pub EndsAnd : (Draft → Type 0) → (Draft → Result (Unit {0}) Fault → Type 0) → Result (Unit {0}) Fault → Type 0
EndsAnd MayEnd Then result = ((m : Draft) × MayEnd m × Then m result)
    ⊎ (((t : Draft) → MayEnd t → ⊥) × (result ≡ Err fault.Rule)) ⊎ (result ≡ Err fault.NoMemory)
