-- What a call read, and what it wrote.
use Rattle.std.specs.Prelude.{ℕ, ◌≡◌, List, Option}
use Rattle.base_io.specs.Causes.{Rose}
use Rattle.base_io.specs.Sinks.{appended, GrewByPrefix}
use Rattle.base_io.specs.Devices.{Growth, Reading}
use Rattle.outcomes.specs.declared.status.Status.{Status}

-- a sink took a prefix of a text. If the sink's count of faults didn't rise, it took the whole text
pub record GrewOrWasCut (old new : Option (List ℕ)) (before now : ℕ) (text : List ℕ) : Type 0 where
  pub prefix : GrewByPrefix old new text
  pub whole : (Rose before now → ⊥) → new ≡ appended old text

-- a sink took a prefix of a text, and then a prefix of a line
pub record CutThenTold (old new : Option (List ℕ)) (text line : List ℕ) : Type 0 where
  pub mid : Option (List ℕ)
  pub cut : GrewByPrefix old mid text
  pub told : GrewByPrefix mid new line

-- a call: its words, its status, the store that it read, and the two sinks that it wrote. `demo` reads a store of its own. `run` writes its plan to
-- `notes` and its rows to `out`
pub record Call : Type 0 where
  pub words : List (List ℕ)
  pub status : Status
  pub store : Reading
  pub out : Growth
  pub notes : Growth

-- the sink took exactly the text. If the sink didn't tell its bytes before the call, this says only that it doesn't tell its bytes afterwards
abbrev pub Grew : Growth → List ℕ → Type 0
Grew sink text = sink.taken_after ≡ appended sink.taken_before text
