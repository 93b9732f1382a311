-- What a step that writes guarantees.
use Rattle.std.specs.Prelude.{ℕ, ◌≡◌, ◌≤◌, List, ◌++◌, Result, OnOk, OnErr}
use Rattle.base_io.specs.Causes.{Rose}
use Rattle.base_io.specs.Sinks.{appended, GrewByPrefix, TookBut}
use Rattle.base_io.specs.declared.errors.Failed.{Failed}
use Rattle.base_io.specs.Devices.{Growth}

-- If the step succeeds, the sink has taken `text`. If the step fails, the sink has taken a prefix of `text`, and the count of faults has risen. The
-- count never decreases.
pub record Wrote (sink : Growth) (text : List ℕ) (result : Result (Unit {0}) Failed) : Type 0 where
  pub ok : OnOk result (sink.taken_after ≡ appended sink.taken_before text)
  pub prefix : GrewByPrefix sink.taken_before sink.taken_after text
  pub later : sink.faults_before ≤ sink.faults_after
  pub failed : OnErr result (Rose sink.faults_before sink.faults_after)

-- the same guarantee for a step that writes through a buffer. `waiting` are the bytes in the buffer before the step, and `left` are its
-- bytes after the step
pub record WroteBuffered (sink : Growth) (waiting left text : List ℕ) (result : Result (Unit {0}) Failed) : Type 0 where
  pub ok : OnOk result (TookBut sink.taken_before sink.taken_after left (waiting ++ text))
  pub prefix : GrewByPrefix sink.taken_before sink.taken_after (waiting ++ text)
  pub later : sink.faults_before ≤ sink.faults_after
  pub failed : OnErr result (Rose sink.faults_before sink.faults_after)
