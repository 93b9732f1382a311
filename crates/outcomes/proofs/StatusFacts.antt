-- These lemmas say which failure a status comes from.
use Rattle.std.proofs.Common.{◌≡◌, ◌≢◌}
use Rattle.outcomes.specs.Statuses.{status_of_failure}
use Rattle.outcomes.specs.declared.failure.Failure.{Failure}
use Rattle.outcomes.specs.declared.failure.Failure.TheVariants as failure
use Rattle.outcomes.specs.declared.names.FileId.{FileId}
use Rattle.outcomes.specs.declared.names.SinkId.{SinkId}
use Rattle.outcomes.specs.declared.refusal.Refusal.{Refusal}
use Rattle.outcomes.specs.declared.status.Status.TheVariants as status

pub ended_refused : (e : Failure) (r : Refusal) → status_of_failure e ≡ status.Refused r → e ≡ failure.Refused r
ended_refused (failure.Refused s) r h = cc
ended_refused (failure.Fault file) r h = cc
ended_refused failure.NoMemory r h = cc

pub ended_fault : (e : Failure) (file : FileId) → status_of_failure e ≡ status.ReadFault file → e ≡ failure.Fault file
ended_fault (failure.Refused r) file h = cc
ended_fault (failure.Fault f) file h = cc
ended_fault failure.NoMemory file h = cc

pub ended_not_done : (e : Failure) → status_of_failure e ≢ status.Done
ended_not_done (failure.Refused r) h = cc
ended_not_done (failure.Fault f) h = cc
ended_not_done failure.NoMemory h = cc

pub ended_without_write_fault : (e : Failure) (sink : SinkId) → status_of_failure e ≢ status.WriteFault sink
ended_without_write_fault (failure.Refused r) sink h = cc
ended_without_write_fault (failure.Fault f) sink h = cc
ended_without_write_fault failure.NoMemory sink h = cc
