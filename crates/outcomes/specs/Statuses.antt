-- The status of a failure, and the exit status of a process.
use Rattle.std.specs.Prelude.{ℕ}
use Rattle.outcomes.specs.declared.failure.Failure.{Failure}
use Rattle.outcomes.specs.declared.failure.Failure.TheVariants as failure
use Rattle.outcomes.specs.declared.refusal.Refusal.{Refusal}
use Rattle.outcomes.specs.declared.refusal.Refusal.TheVariants as refusal
use Rattle.outcomes.specs.declared.status.Status.{Status}
use Rattle.outcomes.specs.declared.status.Status.TheVariants as status

-- the status of a failure
abbrev pub status_of_failure : Failure → Status
status_of_failure (failure.Refused r) = status.Refused r
status_of_failure (failure.Fault file) = status.ReadFault file
status_of_failure failure.NoMemory = status.NoMemory

-- the exit status of a refusal. An absent file has the exit status of a failed read
abbrev pub code_of_refusal : Refusal → ℕ
code_of_refusal refusal.Usage = 2
code_of_refusal (refusal.Missing file) = 3
code_of_refusal (refusal.Schema cause at) = 4
code_of_refusal (refusal.Query cause at) = 5
code_of_refusal (refusal.Table table cause) = 6
code_of_refusal (refusal.Limit which file found) = 7
code_of_refusal (refusal.Budget least) = 8
code_of_refusal refusal.PastBits = 9
code_of_refusal (refusal.Stats cause at) = 14
code_of_refusal (refusal.MemoryLimit bytes) = 16

abbrev pub code_of : Status → ℕ
code_of status.Done = 0
code_of (status.Refused r) = code_of_refusal r
code_of (status.ReadFault file) = 3
code_of (status.WriteFault sink) = 10
code_of status.NoMemory = 11
