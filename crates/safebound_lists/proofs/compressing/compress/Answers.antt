use Rattle.std.proofs.Common.{◌≡◌, ℕ, List, length, ap, ◌∙◌, subst, arith}
use Rattle.std.specs.Prelude.{IfOk}
use Rattle.degree_sequences.specs.Compression.{compressed}
use Rattle.degree_sequences.specs.Runs.{runs as runs_in}
use Rattle.safebound_lists.specs.Causes.{IsCompressCause}
use Rattle.safebound_lists.specs.Runs.{MayBeCompressed, list_of}
use Rattle.safebound_lists.specs.Written.{IsWritten}
use Rattle.safebound_lists.proofs.Small.{fits_within}
use Rattle.safebound_lists.proofs.Writing.{room_refusal_is_cause, on_ok_of_proof}
use Rattle.safebound_lists.proofs.compressing.compress.Goals as goal

pub write_runs-requires : goal.write_runs-requires
write_runs-requires c = fits_within c.in_ok-few.few (omega (arith, c.in_ok-few.ensures.sum, c.in_ok-list.ensures.small))

pub returns-clause-done : goal.returns-clause-done
returns-clause-done c =
    let same : c.in_ok-few.few ≡ compressed c.args.accuracy (list_of c.args.runs.now) =
    c.in_ok-few.ensures.compressed ∙ ap (λ (a : ℕ). compressed a c.in_ok-list.list) c.of.ensures ∙ ap (compressed c.args.accuracy) c.in_ok-list.ensures.pieces in
    subst (λ (s : List ℕ). IfOk c.write_runs.result (IsWritten s c.args.into.now c.write_runs.new.into)) same c.write_runs.ensures.done

pub returns-clause-refused : goal.returns-clause-refused
returns-clause-refused c =
    let same : c.in_ok-few.few ≡ compressed c.args.accuracy (list_of c.args.runs.now) =
    c.in_ok-few.ensures.compressed ∙ ap (λ (a : ℕ). compressed a c.in_ok-list.list) c.of.ensures ∙ ap (compressed c.args.accuracy) c.in_ok-list.ensures.pieces in
    let may : MayBeCompressed c.args.runs.now c.args.accuracy = record { positive = omega arith; most = omega arith; valid = c.in_default.ensures } in
    room_refusal_is_cause (IsCompressCause c.args.runs.now c.args.accuracy (length c.args.into.now)) (runs_in c.in_ok-few.few) (length c.args.into.now)
    (λ n is low. (may, is ∙ ap runs_in same, omega (arith, ap runs_in same, low))) c.write_runs.result c.write_runs.ensures.refused

pub returns-clause-valid : goal.returns-clause-valid
returns-clause-valid c =
    let may : MayBeCompressed c.args.runs.now c.args.accuracy = record { positive = omega arith; most = omega arith; valid = c.in_default.ensures } in
    on_ok_of_proof c.write_runs.result may
