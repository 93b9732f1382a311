use Rattle.std.proofs.Common.{List, ℕ, refl, arith}
use Rattle.std.proofs.lemmas.Result.{err_from_is_err_and}
use Rattle.base_io.proofs.WriteFacts.{put_with_other_error, put_item, put_item_failed}
use Rattle.stats_file.specs.Lines.{frequent_line}
use Rattle.stats_file.specs.declared.types.Datum.{Datum}
use Rattle.stats_file.specs.Runs.{runs_of}
use Rattle.stats_file.proofs.write.put_frequent.Goals as goal

pub returns-in_err-put_frequent_line : goal.returns-in_err-put_frequent_line
returns-in_err-put_frequent_line g c =
    let p = err_from_is_err_and c.from_residual.result c.from_residual.ensures.1 in
    put_with_other_error p.1 (put_item_failed (λ (f : Datum × List ℕ). frequent_line f.0 (runs_of f.1)) c.args.frequent.now c.frequent.value-index c.value-item.result (omega arith) c.value-item.is refl c.frequent.invariant c.in_err-put_frequent_line.ensures)

pub frequent-preserved : goal.frequent-preserved
frequent-preserved g c = put_item (λ (f : Datum × List ℕ). frequent_line f.0 (runs_of f.1)) c.args.frequent.now c.frequent.value-index c.value-item.result (omega arith) c.value-item.is refl c.frequent.invariant c.in_ok-put_frequent_line.ensures
