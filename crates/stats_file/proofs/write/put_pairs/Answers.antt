use Rattle.std.proofs.Common.{refl, arith}
use Rattle.std.specs.List.{concat}
use Rattle.std.proofs.lemmas.Result.{err_from_is_err_and}
use Rattle.base_io.proofs.WriteFacts.{put_with_other_error, put_item, put_item_failed}
use Rattle.stats_file.specs.FileText.{pair_lines}
use Rattle.stats_file.specs.declared.types.PairStats.{PairStats}
use Rattle.stats_file.proofs.write.put_pairs.Goals as goal

pub returns-in_err-put_pair : goal.returns-in_err-put_pair
returns-in_err-put_pair g c =
    let p = err_from_is_err_and c.from_residual.result c.from_residual.ensures.1 in
    put_with_other_error p.1 (put_item_failed (λ (pair : PairStats). concat (pair_lines c.args.table.now pair)) c.args.pairs.now c.pairs.pair-index c.pair-item.result (omega arith) c.pair-item.is refl c.pairs.invariant c.in_err-put_pair.ensures)

pub pairs-preserved : goal.pairs-preserved
pairs-preserved g c = put_item (λ (pair : PairStats). concat (pair_lines c.args.table.now pair)) c.args.pairs.now c.pairs.pair-index c.pair-item.result (omega arith) c.pair-item.is refl c.pairs.invariant c.in_ok-put_pair.ensures
