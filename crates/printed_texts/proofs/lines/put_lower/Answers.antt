use Rattle.std.proofs.Common.{[], ◌∷◌, ℕ, List, map, ap, ◌∙◌, arith}
use Rattle.std.specs.Char.{to_ascii_lowercase}
use Rattle.std.specs.List.{flat_map}
use Rattle.std.proofs.lemmas.List.{take_all}
use Rattle.std.proofs.lemmas.List.Concat.{flat_map_single}
use Rattle.std.proofs.lemmas.Result.{err_from_is_err_and}
use Rattle.base_io.proofs.WriteFacts.{put_equal_text, put_with_other_error, put_part, put_part_failed}
use Rattle.printed_texts.proofs.lines.put_lower.Goals as goal

abbrev lower : ℕ → List ℕ
lower b = to_ascii_lowercase b ∷ []

pub returns-in_err-put : goal.returns-in_err-put
returns-in_err-put g c =
    let p = err_from_is_err_and c.from_residual.result c.from_residual.ensures.1 in
    put_with_other_error p.1 (put_equal_text (map to_ascii_lowercase c.args.name.now) (flat_map_single to_ascii_lowercase c.args.name.now)
    (put_part_failed lower c.args.name.now c.bytes.byte-index 0 (omega arith) c.bytes.invariant (rw c.to_ascii_lowercase.ensures.value at c.in_err-put.ensures)))

pub bytes-preserved : goal.bytes-preserved
bytes-preserved g c =
    put_part lower c.args.name.now c.bytes.byte-index 0 (omega arith) c.bytes.invariant (rw c.to_ascii_lowercase.ensures.value at c.in_ok-put.ensures)

pub returns : goal.returns
returns g c =
    put_equal_text (map to_ascii_lowercase c.args.name.now)
    (ap (flat_map lower) (take_all c.bytes.byte-index c.args.name.now (omega arith)) ∙ flat_map_single to_ascii_lowercase c.args.name.now) c.bytes.invariant
