use Rattle.std.proofs.Common.{◌≡◌, ◌<◌, ◌^◌, ◌++◌, List, length, map, take, drop, get_or, refl, ap, ◌∙◌, subst, arith}
use Rattle.std.specs.List.{AllByRecursion}
use Rattle.std.proofs.Math.ListN.{set}
use Rattle.std.proofs.lemmas.List.{take_all}
use Rattle.piece_math.specs.declared.pieces.Piece.{Piece}
use Rattle.safebound_lists.specs.declared.runs.Run.{Run}
use Rattle.safebound_lists.proofs.Writing.{all_written, one_more_run, run_of, value_fits}
use Rattle.safebound_lists.proofs.written.write_runs.Goals as goal

-- a look-up past the end of a list gives this piece
abbrev no_piece : Piece
no_piece = record { value = 0; count = 0 }

pub overflow_cast-into : goal.overflow_cast-into
overflow_cast-into c =
    let fits : (get_or c.pieces-pieces.result.now c.loop-place.place no_piece).value < 2 ^ 64 =
    value_fits (λ x. x < 2 ^ 64) c.pieces-pieces.result.now c.pieces-pieces.ensures.whole.descends
    (subst (AllByRecursion (λ x. x < 2 ^ 64)) c.pieces-pieces.ensures.stands_for c.requires) c.loop-place.place no_piece c.loop-place-test.true in
    omega (arith, fits)

pub loop-place-preserved : goal.loop-place-preserved
loop-place-preserved c =
    let x : Run = run_of (get_or c.pieces-pieces.result.now c.loop-place.place no_piece) in
    ap (λ (s : List Run). set s c.loop-place.place x) c.loop-place.invariant
    ∙ one_more_run c.pieces-pieces.result.now c.args.into.now c.loop-place.place no_piece x c.loop-place-test.true (omega arith) refl

pub returns-clause-done : goal.returns-clause-done
returns-clause-done c =
    let ps : List Piece = c.pieces-pieces.result.now in
    let end : c.loop-place.place ≡ length ps = omega arith in
    all_written c.args.list.now ps c.args.into.now c.loop-place.into (length ps) c.pieces-pieces.ensures.stands_for c.pieces-pieces.ensures.whole.descends refl
    (c.loop-place.invariant
    ∙ ap (λ k. map run_of (take k ps) ++ drop k c.args.into.now) end
    ∙ ap (λ (qs : List Piece). map run_of qs ++ drop (length ps) c.args.into.now) (take_all (length ps) ps (omega arith)))
