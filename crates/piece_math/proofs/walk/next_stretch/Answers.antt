use Rattle.std.proofs.Common.{◌≡◌, arith, ap, sym, ◌∙◌}
use Rattle.piece_math.specs.declared.pieces.Piece.{Piece}
use Rattle.piece_math.specs.PiecePlaces.{ahead_of}
use Rattle.piece_math.proofs.PiecePlaces.{equal_ahead, places_onward}
use Rattle.piece_math.proofs.walk.next_stretch.Goals as goal

pub returns : goal.returns
returns c =
    let count_left : c.ahead-left.result.count ≡ (ahead_of c.args.a.now c.args.places.left).count = ap (λ (p : Piece). p.count) c.ahead-left.ensures in
    let count_right : c.ahead-right.result.count ≡ (ahead_of c.args.b.now c.args.places.right).count = ap (λ (p : Piece). p.count) c.ahead-right.ensures in
    record {
      some = omega (arith, c.requires.left.inside, c.requires.right.inside, count_left, count_right);
      equal_left = λ k h. equal_ahead c.args.a.now c.args.places.left k (omega (arith, count_left)) ∙ sym (ap (λ (p : Piece). p.value) c.ahead-left.ensures);
      equal_right = λ k h. equal_ahead c.args.b.now c.args.places.right k (omega (arith, count_right)) ∙ sym (ap (λ (p : Piece). p.value) c.ahead-right.ensures);
      next_left = c.place_after.ensures.place;
      next_right = c.place_after-2.ensures.place;
      rest_left = c.place_after.ensures.rest;
      rest_right = c.place_after-2.ensures.rest;
      stays_left = c.place_after.ensures.stays;
      stays_right = c.place_after-2.ensures.stays;
      onward = places_onward c.args.a.now c.args.b.now c.args.places.left c.args.places.right c.place_after.result c.place_after-2.result c.min-count.result
          c.requires.a c.requires.b c.requires.left c.requires.right (rw (← count_left, ← count_right) c.min-count.ensures) c.requires.more
          c.place_after.ensures.stays c.place_after-2.ensures.stays c.place_after.ensures.ends c.place_after-2.ensures.ends;
    }
