use Rattle.std.proofs.Common.{◌≡◌, ◌-◌, arith, refl, w64}
use Rattle.std.specs.Int.{leading_zeros}
use Rattle.piece_compress.specs.BinaryDigits.{binary_digits}
use Rattle.piece_compress.proofs.DigitCounts.{digits_counted}
use Rattle.base_tests.proofs.lists.pieces_at_most.Goals as goal

pub returns : goal.returns
returns c =
    let digits : 64 - leading_zeros w64 c.args.first ≡ binary_digits c.args.first =
    omega (arith, digits_counted c.args.first (leading_zeros w64 c.args.first) c.ranges.first.fits refl) in
    rw (c.from.ensures, c.value.ensures.value, digits) refl
