use Rattle.std.proofs.Common.{length, ap, arith}
use Rattle.std.proofs.lemmas.List.FromFn.{length-range_with_len}
use Rattle.key_carriers.specs.Cells.{cells_found}
use Rattle.key_carriers.specs.declared.key_rows.KeyRows.{KeyRows}
use Rattle.key_carriers.proofs.key_rows.KeyRows.row_of.Goals as goal

pub place_from-requires : goal.place_from-requires
place_from-requires c = record {
  within_limit = omega (
    arith,
    c.requires.within_limit,
    ap (λ (key : KeyRows). length (cells_found key)) c.in-Ascending.is,
    length-range_with_len c.in-Ascending.first c.in-Ascending.rows,
  );
}
