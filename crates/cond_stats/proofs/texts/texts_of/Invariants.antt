use Rattle.std.proofs.Common.{◌≡◌, map, take}
use Rattle.std.specs.List.{All}
use Rattle.cond_stats.specs.Texts.{IsTextOf}
use Rattle.cond_stats.proofs.texts.texts_of.Given as goal

abbrev pub invariant-loop-cell : goal.invariant-loop-cell
invariant-loop-cell l = record {
  cells : map (λ text. text.cell) l.texts.items ≡ take l.cell-index l.cells;
  texts : All (λ text. IsTextOf l.pool text.cell text.text.now) l.texts.items;
}
