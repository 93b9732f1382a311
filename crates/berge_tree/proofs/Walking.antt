-- The specification matches on `suc depth`, and the code subtracts one. Both make the same step.
use Rattle.std.proofs.Common.{◌≡◌, ℕ, zero, suc, ◌-◌, ◌≤◌, List, ap, arith}
use Rattle.std.specs.Prelude.{Option}
use Rattle.berge_tree.specs.declared.columns.Column.{Column}
use Rattle.berge_tree.specs.Walk.{classes_below, classes_at}

pub walked_next : (depth : ℕ) (columns : List Column) (entry : ℕ) (above : Option ℕ) → 1 ≤ depth → classes_at (depth - 1) columns 0 entry above ≡ classes_below depth columns entry above
walked_next zero columns entry above h = absurd (omega arith)
walked_next (suc depth) columns entry above h = let less : suc depth - 1 ≡ depth = omega arith in ap (λ d. classes_at d columns 0 entry above) less
