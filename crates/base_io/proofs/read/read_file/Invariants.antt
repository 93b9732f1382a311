use Rattle.std.proofs.Common.{◌≡◌, ◌≤◌, length}
use Rattle.base_io.specs.Files.{AreFirstBytes, answer_about}
use Rattle.base_io.proofs.read.read_file.Given as goal

abbrev pub invariant-rounds : goal.invariant-rounds
invariant-rounds g l = record {
  rounds : l._round ≤ length l.items.items;
  within : length l.items.items ≤ l.limit;
  later : g.S.Store.faults l.initial.store ≤ g.S.Store.faults l.store;
  same : g.S.Store.files l.store ≡ g.S.Store.files l.initial.store;
  misses : g.S.Store.misses l.store ≡ g.S.Store.misses l.initial.store;
  first : length l.items.items ≡ 0 → g.S.Store.faults l.store ≡ g.S.Store.faults l.initial.store;
  front : AreFirstBytes (answer_about (g.S.Store.files l.initial.store) l.name) l.items.items;
}
