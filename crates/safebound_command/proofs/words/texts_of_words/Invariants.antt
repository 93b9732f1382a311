use Rattle.std.proofs.Common.{◌≡◌, ◌≤◌, List, ℕ, length, map, take}
use Rattle.std.specs.Borrow.{Bor}
use Rattle.safebound_command.proofs.words.texts_of_words.Given as goal

abbrev pub invariant-words : goal.invariant-words
invariant-words l = (map (λ (t : Bor (List ℕ)). t.now) l.all.items ≡ map (λ (w : Bor (List ℕ)). w.now) (take l.word-index l.words)) × (length l.words ≤ 16)
