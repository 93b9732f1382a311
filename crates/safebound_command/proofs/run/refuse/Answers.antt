use Rattle.std.proofs.Common.{◌≡◌, ◌<◌, ℕ, List, [], length, map, take, arith}
use Rattle.std.proofs.lemmas.Grind.{common_steps}
use Rattle.std.proofs.lemmas.List.{length-map}
use Rattle.std.specs.Borrow.{Bor}
use Rattle.slice_devices.specs.Slices.{files_of}
use Rattle.safebound_command.proofs.Refusing.{too_many_words_are_refused, told_name, told_stream}
use Rattle.safebound_command.proofs.run.refuse.Goals as goal

pub returns-clause-same_notes : goal.returns-clause-same_notes
returns-clause-same_notes c = told_name _ _ _ _ _ _ _ c.refuse_words.ensures.told

pub returns-clause-headline : goal.returns-clause-headline
returns-clause-headline c =
    let words = map (λ (w : Bor (List ℕ)). w.now) c.args._words.now in
    let many : 16 < length words = omega (arith, c.requires.many, length-map c.args._words.now (λ (w : Bor (List ℕ)). w.now)) in
    let notes : take c.args.notes.now.used c.args.notes.now.room.now ≡ [] = grind (arith, common_steps) in
    too_many_words_are_refused words (files_of c.args._files.now) c.refuse_words.result _ many c.refuse_words.ensures.status
    (told_stream _ _ _ _ _ _ _ c.refuse_words.ensures.told notes c.requires.notes.1)
