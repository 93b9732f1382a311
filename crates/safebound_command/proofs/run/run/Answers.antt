use Rattle.std.proofs.Common.{◌≡◌, ℕ, List, [], take, map, arith, refl}
use Rattle.std.specs.Borrow.{Bor}
use Rattle.std.proofs.lemmas.Grind.{common_steps}
use Rattle.prepared_runs.specs.Shops.{demo_number_of}
use Rattle.slice_devices.specs.Slices.{files_of}
use Rattle.safebound_command.specs.Command.{store_of_files}
use Rattle.safebound_command.proofs.SameRooms.{begun_empty, same_rooms}
use Rattle.safebound_command.proofs.run.run.Goals as goal

pub returns-clause-same_out : goal.returns-clause-same_out
returns-clause-same_out c =
    (same_rooms _ c.safebound.result _ _ _ _ _ _ _ _ _ _ _ _ _ _ (files_of c.args.store.now.files.now) refl c.safebound.ensures.headline).0

pub returns-clause-same_notes : goal.returns-clause-same_notes
returns-clause-same_notes c =
    (same_rooms _ c.safebound.result _ _ _ _ _ _ _ _ _ _ _ _ _ _ (files_of c.args.store.now.files.now) refl c.safebound.ensures.headline).1

pub returns-clause-headline : goal.returns-clause-headline
returns-clause-headline c =
    let words = map (λ (w : Bor (List ℕ)). w.now) c.args.words.now in
    let before = c.args.store.now in
    let after = c.safebound.new.store in
    let store = store_of_files (files_of before.files.now) (files_of after.files.now) before.misses after.misses in
    let out : take c.args.out.now.used c.args.out.now.room.now ≡ [] = grind (arith, common_steps) in
    let notes : take c.args.notes.now.used c.args.notes.now.room.now ≡ [] = grind (arith, common_steps) in
    begun_empty words c.safebound.result (demo_number_of words) store _ _ _ _ _ _ _ _ _ _ _ _ out c.requires.out.1 notes c.requires.notes.1 c.safebound.ensures.headline
