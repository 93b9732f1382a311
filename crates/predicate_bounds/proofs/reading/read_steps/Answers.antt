use Rattle.std.proofs.Common.{slice_get, ap, sym, ◌∙◌, List, ℕ, length, arith}
use Rattle.predicate_bounds.proofs.Own.{local_of_length, own_numbers}
use Rattle.predicate_bounds.proofs.reading.read_steps.Goals as goal

pub get-own-requires : goal.get-own-requires
get-own-requires c = omega (arith, local_of_length c.args.query.now, ap (λ (s : List (List ℕ)). length s) c.requires.local, c.requires.entry)

pub read_own-requires : goal.read_own-requires
read_own-requires c =
    c.as_slice.ensures ∙ own_numbers c.args.query.now c.args.from c.get-own.result.now (ap (λ (s : List (List ℕ)). slice_get s c.args.from) (sym c.requires.local) ∙ c.get-own.ensures)
