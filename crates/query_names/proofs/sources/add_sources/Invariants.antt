use Rattle.std.proofs.Common.{◌≡◌, ◌++◌, ◌∷◌, map, take}
use Rattle.query_names.proofs.sources.add_sources.Given as goal

abbrev pub invariant-all : goal.invariant-all
invariant-all l = l.found ≡ l.fn.found ++ (l.part.first ∷ map (λ join. join.source) (take l.join-index l.part.joins))
