use Rattle.key_bounds.proofs.InParts.{depends_on_parts}
use Rattle.key_bounds.proofs.laws.keys_look_at_parts.Goals as goal

pub returns : goal.returns
returns c = λ schema query tables accuracy named. depends_on_parts schema query tables accuracy named
