use Rattle.key_bounds.proofs.AtMost.{set_bounds_at_most}
use Rattle.key_bounds.proofs.laws.keys_only_lower.Goals as goal

pub returns : goal.returns
returns c = λ schema query tables accuracy subset fits. set_bounds_at_most schema query tables accuracy subset fits
