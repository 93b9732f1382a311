use Rattle.safebound_laws.proofs.DemoWords.{demo_as_audit}
use Rattle.safebound_laws.proofs.laws.demo_is_an_audit.Goals as goal

pub returns : goal.returns
returns c = demo_as_audit
