use Rattle.std.proofs.Common.{refl}
use Rattle.std.specs.Str.{chars}
use Rattle.sql_meaning.proofs.examples.texts.Goals as goal

pub returns : goal.returns
unfolding chars
returns c = record { letters = refl; longer = refl; planes = refl; accent = refl }
