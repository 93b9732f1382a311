use Rattle.safebound_words.proofs.Readings as readings
use Rattle.safebound_words.proofs.laws.one_reading.Goals as goal

pub returns : goal.returns
returns c = readings.one_reading
