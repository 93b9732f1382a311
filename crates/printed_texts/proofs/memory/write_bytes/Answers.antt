use Rattle.base_io.proofs.WriteFacts.{wrote_with_last_flush}
use Rattle.printed_texts.proofs.memory.write_bytes.Goals as goal

pub returns : goal.returns
returns g c = wrote_with_last_flush c.new-buffer.ensures c.in_ok-put_bytes.ensures c.flush.ensures.wrote
