use Rattle.std.proofs.Common.{refl}
use Rattle.stats_file.specs.FileText.{file_text}
use Rattle.stats_reading.proofs.ByteFacts.{file_bytes}
use Rattle.stats_reading.proofs.OneFile.{answers_file}
use Rattle.stats_reading.proofs.laws.a_written_file_is_read.Goals as goal

pub returns : goal.returns
returns c = λ schema file answer good columns keeps h.
    answers_file schema file (file_text schema file) answer good (file_bytes schema file good columns keeps) keeps refl h
