use Rattle.schema_types.proofs.Valid.{declares_valid}
use Rattle.stats_answers.proofs.ByteNames.{declared_bytes}
use Rattle.stats_answers.proofs.StatsAnswers.{written_file_is_read}
use Rattle.std.proofs.Common.{refl}
use Rattle.stats_file.specs.FileText.{file_text}
use Rattle.stats_reading.proofs.ByteFacts.{file_bytes}
use Rattle.stats_reading.proofs.OneFile.{answers_file}
use Rattle.safebound_laws.proofs.from_files.files_of_declared_schemas_are_read.Goals as goal

pub returns-clause-answered : goal.returns-clause-answered
returns-clause-answered c = λ text schema file declared keeps. written_file_is_read schema file (declares_valid text schema declared) (declared_bytes text schema declared) keeps

pub returns-clause-read : goal.returns-clause-read
returns-clause-read c = λ text schema file answer declared keeps answers.
    let good = declares_valid text schema declared in
    answers_file schema file (file_text schema file) answer good (file_bytes schema file good (declared_bytes text schema declared) keeps) keeps refl answers
