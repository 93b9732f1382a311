use Rattle.std.proofs.Common.{sym, subst}
use Rattle.sql_meaning.specs.Tables.{tables_of}
use Rattle.stats_file.specs.declared.types.StatsFile.{StatsFile}
use Rattle.stats_file.specs.Rules.{KeepsRules}
use Rattle.stats_file_of_query.specs.Standing.{StandsFor}
use Rattle.stats_file_of_query.proofs.Read.{fits_with_texts}
use Rattle.stats_file_of_query.proofs.Rules.{file_keeps, file_made}
use Rattle.stats_file_of_query.proofs.Standing.{file_stands, share_rows}
use Rattle.stats_file_of_query.proofs.files.stats_of.Goals as goal

pub sections_of-requires-clause-over : goal.sections_of-requires-clause-over
sections_of-requires-clause-over c = fits_with_texts c.args.schema.now c.args.query.now c.args.db.now c.requires.over c.len.ensures.texts c.len.ensures.different

pub returns-clause-file : goal.returns-clause-file
returns-clause-file c = file_made c.args.schema.now c.args.query.now c.args.db.now (fits_with_texts c.args.schema.now c.args.query.now c.args.db.now c.requires.over c.len.ensures.texts c.len.ensures.different) c.args.accuracy c.value.result c.in_ok-tables.tables c.value.ensures.value c.in_ok-tables.ensures

pub returns-clause-rules : goal.returns-clause-rules
returns-clause-rules c =
    subst (KeepsRules c.args.schema.now) (sym (file_made c.args.schema.now c.args.query.now c.args.db.now (fits_with_texts c.args.schema.now c.args.query.now c.args.db.now c.requires.over c.len.ensures.texts c.len.ensures.different) c.args.accuracy c.value.result c.in_ok-tables.tables c.value.ensures.value c.in_ok-tables.ensures))
    (file_keeps c.args.schema.now c.args.query.now c.args.db.now (fits_with_texts c.args.schema.now c.args.query.now c.args.db.now c.requires.over c.len.ensures.texts c.len.ensures.different) c.args.accuracy c.value.ensures.range.0 c.value.ensures.range.1)

pub returns-clause-stands : goal.returns-clause-stands
returns-clause-stands c =
    subst (λ (file : StatsFile). StandsFor c.args.query.now file (tables_of c.args.db.now))
    (sym (file_made c.args.schema.now c.args.query.now c.args.db.now (fits_with_texts c.args.schema.now c.args.query.now c.args.db.now c.requires.over c.len.ensures.texts c.len.ensures.different) c.args.accuracy c.value.result c.in_ok-tables.tables c.value.ensures.value c.in_ok-tables.ensures))
    (file_stands c.args.schema.now c.args.query.now (tables_of c.args.db.now) (share_rows c.args.schema.now c.args.query.now c.args.db.now (fits_with_texts c.args.schema.now c.args.query.now c.args.db.now c.requires.over c.len.ensures.texts c.len.ensures.different)) c.args.accuracy)
