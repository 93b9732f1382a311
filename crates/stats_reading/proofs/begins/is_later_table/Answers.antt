use Rattle.std.proofs.Common.{◌∙◌, length, sym}
use Rattle.std.proofs.lemmas.Bool.{lt-ltb, ltb-true}
use Rattle.stats_reading.proofs.Ascending.{positive_if_not_zero, later_than_last_table}
use Rattle.stats_reading.proofs.begins.is_later_table.Goals as goal

pub returns : goal.returns
returns c =
    let same = later_than_last_table c.args.tables.now c.args.place c.index-tables-tables.result (positive_if_not_zero (length c.args.tables.now) (sym c.is_empty.ensures ∙ c.if-is_empty.false)) c.requires in
    (λ t. same.0 (ltb-true _ _ t), λ all. lt-ltb _ _ (same.1 all))
