use Rattle.std.proofs.Common.{sym}
use Rattle.std.proofs.lemmas.List.Elements.{recursion_from_All}
use Rattle.stats_file_bounds.specs.Found.{are_columns}
use Rattle.stats_file_bounds.proofs.Finding.{found_one}
use Rattle.stats_file_bounds.proofs.Small.{pair_within, IsWithin}
use Rattle.stats_file_bounds.proofs.entry.list_of_range.Goals as goal

pub list_within-requires : goal.list_within-requires
list_within-requires c =
    (found_one (IsWithin c.args.section.now.rows) (are_columns c.args.range.now.column c.paired_with.result) c.args.section.now.pairs c.in-Some.pair.now
    (recursion_from_All (IsWithin c.args.section.now.rows) c.args.section.now.pairs (pair_within c.args.section.now c.requires)) (sym c.in-Some.ensures)).cuts
