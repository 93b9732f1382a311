use Rattle.std.proofs.Common.{◌≡◌, ap}
use Rattle.stats_file.specs.FileText.{column_name, name_at}
use Rattle.stats_file.proofs.write.put_names.Goals as goal

pub returns : goal.returns
returns g c =
    let filter : name_at c.args.table.now c.args.pair.now.filter ≡ c.get-filter.result.now.name = ap column_name c.get-filter.ensures in
    let joined : name_at c.args.table.now c.args.pair.now.joined ≡ c.get-joined.result.now.name = ap column_name c.get-joined.ensures in
    rw (filter, joined) (rw (c.as_str.ensures, c.as_str-2.ensures) at c.put_pair_line.ensures)
