use Rattle.std.proofs.Common.{arith}
use Rattle.stats_file_of_query.proofs.Made.{column_in_columns, its_cells, column_length, its_kind, made_cuts, made_frequent, pair_made, sorted_length, sorted_kind}
use Rattle.stats_file_of_query.proofs.pairs.pair_stats_of.Goals as goal

pub get-requires : goal.get-requires
get-requires c = column_in_columns c.args.pool.now c.args.cells.now c.requires.cells c.args.joined c.requires.joined

pub gather_sorted-requires-clause-kind : goal.gather_sorted-requires-clause-kind
gather_sorted-requires-clause-kind c =
    sorted_kind c.args.pool.now c.args.cells.now c.requires.cells c.args.filter c.args.joined c.args.sorted.now c.requires.sorted c.requires.joined c.get-kind.result.now
    (its_kind c.args.pool.now c.args.cells.now c.requires.cells c.args.filter c.requires.sorted.exists c.get-kind.result.now c.get-kind.ensures) c.as_slice-keys.result.now
    (its_cells c.args.pool.now c.args.cells.now c.requires.cells c.args.joined c.requires.joined c.get.result.now c.as_slice-keys.result.now c.get.ensures c.as_slice-keys.ensures) c.args.accuracy

pub gather_sorted-requires-clause-joined : goal.gather_sorted-requires-clause-joined
gather_sorted-requires-clause-joined c =
    sorted_length c.args.pool.now c.args.cells.now c.requires.cells c.args.filter c.args.joined c.args.sorted.now c.requires.sorted c.requires.joined c.get-kind.result.now
    (its_kind c.args.pool.now c.args.cells.now c.requires.cells c.args.filter c.requires.sorted.exists c.get-kind.result.now c.get-kind.ensures) c.as_slice-keys.result.now
    (its_cells c.args.pool.now c.args.cells.now c.requires.cells c.args.joined c.requires.joined c.get.result.now c.as_slice-keys.result.now c.get.ensures c.as_slice-keys.ensures) c.args.accuracy

pub gather_sorted-requires-clause-rows : goal.gather_sorted-requires-clause-rows
gather_sorted-requires-clause-rows c =
    omega (
      arith,
      column_length c.args.pool.now c.args.cells.now c.requires.cells c.args.joined c.requires.joined c.as_slice-keys.result.now
          (its_cells c.args.pool.now c.args.cells.now c.requires.cells c.args.joined c.requires.joined c.get.result.now c.as_slice-keys.result.now c.get.ensures c.as_slice-keys.ensures),
      c.row_count-rows.ensures,
      c.row_count-rows.type_inv,
    )

pub frequent_values-requires : goal.frequent_values-requires
frequent_values-requires c =
    made_frequent c.args.pool.now c.args.cells.now c.requires.cells c.args.filter c.args.joined c.args.sorted.now c.requires.sorted c.requires.joined c.get-kind.result.now
    (its_kind c.args.pool.now c.args.cells.now c.requires.cells c.args.filter c.requires.sorted.exists c.get-kind.result.now c.get-kind.ensures) c.as_slice-keys.result.now
    (its_cells c.args.pool.now c.args.cells.now c.requires.cells c.args.joined c.requires.joined c.get.result.now c.as_slice-keys.result.now c.get.ensures c.as_slice-keys.ensures) c.args.accuracy
    c.in_ok-stats.stats c.as_slice.result.now c.in_ok-stats.ensures c.as_slice.ensures

pub cut_values-requires : goal.cut_values-requires
cut_values-requires c =
    made_cuts c.args.pool.now c.args.cells.now c.requires.cells c.args.filter c.args.joined c.args.sorted.now c.requires.sorted c.requires.joined c.get-kind.result.now
    (its_kind c.args.pool.now c.args.cells.now c.requires.cells c.args.filter c.requires.sorted.exists c.get-kind.result.now c.get-kind.ensures) c.as_slice-keys.result.now
    (its_cells c.args.pool.now c.args.cells.now c.requires.cells c.args.joined c.requires.joined c.get.result.now c.as_slice-keys.result.now c.get.ensures c.as_slice-keys.ensures) c.args.accuracy
    c.in_ok-stats.stats c.as_slice-2.result.now c.in_ok-stats.ensures c.as_slice-2.ensures

pub returns : goal.returns
returns c =
    pair_made c.args.pool.now c.args.cells.now c.requires.cells c.args.filter c.args.joined c.args.sorted.now c.requires.sorted c.requires.joined c.get-kind.result.now
    (its_kind c.args.pool.now c.args.cells.now c.requires.cells c.args.filter c.requires.sorted.exists c.get-kind.result.now c.get-kind.ensures) c.as_slice-keys.result.now
    (its_cells c.args.pool.now c.args.cells.now c.requires.cells c.args.joined c.requires.joined c.get.result.now c.as_slice-keys.result.now c.get.ensures c.as_slice-keys.ensures) c.args.accuracy
    c.in_ok-stats.stats c.as_slice.result.now c.as_slice-2.result.now c.in_ok-frequent.frequent c.in_ok-cuts.cuts c.in_ok-stats.ensures c.as_slice.ensures c.as_slice-2.ensures
    c.in_ok-frequent.ensures c.in_ok-cuts.ensures
