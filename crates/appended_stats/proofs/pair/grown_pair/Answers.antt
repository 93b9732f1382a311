use Rattle.std.proofs.Common.{◌∙◌}
use Rattle.std.proofs.lemmas.Result.{err_from_is_err_and}
use Rattle.stats_file_of_query.proofs.Made.{column_in_columns}
use Rattle.appended_stats.proofs.PairMade.{all_cells, are_read, same_lengths, as_many, fewer_than_2_32, fewer_keys_than_2_32, frequent_small, fewer_leaves_than_2_32, leaves_length, nodes_small, own_small, pair_made, rest_small}
use Rattle.appended_stats.proofs.pair.grown_pair.Goals as goal

pub get-requires : goal.get-requires
get-requires c = column_in_columns c.args.pool.now c.args.cells.now c.requires.cells c.args.pair.filter c.requires.pair.filter

pub get-requires-2 : goal.get-requires-2
get-requires-2 c = column_in_columns c.args.pool.now c.args.cells.now c.requires.cells c.args.pair.joined c.requires.pair.joined

pub whole_list-requires : goal.whole_list-requires
whole_list-requires c = record { rows = fewer_keys_than_2_32 (are_read c.args.pool.now c.requires.cells c.requires.pair c.get-kind.ensures c.get.ensures c.as_slice-values.ensures c.get-2.ensures c.as_slice-keys.ensures) }

pub list_of_others-requires-clause-cells : goal.list_of_others-requires-clause-cells
list_of_others-requires-clause-cells c =
    all_cells (are_read c.args.pool.now c.requires.cells c.requires.pair c.get-kind.ensures c.get.ensures c.as_slice-values.ensures c.get-2.ensures c.as_slice-keys.ensures)

pub list_of_others-requires-clause-joined : goal.list_of_others-requires-clause-joined
list_of_others-requires-clause-joined c =
    same_lengths (are_read c.args.pool.now c.requires.cells c.requires.pair c.get-kind.ensures c.get.ensures c.as_slice-values.ensures c.get-2.ensures c.as_slice-keys.ensures)

pub list_of_others-requires-clause-rows : goal.list_of_others-requires-clause-rows
list_of_others-requires-clause-rows c =
    fewer_than_2_32 (are_read c.args.pool.now c.requires.cells c.requires.pair c.get-kind.ensures c.get.ensures c.as_slice-values.ensures c.get-2.ensures c.as_slice-keys.ensures)

pub leaves-requires-clause-cells : goal.leaves-requires-clause-cells
leaves-requires-clause-cells c =
    all_cells (are_read c.args.pool.now c.requires.cells c.requires.pair c.get-kind.ensures c.get.ensures c.as_slice-values.ensures c.get-2.ensures c.as_slice-keys.ensures)

pub grown_frequent-requires-clause-frequent : goal.grown_frequent-requires-clause-frequent
grown_frequent-requires-clause-frequent c =
    frequent_small (are_read c.args.pool.now c.requires.cells c.requires.pair c.get-kind.ensures c.get.ensures c.as_slice-values.ensures c.get-2.ensures c.as_slice-keys.ensures)

pub grown_frequent-requires-clause-cells : goal.grown_frequent-requires-clause-cells
grown_frequent-requires-clause-cells c =
    all_cells (are_read c.args.pool.now c.requires.cells c.requires.pair c.get-kind.ensures c.get.ensures c.as_slice-values.ensures c.get-2.ensures c.as_slice-keys.ensures)

pub grown_frequent-requires-clause-joined : goal.grown_frequent-requires-clause-joined
grown_frequent-requires-clause-joined c =
    same_lengths (are_read c.args.pool.now c.requires.cells c.requires.pair c.get-kind.ensures c.get.ensures c.as_slice-values.ensures c.get-2.ensures c.as_slice-keys.ensures)

pub grown_frequent-requires-clause-rows : goal.grown_frequent-requires-clause-rows
grown_frequent-requires-clause-rows c =
    fewer_than_2_32 (are_read c.args.pool.now c.requires.cells c.requires.pair c.get-kind.ensures c.get.ensures c.as_slice-values.ensures c.get-2.ensures c.as_slice-keys.ensures)

pub lists_of_nodes-requires-clause-joined : goal.lists_of_nodes-requires-clause-joined
lists_of_nodes-requires-clause-joined c =
    leaves_length (are_read c.args.pool.now c.requires.cells c.requires.pair c.get-kind.ensures c.get.ensures c.as_slice-values.ensures c.get-2.ensures c.as_slice-keys.ensures)
    c.args.accuracy c.as_slice-2.result.now (c.as_slice-2.ensures.value ∙ c.in_ok-leaves.ensures)

pub lists_of_nodes-requires-clause-rows : goal.lists_of_nodes-requires-clause-rows
lists_of_nodes-requires-clause-rows c =
    fewer_leaves_than_2_32 (are_read c.args.pool.now c.requires.cells c.requires.pair c.get-kind.ensures c.get.ensures c.as_slice-values.ensures c.get-2.ensures c.as_slice-keys.ensures)
    c.args.accuracy c.as_slice-2.result.now (c.as_slice-2.ensures.value ∙ c.in_ok-leaves.ensures)

pub sum_by_rank-requires-2-clause-other : goal.sum_by_rank-requires-2-clause-other
sum_by_rank-requires-2-clause-other c =
    rest_small (are_read c.args.pool.now c.requires.cells c.requires.pair c.get-kind.ensures c.get.ensures c.as_slice-values.ensures c.get-2.ensures c.as_slice-keys.ensures)
    c.args.accuracy _ c.in_ok-others.others c.in_ok-others.ensures.list

pub returns-in_err-nodes : goal.returns-in_err-nodes
returns-in_err-nodes c =
    let p = err_from_is_err_and c.from_residual-in_err-nodes.result c.from_residual-in_err-nodes.ensures.1 in
    rw p.1 tt

pub returns-in_err-frequent : goal.returns-in_err-frequent
returns-in_err-frequent c =
    let p = err_from_is_err_and c.from_residual-in_err-frequent.result c.from_residual-in_err-frequent.ensures.1 in
    rw p.1 tt

pub sums_by_rank-requires-clause-same_count : goal.sums_by_rank-requires-clause-same_count
sums_by_rank-requires-clause-same_count c =
    as_many (are_read c.args.pool.now c.requires.cells c.requires.pair c.get-kind.ensures c.get.ensures c.as_slice-values.ensures c.get-2.ensures c.as_slice-keys.ensures)
    c.args.accuracy c.as_slice-2.result.now c.in_ok-more.more c.as_slice-4.result.now c.as_slice-3.result.now (c.as_slice-2.ensures.value ∙ c.in_ok-leaves.ensures) c.in_ok-more.ensures
    c.as_slice-4.ensures c.as_slice-3.ensures

pub sums_by_rank-requires-clause-lists : goal.sums_by_rank-requires-clause-lists
sums_by_rank-requires-clause-lists c =
    own_small (are_read c.args.pool.now c.requires.cells c.requires.pair c.get-kind.ensures c.get.ensures c.as_slice-values.ensures c.get-2.ensures c.as_slice-keys.ensures)
    c.as_slice-3.result.now c.as_slice-3.ensures

pub sums_by_rank-requires-clause-others : goal.sums_by_rank-requires-clause-others
sums_by_rank-requires-clause-others c =
    nodes_small (are_read c.args.pool.now c.requires.cells c.requires.pair c.get-kind.ensures c.get.ensures c.as_slice-values.ensures c.get-2.ensures c.as_slice-keys.ensures)
    c.args.accuracy c.as_slice-2.result.now c.in_ok-more.more c.as_slice-4.result.now (c.as_slice-2.ensures.value ∙ c.in_ok-leaves.ensures) c.in_ok-more.ensures c.as_slice-4.ensures

pub returns : goal.returns
returns c =
    pair_made (are_read c.args.pool.now c.requires.cells c.requires.pair c.get-kind.ensures c.get.ensures c.as_slice-values.ensures c.get-2.ensures c.as_slice-keys.ensures)
    c.args.accuracy c.in_ok-whole.whole c.in_ok-rest.rest c.in_ok-whole_list.field-0 c.in_ok-others.others c.in_ok-frequent.frequent c.as_slice-2.result.now c.in_ok-more.more
    c.as_slice-4.result.now c.as_slice-3.result.now c.in_ok-nodes.nodes c.as_slice.result.now c.in_ok-whole_list.ensures.list c.in_ok-whole.ensures c.as_slice.ensures c.in_ok-others.ensures.list
    c.in_ok-rest.ensures (c.as_slice-2.ensures.value ∙ c.in_ok-leaves.ensures) c.in_ok-more.ensures c.as_slice-4.ensures c.as_slice-3.ensures c.in_ok-nodes.ensures c.in_ok-frequent.ensures
