use Rattle.std.proofs.Common.{◌≡◌, ◌<◌, ◌^◌, List, ℕ, length, sum, ◌∙◌, arith}
use Rattle.std.proofs.lemmas.Result.{IfOk-weaker}
use Rattle.csv_tables.specs.Cells.{value_of_cell}
use Rattle.stats_file_of_query.specs.Standing.{is_value}
use Rattle.appended_stats.proofs.Walks.{fewer_keys_than}
use Rattle.appended_stats.proofs.lists.list_with.Goals as goal

pub whole_list-requires : goal.whole_list-requires
whole_list-requires c = record {
  rows =
      fewer_keys_than (λ cell. is_value (value_of_cell c.args.pool.now c.args.kind cell) c.args.value.now) c.args.cells.now c.args.joined.now c.as_slice.result.now (2 ^ 32) c.requires.rows
      (c.as_slice.ensures.value ∙ c.in_ok-keys.ensures);
}

pub returns-clause-small : goal.returns-clause-small
returns-clause-small c =
    let within_limit : length c.as_slice.result.now < 2 ^ 32 = fewer_keys_than (λ cell. is_value (value_of_cell c.args.pool.now c.args.kind cell) c.args.value.now) c.args.cells.now c.args.joined.now
    c.as_slice.result.now (2 ^ 32) c.requires.rows (c.as_slice.ensures.value ∙ c.in_ok-keys.ensures) in
    IfOk-weaker c.whole_list.result (λ (list : List ℕ). sum list ≡ length c.as_slice.result.now) (λ (list : List ℕ). sum list < 2 ^ 32)
    (λ list is. omega (arith, is, within_limit)) c.whole_list.ensures.sum
