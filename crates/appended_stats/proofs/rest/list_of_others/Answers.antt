use Rattle.std.proofs.Common.{◌≡◌, ℕ, List, not, ap, sym, ◌∙◌, arith}
use Rattle.std.specs.List.{filter, zip}
use Rattle.std.proofs.lemmas.Result.{IfOk-weaker}
use Rattle.std.proofs.lemmas.Slice.Zip.{length-zip}
use Rattle.csv_tables.specs.Cells.{value_of_cell}
use Rattle.degree_sequences.specs.Degrees.{different}
use Rattle.relabelling_laws.proofs.Rows.{zip_of_columns}
use Rattle.appended_stats.specs.Grown.{is_frequent, list_for_any_of, other_values}
use Rattle.appended_stats.proofs.Groups.{groups_are, all_groups_below_2_32, list_of_groups}
use Rattle.appended_stats.proofs.rest.list_of_others.Goals as goal

pub list_of_groups-requires : goal.list_of_groups-requires
list_of_groups-requires c = record {
  groups =
      all_groups_below_2_32 (zip c.args.cells.now c.args.joined.now) c.in_ok-others.others.keys c.as_slice.result.now
      (omega (arith, length-zip c.args.cells.now c.args.joined.now, c.requires.joined, c.requires.rows)) (c.as_slice.ensures ∙ c.in_ok-groups.ensures);
}

pub returns : goal.returns
returns c =
    let rows : List (ℕ × ℕ) = zip c.args.cells.now c.args.joined.now in
    let others : c.in_ok-others.others.keys ≡ other_values (value_of_cell c.args.pool.now c.args.kind) rows c.args.frequent.now =
    c.in_ok-others.ensures
    ∙ ap (λ (s : List ℕ). different (filter (λ cell. not (is_frequent c.args.frequent.now (value_of_cell c.args.pool.now c.args.kind cell))) s))
    (sym (zip_of_columns c.args.cells.now c.args.joined.now (sym c.requires.joined)).0) in record {
      list = IfOk-weaker c.list_of_groups.result (λ (list : List ℕ). list ≡ list_of_groups c.args.accuracy c.as_slice.result.now)
          (λ (list : List ℕ). list ≡ list_for_any_of c.args.accuracy rows (other_values (value_of_cell c.args.pool.now c.args.kind) rows c.args.frequent.now))
          (λ list made. made ∙ groups_are c.args.accuracy rows c.in_ok-others.others.keys c.as_slice.result.now (c.as_slice.ensures ∙ c.in_ok-groups.ensures)
          ∙ ap (list_for_any_of c.args.accuracy rows) others) c.list_of_groups.ensures;
    }
