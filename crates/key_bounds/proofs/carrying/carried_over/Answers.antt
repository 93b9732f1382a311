use Rattle.std.proofs.Common.{ℕ, List, length, slice_get, ap, sym, ◌∙◌, subst, arith}
use Rattle.std.proofs.lemmas.Option.{get_or_from_slice_get}
use Rattle.predicate_bounds.specs.StatsLists.{no_columns}
use Rattle.sql_meaning.specs.Tables.{cells_of, tables_of}
use Rattle.gathered_stats.specs.Asked.{IsGathered}
use Rattle.gathered_stats.specs.ShownCells.{AreRowNumbersOf}
use Rattle.key_carriers.proofs.Referring.{as_many, referring_at_most_rows}
use Rattle.key_bounds.proofs.CarriedOver.{as_widened, entries_add_up, entries_told, left_entry_in_range, of_one_kind, right_entry_in_range, rows_of_left, rows_of_right}
use Rattle.key_bounds.proofs.carrying.carried_over.Goals as goal

pub widened_rows-requires-clause-kinds : goal.widened_rows-requires-clause-kinds
widened_rows-requires-clause-kinds c = of_one_kind c.args.query.now c.args.db.now c.requires.database c.args.edge c.requires.joined

pub widened_rows-requires-clause-rows : goal.widened_rows-requires-clause-rows
widened_rows-requires-clause-rows c = c.requires.database.rows_within_limit c.args.edge.left.entry (left_entry_in_range c.args.query.now c.args.db.now c.requires.database c.args.edge c.requires.joined)

pub widened_rows-requires-clause-within_limit : goal.widened_rows-requires-clause-within_limit
widened_rows-requires-clause-within_limit c = c.requires.database.rows_within_limit c.args.edge.right.entry (right_entry_in_range c.args.query.now c.args.db.now c.requires.database c.args.edge c.requires.joined)

pub get-requires : goal.get-requires
get-requires c = omega (arith, left_entry_in_range c.args.query.now c.args.db.now c.requires.database c.args.edge c.requires.joined, c.requires.own.as_many)

pub gather_paired-requires-clause-entry : goal.gather_paired-requires-clause-entry
gather_paired-requires-clause-entry c = right_entry_in_range c.args.query.now c.args.db.now c.requires.database c.args.edge c.requires.joined

pub gather_paired-requires-clause-other : goal.gather_paired-requires-clause-other
gather_paired-requires-clause-other c = left_entry_in_range c.args.query.now c.args.db.now c.requires.database c.args.edge c.requires.joined

pub gather_paired-requires-clause-rows : goal.gather_paired-requires-clause-rows
gather_paired-requires-clause-rows c =
    subst (AreRowNumbersOf (cells_of c.args.db.now c.args.edge.right.entry)) (sym (c.as_slice-others.ensures.value ∙ c.in_ok-widened.ensures.others))
    (rows_of_right c.args.query.now c.args.db.now c.requires.database c.args.edge c.requires.joined)

pub gather_paired-requires-clause-other_rows : goal.gather_paired-requires-clause-other_rows
gather_paired-requires-clause-other_rows c =
    subst (AreRowNumbersOf (cells_of c.args.db.now c.args.edge.left.entry)) (sym (c.as_slice-rows.ensures.value ∙ c.in_ok-widened.ensures.rows))
    (rows_of_left c.args.query.now c.args.db.now c.requires.database c.args.edge c.requires.joined)

pub gather_paired-requires-clause-as_many : goal.gather_paired-requires-clause-as_many
gather_paired-requires-clause-as_many c =
    ap (λ (s : List ℕ). length s) (c.as_slice-rows.ensures.value ∙ c.in_ok-widened.ensures.rows) ∙ as_many (tables_of c.args.db.now) c.args.edge
    ∙ sym (ap (λ (s : List ℕ). length s) (c.as_slice-others.ensures.value ∙ c.in_ok-widened.ensures.others))

pub gather_paired-requires-clause-few : goal.gather_paired-requires-clause-few
gather_paired-requires-clause-few c =
    omega (
      arith,
      ap (λ (s : List ℕ). length s) (c.as_slice-others.ensures.value ∙ c.in_ok-widened.ensures.others),
      as_many (tables_of c.args.db.now) c.args.edge,
      referring_at_most_rows (tables_of c.args.db.now) c.args.edge,
      c.requires.database.rows_within_limit c.args.edge.left.entry (left_entry_in_range c.args.query.now c.args.db.now c.requires.database c.args.edge c.requires.joined),
    )

pub gather_paired-requires-clause-other_stats : goal.gather_paired-requires-clause-other_stats
gather_paired-requires-clause-other_stats c =
    subst (IsGathered c.args.query.now c.args.db.now c.args.accuracy c.args.edge.left.entry)
    (get_or_from_slice_get c.args.own.now.entries c.args.edge.left.entry c.get.result.now no_columns (ap (slice_get c.args.own.now.entries) (sym c.from.ensures) ∙ c.get.ensures))
    (c.requires.own.each c.args.edge.left.entry (left_entry_in_range c.args.query.now c.args.db.now c.requires.database c.args.edge c.requires.joined))

pub first_lists-requires : goal.first_lists-requires
first_lists-requires c =
    entries_add_up c.args.query.now c.args.db.now c.requires.database c.args.edge c.requires.joined c.characters_differ.ensures
    (c.requires.database.rows_within_limit c.args.edge.left.entry (left_entry_in_range c.args.query.now c.args.db.now c.requires.database c.args.edge c.requires.joined)) c.args.accuracy c.in_ok-gathered.gathered
    (as_widened c.args.query.now c.args.db.now c.args.accuracy c.args.edge c.as_slice-others.result.now c.as_slice-rows.result.now c.in_ok-gathered.gathered
    (c.as_slice-others.ensures.value ∙ c.in_ok-widened.ensures.others) (c.as_slice-rows.ensures.value ∙ c.in_ok-widened.ensures.rows) c.in_ok-gathered.ensures)
    c.in_ok-entries.entries c.in_ok-entries.ensures

pub returns-clause-tells : goal.returns-clause-tells
returns-clause-tells c =
    entries_told c.args.query.now c.args.db.now c.requires.database c.args.edge c.requires.joined c.characters_differ.ensures
    (c.requires.database.rows_within_limit c.args.edge.left.entry (left_entry_in_range c.args.query.now c.args.db.now c.requires.database c.args.edge c.requires.joined)) c.args.accuracy c.in_ok-gathered.gathered
    (as_widened c.args.query.now c.args.db.now c.args.accuracy c.args.edge c.as_slice-others.result.now c.as_slice-rows.result.now c.in_ok-gathered.gathered
    (c.as_slice-others.ensures.value ∙ c.in_ok-widened.ensures.others) (c.as_slice-rows.ensures.value ∙ c.in_ok-widened.ensures.rows) c.in_ok-gathered.ensures)
    c.in_ok-entries.entries c.in_ok-entries.ensures c.in_ok-lists.lists c.in_ok-lists.ensures.rows c.in_ok-lists.ensures.lists
