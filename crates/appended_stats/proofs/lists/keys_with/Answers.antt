use Rattle.std.proofs.Common.{ℕ, Bool, get_or, refl, sym, ◌∙◌}
use Rattle.csv_tables.specs.Cells.{value_of_cell}
use Rattle.stats_file_of_query.specs.Standing.{is_value}
use Rattle.appended_stats.proofs.Walks.{all_keys, no_key_more, one_key_more}
use Rattle.appended_stats.proofs.lists.keys_with.Goals as goal
use Rattle.appended_stats.proofs.lists.keys_with.Goals.{then-is_value+in_ok-push, else-is_value}

pub loop-i-preserved : goal.loop-i-preserved
loop-i-preserved c =
    let p : ℕ → Bool = λ cell. is_value (value_of_cell c.args.pool.now c.args.kind cell) c.args.value.now in
    elim c.if-is_value.branch [
      | then-is_value+in_ok-push w ↦ rw w.keys-is (one_key_more p c.args.cells.now c.args.joined.now c.loop-i.keys.items w.push.new.self.items c.loop-i.i
          (get_or c.args.joined.now c.loop-i.i 0) c.loop-i-test.true c.requires.joined c.loop-i.invariant (sym c.is_value.ensures ∙ w.if-is_value.true) refl w.in_ok-push.ensures.items)
      | else-is_value w ↦ rw w.keys-is (no_key_more p c.args.cells.now c.args.joined.now c.loop-i.keys.items c.loop-i.keys.items c.loop-i.i c.loop-i-test.true c.requires.joined
          c.loop-i.invariant (sym c.is_value.ensures ∙ w.if-is_value.false) refl)
    ]

pub returns : goal.returns
returns c =
    all_keys (λ cell. is_value (value_of_cell c.args.pool.now c.args.kind cell) c.args.value.now) c.args.cells.now c.args.joined.now c.loop-i.keys.items c.loop-i.i
    c.loop-i-test.false c.requires.joined c.loop-i.invariant
