use Rattle.std.proofs.Common.{◌≡◌, ◌∙◌, ◌++◌, arith, refl, subst, drop, get_or, length, take, List, [], ℕ, rules}
use Rattle.std.proofs.lemmas.List.{get_or_default}
use Rattle.csv_tables.specs.FirstPlaces.{are_alike, AreFirsts}
use Rattle.csv_tables.proofs.AscendFacts.{none_repeats}
use Rattle.csv_tables.proofs.FirstPlaceFacts.{take_of_append, one_more_column}
use Rattle.csv_tables.proofs.keys.repeat_of_key.Goals as goal

pub columns-preserved : goal.columns-preserved
columns-preserved c =
    let old = c.columns.first_places.items in
    let new = c.number_pairs.new.first_places in
    let same : length new ≡ length old = search rules in
    let len : c.columns.first_places.len ≡ length new = omega (arith, same, c.columns.first_places.ok) in
    let whole : take c.columns.first_places.len (new ++ drop (length new) old) ≡ new = take_of_append c.columns.first_places.len new (drop (length new) old) len in
    rw whole (record {
      lengths = same ∙ c.columns.invariant.lengths;
      firsts = one_more_column c.args.columns.now c.args.key.now c.columns.column-index (get_or c.args.key.now c.columns.column-index 0) old new c.as_slice.result.now
          c.columns-test.true refl (c.as_slice.ensures ∙ c.index-columns-column.is ∙ get_or_default c.args.columns.now (get_or c.args.key.now c.columns.column-index 0) c.index-columns-column.result []
          (c.requires.key c.columns.column-index 0 c.columns-test.true)) same c.columns.invariant.firsts
          (subst (λ (g : List ℕ). AreFirsts (are_alike g c.as_slice.result.now) new) c.deref_mut.ensures.value c.in_ok-number_pairs.ensures);
    })

pub returns-then-has_ascending : goal.returns-then-has_ascending
returns-then-has_ascending c = none_repeats c.args.columns.now c.args.key.now c.args.rows (c.has_ascending.ensures c.if-has_ascending.true)
