use Rattle.std.proofs.Common.{◌≡◌, ◌∙◌, ◌<◌, All, ap, get_or, List, length, subst, sym, ℕ}
use Rattle.csv_tables.specs.FirstPlaces.{IsRepeat}
use Rattle.csv_tables.specs.Reads.{kinds_of}
use Rattle.csv_tables.proofs.KeyFacts.{columns_heights, key_bad, key_good, key_there}
use Rattle.csv_tables.proofs.keys.check_keys.Goals as goal

pub repeat_of_key-requires-clause-heights : goal.repeat_of_key-requires-clause-heights
repeat_of_key-requires-clause-heights c = columns_heights c.args.pool.now c.args.rows (kinds_of c.args.table.now.columns) c.args.columns.now c.requires.columns

pub repeat_of_key-requires-clause-key : goal.repeat_of_key-requires-clause-key
repeat_of_key-requires-clause-key c =
    let within : c.keys.key-index < length c.args.table.now.keys = subst (λ (ks : List (List ℕ)). c.keys.key-index < length ks) c.as_slice-key-items.ensures c.keys-test.true in
    let is : c.key-item.result ≡ get_or c.args.table.now.keys c.keys.key-index c.key-item.result =
    c.key-item.is ∙ ap (λ (ks : List (List ℕ)). get_or ks c.keys.key-index c.key-item.result) c.as_slice-key-items.ensures in
    subst (λ (key : List ℕ). All (λ column. column < length c.args.columns.now) key) (sym c.as_slice.ensures)
    (key_there c.args.table.now c.args.pool.now c.args.rows c.args.columns.now c.keys.key-index c.key-item.result c.requires.valid c.requires.columns within is)

pub returns-in-Some-clause-refused : goal.returns-in-Some-clause-refused
returns-in-Some-clause-refused c =
    let within : c.keys.key-index < length c.args.table.now.keys = subst (λ (ks : List (List ℕ)). c.keys.key-index < length ks) c.as_slice-key-items.ensures c.keys-test.true in
    let is : c.key-item.result ≡ get_or c.args.table.now.keys c.keys.key-index c.key-item.result =
    c.key-item.is ∙ ap (λ (ks : List (List ℕ)). get_or ks c.keys.key-index c.key-item.result) c.as_slice-key-items.ensures in
    c.keys.invariant
    ∙ key_bad c.args.table.now c.args.pool.now c.args.rows c.args.columns.now c.keys.key-index c.key-item.result c.in_ok-repeat.field-0
    c.requires.valid c.len-count.ensures.different c.requires.columns within is
    (subst (λ (key : List ℕ). IsRepeat c.args.columns.now key c.args.rows c.in_ok-repeat.field-0) c.as_slice.ensures c.in_ok-repeat.ensures)
    c.in-Some.repeat c.in-Some.is

pub keys-preserved : goal.keys-preserved
keys-preserved c =
    let within : c.keys.key-index < length c.args.table.now.keys = subst (λ (ks : List (List ℕ)). c.keys.key-index < length ks) c.as_slice-key-items.ensures c.keys-test.true in
    let is : c.key-item.result ≡ get_or c.args.table.now.keys c.keys.key-index c.key-item.result =
    c.key-item.is ∙ ap (λ (ks : List (List ℕ)). get_or ks c.keys.key-index c.key-item.result) c.as_slice-key-items.ensures in
    c.keys.invariant
    ∙ key_good c.args.table.now c.args.pool.now c.args.rows c.args.columns.now c.keys.key-index c.key-item.result c.in_ok-repeat.field-0
    c.requires.valid c.len-count.ensures.different c.requires.columns within is
    (subst (λ (key : List ℕ). IsRepeat c.args.columns.now key c.args.rows c.in_ok-repeat.field-0) c.as_slice.ensures c.in_ok-repeat.ensures)
    c.in_default.is
