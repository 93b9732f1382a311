use Rattle.std.proofs.Common.{◌<◌, List, length, arith, subst, sym}
use Rattle.std.specs.Prelude.{All}
use Rattle.stats_file.specs.declared.types.PairStats.{PairStats}
use Rattle.stats_file.specs.Rules.{ComesBefore}
use Rattle.stats_reading.specs.Drafts.{empty_pair}
use Rattle.stats_reading.proofs.Ascending.{none_later}
use Rattle.stats_reading.proofs.PlaceFacts.{column_within, no_pair, some_pair}
use Rattle.stats_reading.proofs.begins.take_pair.Goals as goal

pub returns-then-not-is_later : goal.returns-then-not-is_later
returns-then-not-is_later c =
    let i = c.in-Some.filter in
    let j = c.in-Some-column_place.joined in
    no_pair c.args.table.now c.args.draft.now c.args.filter.now c.args.joined.now i j c.requires.valid c.in-Some.ensures c.in-Some-column_place.ensures
    (λ all. let told = c.is_later.ensures.1 (subst (λ (ps : List PairStats). All (λ q. ComesBefore q (empty_pair i j)) ps) (sym c.as_slice.ensures) all) in cc)

pub overflow_cast-filter-2 : goal.overflow_cast-filter-2
overflow_cast-filter-2 c =
    let within : c.in-Some.filter < length c.args.table.now.columns = column_within c.args.table.now c.args.filter.now c.in-Some.filter c.in-Some.ensures in
    omega arith

pub overflow_cast-joined-2 : goal.overflow_cast-joined-2
overflow_cast-joined-2 c =
    let within : c.in-Some-column_place.joined < length c.args.table.now.columns =
    column_within c.args.table.now c.args.joined.now c.in-Some-column_place.joined c.in-Some-column_place.ensures in
    omega arith

pub begin_pair-requires-clause-later : goal.begin_pair-requires-clause-later
begin_pair-requires-clause-later c =
    none_later c.args.draft.now.section.pairs c.in-Some.filter c.in-Some-column_place.joined
    (subst (λ (ps : List PairStats). All (λ q. ComesBefore q (empty_pair c.in-Some.filter c.in-Some-column_place.joined)) ps) c.as_slice.ensures (c.is_later.ensures.0 (cc)))

pub begin_pair-requires-clause-within : goal.begin_pair-requires-clause-within
begin_pair-requires-clause-within c = column_within c.args.table.now c.args.filter.now c.in-Some.filter c.in-Some.ensures

pub returns : goal.returns
returns c =
    let i = c.in-Some.filter in
    let j = c.in-Some-column_place.joined in
    some_pair c.args.table.now c.args.draft.now c.begin_pair.new.draft c.args.filter.now c.args.joined.now i j c.in-Some.ensures c.in-Some-column_place.ensures
    (subst (λ (ps : List PairStats). All (λ q. ComesBefore q (empty_pair i j)) ps) c.as_slice.ensures (c.is_later.ensures.0 (cc))) c.begin_pair.ensures
