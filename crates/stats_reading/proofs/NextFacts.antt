-- If a pair keeps the rules and extends the draft's current pair, its next value may come next in the draft.
use Rattle.std.proofs.Common.{◌≡◌, ◌≢◌, ℕ, zero, suc, ◌+◌, ◌-◌, ◌<◌, ◌≤◌, List, ◌∷◌, ◌++◌, length, length-append, map, ap, sym, subst, ◌∙◌, arith, Some}
use Rattle.std.specs.Prelude.{All, AllPairs, slice_get, sum}
use Rattle.std.specs.declared.cmp.Ordering.TheVariants.{Greater}
use Rattle.schema_types.specs.declared.types.Column.{Column}
use Rattle.schema_types.specs.declared.types.Kind.{Kind}
use Rattle.schema_types.specs.declared.types.Table.{Table}
use Rattle.stats_file.specs.declared.types.Datum.{Datum}
use Rattle.stats_file.specs.declared.types.PairStats.{PairStats}
use Rattle.stats_file.specs.Rules.{datum_cmp, PairsAgree, HaveSameFilterCounts, IsList, IsOfKind, IsPair, IsHistogram, IsHistogramOf}
use Rattle.stats_reading.specs.declared.draft.Draft.{Draft}
use Rattle.stats_reading.specs.Drafts.{HasSameFilter, IsSameTotal, IsSameValue, HasSameJoined, MayBeCut, MayBeFrequent, MayBeNode, MayBeRest, MayBeWhole}
use Rattle.stats_reading.specs.Valid.{HasKindAndIndexes}
use Rattle.stats_reading.proofs.RuleFacts.{PairRules}
use Rattle.stats_reading.proofs.AppendedLists.{all_at, all_at_seam, get_at_seam, get_map, map_get, map_length, pairs_at_seam, both_some_same}

pub kind_of_pair : (table : Table) (s : Draft) (p : PairStats) (rows : ℕ) (known : HasKindAndIndexes table s) (is : IsPair table rows p) → p.filter ≡ s.pair.filter → is.filter.kind ≡ s.kind
kind_of_pair table s p rows known is same =
    let at : slice_get table.columns s.pair.filter ≡ Some is.filter = ap (λ i. slice_get table.columns i) (sym same) ∙ is.filter_is in
    ap (λ (c : Column). c.kind) (both_some_same is.filter known.column (slice_get table.columns s.pair.filter) at known.column_is) ∙ sym known.kind_is

pub same_filter_same_counts : (table : Table) (s : Draft) (p : PairStats) (rows : ℕ) → HasKindAndIndexes table s → PairRules table rows s.section.pairs p → p.filter ≡ s.pair.filter → (q : PairStats) → HasSameFilter s q → HaveSameFilterCounts q p
same_filter_same_counts table s p rows known rules same q is =
    let agree = all_at (λ o. PairsAgree o p) s.section.pairs s.same_filter_at q rules.agree is in
    agree.filter (known.same_filter_at.found q is ∙ sym same)

pub same_joined_same_whole : (table : Table) (s : Draft) (p : PairStats) (rows : ℕ) → HasKindAndIndexes table s → PairRules table rows s.section.pairs p → p.joined ≡ s.pair.joined → (q : PairStats) → HasSameJoined s q → q.whole ≡ p.whole
same_joined_same_whole table s p rows known rules same q is =
    let agree = all_at (λ o. PairsAgree o p) s.section.pairs s.same_joined_at q rules.agree is in
    agree.joined (known.same_joined_at.found q is ∙ sym same)

pub may_whole : (table : Table) (s : Draft) (p : PairStats) → HasKindAndIndexes table s → PairRules table s.section.rows s.section.pairs p → p.joined ≡ s.pair.joined → MayBeWhole s p.whole
may_whole table s p known rules same =
    (rules.is.whole, record { all = rules.is.all_rows; alike = same_joined_same_whole table s p s.section.rows known rules same })

same_value : (s : Draft) (p q : PairStats) (front : List (Datum × List ℕ)) (f : Datum × List ℕ) (rest : List (Datum × List ℕ)) → p.frequent ≡ front ++ f ∷ rest → HaveSameFilterCounts q p
    → IsSameValue (length front) f q
same_value s p q front f rest is same =
    let here : slice_get p.frequent (length front) ≡ Some f = ap (λ (l : List (Datum × List ℕ)). slice_get l (length front)) is ∙ get_at_seam front f rest in
    let value = ap (λ (l : List Datum). slice_get l (length front)) same.values ∙ get_map (λ (e : Datum × List ℕ). e.0) p.frequent (length front) f here in
    let total = ap (λ (l : List ℕ). slice_get l (length front)) same.totals ∙ get_map (λ (e : Datum × List ℕ). sum e.1) p.frequent (length front) f here in
    let found = map_get (λ (e : Datum × List ℕ). e.0) q.frequent (length front) f.0 value in
    let other = found.0 in
    let there : slice_get q.frequent (length front) ≡ Some other = found.1 in
    let own = get_map (λ (e : Datum × List ℕ). sum e.1) q.frequent (length front) other there in
    record { other = other; there = there; value = found.2; total = both_some_same (sum other.1) (sum f.1) (slice_get (map (λ (e : Datum × List ℕ). sum e.1) q.frequent) (length front)) own total }

pub may_frequent : (table : Table) (s : Draft) (p : PairStats) (f : Datum × List ℕ) (rest : List (Datum × List ℕ)) → HasKindAndIndexes table s → PairRules table s.section.rows s.section.pairs p
    → p.filter ≡ s.pair.filter → p.frequent ≡ s.pair.frequent ++ f ∷ rest → MayBeFrequent s f
may_frequent table s p f rest known rules same is =
    let are = rules.is.frequent in
    let len = ap length is ∙ length-append s.pair.frequent (f ∷ rest) in
    let within_limit : length p.frequent ≤ 32 = are.within_limit in
    let value = all_at_seam (λ (e : Datum × List ℕ). IsOfKind rules.is.filter.kind e.0) s.pair.frequent f rest
    (subst (All (λ (e : Datum × List ℕ). IsOfKind rules.is.filter.kind e.0)) is are.values) in (
      subst (λ k. IsOfKind k f.0) (kind_of_pair table s p s.section.rows known rules.is same) value,
      all_at_seam (λ (e : Datum × List ℕ). IsList s.section.rows e.1) s.pair.frequent f rest (subst (All (λ (e : Datum × List ℕ). IsList s.section.rows e.1)) is are.lists),
      record {
        within_limit = omega arith;
        differs = pairs_at_seam (λ (a b : Datum × List ℕ). a.0 ≢ b.0) s.pair.frequent f rest (subst (AllPairs (λ (a b : Datum × List ℕ). a.0 ≢ b.0)) is are.differ);
        alike = λ q same_filter_at. same_value s p q s.pair.frequent f rest is (same_filter_same_counts table s p s.section.rows known rules same q same_filter_at);
      },
    )

pub same_count : (p q : PairStats) → HaveSameFilterCounts q p → length q.frequent ≡ length p.frequent
same_count p q same = sym (map_length (λ (e : Datum × List ℕ). e.0) q.frequent) ∙ ap length same.values ∙ map_length (λ (e : Datum × List ℕ). e.0) p.frequent

pub may_rest : (table : Table) (s : Draft) (p : PairStats) → HasKindAndIndexes table s → PairRules table s.section.rows s.section.pairs p → p.filter ≡ s.pair.filter → p.frequent ≡ s.pair.frequent
    → MayBeRest s p.rest
may_rest table s p known rules same is = (
  rules.is.rest,
  record {
    alike = λ q same_filter_at.
        let counts = same_filter_same_counts table s p s.section.rows known rules same q same_filter_at in
        record { count_is = same_count p q counts ∙ ap length is; total = counts.rest };
  },
)

-- the table has rows, and a histogram with 32 leaves
pub record SomeTree (kind : Kind) (rows : ℕ) (cuts : List Datum) (nodes : List (List ℕ)) : Type 0 where
  pub some : 0 < rows
  pub is : IsHistogram kind rows cuts nodes

pub some_tree : (kind : Kind) (rows : ℕ) (cuts : List Datum) (nodes : List (List ℕ)) → IsHistogramOf kind rows cuts nodes → 0 < length cuts + length nodes → SomeTree kind rows cuts nodes
some_tree kind zero cuts nodes (none, others) lt = absurd (omega (arith, ap length none, ap length others))
some_tree kind (suc n) cuts nodes is lt = record { some = omega arith; is = is }

pub may_cut : (table : Table) (s : Draft) (p : PairStats) (cut : Datum) (rest : List Datum) → HasKindAndIndexes table s → PairRules table s.section.rows s.section.pairs p
    → p.filter ≡ s.pair.filter → p.cuts ≡ s.pair.cuts ++ cut ∷ rest → MayBeCut s cut
may_cut table s p cut rest known rules same is =
    let len = ap length is ∙ length-append s.pair.cuts (cut ∷ rest) in
    let tree = some_tree rules.is.filter.kind s.section.rows p.cuts p.nodes rules.is.tree (omega arith) in
    let leaves : length p.cuts ≡ 32 = tree.is.leaves in
    let kind = rules.is.filter.kind in
    let order = pairs_at_seam (λ a b. datum_cmp a b ≢ Greater) s.pair.cuts cut rest (subst (AllPairs (λ a b. datum_cmp a b ≢ Greater)) is tree.is.order) in (
      subst (λ k. IsOfKind k cut) (kind_of_pair table s p s.section.rows known rules.is same) (all_at_seam (IsOfKind kind) s.pair.cuts cut rest (subst (All (IsOfKind kind)) is tree.is.values)),
      record {
        some = tree.some;
        within_limit = omega arith;
        order = λ last at. all_at (λ a. datum_cmp a cut ≢ Greater) s.pair.cuts (length s.pair.cuts - 1) last order at;
        alike = λ q same_filter_at. ap (λ (l : List Datum). slice_get l (length s.pair.cuts)) ((same_filter_same_counts table s p s.section.rows known rules same q same_filter_at).cuts ∙ is) ∙ get_at_seam s.pair.cuts cut rest;
      },
    )

same_total : (p q : PairStats) (front : List (List ℕ)) (node : List ℕ) (rest : List (List ℕ)) → p.nodes ≡ front ++ node ∷ rest → HaveSameFilterCounts q p → IsSameTotal (length front) node q
same_total p q front node rest is same =
    let here : slice_get p.nodes (length front) ≡ Some node = ap (λ (l : List (List ℕ)). slice_get l (length front)) is ∙ get_at_seam front node rest in
    let total = ap (λ (l : List ℕ). slice_get l (length front)) same.nodes ∙ get_map sum p.nodes (length front) node here in
    let found = map_get sum q.nodes (length front) (sum node) total in
    record { other = found.0; there = found.1; total = found.2 }

pub may_node : (table : Table) (s : Draft) (p : PairStats) (node : List ℕ) (rest : List (List ℕ)) → HasKindAndIndexes table s → PairRules table s.section.rows s.section.pairs p
    → p.filter ≡ s.pair.filter → p.cuts ≡ s.pair.cuts → p.nodes ≡ s.pair.nodes ++ node ∷ rest → MayBeNode s node
may_node table s p node rest known rules same cuts is =
    let len = ap length is ∙ length-append s.pair.nodes (node ∷ rest) in
    let tree = some_tree rules.is.filter.kind s.section.rows p.cuts p.nodes rules.is.tree (omega arith) in
    let all : length p.nodes ≡ 63 = tree.is.all in (
      all_at_seam (IsList s.section.rows) s.pair.nodes node rest (subst (All (IsList s.section.rows)) is tree.is.lists),
      record {
        some = tree.some;
        all_cuts = sym (ap length cuts) ∙ tree.is.leaves;
        within_limit = omega arith;
        alike = λ q same_filter_at. same_total p q s.pair.nodes node rest is (same_filter_same_counts table s p s.section.rows known rules same q same_filter_at);
      },
    )
