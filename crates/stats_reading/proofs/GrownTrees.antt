-- A valid draft stays valid when the next cut or node is read into its current pair. A draft is valid if some file that keeps the rules extends it.
use Rattle.std.proofs.Common.{◌≡◌, ◌≢◌, ℕ, zero, suc, ◌-◌, ◌<◌, List, [], ◌∷◌, ◌++◌, length, length-append, map, replicate, refl, ap, sym, subst, ◌∙◌, arith, append_assoc, Option, Some, None}
use Rattle.std.specs.Prelude.{All, AllPairs, slice_get, sum}
use Rattle.std.specs.declared.cmp.Ordering.TheVariants.{Greater}
use Rattle.std.proofs.lemmas.List.{length-replicate}
use Rattle.std.proofs.lemmas.List.Elements.{All-append}
use Rattle.schema_types.specs.declared.types.Kind.{Kind}
use Rattle.schema_types.specs.declared.types.Schema.{Schema}
use Rattle.schema_types.specs.declared.types.Table.{Table}
use Rattle.stats_file.specs.declared.types.Datum.{Datum}
use Rattle.stats_file.specs.declared.types.PairStats.{PairStats}
use Rattle.stats_file.specs.Rules.{datum_cmp, HaveSameFilterCounts, IsList, IsOfKind, IsHistogram, IsHistogramOf}
use Rattle.stats_reading.specs.declared.draft.Draft.{Draft}
use Rattle.stats_reading.specs.Drafts.{with_cut, with_node, HasSameFilter, MayBeCut, MayBeNode}
use Rattle.stats_reading.specs.Remaining.{histogram_lines, CutsRemaining, NodesRemaining}
use Rattle.stats_reading.specs.Valid.{HasKindAndIndexes, IsValidPair}
use Rattle.stats_reading.proofs.Counts.{agrees_after}
use Rattle.stats_reading.proofs.NextFacts.{kind_of_pair, same_filter_same_counts}
use Rattle.stats_reading.proofs.OrderFacts.{all_replicated, cuts_not_above, pairs_padded, value_never_above_itself}
use Rattle.stats_reading.proofs.Replaced.{all_replaced, length_replaced, map_replaced}
use Rattle.stats_reading.proofs.RuleFacts.{PairRules}
use Rattle.stats_reading.proofs.AppendedLists.{all_left, get_at_seam, get_map, pairs_front, both_some_same}
use Rattle.stats_reading.proofs.Grown.{at_front, keeps_with_pair, no_more, rules_of}

-- ---- cuts

-- cuts that may come after the next one
record NextCut (s : Draft) (p : PairStats) (cut : Datum) (kind : Kind) : Type 0 where
  rest : List Datum
  is : IsHistogram kind s.section.rows (s.pair.cuts ++ cut ∷ rest) p.nodes
  counts : (q : PairStats) → HasSameFilter s q → HaveSameFilterCounts p (record p { cuts = s.pair.cuts ++ cut ∷ rest })

next_cut_for_new_filter : (s : Draft) (p : PairStats) (cut : Datum) (old : List Datum) (kind : Kind) → kind ≡ s.kind → IsHistogram kind s.section.rows p.cuts p.nodes → p.cuts ≡ s.pair.cuts ++ old
    → MayBeCut s cut → slice_get s.section.pairs s.same_filter_at ≡ None → NextCut s p cut kind
next_cut_for_new_filter s p cut old kind same tree is may none =
    let front = s.pair.cuts in
    let m = 31 - length front in
    let len = length-append front (cut ∷ replicate m cut) in
    let rep = length-replicate m cut in
    let within_limit : length front < 32 = may.1.within_limit in
    let value = subst (λ k. IsOfKind k cut) (sym same) may.0 in
    let sorted = pairs_front (λ a b. datum_cmp a b ≢ Greater) front old (subst (AllPairs (λ a b. datum_cmp a b ≢ Greater)) is tree.order) in
    record {
      rest = replicate m cut;
      is = record {
        leaves = omega arith;
        values = All-append (IsOfKind kind) front (cut ∷ replicate m cut) (all_left (IsOfKind kind) front old (subst (All (IsOfKind kind)) is tree.values))
            (all_replicated (IsOfKind kind) (suc m) cut value);
        order = pairs_padded (λ a b. datum_cmp a b ≢ Greater) (suc m) front cut sorted (cuts_not_above front cut sorted may.1.order) (value_never_above_itself cut);
        all = tree.all;
        lists = tree.lists;
      };
      counts = λ q same_filter_at. absurd (cc);
    }

next_cut_as_in_pair : (s : Draft) (p q : PairStats) (cut : Datum) (old : List Datum) (kind : Kind) → IsHistogram kind s.section.rows p.cuts p.nodes → p.cuts ≡ s.pair.cuts ++ old
    → MayBeCut s cut → HasSameFilter s q → HaveSameFilterCounts q p → NextCut s p cut kind
next_cut_as_in_pair s p q cut old kind tree is may same_filter_at same =
    let front = s.pair.cuts in
    let there : slice_get (front ++ old) (length front) ≡ Some cut = ap (λ (l : List Datum). slice_get l (length front)) (sym (same.cuts ∙ is)) ∙ may.1.alike q same_filter_at in
    let behind = at_front front old cut there in
    let whole : p.cuts ≡ front ++ cut ∷ behind.0 = is ∙ ap (λ (l : List Datum). front ++ l) behind.1 in
    record {
      rest = behind.0;
      is = subst (λ (cs : List Datum). IsHistogram kind s.section.rows cs p.nodes) whole tree;
      counts = λ r liked. record { values = refl; totals = refl; rest = refl; cuts = whole; nodes = refl };
    }

next_cut_of : (s : Draft) (p : PairStats) (cut : Datum) (old : List Datum) (kind : Kind) → kind ≡ s.kind → IsHistogram kind s.section.rows p.cuts p.nodes → p.cuts ≡ s.pair.cuts ++ old
    → MayBeCut s cut → ((q : PairStats) → HasSameFilter s q → HaveSameFilterCounts q p) → NextCut s p cut kind
next_cut_of s p cut old kind same tree is may counts = by_like (slice_get s.section.pairs s.same_filter_at) refl
  where
    by_like : (o : Option PairStats) → slice_get s.section.pairs s.same_filter_at ≡ o → NextCut s p cut kind
    by_like None none = next_cut_for_new_filter s p cut old kind same tree is may none
    by_like (Some q) same_filter_at = next_cut_as_in_pair s p q cut old kind tree is may same_filter_at (counts q same_filter_at)

pub histogram_if_rows : (kind : Kind) (rows : ℕ) (cuts : List Datum) (nodes : List (List ℕ)) → 0 < rows → IsHistogramOf kind rows cuts nodes → IsHistogram kind rows cuts nodes
histogram_if_rows kind zero cuts nodes some is = absurd (omega arith)
histogram_if_rows kind (suc n) cuts nodes some is = is

pub histogram_of_rows : (kind : Kind) (rows : ℕ) (cuts : List Datum) (nodes : List (List ℕ)) → 0 < rows → IsHistogram kind rows cuts nodes → IsHistogramOf kind rows cuts nodes
histogram_of_rows kind zero cuts nodes some is = absurd (omega arith)
histogram_of_rows kind (suc n) cuts nodes some is = is

-- a pair p keeps the rules, and other cuts and nodes keep them too. Then p with these cuts and nodes keeps the rules
other_tree : (table : Table) (s : Draft) (p : PairStats) (cuts : List Datum) (nodes : List (List ℕ)) → HasKindAndIndexes table s → (rules : PairRules table s.section.rows s.section.pairs p)
    → p.filter ≡ s.pair.filter → 0 < s.section.rows → IsHistogram rules.is.filter.kind s.section.rows cuts nodes
    → ((q : PairStats) → HasSameFilter s q → HaveSameFilterCounts p (record p { cuts = cuts; nodes = nodes }))
    → PairRules table s.section.rows s.section.pairs (record p { cuts = cuts; nodes = nodes })
other_tree table s p cuts nodes known rules at_filter some is counts =
    let old = rules.is in
    record {
      is = record {
        filter = old.filter;
        filter_is = old.filter_is;
        joined = old.joined;
        whole = old.whole;
        all_rows = old.all_rows;
        frequent = old.frequent;
        rest = old.rest;
        tree = histogram_of_rows old.filter.kind s.section.rows cuts nodes some is;
      };
      order = rules.order;
      agree = agrees_after table s p (record p { cuts = cuts; nodes = nodes }) s.section.rows known rules at_filter refl refl refl counts;
    }

pub cut_grown : (schema : Schema) (s : Draft) (cut : Datum) → IsValidPair (CutsRemaining s.pair) schema s → MayBeCut s cut
    → IsValidPair (CutsRemaining (with_cut s cut).pair) schema (with_cut s cut)
cut_grown schema s cut v may =
    let rules = rules_of (CutsRemaining s.pair) schema s v in
    let own = v.left.1 in
    let g = own.grows in
    let kind = rules.is.filter.kind in
    let same = kind_of_pair v.table s v.pair s.section.rows v.known rules.is g.filter in
    let tree = histogram_if_rows kind s.section.rows v.pair.cuts v.pair.nodes may.1.some rules.is.tree in
    let next = next_cut_of s v.pair cut v.left.0 kind same tree g.cuts_is may (same_filter_same_counts v.table s v.pair s.section.rows v.known rules g.filter) in
    let p = record v.pair { cuts = s.pair.cuts ++ cut ∷ next.rest } in
    record {
      table = v.table;
      exists = v.exists;
      known = known_again v.table v.known;
      pair = p;
      own = histogram_lines next.rest own.nodes;
      left = (
        next.rest,
        record {
          nodes = own.nodes;
          grows = record {
            filter = g.filter;
            joined = g.joined;
            frequent_is = g.frequent_is;
            cuts_is = sym (append_assoc s.pair.cuts (cut ∷ []) next.rest);
            nodes_is = g.nodes_is;
          };
          whole = own.whole;
          rest = own.rest;
          all = refl;
        },
      );
      keeps = keeps_with_pair (CutsRemaining s.pair) schema s v p (other_tree v.table s v.pair (s.pair.cuts ++ cut ∷ next.rest) v.pair.nodes v.known rules g.filter may.1.some next.is next.counts);
    }
  where
    known_again : (table : Table) → HasKindAndIndexes table s → HasKindAndIndexes table (with_cut s cut)
    known_again table k = record { column = k.column; column_is = k.column_is; kind_is = k.kind_is; same_filter_at = k.same_filter_at; same_joined_at = k.same_joined_at }

-- ---- nodes

next_exists : {X : Type 0} (front old : List X) → length front < length (front ++ old) → (x : X) × (rest : List X) × (old ≡ x ∷ rest)
next_exists [] [] lt = absurd (omega arith)
next_exists [] (x ∷ old) lt = (x, old, refl)
next_exists (y ∷ front) old lt = next_exists front old (omega arith)

pub node_grown : (schema : Schema) (s : Draft) (node : List ℕ) → IsValidPair (CutsRemaining s.pair) schema s → MayBeNode s node
    → IsValidPair (NodesRemaining (with_node s node).pair) schema (with_node s node)
node_grown schema s node v may =
    let rules = rules_of (CutsRemaining s.pair) schema s v in
    let own = v.left.1 in
    let g = own.grows in
    let kind = rules.is.filter.kind in
    let tree = histogram_if_rows kind s.section.rows v.pair.cuts v.pair.nodes may.1.some rules.is.tree in
    let leaves : length v.pair.cuts ≡ 32 = tree.leaves in
    let here : length s.pair.cuts ≡ 32 = may.1.all_cuts in
    let no_cuts = no_more s.pair.cuts v.left.0 (sym (ap length g.cuts_is) ∙ leaves ∙ sym here) in
    let all : length v.pair.nodes ≡ 63 = tree.all in
    let within_limit : length s.pair.nodes < 63 = may.1.within_limit in
    let found = next_exists s.pair.nodes own.nodes (omega (arith, ap length g.nodes_is)) in
    let old = found.0 in
    let rest = found.1 in
    let whole : v.pair.nodes ≡ s.pair.nodes ++ old ∷ rest = g.nodes_is ∙ ap (λ (l : List (List ℕ)). s.pair.nodes ++ l) found.2 in
    let nodes = s.pair.nodes ++ node ∷ rest in
    let p = record v.pair { nodes = nodes } in
    let is : IsHistogram kind s.section.rows v.pair.cuts nodes = record {
      leaves = tree.leaves;
      values = tree.values;
      order = tree.order;
      all = sym (length_replaced s.pair.nodes old node rest) ∙ sym (ap length whole) ∙ tree.all;
      lists = all_replaced (IsList s.section.rows) s.pair.nodes old node rest (subst (All (IsList s.section.rows)) whole tree.lists) may.0;
    } in
    record {
      table = v.table;
      exists = v.exists;
      known = known_again v.table v.known;
      pair = p;
      own = histogram_lines [] rest;
      left = record {
        nodes = rest;
        grows = record {
          filter = g.filter;
          joined = g.joined;
          frequent_is = g.frequent_is;
          cuts_is = g.cuts_is ∙ ap (λ (l : List Datum). s.pair.cuts ++ l) no_cuts;
          nodes_is = sym (append_assoc s.pair.nodes (node ∷ []) rest);
        };
        whole = own.whole;
        rest = own.rest;
        all = refl;
      };
      keeps = keeps_with_pair (CutsRemaining s.pair) schema s v p (other_tree v.table s v.pair v.pair.cuts nodes v.known rules g.filter may.1.some is
          (λ q same_filter_at. counted v.pair q old rest whole same_filter_at (same_filter_same_counts v.table s v.pair s.section.rows v.known rules g.filter q same_filter_at)));
    }
  where
    known_again : (table : Table) → HasKindAndIndexes table s → HasKindAndIndexes table (with_node s node)
    known_again table k = record { column = k.column; column_is = k.column_is; kind_is = k.kind_is; same_filter_at = k.same_filter_at; same_joined_at = k.same_joined_at }

    counted : (p q : PairStats) (old : List ℕ) (rest : List (List ℕ)) → p.nodes ≡ s.pair.nodes ++ old ∷ rest → HasSameFilter s q → HaveSameFilterCounts q p
        → HaveSameFilterCounts p (record p { nodes = s.pair.nodes ++ node ∷ rest })
    counted p q old rest whole same_filter_at counts =
        let alike = may.1.alike q same_filter_at in
        let n = length s.pair.nodes in
        let here : slice_get (map sum p.nodes) n ≡ Some (sum old) = get_map sum p.nodes n old (ap (λ (l : List (List ℕ)). slice_get l n) whole ∙ get_at_seam s.pair.nodes old rest) in
        let there : slice_get (map sum p.nodes) n ≡ Some (sum node) =
        ap (λ (l : List ℕ). slice_get l n) (sym counts.nodes) ∙ get_map sum q.nodes n alike.other alike.there ∙ ap Some alike.total in
        let same = both_some_same (sum old) (sum node) (slice_get (map sum p.nodes) n) here there in
        record { values = refl; totals = refl; rest = refl; cuts = refl; nodes = ap (map sum) whole ∙ map_replaced sum s.pair.nodes old node rest same }
