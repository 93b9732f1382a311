-- A valid draft stays valid when the next value is read into its current pair. A draft is valid if some file that keeps the rules extends it.
use Rattle.std.proofs.Common.{◌≡◌, ◌≢◌, ℕ, ◌<◌, ◌≤◌, List, [], ◌∷◌, ◌++◌, length, length-append, map, refl, ap, sym, subst, ◌∙◌, arith, append-nil, append_assoc, Option, Some, None}
use Rattle.std.specs.Prelude.{All, AllPairs, slice_get, sum}
use Rattle.std.proofs.lemmas.List.Quantifiers.{all_pairs_push}
use Rattle.schema_types.specs.declared.types.Kind.{Kind}
use Rattle.schema_types.specs.declared.types.Schema.{Schema}
use Rattle.schema_types.specs.declared.types.Table.{Table}
use Rattle.stats_file.specs.declared.types.Datum.{Datum}
use Rattle.stats_file.specs.declared.types.PairStats.{PairStats}
use Rattle.stats_file.specs.Rules.{AreFrequent, HaveSameFilterCounts, IsList, IsOfKind, KeepsRules}
use Rattle.stats_reading.specs.declared.draft.Draft.{Draft}
use Rattle.stats_reading.specs.Drafts.{with_frequent, with_rest, with_whole, HasSameFilter, MayBeFrequent, MayBeRest, MayBeWhole}
use Rattle.stats_reading.specs.Remaining.{file_of_draft, frequent_lines, section_of, histogram_lines, CutsRemaining, FrequentRemaining, WholeRemaining}
use Rattle.stats_reading.specs.Valid.{HasKindAndIndexes, IsValidPair}
use Rattle.stats_reading.proofs.Counts.{agrees_after, agrees_whole}
use Rattle.stats_reading.proofs.NextFacts.{kind_of_pair, same_filter_same_counts, same_count}
use Rattle.stats_reading.proofs.Replaced.{all_replaced, length_replaced, map_replaced, values_still_hold, values_still_differ}
use Rattle.stats_reading.proofs.RuleFacts.{pair_rules, with_pair, without_pair, PairRules}
use Rattle.stats_reading.proofs.AppendedLists.{all_left, all_pushed, get_map, map_get, pairs_front, both_some_same}

pub rules_of : (Left : PairStats → List (List ℕ) → Type 0) (schema : Schema) (s : Draft) (v : IsValidPair Left schema s) → PairRules v.table s.section.rows s.section.pairs v.pair
rules_of Left schema s v = pair_rules schema v.table s v.pair [] [] v.exists v.keeps

pub keeps_with_pair : (Left : PairStats → List (List ℕ) → Type 0) (schema : Schema) (s : Draft) (v : IsValidPair Left schema s) (p : PairStats) → PairRules v.table s.section.rows s.section.pairs p
    → KeepsRules schema (file_of_draft s (section_of s (p ∷ []) ∷ []))
keeps_with_pair Left schema s v p rules = with_pair schema v.table s p v.exists (without_pair schema s (v.pair ∷ []) [] v.keeps) rules

-- ---- the list of all rows

pub whole_grown : (schema : Schema) (s : Draft) (list : List ℕ) → IsValidPair (WholeRemaining s.pair) schema s → MayBeWhole s list
    → IsValidPair (FrequentRemaining (with_whole s list).pair) schema (with_whole s list)
whole_grown schema s list v may =
    let rules = rules_of (WholeRemaining s.pair) schema s v in
    let is = rules.is in
    let own = v.left in
    let p = record v.pair { whole = list } in
    let new : PairRules v.table s.section.rows s.section.pairs p = record {
      is = record {
        filter = is.filter;
        filter_is = is.filter_is;
        joined = is.joined;
        whole = may.0;
        all_rows = may.1.all;
        frequent = is.frequent;
        rest = is.rest;
        tree = is.tree;
      };
      order = rules.order;
      agree = agrees_whole v.table s v.pair list s.section.rows v.known rules own.grows.joined may.1.alike;
    } in
    record {
      table = v.table;
      exists = v.exists;
      known = known_again v.table v.known;
      pair = p;
      own = frequent_lines own.frequent v.pair.rest own.cuts own.nodes;
      left = record {
        frequent = own.frequent;
        cuts = own.cuts;
        nodes = own.nodes;
        grows = record {
          filter = own.grows.filter;
          joined = own.grows.joined;
          frequent_is = own.grows.frequent_is;
          cuts_is = own.grows.cuts_is;
          nodes_is = own.grows.nodes_is;
        };
        whole = refl;
        all = refl;
      };
      keeps = keeps_with_pair (WholeRemaining s.pair) schema s v p new;
    }
  where
    known_again : (table : Table) → HasKindAndIndexes table s → HasKindAndIndexes table (with_whole s list)
    known_again table k = record { column = k.column; column_is = k.column_is; kind_is = k.kind_is; same_filter_at = k.same_filter_at; same_joined_at = k.same_joined_at }

-- ---- frequent values

-- frequent values that may come after the next one
record Next (s : Draft) (p : PairStats) (f : Datum × List ℕ) (kind : Kind) : Type 0 where
  rest : List (Datum × List ℕ)
  are : AreFrequent kind s.section.rows (s.pair.frequent ++ f ∷ rest)
  same_counts : (q : PairStats) → HasSameFilter s q → HaveSameFilterCounts p (record p { frequent = s.pair.frequent ++ f ∷ rest })

next_for_new_filter : (s : Draft) (p : PairStats) (f : Datum × List ℕ) (old : List (Datum × List ℕ)) (kind : Kind) → kind ≡ s.kind → AreFrequent kind s.section.rows p.frequent
    → p.frequent ≡ s.pair.frequent ++ old → MayBeFrequent s f → slice_get s.section.pairs s.same_filter_at ≡ None → Next s p f kind
next_for_new_filter s p f old kind same are is may none =
    let front = s.pair.frequent in
    let len = length-append front (f ∷ []) in
    let within_limit : length front < 32 = may.2.within_limit in
    record {
      rest = [];
      are = record {
        within_limit = omega arith;
        differ = all_pairs_push (λ (a b : Datum × List ℕ). a.0 ≢ b.0) front f
            (pairs_front (λ (a b : Datum × List ℕ). a.0 ≢ b.0) front old (subst (AllPairs (λ (a b : Datum × List ℕ). a.0 ≢ b.0)) is are.differ)) may.2.differs;
        values = all_pushed (λ (e : Datum × List ℕ). IsOfKind kind e.0) front f
            (all_left (λ (e : Datum × List ℕ). IsOfKind kind e.0) front old (subst (All (λ (e : Datum × List ℕ). IsOfKind kind e.0)) is are.values))
            (subst (λ k. IsOfKind k f.0) (sym same) may.0);
        lists = all_pushed (λ (e : Datum × List ℕ). IsList s.section.rows e.1) front f
            (all_left (λ (e : Datum × List ℕ). IsList s.section.rows e.1) front old (subst (All (λ (e : Datum × List ℕ). IsList s.section.rows e.1)) is are.lists)) may.1;
      };
      same_counts = λ q same_filter_at. absurd (cc);
    }

pub at_front : {X : Type 0} (front old : List X) (x : X) → slice_get (front ++ old) (length front) ≡ Some x → (rest : List X) × (old ≡ x ∷ rest)
at_front [] [] x is = absurd (cc)
at_front [] (y ∷ old) x is = let same : y ≡ x = cc in (old, ap (λ z. z ∷ old) same)
at_front (z ∷ front) old x is = at_front front old x is

next_as_in_pair : (s : Draft) (p q : PairStats) (f : Datum × List ℕ) (old : List (Datum × List ℕ)) (kind : Kind) → AreFrequent kind s.section.rows p.frequent → p.frequent ≡ s.pair.frequent ++ old
    → MayBeFrequent s f → HasSameFilter s q → HaveSameFilterCounts q p → Next s p f kind
next_as_in_pair s p q f old kind are is may same_filter_at same =
    let front = s.pair.frequent in
    let n = length front in
    let alike = may.2.alike q same_filter_at in
    let value : slice_get (map (λ (e : Datum × List ℕ). e.0) p.frequent) n ≡ Some f.0 =
    ap (λ (l : List Datum). slice_get l n) (sym same.values) ∙ get_map (λ (e : Datum × List ℕ). e.0) q.frequent n alike.other alike.there ∙ ap Some alike.value in
    let total : slice_get (map (λ (e : Datum × List ℕ). sum e.1) p.frequent) n ≡ Some (sum f.1) =
    ap (λ (l : List ℕ). slice_get l n) (sym same.totals) ∙ get_map (λ (e : Datum × List ℕ). sum e.1) q.frequent n alike.other alike.there ∙ ap Some alike.total in
    let found = map_get (λ (e : Datum × List ℕ). e.0) p.frequent n f.0 value in
    let o = found.0 in
    let there : slice_get p.frequent n ≡ Some o = found.1 in
    let first : o.0 ≡ f.0 = found.2 in
    let second : sum o.1 ≡ sum f.1 = both_some_same (sum o.1) (sum f.1) (slice_get (map (λ (e : Datum × List ℕ). sum e.1) p.frequent) n)
    (get_map (λ (e : Datum × List ℕ). sum e.1) p.frequent n o there) total in
    let behind = at_front front old o (ap (λ (l : List (Datum × List ℕ)). slice_get l n) (sym is) ∙ there) in
    let rest = behind.0 in
    let whole : p.frequent ≡ front ++ o ∷ rest = is ∙ ap (λ (l : List (Datum × List ℕ)). front ++ l) behind.1 in
    let values : map (λ (e : Datum × List ℕ). e.0) p.frequent ≡ map (λ (e : Datum × List ℕ). e.0) (front ++ f ∷ rest) =
    ap (map (λ (e : Datum × List ℕ). e.0)) whole ∙ map_replaced (λ (e : Datum × List ℕ). e.0) front o f rest first in
    let totals : map (λ (e : Datum × List ℕ). sum e.1) p.frequent ≡ map (λ (e : Datum × List ℕ). sum e.1) (front ++ f ∷ rest) =
    ap (map (λ (e : Datum × List ℕ). sum e.1)) whole ∙ map_replaced (λ (e : Datum × List ℕ). sum e.1) front o f rest second in
    let len = ap length whole ∙ length_replaced front o f rest in
    let within_limit : length p.frequent ≤ 32 = are.within_limit in
    record {
      rest = rest;
      are = record {
        within_limit = omega arith;
        differ = values_still_differ p.frequent (front ++ f ∷ rest) values are.differ;
        values = values_still_hold (IsOfKind kind) p.frequent (front ++ f ∷ rest) values are.values;
        lists = all_replaced (λ (e : Datum × List ℕ). IsList s.section.rows e.1) front o f rest (subst (All (λ (e : Datum × List ℕ). IsList s.section.rows e.1)) whole are.lists) may.1;
      };
      same_counts = λ r liked. record { values = values; totals = totals; rest = refl; cuts = refl; nodes = refl };
    }

next_of : (s : Draft) (p : PairStats) (f : Datum × List ℕ) (old : List (Datum × List ℕ)) (kind : Kind) → kind ≡ s.kind → AreFrequent kind s.section.rows p.frequent
    → p.frequent ≡ s.pair.frequent ++ old → MayBeFrequent s f → ((q : PairStats) → HasSameFilter s q → HaveSameFilterCounts q p) → Next s p f kind
next_of s p f old kind same are is may counts = by_like (slice_get s.section.pairs s.same_filter_at) refl
  where
    by_like : (o : Option PairStats) → slice_get s.section.pairs s.same_filter_at ≡ o → Next s p f kind
    by_like None none = next_for_new_filter s p f old kind same are is may none
    by_like (Some q) same_filter_at = next_as_in_pair s p q f old kind are is may same_filter_at (counts q same_filter_at)

-- if p keeps the rules, and new frequent values and a new rest list keep them, p with the new lists keeps the rules
other_values : (table : Table) (s : Draft) (p : PairStats) (frequent : List (Datum × List ℕ)) (rest : List ℕ) → HasKindAndIndexes table s → PairRules table s.section.rows s.section.pairs p
    → p.filter ≡ s.pair.filter → AreFrequent s.kind s.section.rows frequent → IsList s.section.rows rest
    → ((q : PairStats) → HasSameFilter s q → HaveSameFilterCounts p (record p { frequent = frequent; rest = rest }))
    → PairRules table s.section.rows s.section.pairs (record p { frequent = frequent; rest = rest })
other_values table s p frequent rest known rules at_filter are is counts =
    let old = rules.is in
    record {
      is = record {
        filter = old.filter;
        filter_is = old.filter_is;
        joined = old.joined;
        whole = old.whole;
        all_rows = old.all_rows;
        frequent = subst (λ k. AreFrequent k s.section.rows frequent) (sym (kind_of_pair table s p s.section.rows known old at_filter)) are;
        rest = is;
        tree = old.tree;
      };
      order = rules.order;
      agree = agrees_after table s p (record p { frequent = frequent; rest = rest }) s.section.rows known rules at_filter refl refl refl counts;
    }

pub frequent_grown : (schema : Schema) (s : Draft) (f : Datum × List ℕ) → IsValidPair (FrequentRemaining s.pair) schema s → MayBeFrequent s f
    → IsValidPair (FrequentRemaining (with_frequent s f).pair) schema (with_frequent s f)
frequent_grown schema s f v may =
    let rules = rules_of (FrequentRemaining s.pair) schema s v in
    let own = v.left in
    let g = own.grows in
    let same = kind_of_pair v.table s v.pair s.section.rows v.known rules.is g.filter in
    let next = next_of s v.pair f own.frequent rules.is.filter.kind same rules.is.frequent g.frequent_is may (same_filter_same_counts v.table s v.pair s.section.rows v.known rules g.filter) in
    let p = record v.pair { frequent = s.pair.frequent ++ f ∷ next.rest } in
    record {
      table = v.table;
      exists = v.exists;
      known = known_again v.table v.known;
      pair = p;
      own = frequent_lines next.rest v.pair.rest own.cuts own.nodes;
      left = record {
        frequent = next.rest;
        cuts = own.cuts;
        nodes = own.nodes;
        grows = record {
          filter = g.filter;
          joined = g.joined;
          frequent_is = sym (append_assoc s.pair.frequent (f ∷ []) next.rest);
          cuts_is = g.cuts_is;
          nodes_is = g.nodes_is;
        };
        whole = own.whole;
        all = refl;
      };
      keeps = keeps_with_pair (FrequentRemaining s.pair) schema s v p
          (other_values v.table s v.pair (s.pair.frequent ++ f ∷ next.rest) v.pair.rest v.known rules g.filter (subst (λ k. AreFrequent k s.section.rows (s.pair.frequent ++ f ∷ next.rest)) same next.are) rules.is.rest next.same_counts);
    }
  where
    known_again : (table : Table) → HasKindAndIndexes table s → HasKindAndIndexes table (with_frequent s f)
    known_again table k = record { column = k.column; column_is = k.column_is; kind_is = k.kind_is; same_filter_at = k.same_filter_at; same_joined_at = k.same_joined_at }

-- ---- the list of the other values (those that aren't frequent)

pub no_more : {X : Type 0} (xs ys : List X) → length (xs ++ ys) ≡ length xs → ys ≡ []
no_more [] [] e = refl
no_more [] (y ∷ ys) e = absurd (omega arith)
no_more (x ∷ xs) ys e = no_more xs ys (omega arith)

fewer_values : (kind : Kind) (rows : ℕ) (front old : List (Datum × List ℕ)) → AreFrequent kind rows (front ++ old) → AreFrequent kind rows front
fewer_values kind rows front old are =
    let len = length-append front old in
    let within_limit : length (front ++ old) ≤ 32 = are.within_limit in
    record {
      within_limit = omega arith;
      differ = pairs_front (λ (a b : Datum × List ℕ). a.0 ≢ b.0) front old are.differ;
      values = all_left (λ (e : Datum × List ℕ). IsOfKind kind e.0) front old are.values;
      lists = all_left (λ (e : Datum × List ℕ). IsList rows e.1) front old are.lists;
    }

pub rest_grown : (schema : Schema) (s : Draft) (list : List ℕ) → IsValidPair (FrequentRemaining s.pair) schema s → MayBeRest s list
    → IsValidPair (CutsRemaining (with_rest s list).pair) schema (with_rest s list)
rest_grown schema s list v may =
    let rules = rules_of (FrequentRemaining s.pair) schema s v in
    let own = v.left in
    let g = own.grows in
    let same = kind_of_pair v.table s v.pair s.section.rows v.known rules.is g.filter in
    let front = s.pair.frequent in
    let p = record v.pair { frequent = front; rest = list } in
    let are = fewer_values rules.is.filter.kind s.section.rows front own.frequent (subst (AreFrequent rules.is.filter.kind s.section.rows) g.frequent_is rules.is.frequent) in
    record {
      table = v.table;
      exists = v.exists;
      known = known_again v.table v.known;
      pair = p;
      own = histogram_lines own.cuts own.nodes;
      left = (
        own.cuts,
        record {
          nodes = own.nodes;
          grows = record { filter = g.filter; joined = g.joined; frequent_is = sym (append-nil front); cuts_is = g.cuts_is; nodes_is = g.nodes_is };
          whole = own.whole;
          rest = refl;
          all = refl;
        },
      );
      keeps = keeps_with_pair (FrequentRemaining s.pair) schema s v p
          (other_values v.table s v.pair front list v.known rules g.filter (subst (λ k. AreFrequent k s.section.rows front) same are) may.0
          (λ q same_filter_at. counted v.pair own.frequent g.frequent_is q same_filter_at (same_filter_same_counts v.table s v.pair s.section.rows v.known rules g.filter q same_filter_at)));
    }
  where
    known_again : (table : Table) → HasKindAndIndexes table s → HasKindAndIndexes table (with_rest s list)
    known_again table k = record { column = k.column; column_is = k.column_is; kind_is = k.kind_is; same_filter_at = k.same_filter_at; same_joined_at = k.same_joined_at }

    counted : (p : PairStats) (old : List (Datum × List ℕ)) → p.frequent ≡ s.pair.frequent ++ old → (q : PairStats) → HasSameFilter s q → HaveSameFilterCounts q p
        → HaveSameFilterCounts p (record p { frequent = s.pair.frequent; rest = list })
    counted p old is q same_filter_at counts =
        let alike = may.1.alike q same_filter_at in
        let len : length (s.pair.frequent ++ old) ≡ length s.pair.frequent = sym (ap length is) ∙ sym (same_count p q counts) ∙ alike.count_is in
        let none = no_more s.pair.frequent old len in
        let whole : p.frequent ≡ s.pair.frequent = is ∙ ap (λ (l : List (Datum × List ℕ)). s.pair.frequent ++ l) none ∙ append-nil s.pair.frequent in
        record {
          values = ap (map (λ (e : Datum × List ℕ). e.0)) whole;
          totals = ap (map (λ (e : Datum × List ℕ). sum e.1)) whole;
          rest = sym counts.rest ∙ alike.total;
          cuts = refl;
          nodes = refl;
        }
