-- A valid draft stays valid when a table or a pair begins or ends. A draft is valid if some file that keeps the rules extends it.
use Rattle.std.proofs.Common.{◌≡◌, ◌≢◌, ℕ, zero, suc, ◌^◌, ◌<◌, ◌≤◌, List, [], ◌∷◌, ◌++◌, length, get_or, replicate, refl, ap, sym, subst, ◌∙◌, arith, append-nil, Option, Some, None}
use Rattle.std.specs.Prelude.{All, AllPairs, slice_get, sum, pos}
use Rattle.std.specs.declared.cmp.Ordering.TheVariants.{Greater}
use Rattle.std.proofs.lemmas.List.{length-replicate}
use Rattle.std.proofs.lemmas.List.Quantifiers.{all_pairs_push}
use Rattle.std.proofs.lemmas.Str.{IsUtf8-nil}
use Rattle.degree_sequences.specs.Descending.{IsDescending}
use Rattle.schema_types.specs.declared.types.Column.{Column}
use Rattle.schema_types.specs.declared.types.Kind.{Kind}
use Rattle.schema_types.specs.declared.types.Kind.TheVariants as kinds
use Rattle.schema_types.specs.declared.types.Schema.{Schema}
use Rattle.schema_types.specs.declared.types.Table.{Table}
use Rattle.stats_file.specs.declared.types.Datum.{Datum}
use Rattle.stats_file.specs.declared.types.Datum.TheVariants as datum
use Rattle.stats_file.specs.declared.types.PairStats.{PairStats}
use Rattle.stats_file.specs.declared.types.TableStats.{TableStats}
use Rattle.stats_file.specs.Rules.{datum_cmp, PairsAgree, AreFrequent, HaveSameFilterCounts, IsList, IsOfKind, IsPair, IsSection, IsHistogram, IsHistogramOf, KeepsRules}
use Rattle.stats_reading.specs.declared.draft.Draft.{Draft}
use Rattle.stats_reading.specs.Drafts.{empty_pair, pair_ended, table_ended, HasSmallSums, BeginsPair, IsPlaceOf, HasAllNodes, MayBePair, MayBeTable, TableWithRows}
use Rattle.stats_reading.specs.Remaining.{file_of_draft, frequent_lines, section_of, whole_line, CutsRemaining, WholeRemaining}
use Rattle.stats_reading.specs.Valid.{IsValidPair, IsValidSection}
use Rattle.stats_reading.proofs.Counts.{members_agree}
use Rattle.stats_reading.proofs.Edges.{with_new_pair, ended_is, same_pair, table_is, with_section}
use Rattle.stats_reading.proofs.Grown.{no_more, rules_of}
use Rattle.stats_reading.proofs.OrderFacts.{all_replicated, pairs_padded, value_never_above_itself}
use Rattle.stats_reading.proofs.RuleFacts.{section_at, section_rules, with_pair, PairRules}
use Rattle.stats_reading.proofs.AppendedLists.{all_at, all_left, all_pushed, both_some_same}

-- ---- a pair ends

append_is_empty : {X : Type 0} (xs ys : List X) → xs ++ ys ≡ [] → (xs ≡ []) × (ys ≡ [])
append_is_empty [] ys e = (refl, e)
append_is_empty (x ∷ xs) ys e = absurd (cc)

no_more_cuts : (kind : Kind) (rows : ℕ) (front old : List Datum) (nodes : List (List ℕ)) → IsHistogramOf kind rows (front ++ old) nodes → (0 < rows → length front ≡ 32) → old ≡ []
no_more_cuts kind zero front old nodes (none, others) all = (append_is_empty front old none).1
no_more_cuts kind (suc n) front old nodes is all = no_more front old (is.leaves ∙ sym (all (omega arith)))

no_more_nodes : (kind : Kind) (rows : ℕ) (cuts : List Datum) (front old : List (List ℕ)) → IsHistogramOf kind rows cuts (front ++ old) → (0 < rows → length front ≡ 63) → old ≡ []
no_more_nodes kind zero cuts front old (none, others) all = (append_is_empty front old others).1
no_more_nodes kind (suc n) cuts front old is all = no_more front old (is.all ∙ sym (all (omega arith)))

pub pair_ended_valid : (schema : Schema) (s : Draft) → IsValidPair (CutsRemaining s.pair) schema s → HasAllNodes s → IsValidSection schema (pair_ended s)
pair_ended_valid schema s v whole =
    let rules = rules_of (CutsRemaining s.pair) schema s v in
    let cuts = v.left.0 in
    let tree = v.left.1 in
    let g = tree.grows in
    let kind = rules.is.filter.kind in
    let of_cuts = subst (λ (cs : List Datum). IsHistogramOf kind s.section.rows cs v.pair.nodes) g.cuts_is rules.is.tree in
    let of_nodes = subst (λ (ns : List (List ℕ)). IsHistogramOf kind s.section.rows v.pair.cuts ns) g.nodes_is rules.is.tree in
    let no_cuts = no_more_cuts kind s.section.rows s.pair.cuts cuts v.pair.nodes of_cuts (λ some. (whole some).0) in
    let no_nodes = no_more_nodes kind s.section.rows v.pair.cuts s.pair.nodes tree.nodes of_nodes (λ some. (whole some).1) in
    let same = same_pair v.pair s.pair g.filter g.joined tree.whole (g.frequent_is ∙ append-nil s.pair.frequent) tree.rest
    (g.cuts_is ∙ ap (λ (l : List Datum). s.pair.cuts ++ l) no_cuts ∙ append-nil s.pair.cuts)
    (g.nodes_is ∙ ap (λ (l : List (List ℕ)). s.pair.nodes ++ l) no_nodes ∙ append-nil s.pair.nodes) in
    record {
      table = v.table;
      exists = v.exists;
      keeps = subst (KeepsRules schema) (ap (λ (p : PairStats). file_of_draft s (section_of s (p ∷ []) ∷ [])) same ∙ ended_is s [] []) v.keeps;
    }

-- ---- a table ends

pub table_ended_valid : (schema : Schema) (s : Draft) → IsValidSection schema s → KeepsRules schema (file_of_draft (table_ended s) [])
table_ended_valid schema s v = subst (KeepsRules schema) (table_is s []) v.keeps

-- ---- a table begins

pub table_begun_valid : (schema : Schema) (s : Draft) (v : TableWithRows) → KeepsRules schema (file_of_draft s []) → MayBeTable schema s v → IsValidSection schema (with_section s v)
table_begun_valid schema s v keeps may =
    let none : s.tables ++ [] ≡ s.tables = append-nil s.tables in
    let section = section_of (with_section s v) [] in
    record {
      table = v.table;
      exists = may.exists;
      keeps = record {
        least = keeps.least;
        most = keeps.most;
        order = all_pairs_push (λ (a b : TableStats). a.table < b.table) s.tables section (subst (AllPairs (λ (a b : TableStats). a.table < b.table)) none keeps.order) may.later;
        tables = all_pushed (IsSection schema) s.tables section (subst (All (IsSection schema)) none keeps.tables) (record {
          table = v.table;
          table_is = may.exists;
          rows = may.within_limit;
          pairs = λ k d lt. absurd (omega arith);
          order = λ i j d less lt. absurd (omega arith);
          agree = λ i j d less lt. absurd (omega arith);
        });
      };
    }

-- ---- a pair begins

list_of_none : (rows : ℕ) → IsList rows []
list_of_none rows = record { descends = λ r. omega arith; positive = λ k d lt. absurd (omega arith); within = omega arith }

abbrev no_list : List ℕ
no_list = []

-- a list of all rows that a new pair may have: all rows have the same joined value
abbrev all_rows : ℕ → List ℕ
all_rows zero = []
all_rows (suc n) = suc n ∷ []

all_rows_is : (rows : ℕ) → IsList rows (all_rows rows) × (sum (all_rows rows) ≡ rows)
all_rows_is zero = (list_of_none 0, refl)
all_rows_is (suc n) = (record { descends = descends; positive = positive; within = omega arith }, omega arith)
  where
    descends : IsDescending (suc n ∷ [])
    descends r = omega arith

    positive : All (λ x. 0 < x) (suc n ∷ [])
    positive zero d lt = omega arith
    positive (suc k) d lt = absurd (omega arith)

-- some value of this kind
abbrev some_value : Kind → Datum
some_value kinds.Int = datum.Int (pos 0)
some_value (kinds.Text most) = datum.Text []

some_value_is : (kind : Kind) → IsOfKind kind (some_value kind)
some_value_is kinds.Int = record { sfits = omega arith }
some_value_is (kinds.Text most) = IsUtf8-nil

some_tree_is : (kind : Kind) (rows : ℕ) → IsHistogram kind rows (replicate 32 (some_value kind)) (replicate 63 no_list)
some_tree_is kind rows = record {
  leaves = length-replicate 32 (some_value kind);
  values = all_replicated (IsOfKind kind) 32 (some_value kind) (some_value_is kind);
  order = pairs_padded (λ a b. datum_cmp a b ≢ Greater) 32 [] (some_value kind) (λ i j d less lt. absurd (omega arith)) (λ k d lt. absurd (omega arith)) (value_never_above_itself (some_value kind));
  all = length-replicate 63 no_list;
  lists = all_replicated (IsList rows) 63 no_list (list_of_none rows);
}

-- lists that complete a new pair whose list of all rows is `whole`
record RestOfPair (s : Draft) (kind : Kind) (rows filter joined : ℕ) (whole : List ℕ) : Type 0 where
  frequent : List (Datum × List ℕ)
  rest : List ℕ
  cuts : List Datum
  nodes : List (List ℕ)
  are : AreFrequent kind rows frequent
  rest_is : IsList rows rest
  tree : IsHistogramOf kind rows cuts nodes
  counts : (k : ℕ) (d : PairStats) → k < length s.section.pairs → (get_or s.section.pairs k d).filter ≡ filter
      → HaveSameFilterCounts (get_or s.section.pairs k d) (record { filter = filter; joined = joined; whole = whole; frequent = frequent; rest = rest; cuts = cuts; nodes = nodes })

no_values : (kind : Kind) (rows : ℕ) → AreFrequent kind rows []
no_values kind rows = record {
  within_limit = omega arith;
  differ = λ i j d less lt. absurd (omega arith);
  values = λ k d lt. absurd (omega arith);
  lists = λ k d lt. absurd (omega arith);
}

rest_for_new_filter : (s : Draft) (kind : Kind) (rows filter joined : ℕ) (whole : List ℕ) → All (λ q. q.filter ≢ filter) s.section.pairs → RestOfPair s kind rows filter joined whole
rest_for_new_filter s kind zero filter joined whole none = record {
  frequent = [];
  rest = [];
  cuts = [];
  nodes = [];
  are = no_values kind 0;
  rest_is = list_of_none 0;
  tree = (refl, refl);
  counts = λ k d lt e. absurd (none k d lt e);
}
rest_for_new_filter s kind (suc n) filter joined whole none = record {
  frequent = [];
  rest = [];
  cuts = replicate 32 (some_value kind);
  nodes = replicate 63 no_list;
  are = no_values kind (suc n);
  rest_is = list_of_none (suc n);
  tree = some_tree_is kind (suc n);
  counts = λ k d lt e. absurd (none k d lt e);
}

rest_as_in_pair : (table : Table) (s : Draft) (kind : Kind) (filter joined place : ℕ) (whole : List ℕ) (q : PairStats) (is : IsPair table s.section.rows q) → is.filter.kind ≡ kind → AllPairs PairsAgree s.section.pairs
    → slice_get s.section.pairs place ≡ Some q → q.filter ≡ filter → RestOfPair s kind s.section.rows filter joined whole
rest_as_in_pair table s kind filter joined place whole q is same agree at column = record {
  frequent = q.frequent;
  rest = q.rest;
  cuts = q.cuts;
  nodes = q.nodes;
  are = subst (λ k. AreFrequent k s.section.rows q.frequent) same is.frequent;
  rest_is = is.rest;
  tree = subst (λ k. IsHistogramOf k s.section.rows q.cuts q.nodes) same is.tree;
  counts = λ k d lt e. again k d ((members_agree s.section.pairs k place d q agree lt at).filter (e ∙ sym column));
}
  where
    again : (k : ℕ) (d : PairStats) → HaveSameFilterCounts (get_or s.section.pairs k d) q
        → HaveSameFilterCounts (get_or s.section.pairs k d) (record { filter = filter; joined = joined; whole = whole; frequent = q.frequent; rest = q.rest; cuts = q.cuts; nodes = q.nodes })
    again k d h = record { values = h.values; totals = h.totals; rest = h.rest; cuts = h.cuts; nodes = h.nodes }

-- a list of all rows with which a new pair with this joined column may begin
record ListOfAllRows (s : Draft) (joined : ℕ) : Type 0 where
  whole : List ℕ
  is : IsList s.section.rows whole
  all : sum whole ≡ s.section.rows
  alike : (k : ℕ) (d : PairStats) → k < length s.section.pairs → (get_or s.section.pairs k d).joined ≡ joined → (get_or s.section.pairs k d).whole ≡ whole

list_of_all_rows : (table : Table) (s : Draft) (joined place : ℕ) → All (IsPair table s.section.rows) s.section.pairs → AllPairs PairsAgree s.section.pairs
    → IsPlaceOf (λ q. q.joined) joined s.section.pairs place → ListOfAllRows s joined
list_of_all_rows table s joined place are agree found = at (slice_get s.section.pairs place) refl
  where
    at : (o : Option PairStats) → slice_get s.section.pairs place ≡ o → ListOfAllRows s joined
    at None e = record {
      whole = all_rows s.section.rows;
      is = (all_rows_is s.section.rows).0;
      all = (all_rows_is s.section.rows).1;
      alike = λ k d lt f. absurd (found.none e k d lt f);
    }
    at (Some q) e =
        let is = all_at (IsPair table s.section.rows) s.section.pairs place q are e in
        record {
          whole = q.whole;
          is = is.whole;
          all = is.all_rows;
          alike = λ k d lt f. (members_agree s.section.pairs k place d q agree lt e).joined (f ∙ sym (found.found q e));
        }

counted : (table : Table) (s : Draft) (column : Column) (filter joined place : ℕ) (whole : List ℕ) → slice_get table.columns filter ≡ Some column
    → All (IsPair table s.section.rows) s.section.pairs → AllPairs PairsAgree s.section.pairs → IsPlaceOf (λ q. q.filter) filter s.section.pairs place
    → RestOfPair s column.kind s.section.rows filter joined whole
counted table s column filter joined place whole exists are agree found = at (slice_get s.section.pairs place) refl
  where
    at : (o : Option PairStats) → slice_get s.section.pairs place ≡ o → RestOfPair s column.kind s.section.rows filter joined whole
    at None e = rest_for_new_filter s column.kind s.section.rows filter joined whole (found.none e)
    at (Some q) e =
        let is = all_at (IsPair table s.section.rows) s.section.pairs place q are e in
        let same : q.filter ≡ filter = found.found q e in
        let column_is : slice_get table.columns filter ≡ Some is.filter = ap (λ n. slice_get table.columns n) (sym same) ∙ is.filter_is in
        rest_as_in_pair table s column.kind filter joined place whole q is
        (ap (λ (c : Column). c.kind) (both_some_same is.filter column (slice_get table.columns filter) column_is exists)) agree e same

begun_valid : (schema : Schema) (table : Table) (s : Draft) (filter joined same_filter_at same_joined_at : ℕ) (column : Column) → IsValidSection schema s → slice_get schema.tables s.section.table ≡ Some table
    → MayBePair table s filter joined → slice_get table.columns filter ≡ Some column → IsPlaceOf (λ q. q.filter) filter s.section.pairs same_filter_at
    → IsPlaceOf (λ q. q.joined) joined s.section.pairs same_joined_at
    → IsValidPair (WholeRemaining (empty_pair filter joined)) schema (with_new_pair s filter joined column.kind same_filter_at same_joined_at)
begun_valid schema table s filter joined same_filter_at same_joined_at column v exists may column_is has_like has_twin =
    let none : s.section.pairs ++ [] ≡ s.section.pairs = append-nil s.section.pairs in
    let rules = section_rules schema table (section_of s []) (section_at schema s [] [] v.keeps) exists in
    let are = subst (All (IsPair table s.section.rows)) none rules.pairs in
    let agree = subst (AllPairs PairsAgree) none rules.agree in
    let t = list_of_all_rows table s joined same_joined_at are agree has_twin in
    let n = counted table s column filter joined same_filter_at t.whole column_is are agree has_like in
    let p : PairStats = record { filter = filter; joined = joined; whole = t.whole; frequent = n.frequent; rest = n.rest; cuts = n.cuts; nodes = n.nodes } in
    let of_pair : PairRules table s.section.rows s.section.pairs p = record {
      is = record {
        filter = column;
        filter_is = column_is;
        joined = may.joined_is;
        whole = t.is;
        all_rows = t.all;
        frequent = n.are;
        rest = n.rest_is;
        tree = n.tree;
      };
      order = may.later;
      agree = λ k d lt. record { joined = λ e. t.alike k d lt e; filter = λ e. n.counts k d lt e };
    } in
    record {
      table = table;
      exists = exists;
      known = record { column = column; column_is = column_is; kind_is = refl; same_filter_at = has_like; same_joined_at = has_twin };
      pair = p;
      own = whole_line t.whole ∷ frequent_lines n.frequent n.rest n.cuts n.nodes;
      left = record {
        frequent = n.frequent;
        cuts = n.cuts;
        nodes = n.nodes;
        grows = record { filter = refl; joined = refl; frequent_is = refl; cuts_is = refl; nodes_is = refl };
        all = refl;
      };
      keeps = with_pair schema table s p exists v.keeps of_pair;
    }

pub pair_begun_valid : (schema : Schema) (table : Table) (s t : Draft) (filter joined : ℕ) → IsValidSection schema s → slice_get schema.tables s.section.table ≡ Some table
    → MayBePair table s filter joined → BeginsPair table s t filter joined → IsValidPair (WholeRemaining t.pair) schema t
pair_begun_valid schema table s t filter joined v exists may b =
    subst (λ (x : Draft). IsValidPair (WholeRemaining x.pair) schema x) (sym b.whole)
    (begun_valid schema table s filter joined t.same_filter_at t.same_joined_at b.column v exists may b.column_is b.same_filter_at b.same_joined_at)

-- ---- sums of lists fit into a `u64`

pair_sums_fit : (table : Table) (rows : ℕ) (q : PairStats) → rows < 2 ^ 64 → IsPair table rows q → HasSmallSums q
pair_sums_fit table rows q within_limit is = record {
  rest = let within : sum q.rest ≤ rows = is.rest.within in omega arith;
  frequent = λ k d lt. let within : sum (get_or q.frequent k d).1 ≤ rows = (is.frequent.lists k d lt).within in omega arith;
  nodes = λ k d lt. let within : sum (get_or q.nodes k d) ≤ rows = (node_lists is.filter.kind rows q.cuts q.nodes is.tree k d lt).within in omega arith;
}
  where
    node_lists : (kind : Kind) (n : ℕ) (cuts : List Datum) (nodes : List (List ℕ)) → IsHistogramOf kind n cuts nodes → All (IsList n) nodes
    node_lists kind zero cuts nodes (none, others) = subst (λ (ns : List (List ℕ)). All (IsList zero) ns) (sym others) (λ i d lt. absurd (omega arith))
    node_lists kind (suc n) cuts nodes is = is.lists

pub pairs_sums_fit : (schema : Schema) (table : Table) (s : Draft) (pairs : List PairStats) (tables : List TableStats) → slice_get schema.tables s.section.table ≡ Some table
    → KeepsRules schema (file_of_draft s (section_of s pairs ∷ tables)) → All HasSmallSums s.section.pairs
pairs_sums_fit schema table s pairs tables exists keeps =
    let at = section_at schema s pairs tables keeps in
    let rules = section_rules schema table (section_of s pairs) at exists in
    let within_limit : s.section.rows ≤ 4000000 = at.rows in
    let are = all_left (IsPair table s.section.rows) s.section.pairs pairs rules.pairs in
    λ k d lt. pair_sums_fit table s.section.rows (get_or s.section.pairs k d) (omega arith) (are k d lt)
