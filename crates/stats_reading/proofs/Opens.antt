-- If a file extends the draft, the value of the file's next line may come next in the current pair.
use Rattle.std.proofs.Common.{◌≡◌, ℕ, List, [], ◌∷◌, ◌++◌, map, refl, ap, sym, subst, ◌∙◌, append-nil, append_assoc, Some}
use Rattle.std.specs.Prelude.{slice_get}
use Rattle.schema_types.specs.declared.types.Schema.{Schema}
use Rattle.schema_types.specs.declared.types.Table.{Table}
use Rattle.stats_file.specs.declared.types.Datum.{Datum}
use Rattle.stats_file.specs.declared.types.PairStats.{PairStats}
use Rattle.stats_file.specs.declared.types.StatsFile.{StatsFile}
use Rattle.stats_file.specs.FileText.{histogram_node_line, value_line}
use Rattle.stats_file.specs.Lines.{cut_line}
use Rattle.stats_file.specs.Rules.{KeepsRules}
use Rattle.stats_reading.specs.declared.draft.Draft.{Draft}
use Rattle.stats_reading.specs.Drafts.{with_cut, with_frequent, with_node, with_rest, with_whole, MayBeCut, MayBeFrequent, MayBeNode, MayBeRest, MayBeWhole}
use Rattle.stats_reading.specs.Remaining.{frequent_lines, pairs_left, rest_line, histogram_lines, whole_line, CutsRemaining, FrequentRemaining, PairGrows, InPair, NodesRemaining, WholeRemaining}
use Rattle.stats_reading.specs.Valid.{HasKindAndIndexes}
use Rattle.stats_reading.proofs.NextFacts.{may_cut, may_frequent, may_node, may_rest, may_whole}
use Rattle.stats_reading.proofs.RuleFacts.{pair_rules, PairRules}
use Rattle.stats_reading.proofs.AppendedLists.{both_some_same}
use Rattle.stats_reading.proofs.Tags.{after_pair, frequent_parts, tag, tree_parts, FrequentParts, TreeParts}

pub record IsLineOfNext {X : Type 0} (line_of : X → List ℕ) (MayBe Rest : X → Type 0) (line : List ℕ) : Type 0 where
  pub value : X
  pub is : line ≡ line_of value
  pub may : MayBe value
  pub rest : Rest value

abbrev pub KnownIn : Schema → Draft → Type 0
KnownIn schema s = (table : Table) → slice_get schema.tables s.section.table ≡ Some table → HasKindAndIndexes table s

pub known_in : (schema : Schema) (s : Draft) (table : Table) → slice_get schema.tables s.section.table ≡ Some table → HasKindAndIndexes table s → KnownIn schema s
known_in schema s table exists known other found = subst (λ t. HasKindAndIndexes t s) (both_some_same table other (slice_get schema.tables s.section.table) exists found) known

pub rules_here : (Left : PairStats → List (List ℕ) → Type 0) (schema : Schema) (s : Draft) (file : StatsFile) (lines : List (List ℕ)) (h : InPair Left schema s file lines)
    → PairRules h.table s.section.rows s.section.pairs h.pair
rules_here Left schema s file lines h = pair_rules schema h.table s h.pair h.pairs h.tables h.exists (subst (KeepsRules schema) h.is h.keeps)

-- ---- cuts and nodes

pub nodes_are_cuts_remaining : (schema : Schema) (s : Draft) (file : StatsFile) (lines : List (List ℕ)) → InPair (NodesRemaining s.pair) schema s file lines → InPair (CutsRemaining s.pair) schema s file lines
nodes_are_cuts_remaining schema s file lines h = record {
  table = h.table;
  exists = h.exists;
  pair = h.pair;
  own = h.own;
  left = ([], h.left);
  pairs = h.pairs;
  tables = h.tables;
  keeps = h.keeps;
  is = h.is;
  all = h.all;
}

pub parts_here : (schema : Schema) (s : Draft) (file : StatsFile) (line : List ℕ) (more : List (List ℕ)) (h : InPair (CutsRemaining s.pair) schema s file (line ∷ more))
    → TreeParts h.left.0 h.left.1.nodes line more (pairs_left schema h.table h.pairs h.tables)
parts_here schema s file line more h =
    let after = pairs_left schema h.table h.pairs h.tables in
    tree_parts h.left.0 h.left.1.nodes line more after (after_pair schema h.table h.pairs h.tables line more) (h.all ∙ ap (λ (own : List (List ℕ)). own ++ after) h.left.1.all)

pub open_cut : (schema : Schema) (s : Draft) → KnownIn schema s → (file : StatsFile) (line : List ℕ) (more : List (List ℕ)) → InPair (CutsRemaining s.pair) schema s file (line ∷ more) → tag line ≡ 99
    → IsLineOfNext cut_line (MayBeCut s) (λ v. InPair (CutsRemaining (with_cut s v).pair) schema (with_cut s v) file more) line
open_cut schema s known file line more h t =
    let f = (parts_here schema s file line more h).cut t in
    let tree = h.left.1 in
    let after = pairs_left schema h.table h.pairs h.tables in
    let is : h.pair.cuts ≡ s.pair.cuts ++ f.head ∷ f.rest = tree.grows.cuts_is ∙ ap (λ (l : List Datum). s.pair.cuts ++ l) f.xs_are in
    record {
      value = f.head;
      is = f.line_is;
      may = may_cut h.table s h.pair f.head f.rest (known h.table h.exists) (rules_here (CutsRemaining s.pair) schema s file (line ∷ more) h) tree.grows.filter is;
      rest = record {
        table = h.table;
        exists = h.exists;
        pair = h.pair;
        own = histogram_lines f.rest tree.nodes;
        left = (
          f.rest,
          record {
            nodes = tree.nodes;
            grows = record {
              filter = tree.grows.filter;
              joined = tree.grows.joined;
              frequent_is = tree.grows.frequent_is;
              cuts_is = is ∙ sym (append_assoc s.pair.cuts (f.head ∷ []) f.rest);
              nodes_is = tree.grows.nodes_is;
            };
            whole = tree.whole;
            rest = tree.rest;
            all = refl;
          },
        );
        pairs = h.pairs;
        tables = h.tables;
        keeps = h.keeps;
        is = h.is;
        all = f.more_are ∙ sym (append_assoc (map cut_line f.rest) (map histogram_node_line tree.nodes) after);
      };
    }

pub close_cut : (schema : Schema) (s : Draft) (cut : Datum) (file : StatsFile) (more : List (List ℕ)) → InPair (CutsRemaining (with_cut s cut).pair) schema (with_cut s cut) file more
    → InPair (CutsRemaining s.pair) schema s file (cut_line cut ∷ more)
close_cut schema s cut file more h =
    let tree = h.left.1 in
    let cuts = h.left.0 in
    let after = pairs_left schema h.table h.pairs h.tables in
    record {
      table = h.table;
      exists = h.exists;
      pair = h.pair;
      own = histogram_lines (cut ∷ cuts) tree.nodes;
      left = (
        cut ∷ cuts,
        record {
          nodes = tree.nodes;
          grows = record {
            filter = tree.grows.filter;
            joined = tree.grows.joined;
            frequent_is = tree.grows.frequent_is;
            cuts_is = tree.grows.cuts_is ∙ append_assoc s.pair.cuts (cut ∷ []) cuts;
            nodes_is = tree.grows.nodes_is;
          };
          whole = tree.whole;
          rest = tree.rest;
          all = refl;
        },
      );
      pairs = h.pairs;
      tables = h.tables;
      keeps = h.keeps;
      is = h.is;
      all = ap (λ (ls : List (List ℕ)). cut_line cut ∷ ls) (h.all ∙ ap (λ (own : List (List ℕ)). own ++ after) tree.all);
    }

pub open_node : (schema : Schema) (s : Draft) → KnownIn schema s → (file : StatsFile) (line : List ℕ) (more : List (List ℕ)) → InPair (CutsRemaining s.pair) schema s file (line ∷ more) → tag line ≡ 110
    → IsLineOfNext histogram_node_line (MayBeNode s) (λ v. InPair (NodesRemaining (with_node s v).pair) schema (with_node s v) file more) line
open_node schema s known file line more h t =
    let found = (parts_here schema s file line more h).node t in
    let f = found.1 in
    let tree = h.left.1 in
    let is : h.pair.nodes ≡ s.pair.nodes ++ f.head ∷ f.rest = tree.grows.nodes_is ∙ ap (λ (l : List (List ℕ)). s.pair.nodes ++ l) f.xs_are in
    let cuts : h.pair.cuts ≡ s.pair.cuts ++ [] = tree.grows.cuts_is ∙ ap (λ (l : List Datum). s.pair.cuts ++ l) found.0 in
    record {
      value = f.head;
      is = f.line_is;
      may = may_node h.table s h.pair f.head f.rest (known h.table h.exists) (rules_here (CutsRemaining s.pair) schema s file (line ∷ more) h) tree.grows.filter
          (cuts ∙ append-nil s.pair.cuts) is;
      rest = record {
        table = h.table;
        exists = h.exists;
        pair = h.pair;
        own = map histogram_node_line f.rest;
        left = record {
          nodes = f.rest;
          grows = record {
            filter = tree.grows.filter;
            joined = tree.grows.joined;
            frequent_is = tree.grows.frequent_is;
            cuts_is = cuts;
            nodes_is = is ∙ sym (append_assoc s.pair.nodes (f.head ∷ []) f.rest);
          };
          whole = tree.whole;
          rest = tree.rest;
          all = refl;
        };
        pairs = h.pairs;
        tables = h.tables;
        keeps = h.keeps;
        is = h.is;
        all = f.more_are;
      };
    }

pub close_node : (schema : Schema) (s : Draft) (node : List ℕ) (file : StatsFile) (more : List (List ℕ)) → InPair (NodesRemaining (with_node s node).pair) schema (with_node s node) file more
    → InPair (NodesRemaining s.pair) schema s file (histogram_node_line node ∷ more)
close_node schema s node file more h =
    let tree = h.left in
    let after = pairs_left schema h.table h.pairs h.tables in
    record {
      table = h.table;
      exists = h.exists;
      pair = h.pair;
      own = map histogram_node_line (node ∷ tree.nodes);
      left = record {
        nodes = node ∷ tree.nodes;
        grows = record {
          filter = tree.grows.filter;
          joined = tree.grows.joined;
          frequent_is = tree.grows.frequent_is;
          cuts_is = tree.grows.cuts_is;
          nodes_is = tree.grows.nodes_is ∙ append_assoc s.pair.nodes (node ∷ []) tree.nodes;
        };
        whole = tree.whole;
        rest = tree.rest;
        all = refl;
      };
      pairs = h.pairs;
      tables = h.tables;
      keeps = h.keeps;
      is = h.is;
      all = ap (λ (ls : List (List ℕ)). histogram_node_line node ∷ ls) (h.all ∙ ap (λ (own : List (List ℕ)). own ++ after) tree.all);
    }

-- ---- the list of all rows

pub open_whole : (schema : Schema) (s : Draft) → KnownIn schema s → (file : StatsFile) (line : List ℕ) (more : List (List ℕ)) → InPair (WholeRemaining s.pair) schema s file (line ∷ more)
    → IsLineOfNext whole_line (MayBeWhole s) (λ v. InPair (FrequentRemaining (with_whole s v).pair) schema (with_whole s v) file more) line
open_whole schema s known file line more h =
    let own = h.left in
    let after = pairs_left schema h.table h.pairs h.tables in
    let whole : line ∷ more ≡ whole_line h.pair.whole ∷ (frequent_lines own.frequent h.pair.rest own.cuts own.nodes ++ after) = h.all ∙ ap (λ (o : List (List ℕ)). o ++ after) own.all in
    record {
      value = h.pair.whole;
      is = cc;
      may = may_whole h.table s h.pair (known h.table h.exists) (rules_here (WholeRemaining s.pair) schema s file (line ∷ more) h) own.grows.joined;
      rest = record {
        table = h.table;
        exists = h.exists;
        pair = h.pair;
        own = frequent_lines own.frequent h.pair.rest own.cuts own.nodes;
        left = record { frequent = own.frequent; cuts = own.cuts; nodes = own.nodes; grows = again own.grows; whole = refl; all = refl };
        pairs = h.pairs;
        tables = h.tables;
        keeps = h.keeps;
        is = h.is;
        all = cc;
      };
    }
  where
    again : {p : PairStats} {fs : List (Datum × List ℕ)} {cs : List Datum} {ns : List (List ℕ)} → PairGrows s.pair p fs cs ns → PairGrows (with_whole s p.whole).pair p fs cs ns
    again g = record { filter = g.filter; joined = g.joined; frequent_is = g.frequent_is; cuts_is = g.cuts_is; nodes_is = g.nodes_is }

pub close_whole : (schema : Schema) (s : Draft) (list : List ℕ) (file : StatsFile) (more : List (List ℕ)) → InPair (FrequentRemaining (with_whole s list).pair) schema (with_whole s list) file more
    → InPair (WholeRemaining s.pair) schema s file (whole_line list ∷ more)
close_whole schema s list file more h =
    let own = h.left in
    let g = own.grows in
    let after = pairs_left schema h.table h.pairs h.tables in
    let lines = frequent_lines own.frequent h.pair.rest own.cuts own.nodes in
    record {
      table = h.table;
      exists = h.exists;
      pair = h.pair;
      own = whole_line h.pair.whole ∷ lines;
      left = record {
        frequent = own.frequent;
        cuts = own.cuts;
        nodes = own.nodes;
        grows = record { filter = g.filter; joined = g.joined; frequent_is = g.frequent_is; cuts_is = g.cuts_is; nodes_is = g.nodes_is };
        all = refl;
      };
      pairs = h.pairs;
      tables = h.tables;
      keeps = h.keeps;
      is = h.is;
      all = ap (λ (ls : List (List ℕ)). whole_line list ∷ ls) (h.all ∙ ap (λ (o : List (List ℕ)). o ++ after) own.all)
          ∙ ap (λ (l : List ℕ). whole_line l ∷ (lines ++ after)) (sym own.whole);
    }

-- ---- frequent values, and the list of the other values

values_here : (schema : Schema) (s : Draft) (file : StatsFile) (line : List ℕ) (more : List (List ℕ)) (h : InPair (FrequentRemaining s.pair) schema s file (line ∷ more))
    → FrequentParts h.left.frequent h.pair.rest line more (histogram_lines h.left.cuts h.left.nodes) (pairs_left schema h.table h.pairs h.tables)
values_here schema s file line more h =
    let after = pairs_left schema h.table h.pairs h.tables in
    frequent_parts h.left.frequent h.pair.rest line more (histogram_lines h.left.cuts h.left.nodes) after (h.all ∙ ap (λ (own : List (List ℕ)). own ++ after) h.left.all)

pub open_frequent : (schema : Schema) (s : Draft) → KnownIn schema s → (file : StatsFile) (line : List ℕ) (more : List (List ℕ)) → InPair (FrequentRemaining s.pair) schema s file (line ∷ more)
    → tag line ≡ 102 → IsLineOfNext value_line (MayBeFrequent s) (λ v. InPair (FrequentRemaining (with_frequent s v).pair) schema (with_frequent s v) file more) line
open_frequent schema s known file line more h t =
    let f = (values_here schema s file line more h).value t in
    let own = h.left in
    let g = own.grows in
    let after = pairs_left schema h.table h.pairs h.tables in
    let is : h.pair.frequent ≡ s.pair.frequent ++ f.head ∷ f.rest = g.frequent_is ∙ ap (λ (l : List (Datum × List ℕ)). s.pair.frequent ++ l) f.xs_are in
    record {
      value = f.head;
      is = f.line_is;
      may = may_frequent h.table s h.pair f.head f.rest (known h.table h.exists) (rules_here (FrequentRemaining s.pair) schema s file (line ∷ more) h) g.filter is;
      rest = record {
        table = h.table;
        exists = h.exists;
        pair = h.pair;
        own = frequent_lines f.rest h.pair.rest own.cuts own.nodes;
        left = record {
          frequent = f.rest;
          cuts = own.cuts;
          nodes = own.nodes;
          grows = record {
            filter = g.filter;
            joined = g.joined;
            frequent_is = is ∙ sym (append_assoc s.pair.frequent (f.head ∷ []) f.rest);
            cuts_is = g.cuts_is;
            nodes_is = g.nodes_is;
          };
          whole = own.whole;
          all = refl;
        };
        pairs = h.pairs;
        tables = h.tables;
        keeps = h.keeps;
        is = h.is;
        all = f.more_are ∙ sym (append_assoc (map value_line f.rest) (rest_line h.pair.rest ∷ histogram_lines own.cuts own.nodes) after);
      };
    }

pub close_frequent : (schema : Schema) (s : Draft) (f : Datum × List ℕ) (file : StatsFile) (more : List (List ℕ))
    → InPair (FrequentRemaining (with_frequent s f).pair) schema (with_frequent s f) file more → InPair (FrequentRemaining s.pair) schema s file (value_line f ∷ more)
close_frequent schema s f file more h =
    let own = h.left in
    let g = own.grows in
    let after = pairs_left schema h.table h.pairs h.tables in
    record {
      table = h.table;
      exists = h.exists;
      pair = h.pair;
      own = frequent_lines (f ∷ own.frequent) h.pair.rest own.cuts own.nodes;
      left = record {
        frequent = f ∷ own.frequent;
        cuts = own.cuts;
        nodes = own.nodes;
        grows = record {
          filter = g.filter;
          joined = g.joined;
          frequent_is = g.frequent_is ∙ append_assoc s.pair.frequent (f ∷ []) own.frequent;
          cuts_is = g.cuts_is;
          nodes_is = g.nodes_is;
        };
        whole = own.whole;
        all = refl;
      };
      pairs = h.pairs;
      tables = h.tables;
      keeps = h.keeps;
      is = h.is;
      all = ap (λ (ls : List (List ℕ)). value_line f ∷ ls) (h.all ∙ ap (λ (o : List (List ℕ)). o ++ after) own.all);
    }

pub open_rest : (schema : Schema) (s : Draft) → KnownIn schema s → (file : StatsFile) (line : List ℕ) (more : List (List ℕ)) → InPair (FrequentRemaining s.pair) schema s file (line ∷ more)
    → tag line ≡ 114 → IsLineOfNext rest_line (MayBeRest s) (λ v. InPair (CutsRemaining (with_rest s v).pair) schema (with_rest s v) file more) line
open_rest schema s known file line more h t =
    let found = (values_here schema s file line more h).others t in
    let own = h.left in
    let g = own.grows in
    let is : h.pair.frequent ≡ s.pair.frequent ++ [] = g.frequent_is ∙ ap (λ (l : List (Datum × List ℕ)). s.pair.frequent ++ l) found.0 in
    record {
      value = h.pair.rest;
      is = found.1;
      may = may_rest h.table s h.pair (known h.table h.exists) (rules_here (FrequentRemaining s.pair) schema s file (line ∷ more) h) g.filter (is ∙ append-nil s.pair.frequent);
      rest = record {
        table = h.table;
        exists = h.exists;
        pair = h.pair;
        own = histogram_lines own.cuts own.nodes;
        left = (
          own.cuts,
          record {
            nodes = own.nodes;
            grows = record { filter = g.filter; joined = g.joined; frequent_is = is; cuts_is = g.cuts_is; nodes_is = g.nodes_is };
            whole = own.whole;
            rest = refl;
            all = refl;
          },
        );
        pairs = h.pairs;
        tables = h.tables;
        keeps = h.keeps;
        is = h.is;
        all = found.2;
      };
    }

pub close_rest : (schema : Schema) (s : Draft) (list : List ℕ) (file : StatsFile) (more : List (List ℕ)) → InPair (CutsRemaining (with_rest s list).pair) schema (with_rest s list) file more
    → InPair (FrequentRemaining s.pair) schema s file (rest_line list ∷ more)
close_rest schema s list file more h =
    let tree = h.left.1 in
    let cuts = h.left.0 in
    let g = tree.grows in
    let after = pairs_left schema h.table h.pairs h.tables in
    record {
      table = h.table;
      exists = h.exists;
      pair = h.pair;
      own = frequent_lines [] h.pair.rest cuts tree.nodes;
      left = record {
        frequent = [];
        cuts = cuts;
        nodes = tree.nodes;
        grows = record { filter = g.filter; joined = g.joined; frequent_is = g.frequent_is; cuts_is = g.cuts_is; nodes_is = g.nodes_is };
        whole = tree.whole;
        all = refl;
      };
      pairs = h.pairs;
      tables = h.tables;
      keeps = h.keeps;
      is = h.is;
      all = ap (λ (ls : List (List ℕ)). rest_line list ∷ ls) (h.all ∙ ap (λ (o : List (List ℕ)). o ++ after) tree.all)
          ∙ ap (λ (l : List ℕ). rest_line l ∷ (histogram_lines cuts tree.nodes ++ after)) (sym tree.rest);
    }
