-- Two files with the same lines are equal.
use Rattle.std.proofs.Common.{◌≡◌, ◌≢◌, ◌⊎◌, inl, inr, ℕ, suc, ◌≤◌, List, [], ◌∷◌, ◌++◌, get_or, map, refl, ap, sym, subst, ◌∙◌, arith, append-nil, append_assoc, Some}
use Rattle.std.specs.Prelude.{All, codes, decimal, slice_get, Result, Ok, Err}
use Rattle.std.specs.List.{concat, AllByRecursion}
use Rattle.std.proofs.lemmas.Fmt.{decimal_injective}
use Rattle.std.proofs.lemmas.List.{append_cancel_left, append_cancel_right}
use Rattle.std.proofs.lemmas.Option.{slice_get_within}
use Rattle.schema_types.specs.declared.types.Column.{Column}
use Rattle.schema_types.specs.declared.types.Kind.{Kind}
use Rattle.schema_types.specs.declared.types.Schema.{Schema}
use Rattle.schema_types.specs.declared.types.Table.{Table}
use Rattle.schema_types.specs.Validity.{IsValid, IsValidTable}
use Rattle.stats_file.specs.declared.types.Datum.{Datum}
use Rattle.stats_file.specs.declared.types.PairStats.{PairStats}
use Rattle.stats_file.specs.declared.types.StatsError.{StatsError}
use Rattle.stats_file.specs.declared.types.StatsError.TheVariants as error
use Rattle.stats_file.specs.declared.types.StatsFile.{StatsFile}
use Rattle.stats_file.specs.declared.types.TableStats.{TableStats}
use Rattle.stats_file.specs.Answers.{IsAllowedResult, BeginsWithLine, EndsTooEarly, HasNoLineEnd, IsReadUpTo, BreaksGrammar}
use Rattle.stats_file.specs.Bytes.{ConsistOfBytes}
use Rattle.stats_file.specs.FileText.{file_lines, file_text, name_at, histogram_node_line, value_line}
use Rattle.stats_file.specs.Grammar.{IsText}
use Rattle.stats_file.specs.Lines.{cut_line, datum_text, end_line, first_line, hex_text, pair_line, table_line}
use Rattle.stats_file.specs.Rules.{IsList, IsOfKind, IsPair, IsSection, KeepsRules}
use Rattle.stats_file.proofs.GrammarFacts.{file_is_text, cuts_are_of, nodes_are_lists}
use Rattle.stats_words.specs.Runs.{list_text}
use Rattle.stats_words.specs.Splits.{HasNoByte}
use Rattle.stats_words.proofs.SplitFacts.{not_without, split_same}
use Rattle.stats_reading.specs.Remaining.{frequent_lines, pairs_left, rest_line, tables_left, histogram_lines, whole_line}
use Rattle.stats_reading.proofs.Edges.{same_pair}
use Rattle.stats_reading.proofs.LineEnds.{front_of, lines_ended, not_empty, IsEnded, IsFront}
use Rattle.stats_reading.proofs.AppendedLists.{all_at, both_some_same}
use Rattle.stats_reading.proofs.Tags.{after_pair, after_pairs, from_tables, pair_opened, pair_rest, same_tag, tag, to_tables}
use Rattle.stats_reading.proofs.BeginsAndEnds.{column_place, same_name_same_place}
use Rattle.stats_reading.proofs.WordFacts.{datum_without_blank, hex_text_without_blank, same_datum, same_list}

abbrev Lines : Type 0
Lines = List (List ℕ)

-- ---- words of equal lines

same_word_of_line : (front a b : List ℕ) → front ++ (a ++ codes "\n") ≡ front ++ (b ++ codes "\n") → a ≡ b
same_word_of_line front a b e = append_cancel_right a b (codes "\n") (append_cancel_left front (a ++ codes "\n") (b ++ codes "\n") e)

same_words_of_line : (front a b c d : List ℕ) → HasNoByte 32 a → HasNoByte 32 c → front ++ (a ++ (codes " " ++ (b ++ codes "\n"))) ≡ front ++ (c ++ (codes " " ++ (d ++ codes "\n"))) → (a ≡ c) × (b ≡ d)
same_words_of_line front a b c d free_a free_c e =
    let split = split_same 32 a c (b ++ codes "\n") (d ++ codes "\n") free_a free_c
    (append_cancel_left front (a ++ (codes " " ++ (b ++ codes "\n"))) (c ++ (codes " " ++ (d ++ codes "\n"))) e) in
    (split.0, append_cancel_right b d (codes "\n") split.1)

-- ---- equal lists of lines

-- if two equal lists of lines begin with lines of one kind, the values of these lines are equal, and so are the rests
same_mapped : {X : Type 0} (f : X → List ℕ) (Good : X → Type 0) → ((a b : X) → Good a → Good b → f a ≡ f b → a ≡ b) → (n : ℕ) → ((x : X) → tag (f x) ≡ n)
    → (xs ys : List X) (m o : Lines) → All Good xs → All Good ys → ((line : List ℕ) (more : Lines) → line ∷ more ≡ m → tag line ≢ n) → ((line : List ℕ) (more : Lines) → line ∷ more ≡ o → tag line ≢ n)
    → map f xs ++ m ≡ map f ys ++ o → (xs ≡ ys) × (m ≡ o)
same_mapped f Good inject n tagged [] [] m o good_x good_y other_m other_o e = (refl, e)
same_mapped f Good inject n tagged [] (y ∷ ys) m o good_x good_y other_m other_o e = absurd (other_m (f y) (map f ys ++ o) (sym e) (tagged y))
same_mapped f Good inject n tagged (x ∷ xs) [] m o good_x good_y other_m other_o e = absurd (other_o (f x) (map f xs ++ m) e (tagged x))
same_mapped f Good inject n tagged (x ∷ xs) (y ∷ ys) m o good_x good_y other_m other_o e =
    let line : f x ≡ f y = cc in
    let behind : map f xs ++ m ≡ map f ys ++ o = cc in
    let first = inject x y (good_x 0 x (omega arith)) (good_y 0 y (omega arith)) line in
    let rest = same_mapped f Good inject n tagged xs ys m o (λ k d lt. good_x (suc k) d (omega arith)) (λ k d lt. good_y (suc k) d (omega arith)) other_m other_o behind in
    (ap (λ z. z ∷ xs) first ∙ ap (λ zs. y ∷ zs) rest.0, rest.1)

not_head : (line other : List ℕ) (more rest m : Lines) (n : ℕ) → m ≡ other ∷ rest → tag other ≢ n → line ∷ more ≡ m → tag line ≢ n
not_head line other more rest m n is differs e t = let same : line ≡ other = cc in differs (sym (same_tag line other same) ∙ t)

lists_same : (rows : ℕ) → rows ≤ 4000000 → (front : List ℕ) (a b : List ℕ) → IsList rows a → IsList rows b → front ++ (list_text a ++ codes "\n") ≡ front ++ (list_text b ++ codes "\n") → a ≡ b
lists_same rows within_limit front a b is_a is_b e = same_list rows a b (omega arith) is_a is_b (same_word_of_line front (list_text a) (list_text b) e)

abbrev value_and : Datum → List ℕ → Datum × List ℕ
value_and value list = (value, list)

-- ---- one pair

record SamePair (p q : PairStats) (A B : Lines) : Type 0 where
  pairs : p ≡ q
  behind : A ≡ B

abbrev NoTree : Lines → Type 0
NoTree m = (line : List ℕ) (more : Lines) → line ∷ more ≡ m → (tag line ≢ 99) × (tag line ≢ 110)

no_node_tag : (nodes : List (List ℕ)) (m : Lines) → NoTree m → (line : List ℕ) (more : Lines) → line ∷ more ≡ map histogram_node_line nodes ++ m → tag line ≢ 99
no_node_tag [] m none line more e = (none line more e).0
no_node_tag (x ∷ nodes) m none line more e = not_head line (histogram_node_line x) more (map histogram_node_line nodes ++ m) (histogram_node_line x ∷ (map histogram_node_line nodes ++ m)) 99 refl (λ f. absurd (omega (arith, f))) e

same_pair_lines : (table : Table) (rows : ℕ) (p q : PairStats) (A B : Lines) → rows ≤ 4000000 → (is_p : IsPair table rows p) (is_q : IsPair table rows q) → p.filter ≡ q.filter → p.joined ≡ q.joined
    → NoTree A → NoTree B → pair_rest p ++ A ≡ pair_rest q ++ B → SamePair p q A B
same_pair_lines table rows p q A B within_limit is_p is_q filter joined none_a none_b e =
    let kind = is_p.filter.kind in
    let column : slice_get table.columns p.filter ≡ Some is_q.filter = ap (λ n. slice_get table.columns n) filter ∙ is_q.filter_is in
    let same_kind : is_q.filter.kind ≡ kind = ap (λ (c : Column). c.kind) (both_some_same is_q.filter is_p.filter (slice_get table.columns p.filter) column is_p.filter_is) in
    let line : whole_line p.whole ≡ whole_line q.whole = cc in
    let whole = lists_same rows within_limit (codes "whole ") p.whole q.whole is_p.whole is_q.whole line in
    let tree_p = histogram_lines p.cuts p.nodes in
    let tree_q = histogram_lines q.cuts q.nodes in
    let behind : frequent_lines p.frequent p.rest p.cuts p.nodes ++ A ≡ frequent_lines q.frequent q.rest q.cuts q.nodes ++ B = cc in
    let regrouped : map value_line p.frequent ++ (rest_line p.rest ∷ (tree_p ++ A)) ≡ map value_line q.frequent ++ (rest_line q.rest ∷ (tree_q ++ B)) =
    sym (append_assoc (map value_line p.frequent) (rest_line p.rest ∷ tree_p) A) ∙ behind ∙ append_assoc (map value_line q.frequent) (rest_line q.rest ∷ tree_q) B in
    let values = same_mapped value_line (λ (f : Datum × List ℕ). IsOfKind kind f.0 × IsList rows f.1) (frequent_same kind) 102 (λ x. refl) p.frequent q.frequent
    (rest_line p.rest ∷ (tree_p ++ A)) (rest_line q.rest ∷ (tree_q ++ B))
    (λ k d lt. (is_p.frequent.values k d lt, is_p.frequent.lists k d lt))
    (λ k d lt. (subst (λ x. IsOfKind x (get_or q.frequent k d).0) same_kind (is_q.frequent.values k d lt), is_q.frequent.lists k d lt))
    (λ l more f. not_head l (rest_line p.rest) more (tree_p ++ A) (rest_line p.rest ∷ (tree_p ++ A)) 102 refl (λ g. absurd (omega (arith, g))) f)
    (λ l more f. not_head l (rest_line q.rest) more (tree_q ++ B) (rest_line q.rest ∷ (tree_q ++ B)) 102 refl (λ g. absurd (omega (arith, g))) f) regrouped in
    let last : rest_line p.rest ≡ rest_line q.rest = first_of values.1 in
    let rest = lists_same rows within_limit (codes "rest ") p.rest q.rest is_p.rest is_q.rest last in
    let trees : tree_p ++ A ≡ tree_q ++ B = others_of values.1 in
    let split : map cut_line p.cuts ++ (map histogram_node_line p.nodes ++ A) ≡ map cut_line q.cuts ++ (map histogram_node_line q.nodes ++ B) =
    sym (append_assoc (map cut_line p.cuts) (map histogram_node_line p.nodes) A) ∙ trees ∙ append_assoc (map cut_line q.cuts) (map histogram_node_line q.nodes) B in
    let cuts = same_mapped cut_line (IsOfKind kind) (λ a b x y f. same_datum kind a b x y (same_word_of_line (codes "cut ") (datum_text a) (datum_text b) f)) 99 (λ x. refl) p.cuts q.cuts
    (map histogram_node_line p.nodes ++ A) (map histogram_node_line q.nodes ++ B) (cuts_are_of kind rows p.cuts p.nodes is_p.tree)
    (subst (λ x. All (IsOfKind x) q.cuts) same_kind (cuts_are_of is_q.filter.kind rows q.cuts q.nodes is_q.tree)) (no_node_tag p.nodes A none_a) (no_node_tag q.nodes B none_b) split in
    let nodes = same_mapped histogram_node_line (IsList rows) (λ a b x y f. lists_same rows within_limit (codes "node ") a b x y f) 110 (λ x. refl) p.nodes q.nodes A B
    (nodes_are_lists kind rows p.cuts p.nodes is_p.tree) (nodes_are_lists is_q.filter.kind rows q.cuts q.nodes is_q.tree) (λ l more f. (none_a l more f).1) (λ l more f. (none_b l more f).1) cuts.1 in
    record { pairs = same_pair p q filter joined whole values.0 rest cuts.0 nodes.0; behind = nodes.1 }
  where
    frequent_same : (kind : Kind) (a b : Datum × List ℕ) → IsOfKind kind a.0 × IsList rows a.1 → IsOfKind kind b.0 × IsList rows b.1 → value_line a ≡ value_line b → a ≡ b
    frequent_same kind a b x y f =
        let both = same_words_of_line (codes "frequent ") (datum_text a.0) (list_text a.1) (datum_text b.0) (list_text b.1) (datum_without_blank kind a.0 x.0) (datum_without_blank kind b.0 y.0) f in
        let value = same_datum kind a.0 b.0 x.0 y.0 both.0 in
        let list = same_list rows a.1 b.1 (omega arith) x.1 y.1 both.1 in
        ap (λ (d : Datum). value_and d a.1) value ∙ ap (λ (l : List ℕ). value_and b.0 l) list

    first_of : {a b : List ℕ} {m o : Lines} → a ∷ m ≡ b ∷ o → a ≡ b
    first_of f = cc

    others_of : {a b : List ℕ} {m o : Lines} → a ∷ m ≡ b ∷ o → m ≡ o
    others_of f = cc

-- ---- pairs of a table

no_tree : (schema : Schema) (table : Table) (pairs : List PairStats) (tables : List TableStats) → NoTree (pairs_left schema table pairs tables)
no_tree schema table pairs tables line more e = after_pair schema table pairs tables line more e

same_pairs : (schema : Schema) (table : Table) (rows : ℕ) (ps qs : List PairStats) (ts us : List TableStats) → IsValidTable table → rows ≤ 4000000 → All (IsPair table rows) ps → All (IsPair table rows) qs
    → pairs_left schema table ps ts ≡ pairs_left schema table qs us → (ps ≡ qs) × (tables_left schema ts ≡ tables_left schema us)
same_pairs schema table rows [] [] ts us good within_limit are_p are_q e = (refl, e)
same_pairs schema table rows [] (q ∷ qs) ts us good within_limit are_p are_q e =
    absurd (after_pairs schema ts (pair_line (name_at table q.filter) (name_at table q.joined)) (pair_rest q ++ pairs_left schema table qs us) (sym (e ∙ pair_opened schema table q qs us)) refl)
same_pairs schema table rows (p ∷ ps) [] ts us good within_limit are_p are_q e =
    absurd (after_pairs schema us (pair_line (name_at table p.filter) (name_at table p.joined)) (pair_rest p ++ pairs_left schema table ps ts) (sym (pair_opened schema table p ps ts) ∙ e) refl)
same_pairs schema table rows (p ∷ ps) (q ∷ qs) ts us good within_limit are_p are_q e =
    let f = sym (pair_opened schema table p ps ts) ∙ e ∙ pair_opened schema table q qs us in
    let line : pair_line (name_at table p.filter) (name_at table p.joined) ≡ pair_line (name_at table q.filter) (name_at table q.joined) = cc in
    let behind : pair_rest p ++ pairs_left schema table ps ts ≡ pair_rest q ++ pairs_left schema table qs us = cc in
    let is_p = are_p 0 p (omega arith) in
    let is_q = are_q 0 q (omega arith) in
    let names = same_words_of_line (codes "pair ") (hex_text (name_at table p.filter)) (hex_text (name_at table p.joined)) (hex_text (name_at table q.filter)) (hex_text (name_at table q.joined))
    (hex_text_without_blank (name_at table p.filter)) (hex_text_without_blank (name_at table q.filter)) line in
    let filter = column_place table p.filter q.filter good (slice_get_within table.columns p.filter is_p.filter is_p.filter_is)
    (slice_get_within table.columns q.filter is_q.filter is_q.filter_is) names.0 in
    let joined = column_place table p.joined q.joined good is_p.joined is_q.joined names.1 in
    let same = same_pair_lines table rows p q (pairs_left schema table ps ts) (pairs_left schema table qs us) within_limit is_p is_q filter joined (no_tree schema table ps ts) (no_tree schema table qs us) behind in
    let rest = same_pairs schema table rows ps qs ts us good within_limit (λ k d lt. are_p (suc k) d (omega arith)) (λ k d lt. are_q (suc k) d (omega arith)) same.behind in
    (ap (λ z. z ∷ ps) same.pairs ∙ ap (λ zs. q ∷ zs) rest.0, rest.1)

-- ---- tables of a file

at_end : (schema : Schema) (section : TableStats) (rest : List TableStats) (more : Lines) → IsSection schema section → end_line ∷ more ≡ tables_left schema (section ∷ rest) → ⊥
at_end schema section rest more is e =
    let lines = from_tables schema section rest is.table end_line more is.table_is e in
    omega (arith, same_tag end_line (table_line is.table.name section.rows) lines.0)

same_section : (a b : TableStats) → a.table ≡ b.table → a.rows ≡ b.rows → a.pairs ≡ b.pairs → a ≡ b
same_section a b e f g =
    ap (λ x. record a { table = x }) e ∙ ap (λ x. record a { table = b.table; rows = x }) f ∙ ap (λ x. record b { pairs = x }) g

first_line_of_tables : (schema : Schema) (section : TableStats) (rest : List TableStats) (is : IsSection schema section)
    → tables_left schema (section ∷ rest) ≡ table_line is.table.name section.rows ∷ pairs_left schema is.table section.pairs rest
first_line_of_tables schema section rest is = sym (to_tables schema section rest is.table is.table_is)

same_tables : (schema : Schema) (ts us : List TableStats) → IsValid schema → All (IsSection schema) ts → All (IsSection schema) us → tables_left schema ts ≡ tables_left schema us → ts ≡ us
same_tables schema [] [] good are_t are_u e = refl
same_tables schema [] (u ∷ us) good are_t are_u e = absurd (at_end schema u us [] (are_u 0 u (omega arith)) e)
same_tables schema (t ∷ ts) [] good are_t are_u e = absurd (at_end schema t ts [] (are_t 0 t (omega arith)) (sym e))
same_tables schema (t ∷ ts) (u ∷ us) good are_t are_u e =
    let is_t = are_t 0 t (omega arith) in
    let is_u = are_u 0 u (omega arith) in
    let few_t : t.rows ≤ 4000000 = is_t.rows in
    let few_u : u.rows ≤ 4000000 = is_u.rows in
    let f = sym (first_line_of_tables schema t ts is_t) ∙ e ∙ first_line_of_tables schema u us is_u in
    let line : table_line is_t.table.name t.rows ≡ table_line is_u.table.name u.rows = cc in
    let behind : pairs_left schema is_t.table t.pairs ts ≡ pairs_left schema is_u.table u.pairs us = cc in
    let words = same_words_of_line (codes "table ") (hex_text is_t.table.name) (decimal t.rows) (hex_text is_u.table.name) (decimal u.rows) (hex_text_without_blank is_t.table.name) (hex_text_without_blank is_u.table.name) line in
    let place = same_name_same_place (λ (x : Table). x.name) schema.tables t.table u.table is_t.table is_u.table good.names is_t.table_is is_u.table_is words.0 in
    let rows = decimal_injective t.rows u.rows (omega arith) (omega arith) words.1 in
    let found : slice_get schema.tables t.table ≡ Some is_u.table = ap (λ n. slice_get schema.tables n) place ∙ is_u.table_is in
    let table : is_u.table ≡ is_t.table = both_some_same is_u.table is_t.table (slice_get schema.tables t.table) found is_t.table_is in
    let good_table = all_at IsValidTable schema.tables t.table is_t.table good.tables is_t.table_is in
    let pairs_u = subst (λ n. All (IsPair is_t.table n) u.pairs) (sym rows) (subst (λ x. All (IsPair x u.rows) u.pairs) table is_u.pairs) in
    let own : pairs_left schema is_t.table t.pairs ts ≡ pairs_left schema is_t.table u.pairs us = behind ∙ ap (λ (x : Table). pairs_left schema x u.pairs us) table in
    let same = same_pairs schema is_t.table t.rows t.pairs u.pairs ts us good_table few_t is_t.pairs pairs_u own in
    let rest = same_tables schema ts us good (λ k d lt. are_t (suc k) d (omega arith)) (λ k d lt. are_u (suc k) d (omega arith)) same.1 in
    ap (λ z. z ∷ ts) (same_section t u place rows same.0) ∙ ap (λ zs. u ∷ zs) rest

same_lines : (schema : Schema) (a b : StatsFile) → IsValid schema → KeepsRules schema a → KeepsRules schema b → file_lines schema a ≡ file_lines schema b → a ≡ b
unfolding file_lines
same_lines schema a b good keeps_a keeps_b e =
    let most_a : a.accuracy ≤ 64 = keeps_a.most in
    let most_b : b.accuracy ≤ 64 = keeps_b.most in
    let line : first_line a.accuracy ≡ first_line b.accuracy = cc in
    let behind : tables_left schema a.tables ≡ tables_left schema b.tables = cc in
    let accuracy = decimal_injective a.accuracy b.accuracy (omega arith) (omega arith) (same_word_of_line (codes "safebound-stats 1 ") (decimal a.accuracy) (decimal b.accuracy) line) in
    let tables = same_tables schema a.tables b.tables good keeps_a.tables keeps_b.tables behind in
    ap (λ x. record a { accuracy = x }) accuracy ∙ ap (λ x. record b { tables = x }) tables

-- ---- texts

abbrev AllEnded : Lines → Type 0
AllEnded lines = AllByRecursion IsEnded lines

behind_ended : (lines more : Lines) → AllEnded (lines ++ more) → AllEnded more
behind_ended [] more are = are
behind_ended (x ∷ lines) more (is, are) = behind_ended lines more are

no_text_left : (lines : Lines) → AllEnded lines → concat lines ≡ [] → lines ≡ []
no_text_left [] are e = refl
no_text_left (x ∷ lines) (is, are) e = absurd (not_empty x (concat lines) [] is (append-nil (x ++ concat lines) ∙ e))

pub one_file : (schema : Schema) (a b : StatsFile) → IsValid schema → KeepsRules schema a → KeepsRules schema b → file_text schema a ≡ file_text schema b → a ≡ b
one_file schema a b good keeps_a keeps_b e =
    let ended = lines_ended schema b keeps_b in
    let f = front_of (file_lines schema a) (file_lines schema b) [] (lines_ended schema a keeps_a) ended (append-nil (concat (file_lines schema a)) ∙ e) in
    let rest_ended = behind_ended (file_lines schema a) f.more (subst AllEnded f.whole ended) in
    let none = no_text_left f.more rest_ended (sym f.rest_is) in
    same_lines schema a b good keeps_a keeps_b (sym (append-nil (file_lines schema a)) ∙ ap (λ (m : Lines). file_lines schema a ++ m) (sym none) ∙ sym f.whole)

front_ended : (lines more : Lines) → AllEnded (lines ++ more) → AllEnded lines
front_ended [] more are = tt
front_ended (x ∷ lines) more (is, are) = (is, front_ended lines more are)

first_is : (line : List ℕ) (rest : List ℕ) (more : Lines) → IsEnded line → AllEnded more → line ++ rest ≡ concat more → (others : Lines) × (more ≡ line ∷ others)
first_is line rest more is are e =
    let f = front_of (line ∷ []) more rest (is, tt) are (ap (λ (l : List ℕ). l ++ rest) (append-nil line) ∙ e) in
    (f.more, f.whole)

no_end_left : (more : Lines) → AllEnded more → HasNoLineEnd (concat more) → more ≡ []
no_end_left [] are none = refl
no_end_left (x ∷ more) (is, are) none =
    absurd (not_without 10 is.text (concat more) (subst (λ (l : List ℕ). HasNoByte 10 l) (ap (λ (l : List ℕ). l ++ concat more) is.whole ∙ append_assoc is.text (codes "\n") (concat more)) none))

rest_of : (schema : Schema) (file : StatsFile) (bytes : List ℕ) (lines : Lines) (left : List ℕ) → KeepsRules schema file → bytes ≡ file_text schema file → IsReadUpTo schema bytes lines left
    → IsFront lines (file_lines schema file) left
rest_of schema file bytes lines left keeps is read =
    let begins = read.begins in
    front_of lines (file_lines schema file) left (front_ended lines begins.more (subst AllEnded (sym begins.whole) (lines_ended schema begins.file begins.keeps)))
    (lines_ended schema file keeps) (sym read.whole ∙ is)

line_ended : (left line rest : List ℕ) → BeginsWithLine left line rest → IsEnded line
line_ended left line rest h = record { text = h.text; no_line_end = h.no_end; whole = h.ended }

pub answers_file : (schema : Schema) (file : StatsFile) (bytes : List ℕ) (answer : Result StatsFile StatsError) → IsValid schema → ConsistOfBytes schema file → KeepsRules schema file
    → bytes ≡ file_text schema file → IsAllowedResult schema bytes answer → (answer ≡ Ok file) ⊎ (answer ≡ Err error.NoMemory)
answers_file schema file bytes (Ok other) good bytes_are keeps is (keeps_other, is_other) = inl (ap Ok (one_file schema other file good keeps_other keeps (sym is_other ∙ is)))
answers_file schema file bytes (Err (error.Syntax line)) good bytes_are keeps is h = absurd (by h.wrong)
  where
    f : IsFront h.lines (file_lines schema file) h.left
    f = rest_of schema file bytes h.lines h.left keeps is h.read

    more_ended : AllEnded f.more
    more_ended = behind_ended h.lines f.more (subst AllEnded f.whole (lines_ended schema file keeps))

    by : BreaksGrammar h.lines h.left ⊎ EndsTooEarly schema h.lines h.left → ⊥
    by (inl wrong) =
        let first = first_is wrong.line wrong.rest f.more (line_ended h.left wrong.line wrong.rest wrong.next) more_ended (sym wrong.next.whole ∙ f.rest_is) in
        let whole : file_lines schema file ≡ (h.lines ++ wrong.line ∷ []) ++ first.0 =
        f.whole ∙ ap (λ (m : Lines). h.lines ++ m) first.1 ∙ sym (append_assoc h.lines (wrong.line ∷ []) first.0) in
        wrong.fails (record { more = first.0; whole = subst IsText whole (file_is_text schema file bytes_are keeps) })
    by (inr wrong) =
        let none = no_end_left f.more more_ended (subst HasNoLineEnd f.rest_is wrong.no_line) in
        wrong.fails file keeps (sym (f.whole ∙ ap (λ (m : Lines). h.lines ++ m) none ∙ append-nil h.lines)) (f.rest_is ∙ ap concat none)
answers_file schema file bytes (Err (error.Rule line)) good bytes_are keeps is h = absurd (
    let f = rest_of schema file bytes h.lines h.left keeps is h.read in
    let more_ended = behind_ended h.lines f.more (subst AllEnded f.whole (lines_ended schema file keeps)) in
    let first = first_is h.broken h.rest f.more (line_ended h.left h.broken h.rest h.next) more_ended (sym h.next.whole ∙ f.rest_is) in
    h.fails (record {
      file = file;
      keeps = keeps;
      more = first.0;
      whole = append_assoc h.lines (h.broken ∷ []) first.0 ∙ ap (λ (m : Lines). h.lines ++ m) (sym first.1) ∙ sym f.whole;
    })
    )
answers_file schema file bytes (Err error.NoMemory) good bytes_are keeps is h = inr refl
