-- A row of an entry may take part in a choice only if it is in the entry's scan. It must also refer, for each carrier in the set, to a row of the
-- carrier's scan. All rows in the choices of the set's level are such rows.
use Rattle.std.proofs.Common.{◌≡◌, ◌⊎◌, inl, inr, ℕ, ◌<◌, ◌≤◌, ◌^◌, Bool, true, not, ◌&&◌, ◌||◌, cond, eqb, List, [], ◌∷◌, length, map, get_or, Option, None, Some, refl, ap, sym, ◌∙◌, subst, arith}
use Rattle.std.specs.List.{position_or_len}
use Rattle.std.specs.List.{Contains, filter, list_all, range_with_len}
use Rattle.std.proofs.lemmas.Bool.{and_parts, cases_lt, eqb-true, lt-ltb, true≢false}
use Rattle.std.proofs.lemmas.List.{get_or_past, take_all}
use Rattle.std.proofs.lemmas.List.FromFn.{get_or-map-range_with_len, get_or-range_with_len, length-map-range_with_len, length-range_with_len}
use Rattle.std.proofs.lemmas.List.Quantifiers.{position-Some}
use Rattle.std.proofs.lemmas.List.Sums.{fails_before_first}
use Rattle.entry_sets.specs.Sets.{entries_of_set, has_entry}
use Rattle.entry_sets.proofs.Listing.{entry_below, in_front, not_in_empty, in_rest, in_front_or_rest, set_entries, set_entries_only}
use Rattle.berge_tree.specs.declared.edges.Edge.{Edge}
use Rattle.csv_tables.specs.Values.{Value}
use Rattle.schema_types.specs.declared.types.Schema.{Schema}
use Rattle.query_types.specs.declared.types.Query.{Query}
use Rattle.join_graph.specs.Conjuncts.{equalities_of}
use Rattle.join_graph.specs.Kept.{equalities_within, joins_within}
use Rattle.tree_bounds.specs.Columns.{EachNamedColumn}
use Rattle.tree_bounds.specs.Scans.{SatisfiesScanned}
use Rattle.sql_meaning.specs.Answers.{conjunct_of, conjuncts_of, entries_of}
use Rattle.sql_meaning.specs.Choices.{all_rows, choices}
use Rattle.sql_meaning.specs.Conditions.{cond_holds}
use Rattle.sql_meaning.specs.Levels.{Conjunct, all_hold, all_pass, level_of, level_over, names_only, passes_own, row_in, scan}
use Rattle.sql_meaning.specs.Tables.{Tables, row_counts}
use Rattle.sql_meaning.proofs.AskFacts.{depend_on_named}
use Rattle.sql_meaning.proofs.LevelsOver.{over_restricted}
use Rattle.level_bounds.specs.Keys.{Keys, are_equal_at, value_at}
use Rattle.level_bounds.specs.Orders.{IsOrderOfSet}
use Rattle.level_bounds.specs.Scans.{level_over_entries}
use Rattle.level_bounds.proofs.Choosing.{set_entry_in_order, order_entry_in_set}
use Rattle.level_bounds.proofs.EqualityFacts.{equality_holds, equality_names, equality_is_conjunct}
use Rattle.level_bounds.proofs.Lists.{from_members, all_true, at_member, from_filter, in_filter, in_map, test_of_member, is_in, map_same_on_members, range_within, true_for_all}
use Rattle.level_bounds.proofs.Reordering.{reordered_back, is_level_choice}
use Rattle.level_bounds.proofs.Scanning.{implied, level_satisfies}
use Rattle.join_steps.specs.Lists.{list_at, scans_of, AreOfScans, IsAscending}
use Rattle.join_steps.proofs.WholeScans.{scans_of_length, filter_ascends, levels_of_scans, range_ascends, scans_of_at}
use Rattle.reduced_scans.proofs.SameLevel.{filter_all}
use Rattle.table_stats.proofs.EqualValues.{equal_symmetric, equal_transitive}
use Rattle.key_carriers.specs.Carriers.{with_exchanged_sides, carrying_equalities, carriers_to, carries, has_own_conjunct, is_declared_key, refers, refers_to_key, table_of, exchanged}
use Rattle.key_carriers.specs.DeclaredKeys.{HaveUniqueValues, DeclaredKeysHold}
use Rattle.key_carriers.specs.Widened.{is_scanned, referred_row, refers_to_scanned}

-- ---- equalities in both directions

abbrev pub IsEitherWay : List Edge → Edge → Type 0
IsEitherWay es e = Contains es e ⊎ ((f : Edge) × Contains es f × (e ≡ exchanged f))

pub either_way : (es : List Edge) (e : Edge) → Contains (with_exchanged_sides es) e → IsEitherWay es e
either_way [] e here = absurd (not_in_empty e here)
either_way (f ∷ es) e here = elim (in_front_or_rest f (exchanged f ∷ with_exchanged_sides es) e here) [
  | inr first ↦ inl (in_front f es e first)
  | inl more ↦ elim (in_front_or_rest (exchanged f) (with_exchanged_sides es) e more) [
    | inr second ↦ inr (f, in_front f es f refl, second)
    | inl rest ↦ elim (either_way es e rest) [
      | inl straight ↦ inl (in_rest f es e straight)
      | inr back ↦ inr (back.0, in_rest f es back.0 back.1, back.2)
    ]
  ]
]

named_left : (Q : ℕ → ℕ → Type 0) (es : List Edge) → EachNamedColumn Q es → (e : Edge) → Contains es e → Q e.left.entry e.left.column × Q e.right.entry e.right.column
named_left Q [] named e here = absurd (not_in_empty e here)
named_left Q (f ∷ es) named e here = elim (in_front_or_rest f es e here) [
  | inl rest ↦ named_left Q es named.1.1 e rest
  | inr first ↦ subst (λ (g : Edge). Q g.left.entry g.left.column × Q g.right.entry g.right.column) (sym first) (named.0, named.1.0)
]

right_named : (Q : ℕ → ℕ → Type 0) (es : List Edge) → EachNamedColumn Q es → (e : Edge) → IsEitherWay es e → Q e.right.entry e.right.column
right_named Q es named e (inl straight) = (named_left Q es named e straight).1
right_named Q es named e (inr back) =
    subst (λ (g : Edge). Q g.right.entry g.right.column) (sym back.2) (named_left Q es named back.0 back.1).0

-- ---- the row that is referred to

module _ (query : Query) (tables : Tables) (e : Edge) where
  abbrev others : List ℕ
  others = range_with_len 0 (row_counts tables e.right.entry)

  abbrev equal_at : ℕ → ℕ → Bool
  equal_at row other = are_equal_at tables e row other

  never : (row other : ℕ) → None ≡ referred_row tables e row → other < length others → equal_at row (get_or others other 0) ≡ true → ⊥
  never row other is other_in_range same =
      let first : ℕ = position_or_len (equal_at row) others in
      elim (cases_lt first (length others)) [
        | inl there ↦ (let some : referred_row tables e row ≡ Some first = ap (λ (b : Bool). cond b (Some first) None) (lt-ltb first (length others) there) in absurd (cc))
        | inr past ↦ true≢false (sym same ∙ fails_before_first (equal_at row) others other 0 (omega arith))
      ]

  found : (row other : ℕ) (o : Option ℕ) → o ≡ referred_row tables e row → other < row_counts tables e.right.entry → equal_at row other ≡ true
      → (first : ℕ) × (o ≡ Some first) × (first < row_counts tables e.right.entry) × (equal_at row first ≡ true)
  found row other (Some first) is other_in_range same =
      let facts = position-Some (equal_at row) others first 0 (sym is) in
      let below : first < row_counts tables e.right.entry = omega (arith, facts.0, length-range_with_len 0 (row_counts tables e.right.entry)) in
      let at : get_or others first 0 ≡ first = get_or-range_with_len 0 (row_counts tables e.right.entry) first 0 below ∙ omega arith in
      (first, refl, below, ap (equal_at row) (sym at) ∙ facts.1)
  found row other None is other_in_range same =
      let at : get_or others other 0 ≡ other = get_or-range_with_len 0 (row_counts tables e.right.entry) other 0 other_in_range ∙ omega arith in
      absurd (never row other is (omega (arith, other_in_range, length-range_with_len 0 (row_counts tables e.right.entry))) (ap (equal_at row) at ∙ same))

  it_refers : HaveUniqueValues tables e.right.entry e.right.column → (row other : ℕ) → other < row_counts tables e.right.entry → equal_at row other ≡ true
      → passes_own (conjuncts_of query tables) e.right.entry other ≡ true → refers_to_scanned query tables e row ≡ true
  it_refers apart row other other_in_range same passes =
      let first = found row other (referred_row tables e row) refl other_in_range same in
      let left : Value = value_at tables e.left.entry e.left.column row in
      let right : ℕ → Value = value_at tables e.right.entry e.right.column in
      let one : first.0 ≡ other =
      apart first.0 other first.2 other_in_range (equal_transitive (right first.0) left (right other) (equal_symmetric left (right first.0) first.3) same) in
      ap (is_scanned query tables e.right.entry) first.1 ∙ ap (passes_own (conjuncts_of query tables) e.right.entry) one ∙ passes

-- ---- the rows that may take part

module _ (schema : Schema) (query : Query) (tables : Tables) (subset : ℕ) (fits : subset < 2 ^ length query.from) where
  abbrev conjuncts : List Conjunct
  conjuncts = conjuncts_of query tables

  abbrev rows : ℕ → ℕ
  rows = row_counts tables

  abbrev pub refers_to_all : ℕ → ℕ → Bool
  refers_to_all entry row = list_all (λ e. refers_to_scanned query tables e row) (carriers_to (carrying_equalities schema query) subset entry)

  abbrev pub may_take_part : ℕ → ℕ → Bool
  may_take_part entry row = passes_own conjuncts entry row && refers_to_all entry row

  abbrev pub taking_at : ℕ → List ℕ
  taking_at entry = filter (may_take_part entry) (all_rows rows entry)

  abbrev pub rows_taking_part : List (List ℕ)
  rows_taking_part = map taking_at (entries_of query)

  pub taken_at : (entry : ℕ) → entry < length query.from → list_at rows_taking_part entry ≡ taking_at entry
  taken_at entry entry_in_range = get_or-map-range_with_len taking_at 0 (length query.from) entry entry [] entry_in_range (omega arith)

  taken_past : (entry : ℕ) → length query.from ≤ entry → list_at rows_taking_part entry ≡ []
  taken_past entry past = get_or_past rows_taking_part entry [] (omega (arith, length-map-range_with_len taking_at 0 (length query.from)))

  pub of_scans : AreOfScans query tables rows_taking_part
  of_scans = record {
    count = length-map-range_with_len taking_at 0 (length query.from) ∙ sym (scans_of_length query tables);
    scanned = λ entry row has. elim (cases_lt entry (length query.from)) [
      | inl entry_in_range ↦ (let parts = from_filter (may_take_part entry) (all_rows rows entry) row (subst (λ (s : List ℕ). Contains s row) (taken_at entry entry_in_range) has) in
          subst (λ (s : List ℕ). Contains s row) (sym (scans_of_at query tables entry entry_in_range))
          (in_filter (passes_own conjuncts entry) (all_rows rows entry) row parts.0 (and_parts (passes_own conjuncts entry row) (refers_to_all entry row) parts.1).0))
      | inr past ↦ absurd (not_in_empty row (subst (λ (s : List ℕ). Contains s row) (taken_past entry past) has))
    ];
    ascending = λ entry. elim (cases_lt entry (length query.from)) [
      | inl entry_in_range ↦ subst IsAscending (sym (taken_at entry entry_in_range)) (filter_ascends (may_take_part entry) (all_rows rows entry) (range_ascends 0 (rows entry)))
      | inr past ↦ subst IsAscending (sym (taken_past entry past)) tt
    ];
  }

  -- ---- every choice has only rows that may take part

  module _ (keys : DeclaredKeysHold schema query tables) (order : List ℕ) (o : IsOrderOfSet (entries_of_set subset) order) where
    order_in_range : (entry : ℕ) → Contains order entry → entry < length query.from
    order_in_range entry here = entry_below (length query.from) subset entry fits (set_entries subset entry (order_entry_in_set (entries_of_set subset) order o entry here))

    placed : (entry : ℕ) → has_entry subset entry ≡ true → Contains order entry
    placed entry has = set_entry_in_order (entries_of_set subset) order o entry (set_entries_only subset entry has)

    module _ (choice : List ℕ) (k : Contains (level_over_entries query tables order) choice) where
      abbrev row_of : ℕ → ℕ
      row_of = row_in order choice

      no_keys : Keys
      no_keys entry column row = 0

      satisfies : SatisfiesScanned (scan conjuncts rows) no_keys (entries_of_set subset) [] row_of
      satisfies =
          at_member (SatisfiesScanned (scan conjuncts rows) no_keys (entries_of_set subset) []) (map (row_in order) (level_of conjuncts rows order))
          (level_satisfies conjuncts rows no_keys [] subset order (depend_on_named tables query.conjuncts) tt o) row_of (in_map (row_in order) (level_of conjuncts rows order) choice k)

      scanned_row : (entry : ℕ) → has_entry subset entry ≡ true → Contains (all_rows rows entry) (row_of entry) × (passes_own conjuncts entry (row_of entry) ≡ true)
      scanned_row entry has =
          from_filter (passes_own conjuncts entry) (all_rows rows entry) (row_of entry)
          (at_member (λ entry. Contains (scan conjuncts rows entry) (row_of entry)) (entries_of_set subset) satisfies.rows entry (set_entries_only subset entry has))

      row_low : (entry : ℕ) → has_entry subset entry ≡ true → row_of entry < rows entry
      row_low entry has = omega (arith, (range_within 0 (rows entry) (row_of entry) (scanned_row entry has).0).1)

      equality_true : (e : Edge) → Contains (equalities_of query) e → has_entry subset e.left.entry ≡ true → has_entry subset e.right.entry ≡ true
          → are_equal_at tables e (row_of e.left.entry) (row_of e.right.entry) ≡ true
      equality_true e there left right =
          let stood = (equality_is_conjunct query e).0 there in
          sym (equality_holds tables row_of stood.0 e stood.2)
          ∙ implied (names_only (conjunct_of tables stood.0) order) (cond_holds tables row_of stood.0)
          (all_true (λ (c : Conjunct). not (names_only c order) || c.holds row_of) conjuncts (is_level_choice conjuncts rows order choice k).holds (conjunct_of tables stood.0)
          (in_map (conjunct_of tables) query.conjuncts stood.0 stood.1))
          (subst (λ (named : List ℕ). list_all (is_in order) named ≡ true) (sym (equality_names stood.0 e stood.2))
          (rw (test_of_member order e.left.entry (placed e.left.entry left), test_of_member order e.right.entry (placed e.right.entry right)) refl))

      either_true : (e : Edge) → IsEitherWay (equalities_of query) e → has_entry subset e.left.entry ≡ true → has_entry subset e.right.entry ≡ true
          → are_equal_at tables e (row_of e.left.entry) (row_of e.right.entry) ≡ true
      either_true e (inl straight) left right = equality_true e straight left right
      either_true e (inr back) left right =
          let f : Edge = back.0 in
          let as_turned : has_entry subset (exchanged f).left.entry ≡ true → has_entry subset (exchanged f).right.entry ≡ true
          → are_equal_at tables (exchanged f) (row_of f.right.entry) (row_of f.left.entry) ≡ true =
          λ l r. equal_symmetric (value_at tables f.left.entry f.left.column (row_of f.left.entry)) (value_at tables f.right.entry f.right.column (row_of f.right.entry)) (equality_true f back.1 r l) in
          subst (λ (g : Edge). has_entry subset g.left.entry ≡ true → has_entry subset g.right.entry ≡ true
          → are_equal_at tables g (row_of g.left.entry) (row_of g.right.entry) ≡ true) (sym back.2) as_turned left right

      carrier_true : (e : Edge) → Contains (carrying_equalities schema query) e → joins_within subset e ≡ true → refers_to_scanned query tables e (row_of e.left.entry) ≡ true
      carrier_true e carrier joins =
          let made = from_filter (carries schema query) (with_exchanged_sides (equalities_of query)) e carrier in
          let way : IsEitherWay (equalities_of query) e = either_way (equalities_of query) e made.0 in
          let both = and_parts (has_entry subset e.left.entry) (has_entry subset e.right.entry) joins in
          let declared = (and_parts (refers_to_key schema query e) (has_own_conjunct query e.right.entry) made.1).0 in
          let key : is_declared_key schema (table_of query e.right.entry) e.right.column ≡ true =
          (and_parts (refers schema (table_of query e.left.entry) e.left.column (table_of query e.right.entry) e.right.column) (is_declared_key schema (table_of query e.right.entry) e.right.column) declared).1 in
          let apart : HaveUniqueValues tables e.right.entry e.right.column =
          right_named (λ entry column. is_declared_key schema (table_of query entry) column ≡ true → HaveUniqueValues tables entry column) (equalities_of query) keys e way key in
          it_refers query tables e apart (row_of e.left.entry) (row_of e.right.entry) (row_low e.right.entry both.1) (either_true e way both.0 both.1) (scanned_row e.right.entry both.1).1

      takes_row : (entry : ℕ) → Contains order entry → may_take_part entry (row_of entry) ≡ true
      takes_row entry here =
          let has : has_entry subset entry ≡ true = set_entries subset entry (order_entry_in_set (entries_of_set subset) order o entry here) in
          rw ((scanned_row entry has).1)
          (true_for_all (λ e. refers_to_scanned query tables e (row_of entry)) (carriers_to (carrying_equalities schema query) subset entry) (λ e there.
          let to = from_filter (λ (e : Edge). eqb e.left.entry entry) (equalities_within subset (carrying_equalities schema query)) e there in
          let within = from_filter (joins_within subset) (carrying_equalities schema query) e to.0 in
          subst (λ (n : ℕ). refers_to_scanned query tables e (row_of n) ≡ true) (eqb-true e.left.entry entry to.1) (carrier_true e within.0 within.1)))

      all_taken : (placed : List ℕ) → ((entry : ℕ) → Contains placed entry → may_take_part entry (row_of entry) ≡ true) → all_pass may_take_part placed (map row_of placed) ≡ true
      all_taken [] each = refl
      all_taken (entry ∷ placed) each = rw (each entry (in_front entry placed entry refl), all_taken placed (λ x here. each x (in_rest entry placed x here))) refl

      choice_taken : all_pass may_take_part order choice ≡ true
      choice_taken =
          subst (λ (c : List ℕ). all_pass may_take_part order c ≡ true) (reordered_back conjuncts rows (entries_of_set subset) order order o o choice k)
          (all_taken order takes_row)

    over_taken : level_over conjuncts (list_at rows_taking_part) order ≡ level_over_entries query tables order
    over_taken =
        ap (λ (lists : List (List ℕ)). filter (λ choice. all_hold conjuncts order (row_in order choice)) (choices lists))
        (map_same_on_members (list_at rows_taking_part) taking_at order (λ entry here. taken_at entry (order_in_range entry here)))
        ∙ over_restricted conjuncts rows may_take_part order ∙ filter_all (all_pass may_take_part order) (level_over_entries query tables order) choice_taken

    over_scans : level_over conjuncts (list_at (scans_of query tables)) order ≡ level_over_entries query tables order
    over_scans =
        subst (λ (s : List ℕ). level_over conjuncts (list_at (scans_of query tables)) s ≡ level_over_entries query tables s) (take_all (length order) order (omega arith))
        (levels_of_scans query tables order (length order) (from_members (λ entry. entry < length query.from) order order_in_range) o.once)

    pub none_lost : level_over conjuncts (list_at (scans_of query tables)) order ≡ level_over conjuncts (list_at rows_taking_part) order
    none_lost = over_scans ∙ sym over_taken
