-- In the bounds of each source, an entry alone has the bound of its scan. So level 1 of an order has the bound of the first entry's scan, and the
-- order is read from its tree as it was.
use Rattle.std.proofs.Common.{◌≡◌, ◌≢◌, ℕ, zero, suc, ◌+◌, ◌-◌, ◌^◌, ◌<◌, ◌≤◌, Bool, true, false, cond, eqb, nat_eq, List, [], ◌∷◌, length, take, get_or, Result, None, Some, Ok, Err, refl, ap, sym, ◌∙◌, subst, arith, inl, inr}
use Rattle.std.specs.Prelude.{filter}
use Rattle.std.specs.List.{AllByRecursion, Contains, IsDistinct}
use Rattle.std.proofs.lemmas.Bool.{and_parts, cases_Bool, cases_eq, cases_lt, eq-eqb, eqb-false, false≢true, le-ltb, lt-ltb}
use Rattle.std.proofs.lemmas.List.FromFn.{get_or-map-range_with_len}
use Rattle.std.proofs.lemmas.Map.Keys.{IsDistinct-cons, IsDistinct-head}
use Rattle.std.proofs.lemmas.Nat.{pow_pos}
use Rattle.degree_sequences.specs.Saturation.{saturated}
use Rattle.entry_sets.specs.Sets.{entries_of_set, has_entry, set_of}
use Rattle.entry_sets.proofs.Bits.{power_of_next}
use Rattle.entry_sets.proofs.Listing.{in_front, not_in_empty, in_rest, in_front_or_rest, set_entries_only}
use Rattle.berge_tree.specs.declared.edges.Edge.{Edge}
use Rattle.plans.specs.declared.left_deep.Plan.{Plan}
use Rattle.order_search.specs.declared.refusal.PlanError.{PlanError}
use Rattle.order_search.specs.declared.refusal.PlanError.TheVariants as error
use Rattle.order_search.specs.Orders.{cost, levels}
use Rattle.plan_answers.specs.BestOrder.{best_order}
use Rattle.plan_answers.specs.PlanAnswer.{plan_answer, plan_for_order, result_for_order}
use Rattle.plan_answers.specs.Promised.{IsPromised}
use Rattle.plan_answers.proofs.OneAnswer.{is_promised}
use Rattle.plans.specs.Orders.{order_of_tree, tree_of_order}
use Rattle.plans.proofs.Reading.{order_is_read}
use Rattle.tree_rows.proofs.OrderNodes.{first_taken}
use Rattle.schema_types.specs.declared.types.Schema.{Schema}
use Rattle.query_types.specs.declared.types.Cond.{Cond}
use Rattle.query_types.specs.declared.types.Query.{Query}
use Rattle.join_graph.specs.Conjuncts.{equalities_of, equality_in, equality_of, equality_between}
use Rattle.join_graph.specs.Kept.{equalities_within, joins_within}
use Rattle.tree_bounds.specs.TreeBounds.{EntryBounds}
use Rattle.tree_bounds.proofs.NearSets.{empty_is_distinct}
use Rattle.tree_bounds.proofs.SmallSets.{single_is}
use Rattle.set_bounds.specs.AllSets.{bound_in_128_bits, bounds_in_sets, in_every_set}
use Rattle.level_bounds.proofs.EqualityFacts.{equality_is_conjunct, is_join}
use Rattle.level_bounds.proofs.Lists.{all_filtered, from_members, at_member}
use Rattle.level_bounds.proofs.SetNumbers.{order_of_set, set_is_distinct}
use Rattle.sql_meaning.specs.Tables.{Tables}
use Rattle.join_steps.specs.Lists.{list_sizes, AreOfScans}
use Rattle.join_steps.proofs.WholeScans.{list_sizes_at}
use Rattle.query_bounds.specs.Bounds.{entry_bounds, scan_bounds, scan_row_bound, set_bounds}
use Rattle.query_bounds.specs.Statistics.{Statistics}
use Rattle.gathered_stats.specs.Statistics.{statistics_of}
use Rattle.key_carriers.specs.Carriers.{carrying_equalities, carriers_to, carries, with_exchanged_sides}
use Rattle.key_bounds.specs.Bounds.{bounds_by_keys, rows_by_keys, set_bounds_by_keys}
use Rattle.planning.specs.Bounds.{scan_bounds_of}
use Rattle.planning.specs.ListedBounds.{entry_bounds_over, set_bounds_over}
use Rattle.planning.proofs.FromLists.{is_plan_from, level_bound, scan_kept}
use Rattle.planning.proofs.Levels.{level_within_cost}
use Rattle.counted_bounds.specs.Bounds.{counted_bound}
use Rattle.counted_bounds.proofs.OneEntry.{one_entry}
use Rattle.counted_factors.specs.Limits.{counts_made}
use Rattle.counted_planning.specs.Bounds.{set_bounds_by_counts}
use Rattle.prepared_runs.specs.Standing.{BoundSingles}

-- ---- the set of one entry

alone : (x : ℕ) (xs : List ℕ) → IsDistinct nat_eq xs → ((y : ℕ) → Contains xs y → y ≡ x) → Contains xs x → xs ≡ x ∷ []
alone x [] once all has = absurd (not_in_empty x has)
alone x (y ∷ []) once all has = ap (λ (z : ℕ). z ∷ []) (all y (in_front y [] y refl))
alone x (y ∷ z ∷ zs) once all has =
    let same : y ≡ z = all y (in_front y (z ∷ zs) y refl) ∙ sym (all z (in_second y z zs)) in
    absurd (false≢true (sym (IsDistinct-head nat_eq y (z ∷ zs) once).0 ∙ eq-eqb y z same))
  where
    in_second : (y z : ℕ) (zs : List ℕ) → Contains (y ∷ z ∷ zs) z
    in_second y z zs = in_rest y (z ∷ zs) z (in_front z zs z refl)

pub one_of_set : (entry : ℕ) → entry < 16 → entries_of_set (2 ^ entry) ≡ entry ∷ []
one_of_set entry low =
    let place : set_of (entry ∷ []) ≡ 2 ^ entry = omega arith in
    let is = order_of_set (entry ∷ []) (low, tt) (IsDistinct-cons nat_eq entry [] tt empty_is_distinct) in
    ap entries_of_set (sym place)
    ∙ alone entry (entries_of_set (set_of (entry ∷ []))) (set_is_distinct (set_of (entry ∷ []))) (λ y here. only y (at_member (Contains (entry ∷ [])) (entries_of_set (set_of (entry ∷ []))) is.covers y here)) is.within.0
  where
    only : (y : ℕ) → Contains (entry ∷ []) y → y ≡ entry
    only y here = elim (in_front_or_rest entry [] y here) [ inr is ↦ is | inl none ↦ absurd (not_in_empty y none) ]

power_low : (entry n : ℕ) → entry < n → 2 ^ entry < 2 ^ n
power_low entry zero low = absurd (omega arith)
power_low entry (suc n) low = elim (cases_eq entry n) [
  | inl same ↦ omega (arith, ap (λ (k : ℕ). 2 ^ k) same, power_of_next n, pow_pos n)
  | inr other ↦ omega (arith, power_low entry n (omega (arith, low, other)), power_of_next n)
]

-- ---- the bound of one entry, from the bounds of the entries in its set

single_bound : (b : ℕ → EntryBounds) (es : List Edge) (n entry : ℕ) → n ≤ 12 → entry < n → get_or (bounds_in_sets b es n) (2 ^ entry) 0 ≡ saturated ((b (2 ^ entry)).rows entry)
single_bound b es n entry few low =
    get_or-map-range_with_len (λ subset. bound_in_128_bits (b subset) es subset) 0 (2 ^ n) (2 ^ entry) (2 ^ entry) 0 (power_low entry n low) (omega arith)
    ∙ ap saturated (single_is (b (2 ^ entry)) es (2 ^ entry) entry (one_of_set entry (omega (arith, few, low))))

pub statistics_singles : (query : Query) (known : Statistics) → BoundSingles (length query.from) (set_bounds query known) (scan_bounds query known)
statistics_singles query known few entry low =
    single_bound (in_every_set (entry_bounds query known)) (equalities_of query) (length query.from) entry few low
    ∙ ap saturated (
    ap (λ (b : Bool). cond b (scan_row_bound query known entry) 0) (lt-ltb entry (length query.from) low)
    ∙ sym (get_or-map-range_with_len (scan_row_bound query known) 0 (length query.from) entry entry 0 low (omega arith))
    )

pub listed_singles : (query : Query) (tables : Tables) (lists : List (List ℕ)) (accuracy : ℕ) → BoundSingles (length query.from) (set_bounds_over query tables lists accuracy) (list_sizes query lists)
listed_singles query tables lists accuracy few entry low =
    single_bound (in_every_set (entry_bounds_over tables lists accuracy)) (equalities_of query) (length query.from) entry few low ∙ ap saturated (sym (list_sizes_at query lists entry low))

pub counted_singles : (query : Query) (tables : Tables) (lists : List (List ℕ)) → AreOfScans query tables lists → BoundSingles (length query.from) (set_bounds_by_counts query tables lists) (list_sizes query lists)
unfolding set_bounds_by_counts
counted_singles query tables lists are few entry low =
    get_or-map-range_with_len (counted_bound (counts_made query tables lists) query tables lists) 0 (2 ^ length query.from) (2 ^ entry) (2 ^ entry) 0 (power_low entry (length query.from) low) (omega arith)
    ∙ one_entry query tables lists are entry (counts_made query tables lists) (2 ^ entry) (one_of_set entry (omega (arith, few, low)))
    ∙ ap saturated (sym (list_sizes_at query lists entry low))

-- ---- no conjunct is carried to an entry within its own set: an equality joins two entries

abbrev Differ : Edge → Type 0
Differ e = e.left.entry ≢ e.right.entry

differ : (cond : Cond) (e : Edge) → equality_of cond ≡ Some e → Differ e
differ cond e h =
    let j = is_join cond e h in
    let made : equality_between (Some j.left) (Some j.right) ≡ Some e = sym (ap equality_in j.compares) ∙ h in
    elim (cases_Bool (eqb j.left.from j.right.from)) [
      | inl t ↦ (let no : None ≡ Some e = rw t at made in λ same. absurd (cc))
      | inr n ↦ λ same. eqb-false j.left.from j.right.from n (sym (ap (λ (f : Edge). f.left.entry) j.joins) ∙ same ∙ ap (λ (f : Edge). f.right.entry) j.joins)
    ]

all_differ : (query : Query) → AllByRecursion Differ (equalities_of query)
all_differ query = from_members Differ (equalities_of query) (λ e here. let found = (equality_is_conjunct query e).0 here in differ found.0 e found.2)

both_differ : (es : List Edge) → AllByRecursion Differ es → AllByRecursion Differ (with_exchanged_sides es)
both_differ [] h = tt
both_differ (e ∷ es) h = (h.0, (λ same. h.0 (sym same), both_differ es h.1))

its_entry : (entry other : ℕ) → entry < 16 → has_entry (2 ^ entry) other ≡ true → other ≡ entry
its_entry entry other low has =
    elim (in_front_or_rest entry [] other (subst (λ (s : List ℕ). Contains s other) (one_of_set entry low) (set_entries_only (2 ^ entry) other has))) [
      | inr is ↦ is
      | inl none ↦ absurd (not_in_empty other none)
    ]

none_within : (entry : ℕ) (es : List Edge) → entry < 16 → AllByRecursion Differ es → equalities_within (2 ^ entry) es ≡ []
none_within entry [] low h = refl
none_within entry (e ∷ es) low h = elim (cases_Bool (joins_within (2 ^ entry) e)) [
  | inl t ↦ (let both : (has_entry (2 ^ entry) e.left.entry ≡ true) × (has_entry (2 ^ entry) e.right.entry ≡ true) = and_parts (has_entry (2 ^ entry) e.left.entry) (has_entry (2 ^ entry) e.right.entry) t in
      absurd (h.0 (its_entry entry e.left.entry low both.0 ∙ sym (its_entry entry e.right.entry low both.1))))
  | inr n ↦ rw n (none_within entry es low h.1)
]

pub keyed_singles : (schema : Schema) (query : Query) (tables : Tables) (accuracy : ℕ) → BoundSingles (length query.from) (set_bounds_by_keys schema query tables accuracy) (scan_bounds_of query tables accuracy)
keyed_singles schema query tables accuracy few entry low =
    let known : Statistics = statistics_of tables accuracy in
    let none : carriers_to (carrying_equalities schema query) (2 ^ entry) entry ≡ [] =
    ap (filter (λ (e : Edge). eqb e.left.entry entry)) (none_within entry (carrying_equalities schema query) (omega (arith, few, low))
    (all_filtered (carries schema query) Differ (with_exchanged_sides (equalities_of query)) (both_differ (equalities_of query) (all_differ query)))) in
    single_bound (bounds_by_keys schema query tables accuracy) (equalities_of query) (length query.from) entry few low
    ∙ ap saturated (
    ap (λ (b : Bool). cond b (rows_by_keys query tables accuracy entry (carriers_to (carrying_equalities schema query) (2 ^ entry) entry)) 0) (lt-ltb entry (length query.from) low)
    ∙ ap (rows_by_keys query tables accuracy entry) none
    ∙ sym (get_or-map-range_with_len (scan_row_bound query known) 0 (length query.from) entry entry 0 low (omega arith))
    )

-- ---- level 1 of an order

-- a plan that is found costs less than the top bound, which says nothing
cost_told : (bounds scans : List ℕ) (budget : ℕ) (order : List ℕ) (plan : Plan) → result_for_order bounds scans budget order ≡ Ok plan → cost bounds plan.order ≤ 2 ^ 128 - 2
cost_told bounds scans budget order plan made = elim (cases_lt (2 ^ 128 - 2) (cost bounds order)) [
  | inl past ↦ (let no : Err error.PastBits ≡ Ok plan = rw (lt-ltb (2 ^ 128 - 2) (cost bounds order) past) at made in absurd (cc))
  | inr within ↦ elim (cases_lt budget (cost bounds order)) [
    | inl dear ↦ (let no : Err (error.Budget (cost bounds order)) ≡ Ok plan = rw (le-ltb (2 ^ 128 - 2) (cost bounds order) within, lt-ltb budget (cost bounds order) dear) at made in absurd (cc))
    | inr fits ↦ (let is : Ok (plan_for_order bounds scans order) ≡ Ok plan = rw (le-ltb (2 ^ 128 - 2) (cost bounds order) within, le-ltb budget (cost bounds order) fits) at made in
        let same : plan_for_order bounds scans order ≡ plan = cc in
        subst (λ (p : Plan). cost bounds p.order ≤ 2 ^ 128 - 2) same within)
  ]
]

not_past : (bounds scans : List ℕ) (budget : ℕ) (plan : Plan) → plan_answer bounds scans budget ≡ Ok plan → cost bounds plan.order ≤ 2 ^ 128 - 2
unfolding plan_answer
not_past bounds scans budget plan made = cost_told bounds scans budget (best_order bounds (length scans)) plan made

module _ (n : ℕ) (sets scans : List ℕ) (budget : ℕ) (one_each : length scans ≡ n) (some : 1 ≤ n) (few : n ≤ 12) (singles : BoundSingles n sets scans)
    (plan : Plan) (made : plan_answer sets scans budget ≡ Ok plan) where
  abbrev first : ℕ
  first = get_or plan.order 0 0

  first_low : first < n
  first_low = lowest plan.order (is_plan_from sets scans n budget one_each plan made).order.entries (omega (arith, some, (is_plan_from sets scans n budget one_each plan made).order.all))
    where
      lowest : (order : List ℕ) → AllByRecursion (λ entry. entry < n) order → 1 ≤ length order → get_or order 0 0 < n
      lowest [] below some = absurd (omega arith)
      lowest (entry ∷ order) below some = below.0

  level_is_scan : get_or plan.levels 0 0 ≡ get_or plan.scans first 0
  level_is_scan =
      let P : Result Plan PlanError → Type 0 = IsPromised sets scans budget in
      let its_set : set_of (take (0 + 1) plan.order) ≡ 2 ^ first =
      ap set_of (sym (first_taken plan.order (omega (arith, some, (is_plan_from sets scans n budget one_each plan made).order.all)))) ∙ (omega arith) in
      let level : get_or plan.levels 0 0 ≡ saturated (get_or scans first 0) =
      level_bound sets scans n budget one_each plan made 0 (omega (arith, some)) ∙ ap (λ (set : ℕ). get_or sets set 0) its_set ∙ singles few first first_low in
      let its_level : get_or plan.levels 0 0 ≡ get_or (levels sets plan.order) 0 0 = ap (λ (s : List ℕ). get_or s 0 0) (subst P made (is_promised sets scans budget)).levels in
      omega (arith, level, its_level, level_within_cost sets plan.order 0, not_past sets scans budget plan made, scan_kept sets scans n budget one_each plan made first)

  -- the order that is read from the tree is the order that was found
  pub read_back : order_of_tree (tree_of_order plan) ≡ plan
  read_back = order_is_read n plan some (is_plan_from sets scans n budget one_each plan made) level_is_scan
