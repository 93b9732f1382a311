-- Repeated rounds reach the reduced scans. Every round keeps the rows of all consistent families, and after enough rounds nothing changes any more.
use Rattle.std.proofs.Common.{◌≡◌, ℕ, zero, suc, ◌+◌, ◌<◌, ◌≤◌, Bool, true, not, ◌||◌, List, [], ◌∷◌, length, refl, ap, sym, ◌∙◌, subst, arith, inl, inr}
use Rattle.std.specs.Prelude.{◌==◌}
use Rattle.std.specs.List.{Contains, filter, list_any}
use Rattle.std.proofs.lemmas.Bool.{and_from, and_parts, cases_Bool, cases_eq, eq-eqb, eqb-true, false≢true}
use Rattle.std.proofs.Math.Bool.{or-true}
use Rattle.berge_tree.specs.declared.edges.Edge.{Edge}
use Rattle.query_types.specs.declared.types.Query.{Query}
use Rattle.join_graph.specs.Conjuncts.{equalities_of}
use Rattle.level_bounds.specs.Keys.{are_equal_at}
use Rattle.level_bounds.proofs.Lists.{all_true, from_filter, in_filter, true_for_all}
use Rattle.sql_meaning.specs.Tables.{Tables}
use Rattle.join_steps.specs.Lists.{IsAscending, IsFamily, list_at, scans_of}
use Rattle.reduced_scans.specs.Families.{AreAscending, HasPartner, IsConsistent, IsReduced}
use Rattle.reduced_scans.specs.Rounds.{after_rounds, has_all_partners, finds_partners, reduced_of, round_from, rows_in_all}
use Rattle.reduced_scans.specs.Scans.{AreReducedScans}
use Rattle.reduced_scans.proofs.Members.{behind, in_cases, in_front, not_in_none}
use Rattle.join_steps.proofs.WholeScans.{scan_ascends, filter_ascends}
use Rattle.level_bounds.proofs.Scanning.{implied, implies}

-- ---- `list_any` is true exactly if some member passes the test

any_exists : (p : ℕ → Bool) (xs : List ℕ) → list_any p xs ≡ true → (x : ℕ) × Contains xs x × (p x ≡ true)
any_exists p [] h = absurd (false≢true h)
any_exists p (x ∷ xs) h = elim (cases_Bool (p x)) [
  | inl here ↦ (x, in_front x x xs refl, here)
  | inr not_here ↦ (let rest : list_any p xs ≡ true = rw not_here at h in
      let found : (y : ℕ) × Contains xs y × (p y ≡ true) = any_exists p xs rest in (found.0, behind found.0 x xs found.1, found.2))
]

exists_any : (p : ℕ → Bool) (xs : List ℕ) (x : ℕ) → Contains xs x → p x ≡ true → list_any p xs ≡ true
exists_any p [] x has is = absurd (not_in_none x has)
exists_any p (y ∷ xs) x has is = elim (in_cases x y xs has) [
  | inl here ↦ (let first : p y ≡ true = ap p here ∙ is in rw first refl)
  | inr there ↦ rw (exists_any p xs x there is) (or-true (p y))
]

-- ---- the partners of a row in a family

module _ (equal : Edge → ℕ → ℕ → Bool) (family : List (List ℕ)) (entry row : ℕ) where
  abbrev pub FromLeft : Edge → Type 0
  FromLeft e = e.left.entry ≡ entry → HasPartner (equal e) (list_at family e.right.entry) row

  abbrev pub FromRight : Edge → Type 0
  FromRight e = e.right.entry ≡ entry → HasPartner (λ right left. equal e left right) (list_at family e.left.entry) row

  abbrev on_left : Edge → Bool
  on_left e = not (e.left.entry == entry) || list_any (equal e row) (list_at family e.right.entry)

  abbrev on_right : Edge → Bool
  on_right e = not (e.right.entry == entry) || list_any (λ left. equal e left row) (list_at family e.left.entry)

  has_partners_on_both_sides : (e : Edge) → finds_partners equal family entry row e ≡ true → FromLeft e × FromRight e
  has_partners_on_both_sides e h =
      let parts : (on_left e ≡ true) × (on_right e ≡ true) = and_parts (on_left e) (on_right e) h in (
        (λ at. any_exists (equal e row) (list_at family e.right.entry)
            (implied (e.left.entry == entry) (list_any (equal e row) (list_at family e.right.entry)) parts.0 (eq-eqb e.left.entry entry at))),
        (λ at. any_exists (λ left. equal e left row) (list_at family e.left.entry)
            (implied (e.right.entry == entry) (list_any (λ left. equal e left row) (list_at family e.left.entry)) parts.1 (eq-eqb e.right.entry entry at))),
      )

  passes : (e : Edge) → FromLeft e → FromRight e → finds_partners equal family entry row e ≡ true
  passes e left right =
      and_from (on_left e) (on_right e)
      (implies (e.left.entry == entry) (list_any (equal e row) (list_at family e.right.entry)) (λ at.
      let partner : HasPartner (equal e) (list_at family e.right.entry) row = left (eqb-true e.left.entry entry at) in
      exists_any (equal e row) (list_at family e.right.entry) partner.0 partner.1 partner.2))
      (implies (e.right.entry == entry) (list_any (λ left. equal e left row) (list_at family e.left.entry)) (λ at.
      let partner : HasPartner (λ right left. equal e left right) (list_at family e.left.entry) row = right (eqb-true e.right.entry entry at) in
      exists_any (λ left. equal e left row) (list_at family e.left.entry) partner.0 partner.1 partner.2))

-- ---- a filter shortens a list or leaves it unchanged

pub filter_shrinks : (p : ℕ → Bool) (xs : List ℕ) → length (filter p xs) ≤ length xs
filter_shrinks p [] = omega arith
filter_shrinks p (x ∷ xs) = elim (cases_Bool (p x)) [
  | inl stays ↦ rw stays (omega (arith, filter_shrinks p xs))
  | inr goes ↦ rw goes (omega (arith, filter_shrinks p xs))
]

filter_stays : (p : ℕ → Bool) (xs : List ℕ) → length (filter p xs) ≡ length xs → filter p xs ≡ xs
filter_stays p [] same = refl
filter_stays p (x ∷ xs) same = elim (cases_Bool (p x)) [
  | inl stays ↦ (let sizes : length (x ∷ filter p xs) ≡ length (x ∷ xs) = rw stays at same in
      rw stays (ap (λ (s : List ℕ). x ∷ s) (filter_stays p xs (omega (arith, sizes)))))
  | inr goes ↦ (let sizes : length (filter p xs) ≡ length (x ∷ xs) = rw goes at same in absurd (omega (arith, sizes, filter_shrinks p xs)))
]

module _ (scans : List (List ℕ)) (es : List Edge) (equal : Edge → ℕ → ℕ → Bool) where
  abbrev round : List (List ℕ) → List (List ℕ)
  round family = round_from es equal family 0 family

  round_shrinks : (family lists : List (List ℕ)) (first : ℕ) → rows_in_all (round_from es equal family first lists) ≤ rows_in_all lists
  round_shrinks family [] first = omega arith
  round_shrinks family (list ∷ lists) first = omega (arith, filter_shrinks (has_all_partners es equal family first) list, round_shrinks family lists (suc first))

  round_stays : (family lists : List (List ℕ)) (first : ℕ) → rows_in_all (round_from es equal family first lists) ≡ rows_in_all lists → round_from es equal family first lists ≡ lists
  round_stays family [] first same = refl
  round_stays family (list ∷ lists) first same =
      let some : length (filter (has_all_partners es equal family first) list) ≤ length list = filter_shrinks (has_all_partners es equal family first) list in
      let rest : rows_in_all (round_from es equal family (suc first) lists) ≤ rows_in_all lists = round_shrinks family lists (suc first) in
      ap (λ (s : List ℕ). s ∷ round_from es equal family (suc first) lists) (filter_stays (has_all_partners es equal family first) list (omega (arith, same, some, rest)))
      ∙ ap (λ (s : List (List ℕ)). list ∷ s) (round_stays family lists (suc first) (omega (arith, same, some, rest)))

  settled : (count : ℕ) (family : List (List ℕ)) → round family ≡ family → after_rounds es equal count family ≡ family
  settled zero family same = refl
  settled (suc count) family same = ap (λ (f : List (List ℕ)). after_rounds es equal count f) same ∙ settled count family same

  -- ---- the list of an entry after a round

  round_at : (family lists : List (List ℕ)) (first entry : ℕ) → list_at (round_from es equal family first lists) entry ≡ filter (has_all_partners es equal family (first + entry)) (list_at lists entry)
  round_at family [] first entry = refl
  round_at family (list ∷ lists) first zero =
      let n : first ≡ first + 0 = omega arith in ap (λ (k : ℕ). filter (has_all_partners es equal family k) list) n
  round_at family (list ∷ lists) first (suc entry) =
      let n : suc first + entry ≡ first + suc entry = omega arith in
      round_at family lists (suc first) entry ∙ ap (λ (k : ℕ). filter (has_all_partners es equal family k) (list_at lists entry)) n

  length-round : (family lists : List (List ℕ)) (first : ℕ) → length (round_from es equal family first lists) ≡ length lists
  length-round family [] first = refl
  length-round family (list ∷ lists) first = ap suc (length-round family lists (suc first))

  after_at : (family : List (List ℕ)) (entry : ℕ) → list_at (round family) entry ≡ filter (has_all_partners es equal family entry) (list_at family entry)
  after_at family entry =
      let n : 0 + entry ≡ entry = omega arith in
      round_at family family 0 entry ∙ ap (λ (k : ℕ). filter (has_all_partners es equal family k) (list_at family entry)) n

  -- ---- after a round the lists are still a family that contains every consistent family

  abbrev Contained : List (List ℕ) → Type 0
  Contained family = (other : List (List ℕ)) → IsConsistent scans es equal other → (entry row : ℕ) → Contains (list_at other entry) row → Contains (list_at family entry) row

  round_family : (family : List (List ℕ)) → IsFamily scans family → IsFamily scans (round family)
  round_family family is = record {
    count = length-round family family 0 ∙ is.count;
    scanned = λ entry row has. is.scanned entry row
        (from_filter (has_all_partners es equal family entry) (list_at family entry) row (subst (λ (l : List ℕ). Contains l row) (after_at family entry) has)).0;
    ascending = λ entry. subst IsAscending (sym (after_at family entry)) (filter_ascends (has_all_partners es equal family entry) (list_at family entry) (is.ascending entry));
  }

  round_contained : (family : List (List ℕ)) → Contained family → Contained (round family)
  round_contained family all other consistent entry row has =
      subst (λ (l : List ℕ). Contains l row) (sym (after_at family entry))
      (in_filter (has_all_partners es equal family entry) (list_at family entry) row (all other consistent entry row has)
      (true_for_all (finds_partners equal family entry row) es (λ e there. passes equal family entry row e
      (λ at. let partner : HasPartner (equal e) (list_at other e.right.entry) row =
      consistent.from_left e there row (subst (λ (k : ℕ). Contains (list_at other k) row) (sym at) has) in
      (partner.0, all other consistent e.right.entry partner.0 partner.1, partner.2))
      (λ at. let partner : HasPartner (λ right left. equal e left right) (list_at other e.left.entry) row =
      consistent.from_right e there row (subst (λ (k : ℕ). Contains (list_at other k) row) (sym at) has) in
      (partner.0, all other consistent e.left.entry partner.0 partner.1, partner.2)))))

  -- ---- a family that a round doesn't change is reduced

  unchanged_is_reduced : (family : List (List ℕ)) → IsFamily scans family → Contained family → round family ≡ family → IsReduced scans es equal family
  unchanged_is_reduced family is all same = record {
    consistent = record {
      is_family = is;
      from_left = λ e there row has. (stays e.left.entry row has e there).0 refl;
      from_right = λ e there row has. (stays e.right.entry row has e there).1 refl;
    };
    greatest = all;
  }
    where
      stays : (entry row : ℕ) → Contains (list_at family entry) row → (e : Edge) → Contains es e → FromLeft equal family entry row e × FromRight equal family entry row e
      stays entry row has e there =
          has_partners_on_both_sides equal family entry row e
          (all_true (finds_partners equal family entry row) es
          (from_filter (has_all_partners es equal family entry) (list_at family entry) row
          (subst (λ (l : List ℕ). Contains l row) (after_at family entry) (subst (λ (f : List (List ℕ)). Contains (list_at f entry) row) (sym same) has))).1
          e there)

  rounds_reduce : (count : ℕ) (family : List (List ℕ)) → IsFamily scans family → Contained family → rows_in_all family < count → IsReduced scans es equal (after_rounds es equal count family)
  rounds_reduce zero family is all fewer_rows_than_rounds = absurd (omega arith)
  rounds_reduce (suc count) family is all fewer_rows_than_rounds = elim (cases_eq (rows_in_all (round family)) (rows_in_all family)) [
    | inl same ↦ (let stays : round family ≡ family = round_stays family family 0 same in
        subst (IsReduced scans es equal) (sym (settled (suc count) family stays)) (unchanged_is_reduced family is all stays))
    | inr other ↦ rounds_reduce count (round family) (round_family family is) (round_contained family all) (omega (arith, other, fewer_rows_than_rounds, round_shrinks family family 0))
  ]

  pub by_rounds : AreAscending scans → IsReduced scans es equal (after_rounds es equal (rows_in_all scans + 1) scans)
  by_rounds ascend =
      rounds_reduce (rows_in_all scans + 1) scans (record { count = refl; scanned = λ entry row has. has; ascending = ascend })
      (λ other consistent entry row has. consistent.is_family.scanned entry row has) (omega arith)

pub reduced_scans_by_rounds : (query : Query) (tables : Tables) → AreReducedScans query tables (reduced_of query tables)
unfolding reduced_of
reduced_scans_by_rounds query tables = by_rounds (scans_of query tables) (equalities_of query) (are_equal_at tables) (scan_ascends query tables)
