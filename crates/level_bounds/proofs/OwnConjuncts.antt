-- A row is in the scan of an entry exactly if it passes the conjuncts that name just this entry.
use Rattle.std.proofs.Common.{◌≡◌, ℕ, zero, suc, ◌+◌, ◌<◌, ◌↔◌, Bool, IsTrue, true, not, ◌&&◌, ◌||◌, List, [], ◌∷◌, length, map, refl, ap, sym, subst, arith, inl, inr}
use Rattle.std.specs.Prelude.{IsSomeAnd, slice_get, slice_index_or}
use Rattle.std.specs.List.{Contains, filter, list_all, range_with_len}
use Rattle.std.proofs.lemmas.Bool.{cases_Bool, and_from, and_parts}
use Rattle.std.proofs.lemmas.List.Elements.{filter_agree}
use Rattle.std.proofs.lemmas.List.FromFn.{get_or-map-range_with_len}
use Rattle.query_types.specs.declared.types.Cond.{Cond}
use Rattle.query_types.specs.declared.types.Query.{Query}
use Rattle.join_graph.specs.Conjuncts.{local_of, is_own_conjunct, numbers_where}
use Rattle.join_graph.proofs.Numbered.{number_passes, passing_is_numbered}
use Rattle.sql_meaning.specs.Answers.{conjunct_of, conjuncts_of}
use Rattle.sql_meaning.specs.Conditions.{cond_holds}
use Rattle.sql_meaning.specs.Levels.{is_own_conjunct as is_own_in_sql}
use Rattle.sql_meaning.specs.Tables.{Tables, row_counts}
use Rattle.level_bounds.specs.Scans.{own_conjuncts_of, query_scan}
use Rattle.level_bounds.proofs.Lists.{from_filter, in_filter, in_range, range_within}

-- the planner's definition of an own conjunct and that of the meaning of SQL agree
pub names_alike : (tables : Tables) (entry : ℕ) (cond : Cond) → is_own_in_sql (conjunct_of tables cond) entry ≡ is_own_conjunct entry cond
names_alike tables entry cond = refl

-- ---- the scan

module _ (tables : Tables) (entry row : ℕ) where
  own_hold : (conds : List Cond) → list_all (λ c. not (is_own_in_sql c entry) || c.holds (λ e. row)) (map (conjunct_of tables) conds) ≡ list_all (cond_holds tables (λ e. row)) (filter (is_own_conjunct entry) conds)
  own_hold [] = refl
  own_hold (cond ∷ conds) = elim (cases_Bool (is_own_conjunct entry cond)) [
    | inl t ↦ rw (names_alike tables entry cond, t) (ap (λ b. cond_holds tables (λ e. row) cond && b) (own_hold conds))
    | inr n ↦ rw (names_alike tables entry cond, n) (own_hold conds)
  ]

pub scan_by_own : (query : Query) (tables : Tables) (entry : ℕ)
    → query_scan query tables entry ≡ filter (λ row. list_all (cond_holds tables (λ e. row)) (own_conjuncts_of query entry)) (range_with_len 0 (row_counts tables entry))
scan_by_own query tables entry =
    filter_agree (λ row. list_all (λ c. not (is_own_in_sql c entry) || c.holds (λ e. row)) (conjuncts_of query tables))
    (λ row. list_all (cond_holds tables (λ e. row)) (own_conjuncts_of query entry)) (λ row. own_hold tables entry row query.conjuncts) (range_with_len 0 (row_counts tables entry))

-- ---- own conjuncts by their numbers

module _ (own passes : Cond → Bool) where
  abbrev EachOwn : List Cond → Type 0
  EachOwn conds = (k : ℕ) → IsSomeAnd (slice_get conds k) (λ cond. IsTrue (own cond)) → IsSomeAnd (slice_get conds k) (λ cond. IsTrue (passes cond))

  each_from_all : (conds : List Cond) → list_all passes (filter own conds) ≡ true → EachOwn conds
  each_from_all [] h k at = at
  each_from_all (cond ∷ conds) h zero at =
      let kept : (passes cond && list_all passes (filter own conds)) ≡ true = rw at at h in
      (and_parts (passes cond) (list_all passes (filter own conds)) kept).0
  each_from_all (cond ∷ conds) h (suc k) at = elim (cases_Bool (own cond)) [
    | inl t ↦ (let kept : (passes cond && list_all passes (filter own conds)) ≡ true = rw t at h in
        each_from_all conds (and_parts (passes cond) (list_all passes (filter own conds)) kept).1 k at)
    | inr n ↦ (let left : list_all passes (filter own conds) ≡ true = rw n at h in each_from_all conds left k at)
  ]

  all_from_each : (conds : List Cond) → EachOwn conds → list_all passes (filter own conds) ≡ true
  all_from_each [] each = refl
  all_from_each (cond ∷ conds) each =
      let rest : list_all passes (filter own conds) ≡ true = all_from_each conds (λ k at. each (suc k) at) in
      elim (cases_Bool (own cond)) [
        | inl t ↦ rw t (and_from (passes cond) (list_all passes (filter own conds)) (each 0 t) rest)
        | inr n ↦ rw n rest
      ]

local_at : (query : Query) (entry : ℕ) → entry < length query.from → slice_index_or (local_of query) entry [] ≡ numbers_where (is_own_conjunct entry) 0 query.conjuncts
local_at query entry is_below =
    let start : 0 + entry ≡ entry = omega arith in
    get_or-map-range_with_len (λ entry. numbers_where (is_own_conjunct entry) 0 query.conjuncts) 0 (length query.from) entry entry [] is_below start

pub scan_by_number : (query : Query) (tables : Tables) (entry row : ℕ) → entry < length query.from
    → Contains (query_scan query tables entry) row
    ↔ ((row < row_counts tables entry) × ((k : ℕ) → Contains (slice_index_or (local_of query) entry []) k
    → IsSomeAnd (slice_get query.conjuncts k) (λ cond. IsTrue (cond_holds tables (λ e. row) cond))))
scan_by_number query tables entry row is_below = (
  λ k. let parts : Contains (range_with_len 0 (row_counts tables entry)) row × (list_all passes (own_conjuncts_of query entry) ≡ true) =
      from_filter (λ row. list_all (cond_holds tables (λ e. row)) (own_conjuncts_of query entry)) (range_with_len 0 (row_counts tables entry)) row
      (subst (λ (rows : List ℕ). Contains rows row) (scan_by_own query tables entry) k) in (
        omega (arith, (range_within 0 (row_counts tables entry) row parts.0).1),
        λ number at. each_from_all (is_own_conjunct entry) passes query.conjuncts parts.1 number
            (number_passes (is_own_conjunct entry) query.conjuncts number (subst (λ (numbers : List ℕ). Contains numbers number) (local_at query entry is_below) at)),
      ),
  λ h. subst (λ (rows : List ℕ). Contains rows row) (sym (scan_by_own query tables entry))
      (in_filter (λ row. list_all (cond_holds tables (λ e. row)) (own_conjuncts_of query entry)) (range_with_len 0 (row_counts tables entry)) row
      (in_range 0 (row_counts tables entry) row (omega arith) (omega (arith, h.0)))
      (all_from_each (is_own_conjunct entry) passes query.conjuncts
      (λ number own. h.1 number (subst (λ (numbers : List ℕ). Contains numbers number) (sym (local_at query entry is_below)) (passing_is_numbered (is_own_conjunct entry) query.conjuncts number own))))),
)
  where
    passes : Cond → Bool
    passes = cond_holds tables (λ e. row)
