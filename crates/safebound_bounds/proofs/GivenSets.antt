-- The row bounds and lists that the code makes for a set are those of `known_in`.
use Rattle.std.proofs.Common.{◌≡◌, ℕ, ◌-◌, ◌<◌, ◌^◌, List, length, ap, sym, ◌∙◌, subst}
use Rattle.std.specs.Prelude.{IfErr, IfOk, OnOk, Result, Ok, Err}
use Rattle.berge_tree.specs.declared.edges.Edge.{Edge}
use Rattle.tree_bounds.specs.TreeBounds.{EntryBounds}
use Rattle.bound_fold.specs.declared.lists.EntryLists.{EntryLists}
use Rattle.bound_fold.specs.Lists.{bounds_of}
use Rattle.bound_fold.specs.Sets.{SetHasBounds}
use Rattle.set_bounds.specs.AllSets.{bound_in_128_bits, bounds_in_sets, bounds_of_sets}
use Rattle.set_bounds.specs.Parts.{DependsOnPartsOnly}
use Rattle.set_bounds.proofs.Listing.{first_entries_have_bounds}
use Rattle.safebound_lists.specs.declared.refusal.Refusal.{Refusal}
use Rattle.safebound_lists.specs.declared.refusal.Refusal.TheVariants as refusal
use Rattle.safebound_lists.specs.declared.runs.Run.{Run}
use Rattle.safebound_bounds.specs.declared.arguments.ColumnList.{ColumnList}
use Rattle.safebound_bounds.specs.declared.arguments.Equality.{Equality}
use Rattle.safebound_bounds.specs.Arguments.{list_at}
use Rattle.safebound_bounds.specs.Causes.{IsBoundsCause, AreArgumentsValid, IsSetCause, IsWithinCause}
use Rattle.safebound_bounds.specs.InSets.{CoversRows}
use Rattle.safebound_bounds.specs.Listed.{HoldsListed}
use Rattle.safebound_bounds.specs.Meaning.{edges_of, known, known_in, rows_in_set}
use Rattle.safebound_bounds.proofs.Bounded.{every_set_has_bounds, bounds_if_covered}
use Rattle.safebound_bounds.proofs.Holding.{bounds_known}
use Rattle.safebound_bounds.proofs.InParts.{looks_at_parts}
use Rattle.safebound_bounds.proofs.JoinableRows.{in_set_counted, arguments_stay_valid_in_set}

module _ (rows : List ℕ) (equalities : List Equality) (lists : List ColumnList) (runs : List Run) (arguments_valid : AreArgumentsValid rows equalities lists runs) where
  pub whole_set_has_bounds : (held : EntryLists) (es : List Edge) → es ≡ edges_of equalities → HoldsListed rows (length rows) lists runs held → SetHasBounds held es (2 ^ length rows - 1)
  whole_set_has_bounds held es same holds =
      subst (λ (fs : List Edge). SetHasBounds held fs (2 ^ length rows - 1)) (sym same) (every_set_has_bounds rows equalities lists runs arguments_valid held holds)

  pub known_in_depends_on_parts_only : (es : List Edge) → es ≡ edges_of equalities → DependsOnPartsOnly (known_in rows lists runs (edges_of equalities)) es
  known_in_depends_on_parts_only es same = subst (λ (fs : List Edge). DependsOnPartsOnly (known_in rows lists runs (edges_of equalities)) fs) (sym same) (looks_at_parts rows lists runs (edges_of equalities))

  pub covered_bound_is_bound : {E : Type 0} (held : EntryLists) (es : List Edge) → HoldsListed rows (length rows) lists runs held → ((i : ℕ) → i < length lists → CoversRows rows runs (list_at lists i))
      → (r : Result (List ℕ) E) → IfOk r (λ bounds. bounds ≡ bounds_of_sets (bounds_of held) es (length rows))
      → IfOk r (λ bounds. bounds ≡ bounds_in_sets (known_in rows lists runs (edges_of equalities)) es (length rows))
  covered_bound_is_bound held es holds full (Ok bounds) is =
      bounds_if_covered rows equalities lists runs arguments_valid full es bounds
      (is ∙ ap (λ (b : EntryBounds). bounds_of_sets b es (length rows)) (bounds_known rows lists runs held holds))
  covered_bound_is_bound held es holds full (Err e) is = tt

  -- ---- the row bounds and lists of one set

  module _ (es edges : List Edge) (subset : ℕ) (same_edges : es ≡ edges_of equalities) (edges_are : edges ≡ es) (made : List ℕ)
      (are : made ≡ rows_in_set rows lists runs edges subset) where
    made_are : made ≡ rows_in_set rows lists runs (edges_of equalities) subset
    made_are = are ∙ ap (λ (fs : List Edge). rows_in_set rows lists runs fs subset) (edges_are ∙ same_edges)

    pub arguments_in_set_are_valid : AreArgumentsValid made equalities lists runs
    arguments_in_set_are_valid = subst (λ (s : List ℕ). AreArgumentsValid s equalities lists runs) (sym made_are) (arguments_stay_valid_in_set rows lists runs (edges_of equalities) subset equalities arguments_valid)

    made_counted : length made ≡ length rows
    made_counted = ap length made_are ∙ in_set_counted rows lists runs (edges_of equalities) subset

    pub set_has_its_bounds : (held : EntryLists) → subset < 2 ^ length rows → HoldsListed made (length made) lists runs held → SetHasBounds held es subset
    set_has_its_bounds held fits holds =
        subst (λ (fs : List Edge). SetHasBounds held fs subset) (sym same_edges)
        (first_entries_have_bounds held (edges_of equalities) (length made) subset (every_set_has_bounds made equalities lists runs arguments_in_set_are_valid held holds)
        (subst (λ (n : ℕ). subset < 2 ^ n) (sym made_counted) fits))

    pub bound_of_set_is_bound : {E : Type 0} (held : EntryLists) → HoldsListed made (length made) lists runs held → (r : Result ℕ E) → IfOk r (λ n. n ≡ bound_in_128_bits (bounds_of held) es subset)
        → IfOk r (λ n. n ≡ bound_in_128_bits (known_in rows lists runs (edges_of equalities) subset) es subset)
    bound_of_set_is_bound held holds (Ok n) is =
        is ∙ ap (λ (b : EntryBounds). bound_in_128_bits b es subset) (bounds_known made lists runs held holds ∙ ap (λ (s : List ℕ). known s lists runs) made_are)
    bound_of_set_is_bound held holds (Err e) is = tt

-- ---- NoMemory needs no cause

pub ok_always : {A E : Type 0} (P : Type 0) (r : Result A E) → P → OnOk r P
ok_always P (Ok a) held = held
ok_always P (Err e) held = tt

module _ {A : Type 0} (rows : List ℕ) (equalities : List Equality) (lists : List ColumnList) (runs : List Run) where
  pub no_memory_is_bounds_cause : (room : ℕ) (r : Result A Refusal) → IfErr r (λ why. why ≡ refusal.NoMemory) → IfErr r (IsBoundsCause rows equalities lists runs room)
  no_memory_is_bounds_cause room (Ok a) h = tt
  no_memory_is_bounds_cause room (Err why) h = subst (IsBoundsCause rows equalities lists runs room) (sym h) tt

  pub no_memory_is_within_cause : (limit room : ℕ) (r : Result A Refusal) → IfErr r (λ why. why ≡ refusal.NoMemory) → IfErr r (IsWithinCause rows equalities lists runs limit room)
  no_memory_is_within_cause limit room (Ok a) h = tt
  no_memory_is_within_cause limit room (Err why) h = subst (IsWithinCause rows equalities lists runs limit room) (sym h) tt

-- ---- a cause for which `bounds` refuses a call is also a cause of `bounds_within` and of `set_bound`

module _ (rows : List ℕ) (equalities : List Equality) (lists : List ColumnList) (runs : List Run) where
  within_cause : (limit room : ℕ) (why : Refusal) → IsBoundsCause rows equalities lists runs room why → IsWithinCause rows equalities lists runs limit room why
  within_cause limit room (refusal.Work needed) h = absurd h
  within_cause limit room (refusal.Room needed) h = h
  within_cause limit room refusal.NoMemory h = h
  within_cause limit room (refusal.Budget least) h = h
  within_cause limit room refusal.PastBits h = h
  within_cause limit room (refusal.Keys count) h = h
  within_cause limit room (refusal.Accuracy given) h = h
  within_cause limit room (refusal.Run place) h = h
  within_cause limit room (refusal.OtherRun place) h = h
  within_cause limit room (refusal.Sum sum) h = h
  within_cause limit room (refusal.Entries count) h = h
  within_cause limit room (refusal.Rows place) h = h
  within_cause limit room (refusal.Equalities count) h = h
  within_cause limit room (refusal.Equality place) h = h
  within_cause limit room (refusal.List place) h = h
  within_cause limit room (refusal.MissingList place) h = h
  within_cause limit room (refusal.Bounds count) h = h
  within_cause limit room (refusal.GivenBudget given) h = h
  within_cause limit room (refusal.Levels count) h = h
  within_cause limit room (refusal.Level place) h = h
  within_cause limit room (refusal.Joins count) h = h
  within_cause limit room (refusal.Join place) h = h
  within_cause limit room (refusal.Set given) h = h
  within_cause limit room (refusal.JoinKind given) h = h

  set_cause : (subset : ℕ) (why : Refusal) → IsBoundsCause rows equalities lists runs (2 ^ length rows) why → IsSetCause rows equalities lists runs subset why
  set_cause subset (refusal.Set given) h = absurd h
  set_cause subset (refusal.Room needed) h = h
  set_cause subset refusal.NoMemory h = h
  set_cause subset (refusal.Budget least) h = h
  set_cause subset refusal.PastBits h = h
  set_cause subset (refusal.Keys count) h = h
  set_cause subset (refusal.Accuracy given) h = h
  set_cause subset (refusal.Run place) h = h
  set_cause subset (refusal.OtherRun place) h = h
  set_cause subset (refusal.Sum sum) h = h
  set_cause subset (refusal.Entries count) h = h
  set_cause subset (refusal.Rows place) h = h
  set_cause subset (refusal.Equalities count) h = h
  set_cause subset (refusal.Equality place) h = h
  set_cause subset (refusal.List place) h = h
  set_cause subset (refusal.MissingList place) h = h
  set_cause subset (refusal.Bounds count) h = h
  set_cause subset (refusal.GivenBudget given) h = h
  set_cause subset (refusal.Levels count) h = h
  set_cause subset (refusal.Level place) h = h
  set_cause subset (refusal.Joins count) h = h
  set_cause subset (refusal.Join place) h = h
  set_cause subset (refusal.JoinKind given) h = h
  set_cause subset (refusal.Work needed) h = h

  pub refused_within : {A : Type 0} (limit room : ℕ) (r : Result A Refusal) → IfErr r (IsBoundsCause rows equalities lists runs room)
      → IfErr r (IsWithinCause rows equalities lists runs limit room)
  refused_within limit room (Ok a) h = tt
  refused_within limit room (Err why) h = within_cause limit room why h

  pub refused_set : {A : Type 0} (subset : ℕ) (r : Result A Refusal) → IfErr r (IsBoundsCause rows equalities lists runs (2 ^ length rows))
      → IfErr r (IsSetCause rows equalities lists runs subset)
  refused_set subset (Ok a) h = tt
  refused_set subset (Err why) h = set_cause subset why h
