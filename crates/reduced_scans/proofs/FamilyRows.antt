-- A family has for each entry a list of some scanned rows. Each list is a filtered list of all rows of its table. The choices of a level over the
-- family have only listed rows.
use Rattle.std.proofs.Common.{◌≡◌, ℕ, ◌<◌, Bool, List, ap, ◌∙◌, subst, arith, inl, inr, length}
use Rattle.std.specs.List.{Contains, filter, range_with_len}
use Rattle.std.proofs.lemmas.Bool.{cases_lt}
use Rattle.query_types.specs.declared.types.Query.{Query}
use Rattle.sql_meaning.specs.Answers.{conjuncts_of}
use Rattle.sql_meaning.specs.Choices.{choices}
use Rattle.sql_meaning.specs.Levels.{all_hold, all_pass, level_over, row_in}
use Rattle.sql_meaning.specs.Tables.{Tables, row_counts}
use Rattle.sql_meaning.proofs.LevelsOver.{over_restricted}
use Rattle.level_bounds.specs.Scans.{level_over_entries}
use Rattle.level_bounds.proofs.Lists.{from_filter, in_filter, in_range, map_same_on_members}
use Rattle.join_steps.specs.Lists.{IsFamily, list_at, scans_of}
use Rattle.reduced_scans.proofs.Bridge.{contains-has, has, has-contains}
use Rattle.reduced_scans.proofs.Members.{not_in_none}
use Rattle.reduced_scans.proofs.OneReduced.{same_members}
use Rattle.join_steps.proofs.WholeScans.{scans_of_at, filter_ascends, range_ascends, scans_of_past_end}
use Rattle.reduced_scans.proofs.QueryScans.{scanned_row_in_range}

module _ (query : Query) (tables : Tables) (family : List (List ℕ)) (is : IsFamily (scans_of query tables) family) where
  abbrev pub stays : ℕ → ℕ → Bool
  stays entry row = has row (list_at family entry)

  pub listed_row_in_range : (entry row : ℕ) → Contains (list_at family entry) row → row < row_counts tables entry
  listed_row_in_range entry row row_listed =
      let scanned : Contains (list_at (scans_of query tables) entry) row = is.scanned entry row row_listed in
      elim (cases_lt entry (length query.from)) [
        | inl low ↦ scanned_row_in_range query tables entry row (subst (λ l. Contains l row) (scans_of_at query tables entry low) scanned)
        | inr past ↦ absurd (not_in_none row (subst (λ l. Contains l row) (scans_of_past_end query tables entry past) scanned))
      ]

  pub family_list : (entry : ℕ) → list_at family entry ≡ filter (stays entry) (range_with_len 0 (row_counts tables entry))
  family_list entry =
      same_members (list_at family entry) (filter (stays entry) (range_with_len 0 (row_counts tables entry))) (is.ascending entry)
      (filter_ascends (stays entry) (range_with_len 0 (row_counts tables entry)) (range_ascends 0 (row_counts tables entry)))
      (λ row listed. in_filter (stays entry) (range_with_len 0 (row_counts tables entry)) row (in_range 0 (row_counts tables entry) row (omega arith) (omega (arith, listed_row_in_range entry row listed)))
      (contains-has row (list_at family entry) listed))
      (λ row kept. has-contains row (list_at family entry) (from_filter (stays entry) (range_with_len 0 (row_counts tables entry)) row kept).1)

  pub family_level : (order : List ℕ) → level_over (conjuncts_of query tables) (list_at family) order ≡ filter (all_pass stays order) (level_over_entries query tables order)
  family_level order =
      ap (λ lists. filter (λ choice. all_hold (conjuncts_of query tables) order (row_in order choice)) (choices lists))
      (map_same_on_members (list_at family) (λ entry. filter (stays entry) (range_with_len 0 (row_counts tables entry))) order (λ entry here. family_list entry))
      ∙ over_restricted (conjuncts_of query tables) (row_counts tables) stays order
