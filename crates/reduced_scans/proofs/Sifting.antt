-- Semi-joins remove no row of a consistent family. So the remaining rows have the same reduced scans as all rows.
use Rattle.std.proofs.Common.{◌≡◌, ℕ, Bool, true, List, refl, sym, ◌∙◌, subst, inl, inr}
use Rattle.std.specs.List.{Contains, filter}
use Rattle.std.proofs.lemmas.Bool.{cases_eq}
use Rattle.berge_tree.specs.declared.edges.Edge.{Edge}
use Rattle.level_bounds.specs.Keys.{Keys}
use Rattle.level_bounds.proofs.Lists.{from_filter, in_filter}
use Rattle.join_steps.specs.Lists.{IsAscending, list_at}
use Rattle.reduced_scans.specs.Families.{AreAscending, HasPartner, IsConsistent, IsReduced}
use Rattle.reduced_scans.specs.SemiJoins.{IsJoinedAt, IsSifted, StaySifted}
use Rattle.reduced_scans.specs.Wiring.{HoldsByKey, key_on, side_of, opposite}
use Rattle.reduced_scans.proofs.Bridge.{equal_from, partners, same_key}
use Rattle.join_steps.proofs.WholeScans.{filter_ascends}

module _ (scans : List (List ℕ)) (equalities : List Edge) (equal : Edge → ℕ → ℕ → Bool) where
  pub scans_are_sifted : AreAscending scans → IsSifted scans equalities equal scans
  scans_are_sifted ascend = record {
    is_family = record { count = refl; scanned = λ entry row has. has; ascending = ascend };
    keeps = λ family consistent entry row has. consistent.is_family.scanned entry row has;
  }

  pub sifted_tell : (key : Keys) (lists : List (List ℕ)) → HoldsByKey scans equalities key equal → IsSifted scans equalities equal lists → HoldsByKey lists equalities key equal
  sifted_tell key lists tells sifted e there left right in_left in_right =
      tells e there left right (sifted.is_family.scanned e.left.entry left in_left) (sifted.is_family.scanned e.right.entry right in_right)

  -- ---- the reduced lists of the remaining rows are the reduced scans

  over_lists : (lists family : List (List ℕ)) → IsSifted scans equalities equal lists → IsConsistent scans equalities equal family → IsConsistent lists equalities equal family
  over_lists lists family sifted consistent = record {
    is_family = record {
      count = consistent.is_family.count ∙ sym sifted.is_family.count;
      scanned = sifted.keeps family consistent;
      ascending = consistent.is_family.ascending;
    };
    from_left = consistent.from_left;
    from_right = consistent.from_right;
  }

  pub reduced_of_sifted : (lists reduced : List (List ℕ)) → IsSifted scans equalities equal lists → IsReduced lists equalities equal reduced → IsReduced scans equalities equal reduced
  reduced_of_sifted lists reduced sifted are = record {
    consistent = record {
      is_family = record {
        count = are.consistent.is_family.count ∙ sifted.is_family.count;
        scanned = λ entry row has. sifted.is_family.scanned entry row (are.consistent.is_family.scanned entry row has);
        ascending = are.consistent.is_family.ascending;
      };
      from_left = are.consistent.from_left;
      from_right = are.consistent.from_right;
    };
    greatest = λ other consistent. are.greatest other (over_lists lists other sifted consistent);
  }

-- ---- one step: the semi-join of the list on one side of an equality with the list on the other side

module _ (scans : List (List ℕ)) (equalities : List Edge) (key : Keys) (equal : Edge → ℕ → ℕ → Bool) (tells : HoldsByKey scans equalities key equal)
    (old new : List (List ℕ)) (e : Edge) (is_left : Bool) (there : Contains equalities e) (joined : IsJoinedAt key (side_of e is_left) (side_of e (opposite is_left)) old new) (sifted : IsSifted scans equalities equal old) where
  was_there : (entry row : ℕ) → Contains (list_at new entry) row → Contains (list_at old entry) row
  was_there entry row has = elim (cases_eq entry (side_of e is_left).entry) [
    | inl same ↦ (let here : Contains (list_at new (side_of e is_left).entry) row = subst (λ (k : ℕ). Contains (list_at new k) row) same has in
        let passed : Contains (filter joined.joined.test (list_at old (side_of e is_left).entry)) row = subst (λ (l : List ℕ). Contains l row) joined.joined.filtered here in
        subst (λ (k : ℕ). Contains (list_at old k) row) (sym same) (from_filter joined.joined.test (list_at old (side_of e is_left).entry) row passed).0)
    | inr other ↦ subst (λ (l : List ℕ). Contains l row) (joined.elsewhere entry other) has
  ]

  ascends : (entry : ℕ) → IsAscending (list_at new entry)
  ascends entry = elim (cases_eq entry (side_of e is_left).entry) [
    | inl same ↦ subst (λ (k : ℕ). IsAscending (list_at new k)) (sym same)
        (subst IsAscending (sym joined.joined.filtered) (filter_ascends joined.joined.test (list_at old (side_of e is_left).entry) (sifted.is_family.ascending (side_of e is_left).entry)))
    | inr other ↦ subst IsAscending (sym (joined.elsewhere entry other)) (sifted.is_family.ascending entry)
  ]

  -- a row of a consistent family is kept. It has a partner in the family, and this partner is in the list of the other side and has the row's key
  stays : (family : List (List ℕ)) → IsConsistent scans equalities equal family → (row : ℕ) → Contains (list_at family (side_of e is_left).entry) row → Contains (list_at new (side_of e is_left).entry) row
  stays family consistent row has =
      let partner : HasPartner (equal_from equal e is_left) (list_at family (side_of e (opposite is_left)).entry) row = partners scans equalities key equal tells family e is_left consistent there row has in
      let in_list : Contains (list_at old (side_of e is_left).entry) row = sifted.keeps family consistent (side_of e is_left).entry row has in
      let one_key : key_on key (side_of e is_left) row ≡ key_on key (side_of e (opposite is_left)) partner.0 =
      same_key scans equalities key equal tells e is_left row partner.0 there (consistent.is_family.scanned (side_of e is_left).entry row has) (consistent.is_family.scanned (side_of e (opposite is_left)).entry partner.0 partner.1) partner.2 in
      let passes : joined.joined.test row ≡ true = joined.joined.passes row partner.0 in_list (sifted.keeps family consistent (side_of e (opposite is_left)).entry partner.0 partner.1) one_key in
      subst (λ (l : List ℕ). Contains l row) (sym joined.joined.filtered) (in_filter joined.joined.test (list_at old (side_of e is_left).entry) row in_list passes)

  keeps_row : (family : List (List ℕ)) → IsConsistent scans equalities equal family → (entry row : ℕ) → Contains (list_at family entry) row → Contains (list_at new entry) row
  keeps_row family consistent entry row has = elim (cases_eq entry (side_of e is_left).entry) [
    | inl same ↦ subst (λ (k : ℕ). Contains (list_at new k) row) (sym same) (stays family consistent row (subst (λ (k : ℕ). Contains (list_at family k) row) same has))
    | inr other ↦ subst (λ (l : List ℕ). Contains l row) (sym (joined.elsewhere entry other)) (sifted.keeps family consistent entry row has)
  ]

  joined_sifted : IsSifted scans equalities equal new
  joined_sifted = record {
    is_family = record {
      count = joined.count ∙ sifted.is_family.count;
      scanned = λ entry row has. sifted.is_family.scanned entry row (was_there entry row has);
      ascending = ascends;
    };
    keeps = keeps_row;
  }

-- ---- two steps, one after the other

pub sifted_by_both_steps : (key : Keys) (equalities : List Edge) (a b c : List (List ℕ)) → StaySifted key equalities a b → StaySifted key equalities b c → StaySifted key equalities a c
sifted_by_both_steps key equalities a b c first second = record { stay = λ scans equal tells sifted. second.stay scans equal tells (first.stay scans equal tells sifted) }

pub sifted_by_one_join : (key : Keys) (equalities : List Edge) (old new : List (List ℕ)) (e : Edge) (is_left : Bool) → Contains equalities e → IsJoinedAt key (side_of e is_left) (side_of e (opposite is_left)) old new → StaySifted key equalities old new
sifted_by_one_join key equalities old new e is_left there joined = record { stay = λ scans equal tells sifted. joined_sifted scans equalities key equal tells old new e is_left there joined sifted }
