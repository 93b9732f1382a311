-- If scanned rows match each other, the family that has only these rows is consistent. Each list has one row.
use Rattle.std.proofs.Common.{◌≡◌, ℕ, zero, suc, Bool, true, ◌<◌, List, [], ◌∷◌, length, get_or, refl, ap, sym, ◌∙◌, subst, arith, inl, inr}
use Rattle.std.specs.List.{Contains}
use Rattle.std.proofs.lemmas.Bool.{cases_lt}
use Rattle.std.proofs.lemmas.List.{get_or_past}
use Rattle.berge_tree.specs.declared.edges.Edge.{Edge}
use Rattle.join_steps.specs.Lists.{IsAscending, list_at}
use Rattle.reduced_scans.specs.Families.{HavePartners, IsConsistent, SatisfiesAll, IsReduced, NameEntries}
use Rattle.reduced_scans.proofs.Members.{not_in_none, in_front, in_cases}

abbrev pub singles : List ℕ → List (List ℕ)
singles [] = []
singles (row ∷ rows) = (row ∷ []) ∷ singles rows

length-singles : (choice : List ℕ) → length (singles choice) ≡ length choice
length-singles [] = refl
length-singles (row ∷ rows) = ap suc (length-singles rows)

single_at : (choice : List ℕ) (e : ℕ) → e < length choice → list_at (singles choice) e ≡ get_or choice e 0 ∷ []
single_at [] e h = absurd (omega arith)
single_at (row ∷ rows) zero h = refl
single_at (row ∷ rows) (suc e) h = single_at rows e (omega arith)

in_singleton : (x row : ℕ) → Contains (x ∷ []) row → x ≡ row
in_singleton x row has = elim (in_cases row x [] has) [
  | inl here ↦ here
  | inr there ↦ absurd (not_in_none row there)
]

kept_is : (choice : List ℕ) (e row : ℕ) → Contains (list_at (singles choice) e) row → (e < length choice) × (get_or choice e 0 ≡ row)
kept_is choice e row has = elim (cases_lt e (length choice)) [
  | inl within ↦ (within, in_singleton (get_or choice e 0) row (subst (λ l. Contains l row) (single_at choice e within) has))
  | inr past ↦ absurd (not_in_none row (subst (λ l. Contains l row) (get_or_past (singles choice) e [] (omega (arith, length-singles choice))) has))
]

is_kept : (choice : List ℕ) (e : ℕ) → e < length choice → Contains (list_at (singles choice) e) (get_or choice e 0)
is_kept choice e h = subst (λ l. Contains l (get_or choice e 0)) (sym (single_at choice e h)) (in_front (get_or choice e 0) (get_or choice e 0) [] refl)

single_ascends : (choice : List ℕ) (e : ℕ) → IsAscending (list_at (singles choice) e)
single_ascends choice e = elim (cases_lt e (length choice)) [
  | inl within ↦ subst IsAscending (sym (single_at choice e within)) (tt, tt)
  | inr past ↦ subst IsAscending (sym (get_or_past (singles choice) e [] (omega (arith, length-singles choice)))) tt
]

single_partners : (equal : ℕ → ℕ → Bool) (choice : List ℕ) (side other : ℕ) → other < length choice → equal (get_or choice side 0) (get_or choice other 0) ≡ true
    → HavePartners equal (list_at (singles choice) side) (list_at (singles choice) other)
single_partners equal choice side other within same row has =
    (get_or choice other 0, is_kept choice other within, ap (λ r. equal r (get_or choice other 0)) (sym (kept_is choice side row has).1) ∙ same)

pub match_is_consistent : (scans : List (List ℕ)) (equalities : List Edge) (equal : Edge → ℕ → ℕ → Bool) (choice : List ℕ) → NameEntries (length scans) equalities → SatisfiesAll scans equalities equal choice
    → IsConsistent scans equalities equal (singles choice)
match_is_consistent scans equalities equal choice named match = record {
  is_family = record {
    count = length-singles choice ∙ match.count;
    scanned = λ e row has. (let its : (e < length choice) × (get_or choice e 0 ≡ row) = kept_is choice e row has in
        subst (λ r. Contains (list_at scans e) r) its.1 (match.scanned e (omega (arith, its.0, match.count))));
    ascending = single_ascends choice;
  };
  from_left = λ e has. single_partners (equal e) choice e.left.entry e.right.entry (omega (arith, (named e has).1, match.count)) (match.satisfied e has);
  from_right = λ e has. single_partners (λ b a. equal e a b) choice e.right.entry e.left.entry (omega (arith, (named e has).0, match.count)) (match.satisfied e has);
}

pub match_stays : (scans : List (List ℕ)) (equalities : List Edge) (equal : Edge → ℕ → ℕ → Bool) (reduced : List (List ℕ)) (choice : List ℕ) → NameEntries (length scans) equalities
    → IsReduced scans equalities equal reduced → SatisfiesAll scans equalities equal choice → (e : ℕ) → e < length scans → Contains (list_at reduced e) (get_or choice e 0)
match_stays scans equalities equal reduced choice named is match e h =
    is.greatest (singles choice) (match_is_consistent scans equalities equal choice named match) e (get_or choice e 0) (is_kept choice e (omega (arith, match.count)))
