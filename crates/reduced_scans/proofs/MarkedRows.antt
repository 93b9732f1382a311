-- The code lists the rows whose items are marked, entry by entry and row by row. The resulting lists are a family.
use Rattle.std.proofs.Common.{◌≡◌, ℕ, zero, suc, ◌+◌, ◌<◌, ◌≤◌, Bool, true, false, List, [], ◌∷◌, ◌++◌, length, length-append, get_or, take, refl, ap, sym, ◌∙◌, subst, arith, inl, inr}
use Rattle.std.specs.Prelude.{if◌then◌else◌}
use Rattle.std.specs.List.{Contains}
use Rattle.std.proofs.lemmas.Bool.{cases_Bool}
use Rattle.join_steps.specs.Lists.{IsAscending, IsFamily, list_at}
use Rattle.berge_tree.proofs.Forest.{all_in}
use Rattle.reduced_scans.specs.Families.{AreAscending}
use Rattle.reduced_scans.specs.Wiring.{first_item, marked_family, marked_rows, row_at}
use Rattle.reduced_scans.proofs.Members.{all_has, behind, in_cases, in_front, not_in_none}

first_row_marked : (is_kept : ℕ → Bool) (first row : ℕ) (rows : List ℕ) → is_kept first ≡ true → marked_rows is_kept first (row ∷ rows) ≡ row ∷ marked_rows is_kept (first + 1) rows
first_row_marked is_kept first row rows is = rw is refl

first_row_unmarked : (is_kept : ℕ → Bool) (first row : ℕ) (rows : List ℕ) → is_kept first ≡ false → marked_rows is_kept first (row ∷ rows) ≡ marked_rows is_kept (first + 1) rows
first_row_unmarked is_kept first row rows is = rw is refl

has_marked : (is_kept : ℕ → Bool) (first : ℕ) (rows : List ℕ) (i : ℕ) → i < length rows → is_kept (first + i) ≡ true → Contains (marked_rows is_kept first rows) (get_or rows i 0)
has_marked is_kept first [] i h m = absurd (omega arith)
has_marked is_kept first (row ∷ rows) zero h m =
    let n : first ≡ first + 0 = omega arith in
    subst (λ l. Contains l row) (sym (first_row_marked is_kept first row rows (ap is_kept n ∙ m))) (in_front row row (marked_rows is_kept (first + 1) rows) refl)
has_marked is_kept first (row ∷ rows) (suc i) h m =
    let x : ℕ = get_or rows i 0 in
    let n : (first + 1) + i ≡ first + suc i = omega arith in
    let later : Contains (marked_rows is_kept (first + 1) rows) x = has_marked is_kept (first + 1) rows i (omega arith) (ap is_kept n ∙ m) in
    elim (cases_Bool (is_kept first)) [
      | inl yes_here ↦ subst (λ l. Contains l x) (sym (first_row_marked is_kept first row rows yes_here)) (behind x row (marked_rows is_kept (first + 1) rows) later)
      | inr no_here ↦ subst (λ l. Contains l x) (sym (first_row_unmarked is_kept first row rows no_here)) later
    ]

abbrev pub Marked : (ℕ → Bool) → ℕ → List ℕ → ℕ → Type 0
Marked is_kept first rows x = (i : ℕ) × (i < length rows) × (is_kept (first + i) ≡ true) × (get_or rows i 0 ≡ x)

next_marked : (is_kept : ℕ → Bool) (first row : ℕ) (rows : List ℕ) (x : ℕ) → Marked is_kept (first + 1) rows x → Marked is_kept first (row ∷ rows) x
next_marked is_kept first row rows x m = let n : first + suc m.0 ≡ (first + 1) + m.0 = omega arith in (suc m.0, omega (arith, m.1), ap is_kept n ∙ m.2, m.3)

is_marked : (is_kept : ℕ → Bool) (first : ℕ) (rows : List ℕ) (x : ℕ) → Contains (marked_rows is_kept first rows) x → Marked is_kept first rows x
is_marked is_kept first [] x has = absurd (not_in_none x has)
is_marked is_kept first (row ∷ rows) x has = elim (cases_Bool (is_kept first)) [
  | inl yes_here ↦ elim (in_cases x row (marked_rows is_kept (first + 1) rows) (subst (λ l. Contains l x) (first_row_marked is_kept first row rows yes_here) has)) [
    | inl here ↦ (let n : first + 0 ≡ first = omega arith in (0, omega arith, ap is_kept n ∙ yes_here, here))
    | inr there ↦ next_marked is_kept first row rows x (is_marked is_kept (first + 1) rows x there)
  ]
  | inr no_here ↦ next_marked is_kept first row rows x (is_marked is_kept (first + 1) rows x (subst (λ l. Contains l x) (first_row_unmarked is_kept first row rows no_here) has))
]

pub at_place : (rows : List ℕ) (i x : ℕ) → i < length rows → get_or rows i 0 ≡ x → Contains rows x
at_place [] i x h is = absurd (omega arith)
at_place (row ∷ rows) zero x h is = in_front x row rows is
at_place (row ∷ rows) (suc i) x h is = behind x row rows (at_place rows i x (omega arith) is)

pub place_in : (rows : List ℕ) (x : ℕ) → Contains rows x → (i : ℕ) × (i < length rows) × (get_or rows i 0 ≡ x)
place_in [] x has = absurd (not_in_none x has)
place_in (row ∷ rows) x has = elim (in_cases x row rows has) [
  | inl here ↦ (0, omega arith, here)
  | inr there ↦ (let found : (i : ℕ) × (i < length rows) × (get_or rows i 0 ≡ x) = place_in rows x there in (suc found.0, omega (arith, found.1), found.2))
]

marked_of : (is_kept : ℕ → Bool) (first : ℕ) (rows : List ℕ) (x : ℕ) → Contains (marked_rows is_kept first rows) x → Contains rows x
marked_of is_kept first rows x has = (let m : Marked is_kept first rows x = is_marked is_kept first rows x has in at_place rows m.0 x m.1 m.3)

marked_ascends : (is_kept : ℕ → Bool) (first : ℕ) (rows : List ℕ) → IsAscending rows → IsAscending (marked_rows is_kept first rows)
marked_ascends is_kept first [] p = tt
marked_ascends is_kept first (row ∷ rows) p = elim (cases_Bool (is_kept first)) [
  | inl yes_here ↦ subst IsAscending (sym (first_row_marked is_kept first row rows yes_here))
      (all_in (λ z. row < z) (marked_rows is_kept (first + 1) rows) (λ z has. all_has (λ z. row < z) rows z p.0 (marked_of is_kept (first + 1) rows z has)), marked_ascends is_kept (first + 1) rows p.1)
  | inr no_here ↦ subst IsAscending (sym (first_row_unmarked is_kept first row rows no_here)) (marked_ascends is_kept (first + 1) rows p.1)
]

-- ---- the marked rows in the lists of all entries

marked_there : (is_kept : ℕ → Bool) (first : ℕ) (scans : List (List ℕ)) (entry place : ℕ) → place < length (list_at scans entry) → is_kept (first + (first_item scans entry + place)) ≡ true
    → Contains (list_at (marked_family is_kept first scans) entry) (row_at scans entry place)
marked_there is_kept first [] entry place h m = absurd (omega arith)
marked_there is_kept first (scan ∷ scans) zero place h m = let n : first + place ≡ first + (0 + place) = omega arith in has_marked is_kept first scan place h (ap is_kept n ∙ m)
marked_there is_kept first (scan ∷ scans) (suc entry) place h m =
    let n : (first + length scan) + (first_item scans entry + place) ≡ first + ((length scan + first_item scans entry) + place) = omega arith in
    marked_there is_kept (first + length scan) scans entry place h (ap is_kept n ∙ m)

abbrev pub MarkedFrom : (ℕ → Bool) → ℕ → List (List ℕ) → ℕ → ℕ → Type 0
MarkedFrom is_kept first scans entry x = (place : ℕ) × (place < length (list_at scans entry)) × (is_kept (first + (first_item scans entry + place)) ≡ true) × (row_at scans entry place ≡ x)

from_there : (is_kept : ℕ → Bool) (first : ℕ) (scans : List (List ℕ)) (entry x : ℕ) → Contains (list_at (marked_family is_kept first scans) entry) x → MarkedFrom is_kept first scans entry x
from_there is_kept first [] entry x has = absurd (not_in_none x has)
from_there is_kept first (scan ∷ scans) zero x has =
    let m : Marked is_kept first scan x = is_marked is_kept first scan x has in
    let n : first + (0 + m.0) ≡ first + m.0 = omega arith in
    (m.0, m.1, ap is_kept n ∙ m.2, m.3)
from_there is_kept first (scan ∷ scans) (suc entry) x has =
    let there : MarkedFrom is_kept (first + length scan) scans entry x = from_there is_kept (first + length scan) scans entry x has in
    let n : first + ((length scan + first_item scans entry) + there.0) ≡ (first + length scan) + (first_item scans entry + there.0) = omega arith in
    (there.0, there.1, ap is_kept n ∙ there.2, there.3)

abbrev pub MarkedAt : (ℕ → Bool) → List (List ℕ) → ℕ → ℕ → Type 0
MarkedAt is_kept scans entry x = (place : ℕ) × (place < length (list_at scans entry)) × (is_kept (first_item scans entry + place) ≡ true) × (row_at scans entry place ≡ x)

pub to_family : (is_kept : ℕ → Bool) (scans : List (List ℕ)) (entry place : ℕ) → place < length (list_at scans entry) → is_kept (first_item scans entry + place) ≡ true
    → Contains (list_at (marked_family is_kept 0 scans) entry) (row_at scans entry place)
to_family is_kept scans entry place h m = let n : 0 + (first_item scans entry + place) ≡ first_item scans entry + place = omega arith in marked_there is_kept 0 scans entry place h (ap is_kept n ∙ m)

pub from_family : (is_kept : ℕ → Bool) (scans : List (List ℕ)) (entry x : ℕ) → Contains (list_at (marked_family is_kept 0 scans) entry) x → MarkedAt is_kept scans entry x
from_family is_kept scans entry x has =
    let there : MarkedFrom is_kept 0 scans entry x = from_there is_kept 0 scans entry x has in
    let n : first_item scans entry + there.0 ≡ 0 + (first_item scans entry + there.0) = omega arith in
    (there.0, there.1, ap is_kept n ∙ there.2, there.3)

same_count : (is_kept : ℕ → Bool) (first : ℕ) (scans : List (List ℕ)) → length (marked_family is_kept first scans) ≡ length scans
same_count is_kept first [] = refl
same_count is_kept first (scan ∷ scans) = ap suc (same_count is_kept (first + length scan) scans)

in_scan : (is_kept : ℕ → Bool) (first : ℕ) (scans : List (List ℕ)) (entry row : ℕ) → Contains (list_at (marked_family is_kept first scans) entry) row → Contains (list_at scans entry) row
in_scan is_kept first [] entry row has = absurd (not_in_none row has)
in_scan is_kept first (scan ∷ scans) zero row has = marked_of is_kept first scan row has
in_scan is_kept first (scan ∷ scans) (suc entry) row has = in_scan is_kept (first + length scan) scans entry row has

ascends : (is_kept : ℕ → Bool) (first : ℕ) (scans : List (List ℕ)) (entry : ℕ) → AreAscending scans → IsAscending (list_at (marked_family is_kept first scans) entry)
ascends is_kept first [] entry p = tt
ascends is_kept first (scan ∷ scans) zero p = marked_ascends is_kept first scan (p 0)
ascends is_kept first (scan ∷ scans) (suc entry) p = ascends is_kept (first + length scan) scans entry (λ k. p (suc k))

pub is_family : (scans : List (List ℕ)) (is_kept : ℕ → Bool) → AreAscending scans → IsFamily scans (marked_family is_kept 0 scans)
is_family scans is_kept p = record { count = same_count is_kept 0 scans; scanned = in_scan is_kept 0 scans; ascending = λ entry. ascends is_kept 0 scans entry p }

-- ---- the marked rows of one more list, and of one more row, for the loops

pub family-take : (is_kept : ℕ → Bool) (first : ℕ) (scans : List (List ℕ)) (k : ℕ) → k < length scans
    → marked_family is_kept first (take (k + 1) scans) ≡ marked_family is_kept first (take k scans) ++ marked_rows is_kept (first + first_item scans k) (list_at scans k) ∷ []
family-take is_kept first [] k h = absurd (omega arith)
family-take is_kept first (scan ∷ scans) zero h = let n : first + 0 ≡ first = omega arith in rw n refl
family-take is_kept first (scan ∷ scans) (suc k) h =
    let n : (first + length scan) + first_item scans k ≡ first + (length scan + first_item scans k) = omega arith in
    let e : suc k + 1 ≡ suc (k + 1) = omega arith in
    ap (λ j. marked_family is_kept first (take j (scan ∷ scans))) e
    ∙ ap (λ (l : List (List ℕ)). marked_rows is_kept first scan ∷ l) (family-take is_kept (first + length scan) scans k (omega arith) ∙ ap (λ j. marked_family is_kept (first + length scan) (take k scans) ++ marked_rows is_kept j (list_at scans k) ∷ []) n)

pub rows-take : (is_kept : ℕ → Bool) (first : ℕ) (rows : List ℕ) (k : ℕ) → k < length rows
    → marked_rows is_kept first (take (k + 1) rows) ≡ marked_rows is_kept first (take k rows) ++ (if is_kept (first + k) then get_or rows k 0 ∷ [] else [])
rows-take is_kept first [] k h = absurd (omega arith)
rows-take is_kept first (row ∷ rows) zero h = let n : first + 0 ≡ first = omega arith in ap (λ j. if is_kept j then row ∷ [] else []) (sym n)
rows-take is_kept first (row ∷ rows) (suc k) h =
    let n : (first + 1) + k ≡ first + suc k = omega arith in
    let e : suc k + 1 ≡ suc (k + 1) = omega arith in
    let later : marked_rows is_kept (first + 1) (take (k + 1) rows) ≡ marked_rows is_kept (first + 1) (take k rows) ++ (if is_kept (first + suc k) then get_or rows k 0 ∷ [] else []) =
    rows-take is_kept (first + 1) rows k (omega arith) ∙ ap (λ j. marked_rows is_kept (first + 1) (take k rows) ++ (if is_kept j then get_or rows k 0 ∷ [] else [])) n in
    ap (λ j. marked_rows is_kept first (take j (row ∷ rows))) e ∙ elim (cases_Bool (is_kept first)) [
      | inl yes_here ↦ rw yes_here (ap (λ (l : List ℕ). row ∷ l) later)
      | inr no_here ↦ rw no_here later
    ]

-- ---- the number of marked rows

abbrev count_to : (ℕ → Bool) → ℕ → List ℕ → ℕ → ℕ
count_to is_kept first rows k = length (marked_rows is_kept first (take k rows))

counted : (is_kept : ℕ → Bool) (first : ℕ) (rows : List ℕ) (k : ℕ) (b : Bool) → k < length rows → is_kept (first + k) ≡ b
    → count_to is_kept first rows (k + 1) ≡ count_to is_kept first rows k + length (if b then get_or rows k 0 ∷ [] else [])
counted is_kept first rows k b h is =
    ap (λ (l : List ℕ). length l) (rows-take is_kept first rows k h ∙ ap (λ j. marked_rows is_kept first (take k rows) ++ (if j then get_or rows k 0 ∷ [] else [])) is)
    ∙ length-append (marked_rows is_kept first (take k rows)) (if b then get_or rows k 0 ∷ [] else [])

pub count_after_marked_row : (is_kept : ℕ → Bool) (first : ℕ) (rows : List ℕ) (k : ℕ) → k < length rows → is_kept (first + k) ≡ true
    → length (marked_rows is_kept first (take (k + 1) rows)) ≡ length (marked_rows is_kept first (take k rows)) + 1
count_after_marked_row is_kept first rows k h is = counted is_kept first rows k true h is

pub count_after_unmarked_row : (is_kept : ℕ → Bool) (first : ℕ) (rows : List ℕ) (k : ℕ) → k < length rows → is_kept (first + k) ≡ false
    → length (marked_rows is_kept first (take (k + 1) rows)) ≡ length (marked_rows is_kept first (take k rows))
count_after_unmarked_row is_kept first rows k h is = omega (arith, counted is_kept first rows k false h is)

count_within_marked : (is_kept : ℕ → Bool) (first : ℕ) (rows : List ℕ) (k : ℕ) → count_to is_kept first rows k ≤ length (marked_rows is_kept first rows)
count_within_marked is_kept first [] zero = omega arith
count_within_marked is_kept first [] (suc k) = omega arith
count_within_marked is_kept first (row ∷ rows) zero = omega arith
count_within_marked is_kept first (row ∷ rows) (suc k) = elim (cases_Bool (is_kept first)) [
  | inl yes_here ↦ rw yes_here (omega (arith, count_within_marked is_kept (first + 1) rows k))
  | inr no_here ↦ rw no_here (count_within_marked is_kept (first + 1) rows k)
]

pub room_for_next_row : (is_kept : ℕ → Bool) (first : ℕ) (rows : List ℕ) (k : ℕ) → k < length rows → is_kept (first + k) ≡ true
    → length (marked_rows is_kept first (take k rows)) + 1 ≤ length (marked_rows is_kept first rows)
room_for_next_row is_kept first rows k h is = omega (arith, count_after_marked_row is_kept first rows k h is, count_within_marked is_kept first rows (k + 1))

pub first_item_of_first_list : (scans : List (List ℕ)) → first_item scans 0 ≡ 0
first_item_of_first_list [] = refl
first_item_of_first_list (scan ∷ scans) = refl

pub first-take : (scans : List (List ℕ)) (k : ℕ) → k < length scans → first_item scans (k + 1) ≡ first_item scans k + length (list_at scans k)
first-take [] k h = absurd (omega arith)
first-take (scan ∷ scans) zero h = first_one scans
  where
    first_one : (scans : List (List ℕ)) → length scan + first_item scans 0 ≡ 0 + length scan
    first_one [] = omega arith
    first_one (s ∷ scans) = omega arith
first-take (scan ∷ scans) (suc k) h = let e : suc k + 1 ≡ suc (k + 1) = omega arith in ap (first_item (scan ∷ scans)) e ∙ omega (arith, first-take scans k (omega arith))

pub items_within : (scans : List (List ℕ)) (entry : ℕ) → entry < length scans → first_item scans entry + length (list_at scans entry) ≤ first_item scans (length scans)
items_within [] entry h = absurd (omega arith)
items_within (scan ∷ scans) zero h = omega arith
items_within (scan ∷ scans) (suc entry) h = omega (arith, items_within scans entry (omega arith))
