-- The code puts joined keys into groups by their filter values, and makes one degree list for all groups. The first loop fills the groups. The second
-- loop takes the rank-wise maximum of the groups' lists.
use Rattle.std.proofs.Common.{◌≡◌, ◌≢◌, ℕ, ◌+◌, ◌<◌, ◌≤◌, ◌^◌, Bool, false, cond, eqb, max, List, [], ◌∷◌, ◌++◌, length, map, get_or, set, slice_get, take, sum, None, Some, nat_eq, refl, ap, sym, ◌∙◌, subst, arith, inl, inr}
use Rattle.std.specs.List.{All, AllByRecursion, IsDistinct, position, position_or_len, zip, AllPairs}
use Rattle.std.proofs.lemmas.Bool.{cases_eq, cases_lt, eq-eqb, eqb-true, lt-ltb, ne_eqb}
use Rattle.std.proofs.lemmas.Bool.Decides.{Decides-eqb}
use Rattle.std.proofs.lemmas.List.{ext_get_or, get_or-map, get_or-set_other, get_or-set_same, get_or_default, length-map, length-set, length_push, map_push, set-set, take_all, take_more}
use Rattle.std.proofs.lemmas.List.Elements.{All-append, All-from_recursion, All-take, recursion_from_All}
use Rattle.std.proofs.lemmas.List.Quantifiers.{position-Some}
use Rattle.std.proofs.lemmas.List.Sums.{count_by-le-length, fails_before_first}
use Rattle.std.proofs.lemmas.Map.Made.{AllPairs-from_IsDistinct}
use Rattle.std.proofs.lemmas.Option.{get_or_from_slice_get, none-some}
use Rattle.degree_sequences.specs.ByRank.{rank_maximum}
use Rattle.degree_sequences.specs.Compression.{compressed}
use Rattle.degree_sequences.specs.Degrees.{degree, degree_list}
use Rattle.degree_sequences.specs.RunningSums.{capped_at}
use Rattle.cond_stats.specs.Lists.{greatest, keys_with, maxima}
use Rattle.cond_stats.specs.Rows.{filter_values}
use Rattle.cond_stats.proofs.Maxima.{greatest-le, greatest-push, maxima-push}
use Rattle.cond_stats.proofs.Members.{length-keys_where}
use Rattle.cond_stats.proofs.Sums.{sum-capped_at}
use Rattle.level_bounds.proofs.Lists.{map_of_map}
use Rattle.degree_sequences.specs.Saturation.{saturated}
use Rattle.appended_stats.specs.Grown.{list_for_any_of}
use Rattle.appended_stats.proofs.Small.{all_small_degrees, saturated_small, small_degrees, small_maxima, small_maximum}
use Rattle.appended_stats.proofs.Walks.{no_key_more, one_key_more}

pub cell_not_found : (cell : ℕ) (cells : List ℕ) → position (nat_eq cell) cells ≡ None → (k : ℕ) → k < length cells → nat_eq cell (get_or cells k 0) ≡ false
cell_not_found cell cells missing k low = elim (cases_lt (position_or_len (nat_eq cell) cells) (length cells)) [
  | inl found ↦ absurd (none-some (position_or_len (nat_eq cell) cells) (sym missing ∙ ap (λ (b : Bool). cond b (Some (position_or_len (nat_eq cell) cells)) None) (lt-ltb (position_or_len (nat_eq cell) cells) (length cells) found)))
  | inr past ↦ fails_before_first (nat_eq cell) cells k 0 (omega (arith, past, low))
]

module _ (others column joined : List ℕ) (apart : IsDistinct nat_eq others) (same : length joined ≡ length column) where
  -- after the first `i` rows, group k has the joined keys of those rows whose cell is element k of `others`
  abbrev pub AreGrouped : ℕ → List (List ℕ) → Type 0
  AreGrouped i groups = (length groups ≡ length others)
      × ((k : ℕ) → k < length others → get_or groups k [] ≡ keys_with (get_or others k 0) (zip (take i column) (take i joined)))

  pub row_with_group : (before new : List (List ℕ)) (i place key : ℕ) → i < length column → AreGrouped i before → position (nat_eq (get_or column i 0)) others ≡ Some place
      → key ≡ get_or joined i 0 → new ≡ set before place (get_or before place [] ++ key ∷ []) → AreGrouped (i + 1) new
  row_with_group before new i place key low are found is put =
      let cell : ℕ = get_or column i 0 in
      let at = position-Some (nat_eq cell) others place 0 found in
      let mine : cell ≡ get_or others place 0 = eqb-true cell (get_or others place 0) at.1 in
      let within : place < length before = omega (arith, at.0, are.0) in
      let keys : List ℕ = get_or before place [] ++ key ∷ [] in (
        ap (λ s. length s) put ∙ length-set before place keys ∙ are.0,
        λ k below. elim (cases_eq k place) [
          | inl here ↦ (let its : get_or new k [] ≡ get_or before k [] ++ key ∷ [] =
              ap (λ s. get_or s k []) put ∙ ap (λ m. get_or (set before place keys) m []) here ∙ get_or-set_same before place keys [] within
              ∙ ap (λ m. get_or before m [] ++ key ∷ []) (sym here) in
              one_key_more (λ other. eqb other (get_or others k 0)) column joined (get_or before k []) (get_or new k []) i key low same (are.1 k below)
              (eq-eqb cell (get_or others k 0) (mine ∙ ap (λ m. get_or others m 0) (sym here))) is its)
          | inr there ↦ (let its : get_or new k [] ≡ get_or before k [] = ap (λ s. get_or s k []) put ∙ get_or-set_other before place k keys [] there in
              no_key_more (λ other. eqb other (get_or others k 0)) column joined (get_or before k []) (get_or new k []) i low same (are.1 k below)
              (ne_eqb cell (get_or others k 0) (λ e. differ k place below at.0 there (sym e ∙ mine))) its)
        ],
      )
    where
      all_apart : AllPairs (λ x y. x ≢ y) others
      all_apart = AllPairs-from_IsDistinct Decides-eqb others apart

      omega_below : (a b : ℕ) → b ≤ a → a ≢ b → b < a
      omega_below a b le other = elim (cases_lt b a) [ inl above ↦ above | inr past ↦ absurd (other (omega (arith, le, past))) ]

      differ : (a b : ℕ) → a < length others → b < length others → a ≢ b → get_or others a 0 ≡ get_or others b 0 → ⊥
      differ a b low also other e = elim (cases_lt a b) [
        | inl below ↦ all_apart a b 0 below also e
        | inr not_below ↦ (let above : b < a = omega_below a b not_below other in all_apart b a 0 above low (sym e))
      ]

  pub row_without_group : (before new : List (List ℕ)) (i : ℕ) → i < length column → AreGrouped i before → position (nat_eq (get_or column i 0)) others ≡ None
      → new ≡ before → AreGrouped (i + 1) new
  row_without_group before new i low are missing is = (
    ap (λ s. length s) is ∙ are.0,
    λ k below.
        let other : nat_eq (get_or column i 0) (get_or others k 0) ≡ false = cell_not_found (get_or column i 0) others missing k below in
        no_key_more (λ other. eqb other (get_or others k 0)) column joined (get_or before k []) (get_or new k []) i low same (are.1 k below) other (ap (λ s. get_or s k []) is),
  )

  pub groups_complete : (groups : List (List ℕ)) (i : ℕ) → length column ≤ i → AreGrouped i groups → groups ≡ map (λ cell. keys_with cell (zip column joined)) others
  groups_complete groups i past are =
      let made : ℕ → List ℕ = λ cell. keys_with cell (zip column joined) in
      let left : take i column ≡ column = take_all i column past in
      let right : take i joined ≡ joined = take_all i joined (omega (arith, past, same)) in
      ext_get_or [] groups (map made others) (are.0 ∙ sym (length-map others made))
      (λ k low.
      let below : k < length others = omega (arith, low, are.0) in
      are.1 k below ∙ ap (λ s. keys_with (get_or others k 0) (zip s (take i joined))) left ∙ ap (λ s. keys_with (get_or others k 0) (zip column s)) right
      ∙ sym (get_or-map made others k 0 [] below))

pub one_empty_more : (before new : List (List ℕ)) (i : ℕ) (keys : List ℕ) → (length before ≡ i) × All (λ (s : List ℕ). s ≡ []) before → keys ≡ [] → new ≡ before ++ keys ∷ []
    → (length new ≡ i + 1) × All (λ (s : List ℕ). s ≡ []) new
one_empty_more before new i keys are empty pushed = (
  omega (arith, ap (λ (s : List (List ℕ)). length s) pushed, length_push before keys, are.0),
  subst (All (λ (s : List ℕ). s ≡ [])) (sym pushed) (All-append (λ (s : List ℕ). s ≡ []) before (keys ∷ []) are.1 (All-from_recursion (λ (s : List ℕ). s ≡ []) (keys ∷ []) (empty, tt))),
)

-- a group is taken out of the list, with `none` in its place. The group gets one more key and is put back
pub key_added : (groups between new : List (List ℕ)) (place key : ℕ) (none keys pushed : List ℕ) → slice_get groups place ≡ Some keys → between ≡ set groups place none
    → pushed ≡ keys ++ key ∷ [] → new ≡ set between place pushed → new ≡ set groups place (get_or groups place [] ++ key ∷ [])
key_added groups between new place key none keys pushed at taken is back =
    back ∙ ap (λ (s : List (List ℕ)). set s place pushed) taken ∙ set-set groups place none pushed
    ∙ ap (set groups place) (is ∙ ap (λ (s : List ℕ). s ++ key ∷ []) (sym (get_or_from_slice_get groups place keys [] at)))

-- ---- one list for all groups

pub group_is : (groups : List (List ℕ)) (i : ℕ) (keys : List ℕ) → i < length groups → keys ≡ get_or groups i keys → keys ≡ get_or groups i []
group_is groups i keys low is = is ∙ get_or_default groups i keys [] low

abbrev pub list_of_groups : ℕ → List (List ℕ) → List ℕ
list_of_groups accuracy groups = compressed accuracy (capped_at (maxima (map degree_list groups)) (greatest (map (λ (keys : List ℕ). length keys) groups)))

module _ (groups : List (List ℕ)) (all_below_2_32 : All (λ (keys : List ℕ). length keys < 2 ^ 32) groups) where
  all_groups_below_2_64 : (i : ℕ) → AllByRecursion (λ (keys : List ℕ). length keys < 2 ^ 64) (take i groups)
  all_groups_below_2_64 i = weaker (take i groups) (recursion_from_All (λ (keys : List ℕ). length keys < 2 ^ 32) (take i groups) (All-take (λ (keys : List ℕ). length keys < 2 ^ 32) i groups all_below_2_32))
    where
      weaker : (gs : List (List ℕ)) → AllByRecursion (λ (keys : List ℕ). length keys < 2 ^ 32) gs → AllByRecursion (λ (keys : List ℕ). length keys < 2 ^ 64) gs
      weaker [] all = tt
      weaker (keys ∷ gs) all = (omega (arith, all.0), weaker gs all.1)

  abbrev pub maxima_to : ℕ → List ℕ
  maxima_to i = maxima (map degree_list (take i groups))

  abbrev pub greatest_to : ℕ → ℕ
  greatest_to i = greatest (map (λ (keys : List ℕ). length keys) (take i groups))

  pub one_raised : (i : ℕ) (before degrees new : List ℕ) → i < length groups → before ≡ maxima_to i → degrees ≡ degree_list (get_or groups i [])
      → new ≡ map saturated (rank_maximum before degrees) → new ≡ maxima_to (i + 1)
  one_raised i before degrees new low are is raised =
      let keys : List ℕ = get_or groups i [] in
      raised ∙ ap (λ s. map saturated (rank_maximum s degrees)) are ∙ ap (λ s. map saturated (rank_maximum (maxima_to i) s)) is
      ∙ saturated_small (rank_maximum (maxima_to i) (degree_list keys))
      (small_maximum (maxima_to i) (degree_list keys) (small_maxima (map degree_list (take i groups)) (all_small_degrees (take i groups) (all_groups_below_2_64 i)))
      (small_degrees keys (omega (arith, all_below_2_32 i [] low))))
      ∙ sym (maxima-push (map degree_list (take i groups)) (degree_list keys)) ∙ ap maxima (sym (map_push degree_list (take i groups) keys))
      ∙ ap (λ s. maxima (map degree_list s)) (sym (take_more groups i [] low))

  pub one_counted : (i before count new : ℕ) → i < length groups → before ≡ greatest_to i → count ≡ length (get_or groups i []) → new ≡ max before count → new ≡ greatest_to (i + 1)
  one_counted i before count new low is counted raised =
      let keys : List ℕ = get_or groups i [] in
      raised ∙ ap (λ n. max n count) is ∙ ap (λ n. max (greatest_to i) n) counted
      ∙ sym (greatest-push (map (λ (keys : List ℕ). length keys) (take i groups)) (length keys)) ∙ ap greatest (sym (map_push (λ (keys : List ℕ). length keys) (take i groups) keys))
      ∙ ap (λ (s : List (List ℕ)). greatest (map (λ (keys : List ℕ). length keys) s)) (sym (take_more groups i [] low))

  pub greatest_small : (i : ℕ) → greatest_to i ≤ 2 ^ 32
  greatest_small i =
      greatest-le (λ (keys : List ℕ). length keys) (take i groups) (2 ^ 32)
      (λ k d low. omega (arith, All-take (λ (keys : List ℕ). length keys < 2 ^ 32) i groups all_below_2_32 k d low))

  pub capped_small : (i : ℕ) (maxima_are capped : List ℕ) (most : ℕ) → most ≡ greatest_to i → capped ≡ capped_at maxima_are most → sum capped ≤ 2 ^ 48
  capped_small i maxima_are capped most is cut = omega (arith, ap sum cut, sum-capped_at maxima_are most, is, greatest_small i)

  pub whole_list : (accuracy i : ℕ) (maxima_are capped list : List ℕ) (most : ℕ) → length groups ≤ i → maxima_are ≡ maxima_to i → most ≡ greatest_to i → capped ≡ capped_at maxima_are most
      → list ≡ compressed accuracy capped → list ≡ list_of_groups accuracy groups
  whole_list accuracy i maxima_are capped list most past are is cut made =
      let all : take i groups ≡ groups = take_all i groups past in
      made ∙ ap (compressed accuracy) (cut ∙ ap (λ s. capped_at s most) are ∙ ap (capped_at (maxima_to i)) is)
      ∙ ap (λ (s : List (List ℕ)). list_of_groups accuracy s) all

-- ---- the groups of the cells in `others` have the keys of these cells' rows

pub groups_are : (accuracy : ℕ) (rows : List (ℕ × ℕ)) (others : List ℕ) (groups : List (List ℕ)) → groups ≡ map (λ cell. keys_with cell rows) others
    → list_of_groups accuracy groups ≡ list_for_any_of accuracy rows others
groups_are accuracy rows others groups are =
    ap (list_of_groups accuracy) are
    ∙ ap (λ (s : List (List ℕ)). compressed accuracy (capped_at (maxima s) (greatest (map (λ (keys : List ℕ). length keys) (map (λ cell. keys_with cell rows) others)))))
    (map_of_map degree_list (λ cell. keys_with cell rows) (λ value. degree_list (keys_with value rows)) (λ value. refl) others)
    ∙ ap (λ (s : List ℕ). compressed accuracy (capped_at (maxima (map (λ value. degree_list (keys_with value rows)) others)) (greatest s)))
    (map_of_map (λ (keys : List ℕ). length keys) (λ cell. keys_with cell rows) (degree (filter_values rows)) (λ value. length-keys_where (λ other. eqb other value) rows) others)

pub all_groups_below_2_32 : (rows : List (ℕ × ℕ)) (others : List ℕ) (groups : List (List ℕ)) → length rows < 2 ^ 32 → groups ≡ map (λ cell. keys_with cell rows) others
    → All (λ (keys : List ℕ). length keys < 2 ^ 32) groups
all_groups_below_2_32 rows others groups all_below_2_32 are =
    subst (All (λ (keys : List ℕ). length keys < 2 ^ 32)) (sym are)
    (λ k d low.
    let within : k < length others = omega (arith, low, length-map others (λ cell. keys_with cell rows)) in
    let value : ℕ = get_or others k 0 in
    subst (λ (keys : List ℕ). length keys < 2 ^ 32) (sym (get_or-map (λ cell. keys_with cell rows) others k 0 d within))
    (omega (arith, length-keys_where (λ other. eqb other value) rows, count_by-le-length (λ other. eqb other value) (filter_values rows), length-map rows (λ (row : ℕ × ℕ). row.0), all_below_2_32)))
