-- Row bounds and lists are kept in hash maps. The lemmas say which value a map has for each key after an insertion.
use Rattle.std.proofs.Common.{◌≡◌, ◌≢◌, ◌⊎◌, inl, inr, ℕ, ◌<◌, ◌^◌, Bool, true, false, ◌&&◌, List, Option, Some, None, refl, ap, sym, ◌∙◌, subst, sum}
use Rattle.std.specs.Prelude.{Result, Ok, Err, OnOk, OnErr, nat_eq, if◌then◌else◌}
use Rattle.std.specs.HashMap.{get, Updates, IsUnchanged}
use Rattle.std.specs.Map.{lookup}
use Rattle.std.proofs.lemmas.Bool.{eqb-true}
use Rattle.degree_sequences.specs.Descending.{IsDescending}
use Rattle.bound_fold.specs.BoundMaps.{MapOf, same_pair, row_bound_in, list_in, AreBounds, AreListsOf}

-- either the insertion failed and the map is unchanged, or one key has a new value
abbrev pub PutOrFailed : {K X : Type 0} → (K → K → Bool) → MapOf K X → MapOf K X → K → X → Type 0
PutOrFailed {K} same old new k v = ((q : K) → get same new q ≡ get same old q) ⊎ ((q : K) → get same new q ≡ (if same k q then Some v else get same old q))

pub put_or_failed : {K X T E : Type 0} (same : K → K → Bool) (old new : MapOf K X) (k : K) (v : X) (r : Result T E)
    → OnOk r (Updates same old new k (Some v)) → OnErr r (IsUnchanged old new) → PutOrFailed same old new k v
put_or_failed same old new k v (Ok x) up un = inr (λ q. up.0 q)
put_or_failed same old new k v (Err e) up un = inl (λ q. ap (lookup (λ p. same q p)) un)

same_pair_is_equal : (a b : ℕ × ℕ) → same_pair a b ≡ true → (a.0 ≡ b.0) × (a.1 ≡ b.1)
same_pair_is_equal a b e = by (nat_eq a.0 b.0) (nat_eq a.1 b.1) refl refl e
  where
    by : (x y : Bool) → nat_eq a.0 b.0 ≡ x → nat_eq a.1 b.1 ≡ y → (x && y) ≡ true → (a.0 ≡ b.0) × (a.1 ≡ b.1)
    by true true p q h = (eqb-true a.0 b.0 p, eqb-true a.1 b.1 q)
    by true false p q h = absurd (cc h)
    by false y p q h = absurd (cc h)

at_key : {X : Type 0} (t : Bool) (v : X) (before : Option X) (x : X) → (if t then Some v else before) ≡ Some x → ((t ≡ true) × (v ≡ x)) ⊎ ((t ≡ false) × (before ≡ Some x))
at_key true v before x e = inl (refl, cc e)
at_key false v before x e = inr (refl, e)

pub bounds_after : (old new : MapOf ℕ ℕ) (entry n : ℕ) → AreBounds old → n < 2 ^ 64 → PutOrFailed nat_eq old new entry n → AreBounds new
bounds_after old new entry n bounds fits (inl same) e m h = bounds e m (sym (same e) ∙ h)
bounds_after old new entry n bounds fits (inr up) e m h = elim (at_key (nat_eq entry e) n (row_bound_in old e) m (sym (up e) ∙ h)) [
  | inl now ↦ subst (λ k. k < 2 ^ 64) now.1 fits
  | inr was ↦ bounds e m was.1
]

pub rows_after : (old new : MapOf ℕ ℕ) (lists : MapOf (ℕ × ℕ) (List ℕ)) (entry n : ℕ) → AreListsOf old lists → ((column : ℕ) → list_in lists entry column ≡ None)
    → PutOrFailed nat_eq old new entry n → AreListsOf new lists
rows_after old new lists entry n are none (inl same) e c list h = ((are e c list h).0, same e ∙ (are e c list h).1)
rows_after old new lists entry n are none (inr up) e c list h = ((are e c list h).0, up e ∙ by (nat_eq entry e) refl)
  where
    by : (t : Bool) → nat_eq entry e ≡ t → (if t then Some n else row_bound_in old e) ≡ Some (sum list)
    by false p = (are e c list h).1
    by true p =
        let same : entry ≡ e = eqb-true entry e p in
        let gone : list_in lists e c ≡ None = ap (λ k. list_in lists k c) (sym same) ∙ none c in
        absurd (cc (gone, h))

pub lists_after : (rows : MapOf ℕ ℕ) (old new : MapOf (ℕ × ℕ) (List ℕ)) (entry column : ℕ) (list : List ℕ) → AreListsOf rows old → IsDescending list → row_bound_in rows entry ≡ Some (sum list)
    → PutOrFailed same_pair old new (entry, column) list → AreListsOf rows new
lists_after rows old new entry column list are descends total (inl same) e c other h = are e c other (sym (same (e, c)) ∙ h)
lists_after rows old new entry column list are descends total (inr up) e c other h =
    elim (at_key (same_pair (entry, column) (e, c)) list (list_in old e c) other (sym (up (e, c)) ∙ h)) [
      | inl now ↦ (
        subst IsDescending now.1 descends,
        ap (row_bound_in rows) (sym (same_pair_is_equal (entry, column) (e, c) now.0).0) ∙ total ∙ ap (λ (s : List ℕ). Some (sum s)) now.1,
      )
      | inr was ↦ are e c other was.1
    ]

pub others_stay : (old new : MapOf (ℕ × ℕ) (List ℕ)) (entry column : ℕ) (list : List ℕ) → PutOrFailed same_pair old new (entry, column) list
    → (e c : ℕ) → ((e ≢ entry) ⊎ (c ≢ column)) → list_in new e c ≡ list_in old e c
others_stay old new entry column list (inl same) e c apart = same (e, c)
others_stay old new entry column list (inr up) e c apart = up (e, c) ∙ by (same_pair (entry, column) (e, c)) refl apart
  where
    by : (t : Bool) → same_pair (entry, column) (e, c) ≡ t → ((e ≢ entry) ⊎ (c ≢ column)) → (if t then Some list else list_in old e c) ≡ list_in old e c
    by false p h = refl
    by true p (inl h) = absurd (h (sym (same_pair_is_equal (entry, column) (e, c) p).0))
    by true p (inr h) = absurd (h (sym (same_pair_is_equal (entry, column) (e, c) p).1))
