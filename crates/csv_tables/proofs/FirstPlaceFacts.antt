-- Steps of the loop that gives each row the index of the first row that is like it.
use Rattle.std.proofs.Common.{◌≡◌, inl, inr, ℕ, ◌+◌, ◌<◌, ◌≤◌, Bool, true, false, ◌&&◌, List, [], ◌∷◌, ◌++◌, length, get_or, set, take, Option, None, Some, refl, sym, ap, ◌∙◌, subst, arith, get_or-set_other, get_or-set_same, length-set}
use Rattle.std.specs.Prelude.{nat_eq, unwrap_or, if◌then◌else◌}
use Rattle.std.specs.List.{list_all}
use Rattle.std.proofs.lemmas.List.{take_more}
use Rattle.std.proofs.lemmas.Bool.{cases_eq, cases_lt, eqb-true, ne_eqb, and_parts}
use Rattle.csv_tables.specs.FirstPlaces.{are_alike, have_same_cells, same_pair, AreFirsts, IsFirst}

same_itself : (a : ℕ × ℕ) → same_pair a a ≡ true
same_itself a = grind arith

same_is : (a b : ℕ × ℕ) → same_pair a b ≡ true → (a.0 ≡ b.0) × (a.1 ≡ b.1)
same_is a b e = by (nat_eq a.0 b.0) (nat_eq a.1 b.1) refl refl e
  where
    by : (x y : Bool) → nat_eq a.0 b.0 ≡ x → nat_eq a.1 b.1 ≡ y → (x && y) ≡ true → (a.0 ≡ b.0) × (a.1 ≡ b.1)
    by true true p q h = (eqb-true a.0 b.0 p, eqb-true a.1 b.1 q)
    by true false p q h = absurd (cc h)
    by false y p q h = absurd (cc h)

eqb_symm : (a b : ℕ) → nat_eq a b ≡ nat_eq b a
eqb_symm a b = grind arith

same_symm : (a b : ℕ × ℕ) → same_pair a b ≡ same_pair b a
same_symm a b = ap (λ x. x && nat_eq a.1 b.1) (eqb_symm a.0 b.0) ∙ ap (λ y. nat_eq b.0 a.0 && y) (eqb_symm a.1 b.1)

-- the last argument is the first row before `at` with the pair `q`. It is None if no row before `at` has the pair
abbrev pub IsKept : List ℕ → List ℕ → ℕ → ℕ × ℕ → Option ℕ → Type 0
IsKept old cells at q None = (j : ℕ) → j < at → same_pair q (get_or old j 0, get_or cells j 0) ≡ false
IsKept old cells at q (Some v) = IsFirst (λ i j. same_pair q (get_or old j 0, get_or cells j 0)) at v × (v < at)

pub record AreNumberedUpTo (old cells first_places : List ℕ) (kept_for : ℕ × ℕ → Option ℕ) (at : ℕ) : Type 0 where
  pub lengths : length first_places ≡ length old
  pub done : (i : ℕ) → i < at → IsFirst (are_alike old cells) i (get_or first_places i 0)
  pub rest : (i : ℕ) → at ≤ i → get_or first_places i 0 ≡ get_or old i 0
  pub kept : (q : ℕ × ℕ) → IsKept old cells at q (kept_for q)

first_at : (old cells : List ℕ) (at : ℕ) (o : Option ℕ) → IsKept old cells at (get_or old at 0, get_or cells at 0) o → IsFirst (are_alike old cells) at (unwrap_or o at)
first_at old cells at None k = record { at_most = omega arith; same = same_itself (get_or old at 0, get_or cells at 0); least = k }
first_at old cells at (Some v) k = record { at_most = k.0.at_most; same = k.0.same; least = k.0.least }

kept_more : (old cells : List ℕ) (at : ℕ) (q : ℕ × ℕ) (o : Option ℕ) → IsKept old cells at q o → same_pair q (get_or old at 0, get_or cells at 0) ≡ false → IsKept old cells (at + 1) q o
kept_more old cells at q None k other = λ j l. elim (cases_lt j at) [
  | inl lt ↦ k j lt
  | inr ge ↦ let e : j ≡ at = omega (arith, l, ge) in ap (λ n. same_pair q (get_or old n 0, get_or cells n 0)) e ∙ other
]
kept_more old cells at q (Some v) k other = (record { at_most = omega (arith, k.1); same = k.0.same; least = k.0.least }, omega (arith, k.1))

kept_if : (old cells : List ℕ) (at first : ℕ) (q : ℕ × ℕ) (o : Option ℕ) (b : Bool) → same_pair (get_or old at 0, get_or cells at 0) q ≡ b → IsKept old cells at q o
    → IsFirst (are_alike old cells) at first → IsKept old cells (at + 1) q (if b then Some first else o)
kept_if old cells at first q o true e k f =
    let is = same_is (get_or old at 0, get_or cells at 0) q e in
    let pair : (get_or old at 0, get_or cells at 0) ≡ q = λ i. (is.0 i, is.1 i) in (
      record {
        at_most = omega (arith, f.at_most);
        same = ap (λ p. same_pair p (get_or old first 0, get_or cells first 0)) (sym pair) ∙ f.same;
        least = λ j l. ap (λ p. same_pair p (get_or old j 0, get_or cells j 0)) (sym pair) ∙ f.least j l;
      },
      omega (arith, f.at_most),
    )
kept_if old cells at first q o false e k f = kept_more old cells at q o k (same_symm q (get_or old at 0, get_or cells at 0) ∙ e)

pub numbered_more : (old cells first_places : List ℕ) (before after : ℕ × ℕ → Option ℕ) (at first : ℕ) → at < length old → AreNumberedUpTo old cells first_places before at
    → first ≡ unwrap_or (before (get_or first_places at 0, get_or cells at 0)) at
    → ((q : ℕ × ℕ) → after q ≡ (if same_pair (get_or first_places at 0, get_or cells at 0) q then Some first else before q))
    → AreNumberedUpTo old cells (set first_places at first) after (at + 1)
numbered_more old cells first_places before after at first l so_far f a =
    let within : at < length first_places = omega (arith, so_far.lengths, l) in
    let same : get_or first_places at 0 ≡ get_or old at 0 = so_far.rest at (omega arith) in
    let pair : ◌≡◌ {A = ℕ × ℕ} (get_or first_places at 0, get_or cells at 0) (get_or old at 0, get_or cells at 0) = λ i. (same i, get_or cells at 0) in
    let is : first ≡ unwrap_or (before (get_or old at 0, get_or cells at 0)) at = f ∙ ap (λ p. unwrap_or (before p) at) pair in
    let this : IsFirst (are_alike old cells) at first = subst (IsFirst (are_alike old cells) at) (sym is) (first_at old cells at _ (so_far.kept (get_or old at 0, get_or cells at 0))) in
    record {
      lengths = length-set first_places at first ∙ so_far.lengths;
      done = λ i h. elim (cases_lt i at) [
        | inl lt ↦ let ne : i ≡ at → ⊥ = λ e. omega (arith, e, lt) in subst (IsFirst (are_alike old cells) i) (sym (get_or-set_other first_places at i first 0 ne)) (so_far.done i lt)
        | inr ge ↦ let e : i ≡ at = omega (arith, h, ge) in
            subst (λ n. IsFirst (are_alike old cells) n (get_or (set first_places at first) n 0)) (sym e) (subst (IsFirst (are_alike old cells) at) (sym (get_or-set_same first_places at first 0 within)) this)
      ];
      rest = λ i h. let ne : i ≡ at → ⊥ = λ e. omega (arith, e, h) in get_or-set_other first_places at i first 0 ne ∙ so_far.rest i (omega (arith, h));
      kept = λ q. subst (IsKept old cells (at + 1) q) (sym (a q ∙ ap (λ p. if same_pair p q then Some first else before q) pair))
          (kept_if old cells at first q (before q) (same_pair (get_or old at 0, get_or cells at 0) q) refl (so_far.kept q) this);
    }

abbrev same_in : List (List ℕ) → ℕ → ℕ → ℕ → Bool
same_in columns column i j = nat_eq (get_or (get_or columns column []) i 0) (get_or (get_or columns column []) j 0)

cells-symm : (columns : List (List ℕ)) (key : List ℕ) (i j : ℕ) → have_same_cells columns key i j ≡ have_same_cells columns key j i
cells-symm columns [] i j = refl
cells-symm columns (c ∷ key) i j =
    ap (λ x. x && have_same_cells columns key i j) (eqb_symm (get_or (get_or columns c []) i 0) (get_or (get_or columns c []) j 0))
    ∙ ap (λ y. same_in columns c j i && y) (cells-symm columns key i j)

cells-trans : (columns : List (List ℕ)) (key : List ℕ) (i j k : ℕ) → have_same_cells columns key i j ≡ true → have_same_cells columns key j k ≡ true → have_same_cells columns key i k ≡ true
cells-trans columns [] i j k p q = refl
cells-trans columns (c ∷ key) i j k p q =
    let a = and_parts (same_in columns c i j) (have_same_cells columns key i j) p in
    let b = and_parts (same_in columns c j k) (have_same_cells columns key j k) q in
    let here : same_in columns c i k ≡ true =
    let e : get_or (get_or columns c []) i 0 ≡ get_or (get_or columns c []) k 0 = eqb-true _ _ a.0 ∙ eqb-true _ _ b.0 in grind (arith, e) in
    rw here (cells-trans columns key i j k a.1 b.1)

module _ (like : ℕ → ℕ → Bool) (symm : (i j : ℕ) → like i j ≡ like j i) (trans : (i j k : ℕ) → like i j ≡ true → like j k ≡ true → like i k ≡ true) where
  not_before : (i j a b : ℕ) → IsFirst like i a → IsFirst like j b → like i j ≡ true → a < b → ⊥
  not_before i j a b p q e l =
      let seen : like j a ≡ true = trans j i a (symm j i ∙ e) p.same in
      let unseen : like j a ≡ false = q.least a l in
      absurd (cc)

  firsts_tell : (i j a b : ℕ) → IsFirst like i a → IsFirst like j b → nat_eq a b ≡ like i j
  firsts_tell i j a b p q = by (like i j) refl
    where
      by : (t : Bool) → like i j ≡ t → nat_eq a b ≡ like i j
      by true e =
          let same : a ≡ b = elim (cases_lt a b) [
            | inl l ↦ absurd (not_before i j a b p q e l)
            | inr ge ↦ elim (cases_eq a b) [ inl h ↦ h | inr ne ↦ absurd (not_before j i b a q p (symm j i ∙ e) (let ba : b < a = omega (arith, ge, ne) in ba)) ]
          ] in
          let yes : nat_eq a b ≡ true = grind (arith, same) in yes ∙ sym e
      by false e =
          let no : a ≡ b → ⊥ = λ h.
          let one : like i a ≡ true = p.same in
          let two : like j a ≡ true = subst (λ n. like j n ≡ true) (sym h) q.same in
          let met : like i j ≡ true = trans i a j one (symm a j ∙ two) in
          absurd (cc) in
          ne_eqb a b no ∙ sym e

first-like : (p q : ℕ → ℕ → Bool) (i first n : ℕ) → i < n → ((j : ℕ) → j < n → p i j ≡ q i j) → IsFirst p i first → IsFirst q i first
first-like p q i first n l h f = record {
  at_most = f.at_most;
  same = sym (h first (omega (arith, l, f.at_most))) ∙ f.same;
  least = λ j m. sym (h j (omega (arith, l, m, f.at_most))) ∙ f.least j m;
}

list_all-push : (p : ℕ → Bool) (xs : List ℕ) (x : ℕ) → list_all p (xs ++ x ∷ []) ≡ (list_all p xs && p x)
list_all-push p [] x = and_true (p x)
  where
    and_true : (b : Bool) → (b && true) ≡ (true && b)
    and_true true = refl
    and_true false = refl
list_all-push p (y ∷ xs) x = ap (λ b. p y && b) (list_all-push p xs x) ∙ assoc (p y) (list_all p xs) (p x)
  where
    assoc : (a b c : Bool) → (a && (b && c)) ≡ ((a && b) && c)
    assoc true b c = refl
    assoc false b c = refl

pub one_more_column : (columns : List (List ℕ)) (key : List ℕ) (at column : ℕ) (old new cells : List ℕ) → at < length key → column ≡ get_or key at 0
    → cells ≡ get_or columns column [] → length new ≡ length old
    → AreFirsts (have_same_cells columns (take at key)) old → AreFirsts (are_alike old cells) new → AreFirsts (have_same_cells columns (take (at + 1) key)) new
one_more_column columns key at column old new cells l c e lengths firsts more = λ i m.
    let like = have_same_cells columns (take at key) in
    let within : i < length old = omega (arith, lengths, m) in
    first-like (are_alike old cells) (have_same_cells columns (take (at + 1) key)) i (get_or new i 0) (length old) within
    (λ j n.
    ap (λ b. b && nat_eq (get_or cells i 0) (get_or cells j 0))
    (firsts_tell like (cells-symm columns (take at key)) (cells-trans columns (take at key)) i j (get_or old i 0) (get_or old j 0) (firsts i within) (firsts j n))
    ∙ ap (λ xs. like i j && nat_eq (get_or xs i 0) (get_or xs j 0)) e
    ∙ ap (λ k. like i j && same_in columns k i j) c
    ∙ sym (list_all-push (λ k. same_in columns k i j) (take at key) (get_or key at 0))
    ∙ ap (λ ks. have_same_cells columns ks i j) (sym (take_more key at 0 l)))
    (more i m)

pub take_of_append : (n : ℕ) (new rest : List ℕ) → n ≡ length new → take n (new ++ rest) ≡ new
take_of_append n new rest e = ap (λ m. take m (new ++ rest)) e ∙ front new
  where
    front : (xs : List ℕ) → take (length xs) (xs ++ rest) ≡ xs
    front [] = refl
    front (x ∷ xs) = ap (λ l. x ∷ l) (front xs)
