-- A test tells whether a proposition holds. A search finds a value with a property, or there is none.
use Rattle.std.proofs.Common.{◌≡◌, ◌⊎◌, inl, inr, ℕ, zero, suc, ◌<◌, ◌≤◌, Bool, true, false, List, [], ◌∷◌, ◌++◌, length, refl, ap, sym, subst, arith, Option, Some, None}
use Rattle.std.specs.Prelude.{All, not, ◌&&◌, ◌||◌, ◌==◌, nat_lt, nat_le}
use Rattle.std.specs.List.{AllByRecursion, list_all}
use Rattle.std.specs.Option.{option_or}
use Rattle.std.proofs.lemmas.Bool.{both_ways, eqb-false, eqb-true, leb-false, leb-true, ltb-false, ltb-true}
use Rattle.stats_lines.specs.Searches.{when, first_below, first_list, first_split, some_split, same_list, same_numbers, passes_if_some, is_some_that_passes}

pub record Tells (test : Bool) (P : Type 0) : Type 0 where
  pub yes : test ≡ true → P
  pub no : test ≡ false → P → ⊥

pub record Finds {X : Type 0} (found : Option X) (P : X → Type 0) : Type 0 where
  pub some : (x : X) → found ≡ Some x → P x
  pub none : found ≡ None → (x : X) → P x → ⊥

-- ---- tests

pub tells_and : {a b : Bool} {P Q : Type 0} → Tells a P → Tells b Q → Tells (a && b) (P × Q)
tells_and {a = true} p q = record { yes = λ e. (p.yes refl, q.yes e); no = λ e h. q.no e h.1 }
tells_and {a = false} p q = record { yes = λ e. absurd (both_ways false refl e); no = λ e h. p.no refl h.0 }

pub tells_or : {a b : Bool} {P Q : Type 0} → Tells a P → Tells b Q → Tells (a || b) (P ⊎ Q)
tells_or {a = true} p q = record { yes = λ e. inl (p.yes refl); no = λ e h. both_ways true e refl }
tells_or {a = false} {b = b} {P = P} {Q = Q} p q = record { yes = λ e. inr (q.yes e); no = by }
  where
    by : b ≡ false → P ⊎ Q → ⊥
    by e (inl h) = p.no refl h
    by e (inr h) = q.no e h

pub tells_not : {a : Bool} {P : Type 0} → Tells a P → Tells (not a) (P → ⊥)
tells_not {a = true} p = record { yes = λ e. absurd (both_ways false refl e); no = λ e h. h (p.yes refl) }
tells_not {a = false} p = record { yes = λ e h. p.no refl h; no = λ e h. both_ways true e refl }

pub tells_alike : {a : Bool} {P Q : Type 0} → (P → Q) → (Q → P) → Tells a P → Tells a Q
tells_alike to from p = record { yes = λ e. to (p.yes e); no = λ e h. p.no e (from h) }

pub tells_true : (a : Bool) → Tells a (a ≡ true)
tells_true a = record { yes = λ e. e; no = λ e h. both_ways a e h }

pub tells_equal : (a b : ℕ) → Tells (a == b) (a ≡ b)
tells_equal a b = record { yes = λ e. eqb-true a b e; no = λ e h. eqb-false a b e h }

pub tells_less : (a b : ℕ) → Tells (nat_lt a b) (a < b)
tells_less a b = record { yes = λ e. ltb-true a b e; no = λ e h. let le = ltb-false a b e in omega arith }

pub tells_at_most : (a b : ℕ) → Tells (nat_le a b) (a ≤ b)
tells_at_most a b = record { yes = λ e. leb-true a b e; no = λ e h. let lt = leb-false a b e in omega arith }

pub tells_same_list : {X : Type 0} {same : X → X → Bool} → ((a b : X) → Tells (same a b) (a ≡ b)) → (xs ys : List X) → Tells (same_list same xs ys) (xs ≡ ys)
unfolding same_list
tells_same_list one [] [] = record { yes = λ e. refl; no = λ e h. both_ways true e refl }
tells_same_list one [] (y ∷ ys) = record { yes = λ e. absurd (both_ways false refl e); no = λ e h. cc }
tells_same_list one (x ∷ xs) [] = record { yes = λ e. absurd (both_ways false refl e); no = λ e h. cc }
tells_same_list {X = X} one (x ∷ xs) (y ∷ ys) = tells_alike to from (tells_and (one x y) (tells_same_list one xs ys))
  where
    to : (x ≡ y) × (xs ≡ ys) → x ∷ xs ≡ y ∷ ys
    to (e, f) = cc

    from : x ∷ xs ≡ y ∷ ys → (x ≡ y) × (xs ≡ ys)
    from h = let first : x ≡ y = cc in let rest : xs ≡ ys = cc in (first, rest)

pub tells_same_numbers : (xs ys : List ℕ) → Tells (same_numbers xs ys) (xs ≡ ys)
tells_same_numbers xs ys = tells_same_list {same = λ x y. x == y} tells_equal xs ys

-- ---- tests of the elements of a list

pub tells_all : {X : Type 0} {test : X → Bool} {P : X → Type 0} → ((x : X) → Tells (test x) (P x)) → (xs : List X) → Tells (list_all test xs) (All P xs)
tells_all one [] = record { yes = λ e k d lt. absurd (omega arith); no = λ e h. both_ways true e refl }
tells_all {X = X} {test = test} {P = P} one (x ∷ xs) = tells_alike to from (tells_and (one x) (tells_all {test = test} {P = P} one xs))
  where
    to : P x × All P xs → All P (x ∷ xs)
    to h zero d lt = h.0
    to h (suc k) d lt = h.1 k d (omega arith)

    from : All P (x ∷ xs) → P x × All P xs
    from h = (h 0 x (omega arith), λ k d lt. h (suc k) d (omega arith))

pub tells_if_some : {X : Type 0} {test : X → Bool} {P : X → Type 0} → ((x : X) → Tells (test x) (P x)) → (o : Option X) → Tells (passes_if_some test o) ((x : X) → o ≡ Some x → P x)
tells_if_some one None = record { yes = λ e x is. absurd (cc); no = λ e h. both_ways true e refl }
tells_if_some {X = X} {test = test} {P = P} one (Some y) = tells_alike to (λ h. h y refl) (one y)
  where
    to : P y → (x : X) → Some y ≡ Some x → P x
    to p x is = let there : y ≡ x = cc in subst P there p

pub tells_some : {X : Type 0} {test : X → Bool} {P : X → Type 0} → ((x : X) → Tells (test x) (P x)) → (o : Option X) → Tells (is_some_that_passes test o) ((x : X) × (o ≡ Some x) × P x)
tells_some one None = record { yes = λ e. absurd (both_ways false refl e); no = λ e h. let none = h.1 in cc }
tells_some {X = X} {test = test} {P = P} one (Some y) = tells_alike (λ p. (y, refl, p)) from (one y)
  where
    from : (x : X) × (Some y ≡ Some x) × P x → P y
    from (x, is, p) = let there : x ≡ y = cc in subst P there p

-- whether some split of a text passes
pub record SomeSplit (P : List ℕ → List ℕ → Type 0) (text : List ℕ) : Type 0 where
  pub front : List ℕ
  pub rest : List ℕ
  pub whole : text ≡ front ++ rest
  pub holds : P front rest

module _ {P : List ℕ → List ℕ → Type 0} where
  at_end : P [] [] → SomeSplit P []
  at_end p = record { front = []; rest = []; whole = refl; holds = p }

  pub only_at_end : SomeSplit P [] → P [] []
  only_at_end h = by h.front h.rest h.whole h.holds
    where
      by : (front rest : List ℕ) → [] ≡ front ++ rest → P front rest → P [] []
      by [] rest e p = subst (λ (r : List ℕ). P [] r) (sym e) p
      by (c ∷ front) rest e p = absurd (cc)

  pub at_front : (c : ℕ) (text : List ℕ) → P [] (c ∷ text) ⊎ SomeSplit (λ front rest. P (c ∷ front) rest) text → SomeSplit P (c ∷ text)
  at_front c text (inl p) = record { front = []; rest = c ∷ text; whole = refl; holds = p }
  at_front c text (inr h) = record { front = c ∷ h.front; rest = h.rest; whole = ap (λ (t : List ℕ). c ∷ t) h.whole; holds = h.holds }

  pub from_front : (c : ℕ) (text : List ℕ) → SomeSplit P (c ∷ text) → P [] (c ∷ text) ⊎ SomeSplit (λ front rest. P (c ∷ front) rest) text
  from_front c text h = by h.front h.rest h.whole h.holds
    where
      by : (front rest : List ℕ) → c ∷ text ≡ front ++ rest → P front rest → P [] (c ∷ text) ⊎ SomeSplit (λ front rest. P (c ∷ front) rest) text
      by [] rest e p = inl (subst (λ (r : List ℕ). P [] r) (sym e) p)
      by (d ∷ front) rest e p =
          let first : d ≡ c = cc in
          let behind' : text ≡ front ++ rest = cc in
          inr (record { front = front; rest = rest; whole = behind'; holds = subst (λ (x : ℕ). P (x ∷ front) rest) first p })

pub tells_split : {test : List ℕ → List ℕ → Bool} {P : List ℕ → List ℕ → Type 0} → ((front rest : List ℕ) → Tells (test front rest) (P front rest)) → (text : List ℕ)
    → Tells (some_split test text) (SomeSplit P text)
unfolding some_split
tells_split {P = P} one [] = tells_alike (at_end {P = P}) (only_at_end {P = P}) (one [] [])
tells_split {test = test} {P = P} one (c ∷ text) =
    tells_alike (at_front {P = P} c text) (from_front {P = P} c text)
    (tells_or (one [] (c ∷ text)) (tells_split {test = λ front rest. test (c ∷ front) rest} {P = λ front rest. P (c ∷ front) rest} (λ front rest. one (c ∷ front) rest) text))

-- ---- searches

pub finds_alike : {X : Type 0} {found : Option X} {P Q : X → Type 0} → ((x : X) → P x → Q x) → ((x : X) → Q x → P x) → Finds found P → Finds found Q
finds_alike to from f = record { some = λ x e. to x (f.some x e); none = λ e x q. f.none e x (from x q) }

pub finds_one : {X : Type 0} (y : X) → Finds (Some y) (λ x. y ≡ x)
finds_one y = record { some = λ x e. cc; none = λ e x p. cc }

pub finds_when : {X : Type 0} {test : Bool} {found : Option X} {P : Type 0} {Q : X → Type 0} → Tells test P → Finds found Q → Finds (when test found) (λ x. P × Q x)
finds_when {test = true} t f = record { some = λ x e. (t.yes refl, f.some x e); none = λ e x h. f.none e x h.1 }
finds_when {test = false} t f = record { some = λ x e. absurd (cc); none = λ e x h. t.no refl h.0 }

pub finds_or : {X : Type 0} {a b : Option X} {P Q : X → Type 0} → Finds a P → Finds b Q → Finds (option_or a b) (λ x. P x ⊎ Q x)
finds_or {X = X} {a = None} {b = b} {P = P} {Q = Q} f g = record { some = λ x e. inr (g.some x e); none = by }
  where
    by : b ≡ None → (x : X) → P x ⊎ Q x → ⊥
    by e x (inl p) = f.none refl x p
    by e x (inr q) = g.none e x q
finds_or {a = Some y} f g = record { some = λ x e. inl (f.some x e); none = λ e x h. cc }

pub record SomeBelow {X : Type 0} (R : ℕ → X → Type 0) (most : ℕ) (x : X) : Type 0 where
  pub n : ℕ
  pub below : n < most
  pub holds : R n x

pub finds_below : {X : Type 0} {at : ℕ → Option X} {R : ℕ → X → Type 0} → ((n : ℕ) → Finds (at n) (R n)) → (most : ℕ) → Finds (first_below at most) (SomeBelow R most)
unfolding first_below
finds_below one zero = record { some = λ x e. absurd (cc); none = λ e x h. let lt = h.below in omega arith }
finds_below {X = X} {at = at} {R = R} one (suc most) = finds_alike to from (finds_or (one 0) (finds_below {at = λ n. at (suc n)} {R = λ n. R (suc n)} (λ n. one (suc n)) most))
  where
    to : (x : X) → R 0 x ⊎ SomeBelow (λ n. R (suc n)) most x → SomeBelow R (suc most) x
    to x (inl p) = record { n = 0; below = omega arith; holds = p }
    to x (inr h) = let lt = h.below in record { n = suc h.n; below = omega arith; holds = h.holds }

    from : (x : X) → SomeBelow R (suc most) x → R 0 x ⊎ SomeBelow (λ n. R (suc n)) most x
    from x h = by h.n h.below h.holds
      where
        by : (n : ℕ) → n < suc most → R n x → R 0 x ⊎ SomeBelow (λ n. R (suc n)) most x
        by zero lt p = inl p
        by (suc n) lt p = inr (record { n = n; below = omega arith; holds = p })

pub record IsWithinLimits (len most : ℕ) (list : List ℕ) : Type 0 where
  pub within_limit : length list ≤ len
  pub small : AllByRecursion (λ x. x < most) list

pub record SomeList {X : Type 0} (R : List ℕ → X → Type 0) (len most : ℕ) (x : X) : Type 0 where
  pub list : List ℕ
  pub within : IsWithinLimits len most list
  pub holds : R list x

empty_within : (len most : ℕ) → IsWithinLimits len most []
empty_within len most = record { within_limit = omega arith; small = tt }

longer_within : (len most x : ℕ) (list : List ℕ) → x < most → IsWithinLimits len most list → IsWithinLimits (suc len) most (x ∷ list)
longer_within len most x list lt is = let within_limit = is.within_limit in record { within_limit = omega arith; small = (lt, is.small) }

pub finds_list : {X : Type 0} {at : List ℕ → Option X} {R : List ℕ → X → Type 0} → ((list : List ℕ) → Finds (at list) (R list)) → (len most : ℕ)
    → Finds (first_list at len most) (SomeList R len most)
unfolding first_list
finds_list {X = X} {R = R} one zero most = finds_alike (λ x p. record { list = []; within = empty_within 0 most; holds = p }) from (one [])
  where
    from : (x : X) → SomeList R zero most x → R [] x
    from x h = by h.list h.within h.holds
      where
        by : (list : List ℕ) → IsWithinLimits zero most list → R list x → R [] x
        by [] within p = p
        by (y ∷ list) within p = let within_limit = within.within_limit in absurd (omega arith)
finds_list {X = X} {at = at} {R = R} one (suc len) most =
    finds_alike to from
    (finds_or (one [])
    (finds_below {at = λ y. first_list (λ list. at (y ∷ list)) len most} {R = λ y. SomeList (λ list. R (y ∷ list)) len most}
    (λ y. finds_list {at = λ list. at (y ∷ list)} {R = λ list. R (y ∷ list)} (λ list. one (y ∷ list)) len most) most))
  where
    to : (x : X) → R [] x ⊎ SomeBelow (λ y. SomeList (λ list. R (y ∷ list)) len most) most x → SomeList R (suc len) most x
    to x (inl p) = record { list = []; within = empty_within (suc len) most; holds = p }
    to x (inr h) = record { list = h.n ∷ h.holds.list; within = longer_within len most h.n h.holds.list h.below h.holds.within; holds = h.holds.holds }

    from : (x : X) → SomeList R (suc len) most x → R [] x ⊎ SomeBelow (λ y. SomeList (λ list. R (y ∷ list)) len most) most x
    from x h = by h.list h.within h.holds
      where
        by : (list : List ℕ) → IsWithinLimits (suc len) most list → R list x → R [] x ⊎ SomeBelow (λ y. SomeList (λ list. R (y ∷ list)) len most) most x
        by [] within p = inl p
        by (y ∷ list) within p =
            let within_limit = within.within_limit in
            inr (record { n = y; below = within.small.0; holds = record { list = list; within = record { within_limit = omega arith; small = within.small.1 }; holds = p } })

pub finds_split : {X : Type 0} {at : List ℕ → List ℕ → Option X} {R : List ℕ → List ℕ → X → Type 0} → ((front rest : List ℕ) → Finds (at front rest) (R front rest)) → (text : List ℕ)
    → Finds (first_split at text) (λ x. SomeSplit (λ front rest. R front rest x) text)
unfolding first_split
finds_split {R = R} one [] = finds_alike (λ x. at_end {P = λ front rest. R front rest x}) (λ x. only_at_end {P = λ front rest. R front rest x}) (one [] [])
finds_split {at = at} {R = R} one (c ∷ text) =
    finds_alike (λ x. at_front {P = λ front rest. R front rest x} c text) (λ x. from_front {P = λ front rest. R front rest x} c text)
    (finds_or (one [] (c ∷ text)) (finds_split {at = λ front rest. at (c ∷ front) rest} {R = λ front rest. R (c ∷ front) rest} (λ front rest. one (c ∷ front) rest) text))
