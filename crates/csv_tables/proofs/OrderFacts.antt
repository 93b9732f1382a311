-- The bytes of UTF-8 texts compare as the code points of their characters.
use Rattle.std.proofs.Common.{◌≡◌, ℕ, ◌+◌, ◌*◌, ◌/◌, ◌%◌, ◌<◌, ◌≤◌, true, false, List, [], ◌∷◌, ◌++◌, refl, sym, ap, ◌∙◌, arith, ltb, inl, inr}
use Rattle.std.specs.Prelude.{IsUtf8, nat_lt, ◌==◌}
use Rattle.std.specs.Cmp.Lexicographic.{slice_cmp}
use Rattle.std.specs.Ordering.{nat_cmp, ordering_then}
use Rattle.std.specs.Str.{chars, encode_utf8_all}
use Rattle.std.specs.declared.cmp.Ordering.{Ordering}
use Rattle.std.specs.declared.cmp.Ordering.TheVariants.{Less, Equal, Greater}
use Rattle.std.proofs.Math.Utf8.{encode}
use Rattle.std.proofs.lemmas.Bool.{cases_eq, cases_lt, le-ltb}
use Rattle.std.proofs.lemmas.Nat.{shr-shr, div-add-mod'}
use Rattle.std.proofs.lemmas.Str.{encodes-chars}

pub less : (a b : ℕ) → a < b → nat_cmp a b ≡ Less
less a b l = let t : nat_lt a b ≡ true = grind (arith, l) in rw t refl

same : (a b : ℕ) → a ≡ b → nat_cmp a b ≡ Equal
same a b e =
    let t : nat_lt a b ≡ false = grind (arith, e) in
    let u : (a == b) ≡ true = grind (arith, e) in
    rw (t, u) refl

more : (a b : ℕ) → b < a → nat_cmp a b ≡ Greater
more a b l =
    let t : nat_lt a b ≡ false = grind (arith, l) in
    let u : (a == b) ≡ false = grind (arith, l) in
    rw (t, u) refl

shifted : (k a b : ℕ) → nat_cmp (k + a) (k + b) ≡ nat_cmp a b
shifted k a b = elim (cases_lt a b) [
  | inl l ↦ less (k + a) (k + b) (omega (arith, l)) ∙ sym (less a b l)
  | inr ge ↦ elim (cases_eq a b) [
    | inl e ↦ same (k + a) (k + b) (omega (arith, e)) ∙ sym (same a b e)
    | inr ne ↦ let l : b < a = omega (arith, ge, ne) in more (k + a) (k + b) (omega (arith, l)) ∙ sym (more a b l)
  ]
]

-- UTF-8 puts six bits into each byte after the first. So characters compare by their quotients by 64, and then by their remainders
digits : (c d q r s t : ℕ) → q * 64 + r ≡ c → s * 64 + t ≡ d → r < 64 → t < 64 → nat_cmp c d ≡ ordering_then (nat_cmp q s) (nat_cmp r t)
digits c d q r s t e f l m = elim (cases_lt q s) [
  | inl h ↦ less c d (omega (arith, e, f, l, m, h)) ∙ ap (λ o. ordering_then o (nat_cmp r t)) (sym (less q s h))
  | inr ge ↦ elim (cases_eq q s) [
    | inl h ↦ ap (λ n. nat_cmp n d) (sym e) ∙ ap (nat_cmp (q * 64 + r)) (sym f) ∙ ap (λ n. nat_cmp (q * 64 + r) (n * 64 + t)) (sym h) ∙ shifted (q * 64) r t
        ∙ ap (λ o. ordering_then o (nat_cmp r t)) (sym (same q s h))
    | inr ne ↦ let h : s < q = omega (arith, ge, ne) in more c d (omega (arith, e, f, l, m, h)) ∙ ap (λ o. ordering_then o (nat_cmp r t)) (sym (more q s h))
  ]
]

split : (c d : ℕ) → nat_cmp c d ≡ ordering_then (nat_cmp (c / 64) (d / 64)) (nat_cmp (c % 64) (d % 64))
split c d = digits c d (c / 64) (c % 64) (d / 64) (d % 64) (div-add-mod' c 64) (div-add-mod' d 64) (omega arith) (omega arith)

assoc : (a b c : Ordering) → ordering_then (ordering_then a b) c ≡ ordering_then a (ordering_then b c)
assoc Less b c = refl
assoc Equal b c = refl
assoc Greater b c = refl

data Coded (c : ℕ) : Type 0 where
  One : c < 128 → encode c ≡ c ∷ [] → Coded c
  Two : 128 ≤ c → c < 2048 → encode c ≡ (192 + c / 64) ∷ (128 + c % 64) ∷ [] → Coded c
  Three : 2048 ≤ c → c < 65536 → encode c ≡ (224 + c / 4096) ∷ (128 + c / 64 % 64) ∷ (128 + c % 64) ∷ [] → Coded c
  Four : 65536 ≤ c → encode c ≡ (240 + c / 262144) ∷ (128 + c / 4096 % 64) ∷ (128 + c / 64 % 64) ∷ (128 + c % 64) ∷ [] → Coded c

coded : (c : ℕ) → Coded c
unfolding encode
coded c = elim (cases_lt c 128) [
  | inl l ↦ let t : ltb c 128 ≡ true = grind (arith, l) in One l (rw t refl)
  | inr ge ↦ elim (cases_lt c 2048) [
    | inl l ↦ let t : ltb c 2048 ≡ true = grind (arith, l) in Two ge l (rw (le-ltb c 128 ge, t) refl)
    | inr ge2 ↦ elim (cases_lt c 65536) [
      | inl l ↦ let t : ltb c 65536 ≡ true = grind (arith, l) in Three ge2 l (rw (le-ltb c 128 ge, le-ltb c 2048 ge2, t) refl)
      | inr ge3 ↦ Four ge3 (rw (le-ltb c 128 ge, le-ltb c 2048 ge2, le-ltb c 65536 ge3) refl)
    ]
  ]
]

abbrev Ordered : ℕ → ℕ → List ℕ → List ℕ → Type 0
Ordered c d x y = slice_cmp nat_cmp (encode c ++ x) (encode d ++ y) ≡ ordering_then (nat_cmp c d) (slice_cmp nat_cmp x y)

lower : (c d a b : ℕ) (o p x y : List ℕ) → encode c ≡ a ∷ o → encode d ≡ b ∷ p → a < b → c < d → Ordered c d x y
lower c d a b o p x y e f l m = rw (e, f, less a b l, less c d m) refl

higher : (c d a b : ℕ) (o p x y : List ℕ) → encode c ≡ a ∷ o → encode d ≡ b ∷ p → b < a → d < c → Ordered c d x y
higher c d a b o p x y e f l m = rw (e, f, more a b l, more c d m) refl

twice : (n : ℕ) → n / 64 / 64 ≡ n / 4096
twice n = shr-shr n 6 6

thrice : (n : ℕ) → n / 4096 / 64 ≡ n / 262144
thrice n = shr-shr n 12 6

two_split : (c d : ℕ) (r : Ordering) → ordering_then (nat_cmp (192 + c / 64) (192 + d / 64)) (ordering_then (nat_cmp (128 + c % 64) (128 + d % 64)) r) ≡ ordering_then (nat_cmp c d) r
two_split c d r =
    ap (λ o. ordering_then o (ordering_then (nat_cmp (128 + c % 64) (128 + d % 64)) r)) (shifted 192 (c / 64) (d / 64))
    ∙ ap (λ o. ordering_then (nat_cmp (c / 64) (d / 64)) (ordering_then o r)) (shifted 128 (c % 64) (d % 64))
    ∙ sym (ap (λ o. ordering_then o r) (split c d) ∙ assoc (nat_cmp (c / 64) (d / 64)) (nat_cmp (c % 64) (d % 64)) r)

three_split : (c d : ℕ) (r : Ordering)
    → ordering_then (nat_cmp (224 + c / 4096) (224 + d / 4096)) (ordering_then (nat_cmp (128 + c / 64 % 64) (128 + d / 64 % 64)) (ordering_then (nat_cmp (128 + c % 64) (128 + d % 64)) r))
    ≡ ordering_then (nat_cmp c d) r
three_split c d r =
    let low = ordering_then (nat_cmp (128 + c % 64) (128 + d % 64)) r in
    let mid = ordering_then (nat_cmp (128 + c / 64 % 64) (128 + d / 64 % 64)) low in
    ap (λ o. ordering_then o mid) (shifted 224 (c / 4096) (d / 4096) ∙ ap (λ n. nat_cmp n (d / 4096)) (sym (twice c)) ∙ ap (nat_cmp (c / 64 / 64)) (sym (twice d)))
    ∙ ap (λ o. ordering_then (nat_cmp (c / 64 / 64) (d / 64 / 64)) (ordering_then o low)) (shifted 128 (c / 64 % 64) (d / 64 % 64))
    ∙ sym (ap (λ o. ordering_then o low) (split (c / 64) (d / 64)) ∙ assoc _ _ low)
    ∙ ap (λ o. ordering_then (nat_cmp (c / 64) (d / 64)) (ordering_then o r)) (shifted 128 (c % 64) (d % 64))
    ∙ sym (ap (λ o. ordering_then o r) (split c d) ∙ assoc (nat_cmp (c / 64) (d / 64)) (nat_cmp (c % 64) (d % 64)) r)

four_split : (c d : ℕ) (r : Ordering)
    → ordering_then (nat_cmp (240 + c / 262144) (240 + d / 262144)) (ordering_then (nat_cmp (128 + c / 4096 % 64) (128 + d / 4096 % 64))
    (ordering_then (nat_cmp (128 + c / 64 % 64) (128 + d / 64 % 64)) (ordering_then (nat_cmp (128 + c % 64) (128 + d % 64)) r)))
    ≡ ordering_then (nat_cmp c d) r
four_split c d r =
    let low = ordering_then (nat_cmp (128 + c / 64 % 64) (128 + d / 64 % 64)) (ordering_then (nat_cmp (128 + c % 64) (128 + d % 64)) r) in
    let mid = ordering_then (nat_cmp (128 + c / 4096 % 64) (128 + d / 4096 % 64)) low in
    ap (λ o. ordering_then o mid) (shifted 240 (c / 262144) (d / 262144) ∙ ap (λ n. nat_cmp n (d / 262144)) (sym (thrice c)) ∙ ap (nat_cmp (c / 4096 / 64)) (sym (thrice d)))
    ∙ ap (λ o. ordering_then (nat_cmp (c / 4096 / 64) (d / 4096 / 64)) (ordering_then o low)) (shifted 128 (c / 4096 % 64) (d / 4096 % 64))
    ∙ sym (ap (λ o. ordering_then o low) (split (c / 4096) (d / 4096)) ∙ assoc _ _ low)
    ∙ ap (λ o. ordering_then o low) (sym (shifted 224 (c / 4096) (d / 4096)))
    ∙ three_split c d r

ordered : (c d : ℕ) (x y : List ℕ) → Coded c → Coded d → Ordered c d x y
ordered c d x y (One l e) (One m f) = rw (e, f) refl
ordered c d x y (One l e) (Two m n f) = lower c d _ _ _ _ x y e f (omega (arith, l)) (omega (arith, l, m))
ordered c d x y (One l e) (Three m n f) = lower c d _ _ _ _ x y e f (omega (arith, l)) (omega (arith, l, m))
ordered c d x y (One l e) (Four m f) = lower c d _ _ _ _ x y e f (omega (arith, l)) (omega (arith, l, m))
ordered c d x y (Two k l e) (One m f) = higher c d _ _ _ _ x y e f (omega (arith, m)) (omega (arith, k, m))
ordered c d x y (Two k l e) (Two m n f) = rw (e, f) (two_split c d (slice_cmp nat_cmp x y))
ordered c d x y (Two k l e) (Three m n f) = lower c d _ _ _ _ x y e f (omega (arith, l)) (omega (arith, l, m))
ordered c d x y (Two k l e) (Four m f) = lower c d _ _ _ _ x y e f (omega (arith, l)) (omega (arith, l, m))
ordered c d x y (Three k l e) (One m f) = higher c d _ _ _ _ x y e f (omega (arith, m)) (omega (arith, k, m))
ordered c d x y (Three k l e) (Two m n f) = higher c d _ _ _ _ x y e f (omega (arith, n)) (omega (arith, k, n))
ordered c d x y (Three k l e) (Three m n f) = rw (e, f) (three_split c d (slice_cmp nat_cmp x y))
ordered c d x y (Three k l e) (Four m f) = lower c d _ _ _ _ x y e f (omega (arith, l)) (omega (arith, l, m))
ordered c d x y (Four k e) (One m f) = higher c d _ _ _ _ x y e f (omega (arith, m)) (omega (arith, k, m))
ordered c d x y (Four k e) (Two m n f) = higher c d _ _ _ _ x y e f (omega (arith, n)) (omega (arith, k, n))
ordered c d x y (Four k e) (Three m n f) = higher c d _ _ _ _ x y e f (omega (arith, n)) (omega (arith, k, n))
ordered c d x y (Four k e) (Four m f) = rw (e, f) (four_split c d (slice_cmp nat_cmp x y))

some_bytes : (c : ℕ) (x : List ℕ) → Coded c → (b : ℕ) × (rest : List ℕ) × (encode c ++ x ≡ b ∷ rest)
some_bytes c x (One l e) = (_, _, ap (λ bs. bs ++ x) e)
some_bytes c x (Two k l e) = (_, _, ap (λ bs. bs ++ x) e)
some_bytes c x (Three k l e) = (_, _, ap (λ bs. bs ++ x) e)
some_bytes c x (Four k e) = (_, _, ap (λ bs. bs ++ x) e)

order_of_chars : (cs ds : List ℕ) → slice_cmp nat_cmp (encode_utf8_all cs) (encode_utf8_all ds) ≡ slice_cmp nat_cmp cs ds
order_of_chars [] [] = refl
order_of_chars [] (d ∷ ds) = let s = some_bytes d (encode_utf8_all ds) (coded d) in ap (slice_cmp nat_cmp []) s.2
order_of_chars (c ∷ cs) [] = let s = some_bytes c (encode_utf8_all cs) (coded c) in ap (λ bs. slice_cmp nat_cmp bs []) s.2
order_of_chars (c ∷ cs) (d ∷ ds) =
    ordered c d (encode_utf8_all cs) (encode_utf8_all ds) (coded c) (coded d) ∙ ap (ordering_then (nat_cmp c d)) (order_of_chars cs ds)

pub order_of_texts : (a b : List ℕ) → IsUtf8 a → IsUtf8 b → slice_cmp nat_cmp a b ≡ slice_cmp nat_cmp (chars a) (chars b)
order_of_texts a b p q =
    sym (ap (λ x. slice_cmp nat_cmp x (encode_utf8_all (chars b))) (encodes-chars a p) ∙ ap (slice_cmp nat_cmp a) (encodes-chars b q)) ∙ order_of_chars (chars a) (chars b)
