-- A word of hexadecimal digits has two digits for each byte of the name or text.
use Rattle.std.proofs.Common.{[], ◌≡◌, ℕ, zero, suc, ◌+◌, ◌*◌, ◌/◌, ◌%◌, ◌<◌, Bool, true, false, ◌&&◌, ◌==◌, List, ◌∷◌, length, get_or, refl, ap, sym, ◌∙◌, arith}
use Rattle.std.proofs.lemmas.Bool.{eqb-true}
use Rattle.std.specs.List.{flat_map, list_all}
use Rattle.std.proofs.lemmas.Bool.{and_parts}
use Rattle.stats_file.specs.Grammar.{are_hex_pairs, is_hex_digit}
use Rattle.stats_file.specs.Lines.{hex_byte, hex_digit}

regroup_ands : (q a b all : Bool) → (q && (a && (b && all))) ≡ ((a && b) && (q && all))
regroup_ands true a b all = assoc a b all
  where
    assoc : (a b c : Bool) → (a && (b && c)) ≡ ((a && b) && c)
    assoc true b c = refl
    assoc false b c = refl
regroup_ands false true true all = refl
regroup_ands false true false all = refl
regroup_ands false false b all = refl

parity_of_two_more : (n : ℕ) → (suc (suc n) % 2 == 0) ≡ (n % 2 == 0)
parity_of_two_more n = let e : suc (suc n) % 2 ≡ n % 2 = omega arith in ap (λ m. m == 0) e

pub pairs_test : (ds : List ℕ) → (length ds % 2 == 0 && list_all is_hex_digit ds) ≡ are_hex_pairs ds
pairs_test [] = refl
pairs_test (a ∷ []) = refl
pairs_test (a ∷ b ∷ ds) =
    ap (λ q. q && (is_hex_digit a && (is_hex_digit b && list_all is_hex_digit ds))) (parity_of_two_more (length ds))
    ∙ regroup_ands (length ds % 2 == 0) (is_hex_digit a) (is_hex_digit b) (list_all is_hex_digit ds)
    ∙ ap (λ q. (is_hex_digit a && is_hex_digit b) && q) (pairs_test ds)

pub digit_in : (ds : List ℕ) (i : ℕ) → are_hex_pairs ds ≡ true → i < length ds → is_hex_digit (get_or ds i 0) ≡ true
digit_in [] i are lt = absurd (omega arith)
digit_in (a ∷ []) i are lt = absurd (cc)
digit_in (a ∷ b ∷ ds) i are lt =
    let all = and_parts (is_hex_digit a && is_hex_digit b) (are_hex_pairs ds) are in
    let two = and_parts (is_hex_digit a) (is_hex_digit b) all.0 in
    at i lt two.0 two.1 (λ j. digit_in ds j all.1)
  where
    at : (i : ℕ) → i < length (a ∷ b ∷ ds) → is_hex_digit a ≡ true → is_hex_digit b ≡ true → ((j : ℕ) → j < length ds → is_hex_digit (get_or ds j 0) ≡ true)
        → is_hex_digit (get_or (a ∷ b ∷ ds) i 0) ≡ true
    at zero lt x y rest = x
    at (suc zero) lt x y rest = y
    at (suc (suc j)) lt x y rest = rest j (omega arith)

pub length_of_pairs : (bytes : List ℕ) → length (flat_map hex_byte bytes) ≡ 2 * length bytes
length_of_pairs [] = refl
length_of_pairs (b ∷ bytes) = omega (arith, length_of_pairs bytes)

pub even_pairs : (ds : List ℕ) → length ds % 2 ≡ 0 → list_all is_hex_digit ds ≡ are_hex_pairs ds
even_pairs ds even = ap (λ (n : ℕ). n == 0 && list_all is_hex_digit ds) (sym even) ∙ pairs_test ds

pub odd_pairs : (ds : List ℕ) → (length ds % 2 == 0) ≡ false → are_hex_pairs ds ≡ false
odd_pairs ds odd = sym (pairs_test ds) ∙ ap (λ q. q && list_all is_hex_digit ds) odd

pub even_length : (ds : List ℕ) → are_hex_pairs ds ≡ true → length ds ≡ 2 * (length ds / 2)
even_length ds are =
    let both = and_parts (length ds % 2 == 0) (list_all is_hex_digit ds) (pairs_test ds ∙ are) in
    let even : length ds % 2 ≡ 0 = eqb-true (length ds % 2) 0 both.0 in
    omega arith

abbrev pub PairsAre : List ℕ → List ℕ → ℕ → Type 0
PairsAre ds bytes n = (k : ℕ) → k < n → (get_or ds (2 * k) 0 ≡ hex_digit (get_or bytes k 0 / 16)) × (get_or ds (2 * k + 1) 0 ≡ hex_digit (get_or bytes k 0 % 16))

pub same_pairs : (ds bytes : List ℕ) → length ds ≡ 2 * length bytes → PairsAre ds bytes (length bytes) → ds ≡ flat_map hex_byte bytes
same_pairs [] [] len are = refl
same_pairs (a ∷ ds) [] len are = absurd (omega arith)
same_pairs [] (b ∷ bytes) len are = absurd (omega arith)
same_pairs (a ∷ []) (b ∷ bytes) len are = absurd (omega arith)
same_pairs (a ∷ c ∷ ds) (b ∷ bytes) len are =
    let first = are 0 (omega arith) in
    let rest = same_pairs ds bytes (omega arith) (λ k lt. later k (are (suc k) (omega arith))) in
    cc
  where
    later : (k : ℕ) → (get_or (a ∷ c ∷ ds) (2 * suc k) 0 ≡ hex_digit (get_or bytes k 0 / 16)) × (get_or (a ∷ c ∷ ds) (2 * suc k + 1) 0 ≡ hex_digit (get_or bytes k 0 % 16))
        → (get_or ds (2 * k) 0 ≡ hex_digit (get_or bytes k 0 / 16)) × (get_or ds (2 * k + 1) 0 ≡ hex_digit (get_or bytes k 0 % 16))
    later k two =
        let e : 2 * suc k ≡ suc (suc (2 * k)) = omega arith in
        let f : 2 * suc k + 1 ≡ suc (suc (2 * k + 1)) = omega arith in
        (ap (λ i. get_or (a ∷ c ∷ ds) i 0) (sym e) ∙ two.0, ap (λ i. get_or (a ∷ c ∷ ds) i 0) (sym f) ∙ two.1)

pub pairs_of : (ds bytes : List ℕ) → ds ≡ flat_map hex_byte bytes → PairsAre ds bytes (length bytes)
pairs_of ds bytes e k lt = (ap (λ (x : List ℕ). get_or x (2 * k) 0) e ∙ (at bytes k lt).0, ap (λ (x : List ℕ). get_or x (2 * k + 1) 0) e ∙ (at bytes k lt).1)
  where
    at : (bytes : List ℕ) (k : ℕ) → k < length bytes
        → (get_or (flat_map hex_byte bytes) (2 * k) 0 ≡ hex_digit (get_or bytes k 0 / 16)) × (get_or (flat_map hex_byte bytes) (2 * k + 1) 0 ≡ hex_digit (get_or bytes k 0 % 16))
    at [] k lt = absurd (omega arith)
    at (b ∷ bytes) zero lt = (refl, refl)
    at (b ∷ bytes) (suc k) lt =
        let e : 2 * suc k ≡ suc (suc (2 * k)) = omega arith in
        let f : 2 * suc k + 1 ≡ suc (suc (2 * k + 1)) = omega arith in
        let rest = at bytes k (omega arith) in
        (ap (λ i. get_or (flat_map hex_byte (b ∷ bytes)) i 0) e ∙ rest.0, ap (λ i. get_or (flat_map hex_byte (b ∷ bytes)) i 0) f ∙ rest.1)
