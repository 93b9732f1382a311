-- Which number a numeral spells, for the code that reads numbers from words.
use Rattle.std.proofs.Common.{[], ◌≡◌, ◌≢◌, ℕ, suc, ◌+◌, ◌*◌, ◌-◌, ◌^◌, ◌<◌, ◌≤◌, true, false, ◌||◌, ◌&&◌, ◌==◌, List, ◌∷◌, length, get_or, drop, refl, ap, sym, subst, ◌∙◌, arith, Bool, Option, None, Some}
use Rattle.std.specs.Prelude.{ℤ, pos, negsuc, decimal, FitsSigned, nat_lt}
use Rattle.std.specs.Char.{digit_value, is_ascii_digit}
use Rattle.std.specs.Fmt.{signed_decimal}
use Rattle.std.specs.Int.{w64}
use Rattle.std.specs.List.{list_all}
use Rattle.std.specs.Option.{SomeIff}
use Rattle.std.specs.Str.Parse.{digits_value, digits_value_after}
use Rattle.std.proofs.lemmas.Bool.{and_from, and_parts, and_right}
use Rattle.std.proofs.lemmas.Bool.Decides.{nat_tests}
use Rattle.std.proofs.lemmas.Fmt.{decimal-digits_value, digits_value-decimal, digits_decimal, decimal_injective, decimal_nonempty}
use Rattle.std.proofs.lemmas.List.{at_drop_more}
use Rattle.std.proofs.lemmas.Str.{digit_value_digit}
use Rattle.std.proofs.lemmas.Str.Parse.{digit_at}
use Rattle.stats_file.specs.Grammar.{is_numeral}
use Rattle.stats_file.proofs.WordFacts.{numeral, ascii_digits_are_numerals}
use Rattle.stats_words.specs.Words.{Spells}

pub value_at_least : (n : ℕ) (ds : List ℕ) → n ≤ digits_value_after 10 n ds
value_at_least n [] = omega arith
value_at_least n (c ∷ cs) = let h = value_at_least (n * 10 + digit_value c) cs in omega arith

digit_is : (c : ℕ) → is_ascii_digit c ≡ true → digit_value c ≡ c - 48
digit_is c is =
    let range = digit_at (c ∷ []) 0 (ascii_digits_are_numerals.to (c ∷ []) (rw is refl)) (omega arith) in
    omega (arith, digit_value_digit c range)

pub next_value : (ds : List ℕ) (i v : ℕ) → i < length ds → is_ascii_digit (get_or ds i 0) ≡ true
    → digits_value_after 10 v (drop i ds) ≡ digits_value_after 10 (10 * v + (get_or ds i 0 - 48)) (drop (i + 1) ds)
next_value ds i v lt is =
    let e : v * 10 + digit_value (get_or ds i 0) ≡ 10 * v + (get_or ds i 0 - 48) = omega (arith, digit_is (get_or ds i 0) is) in
    at_drop_more (digits_value_after 10 v) ds i 0 lt ∙ ap (λ n. digits_value_after 10 n (drop (i + 1) ds)) e

-- the state of the loop: the first i bytes are digits, and v is their value
pub record ValueReadSoFar (ds : List ℕ) (i v : ℕ) : Type 0 where
  pub value : digits_value_after 10 v (drop i ds) ≡ digits_value 10 ds
  pub digits : list_all is_ascii_digit (drop i ds) ≡ list_all is_ascii_digit ds

pub value_refused : (ds : List ℕ) (i v most : ℕ) → i < length ds
    → ((is_ascii_digit (get_or ds i 0) ≡ true) × (10 * v + (get_or ds i 0 - 48) ≤ most) → ⊥) → ValueReadSoFar ds i v
    → (list_all is_ascii_digit ds ≡ true) × (digits_value 10 ds ≤ most) → ⊥
value_refused ds i v most lt stops h (all, le) =
    let here : is_ascii_digit (get_or ds i 0) && list_all is_ascii_digit (drop (i + 1) ds) ≡ true =
    sym (at_drop_more (list_all is_ascii_digit) ds i 0 lt) ∙ h.digits ∙ all in
    let is = (and_parts (is_ascii_digit (get_or ds i 0)) (list_all is_ascii_digit (drop (i + 1) ds)) here).0 in
    let more = value_at_least (10 * v + (get_or ds i 0 - 48)) (drop (i + 1) ds) in
    let whole = next_value ds i v lt is in
    stops (is, omega (arith, more, whole, h.value))

parts_of : (d : ℕ) (ds : List ℕ) → is_numeral (d ∷ ds) ≡ true
    → (is_ascii_digit d ≡ true) × (list_all is_ascii_digit ds ≡ true) × ((nat_lt 48 d || (length ds == 0)) ≡ true)
parts_of d ds is =
    let all = and_parts (is_ascii_digit d && list_all is_ascii_digit ds) (nat_lt 48 d || (length ds == 0)) is in
    let digits = and_parts (is_ascii_digit d) (list_all is_ascii_digit ds) all.0 in
    (digits.0, digits.1, all.1)

pub are_digits : (word : List ℕ) → is_numeral word ≡ true → list_all is_ascii_digit word ≡ true
are_digits [] is = refl
are_digits (d ∷ ds) is = and_from (is_ascii_digit d) (list_all is_ascii_digit ds) (parts_of d ds is).0 (parts_of d ds is).1

numeral_not_empty : (word : List ℕ) → is_numeral word ≡ true → 0 < length word
numeral_not_empty [] is = absurd (cc)
numeral_not_empty (d ∷ ds) is = omega arith

no_front : (d n : ℕ) → (nat_lt 48 d || (n == 0)) ≡ true → d ≡ 48 → suc n ≡ 1
no_front d n is zero' = grind (arith, nat_tests)

zero_digit_is_whole : (word : List ℕ) → is_numeral word ≡ true → get_or word 0 0 ≡ 48 → length word ≡ 1
zero_digit_is_whole [] is first = absurd (cc)
zero_digit_is_whole (d ∷ ds) is first = no_front d (length ds) (parts_of d ds is).2 first

pub numeral_spells : (word : List ℕ) (most : ℕ) (r : Option ℕ) → most < 2 ^ 64 → is_numeral word ≡ true → SomeIff r (digits_value 10 word ≤ most) (digits_value 10 word)
    → Spells decimal (λ n. n ≤ most) word r
numeral_spells word most None small is not_so = λ n le e.
    let same : digits_value 10 (decimal n) ≡ n = digits_value-decimal ascii_digits_are_numerals n (omega arith) in
    let other : digits_value 10 (decimal n) ≡ digits_value 10 word = ap (digits_value 10) e in
    not_so (omega arith)
numeral_spells word most (Some n) small is (le, at') =
    let lt : digits_value 10 word < 2 ^ 64 = omega arith in
    (omega arith, ap decimal at' ∙ decimal-digits_value ascii_digits_are_numerals word (are_digits word is) (numeral_not_empty word is) (zero_digit_is_whole word is) lt)

pub non_numeral_spells_nothing : (word : List ℕ) (most : ℕ) → most < 2 ^ 64 → is_numeral word ≡ false → (n : ℕ) → n ≤ most → decimal n ≢ word
non_numeral_spells_nothing word most small not_so n le e =
    let is : is_numeral word ≡ true = subst (λ (w : List ℕ). is_numeral w ≡ true) e (numeral n (omega arith)) in
    absurd (cc)

-- `lead` says whether the word's first digit may begin a numeral
pub number_read : (word : List ℕ) (most : ℕ) (lead : Bool) (r : Option ℕ) → most < 2 ^ 64 → is_numeral word ≡ (list_all is_ascii_digit word && lead) → lead ≡ true
    → SomeIff r ((list_all is_ascii_digit word ≡ true) × (digits_value 10 word ≤ most)) (digits_value 10 word) → Spells decimal (λ n. n ≤ most) word r
number_read word most lead None small whole leads stops = λ n le e.
    let is : is_numeral word ≡ true = subst (λ (w : List ℕ). is_numeral w ≡ true) e (numeral n (omega arith)) in
    numeral_spells word most None small is (λ within. stops (are_digits word is, within)) n le e
number_read word most lead (Some n) small whole leads (both, at') =
    numeral_spells word most (Some n) small (whole ∙ and_from (list_all is_ascii_digit word) lead both.0 leads) (both.1, at')

pub none_read : (word : List ℕ) (most : ℕ) (lead : Bool) → most < 2 ^ 64 → is_numeral word ≡ (list_all is_ascii_digit word && lead) → lead ≡ false
    → Spells decimal (λ n. n ≤ most) word None
none_read word most lead small whole leads = non_numeral_spells_nothing word most small (whole ∙ and_right (list_all is_ascii_digit word) lead leads)

no_dash : (n : ℕ) (rest : List ℕ) → n < 2 ^ 64 → decimal n ≢ 45 ∷ rest
no_dash n rest small e =
    let range = digit_at (decimal n) 0 (ascii_digits_are_numerals.to (decimal n) (digits_decimal ascii_digits_are_numerals n small)) (decimal_nonempty n small) in
    let first : get_or (decimal n) 0 0 ≡ 45 = ap (λ (w : List ℕ). get_or w 0 0) e in
    omega (arith, range.0)

equal_tails : (a b : List ℕ) → 45 ∷ a ≡ 45 ∷ b → a ≡ b
equal_tails a b e = cc

-- ---- a number after a dash, in three cases: its digits spell no number, zero, or another number
pub negative_none : (digits : List ℕ) → Spells decimal (λ n. n ≤ 2 ^ 63) digits None → Spells signed_decimal (FitsSigned w64) (45 ∷ digits) None
negative_none digits h = none
  where
    none : (z : ℤ) → FitsSigned w64 z → signed_decimal z ≢ 45 ∷ digits
    none (pos n) fits e = let lt : n < 2 ^ 63 = omega (arith, fits.sfits) in no_dash n digits (omega arith) e
    none (negsuc n) fits e = let lt : n < 2 ^ 63 = omega (arith, fits.sfits) in h (suc n) (omega arith) (equal_tails _ _ e)

pub negative_zero : (digits : List ℕ) (n : ℕ) → n ≡ 0 → Spells decimal (λ n. n ≤ 2 ^ 63) digits (Some n) → Spells signed_decimal (FitsSigned w64) (45 ∷ digits) None
negative_zero digits n zero' h = none
  where
    none : (z : ℤ) → FitsSigned w64 z → signed_decimal z ≢ 45 ∷ digits
    none (pos m) fits e = let lt : m < 2 ^ 63 = omega (arith, fits.sfits) in no_dash m digits (omega arith) e
    none (negsuc m) fits e =
        let lt : m < 2 ^ 63 = omega (arith, fits.sfits) in
        let same : suc m ≡ n = decimal_injective (suc m) n (omega arith) (omega arith) (equal_tails _ _ e ∙ sym h.1) in
        absurd (omega arith)
