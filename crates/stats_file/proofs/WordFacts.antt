-- The numbers, values and names that a file's text is made of are words of the grammar.
use Rattle.std.proofs.Common.{◌≡◌, ◌≢◌, ℕ, zero, suc, ◌+◌, ◌/◌, ◌%◌, ◌<◌, ◌≤◌, ◌^◌, ◌==◌, ◌||◌, if◌then◌else◌, true, false, inl, inr, List, [], ◌∷◌, ◌++◌, length, get_or, map, refl, ap, sym, ◌∙◌, subst, arith, rules}
use Rattle.std.specs.Prelude.{All, codes, decimal, nat_lt, pos, negsuc, sum, ℤ, FitsSigned}
use Rattle.std.specs.Char.{is_ascii_digit}
use Rattle.std.specs.Fmt.{signed_decimal}
use Rattle.std.specs.Int.{w64}
use Rattle.std.specs.List.{AllByRecursion, flat_map, list_all}
use Rattle.std.specs.Str.Parse.{digits_value}
use Rattle.std.proofs.lemmas.Bool.{and_from, lt-ltb}
use Rattle.std.proofs.lemmas.Bool.Decides.{nat_tests}
use Rattle.std.proofs.lemmas.List.Sums.{sum_by-cons}
use Rattle.std.proofs.lemmas.Fmt.{decimal_digit, digits_decimal, first_decimal}
use Rattle.std.proofs.lemmas.Str.Parse.{IsNumeralModel, numerals_by_value}
use Rattle.piece_math.specs.declared.pieces.Piece.{Piece}
use Rattle.stats_file.specs.Grammar.{are_hex_pairs, is_hex_digit, IsHexWord, IsListWord, IsNumeral, IsRunWord, IsSignedNumeral}
use Rattle.stats_file.specs.Lines.{hex_byte, hex_digit, hex_text, run_text, runs_text}
use Rattle.stats_file.specs.Rules.{IsList}
use Rattle.stats_file.specs.Runs.{with_number_in_front, run_of, runs_of}

pub ascii_digits_are_numerals : IsNumeralModel (λ ds. list_all is_ascii_digit ds ≡ true) (digits_value 10)
ascii_digits_are_numerals = numerals_by_value _ (search rules)

digits_then : (ds : List ℕ) → list_all is_ascii_digit ds ≡ true → 48 < get_or ds 0 0 → IsNumeral ds
digits_then [] are lt = absurd (omega arith)
digits_then (d ∷ ds) are lt =
    let big : nat_lt 48 d ≡ true = lt-ltb 48 d lt in
    let either : (nat_lt 48 d || (length ds == 0)) ≡ true = rw big refl in
    and_from _ _ are either

pub numeral : (n : ℕ) → n < 2 ^ 64 → IsNumeral (decimal n)
numeral zero fits = subst (λ (ds : List ℕ). IsNumeral ds) (sym (decimal_digit 0 (omega arith))) refl
numeral (suc n) fits = digits_then (decimal (suc n)) (digits_decimal ascii_digits_are_numerals (suc n) fits) (first_decimal (suc n) (omega arith) fits)

not_zero : (n : ℕ) → suc n < 2 ^ 64 → decimal (suc n) ≢ codes "0"
not_zero n fits e =
    let lt : 48 < 48 = subst (λ (ds : List ℕ). 48 < get_or ds 0 0) e (first_decimal (suc n) (omega arith) fits) in
    absurd (omega arith)

pub signed_numeral : (z : ℤ) → FitsSigned w64 z → IsSignedNumeral (signed_decimal z)
signed_numeral (pos n) fits =
    let small : n < 2 ^ 63 = omega (arith, fits.sfits) in
    inl (numeral n (omega arith))
signed_numeral (negsuc n) fits =
    let small : n < 2 ^ 63 = omega (arith, fits.sfits) in
    inr (decimal (suc n), refl, numeral (suc n) (omega arith), not_zero n (omega arith))

digit_is : (n : ℕ) → n < 16 → is_hex_digit (hex_digit n) ≡ true
digit_is n lt = grind (arith, nat_tests)

pairs_are : (bytes : List ℕ) → AllByRecursion (λ b. b < 256) bytes → are_hex_pairs (flat_map hex_byte bytes) ≡ true
pairs_are [] are = refl
pairs_are (b ∷ bytes) are =
    let small : b < 256 = are.0 in
    and_from _ _ (and_from _ _ (digit_is (b / 16) (omega arith)) (digit_is (b % 16) (omega arith))) (pairs_are bytes are.1)

pub hex_word : (bytes : List ℕ) → AllByRecursion (λ b. b < 256) bytes → IsHexWord (hex_text bytes)
hex_word bytes are = (flat_map hex_byte bytes, refl, pairs_are bytes are)

abbrev Within : ℕ → Piece → Type 0
Within n run = (run.value ≤ n) × (run.count ≤ n)

within_greater : (m k : ℕ) (runs : List Piece) → m ≤ k → AllByRecursion (Within m) runs → AllByRecursion (Within k) runs
within_greater m k [] le are = tt
within_greater m k (run ∷ runs) le are =
    let value : run.value ≤ m = are.0.0 in
    let count : run.count ≤ m = are.0.1 in
    ((omega arith, omega arith), within_greater m k runs le are.1)

step : (x m : ℕ) (runs : List Piece) → 0 < x → AllByRecursion (Within m) runs → AllByRecursion (Within (x + m)) (with_number_in_front x runs)
step x m [] some are = ((omega arith, omega arith), tt)
step x m (run ∷ runs) some are =
    let value : run.value ≤ m = are.0.0 in
    let count : run.count ≤ m = are.0.1 in
    elim (x == run.value) as (λ b. AllByRecursion (Within (x + m)) (if b then run_of x (run.count + 1) ∷ runs else run_of x 1 ∷ (run ∷ runs))) [
      | true ↦ ((omega arith, omega arith), within_greater m (x + m) runs (omega arith) are.1)
      | false ↦ ((omega arith, omega arith), ((omega arith, omega arith), within_greater m (x + m) runs (omega arith) are.1))
    ]

abbrev total : List ℕ → ℕ
total [] = 0
total (x ∷ list) = x + total list

runs_within_total : (list : List ℕ) → All (λ x. 0 < x) list → AllByRecursion (Within (total list)) (runs_of list)
unfolding runs_of
runs_within_total [] are = tt
runs_within_total (x ∷ list) are =
    step x (total list) (runs_of list) (are 0 0 (omega arith)) (runs_within_total list (λ k d lt. are (suc k) d (omega arith)))

run_words : (n : ℕ) (runs : List Piece) → n < 2 ^ 64 → AllByRecursion (Within n) runs → AllByRecursion IsRunWord (map run_text runs)
run_words n [] small are = tt
run_words n (run ∷ runs) small are =
    let value : run.value ≤ n = are.0.0 in
    let count : run.count ≤ n = are.0.1 in (
      record { value = decimal run.value; count = decimal run.count; value_is = numeral run.value (omega arith); count_is = numeral run.count (omega arith); whole = refl },
      run_words n runs small are.1,
    )

each_text : (runs : List Piece) → flat_map (λ next. codes " " ++ run_text next) runs ≡ flat_map (λ run. codes " " ++ run) (map run_text runs)
each_text [] = refl
each_text (run ∷ runs) = ap (λ rest. (codes " " ++ run_text run) ++ rest) (each_text runs)

list_words : (n : ℕ) (runs : List Piece) → n < 2 ^ 64 → AllByRecursion (Within n) runs → IsListWord (runs_text runs)
list_words n [] small are = inl refl
list_words n (run ∷ runs) small are =
    let words = run_words n (run ∷ runs) small are in
    inr (record { first = run_text run; others = map run_text runs; first_is = words.0; others_are = words.1; whole = ap (λ rest. run_text run ++ rest) (each_text runs) })

total_is : (list : List ℕ) → total list ≡ sum list
total_is [] = refl
total_is (x ∷ list) = ap (λ rest. x + rest) (total_is list) ∙ sym (sum_by-cons (λ y. y) x list)

pub list_word : (rows : ℕ) (list : List ℕ) → rows ≤ 4000000 → IsList rows list → IsListWord (runs_text (runs_of list))
list_word rows list within_limit is =
    let same = total_is list in
    let within : sum list ≤ rows = is.within in
    list_words (total list) (runs_of list) (omega arith) (runs_within_total list is.positive)
