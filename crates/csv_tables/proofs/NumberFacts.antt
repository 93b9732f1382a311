-- Steps of loops that read digits: the number that the digits so far spell.
use Rattle.std.proofs.Common.{ℕ, ◌≡◌, ◌+◌, ◌-◌, ◌*◌, ◌^◌, ◌<◌, ◌≤◌, List, [], ◌∷◌, None, Bool, true, false, refl, arith}
use Rattle.std.proofs.Math.Nat.{pow-le-pow_right}
use Rattle.std.proofs.lemmas.Grind.{pow_more}
use Rattle.std.specs.Prelude.{nat_le}
use Rattle.csv_tables.specs.Numbers.{decimal_after, is_numeral, magnitude_of}

pub decimal_after-grows : (n : ℕ) (digits : List ℕ) → n ≤ decimal_after n digits
decimal_after-grows n [] = omega arith
decimal_after-grows n (c ∷ cs) = omega (arith, decimal_after-grows (n * 10 + (c - 48)) cs)

pub too_large_by : (most : ℕ) (digits : List ℕ) (test : Bool) → is_numeral digits ≡ test → most < decimal_after 0 digits → magnitude_of most digits ≡ None
too_large_by most digits true e large = let above : nat_le (decimal_after 0 digits) most ≡ false = grind (arith, large) in rw (e, above) refl
too_large_by most digits false e large = rw e refl

-- more digits make no smaller number, so reading stops as soon as the number is above `most`
pub too_large : (most : ℕ) (digits : List ℕ) (size c : ℕ) (rest : List ℕ) → decimal_after 0 digits ≡ decimal_after size (c ∷ rest) → most < size * 10 + (c - 48) → magnitude_of most digits ≡ None
too_large most digits size c rest e large =
    let grows = decimal_after-grows (size * 10 + (c - 48)) rest in
    let more : most < decimal_after 0 digits = omega (arith, e, grows, large) in
    too_large_by most digits (is_numeral digits) refl more

pub ten_more : (i size d : ℕ) → size < 10 ^ i → d < 10 → size * 10 + d < 10 ^ (i + 1)
ten_more i size d small digit = rw (pow_more 10 i) (omega arith)

pub few_digits : (i size : ℕ) → size < 10 ^ i → i < 18 → size < 10 ^ 17
few_digits i size small few =
    let positive : 0 < 10 = omega arith in
    let within : i ≤ 17 = omega (arith, few) in
    omega (arith, small, pow-le-pow_right {n = 10} positive {i = i} {j = 17} within)

pub ruleset short_steps = (ten_more, too_large_by)
