-- Steps of the loop that reads the digits of a field.
use Rattle.std.proofs.Common.{◌≡◌, ℕ, ◌+◌, ◌-◌, ◌*◌, ◌^◌, ◌<◌, ◌≤◌, true, false, List, [], ◌∷◌, length, drop, get_or, Option, None, Some, refl, ap, ◌∙◌, arith, length-drop, lit≤, ◌||◌}
use Rattle.std.specs.Prelude.{◌==◌, nat_le, option_map, pos, neg_ℤ, IfSome}
use Rattle.std.specs.Str.{all_ascii_digits}
use Rattle.std.specs.Char.{is_ascii_digit}
use Rattle.std.proofs.lemmas.Bool.{and_parts, le-leb, leb-true, ne_eqb, or_from}
use Rattle.std.proofs.Math.Nat.{pow-le-pow_right}
use Rattle.std.proofs.lemmas.List.{length-take-le}
use Rattle.plain_records.specs.Offsets.{FieldSoFar}
use Rattle.plain_records.specs.Plain.{ends_field, first_field}
use Rattle.plain_records.proofs.OffsetFacts.{field_begins, field_byte, field_more, field_of}
use Rattle.csv_tables.specs.Fields.{DigitsSoFar, SpellsNumberBelow10To18}
use Rattle.csv_tables.specs.Numbers.{decimal_after, greatest_magnitude, begins_with_minus, is_numeral, number_of, signed, magnitude_of, without_sign}
use Rattle.csv_tables.proofs.NumberFacts.{few_digits, ten_more}

-- the byte is one of the ten digits
pub record IsDigitByte (byte : ℕ) : Type 0 where
  pub low : 48 ≤ byte
  pub high : byte ≤ 57

pub digit_byte : (byte : ℕ) → is_ascii_digit byte ≡ true → IsDigitByte byte
digit_byte byte e = let parts = and_parts (nat_le 48 byte) (nat_le byte 57) e in record { low = leb-true 48 byte parts.0; high = leb-true byte 57 parts.1 }

no_end : (byte : ℕ) → IsDigitByte byte → ends_field byte ≡ false
no_end byte t =
    or_from (byte == 44) _ (ne_eqb byte 44 (λ e. omega (arith, e, t.low)))
    (or_from (byte == 13) (byte == 10) (ne_eqb byte 13 (λ e. omega (arith, e, t.low))) (ne_eqb byte 10 (λ e. omega (arith, e, t.low))))

pub digits_none : (bytes : List ℕ) (first : ℕ) → first ≤ length bytes → DigitsSoFar bytes first first 0
digits_none bytes first l =
    let none : first - first ≡ 0 = omega arith in
    record { field = field_begins bytes first l; digits = refl; spelled = refl; small = rw none (omega arith) }

-- one more digit
pub digits_more : (bytes : List ℕ) (first end size : ℕ) → DigitsSoFar bytes first end size → end < length bytes → is_ascii_digit (get_or bytes end 0) ≡ true
    → DigitsSoFar bytes first (end + 1) (size * 10 + (get_or bytes end 0 - 48))
digits_more bytes first end size d l e =
    let ten = digit_byte (get_or bytes end 0) e in
    let goes_on : ends_field (get_or bytes end 0) ≡ false = no_end (get_or bytes end 0) ten in
    let more : first_field (drop end bytes) ≡ get_or bytes end 0 ∷ first_field (drop (end + 1) bytes) = field_byte bytes end l goes_on in
    let one : end + 1 - first ≡ (end - first) + 1 = omega (arith, d.field.from) in
    record {
      field = field_more bytes first end d.field l goes_on;
      digits = d.digits ∙ ap all_ascii_digits more ∙ rw e refl;
      spelled = d.spelled ∙ ap (decimal_after size) more;
      small = rw one (ten_more (end - first) size (get_or bytes end 0 - 48) d.small (omega (arith, ten.high)));
    }

-- if fewer than eighteen digits were read, the number is below 10^17
pub digits_small : (bytes : List ℕ) (first end size : ℕ) → DigitsSoFar bytes first end size → end - first < 18 → size < 10 ^ 17
digits_small bytes first end size d l = few_digits (end - first) size d.small l

less_than : (i size : ℕ) → size < 10 ^ i → i ≤ 18 → size < 10 ^ 18
less_than i size small few =
    let positive : 0 < 10 = omega arith in
    omega (arith, small, pow-le-pow_right {n = 10} positive {i = i} {j = 18} few)

-- the digits go up to the end of the field
pub digits_all : (bytes : List ℕ) (first end size : ℕ) → DigitsSoFar bytes first end size → first_field (drop end bytes) ≡ [] → first < end → end ≤ first + 18
    → SpellsNumberBelow10To18 (first_field (drop first bytes)) size
digits_all bytes first end size d stops some few =
    let f = field_of bytes first end d.field stops in
    let within : end - first ≤ length (drop first bytes) = omega (arith, length-drop first bytes, d.field.within) in
    let lengths : length (first_field (drop first bytes)) ≡ end - first = ap (λ (t : List ℕ). length t) f.is ∙ length-take-le (end - first) (drop first bytes) within in
    record {
      some = omega (arith, lengths, some);
      digits_are = d.digits ∙ ap all_ascii_digits stops;
      spelled = d.spelled ∙ ap (decimal_after size) stops;
      small = less_than (end - first) size d.small (omega (arith, few));
    }

numeral_of : (digits : List ℕ) → 0 < length digits → all_ascii_digits digits ≡ true → is_numeral digits ≡ true
numeral_of [] l e = absurd (omega (arith, l))
numeral_of (c ∷ cs) l e = e

size_short : (digits : List ℕ) (size most : ℕ) → SpellsNumberBelow10To18 digits size → 10 ^ 18 ≤ most → magnitude_of most digits ≡ Some size
size_short digits size most s l =
    let numeral : is_numeral digits ≡ true = numeral_of digits s.some s.digits_are in
    let spelled : decimal_after 0 digits ≡ size = s.spelled in
    let few : nat_le size most ≡ true = le-leb size most (omega (arith, s.small, l)) in
    rw (numeral, spelled, few) refl

-- digits have no sign
no_minus : (digits : List ℕ) → all_ascii_digits digits ≡ true → begins_with_minus digits ≡ false
no_minus [] e = refl
no_minus (c ∷ cs) e =
    let ten = digit_byte c (and_parts (is_ascii_digit c) (all_ascii_digits cs) e).0 in
    ne_eqb c 45 (λ same. omega (arith, same, ten.low))

no_sign : (digits : List ℕ) → all_ascii_digits digits ≡ true → without_sign digits ≡ digits
no_sign [] e = refl
no_sign (c ∷ cs) e =
    let ten = digit_byte c (and_parts (is_ascii_digit c) (all_ascii_digits cs) e).0 in
    let none : (c == 45 || c == 43) ≡ false = or_from (c == 45) (c == 43) (ne_eqb c 45 (λ same. omega (arith, same, ten.low))) (ne_eqb c 43 (λ same. omega (arith, same, ten.low))) in
    rw none refl

-- digits without a sign spell a number that isn't negative
number_short : (digits : List ℕ) (size : ℕ) → SpellsNumberBelow10To18 digits size → number_of digits ≡ Some (pos size)
number_short digits size s =
    let minus : begins_with_minus digits ≡ false = no_minus digits s.digits_are in
    let sign : without_sign digits ≡ digits = no_sign digits s.digits_are in
    let most : 10 ^ 18 ≤ greatest_magnitude false = lit≤ tt in
    ap (λ b. option_map (signed b) (magnitude_of (greatest_magnitude b) (without_sign digits))) minus
    ∙ ap (λ ds. option_map (signed false) (magnitude_of (greatest_magnitude false) ds)) sign
    ∙ ap (option_map (signed false)) (size_short digits size (greatest_magnitude false) s most)

-- digits after a minus sign spell a negative number, or 0
number_negative : (field digits : List ℕ) (size : ℕ) → field ≡ 45 ∷ digits → SpellsNumberBelow10To18 digits size → number_of field ≡ Some (neg_ℤ (pos size))
number_negative field digits size e s =
    let most : 10 ^ 18 ≤ greatest_magnitude true = lit≤ tt in
    ap number_of e ∙ ap (option_map (signed true)) (size_short digits size (greatest_magnitude true) s most)

-- ---- numbers as options

pub small_size : (digits : List ℕ) (size : Option ℕ) → IfSome size (SpellsNumberBelow10To18 digits) → IfSome size (λ s. s < 10 ^ 18)
small_size digits None h = tt
small_size digits (Some s) h = h.small

pub from_zero_is : (digits : List ℕ) (size : Option ℕ) → IfSome size (SpellsNumberBelow10To18 digits) → IfSome (option_map pos size) (λ number. number_of digits ≡ Some number)
from_zero_is digits None h = tt
from_zero_is digits (Some s) h = number_short digits s h

pub below_zero_is : (field digits : List ℕ) (size : Option ℕ) → field ≡ 45 ∷ digits → IfSome size (SpellsNumberBelow10To18 digits)
    → IfSome (option_map (λ s. neg_ℤ (pos s)) size) (λ number. number_of field ≡ Some number)
below_zero_is field digits None e h = tt
below_zero_is field digits (Some s) e h = number_negative field digits s e h

-- a field that begins with a minus sign goes on after this sign
pub begins_with : (bytes : List ℕ) (start : ℕ) → start < length bytes → get_or bytes start 0 ≡ 45 → first_field (drop start bytes) ≡ 45 ∷ first_field (drop (start + 1) bytes)
begins_with bytes start l e =
    let goes_on : ends_field (get_or bytes start 0) ≡ false = ap ends_field e in
    field_byte bytes start l goes_on ∙ ap (λ b. b ∷ first_field (drop (start + 1) bytes)) e

pub past_minus : (bytes : List ℕ) (start : ℕ) → start < length bytes → get_or bytes start 0 ≡ 45 → FieldSoFar bytes start (start + 1)
past_minus bytes start l e =
    let goes_on : ends_field (get_or bytes start 0) ≡ false = ap ends_field e in
    let inside : start ≤ length bytes = omega (arith, l) in
    field_more bytes start start (field_begins bytes start inside) l goes_on
