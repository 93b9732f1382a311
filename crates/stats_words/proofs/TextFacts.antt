-- A word spells a text as the hexadecimal digits of the text's bytes.
use Rattle.std.proofs.Common.{[], ◌≡◌, ◌≢◌, ℕ, ◌+◌, ◌/◌, ◌%◌, ◌<◌, ltb, Bool, true, false, cond, inl, inr, List, ◌∷◌, ◌++◌, get_or, drop, refl, ap, sym, subst, ◌∙◌, arith, None, Some, Option}
use Rattle.std.specs.Prelude.{FitsSigned, IsUtf8, MatchOption}
use Rattle.std.specs.Fmt.{signed_decimal}
use Rattle.std.specs.Int.{w64}
use Rattle.std.specs.List.{flat_map}
use Rattle.std.proofs.lemmas.Bool.{and_parts}
use Rattle.std.proofs.lemmas.Bool.Decides.{nat_tests}
use Rattle.schema_types.specs.declared.types.Kind.TheVariants as kinds
use Rattle.stats_file.specs.declared.types.Datum.{Datum}
use Rattle.stats_file.specs.declared.types.Datum.TheVariants as datums
use Rattle.stats_file.specs.Bytes.{AreBytes}
use Rattle.stats_file.specs.Grammar.{IsHexWord}
use Rattle.stats_file.specs.Lines.{datum_text, hex_byte, hex_digit, hex_text}
use Rattle.stats_file.specs.Rules.{IsOfKind}
use Rattle.stats_file.proofs.WordFacts.{hex_word}
use Rattle.stats_words.specs.Words.{Spells}
use lib.Utf8.{encode, encodes, scalar, scalar_cases, scalars}

below_end : (c : ℕ) → scalar c ≡ true → c < 1114112
below_end c is = elim (scalar_cases c is) [ inl lt ↦ omega arith | inr two ↦ two.1 ]

joined_bytes : (a b : List ℕ) → AreBytes a → AreBytes b → AreBytes (a ++ b)
joined_bytes [] b are others = others
joined_bytes (x ∷ a) b are others = (are.0, joined_bytes a b are.1 others)

encode_gives_bytes : (c : ℕ) → c < 1114112 → AreBytes (encode c)
unfolding encode
encode_gives_bytes c small = at (ltb c 128) (ltb c 2048) (ltb c 65536) refl refl refl
  where
    at : (x y z : Bool) → ltb c 128 ≡ x → ltb c 2048 ≡ y → ltb c 65536 ≡ z
        → AreBytes (cond x (c ∷ []) (cond y ((192 + c / 64) ∷ (128 + c % 64) ∷ []) (cond z ((224 + c / 4096) ∷ (128 + (c / 64) % 64) ∷ (128 + c % 64) ∷ [])
        ((240 + c / 262144) ∷ (128 + (c / 4096) % 64) ∷ (128 + (c / 64) % 64) ∷ (128 + c % 64) ∷ []))))
    at true y z e f g = (grind (arith, nat_tests), tt)
    at false true z e f g = let lt : c < 2048 = grind (arith, nat_tests) in (omega arith, (omega arith, tt))
    at false false true e f g = let lt : c < 65536 = grind (arith, nat_tests) in (omega arith, (omega arith, (omega arith, tt)))
    at false false false e f g = (omega arith, (omega arith, (omega arith, (omega arith, tt))))

encodes_give_bytes : (cs : List ℕ) → scalars cs ≡ true → AreBytes (encodes cs)
encodes_give_bytes [] are = tt
encodes_give_bytes (c ∷ cs) are =
    let both = and_parts (scalar c) (scalars cs) are in
    joined_bytes (encode c) (encodes cs) (encode_gives_bytes c (below_end c both.0)) (encodes_give_bytes cs both.1)

pub utf8_bytes : (bytes : List ℕ) → IsUtf8 bytes → AreBytes bytes
utf8_bytes bytes (cs, (are, is)) = subst AreBytes is (encodes_give_bytes cs are)

same_digit : (m n : ℕ) → hex_digit m ≡ hex_digit n → m ≡ n
same_digit m n e = grind (arith, nat_tests)

same_byte : (a b : ℕ) → hex_digit (a / 16) ≡ hex_digit (b / 16) → hex_digit (a % 16) ≡ hex_digit (b % 16) → a ≡ b
same_byte a b high low =
    let front : a / 16 ≡ b / 16 = same_digit (a / 16) (b / 16) high in
    let back : a % 16 ≡ b % 16 = same_digit (a % 16) (b % 16) low in
    omega arith

pub same_bytes : (a b : List ℕ) → flat_map hex_byte a ≡ flat_map hex_byte b → a ≡ b
same_bytes [] [] e = refl
same_bytes [] (y ∷ b) e = absurd (cc)
same_bytes (x ∷ a) [] e = absurd (cc)
same_bytes (x ∷ a) (y ∷ b) e =
    let high : hex_digit (x / 16) ≡ hex_digit (y / 16) = ap (λ (w : List ℕ). get_or w 0 0) e in
    let low : hex_digit (x % 16) ≡ hex_digit (y % 16) = ap (λ (w : List ℕ). get_or w 1 0) e in
    let rest : flat_map hex_byte a ≡ flat_map hex_byte b = ap (λ (w : List ℕ). drop 2 w) e in
    let first : x ≡ y = same_byte x y high low in
    let tail : a ≡ b = same_bytes a b rest in
    ap (λ n. n ∷ a) first ∙ ap (λ (w : List ℕ). y ∷ w) tail

pub same_hex : (a b : List ℕ) → hex_text a ≡ hex_text b → a ≡ b
same_hex a b e = same_bytes a b (ap (λ (w : List ℕ). drop 1 w) e)

pub not_hex_spells_no_text : (most : ℕ) (word : List ℕ) → (IsHexWord word → ⊥) → Spells datum_text (IsOfKind (kinds.Text most)) word None
not_hex_spells_no_text most word other = none
  where
    none : (d : Datum) → IsOfKind (kinds.Text most) d → datum_text d ≢ word
    none (datums.Int n) never e = never
    none (datums.Text bytes) utf8 e = other (subst (λ (w : List ℕ). IsHexWord w) e (hex_word bytes (utf8_bytes bytes utf8)))

pub text_spelled : (most : ℕ) (word bytes : List ℕ) (r : Option Datum) → hex_text bytes ≡ word
    → MatchOption r (IsUtf8 bytes → ⊥) (λ d. IsUtf8 bytes × (d ≡ datums.Text bytes)) → Spells datum_text (IsOfKind (kinds.Text most)) word r
text_spelled most word bytes None is other = none
  where
    none : (d : Datum) → IsOfKind (kinds.Text most) d → datum_text d ≢ word
    none (datums.Int n) never e = never
    none (datums.Text others) utf8 e =
        other (subst IsUtf8 (same_hex others bytes (e ∙ sym is)) utf8)
text_spelled most word bytes (Some d) is (utf8, same) =
    subst (λ (x : Datum). IsOfKind (kinds.Text most) x × (datum_text x ≡ word)) (sym same) (utf8, is)

pub number_none : (word : List ℕ) → Spells signed_decimal (FitsSigned w64) word None → Spells datum_text (IsOfKind kinds.Int) word None
number_none word h = none
  where
    none : (d : Datum) → IsOfKind kinds.Int d → datum_text d ≢ word
    none (datums.Int n) fits e = h n fits e
    none (datums.Text bytes) never e = never
