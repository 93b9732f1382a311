-- A word spells at most one value, and a line splits into words in at most one way.
use Rattle.std.proofs.Common.{◌≡◌, ◌≢◌, ℕ, zero, suc, ◌+◌, ◌^◌, ◌<◌, ◌≤◌, ◌↔◌, List, [], ◌∷◌, ◌++◌, refl, ap, sym, subst, ◌∙◌, arith, append-nil, append_assoc, if◌then◌else◌, true, false, Bool, ◌/◌, ◌%◌, ◌&&◌, inl, inr, Option, Some}
use Rattle.std.specs.Prelude.{nat_lt, ℤ, pos, negsuc, FitsSigned, codes, decimal, sum}
use Rattle.std.specs.Fmt.{signed_decimal}
use Rattle.std.specs.Int.{w64}
use Rattle.std.specs.List.{AllByRecursion, flat_map}
use Rattle.std.proofs.lemmas.Bool.{and_parts}
use Rattle.std.proofs.lemmas.Fmt.{signed_decimal_injective}
use Rattle.std.proofs.lemmas.List.{append_cancel_left, append_cancel_right}
use Rattle.piece_math.specs.declared.pieces.Piece.{Piece}
use Rattle.piece_math.specs.Expanded.{expanded}
use Rattle.schema_types.specs.declared.types.Kind.{Kind}
use Rattle.schema_types.specs.declared.types.Kind.TheVariants as kinds
use Rattle.stats_file.specs.declared.types.Datum.{Datum}
use Rattle.stats_file.specs.declared.types.Datum.TheVariants as datum
use Rattle.stats_file.specs.Grammar.{are_hex_pairs, is_hex_digit, IsHexWord, IsNumeral, IsValueWord}
use Rattle.stats_file.specs.Lines.{datum_text, hex_byte, hex_digit, hex_text, run_text, runs_text}
use Rattle.stats_file.specs.Rules.{IsList, IsOfKind}
use Rattle.stats_file.specs.Runs.{runs_of}
use Rattle.stats_file.proofs.WordFacts.{numeral}
use Rattle.stats_words.specs.Runs.{list_text}
use Rattle.stats_words.specs.Splits.{HasNoByte}
use Rattle.stats_words.specs.Words.{Spells}
use Rattle.stats_words.proofs.ListWordFacts.{numeral_without}
use Rattle.stats_words.proofs.RunTexts.{expanded_runs, is_run_word, no_blank_in, runs_fall, same_run_of, runs_are_within, IsRunWithin}
use Rattle.stats_words.proofs.SplitFacts.{front_without, not_without, split_same}
use Rattle.stats_words.proofs.TextFacts.{same_hex}

-- ---- one value

same_number : (a b : ℤ) → FitsSigned w64 a → FitsSigned w64 b → signed_decimal a ≡ signed_decimal b → a ≡ b
same_number (pos a) (pos b) f g e = signed_decimal_injective (pos a) (pos b) (omega (arith, f.sfits)) (omega (arith, g.sfits)) e
same_number (pos a) (negsuc b) f g e = signed_decimal_injective (pos a) (negsuc b) (omega (arith, f.sfits)) (omega (arith, g.sfits)) e
same_number (negsuc a) (pos b) f g e = signed_decimal_injective (negsuc a) (pos b) (omega (arith, f.sfits)) (omega (arith, g.sfits)) e
same_number (negsuc a) (negsuc b) f g e = signed_decimal_injective (negsuc a) (negsuc b) (omega (arith, f.sfits)) (omega (arith, g.sfits)) e

pub same_datum : (k : Kind) (a b : Datum) → IsOfKind k a → IsOfKind k b → datum_text a ≡ datum_text b → a ≡ b
same_datum kinds.Int (datum.Int a) (datum.Int b) f g e = ap datum.Int (same_number a b f g e)
same_datum kinds.Int (datum.Int a) (datum.Text b) f g e = absurd g
same_datum kinds.Int (datum.Text a) b f g e = absurd f
same_datum (kinds.Text most) (datum.Int a) b f g e = absurd f
same_datum (kinds.Text most) (datum.Text a) (datum.Int b) f g e = absurd g
same_datum (kinds.Text most) (datum.Text a) (datum.Text b) f g e = ap datum.Text (same_hex a b e)

dash_spells_no_run : (most : ℕ) (m : Piece) (ms : List Piece) → most < 2 ^ 64 → IsRunWithin most m → codes "-" ≢ runs_text (m ∷ ms)
dash_spells_no_run most m ms fits small e =
    let is = is_run_word most m fits small in
    let whole : codes "-" ≡ is.value ++ (42 ∷ (is.count ++ flat_map (λ (next : Piece). codes " " ++ run_text next) ms)) =
    e ∙ ap (λ (w : List ℕ). w ++ flat_map (λ (next : Piece). codes " " ++ run_text next) ms) is.whole
    ∙ append_assoc is.value (42 ∷ is.count) (flat_map (λ (next : Piece). codes " " ++ run_text next) ms) in
    not_without 42 is.value (is.count ++ flat_map (λ (next : Piece). codes " " ++ run_text next) ms) (subst (λ (w : List ℕ). HasNoByte 42 w) whole no_star)
  where
    no_star : HasNoByte 42 (codes "-")
    no_star zero d lt = λ f. omega (arith, f)
    no_star (suc k) d lt = absurd (omega arith)

same_runs : (most : ℕ) (a b : List Piece) → most < 2 ^ 64 → AllByRecursion (IsRunWithin most) a → AllByRecursion (IsRunWithin most) b → runs_text a ≡ runs_text b → a ≡ b
same_runs most [] [] fits small_a small_b e = refl
same_runs most [] (n ∷ ns) fits small_a small_b e = absurd (dash_spells_no_run most n ns fits small_b.0 e)
same_runs most (m ∷ ms) [] fits small_a small_b e = absurd (dash_spells_no_run most m ms fits small_a.0 (sym e))
same_runs most (m ∷ []) (n ∷ []) fits small_a small_b e =
    ap (λ (x : Piece). x ∷ []) (same_run_of most m n fits small_a.0 small_b.0 (sym (append-nil (run_text m)) ∙ e ∙ append-nil (run_text n)))
same_runs most (m ∷ []) (n ∷ o ∷ ns) fits small_a small_b e =
    let whole : run_text m ≡ run_text n ++ (32 ∷ runs_text (o ∷ ns)) = sym (append-nil (run_text m)) ∙ e in
    absurd (not_without 32 (run_text n) (runs_text (o ∷ ns)) (subst (λ (w : List ℕ). HasNoByte 32 w) whole (no_blank_in most m fits small_a.0)))
same_runs most (m ∷ p ∷ ms) (n ∷ []) fits small_a small_b e =
    let whole : run_text n ≡ run_text m ++ (32 ∷ runs_text (p ∷ ms)) = sym (append-nil (run_text n)) ∙ sym e in
    absurd (not_without 32 (run_text m) (runs_text (p ∷ ms)) (subst (λ (w : List ℕ). HasNoByte 32 w) whole (no_blank_in most n fits small_b.0)))
same_runs most (m ∷ p ∷ ms) (n ∷ o ∷ ns) fits small_a small_b e =
    let parts = split_same 32 (run_text m) (run_text n) (runs_text (p ∷ ms)) (runs_text (o ∷ ns)) (no_blank_in most m fits small_a.0) (no_blank_in most n fits small_b.0) e in
    let first : m ≡ n = same_run_of most m n fits small_a.0 small_b.0 parts.0 in
    let rest : p ∷ ms ≡ o ∷ ns = same_runs most (p ∷ ms) (o ∷ ns) fits small_a.1 small_b.1 parts.1 in
    ap (λ (x : Piece). x ∷ (p ∷ ms)) first ∙ ap (λ (x : List Piece). n ∷ x) rest

pub same_list : (rows : ℕ) (a b : List ℕ) → rows < 2 ^ 64 → IsList rows a → IsList rows b → list_text a ≡ list_text b → a ≡ b
same_list rows a b fits is_a is_b e =
    sym (expanded_runs a) ∙ ap expanded (same_runs rows (runs_of a) (runs_of b) fits (small a is_a) (small b is_b) e) ∙ expanded_runs b
  where
    small : (list : List ℕ) → IsList rows list → AllByRecursion (IsRunWithin rows) (runs_of list)
    small list is = runs_are_within rows (runs_of list) (runs_fall list is.descends is.positive) (subst (λ (x : List ℕ). sum x ≤ rows) (sym (expanded_runs list)) is.within)

pub spells_no_follower : {X : Type 0} (text : X → List ℕ) (Base Follows : X → Type 0) → ((a b : X) → Base a → Base b → text a ≡ text b → a ≡ b) → (word : List ℕ) (r : Option X) (v : X)
    → Spells text Base word r → r ≡ Some v → (Follows v → ⊥) → (x : X) → Base x × Follows x → text x ≢ word
spells_no_follower text Base Follows same word r v spells is no' x (base, follows) e =
    let own : Spells text Base word (Some v) = subst (Spells text Base word) is spells in
    no' (subst Follows (same x v base own.0 (e ∙ sym own.1)) follows)

-- ---- words without blanks

hex_digit_without : (n c : ℕ) → c < 48 → hex_digit n ≢ c
hex_digit_without n c low e = at (nat_lt n 10) e
  where
    at : (b : Bool) → (if b then 48 + n else 87 + n) ≡ c → ⊥
    at true f = absurd (omega arith)
    at false f = absurd (omega arith)

pub pairs_without : (c : ℕ) → c < 48 → (bytes : List ℕ) → HasNoByte c (flat_map hex_byte bytes)
pairs_without c low [] = λ k d lt. absurd (omega arith)
pairs_without c low (b ∷ bytes) =
    front_without c (hex_digit (b / 16)) (hex_digit (b % 16) ∷ flat_map hex_byte bytes) (hex_digit_without (b / 16) c low)
    (front_without c (hex_digit (b % 16)) (flat_map hex_byte bytes) (hex_digit_without (b % 16) c low) (pairs_without c low bytes))

pub hex_text_without_blank : (bytes : List ℕ) → HasNoByte 32 (hex_text bytes)
hex_text_without_blank bytes = front_without 32 120 (flat_map hex_byte bytes) (λ e. omega (arith, e)) (pairs_without 32 (omega arith) bytes)

pub numeral_without_blank : (word : List ℕ) → IsNumeral word → HasNoByte 32 word
numeral_without_blank word is = numeral_without 32 (omega arith) word is

pub signed_without : (c : ℕ) → c < 45 → (z : ℤ) → FitsSigned w64 z → HasNoByte c (signed_decimal z)
signed_without c low (pos n) fits = let small : n < 2 ^ 63 = omega (arith, fits.sfits) in numeral_without c (omega arith) (decimal n) (numeral n (omega arith))
signed_without c low (negsuc n) fits =
    let small : n < 2 ^ 63 = omega (arith, fits.sfits) in
    front_without c 45 (decimal (suc n)) (λ e. omega (arith, e)) (numeral_without c (omega arith) (decimal (suc n)) (numeral (suc n) (omega arith)))

pub datum_without_blank : (k : Kind) (v : Datum) → IsOfKind k v → HasNoByte 32 (datum_text v)
datum_without_blank kinds.Int (datum.Int n) fits = signed_without 32 (omega arith) n fits
datum_without_blank kinds.Int (datum.Text bytes) never = absurd never
datum_without_blank (kinds.Text most) (datum.Int n) never = absurd never
datum_without_blank (kinds.Text most) (datum.Text bytes) utf8 = hex_text_without_blank bytes

hex_pairs_without_blank : (ds : List ℕ) → are_hex_pairs ds ≡ true → HasNoByte 32 ds
hex_pairs_without_blank [] are = λ k d lt. absurd (omega arith)
hex_pairs_without_blank (a ∷ []) are = absurd (cc)
hex_pairs_without_blank (a ∷ b ∷ ds) are =
    let all = and_parts (is_hex_digit a && is_hex_digit b) (are_hex_pairs ds) are in
    let two = and_parts (is_hex_digit a) (is_hex_digit b) all.0 in
    front_without 32 a (b ∷ ds) (no_blank a two.0) (front_without 32 b ds (no_blank b two.1) (hex_pairs_without_blank ds all.1))
  where
    no_blank : (c : ℕ) → is_hex_digit c ≡ true → c ≢ 32
    no_blank c is e = let no' : is_hex_digit 32 ≡ true = subst (λ (n : ℕ). is_hex_digit n ≡ true) e is in absurd (cc)

pub hex_word_without_blank : (word : List ℕ) → IsHexWord word → HasNoByte 32 word
hex_word_without_blank word (pairs, is, are) = subst (λ (w : List ℕ). HasNoByte 32 w) (sym is) (front_without 32 120 pairs (λ e. omega (arith, e)) (hex_pairs_without_blank pairs are))

pub value_without_blank : (word : List ℕ) → IsValueWord word → HasNoByte 32 word
value_without_blank word (inl (inl is)) = numeral_without_blank word is
value_without_blank word (inl (inr (digits, is, numeral', other))) =
    subst (λ (w : List ℕ). HasNoByte 32 w) (sym is) (front_without 32 45 digits (λ e. omega (arith, e)) (numeral_without_blank digits numeral'))
value_without_blank word (inr is) = hex_word_without_blank word is

-- ---- a line determines its words

-- a line with one word consists of a fixed first part, the word and the line end. So the line determines the word
pub one_word : (front word first l : List ℕ) → l ≡ front ++ first → (front ++ (word ++ codes "\n") ≡ l ++ codes "\n") ↔ (word ≡ first)
one_word front word first l whole = (to, from)
  where
    to : front ++ (word ++ codes "\n") ≡ l ++ codes "\n" → word ≡ first
    to e =
        let f : (front ++ word) ++ codes "\n" ≡ (front ++ first) ++ codes "\n" = append_assoc front word (codes "\n") ∙ e ∙ ap (λ (x : List ℕ). x ++ codes "\n") whole in
        append_cancel_left front word first (append_cancel_right (front ++ word) (front ++ first) (codes "\n") f)

    from : word ≡ first → front ++ (word ++ codes "\n") ≡ l ++ codes "\n"
    from e = sym (append_assoc front word (codes "\n")) ∙ ap (λ (x : List ℕ). (front ++ x) ++ codes "\n") e ∙ ap (λ (x : List ℕ). x ++ codes "\n") (sym whole)

-- a blank is between the two words, and the first word has no blank. So the line determines both words
pub two_words : (front a b first second l : List ℕ) → HasNoByte 32 a → HasNoByte 32 first → l ≡ front ++ (first ++ (codes " " ++ second))
    → (front ++ (a ++ (codes " " ++ (b ++ codes "\n"))) ≡ l ++ codes "\n") ↔ ((a ≡ first) × (b ≡ second))
two_words front a b first second l free_a free_first whole =
    let one = one_word front (a ++ (codes " " ++ b)) (first ++ (codes " " ++ second)) l whole in
    let same : front ++ (a ++ (codes " " ++ (b ++ codes "\n"))) ≡ front ++ ((a ++ (codes " " ++ b)) ++ codes "\n") =
    ap (λ (x : List ℕ). front ++ x) (sym (append_assoc a (codes " " ++ b) (codes "\n"))) in (
      λ e. split_same 32 a first b second free_a free_first (one.0 (sym same ∙ e)),
      λ both. same ∙ one.1 (ap (λ (x : List ℕ). x ++ (codes " " ++ b)) both.0 ∙ ap (λ (x : List ℕ). first ++ (codes " " ++ x)) both.1),
    )
