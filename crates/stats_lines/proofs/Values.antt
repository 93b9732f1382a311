-- The tests of values tell whether they keep the rules, and the searches find the value that a word spells.
use Rattle.std.proofs.Common.{◌≡◌, ◌⊎◌, inl, inr, ℕ, zero, suc, ◌+◌, ◌^◌, ◌<◌, ◌≤◌, true, List, [], ◌∷◌, length, ap, arith, Option}
use Rattle.std.specs.Prelude.{◌&&◌, All, sum, ℤ, pos, negsuc, IsUtf8, decimal}
use Rattle.std.specs.List.{flat_map}
use Rattle.std.specs.Str.{is_utf8}
use Rattle.std.proofs.lemmas.List.Sums.{sum_by-cons}
use Rattle.std.proofs.lemmas.Str.{IsUtf8-from_is_utf8, is_utf8-from_IsUtf8}
use Rattle.degree_sequences.specs.Descending.{IsDescending}
use Rattle.schema_types.specs.declared.types.Kind.{Kind}
use Rattle.schema_types.specs.declared.types.Kind.TheVariants as kinds
use Rattle.stats_file.specs.declared.types.Datum.{Datum}
use Rattle.stats_file.specs.declared.types.Datum.TheVariants as datum
use Rattle.stats_file.specs.Lines.{datum_text, hex_byte, hex_text}
use Rattle.stats_file.specs.Rules.{IsList, IsOfKind}
use Rattle.stats_words.specs.Runs.{list_text}
use Rattle.stats_words.proofs.TextFacts.{utf8_bytes}
use Rattle.stats_lines.specs.Searches.{when, first_below, same_numbers}
use Rattle.stats_lines.specs.NextValues.{datum_of_word, is_descending, is_list, is_same_datum, list_of_word, number_of_word}
use Rattle.stats_lines.proofs.Deciding.{tells_all, tells_alike, tells_and, tells_at_most, tells_equal, tells_less, tells_same_numbers, tells_true, finds_alike, finds_below, finds_list, finds_or, finds_when, Finds, IsWithinLimits, SomeBelow, SomeList, Tells}

-- ---- a value that a word spells, and what this value gives

pub record Spelled {V W X : Type 0} (text : V → W) (MayStand : V → Type 0) (Gives : V → X → Type 0) (word : W) (x : X) : Type 0 where
  pub value : V
  pub may : MayStand value
  pub spells : text value ≡ word
  pub gives : Gives value x

-- ---- numbers

pub number : {X : Type 0} {at : ℕ → Option X} {R : ℕ → X → Type 0} → ((n : ℕ) → Finds (at n) (R n)) → (most : ℕ) (word : List ℕ)
    → Finds (number_of_word at most word) (Spelled decimal (λ n. n ≤ most) R word)
number {X = X} {at = at} {R = R} one most word =
    finds_alike to from
    (finds_below {at = λ n. when (same_numbers (decimal n) word) (at n)} {R = λ n x. (decimal n ≡ word) × R n x} (λ n. finds_when (tells_same_numbers (decimal n) word) (one n)) (most + 1))
  where
    to : (x : X) → SomeBelow (λ n x. (decimal n ≡ word) × R n x) (most + 1) x → Spelled decimal (λ n. n ≤ most) R word x
    to x h = let lt = h.below in record { value = h.n; may = omega arith; spells = h.holds.0; gives = h.holds.1 }

    from : (x : X) → Spelled decimal (λ n. n ≤ most) R word x → SomeBelow (λ n x. (decimal n ≡ word) × R n x) (most + 1) x
    from x h = let le : h.value ≤ most = h.may in record { n = h.value; below = omega arith; holds = (h.spells, h.gives) }

-- ---- lists

descending : (list : List ℕ) → Tells (is_descending list) (IsDescending list)
descending [] = record { yes = λ e r. omega arith; no = λ e h. cc }
descending (x ∷ []) = record { yes = at; no = λ e h. cc }
  where
    at : true ≡ true → IsDescending (x ∷ [])
    at e zero = omega arith
    at e (suc r) = omega arith
descending (x ∷ y ∷ list) = tells_alike to from (tells_and (tells_at_most y x) (descending (y ∷ list)))
  where
    to : (y ≤ x) × IsDescending (y ∷ list) → IsDescending (x ∷ y ∷ list)
    to h zero = h.0
    to h (suc r) = h.1 r

    from : IsDescending (x ∷ y ∷ list) → (y ≤ x) × IsDescending (y ∷ list)
    from h = (h 0, λ r. h (suc r))

pub tells_list : (rows : ℕ) (list : List ℕ) → Tells (is_list rows list) (IsList rows list)
tells_list rows list =
    tells_alike (λ h. record { descends = h.0.0; positive = h.0.1; within = h.1 }) (λ h. ((h.descends, h.positive), h.within))
    (tells_and (tells_and (descending list) (tells_all {P = λ x. 0 < x} (λ x. tells_less 0 x) list)) (tells_at_most (sum list) rows))

list_within_limits : (rows most : ℕ) (list : List ℕ) → rows < most → All (λ x. 0 < x) list → sum list ≤ rows → IsWithinLimits rows most list
list_within_limits rows most [] lt positive within = record { within_limit = omega arith; small = tt }
list_within_limits rows most (x ∷ list) lt positive within =
    let first : 0 < x = positive 0 0 (omega arith) in
    let total = sum_by-cons (λ (y : ℕ). y) x list in
    let rest = list_within_limits (sum list) most list (omega arith) (λ k d h. positive (suc k) d (omega arith)) (omega arith) in
    let within_limit : length list ≤ sum list = rest.within_limit in
    record { within_limit = omega arith; small = (omega arith, rest.small) }

pub list : {X : Type 0} {at : List ℕ → Option X} {R : List ℕ → X → Type 0} → ((l : List ℕ) → Finds (at l) (R l)) → (rows : ℕ) (word : List ℕ)
    → Finds (list_of_word at rows word) (Spelled list_text (IsList rows) R word)
list {X = X} {at = at} {R = R} one rows word =
    finds_alike to from
    (finds_list {at = λ l. when (is_list rows l && same_numbers (list_text l) word) (at l)} {R = Holds}
    (λ l. finds_when (tells_and (tells_list rows l) (tells_same_numbers (list_text l) word)) (one l)) rows (rows + 1))
  where
    Holds : List ℕ → X → Type 0
    Holds l x = (IsList rows l × (list_text l ≡ word)) × R l x

    to : (x : X) → SomeList Holds rows (rows + 1) x → Spelled list_text (IsList rows) R word x
    to x h = record { value = h.list; may = h.holds.0.0; spells = h.holds.0.1; gives = h.holds.1 }

    from : (x : X) → Spelled list_text (IsList rows) R word x → SomeList Holds rows (rows + 1) x
    from x h = record {
      list = h.value;
      within = list_within_limits rows (rows + 1) h.value (omega arith) h.may.positive h.may.within;
      holds = ((h.may, h.spells), h.gives);
    }

-- ---- values of columns

tells_text : (bytes : List ℕ) → Tells (is_utf8 bytes) (IsUtf8 bytes)
tells_text bytes = tells_alike (IsUtf8-from_is_utf8 bytes) (is_utf8-from_IsUtf8 bytes) (tells_true (is_utf8 bytes))

pub same_datum : (a b : Datum) → Tells (is_same_datum a b) (a ≡ b)
same_datum (datum.Int (pos a)) (datum.Int (pos b)) = tells_alike (λ e. ap (λ n. datum.Int (pos n)) e) (λ e. cc) (tells_equal a b)
same_datum (datum.Int (pos a)) (datum.Int (negsuc b)) = record { yes = λ e. absurd (cc); no = λ e h. cc }
same_datum (datum.Int (negsuc a)) (datum.Int (pos b)) = record { yes = λ e. absurd (cc); no = λ e h. cc }
same_datum (datum.Int (negsuc a)) (datum.Int (negsuc b)) = tells_alike (λ e. ap (λ n. datum.Int (negsuc n)) e) (λ e. cc) (tells_equal a b)
same_datum (datum.Int a) (datum.Text b) = record { yes = λ e. absurd (cc); no = λ e h. cc }
same_datum (datum.Text a) (datum.Int b) = record { yes = λ e. absurd (cc); no = λ e h. cc }
same_datum (datum.Text a) (datum.Text b) = tells_alike (λ e. ap datum.Text e) (λ e. cc) (tells_same_numbers a b)

hex_len : (bytes : List ℕ) → length bytes ≤ length (flat_map hex_byte bytes)
hex_len [] = omega arith
hex_len (b ∷ bytes) = let rest = hex_len bytes in omega arith

module _ {X : Type 0} {at : Datum → Option X} {R : Datum → X → Type 0} (one : (v : Datum) → Finds (at v) (R v)) (word : List ℕ) where
  abbrev IsWord : (ℕ → ℤ) → ℕ → X → Type 0
  IsWord make n x = (datum_text (datum.Int (make n)) ≡ word) × R (datum.Int (make n)) x

  abbrev OfKind : Kind → X → Type 0
  OfKind kind x = Spelled datum_text (IsOfKind kind) R word x

  one_of : (make : ℕ → ℤ)
      → Finds (first_below (λ n. when (same_numbers (datum_text (datum.Int (make n))) word) (at (datum.Int (make n)))) (2 ^ 63)) (SomeBelow (IsWord make) (2 ^ 63))
  one_of make =
      finds_below {at = λ n. when (same_numbers (datum_text (datum.Int (make n))) word) (at (datum.Int (make n)))} {R = IsWord make}
      (λ n. finds_when (tells_same_numbers (datum_text (datum.Int (make n))) word) (one (datum.Int (make n)))) (2 ^ 63)

  number_of : Finds (datum_of_word at kinds.Int word) (OfKind kinds.Int)
  number_of = finds_alike to (λ x h. from x h.value h.may h.spells h.gives) (finds_or (one_of pos) (one_of negsuc))
    where
      to : (x : X) → SomeBelow (IsWord pos) (2 ^ 63) x ⊎ SomeBelow (IsWord negsuc) (2 ^ 63) x → OfKind kinds.Int x
      to x (inl h) = record { value = datum.Int (pos h.n); may = record { sfits = h.below }; spells = h.holds.0; gives = h.holds.1 }
      to x (inr h) = record { value = datum.Int (negsuc h.n); may = record { sfits = h.below }; spells = h.holds.0; gives = h.holds.1 }

      from : (x : X) (v : Datum) → IsOfKind kinds.Int v → datum_text v ≡ word → R v x → SomeBelow (IsWord pos) (2 ^ 63) x ⊎ SomeBelow (IsWord negsuc) (2 ^ 63) x
      from x (datum.Int (pos n)) is e r = inl (record { n = n; below = is.sfits; holds = (e, r) })
      from x (datum.Int (negsuc n)) is e r = inr (record { n = n; below = is.sfits; holds = (e, r) })
      from x (datum.Text bytes) is e r = absurd is

  text_of : (most : ℕ) → Finds (datum_of_word at (kinds.Text most) word) (OfKind (kinds.Text most))
  text_of most =
      finds_alike to (λ x h. from x h.value h.may h.spells h.gives)
      (finds_list {at = λ bytes. when (is_utf8 bytes && same_numbers (hex_text bytes) word) (at (datum.Text bytes))} {R = Holds}
      (λ bytes. finds_when (tells_and (tells_text bytes) (tells_same_numbers (hex_text bytes) word)) (one (datum.Text bytes))) (length word) 256)
    where
      Holds : List ℕ → X → Type 0
      Holds bytes x = (IsUtf8 bytes × (hex_text bytes ≡ word)) × R (datum.Text bytes) x

      to : (x : X) → SomeList Holds (length word) 256 x → OfKind (kinds.Text most) x
      to x h = record { value = datum.Text h.list; may = h.holds.0.0; spells = h.holds.0.1; gives = h.holds.1 }

      from : (x : X) (v : Datum) → IsOfKind (kinds.Text most) v → datum_text v ≡ word → R v x → SomeList Holds (length word) 256 x
      from x (datum.Int z) is e r = absurd is
      from x (datum.Text bytes) is e r =
          let len = hex_len bytes in
          let whole : suc (length (flat_map hex_byte bytes)) ≡ length word = ap length e in
          record { list = bytes; within = record { within_limit = omega arith; small = utf8_bytes bytes is }; holds = ((is, e), r) }

  pub value : (kind : Kind) → Finds (datum_of_word at kind word) (OfKind kind)
  value kinds.Int = number_of
  value (kinds.Text most) = text_of most
