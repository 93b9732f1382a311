-- Steps of the loop of `unquote`, which turns two quotes in a row into one.
use Rattle.std.proofs.Common.{◌≡◌, ◌≢◌, ℕ, suc, ◌+◌, ◌<◌, List, [], ◌∷◌, ◌++◌, length, get_or, drop, refl, sym, subst, ap, ◌∙◌, arith, append_assoc}
use Rattle.std.proofs.lemmas.Bool.{eq-eqb, ne_eqb}
use Rattle.std.proofs.lemmas.List.{append-nil, get_or_at, length-append, drop_at, length_push}
use Rattle.std.proofs.lemmas.Str.{IsCharBoundary-after_ascii, IsUtf8-drop}
use Rattle.std.specs.Str.{IsUtf8, IsCharBoundary}
use Rattle.sql_tokens.specs.Words.{unquoted, in_upper_case, name_of_bytes, literal_of_bytes}

abbrev pub HasNoQuote : ℕ → List ℕ → Type 0
HasNoQuote q bytes = (i : ℕ) → i < length bytes → get_or bytes i 0 ≢ q

free_rest : (q b : ℕ) (rest : List ℕ) → HasNoQuote q (b ∷ rest) → HasNoQuote q rest
free_rest q b rest free i lt = free (suc i) (omega arith)

unquoted_plain : (q b : ℕ) (rest : List ℕ) → b ≢ q → unquoted q (b ∷ rest) ≡ b ∷ unquoted q rest
unquoted_plain q b [] ne = rw (ne_eqb b q ne) refl
unquoted_plain q b (c ∷ rest) ne = rw (ne_eqb b q ne) refl

unquoted_front : (q : ℕ) (before rest : List ℕ) → HasNoQuote q before → unquoted q (before ++ rest) ≡ before ++ unquoted q rest
unquoted_front q [] rest free = refl
unquoted_front q (b ∷ before) rest free = unquoted_plain q b (before ++ rest) (free 0 (omega arith)) ∙ ap (λ (x : List ℕ). b ∷ x) (unquoted_front q before rest (free_rest q b before free))

unquoted_without_quotes : (q : ℕ) (bytes : List ℕ) → HasNoQuote q bytes → unquoted q bytes ≡ bytes
unquoted_without_quotes q [] free = refl
unquoted_without_quotes q (b ∷ bytes) free = unquoted_plain q b bytes (free 0 (omega arith)) ∙ ap (λ (x : List ℕ). b ∷ x) (unquoted_without_quotes q bytes (free_rest q b bytes free))

unquoted_pair : (q : ℕ) (rest : List ℕ) → unquoted q (q ∷ q ∷ rest) ≡ q ∷ unquoted q rest
unquoted_pair q rest = rw (eq-eqb q q refl) refl

unquoted_closed : (q : ℕ) (after : List ℕ) → ((more : List ℕ) → after ≢ q ∷ more) → unquoted q (q ∷ after) ≡ []
unquoted_closed q [] ends = rw (eq-eqb q q refl) refl
unquoted_closed q (c ∷ after) ends = rw (eq-eqb q q refl, ne_eqb c q (λ e. ends after (ap (λ (x : ℕ). x ∷ after) e))) refl

module _ (q : ℕ) (found rest total : List ℕ) where
  pub unquoted_step : (before after more : List ℕ) → found ++ unquoted q rest ≡ total → rest ≡ before ++ q ∷ after → HasNoQuote q before → after ≡ q ∷ more → ((found ++ before) ++ q ∷ []) ++ unquoted q more ≡ total
  unquoted_step before after more so_far split free pair =
      let e : unquoted q rest ≡ before ++ q ∷ unquoted q more =
      ap (unquoted q) split ∙ unquoted_front q before (q ∷ after) free ∙ ap (λ (x : List ℕ). before ++ unquoted q (q ∷ x)) pair ∙ ap (λ (x : List ℕ). before ++ x) (unquoted_pair q more) in
      append_assoc (found ++ before) (q ∷ []) (unquoted q more) ∙ append_assoc found before (q ∷ unquoted q more) ∙ ap (λ (x : List ℕ). found ++ x) (sym e) ∙ so_far

  pub unquoted_end : (before after : List ℕ) → found ++ unquoted q rest ≡ total → rest ≡ before ++ q ∷ after → HasNoQuote q before → ((more : List ℕ) → after ≢ q ∷ more) → found ++ before ≡ total
  unquoted_end before after so_far split free ends =
      let e : unquoted q rest ≡ before ++ [] = ap (unquoted q) split ∙ unquoted_front q before (q ∷ after) free ∙ ap (λ (x : List ℕ). before ++ x) (unquoted_closed q after ends) in
      ap (λ (x : List ℕ). found ++ x) (sym (append-nil before) ∙ sym e) ∙ so_far

  pub unquoted_whole : found ++ unquoted q rest ≡ total → HasNoQuote q rest → found ++ rest ≡ total
  unquoted_whole so_far free = ap (λ (x : List ℕ). found ++ x) (sym (unquoted_without_quotes q rest free)) ∙ so_far

pub name_of_word : (bytes : List ℕ) → ((rest : List ℕ) → bytes ≢ 34 ∷ rest) → in_upper_case bytes ≡ name_of_bytes bytes
name_of_word [] other = refl
name_of_word (b ∷ rest) other = rw (ne_eqb b 34 (λ e. other rest (ap (λ (x : ℕ). x ∷ rest) e))) refl

pub literal_of_plain : (bytes : List ℕ) → ((rest : List ℕ) → bytes ≢ 39 ∷ rest) → bytes ≡ literal_of_bytes bytes
literal_of_plain [] other = refl
literal_of_plain (b ∷ rest) other = rw (ne_eqb b 39 (λ e. other rest (ap (λ (x : ℕ). x ∷ rest) e))) refl

pub rest_utf8 : (q : ℕ) (before after more rest : List ℕ) → rest ≡ before ++ q ∷ after → after ≡ q ∷ more → q < 128 → IsUtf8 rest → IsUtf8 more
rest_utf8 q before after more rest split pair ascii utf8 =
    let whole : rest ≡ (before ++ q ∷ []) ++ q ∷ more = split ∙ ap (λ (x : List ℕ). before ++ q ∷ x) pair ∙ sym (append_assoc before (q ∷ []) (q ∷ more)) in
    let n = length (before ++ q ∷ []) in
    let here : get_or rest n 0 ≡ q = ap (λ (x : List ℕ). get_or x n 0) whole ∙ get_or_at (before ++ q ∷ []) q more 0 n refl in
    let len : length rest ≡ n + suc (length more) = ap length whole ∙ length-append (before ++ q ∷ []) (q ∷ more) in
    let cut : IsCharBoundary rest (n + 1) = IsCharBoundary-after_ascii rest n utf8 (omega arith) (omega arith) in
    let left : drop (n + 1) rest ≡ more =
    ap (drop (n + 1)) (whole ∙ sym (append_assoc (before ++ q ∷ []) (q ∷ []) more)) ∙ drop_at ((before ++ q ∷ []) ++ q ∷ []) more (n + 1) (length_push (before ++ q ∷ []) q) in
    subst (λ (x : List ℕ). IsUtf8 x) left (IsUtf8-drop rest (n + 1) utf8 cut)
