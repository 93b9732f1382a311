-- The tokens of a text lie in the text, one after the other, and the bytes of each token are valid UTF-8.
use Rattle.std.proofs.Common.{◌≡◌, ℕ, suc, ◌+◌, ◌-◌, ◌<◌, ◌≤◌, Bool, true, false, List, [], ◌∷◌, ◌++◌, length, get_or, take, drop, refl, sym, ap, ◌∙◌, subst, inl, inr, arith, append_assoc, length-append}
use Rattle.std.proofs.lemmas.Bool.{and_parts, false≢true}
use Rattle.std.proofs.lemmas.List.{take_at, drop_at, get_or_at, length_push}
use Rattle.std.proofs.lemmas.List.Elements.{All-nil, All-cons}
use Rattle.std.proofs.lemmas.Str.{IsCharBoundary-end, IsCharBoundary-before_ascii, IsCharBoundary-after_ascii, IsUtf8-take, IsUtf8-drop}
use Rattle.std.specs.List.{All, list_all}
use Rattle.std.specs.Str.{IsUtf8, IsCharBoundary}
use Rattle.sql_tokens.specs.declared.token.Token.{Token}
use Rattle.sql_tokens.specs.declared.token.TokenKind.{TokenKind}
use Rattle.sql_tokens.specs.declared.token.TokenKind.TheVariants as kind
use Rattle.sql_tokens.specs.Words.{IsTokenOf, slice}
use Rattle.sql_tokens.specs.Tokens.{is_letter, is_digit, is_word_byte, is_in_line, begins_with, IsEnclosed, IsToken, IsSeparator}
use Rattle.sql_tokens.specs.Lexing.{Leads, stay, over_separator, over_token, TokensAreInOrder, HasItsForm}
use Rattle.sql_tokens.proofs.Characters.{blank_ascii, word_byte_ascii, letter_is_word_byte, digit_ascii, sign_ascii, pair_second, line_end_ascii}
use Rattle.sql_tokens.proofs.Readings.{token_len}

-- ---- order

in_order_from_earlier : (a b end : ℕ) (tokens : List Token) → a ≤ b → TokensAreInOrder b end tokens → TokensAreInOrder a end tokens
in_order_from_earlier a b end [] le h = omega arith
in_order_from_earlier a b end (t ∷ tokens) le h = let k : b ≤ t.start = h.0 in (omega arith, h.1, h.2)

pub in_order : (at : ℕ) (text : List ℕ) (tokens : List Token) (to : ℕ) (last : List ℕ) → Leads at text tokens to last → TokensAreInOrder at to tokens
in_order at text tokens to last (stay a t) = omega arith
in_order at text tokens to last (over_separator a t bytes rest ts o la whole s l) = in_order_from_earlier at (at + length bytes) to tokens (omega arith) (in_order (at + length bytes) rest tokens to last l)
in_order at text tokens to last (over_token a t bytes rest k ts o la whole form ends l) =
    let some : 0 < length bytes = token_len k bytes form in
    (omega arith, omega arith, in_order (at + length bytes) rest ts to last l)

-- ---- bytes that end with an ASCII character

pub record EndsAscii (bytes : List ℕ) : Type 0 where
  pub init : List ℕ
  pub last : ℕ
  pub whole : bytes ≡ init ++ last ∷ []
  pub ascii : last < 128

ends_more : (b : ℕ) (bytes : List ℕ) → EndsAscii bytes → EndsAscii (b ∷ bytes)
ends_more b bytes e = record { init = b ∷ e.init; last = e.last; whole = ap (λ (x : List ℕ). b ∷ x) e.whole; ascii = e.ascii }

all_end_ascii : (p : ℕ → Bool) → ((b : ℕ) → p b ≡ true → b < 128) → (b : ℕ) (rest : List ℕ) → b < 128 → list_all p rest ≡ true → EndsAscii (b ∷ rest)
all_end_ascii p ascii b [] lt all = record { init = []; last = b; whole = refl; ascii = lt }
all_end_ascii p ascii b (c ∷ rest) lt all = let parts = and_parts (p c) (list_all p rest) all in ends_more b (c ∷ rest) (all_end_ascii p ascii c rest (ascii c parts.0) parts.1)

enclosed_ends_ascii : (q : ℕ) (bytes body : List ℕ) → q < 128 → IsEnclosed q bytes body → EndsAscii bytes
enclosed_ends_ascii q bytes body lt e = record { init = q ∷ body; last = q; whole = e.whole; ascii = lt }

token_ends_ascii : (k : TokenKind) (bytes : List ℕ) → IsToken k bytes → EndsAscii bytes
token_ends_ascii kind.Word [] form = absurd (false≢true form)
token_ends_ascii kind.Number [] form = absurd (false≢true form)
token_ends_ascii kind.Symbol [] form = absurd (false≢true form)
token_ends_ascii kind.Word (b ∷ rest) form =
    let parts = and_parts (is_letter b) (list_all is_word_byte rest) form in all_end_ascii is_word_byte word_byte_ascii b rest (word_byte_ascii b (letter_is_word_byte b parts.0)) parts.1
token_ends_ascii kind.Number (b ∷ rest) form =
    let parts = and_parts (is_digit b) (list_all is_digit rest) form in all_end_ascii is_digit digit_ascii b rest (digit_ascii b parts.0) parts.1
token_ends_ascii kind.Symbol (b ∷ []) form = record { init = []; last = b; whole = refl; ascii = sign_ascii b form }
token_ends_ascii kind.Symbol (b ∷ c ∷ []) form = record { init = b ∷ []; last = c; whole = refl; ascii = sign_ascii c (pair_second b c form) }
token_ends_ascii kind.Symbol (b ∷ c ∷ d ∷ rest) form = absurd (false≢true form)
token_ends_ascii kind.Quoted bytes form = enclosed_ends_ascii 34 bytes (form.first ∷ form.others) (omega arith) form.enclosed
token_ends_ascii kind.Text bytes form = enclosed_ends_ascii 39 bytes form.body (omega arith) form.enclosed

-- ---- the byte after a token or separator begins a character

cut_after_ascii : (text bytes rest : List ℕ) → text ≡ bytes ++ rest → IsUtf8 text → EndsAscii bytes → IsCharBoundary text (length bytes)
cut_after_ascii text bytes rest whole utf8 e =
    let n = length e.init in
    let split : text ≡ e.init ++ e.last ∷ rest = whole ∙ ap (λ (x : List ℕ). x ++ rest) e.whole ∙ append_assoc e.init (e.last ∷ []) rest in
    let here : get_or text n 0 ≡ e.last = ap (λ (x : List ℕ). get_or x n 0) split ∙ get_or_at e.init e.last rest 0 n refl in
    let len : length text ≡ n + suc (length rest) = ap length split ∙ length-append e.init (e.last ∷ rest) in
    let ascii : e.last < 128 = e.ascii in
    let ends : n + 1 ≡ length bytes = sym (ap length e.whole ∙ length_push e.init e.last) in
    subst (λ (x : ℕ). IsCharBoundary text x) ends (IsCharBoundary-after_ascii text n utf8 (omega arith) (omega arith))

cut_before_line_end : (text bytes rest : List ℕ) → text ≡ bytes ++ rest → begins_with is_in_line rest ≡ false → IsCharBoundary text (length bytes)
cut_before_line_end text bytes [] whole ends =
    let len : length text ≡ length bytes = ap length whole ∙ length-append bytes [] ∙ omega arith in
    subst (λ (x : ℕ). IsCharBoundary text x) len (IsCharBoundary-end text)
cut_before_line_end text bytes (c ∷ rest) whole ends =
    let here : get_or text (length bytes) 0 ≡ c = ap (λ (x : List ℕ). get_or x (length bytes) 0) whole ∙ get_or_at bytes c rest 0 (length bytes) refl in
    let len : length text ≡ length bytes + suc (length rest) = ap length whole ∙ length-append bytes (c ∷ rest) in
    let ascii : c < 128 = line_end_ascii c ends in
    IsCharBoundary-before_ascii text (length bytes) (omega arith) (omega arith)

cut_separator : (text bytes rest : List ℕ) → text ≡ bytes ++ rest → IsUtf8 text → IsSeparator bytes rest → IsCharBoundary text (length bytes)
cut_separator text bytes rest whole utf8 (inl s) = cut_after_ascii text bytes rest whole utf8 (record { init = []; last = s.blank; whole = s.whole; ascii = blank_ascii s.blank s.is })
cut_separator text bytes rest whole utf8 (inr s) = cut_before_line_end text bytes rest whole s.ends

rest_utf8 : (text bytes rest : List ℕ) → text ≡ bytes ++ rest → IsUtf8 text → IsCharBoundary text (length bytes) → IsUtf8 rest
rest_utf8 text bytes rest whole utf8 cut = subst (λ (x : List ℕ). IsUtf8 x) (ap (drop (length bytes)) whole ∙ drop_at bytes rest (length bytes) refl) (IsUtf8-drop text (length bytes) utf8 cut)

front_utf8 : (text bytes rest : List ℕ) → text ≡ bytes ++ rest → IsUtf8 text → IsCharBoundary text (length bytes) → IsUtf8 bytes
front_utf8 text bytes rest whole utf8 cut = subst (λ (x : List ℕ). IsUtf8 x) (ap (take (length bytes)) whole ∙ take_at bytes rest (length bytes) refl) (IsUtf8-take text (length bytes) utf8 cut)

-- ---- slices

slice_is : (all front bytes rest : List ℕ) (at : ℕ) → all ≡ front ++ (bytes ++ rest) → length front ≡ at → slice all at (at + length bytes) ≡ bytes
slice_is all front bytes rest at whole len =
    let n : (at + length bytes) - at ≡ length bytes = omega arith in
    ap (λ (k : ℕ). take k (drop at all)) n ∙ ap (take (length bytes)) (ap (drop at) whole ∙ drop_at front (bytes ++ rest) at len) ∙ take_at bytes rest (length bytes) refl

pub tokens_within : (all front : List ℕ) (at : ℕ) (text : List ℕ) (tokens : List Token) (to : ℕ) (last : List ℕ) → all ≡ front ++ text → length front ≡ at → IsUtf8 text → Leads at text tokens to last → All (IsTokenOf all) tokens
tokens_within all front at text tokens to last split place utf8 (stay a t) = All-nil (IsTokenOf all)
tokens_within all front at text tokens to last split place utf8 (over_separator a t bytes rest ts o la whole s l) =
    tokens_within all (front ++ bytes) (at + length bytes) rest tokens to last
    (split ∙ ap (λ (x : List ℕ). front ++ x) whole ∙ sym (append_assoc front bytes rest)) (omega (arith, length-append front bytes))
    (rest_utf8 text bytes rest whole utf8 (cut_separator text bytes rest whole utf8 s)) l
tokens_within all front at text tokens to last split place utf8 (over_token a t bytes rest k ts o la whole form ends l) =
    let cut : IsCharBoundary text (length bytes) = cut_after_ascii text bytes rest whole utf8 (token_ends_ascii k bytes form) in
    let here : all ≡ front ++ (bytes ++ rest) = split ∙ ap (λ (x : List ℕ). front ++ x) whole in
    let len : length all ≡ length front + (length bytes + length rest) = ap length here ∙ length-append front (bytes ++ rest) ∙ ap (λ (n : ℕ). length front + n) (length-append bytes rest) in
    let this : Token = record { kind = k; start = at; end = at + length bytes } in
    let is : IsTokenOf all this = record {
      begins = omega arith;
      within = omega arith;
      utf8 = subst (λ (x : List ℕ). IsUtf8 x) (sym (slice_is all front bytes rest at here place)) (front_utf8 text bytes rest whole utf8 cut);
    } in
    All-cons (IsTokenOf all) this ts is
    (tokens_within all (front ++ bytes) (at + length bytes) rest ts to last (here ∙ sym (append_assoc front bytes rest)) (omega (arith, length-append front bytes))
    (rest_utf8 text bytes rest whole utf8 cut) l)

pub have_forms : (all front : List ℕ) (at : ℕ) (text : List ℕ) (tokens : List Token) (to : ℕ) (last : List ℕ) → all ≡ front ++ text → length front ≡ at → Leads at text tokens to last → All (HasItsForm all) tokens
have_forms all front at text tokens to last split place (stay a t) = All-nil (HasItsForm all)
have_forms all front at text tokens to last split place (over_separator a t bytes rest ts o la whole s l) =
    have_forms all (front ++ bytes) (at + length bytes) rest tokens to last
    (split ∙ ap (λ (x : List ℕ). front ++ x) whole ∙ sym (append_assoc front bytes rest)) (omega (arith, length-append front bytes)) l
have_forms all front at text tokens to last split place (over_token a t bytes rest k ts o la whole form ends l) =
    let here : all ≡ front ++ (bytes ++ rest) = split ∙ ap (λ (x : List ℕ). front ++ x) whole in
    let this : Token = record { kind = k; start = at; end = at + length bytes } in
    All-cons (HasItsForm all) this ts (subst (λ (x : List ℕ). IsToken k x) (sym (slice_is all front bytes rest at here place)) form)
    (have_forms all (front ++ bytes) (at + length bytes) rest ts to last (here ∙ sym (append_assoc front bytes rest)) (omega (arith, length-append front bytes)) l)
