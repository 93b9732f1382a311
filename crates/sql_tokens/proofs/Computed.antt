-- If a text begins with a separator, a token or an error, as `Lexing` defines them, `piece` computes it.
use Rattle.std.proofs.Common.{◌≡◌, ◌≢◌, ℕ, suc, ◌+◌, ◌<◌, ◌≤◌, true, false, ◌&&◌, ◌||◌, eqb, List, [], ◌∷◌, ◌++◌, length, Option, Some, None, refl, sym, ap, ◌∙◌, inl, inr, ⊎_elim, arith, append_assoc, length-append}
use Rattle.std.proofs.lemmas.Bool.{and_parts, and_left, or_parts, or_cases, eqb-true, ne_eqb, le-ltb, lt-ltb, false≢true}
use Rattle.std.specs.Prelude.{slice_index}
use Rattle.std.specs.List.{prefix_len, list_all}
use Rattle.std.proofs.Math.Bool.{and-false}
use Rattle.sql_tokens.specs.declared.token.TokenKind.{TokenKind}
use Rattle.sql_tokens.specs.declared.token.TokenKind.TheVariants as kind
use Rattle.sql_tokens.specs.declared.pieces.TextPiece.TheVariants as piece_
use Rattle.sql_tokens.specs.Tokens.{is_blank, is_letter, is_digit, is_word_byte, is_in_line, is_not_control, is_one_byte_symbol, is_two_byte_symbol, is_quote, begins_some, begins_with, IsEnclosed, IsIdentifier, IsLiteral, IsToken, goes_on, IsSeparator}
use Rattle.sql_tokens.specs.Lexing.{Closes, IsOffence, HasControlByte}
use Rattle.sql_tokens.specs.Pieces.{closing_length, identifier_to, identifier, literal_to, literal, symbol, piece}
use Rattle.sql_tokens.proofs.Characters.{letter_no_blank, digit_no_blank, digit_no_letter, sign_no_blank, sign_no_letter, sign_no_digit, sign_no_double, sign_no_single, pair_first, pair_no_minus, pair_zero, other_no_minus, other_no_pair}
use Rattle.sql_tokens.proofs.RunFacts.{run_len, prefix_all}
use Rattle.sql_tokens.proofs.Quoting.{closes_complete, closes_at_once, closed_seen}

-- ---- separators

blank_piece : (b : ℕ) (rest : List ℕ) → is_blank b ≡ true → piece (b ∷ rest) ≡ piece_.Separator 1
unfolding piece
blank_piece b rest e = rw e refl

comment_piece : (line rest : List ℕ) → list_all is_in_line line ≡ true → begins_with is_in_line rest ≡ false → piece (45 ∷ 45 ∷ line ++ rest) ≡ piece_.Separator (suc (suc (length line)))
unfolding piece
comment_piece line rest inside ends = ap (λ (n : ℕ). piece_.Separator n) (let l : prefix_len is_in_line (line ++ rest) ≡ length line = run_len is_in_line line rest (line ++ rest) refl inside ends in omega arith)

pub gap_piece : (text bytes rest : List ℕ) → text ≡ bytes ++ rest → IsSeparator bytes rest → piece text ≡ piece_.Separator (length bytes)
gap_piece text bytes rest whole (inl s) =
    ap piece (whole ∙ ap (λ (x : List ℕ). x ++ rest) s.whole) ∙ blank_piece s.blank rest s.is ∙ ap (λ (x : List ℕ). piece_.Separator (length x)) (sym s.whole)
gap_piece text bytes rest whole (inr s) =
    ap piece (whole ∙ ap (λ (x : List ℕ). x ++ rest) s.whole) ∙ comment_piece s.line rest s.inside s.ends ∙ ap (λ (x : List ℕ). piece_.Separator (length x)) (sym s.whole)

-- ---- words and numbers

word_piece : (b : ℕ) (front rest : List ℕ) → is_letter b ≡ true → list_all is_word_byte front ≡ true → begins_with is_word_byte rest ≡ false → piece (b ∷ front ++ rest) ≡ piece_.Token kind.Word (suc (length front))
unfolding piece
word_piece b front rest e all ends =
    let no = letter_no_blank b e in
    let l : prefix_len is_word_byte (front ++ rest) ≡ length front = run_len is_word_byte front rest (front ++ rest) refl all ends in
    rw (no, e) (ap (λ (n : ℕ). piece_.Token kind.Word n) (omega arith))

number_piece : (b : ℕ) (front rest : List ℕ) → is_digit b ≡ true → list_all is_digit front ≡ true → begins_with is_digit rest ≡ false → piece (b ∷ front ++ rest) ≡ piece_.Token kind.Number (suc (length front))
unfolding piece
number_piece b front rest e all ends =
    let no = digit_no_blank b e in
    let no_letter = digit_no_letter b e in
    let l : prefix_len is_digit (front ++ rest) ≡ length front = run_len is_digit front rest (front ++ rest) refl all ends in
    rw (no, no_letter, e) (ap (λ (n : ℕ). piece_.Token kind.Number n) (omega arith))

-- ---- quotes

literal_is : (rest body more : List ℕ) → Closes 39 rest body more → literal rest ≡ piece_.Token kind.Text (length body + 1 + 1)
unfolding literal
literal_is rest body more c = ap literal_to (closes_complete 39 rest body more c)

literal_piece : (rest : List ℕ) → piece (39 ∷ rest) ≡ literal rest
unfolding piece
literal_piece rest = refl

identifier_piece : (rest : List ℕ) → piece (34 ∷ rest) ≡ identifier rest
unfolding piece
identifier_piece rest = refl

identifier_is : (rest body more : List ℕ) → Closes 34 rest body more → identifier rest ≡ identifier_to (Some (length body + 1)) rest
unfolding identifier
identifier_is rest body more c = ap (λ (o : Option ℕ). identifier_to o rest) (closes_complete 34 rest body more c)

identifier_good : (rest : List ℕ) (n : ℕ) → n ≢ 1 → n ≤ prefix_len is_not_control rest → identifier_to (Some n) rest ≡ piece_.Token kind.Quoted (n + 1)
identifier_good rest n some le = let a = ne_eqb n 1 some in let b = le-ltb (prefix_len is_not_control rest) n le in rw (a, b) refl

identifier_bad : (rest : List ℕ) (n : ℕ) → n ≢ 1 → prefix_len is_not_control rest < n → identifier_to (Some n) rest ≡ piece_.Wrong (prefix_len is_not_control rest + 1)
identifier_bad rest n some lt = let a = ne_eqb n 1 some in let b = lt-ltb (prefix_len is_not_control rest) n lt in rw (a, b) refl

-- ---- signs

sign_piece : (b : ℕ) (rest : List ℕ) → is_one_byte_symbol b ≡ true → is_two_byte_symbol b (slice_index rest 0) ≡ false → (eqb b 45 && eqb (slice_index rest 0) 45) ≡ false → piece (b ∷ rest) ≡ piece_.Token kind.Symbol 1
unfolding piece symbol
sign_piece b rest e f g =
    let h = sign_no_blank b e in let i = sign_no_letter b e in let j = sign_no_digit b e in let k = sign_no_double b e in let l = sign_no_single b e in
    rw (h, i, j, k, l, g, f, e) refl

pair_piece : (b c : ℕ) (rest : List ℕ) → is_two_byte_symbol b c ≡ true → piece (b ∷ c ∷ rest) ≡ piece_.Token kind.Symbol 2
unfolding piece symbol
pair_piece b c rest f =
    let e = pair_first b c f in
    let h = sign_no_blank b e in let i = sign_no_letter b e in let j = sign_no_digit b e in let k = sign_no_double b e in let l = sign_no_single b e in
    let g = and_left (eqb b 45) (eqb c 45) (pair_no_minus b c f) in
    rw (h, i, j, k, l, g, f) refl

-- ---- tokens

pub enclosed_rest : (q : ℕ) (bytes body rest : List ℕ) → IsEnclosed q bytes body → bytes ++ rest ≡ q ∷ (body ++ q ∷ rest)
enclosed_rest q bytes body rest e = ap (λ (x : List ℕ). x ++ rest) e.whole ∙ ap (λ (x : List ℕ). q ∷ x) (append_assoc body (q ∷ []) rest)

pub enclosed_len : (q : ℕ) (bytes body : List ℕ) → IsEnclosed q bytes body → length body + 1 + 1 ≡ length bytes
enclosed_len q bytes body e = let l : length bytes ≡ suc (length (body ++ q ∷ [])) = ap length e.whole in omega (arith, length-append body (q ∷ []))

quoted_piece : (bytes rest : List ℕ) → IsIdentifier bytes → begins_with (λ b. eqb b 34) rest ≡ false → piece (bytes ++ rest) ≡ piece_.Token kind.Quoted (length bytes)
quoted_piece bytes rest f ends =
    let body : List ℕ = f.first ∷ f.others in
    let inside : List ℕ = body ++ 34 ∷ rest in
    let c : Closes 34 inside body rest = record { whole = refl; doubled = f.enclosed.doubled; ends = ends } in
    let l : prefix_len is_not_control inside ≡ length body + prefix_len is_not_control (34 ∷ rest) = prefix_all is_not_control body (34 ∷ rest) f.plain in
    ap piece (enclosed_rest 34 bytes body rest f.enclosed) ∙ identifier_piece inside ∙ identifier_is inside body rest c
    ∙ identifier_good inside (length body + 1) (λ e. absurd (omega arith)) (omega arith) ∙ ap (λ (n : ℕ). piece_.Token kind.Quoted n) (enclosed_len 34 bytes body f.enclosed)

text_piece : (bytes rest : List ℕ) → IsLiteral bytes → begins_with (λ b. eqb b 39) rest ≡ false → piece (bytes ++ rest) ≡ piece_.Token kind.Text (length bytes)
text_piece bytes rest f ends =
    let inside : List ℕ = f.body ++ 39 ∷ rest in
    let c : Closes 39 inside f.body rest = record { whole = refl; doubled = f.enclosed.doubled; ends = ends } in
    ap piece (enclosed_rest 39 bytes f.body rest f.enclosed) ∙ literal_piece inside ∙ literal_is inside f.body rest c ∙ ap (λ (n : ℕ). piece_.Token kind.Text n) (enclosed_len 39 bytes f.body f.enclosed)

token_front : (k : TokenKind) (bytes rest : List ℕ) → IsToken k bytes → goes_on k bytes rest ≡ false → piece (bytes ++ rest) ≡ piece_.Token k (length bytes)
token_front kind.Word [] rest form ends = absurd (false≢true form)
token_front kind.Word (b ∷ front) rest form ends = let parts = and_parts (is_letter b) (list_all is_word_byte front) form in word_piece b front rest parts.0 parts.1 ends
token_front kind.Number [] rest form ends = absurd (false≢true form)
token_front kind.Number (b ∷ front) rest form ends = let parts = and_parts (is_digit b) (list_all is_digit front) form in number_piece b front rest parts.0 parts.1 ends
token_front kind.Quoted bytes rest form ends = quoted_piece bytes rest form ends
token_front kind.Text bytes rest form ends = text_piece bytes rest form ends
token_front kind.Symbol [] rest form ends = absurd (false≢true form)
token_front kind.Symbol (b ∷ []) [] form ends = sign_piece b [] form (pair_zero b) (and-false (eqb b 45))
token_front kind.Symbol (b ∷ []) (c ∷ rest) form ends = let parts = or_parts (is_two_byte_symbol b c) (eqb b 45 && eqb c 45) ends in sign_piece b (c ∷ rest) form parts.0 parts.1
token_front kind.Symbol (b ∷ c ∷ []) rest form ends = pair_piece b c rest form
token_front kind.Symbol (b ∷ c ∷ d ∷ more) rest form ends = absurd (false≢true form)

pub token_piece : (k : TokenKind) (text bytes rest : List ℕ) → text ≡ bytes ++ rest → IsToken k bytes → goes_on k bytes rest ≡ false → piece text ≡ piece_.Token k (length bytes)
token_piece k text bytes rest whole form ends = ap piece whole ∙ token_front k bytes rest form ends

-- ---- errors

none_piece : (b : ℕ) (rest : List ℕ) → begins_some b ≡ false → piece (b ∷ rest) ≡ piece_.Wrong 0
unfolding piece symbol
none_piece b rest none =
    let p = or_parts (is_blank b || is_letter b || is_digit b || is_quote b) (is_one_byte_symbol b) none in
    let q = or_parts (is_blank b || is_letter b || is_digit b) (is_quote b) p.0 in
    let r = or_parts (is_blank b || is_letter b) (is_digit b) q.0 in
    let s = or_parts (is_blank b) (is_letter b) r.0 in
    let t = or_parts (eqb b 34) (eqb b 39) q.1 in
    let minus = and_left (eqb b 45) (eqb (slice_index rest 0) 45) (other_no_minus b p.1) in
    let pair = other_no_pair b (slice_index rest 0) p.1 in
    let blank = s.0 in let letter = s.1 in let digit = r.1 in let double = t.0 in let unquoted = t.1 in let sign = p.1 in
    rw (blank, letter, digit, double, unquoted, minus, pair, sign) refl

never_none : (q : ℕ) (rest : List ℕ) → ((body more : List ℕ) → Closes q rest body more → ⊥) → closing_length q rest ≡ None
never_none q rest never = at (closing_length q rest) refl where
  at : (o : Option ℕ) → closing_length q rest ≡ o → closing_length q rest ≡ None
  at None e = e
  at (Some n) e = let c = closed_seen q rest n e in absurd (never c.body c.more c.closes)

open_identifier : (rest : List ℕ) → closing_length 34 rest ≡ None → piece (34 ∷ rest) ≡ piece_.Wrong 0
unfolding piece identifier
open_identifier rest e = ap (λ (o : Option ℕ). identifier_to o rest) e

open_literal : (rest : List ℕ) → closing_length 39 rest ≡ None → piece (39 ∷ rest) ≡ piece_.Wrong 0
unfolding piece literal
open_literal rest e = ap literal_to e

unclosed_piece : (q : ℕ) (rest : List ℕ) → is_quote q ≡ true → ((body more : List ℕ) → Closes q rest body more → ⊥) → piece (q ∷ rest) ≡ piece_.Wrong 0
unclosed_piece q rest is never =
    let none : closing_length q rest ≡ None = never_none q rest never in
    ⊎_elim
    (λ (e : eqb q 34 ≡ true). (let f : q ≡ 34 = eqb-true q 34 e in ap (λ (x : ℕ). piece (x ∷ rest)) f ∙ open_identifier rest (ap (λ (x : ℕ). closing_length x rest) (sym f) ∙ none)))
    (λ (e : eqb q 39 ≡ true). (let f : q ≡ 39 = eqb-true q 39 e in ap (λ (x : ℕ). piece (x ∷ rest)) f ∙ open_literal rest (ap (λ (x : ℕ). closing_length x rest) (sym f) ∙ none)))
    (or_cases (eqb q 34) (eqb q 39) is)

empty_piece : (more : List ℕ) → begins_with (λ b. eqb b 34) more ≡ false → piece (34 ∷ 34 ∷ more) ≡ piece_.Wrong 0
unfolding piece identifier
empty_piece more ends = ap (λ (o : Option ℕ). identifier_to o (34 ∷ more)) (closes_at_once 34 more ends)

control_piece : (text : List ℕ) (offset : ℕ) (h : HasControlByte text offset) → piece text ≡ piece_.Wrong offset
control_piece text offset h =
    let body : List ℕ = h.front ++ h.control ∷ h.others in
    let l : prefix_len is_not_control h.rest ≡ length h.front =
    run_len is_not_control h.front ((h.control ∷ h.others) ++ 34 ∷ h.more) h.rest (h.closes.whole ∙ append_assoc h.front (h.control ∷ h.others) (34 ∷ h.more)) h.plain h.is in
    let n : length body ≡ length h.front + suc (length h.others) = length-append h.front (h.control ∷ h.others) in
    let o : offset ≡ 1 + length h.front = h.here in
    ap piece h.whole ∙ identifier_piece h.rest ∙ identifier_is h.rest body h.more h.closes
    ∙ identifier_bad h.rest (length body + 1) (λ e. absurd (omega arith)) (omega arith) ∙ ap (λ (m : ℕ). piece_.Wrong m) (omega arith)

pub offence_piece : (text : List ℕ) (offset : ℕ) → IsOffence text offset → piece text ≡ piece_.Wrong offset
offence_piece text offset (inl h) = ap piece h.whole ∙ none_piece h.first h.rest h.none ∙ ap (λ (m : ℕ). piece_.Wrong m) (sym h.here)
offence_piece text offset (inr (inl h)) = ap piece h.whole ∙ unclosed_piece h.quote h.rest h.is h.never ∙ ap (λ (m : ℕ). piece_.Wrong m) (sym h.here)
offence_piece text offset (inr (inr (inl h))) = ap piece h.whole ∙ empty_piece h.more h.ends ∙ ap (λ (m : ℕ). piece_.Wrong m) (sym h.here)
offence_piece text offset (inr (inr (inr h))) = control_piece text offset h
