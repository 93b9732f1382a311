-- The walk over pieces (`tokens_at`) agrees with the relation (`Leads`, to the end or to an error).
use Rattle.std.proofs.Common.{◌≡◌, ℕ, zero, suc, ◌+◌, ◌<◌, ◌≤◌, false, List, [], ◌∷◌, ◌++◌, length, drop, Ok, Err, refl, sym, ap, ◌∙◌, subst, inl, inr, arith, length-append, length-drop}
use Rattle.std.proofs.lemmas.Bool.{false≢true}
use Rattle.std.proofs.lemmas.List.{drop_at, append-nil}
use Rattle.sql_tokens.specs.declared.token.Token.{Token}
use Rattle.sql_tokens.specs.declared.token.TokenKind.{TokenKind}
use Rattle.sql_tokens.specs.declared.token.TokenKind.TheVariants as kind
use Rattle.sql_tokens.specs.declared.pieces.TextPiece.{TextPiece}
use Rattle.sql_tokens.specs.declared.pieces.TextPiece.TheVariants as piece_
use Rattle.sql_tokens.specs.Tokens.{IsToken, goes_on, IsSeparator}
use Rattle.sql_tokens.specs.Lexing.{Leads, stay, over_separator, over_token, IsOffence, IsOffenceAt}
use Rattle.sql_tokens.specs.Pieces.{piece, Walked, with_first, step, tokens_at, with_front}
use Rattle.sql_tokens.proofs.Fronts.{Sees, sees_piece}
use Rattle.sql_tokens.proofs.Computed.{gap_piece, token_piece, offence_piece}
use Rattle.sql_tokens.proofs.Walk.{tokens_step, piece_has_bytes, HasBytes, walk_start}

-- ---- the result of the walk satisfies the relation

abbrev pub IsValidAnswer : ℕ → List ℕ → Walked → Type 0
IsValidAnswer at text (Ok tokens) = Leads at text tokens (at + length text) []
IsValidAnswer at text (Err place) = IsOffenceAt at text place

to_same : (at : ℕ) (text : List ℕ) (tokens : List Token) (to other : ℕ) (last : List ℕ) → to ≡ other → Leads at text tokens to last → Leads at text tokens other last
to_same at text tokens to other last e l = subst (λ (x : ℕ). Leads at text tokens x last) e l

split_len : (text bytes rest : List ℕ) → text ≡ bytes ++ rest → length text ≡ length bytes + length rest
split_len text bytes rest whole = ap length whole ∙ length-append bytes rest

answer_after_gap : (at : ℕ) (text bytes rest : List ℕ) (walked : Walked) → text ≡ bytes ++ rest → IsSeparator bytes rest → IsValidAnswer (at + length bytes) rest walked → IsValidAnswer at text walked
answer_after_gap at text bytes rest (Ok tokens) whole s rest_valid =
    let l = split_len text bytes rest whole in
    to_same at text tokens ((at + length bytes) + length rest) (at + length text) [] (omega arith) (over_separator at text bytes rest tokens ((at + length bytes) + length rest) [] whole s rest_valid)
answer_after_gap at text bytes rest (Err place) whole s rest_valid = record {
  tokens = rest_valid.tokens;
  to = rest_valid.to;
  rest = rest_valid.rest;
  offset = rest_valid.offset;
  leads = over_separator at text bytes rest rest_valid.tokens rest_valid.to rest_valid.rest whole s rest_valid.leads;
  offence = rest_valid.offence;
  here = rest_valid.here;
}

answer_after_token : (at : ℕ) (text bytes rest : List ℕ) (k : TokenKind) (walked : Walked) → text ≡ bytes ++ rest → IsToken k bytes → goes_on k bytes rest ≡ false → IsValidAnswer (at + length bytes) rest walked
    → IsValidAnswer at text (with_first (record { kind = k; start = at; end = at + length bytes }) walked)
answer_after_token at text bytes rest k (Ok tokens) whole form ends rest_valid =
    let l = split_len text bytes rest whole in
    let t : Token = record { kind = k; start = at; end = at + length bytes } in
    to_same at text (t ∷ tokens) ((at + length bytes) + length rest) (at + length text) [] (omega arith) (over_token at text bytes rest k tokens ((at + length bytes) + length rest) [] whole form ends rest_valid)
answer_after_token at text bytes rest k (Err place) whole form ends rest_valid = record {
  tokens = record { kind = k; start = at; end = at + length bytes } ∷ rest_valid.tokens;
  to = rest_valid.to;
  rest = rest_valid.rest;
  offset = rest_valid.offset;
  leads = over_token at text bytes rest k rest_valid.tokens rest_valid.to rest_valid.rest whole form ends rest_valid.leads;
  offence = rest_valid.offence;
  here = rest_valid.here;
}

-- the first n bytes of `text` are the piece `bytes`, and `walked` is the walk's result for the bytes after it
valid_answer_on : (at n : ℕ) (text bytes rest : List ℕ) (walked : Walked) → text ≡ bytes ++ rest → n ≡ length bytes → IsValidAnswer (at + n) (drop n text) walked → IsValidAnswer (at + length bytes) rest walked
valid_answer_on at n text bytes rest walked whole len rest_valid =
    let left : drop n text ≡ rest = ap (drop n) whole ∙ drop_at bytes rest n (sym len) in
    subst (λ (x : ℕ). IsValidAnswer (at + x) rest walked) len (subst (λ (x : List ℕ). IsValidAnswer (at + n) x walked) left rest_valid)

answer_after_step : (at : ℕ) (text : List ℕ) (p : TextPiece) → Sees text p → HasBytes p → ((to : ℕ) (rest : List ℕ) → length rest < length text → IsValidAnswer to rest (tokens_at to rest)) → 0 < length text → IsValidAnswer at text (step tokens_at at p text)
answer_after_step at text (piece_.Separator n) s lengths rest_valid some =
    answer_after_gap at text s.bytes s.rest (tokens_at (at + n) (drop n text)) s.whole s.separator
    (valid_answer_on at n text s.bytes s.rest (tokens_at (at + n) (drop n text)) s.whole s.len (rest_valid (at + n) (drop n text) (omega (arith, length-drop n text))))
answer_after_step at text (piece_.Token k n) s lengths rest_valid some =
    let walked : Walked = tokens_at (at + n) (drop n text) in
    let here : IsValidAnswer at text (with_first (record { kind = k; start = at; end = at + length s.bytes }) walked) =
    answer_after_token at text s.bytes s.rest k walked s.whole s.form s.ends (valid_answer_on at n text s.bytes s.rest walked s.whole s.len (rest_valid (at + n) (drop n text) (omega (arith, length-drop n text)))) in
    subst (λ (x : ℕ). IsValidAnswer at text (with_first (record { kind = k; start = at; end = at + x }) walked)) (sym s.len) here
answer_after_step at text (piece_.Wrong n) s lengths rest_valid some = record { tokens = []; to = at; rest = text; offset = n; leads = stay at text; offence = s; here = refl }

answer_of_empty : (at : ℕ) → IsValidAnswer at [] (tokens_at at [])
unfolding tokens_at
answer_of_empty at = to_same at [] [] at (at + 0) [] (omega arith) (stay at [])

answer_up_to : (n at : ℕ) (text : List ℕ) → length text ≤ n → IsValidAnswer at text (tokens_at at text)
answer_up_to n at [] le = answer_of_empty at
answer_up_to zero at (b ∷ rest) le = absurd (omega arith)
answer_up_to (suc n) at (b ∷ rest) le =
    subst (λ (w : Walked). IsValidAnswer at (b ∷ rest) w) (sym (tokens_step at b rest))
    (answer_after_step at (b ∷ rest) (piece (b ∷ rest)) (sees_piece b rest) (piece_has_bytes b rest) (λ to left lt. answer_up_to n to left (omega arith)) (omega arith))

pub valid_answer : (at : ℕ) (text : List ℕ) → IsValidAnswer at text (tokens_at at text)
valid_answer at text = answer_up_to (length text) at text (omega arith)

-- ---- a result that satisfies the relation is the result of the walk

separator_len : (bytes rest : List ℕ) → IsSeparator bytes rest → 0 < length bytes
separator_len bytes rest (inl s) = let l = ap length s.whole in omega arith
separator_len bytes rest (inr s) = let l = ap length s.whole in omega arith

pub token_len : (k : TokenKind) (bytes : List ℕ) → IsToken k bytes → 0 < length bytes
token_len kind.Word [] form = absurd (false≢true form)
token_len kind.Number [] form = absurd (false≢true form)
token_len kind.Symbol [] form = absurd (false≢true form)
token_len kind.Word (b ∷ rest) form = omega arith
token_len kind.Number (b ∷ rest) form = omega arith
token_len kind.Symbol (b ∷ rest) form = omega arith
token_len kind.Quoted bytes form = let l = ap length form.enclosed.whole in omega arith
token_len kind.Text bytes form = let l = ap length form.enclosed.whole in omega arith

offence_len : (text : List ℕ) (offset : ℕ) → IsOffence text offset → 0 < length text
offence_len text offset (inl h) = let l = ap length h.whole in omega arith
offence_len text offset (inr (inl h)) = let l = ap length h.whole in omega arith
offence_len text offset (inr (inr (inl h))) = let l = ap length h.whole in omega arith
offence_len text offset (inr (inr (inr h))) = let l = ap length h.whole in omega arith

walk_one : (at : ℕ) (text : List ℕ) → 0 < length text → tokens_at at text ≡ step tokens_at at (piece text) text
walk_one at [] some = absurd (omega arith)
walk_one at (b ∷ rest) some = tokens_step at b rest

before_front : (t : Token) (tokens : List Token) (walked : Walked) → with_first t (with_front tokens walked) ≡ with_front (t ∷ tokens) walked
before_front t tokens (Ok ts) = refl
before_front t tokens (Err place) = refl

pub leads_walk : (at : ℕ) (text : List ℕ) (tokens : List Token) (to : ℕ) (last : List ℕ) → Leads at text tokens to last → tokens_at at text ≡ with_front tokens (tokens_at to last)
leads_walk at text tokens to last (stay a t) = sym (walk_start at text)
leads_walk at text tokens to last (over_separator a t bytes rest ts o la whole s l) =
    let len : length text ≡ length bytes + length rest = split_len text bytes rest whole in
    let some : 0 < length bytes = separator_len bytes rest s in
    walk_one at text (omega arith) ∙ ap (λ (p : TextPiece). step tokens_at at p text) (gap_piece text bytes rest whole s)
    ∙ ap (tokens_at (at + length bytes)) (ap (drop (length bytes)) whole ∙ drop_at bytes rest (length bytes) refl)
    ∙ leads_walk (at + length bytes) rest tokens to last l
leads_walk at text tokens to last (over_token a t bytes rest k ts o la whole form ends l) =
    let len : length text ≡ length bytes + length rest = split_len text bytes rest whole in
    let some : 0 < length bytes = token_len k bytes form in
    let this : Token = record { kind = k; start = at; end = at + length bytes } in
    walk_one at text (omega arith) ∙ ap (λ (p : TextPiece). step tokens_at at p text) (token_piece k text bytes rest whole form ends)
    ∙ ap (λ (x : List ℕ). with_first this (tokens_at (at + length bytes) x)) (ap (drop (length bytes)) whole ∙ drop_at bytes rest (length bytes) refl)
    ∙ ap (with_first this) (leads_walk (at + length bytes) rest ts to last l) ∙ before_front this ts (tokens_at to last)

pub offence_walk : (at : ℕ) (text : List ℕ) (offset : ℕ) → IsOffence text offset → tokens_at at text ≡ Err (at + offset)
offence_walk at text offset h = walk_one at text (offence_len text offset h) ∙ ap (λ (p : TextPiece). step tokens_at at p text) (offence_piece text offset h)

walk_empty : (at : ℕ) → tokens_at at [] ≡ Ok []
unfolding tokens_at
walk_empty at = refl

pub leads_all : (at : ℕ) (text : List ℕ) (tokens : List Token) (to : ℕ) → Leads at text tokens to [] → tokens_at at text ≡ Ok tokens
leads_all at text tokens to l = leads_walk at text tokens to [] l ∙ ap (with_front tokens) (walk_empty to) ∙ ap (λ (x : List Token). Ok x) (append-nil tokens)

pub offence_all : (at : ℕ) (text : List ℕ) (place : ℕ) → IsOffenceAt at text place → tokens_at at text ≡ Err place
offence_all at text place h = leads_walk at text h.tokens h.to h.rest h.leads ∙ ap (with_front h.tokens) (offence_walk h.to h.rest h.offset h.offence) ∙ ap (λ (x : ℕ). Err x) (sym h.here)
