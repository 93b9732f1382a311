-- The walk over a complete text starts after the byte order mark. It gives the only result that the relation allows.
use Rattle.std.proofs.Common.{◌≡◌, ℕ, suc, ◌+◌, ◌-◌, ◌≤◌, Bool, true, false, cond, ◌&&◌, eqb, List, [], ◌∷◌, length, take, drop, Ok, Err, Result, IfOk, IfErr, refl, sym, ap, ◌∙◌, subst, inl, inr, arith, length-drop}
use Rattle.std.proofs.lemmas.Bool.{and_parts, eqb-true, false≢true}
use Rattle.std.proofs.lemmas.List.{take_rest, take-append-drop, length-take-le}
use Rattle.std.proofs.lemmas.Str.{IsUtf8-past_char, IsUtf8-from_is_utf8, is_utf8-from_IsUtf8}
use Rattle.std.specs.List.{All}
use Rattle.std.specs.Prelude.{◌⊎◌}
use Rattle.std.specs.Str.{IsUtf8, is_utf8}
use Rattle.std.specs.Str.Lossy.{utf8_valid_len}
use Rattle.sql_tokens.specs.declared.token.Token.{Token}
use Rattle.sql_tokens.specs.declared.token.LexError.{LexError}
use Rattle.sql_tokens.specs.declared.token.LexError.TheVariants as error
use Rattle.sql_tokens.specs.Words.{IsTokenOf}
use Rattle.sql_tokens.specs.Lexing.{Leads, byte_order_mark_len, IsLexed, IsBadToken, IsBad, IsRefusal, TokensAreInOrder, HasItsForm}
use Rattle.sql_tokens.specs.Pieces.{Walked, tokens_at, IsResultOf}
use Rattle.sql_tokens.proofs.Readings.{IsValidAnswer, valid_answer, leads_all, offence_all}
use Rattle.sql_tokens.proofs.SpanFacts.{in_order, tokens_within, have_forms}

-- ---- the byte order mark

pub mark_within : (text : List ℕ) → byte_order_mark_len text ≤ length text
mark_within [] = omega arith
mark_within (b ∷ []) = omega arith
mark_within (b ∷ c ∷ []) = omega arith
mark_within (b ∷ c ∷ d ∷ rest) = at (eqb b 239 && (eqb c 187 && eqb d 191)) where
  at : (t : Bool) → cond t 3 0 ≤ suc (suc (suc (length rest)))
  at true = omega arith
  at false = omega arith

marked : (b c d : ℕ) (rest : List ℕ) (t : Bool) → (eqb b 239 && (eqb c 187 && eqb d 191)) ≡ t → IsUtf8 (b ∷ c ∷ d ∷ rest) → IsUtf8 (drop (cond t 3 0) (b ∷ c ∷ d ∷ rest))
unfolding lib.Utf8.encode
marked b c d rest false e utf8 = utf8
marked b c d rest true e utf8 =
    let p = and_parts (eqb b 239) (eqb c 187 && eqb d 191) e in
    let q = and_parts (eqb c 187) (eqb d 191) p.1 in
    let mark : b ∷ c ∷ d ∷ rest ≡ 239 ∷ 187 ∷ 191 ∷ rest =
    ap (λ (x : ℕ). x ∷ c ∷ d ∷ rest) (eqb-true b 239 p.0) ∙ ap (λ (x : ℕ). 239 ∷ x ∷ d ∷ rest) (eqb-true c 187 q.0) ∙ ap (λ (x : ℕ). 239 ∷ 187 ∷ x ∷ rest) (eqb-true d 191 q.1) in
    IsUtf8-past_char (b ∷ c ∷ d ∷ rest) rest 65279 utf8 mark

pub unmarked_utf8 : (text : List ℕ) → IsUtf8 text → IsUtf8 (drop (byte_order_mark_len text) text)
unmarked_utf8 [] utf8 = utf8
unmarked_utf8 (b ∷ []) utf8 = utf8
unmarked_utf8 (b ∷ c ∷ []) utf8 = utf8
unmarked_utf8 (b ∷ c ∷ d ∷ rest) utf8 = marked b c d rest (eqb b 239 && (eqb c 187 && eqb d 191)) refl utf8

-- ---- the walk's result for a complete text

unmarked_len : (text : List ℕ) → byte_order_mark_len text + length (drop (byte_order_mark_len text) text) ≡ length text
unmarked_len text = omega (arith, length-drop (byte_order_mark_len text) text, mark_within text)

valid_answer_of_text : (text : List ℕ) (walked : Walked) → tokens_at (byte_order_mark_len text) (drop (byte_order_mark_len text) text) ≡ walked → IsValidAnswer (byte_order_mark_len text) (drop (byte_order_mark_len text) text) walked
valid_answer_of_text text walked e = subst (λ (w : Walked). IsValidAnswer (byte_order_mark_len text) (drop (byte_order_mark_len text) text) w) e (valid_answer (byte_order_mark_len text) (drop (byte_order_mark_len text) text))

lexed : (text : List ℕ) (tokens : List Token) → IsUtf8 text → tokens_at (byte_order_mark_len text) (drop (byte_order_mark_len text) text) ≡ Ok tokens → IsLexed text tokens
lexed text tokens utf8 e = record {
  utf8 = utf8;
  leads = subst (λ (n : ℕ). Leads (byte_order_mark_len text) (drop (byte_order_mark_len text) text) tokens n []) (unmarked_len text) (valid_answer_of_text text (Ok tokens) e);
}

refused : (text : List ℕ) (at : ℕ) → IsUtf8 text → tokens_at (byte_order_mark_len text) (drop (byte_order_mark_len text) text) ≡ Err at → IsBadToken text at
refused text at utf8 e = record { utf8 = utf8; offence = valid_answer_of_text text (Err at) e }

cut_is : (text : List ℕ) (start : ℕ) → start ≡ byte_order_mark_len text → tokens_at start (take (length text - start) (drop start text)) ≡ tokens_at (byte_order_mark_len text) (drop (byte_order_mark_len text) text)
cut_is text start e = ap (tokens_at start) (take_rest text start) ∙ ap (λ (n : ℕ). tokens_at n (drop n text)) e

module _ (text : List ℕ) (start : ℕ) (start_is_mark_len : start ≡ byte_order_mark_len text) (utf8 : IsUtf8 text) where
  pub lexed_result : (result : Result (List Token) LexError) → IsResultOf result (tokens_at start (take (length text - start) (drop start text))) → IfOk result (λ tokens. IsLexed text tokens)
  lexed_result (Ok tokens) gave = lexed text tokens utf8 (sym (cut_is text start start_is_mark_len) ∙ gave)
  lexed_result (Err (error.Bad at)) gave = tt
  lexed_result (Err error.NoMemory) gave = tt

  pub refused_result : (result : Result (List Token) LexError) → IsResultOf result (tokens_at start (take (length text - start) (drop start text))) → IfErr result (λ e. IsRefusal text e)
  refused_result (Ok tokens) gave = tt
  refused_result (Err (error.Bad at)) gave = inr (refused text at utf8 (sym (cut_is text start start_is_mark_len) ∙ gave))
  refused_result (Err error.NoMemory) gave = tt

pub lexed_in_order : (text : List ℕ) (tokens : List Token) → IsLexed text tokens → TokensAreInOrder 0 (length text) tokens
lexed_in_order text tokens l = from_zero tokens (in_order (byte_order_mark_len text) (drop (byte_order_mark_len text) text) tokens (length text) [] l.leads) where
  from_zero : (ts : List Token) → TokensAreInOrder (byte_order_mark_len text) (length text) ts → TokensAreInOrder 0 (length text) ts
  from_zero [] h = omega arith
  from_zero (t ∷ ts) h = (omega arith, h.1, h.2)

pub lexed_within : (text : List ℕ) (tokens : List Token) → IsLexed text tokens → All (IsTokenOf text) tokens
lexed_within text tokens l =
    tokens_within text (take (byte_order_mark_len text) text) (byte_order_mark_len text) (drop (byte_order_mark_len text) text) tokens (length text) [] (sym (take-append-drop (byte_order_mark_len text) text))
    (length-take-le (byte_order_mark_len text) text (mark_within text)) (unmarked_utf8 text l.utf8) l.leads

pub ok_weaker : (P Q : List Token → Type 0) → ((tokens : List Token) → P tokens → Q tokens) → (result : Result (List Token) LexError) → IfOk result P → IfOk result Q
ok_weaker P Q f (Ok tokens) h = f tokens h
ok_weaker P Q f (Err e) h = tt

-- ---- laws

pub lexed_forms : (text : List ℕ) (tokens : List Token) → IsLexed text tokens → All (HasItsForm text) tokens
lexed_forms text tokens l =
    have_forms text (take (byte_order_mark_len text) text) (byte_order_mark_len text) (drop (byte_order_mark_len text) text) tokens (length text) [] (sym (take-append-drop (byte_order_mark_len text) text))
    (length-take-le (byte_order_mark_len text) text (mark_within text)) l.leads

walk_of : List ℕ → Walked
walk_of text = tokens_at (byte_order_mark_len text) (drop (byte_order_mark_len text) text)

ok_same : (a b : List Token) → ◌≡◌ {A = Walked} (Ok a) (Ok b) → a ≡ b
ok_same a b e = cc

err_same : (a b : ℕ) → ◌≡◌ {A = Walked} (Err a) (Err b) → a ≡ b
err_same a b e = cc

ok_err : (a : List Token) (b : ℕ) → ◌≡◌ {A = Walked} (Ok a) (Err b) → ⊥
ok_err a b e = cc

lexed_walk : (text : List ℕ) (tokens : List Token) → IsLexed text tokens → walk_of text ≡ Ok tokens
unfolding walk_of
lexed_walk text tokens l = leads_all (byte_order_mark_len text) (drop (byte_order_mark_len text) text) tokens (length text) l.leads

bad_walk : (text : List ℕ) (at : ℕ) → IsBadToken text at → walk_of text ≡ Err at
unfolding walk_of
bad_walk text at b = offence_all (byte_order_mark_len text) (drop (byte_order_mark_len text) text) at b.offence

pub one_token_list : (text : List ℕ) (tokens others : List Token) → IsLexed text tokens → IsLexed text others → tokens ≡ others
one_token_list text tokens others a b = ok_same tokens others (sym (lexed_walk text tokens a) ∙ lexed_walk text others b)

pub one_error_offset : (text : List ℕ) (at other : ℕ) → IsBad text at → IsBad text other → at ≡ other
one_error_offset text at other (inl a) (inl b) = a.here ∙ sym b.here
one_error_offset text at other (inl a) (inr b) = absurd (a.bad b.utf8)
one_error_offset text at other (inr a) (inl b) = absurd (b.bad a.utf8)
one_error_offset text at other (inr a) (inr b) = err_same at other (sym (bad_walk text at a) ∙ bad_walk text other b)

pub never_both : (text : List ℕ) (tokens : List Token) (at : ℕ) → IsLexed text tokens → IsBad text at → ⊥
never_both text tokens at a (inl b) = b.bad a.utf8
never_both text tokens at a (inr b) = ok_err tokens at (sym (lexed_walk text tokens a) ∙ bad_walk text at b)

read_utf8 : (text : List ℕ) (walked : Walked) → IsUtf8 text → tokens_at (byte_order_mark_len text) (drop (byte_order_mark_len text) text) ≡ walked → ((tokens : List Token) × IsLexed text tokens) ⊎ ((at : ℕ) × IsBad text at)
read_utf8 text (Ok tokens) utf8 e = inl (tokens, lexed text tokens utf8 e)
read_utf8 text (Err at) utf8 e = inr (at, inr (refused text at utf8 e))

pub tokens_or_error : (text : List ℕ) → ((tokens : List Token) × IsLexed text tokens) ⊎ ((at : ℕ) × IsBad text at)
tokens_or_error text = by (is_utf8 text) refl where
  by : (t : Bool) → is_utf8 text ≡ t → ((tokens : List Token) × IsLexed text tokens) ⊎ ((at : ℕ) × IsBad text at)
  by true e = read_utf8 text (tokens_at (byte_order_mark_len text) (drop (byte_order_mark_len text) text)) (IsUtf8-from_is_utf8 text e) refl
  by false e = inr (utf8_valid_len text, inl (record { bad = λ u. false≢true (sym e ∙ is_utf8-from_IsUtf8 text u); here = refl }))
