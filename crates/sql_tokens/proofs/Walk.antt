-- A walk takes the pieces of a text one after another. A separator or a token has at least one byte, so the walk ends.
use Rattle.std.proofs.Common.{◌≡◌, ℕ, zero, suc, ◌+◌, ◌≤◌, Bool, true, false, cond, ◌&&◌, eqb, ltb, List, [], ◌∷◌, ◌++◌, length, drop, Option, Some, None, Ok, Err, refl, sym, ap, ◌∙◌, arith, append_assoc}
use Rattle.std.proofs.lemmas.List.{length-drop, append-nil}
use Rattle.std.specs.List.{prefix_len}
use Rattle.std.specs.Prelude.{slice_index}
use Rattle.sql_tokens.specs.declared.token.Token.{Token}
use Rattle.sql_tokens.specs.declared.token.TokenKind.{TokenKind}
use Rattle.sql_tokens.specs.declared.token.TokenKind.TheVariants as kind
use Rattle.sql_tokens.specs.declared.pieces.TextPiece.{TextPiece}
use Rattle.sql_tokens.specs.declared.pieces.TextPiece.TheVariants as piece_
use Rattle.sql_tokens.specs.Tokens.{is_blank, is_letter, is_digit, is_not_control, is_one_byte_symbol, is_two_byte_symbol}
use Rattle.sql_tokens.specs.Pieces.{closing_length, identifier_to, identifier, literal_to, literal, symbol, piece, Walked, with_first, step, pieces_up_to, tokens_at, with_front}

abbrev pub HasBytes : TextPiece → Type 0
HasBytes (piece_.Separator n) = 1 ≤ n
HasBytes (piece_.Token k n) = 1 ≤ n
HasBytes (piece_.Wrong n) = 0 ≤ n

long_cond : (b : Bool) (x y : TextPiece) → HasBytes x → HasBytes y → HasBytes (cond b x y)
long_cond true x y l m = l
long_cond false x y l m = m

identifier_long : (rest : List ℕ) → HasBytes (identifier rest)
unfolding identifier
identifier_long rest = at (closing_length 34 rest) where
  at : (o : Option ℕ) → HasBytes (identifier_to o rest)
  at None = omega arith
  at (Some n) = long_cond (eqb n 1) (piece_.Wrong 0) (cond (ltb (prefix_len is_not_control rest) n) (piece_.Wrong (prefix_len is_not_control rest + 1)) (piece_.Token kind.Quoted (n + 1))) (omega arith)
      (long_cond (ltb (prefix_len is_not_control rest) n) (piece_.Wrong (prefix_len is_not_control rest + 1)) (piece_.Token kind.Quoted (n + 1)) (omega arith) (omega arith))

literal_long : (rest : List ℕ) → HasBytes (literal rest)
unfolding literal
literal_long rest = at (closing_length 39 rest) where
  at : (o : Option ℕ) → HasBytes (literal_to o)
  at None = omega arith
  at (Some n) = omega arith

symbol_long : (b : ℕ) (rest : List ℕ) → HasBytes (symbol b rest)
unfolding symbol
symbol_long b rest = long_cond (is_two_byte_symbol b (slice_index rest 0)) _ _ (omega arith) (long_cond (is_one_byte_symbol b) (piece_.Token kind.Symbol 1) (piece_.Wrong 0) (omega arith) (omega arith))

pub piece_has_bytes : (b : ℕ) (rest : List ℕ) → HasBytes (piece (b ∷ rest))
unfolding piece
piece_has_bytes b rest =
    long_cond (is_blank b) _ _ (omega arith)
    (long_cond (is_letter b) _ _ (omega arith)
    (long_cond (is_digit b) _ _ (omega arith)
    (long_cond (eqb b 34) _ _ (identifier_long rest)
    (long_cond (eqb b 39) _ _ (literal_long rest)
    (long_cond (eqb b 45 && eqb (slice_index rest 0) 45) _ _ (omega arith) (symbol_long b rest))))))

up_none : (n at : ℕ) (bytes : List ℕ) → length bytes ≤ 0 → pieces_up_to n at bytes ≡ Ok []
up_none zero at [] h = refl
up_none (suc n) at [] h = refl
up_none n at (b ∷ bytes) h = absurd (omega arith)

step_same : (n m at : ℕ) (b : ℕ) (rest : List ℕ) → ((at : ℕ) (bytes : List ℕ) → length bytes ≤ n → length bytes ≤ m → pieces_up_to n at bytes ≡ pieces_up_to m at bytes)
    → length rest ≤ n → length rest ≤ m → (p : TextPiece) → HasBytes p → step (pieces_up_to n) at p (b ∷ rest) ≡ step (pieces_up_to m) at p (b ∷ rest)
step_same n m at b rest ih le le' (piece_.Separator k) l = ih (at + k) (drop k (b ∷ rest)) (omega (arith, length-drop k (b ∷ rest))) (omega (arith, length-drop k (b ∷ rest)))
step_same n m at b rest ih le le' (piece_.Token t k) l = ap (with_first (record { kind = t; start = at; end = at + k })) (ih (at + k) (drop k (b ∷ rest)) (omega (arith, length-drop k (b ∷ rest))) (omega (arith, length-drop k (b ∷ rest))))
step_same n m at b rest ih le le' (piece_.Wrong k) l = refl

up_same : (n m at : ℕ) (bytes : List ℕ) → length bytes ≤ n → length bytes ≤ m → pieces_up_to n at bytes ≡ pieces_up_to m at bytes
up_same zero m at bytes le le' = sym (up_none m at bytes le)
up_same (suc n) zero at bytes le le' = up_none (suc n) at bytes le'
up_same (suc n) (suc m) at [] le le' = refl
up_same (suc n) (suc m) at (b ∷ rest) le le' = step_same n m at b rest (up_same n m) (omega arith) (omega arith) (piece (b ∷ rest)) (piece_has_bytes b rest)

step_on : (at b : ℕ) (rest : List ℕ) (p : TextPiece) → HasBytes p → step (pieces_up_to (length rest)) at p (b ∷ rest) ≡ step tokens_at at p (b ∷ rest)
unfolding tokens_at
step_on at b rest (piece_.Separator k) l = up_same (length rest) (length (drop k (b ∷ rest))) (at + k) (drop k (b ∷ rest)) (omega (arith, length-drop k (b ∷ rest))) (omega arith)
step_on at b rest (piece_.Token t k) l = ap (with_first (record { kind = t; start = at; end = at + k })) (up_same (length rest) (length (drop k (b ∷ rest))) (at + k) (drop k (b ∷ rest)) (omega (arith, length-drop k (b ∷ rest))) (omega arith))
step_on at b rest (piece_.Wrong k) l = refl

pub tokens_step : (at b : ℕ) (rest : List ℕ) → tokens_at at (b ∷ rest) ≡ step tokens_at at (piece (b ∷ rest)) (b ∷ rest)
unfolding tokens_at
tokens_step at b rest = step_on at b rest (piece (b ∷ rest)) (piece_has_bytes b rest)

-- ---- the steps of the loop

front_before : (ts : List Token) (t : Token) (r : Walked) → with_front ts (with_first t r) ≡ with_front (ts ++ t ∷ []) r
front_before ts t (Ok us) = ap (λ x. Ok x) (sym (append_assoc ts (t ∷ []) us))
front_before ts t (Err at) = refl

pub walk_start : (start : ℕ) (text : List ℕ) → with_front [] (tokens_at start text) ≡ tokens_at start text
walk_start start text = at (tokens_at start text) where
  at : (r : Walked) → with_front [] r ≡ r
  at (Ok ts) = refl
  at (Err k) = refl

pub walk_separator : (ts : List Token) (at b : ℕ) (rest : List ℕ) (n : ℕ) (total : Walked) → with_front ts (tokens_at at (b ∷ rest)) ≡ total → piece (b ∷ rest) ≡ piece_.Separator n
    → with_front ts (tokens_at (at + n) (drop n (b ∷ rest))) ≡ total
walk_separator ts at b rest n total so_far e =
    let one : tokens_at at (b ∷ rest) ≡ tokens_at (at + n) (drop n (b ∷ rest)) = tokens_step at b rest ∙ ap (λ p. step tokens_at at p (b ∷ rest)) e in
    ap (with_front ts) (sym one) ∙ so_far

pub walk_token : (ts : List Token) (at b : ℕ) (rest : List ℕ) (k : TokenKind) (n : ℕ) (total : Walked) → with_front ts (tokens_at at (b ∷ rest)) ≡ total → piece (b ∷ rest) ≡ piece_.Token k n
    → with_front (ts ++ record { kind = k; start = at; end = at + n } ∷ []) (tokens_at (at + n) (drop n (b ∷ rest))) ≡ total
walk_token ts at b rest k n total so_far e =
    let t : Token = record { kind = k; start = at; end = at + n } in
    let one : tokens_at at (b ∷ rest) ≡ with_first t (tokens_at (at + n) (drop n (b ∷ rest))) = tokens_step at b rest ∙ ap (λ p. step tokens_at at p (b ∷ rest)) e in
    sym (front_before ts t (tokens_at (at + n) (drop n (b ∷ rest)))) ∙ ap (with_front ts) (sym one) ∙ so_far

pub walk_wrong : (ts : List Token) (at b : ℕ) (rest : List ℕ) (n : ℕ) (total : Walked) → with_front ts (tokens_at at (b ∷ rest)) ≡ total → piece (b ∷ rest) ≡ piece_.Wrong n → total ≡ Err (at + n)
walk_wrong ts at b rest n total so_far e =
    let one : tokens_at at (b ∷ rest) ≡ Err (at + n) = tokens_step at b rest ∙ ap (λ p. step tokens_at at p (b ∷ rest)) e in
    sym so_far ∙ ap (with_front ts) one

pub walk_done : (ts : List Token) (at : ℕ) (bytes : List ℕ) (total : Walked) → length bytes ≤ 0 → with_front ts (tokens_at at bytes) ≡ total → total ≡ Ok ts
unfolding tokens_at
walk_done ts at [] total none so_far = sym so_far ∙ ap (λ x. Ok x) (append-nil ts)
walk_done ts at (b ∷ bytes) total none so_far = absurd (omega arith)
