-- The piece that `piece` computes at the front of a text is a separator, a token or an error, as `Lexing` defines them.
use Rattle.std.proofs.Common.{◌≡◌, ◌≢◌, ℕ, ◌+◌, ◌≤◌, Bool, true, false, cond, ◌&&◌, eqb, ltb, List, [], ◌∷◌, ◌++◌, length, Option, Some, None, refl, sym, ap, ◌∙◌, subst, inl, inr, ⊎_elim, arith, append_assoc, length-append}
use Rattle.std.proofs.lemmas.Bool.{and_parts, and_from, or_from, eqb-true, ltb-true, ltb-false, eqb-false, false≢true}
use Rattle.std.specs.Prelude.{slice_index}
use Rattle.std.specs.List.{prefix_len, list_all}
use Rattle.sql_tokens.specs.declared.token.TokenKind.{TokenKind}
use Rattle.sql_tokens.specs.declared.token.TokenKind.TheVariants as kind
use Rattle.sql_tokens.specs.declared.pieces.TextPiece.{TextPiece}
use Rattle.sql_tokens.specs.declared.pieces.TextPiece.TheVariants as piece_
use Rattle.sql_tokens.specs.Tokens.{is_blank, is_letter, is_digit, is_word_byte, is_in_line, is_not_control, is_one_byte_symbol, is_two_byte_symbol, IsToken, goes_on, IsSeparator}
use Rattle.sql_tokens.specs.Lexing.{Closes, IsOffence}
use Rattle.sql_tokens.specs.Pieces.{closing_length, identifier_to, identifier, literal_to, literal, symbol, piece}
use Rattle.sql_tokens.proofs.Characters.{pair_zero}
use Rattle.sql_tokens.proofs.RunFacts.{run, run_len, IsRun, first_or_all, HasFirst, prefix_all}
use Rattle.sql_tokens.proofs.Quoting.{closes_complete, closed_seen, ClosesAt}

pub record SeesGap (text : List ℕ) (n : ℕ) : Type 0 where
  pub bytes : List ℕ
  pub rest : List ℕ
  pub whole : text ≡ bytes ++ rest
  pub separator : IsSeparator bytes rest
  pub len : n ≡ length bytes

pub record SeesToken (text : List ℕ) (k : TokenKind) (n : ℕ) : Type 0 where
  pub bytes : List ℕ
  pub rest : List ℕ
  pub whole : text ≡ bytes ++ rest
  pub form : IsToken k bytes
  pub ends : goes_on k bytes rest ≡ false
  pub len : n ≡ length bytes

abbrev pub Sees : List ℕ → TextPiece → Type 0
Sees text (piece_.Separator n) = SeesGap text n
Sees text (piece_.Token k n) = SeesToken text k n
Sees text (piece_.Wrong n) = IsOffence text n

sees_cond : (text : List ℕ) (t : Bool) (x y : TextPiece) → (t ≡ true → Sees text x) → (t ≡ false → Sees text y) → Sees text (cond t x y)
sees_cond text true x y l m = l refl
sees_cond text false x y l m = m refl

-- ---- words, numbers, blanks

sees_blank : (b : ℕ) (rest : List ℕ) → is_blank b ≡ true → Sees (b ∷ rest) (piece_.Separator 1)
sees_blank b rest e = record { bytes = b ∷ []; rest = rest; whole = refl; separator = inl (record { blank = b; whole = refl; is = e }); len = refl }

sees_word : (b : ℕ) (rest : List ℕ) → is_letter b ≡ true → Sees (b ∷ rest) (piece_.Token kind.Word (prefix_len is_word_byte rest + 1))
sees_word b rest e = at (run is_word_byte rest) where
  at : IsRun is_word_byte rest → Sees (b ∷ rest) (piece_.Token kind.Word (prefix_len is_word_byte rest + 1))
  at r = record {
    bytes = b ∷ r.front;
    rest = r.more;
    whole = ap (λ (x : List ℕ). b ∷ x) r.whole;
    form = and_from (is_letter b) (list_all is_word_byte r.front) e r.all;
    ends = r.ends;
    len = (let l : prefix_len is_word_byte rest ≡ length r.front = run_len is_word_byte r.front r.more rest r.whole r.all r.ends in omega arith);
  }

sees_number : (b : ℕ) (rest : List ℕ) → is_digit b ≡ true → Sees (b ∷ rest) (piece_.Token kind.Number (prefix_len is_digit rest + 1))
sees_number b rest e = at (run is_digit rest) where
  at : IsRun is_digit rest → Sees (b ∷ rest) (piece_.Token kind.Number (prefix_len is_digit rest + 1))
  at r = record {
    bytes = b ∷ r.front;
    rest = r.more;
    whole = ap (λ (x : List ℕ). b ∷ x) r.whole;
    form = and_from (is_digit b) (list_all is_digit r.front) e r.all;
    ends = r.ends;
    len = (let l : prefix_len is_digit rest ≡ length r.front = run_len is_digit r.front r.more rest r.whole r.all r.ends in omega arith);
  }

-- ---- comments

sees_comment_at : (rest : List ℕ) → Sees (45 ∷ 45 ∷ rest) (piece_.Separator (prefix_len is_in_line (45 ∷ rest) + 1))
sees_comment_at rest = at (run is_in_line rest) where
  at : IsRun is_in_line rest → Sees (45 ∷ 45 ∷ rest) (piece_.Separator (prefix_len is_in_line (45 ∷ rest) + 1))
  at r = record {
    bytes = 45 ∷ 45 ∷ r.front;
    rest = r.more;
    whole = ap (λ (x : List ℕ). 45 ∷ 45 ∷ x) r.whole;
    separator = inr (record { line = r.front; whole = refl; inside = r.all; ends = r.ends });
    len = (let l : prefix_len is_in_line rest ≡ length r.front = run_len is_in_line r.front r.more rest r.whole r.all r.ends in omega arith);
  }

sees_comment : (b : ℕ) (rest : List ℕ) → (eqb b 45 && eqb (slice_index rest 0) 45) ≡ true → Sees (b ∷ rest) (piece_.Separator (prefix_len is_in_line rest + 1))
sees_comment b [] e = absurd (let parts = and_parts (eqb b 45) (eqb 0 45) e in let h : 0 ≡ 45 = eqb-true 0 45 parts.1 in omega arith)
sees_comment b (c ∷ rest) e =
    let parts = and_parts (eqb b 45) (eqb c 45) e in
    let first : 45 ≡ b = sym (eqb-true b 45 parts.0) in
    let second : 45 ≡ c = sym (eqb-true c 45 parts.1) in
    let here = subst (λ (x : ℕ). Sees (x ∷ 45 ∷ rest) (piece_.Separator (prefix_len is_in_line (45 ∷ rest) + 1))) first (sees_comment_at rest) in
    subst (λ (x : ℕ). Sees (b ∷ x ∷ rest) (piece_.Separator (prefix_len is_in_line (x ∷ rest) + 1))) second here

-- ---- quotes

never_closed : (q : ℕ) (rest : List ℕ) → closing_length q rest ≡ None → (body more : List ℕ) → Closes q rest body more → ⊥
never_closed q rest none body more c = none_some (length body + 1) (sym none ∙ closes_complete q rest body more c) where
  none_some : (m : ℕ) → ◌≡◌ {A = Option ℕ} None (Some m) → ⊥
  none_some m h = cc

enclosed_whole : (q : ℕ) (rest body more : List ℕ) → rest ≡ body ++ q ∷ more → q ∷ rest ≡ (q ∷ (body ++ q ∷ [])) ++ more
enclosed_whole q rest body more e = ap (λ (x : List ℕ). q ∷ x) (e ∙ sym (append_assoc body (q ∷ []) more))

sees_literal_to : (rest : List ℕ) (o : Option ℕ) → closing_length 39 rest ≡ o → Sees (39 ∷ rest) (literal_to o)
sees_literal_to rest None e = inr (inl (record { quote = 39; rest = rest; whole = refl; is = refl; never = never_closed 39 rest e; here = refl }))
sees_literal_to rest (Some n) e = at (closed_seen 39 rest n e) where
  at : ClosesAt 39 rest n → Sees (39 ∷ rest) (piece_.Token kind.Text (n + 1))
  at c = record {
    bytes = 39 ∷ (c.body ++ 39 ∷ []);
    rest = c.more;
    whole = enclosed_whole 39 rest c.body c.more c.closes.whole;
    form = record { body = c.body; enclosed = record { whole = refl; doubled = c.closes.doubled } };
    ends = c.closes.ends;
    len = (let l : n ≡ length c.body + 1 = c.len in omega (arith, length-append c.body (39 ∷ [])));
  }

sees_literal : (rest : List ℕ) → Sees (39 ∷ rest) (literal rest)
unfolding literal
sees_literal rest = sees_literal_to rest (closing_length 39 rest) refl

sees_name : (rest : List ℕ) (n : ℕ) (c : ClosesAt 34 rest n) → list_all is_not_control c.body ≡ true → n ≢ 1 → Sees (34 ∷ rest) (piece_.Token kind.Quoted (n + 1))
sees_name rest n c plain some = at c.body c.closes c.len plain where
  at : (body : List ℕ) → Closes 34 rest body c.more → n ≡ length body + 1 → list_all is_not_control body ≡ true → Sees (34 ∷ rest) (piece_.Token kind.Quoted (n + 1))
  at [] closes len plain = absurd (some (omega arith))
  at (b ∷ body) closes len plain = record {
    bytes = 34 ∷ (b ∷ body ++ 34 ∷ []);
    rest = c.more;
    whole = enclosed_whole 34 rest (b ∷ body) c.more closes.whole;
    form = record { first = b; others = body; enclosed = record { whole = refl; doubled = closes.doubled }; plain = plain };
    ends = closes.ends;
    len = omega (arith, length-append (b ∷ body) (34 ∷ []));
  }

sees_empty : (rest : List ℕ) (n : ℕ) → ClosesAt 34 rest n → n ≡ 1 → Sees (34 ∷ rest) (piece_.Wrong 0)
sees_empty rest n c one = at c.body c.closes (let l : n ≡ length c.body + 1 = c.len in omega arith) where
  at : (body : List ℕ) → Closes 34 rest body c.more → length body ≡ 0 → Sees (34 ∷ rest) (piece_.Wrong 0)
  at [] closes len = inr (inr (inl (record { more = c.more; whole = ap (λ (x : List ℕ). 34 ∷ x) closes.whole; ends = closes.ends; here = refl })))
  at (b ∷ body) closes len = absurd (omega arith)

plain_len : (rest : List ℕ) (n : ℕ) (c : ClosesAt 34 rest n) → list_all is_not_control c.body ≡ true → n ≤ prefix_len is_not_control rest
plain_len rest n c all =
    let e : prefix_len is_not_control rest ≡ length c.body + prefix_len is_not_control (34 ∷ c.more) = ap (prefix_len is_not_control) c.closes.whole ∙ prefix_all is_not_control c.body (34 ∷ c.more) all in
    let l : n ≡ length c.body + 1 = c.len in
    omega arith

control_len : (rest : List ℕ) (n : ℕ) (c : ClosesAt 34 rest n) (h : HasFirst is_not_control c.body) → prefix_len is_not_control rest ≡ length h.front
control_len rest n c h =
    run_len is_not_control h.front ((h.stop ∷ h.others) ++ 34 ∷ c.more) rest
    (c.closes.whole ∙ ap (λ (x : List ℕ). x ++ 34 ∷ c.more) h.whole ∙ append_assoc h.front (h.stop ∷ h.others) (34 ∷ c.more)) h.all h.is

sees_control : (rest : List ℕ) (n : ℕ) (c : ClosesAt 34 rest n) (h : HasFirst is_not_control c.body) → Sees (34 ∷ rest) (piece_.Wrong (prefix_len is_not_control rest + 1))
sees_control rest n c h = inr (inr (inr (record {
  front = h.front;
  control = h.stop;
  others = h.others;
  rest = rest;
  more = c.more;
  whole = refl;
  closes = subst (λ (x : List ℕ). Closes 34 rest x c.more) h.whole c.closes;
  plain = h.all;
  is = h.is;
  here = (let l = control_len rest n c h in omega arith);
})))

sees_closed : (rest : List ℕ) (n : ℕ) → ClosesAt 34 rest n → Sees (34 ∷ rest) (identifier_to (Some n) rest)
sees_closed rest n c =
    sees_cond (34 ∷ rest) (eqb n 1) _ _ (λ e. sees_empty rest n c (eqb-true n 1 e))
    (λ e. sees_cond (34 ∷ rest) (ltb (prefix_len is_not_control rest) n) _ _
    (λ f. ⊎_elim (λ (all : list_all is_not_control c.body ≡ true). absurd (let le = plain_len rest n c all in let lt = ltb-true (prefix_len is_not_control rest) n f in omega arith)) (λ (h : HasFirst is_not_control c.body). sees_control rest n c h) (first_or_all is_not_control c.body))
    (λ f. ⊎_elim (λ (all : list_all is_not_control c.body ≡ true). sees_name rest n c all (eqb-false n 1 e))
    (λ (h : HasFirst is_not_control c.body). absurd (let l = control_len rest n c h in let k : n ≡ length c.body + 1 = c.len in let le = ltb-false (prefix_len is_not_control rest) n f in let whole = ap length h.whole in omega (arith, length-append h.front (h.stop ∷ h.others))))
    (first_or_all is_not_control c.body)))

sees_identifier_to : (rest : List ℕ) (o : Option ℕ) → closing_length 34 rest ≡ o → Sees (34 ∷ rest) (identifier_to o rest)
sees_identifier_to rest None e = inr (inl (record { quote = 34; rest = rest; whole = refl; is = refl; never = never_closed 34 rest e; here = refl }))
sees_identifier_to rest (Some n) e = sees_closed rest n (closed_seen 34 rest n e)

sees_identifier : (rest : List ℕ) → Sees (34 ∷ rest) (identifier rest)
unfolding identifier
sees_identifier rest = sees_identifier_to rest (closing_length 34 rest) refl

-- ---- signs

sees_pair : (b : ℕ) (rest : List ℕ) → is_two_byte_symbol b (slice_index rest 0) ≡ true → Sees (b ∷ rest) (piece_.Token kind.Symbol 2)
sees_pair b [] e = absurd (let h = pair_zero b in false≢true (sym h ∙ e))
sees_pair b (c ∷ rest) e = record { bytes = b ∷ c ∷ []; rest = rest; whole = refl; form = e; ends = refl; len = refl }

sees_sign : (b : ℕ) (rest : List ℕ) → is_one_byte_symbol b ≡ true → is_two_byte_symbol b (slice_index rest 0) ≡ false → (eqb b 45 && eqb (slice_index rest 0) 45) ≡ false → Sees (b ∷ rest) (piece_.Token kind.Symbol 1)
sees_sign b [] e f g = record { bytes = b ∷ []; rest = []; whole = refl; form = e; ends = refl; len = refl }
sees_sign b (c ∷ rest) e f g = record { bytes = b ∷ []; rest = c ∷ rest; whole = refl; form = e; ends = or_from (is_two_byte_symbol b c) (eqb b 45 && eqb c 45) f g; len = refl }

sees_none : (b : ℕ) (rest : List ℕ) → is_blank b ≡ false → is_letter b ≡ false → is_digit b ≡ false → eqb b 34 ≡ false → eqb b 39 ≡ false → is_one_byte_symbol b ≡ false → Sees (b ∷ rest) (piece_.Wrong 0)
sees_none b rest e f g h i j = inl (record { first = b; rest = rest; whole = refl; none = rw (e, f, g, h, i, j) refl; here = refl })

sees_symbol : (b : ℕ) (rest : List ℕ) → is_blank b ≡ false → is_letter b ≡ false → is_digit b ≡ false → eqb b 34 ≡ false → eqb b 39 ≡ false → (eqb b 45 && eqb (slice_index rest 0) 45) ≡ false → Sees (b ∷ rest) (symbol b rest)
unfolding symbol
sees_symbol b rest e f g h i j =
    sees_cond (b ∷ rest) (is_two_byte_symbol b (slice_index rest 0)) _ _ (λ k. sees_pair b rest k)
    (λ k. sees_cond (b ∷ rest) (is_one_byte_symbol b) _ _ (λ l. sees_sign b rest l k j) (λ l. sees_none b rest e f g h i l))

-- ---- the piece at the front of any text

pub sees_piece : (b : ℕ) (rest : List ℕ) → Sees (b ∷ rest) (piece (b ∷ rest))
unfolding piece
sees_piece b rest =
    sees_cond (b ∷ rest) (is_blank b) _ _ (λ e. sees_blank b rest e)
    (λ e. sees_cond (b ∷ rest) (is_letter b) _ _ (λ f. sees_word b rest f)
    (λ f. sees_cond (b ∷ rest) (is_digit b) _ _ (λ g. sees_number b rest g)
    (λ g. sees_cond (b ∷ rest) (eqb b 34) _ _ (λ h. subst (λ (x : ℕ). Sees (x ∷ rest) (identifier rest)) (sym (eqb-true b 34 h)) (sees_identifier rest))
    (λ h. sees_cond (b ∷ rest) (eqb b 39) _ _ (λ i. subst (λ (x : ℕ). Sees (x ∷ rest) (literal rest)) (sym (eqb-true b 39 i)) (sees_literal rest))
    (λ i. sees_cond (b ∷ rest) (eqb b 45 && eqb (slice_index rest 0) 45) _ _ (λ j. sees_comment b rest j) (λ j. sees_symbol b rest e f g h i j))))))
