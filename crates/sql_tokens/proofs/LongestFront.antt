-- The token at the front of a text is the longest prefix that has the form of a token.
use Rattle.std.proofs.Common.{◌≡◌, ℕ, ◌+◌, ◌≤◌, Bool, true, false, cond, ◌&&◌, eqb, List, [], ◌∷◌, ◌++◌, length, Some, refl, sym, ap, ◌∙◌, subst, arith}
use Rattle.std.proofs.lemmas.Bool.{and_parts, or_parts, false≢true}
use Rattle.std.specs.List.{prefix_len, list_all}
use Rattle.sql_tokens.specs.declared.token.TokenKind.{TokenKind}
use Rattle.sql_tokens.specs.declared.token.TokenKind.TheVariants as kind
use Rattle.sql_tokens.specs.Tokens.{is_letter, is_digit, is_word_byte, is_one_byte_symbol, is_two_byte_symbol, begins_with, are_doubled, IsEnclosed, IsToken, goes_on}
use Rattle.sql_tokens.specs.Pieces.{closing_length, further}
use Rattle.sql_tokens.proofs.Characters.{digit_no_letter, sign_no_letter, sign_no_digit, sign_no_double, sign_no_single, pair_first}
use Rattle.sql_tokens.proofs.RunFacts.{prefix_all, prefix_none}
use Rattle.sql_tokens.proofs.Quoting.{closed_front, closes_len, closed_seen, further_some, ClosesAt}
use Rattle.sql_tokens.proofs.Computed.{enclosed_rest, enclosed_len}
use Rattle.sql_tokens.proofs.Readings.{token_len}

-- ---- the first character tells the kind

abbrev lead : ℕ → ℕ
lead b = cond (is_letter b) 0 (cond (is_digit b) 1 (cond (eqb b 34) 2 (cond (eqb b 39) 3 4)))

abbrev code : TokenKind → ℕ
code kind.Word = 0
code kind.Number = 1
code kind.Quoted = 2
code kind.Text = 3
code kind.Symbol = 4

same_kind : (k o : TokenKind) → code k ≡ code o → k ≡ o
same_kind kind.Word kind.Word e = refl
same_kind kind.Number kind.Number e = refl
same_kind kind.Quoted kind.Quoted e = refl
same_kind kind.Text kind.Text e = refl
same_kind kind.Symbol kind.Symbol e = refl
same_kind _ _ e = absurd (omega arith)

head_is : (q b : ℕ) (rest inside : List ℕ) → b ∷ rest ≡ q ∷ inside → b ≡ q
head_is q b rest inside e = cc

lead_sign : (b : ℕ) → is_one_byte_symbol b ≡ true → lead b ≡ 4
lead_sign b e = let f = sign_no_letter b e in let g = sign_no_digit b e in let h = sign_no_double b e in let i = sign_no_single b e in rw (f, g, h, i) refl

lead_is : (k : TokenKind) (b : ℕ) (rest : List ℕ) → IsToken k (b ∷ rest) → lead b ≡ code k
lead_is kind.Word b rest form = let parts = and_parts (is_letter b) (list_all is_word_byte rest) form in rw parts.0 refl
lead_is kind.Number b rest form =
    let parts = and_parts (is_digit b) (list_all is_digit rest) form in let no = digit_no_letter b parts.0 in rw (no, parts.0) refl
lead_is kind.Quoted b rest form = ap (λ (x : ℕ). lead x) (head_is 34 b rest _ form.enclosed.whole)
lead_is kind.Text b rest form = ap (λ (x : ℕ). lead x) (head_is 39 b rest _ form.enclosed.whole)
lead_is kind.Symbol b [] form = lead_sign b form
lead_is kind.Symbol b (c ∷ []) form = lead_sign b (pair_first b c form)
lead_is kind.Symbol b (c ∷ d ∷ rest) form = absurd (false≢true form)

-- ---- two tokens of one kind at the front of the same text

run_longest : (p : ℕ → Bool) (token rest longer more : List ℕ) → token ++ rest ≡ longer ++ more → list_all p token ≡ true → begins_with p rest ≡ false → list_all p longer ≡ true → length longer ≤ length token
run_longest p token rest longer more same all ends all' =
    let e : prefix_len p (token ++ rest) ≡ length token + prefix_len p rest = prefix_all p token rest all in
    let n : prefix_len p rest ≡ 0 = prefix_none p rest ends in
    let f : prefix_len p (token ++ rest) ≡ length longer + prefix_len p more = ap (prefix_len p) same ∙ prefix_all p longer more all' in
    omega arith

tails : (b c : ℕ) (xs ys : List ℕ) → b ∷ xs ≡ c ∷ ys → xs ≡ ys
tails b c xs ys e = cc

-- no quote follows the quote that closes `body`. So this quote isn't half of a doubled quote, and `other` is at most as long as `body`
body_longest : (q : ℕ) (body rest other more : List ℕ) → body ++ q ∷ rest ≡ other ++ q ∷ more → are_doubled q body ≡ true → begins_with (λ b. eqb b q) rest ≡ false → are_doubled q other ≡ true → length other ≤ length body
body_longest q body rest other more same doubled ends doubled' =
    let e : further (length other) (closing_length q (q ∷ more)) ≡ Some (length body + 1) = sym (closed_front q other (q ∷ more) doubled') ∙ ap (closing_length q) (sym same) ∙ closes_len q body rest doubled ends in
    let m = further_some (length other) (closing_length q (q ∷ more)) (length body + 1) e in
    at m.0 m.2 (closed_seen q (q ∷ more) m.0 m.1) where
      at : (n : ℕ) → length body + 1 ≡ length other + n → ClosesAt q (q ∷ more) n → length other ≤ length body
      at n s c = let l : n ≡ length c.body + 1 = c.len in omega arith

enclosed_longest : (q : ℕ) (token body rest longer other more : List ℕ) → token ++ rest ≡ longer ++ more → IsEnclosed q token body → begins_with (λ b. eqb b q) rest ≡ false → IsEnclosed q longer other → length longer ≤ length token
enclosed_longest q token body rest longer other more same e ends f =
    let inside : body ++ q ∷ rest ≡ other ++ q ∷ more = tails q q (body ++ q ∷ rest) (other ++ q ∷ more) (sym (enclosed_rest q token body rest e) ∙ same ∙ enclosed_rest q longer other more f) in
    let l = body_longest q body rest other more inside e.doubled ends f.doubled in
    let m = enclosed_len q token body e in
    let n = enclosed_len q longer other f in
    omega arith

second_is : (b c d : ℕ) (rest more : List ℕ) → b ∷ rest ≡ c ∷ d ∷ more → rest ≡ d ∷ more
second_is b c d rest more e = cc

sign_longest : (b c d : ℕ) (rest more : List ℕ) → b ∷ rest ≡ c ∷ d ∷ more → is_two_byte_symbol c d ≡ true → goes_on kind.Symbol (b ∷ []) rest ≡ false → ⊥
sign_longest b c d [] more same pair ends = absurd cc
sign_longest b c d (x ∷ rest) more same pair ends =
    let parts = or_parts (is_two_byte_symbol b x) (eqb b 45 && eqb x 45) ends in
    let e : b ≡ c = head_is c b (x ∷ rest) (d ∷ more) same in
    let f : x ≡ d = head_is d x rest more (second_is b c d (x ∷ rest) more same) in
    false≢true (sym parts.0 ∙ ap (λ (y : ℕ). is_two_byte_symbol y x) e ∙ ap (is_two_byte_symbol c) f ∙ pair)

symbol_longest : (token rest longer more : List ℕ) → token ++ rest ≡ longer ++ more → IsToken kind.Symbol token → goes_on kind.Symbol token rest ≡ false → IsToken kind.Symbol longer → length longer ≤ length token
symbol_longest [] rest longer more same form ends form' = absurd (false≢true form)
symbol_longest (b ∷ c ∷ d ∷ token) rest longer more same form ends form' = absurd (false≢true form)
symbol_longest (b ∷ token) rest [] more same form ends form' = absurd (false≢true form')
symbol_longest (b ∷ token) rest (c ∷ d ∷ x ∷ longer) more same form ends form' = absurd (false≢true form')
symbol_longest (b ∷ token) rest (c ∷ []) more same form ends form' = omega arith
symbol_longest (b ∷ b' ∷ []) rest (c ∷ d ∷ []) more same form ends form' = omega arith
symbol_longest (b ∷ []) rest (c ∷ d ∷ []) more same form ends form' = absurd (sign_longest b c d rest more same form' ends)

one_kind : (k : TokenKind) (token rest longer more : List ℕ) → token ++ rest ≡ longer ++ more → IsToken k token → goes_on k token rest ≡ false → IsToken k longer → length longer ≤ length token
one_kind kind.Word [] rest longer more same form ends form' = absurd (false≢true form)
one_kind kind.Word (b ∷ token) rest [] more same form ends form' = absurd (false≢true form')
one_kind kind.Word (b ∷ token) rest (c ∷ longer) more same form ends form' =
    let p = and_parts (is_letter b) (list_all is_word_byte token) form in
    let q = and_parts (is_letter c) (list_all is_word_byte longer) form' in
    let l = run_longest is_word_byte token rest longer more (tails b c (token ++ rest) (longer ++ more) same) p.1 ends q.1 in omega arith
one_kind kind.Number [] rest longer more same form ends form' = absurd (false≢true form)
one_kind kind.Number (b ∷ token) rest [] more same form ends form' = absurd (false≢true form')
one_kind kind.Number (b ∷ token) rest (c ∷ longer) more same form ends form' =
    let p = and_parts (is_digit b) (list_all is_digit token) form in
    let q = and_parts (is_digit c) (list_all is_digit longer) form' in
    let l = run_longest is_digit token rest longer more (tails b c (token ++ rest) (longer ++ more) same) p.1 ends q.1 in omega arith
one_kind kind.Quoted token rest longer more same form ends form' =
    enclosed_longest 34 token (form.first ∷ form.others) rest longer (form'.first ∷ form'.others) more same form.enclosed ends form'.enclosed
one_kind kind.Text token rest longer more same form ends form' = enclosed_longest 39 token form.body rest longer form'.body more same form.enclosed ends form'.enclosed
one_kind kind.Symbol token rest longer more same form ends form' = symbol_longest token rest longer more same form ends form'

kinds_agree : (k o : TokenKind) (token rest longer more : List ℕ) → token ++ rest ≡ longer ++ more → IsToken k token → IsToken o longer → o ≡ k
kinds_agree k o [] rest longer more same form form' = absurd (let l = token_len k [] form in omega arith)
kinds_agree k o (b ∷ token) rest [] more same form form' = absurd (let l = token_len o [] form' in omega arith)
kinds_agree k o (b ∷ token) rest (c ∷ longer) more same form form' =
    let e : b ≡ c = head_is c b (token ++ rest) (longer ++ more) same in
    same_kind o k (sym (lead_is o c longer form') ∙ ap (λ (x : ℕ). lead x) (sym e) ∙ lead_is k b token form)

pub longest_token : (k o : TokenKind) (token rest longer more : List ℕ) → IsToken k token → goes_on k token rest ≡ false → token ++ rest ≡ longer ++ more → IsToken o longer → length longer ≤ length token
longest_token k o token rest longer more form ends same form' =
    one_kind k token rest longer more same form ends (subst (λ (x : TokenKind). IsToken x longer) (kinds_agree k o token rest longer more same form form') form')
