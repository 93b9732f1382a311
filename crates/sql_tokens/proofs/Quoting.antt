-- The relation `Closes` and the computation `closing_length` agree on where a quote is closed.
use Rattle.std.proofs.Common.{◌≡◌, ℕ, suc, ◌+◌, Bool, true, false, cond, ◌&&◌, eqb, List, [], ◌∷◌, ◌++◌, length, Option, Some, None, refl, sym, ap, ◌∙◌, inl, inr, ⊎_elim, arith}
use Rattle.std.proofs.lemmas.Bool.{and_parts, eq-eqb, eqb-true, not-true}
use Rattle.std.specs.Prelude.{◌⊎◌}
use Rattle.sql_tokens.specs.Tokens.{begins_with, are_doubled}
use Rattle.sql_tokens.specs.Lexing.{Closes}
use Rattle.sql_tokens.specs.Pieces.{closing_length, further}
use Rattle.sql_tokens.proofs.Closing.{further_further, no_quote, two_quotes, one_quote, last_quote, none_left}

doubled_if : (same : Bool) (x y : Bool) → cond same x y ≡ true → ((same ≡ true) × (x ≡ true)) ⊎ ((same ≡ false) × (y ≡ true))
doubled_if true x y e = inl (refl, e)
doubled_if false x y e = inr (refl, e)

pub closes_at_once : (q : ℕ) (more : List ℕ) → begins_with (λ b. eqb b q) more ≡ false → closing_length q (q ∷ more) ≡ Some 1
closes_at_once q [] ends = last_quote q q (eq-eqb q q refl)
closes_at_once q (c ∷ more) ends = one_quote q q c more (eq-eqb q q refl) ends

further_zero : (o : Option ℕ) → o ≡ further 0 o
further_zero None = refl
further_zero (Some n) = ap (λ (x : ℕ). Some x) (omega arith)

further_same : (m n k : ℕ) (o : Option ℕ) → m + n ≡ k → further m (further n o) ≡ further k o
further_same m n k o e = further_further m n o ∙ ap (λ (x : ℕ). further x o) e

pub closed_front : (q : ℕ) (body tail : List ℕ) → are_doubled q body ≡ true → closing_length q (body ++ tail) ≡ further (length body) (closing_length q tail)
closed_front q [] tail doubled = further_zero (closing_length q tail)
closed_front q (b ∷ []) tail doubled = no_quote q b tail (not-true (eqb b q) doubled)
closed_front q (b ∷ c ∷ body) tail doubled =
    ⊎_elim
    (λ (h : (eqb b q ≡ true) × ((eqb c q && are_doubled q body) ≡ true)). (let parts = and_parts (eqb c q) (are_doubled q body) h.1 in
    two_quotes q b c (body ++ tail) h.0 parts.0 ∙ ap (further 2) (closed_front q body tail parts.1) ∙ further_same 2 (length body) (suc (suc (length body))) (closing_length q tail) (omega arith)))
    (λ (h : (eqb b q ≡ false) × (are_doubled q (c ∷ body) ≡ true)). (no_quote q b (c ∷ body ++ tail) h.0
    ∙ ap (further 1) (closed_front q (c ∷ body) tail h.1) ∙ further_same 1 (suc (length body)) (suc (suc (length body))) (closing_length q tail) (omega arith)))
    (doubled_if (eqb b q) (eqb c q && are_doubled q body) (are_doubled q (c ∷ body)) doubled)

pub closes_len : (q : ℕ) (body more : List ℕ) → are_doubled q body ≡ true → begins_with (λ b. eqb b q) more ≡ false → closing_length q (body ++ q ∷ more) ≡ Some (length body + 1)
closes_len q body more doubled ends = closed_front q body (q ∷ more) doubled ∙ ap (further (length body)) (closes_at_once q more ends)

pub closes_complete : (q : ℕ) (rest body more : List ℕ) → Closes q rest body more → closing_length q rest ≡ Some (length body + 1)
closes_complete q rest body more c = ap (closing_length q) c.whole ∙ closes_len q body more c.doubled c.ends

pub record ClosesAt (q : ℕ) (rest : List ℕ) (n : ℕ) : Type 0 where
  pub body : List ℕ
  pub more : List ℕ
  pub closes : Closes q rest body more
  pub len : n ≡ length body + 1

pub further_some : (k : ℕ) (o : Option ℕ) (n : ℕ) → further k o ≡ Some n → (m : ℕ) × (o ≡ Some m) × (n ≡ k + m)
further_some k None n e = absurd cc
further_some k (Some m) n e = (m, refl, cc)

doubled_plain : (q b : ℕ) (body : List ℕ) → eqb b q ≡ false → are_doubled q body ≡ true → are_doubled q (b ∷ body) ≡ true
doubled_plain q b [] e d = rw e refl
doubled_plain q b (c ∷ body) e d = rw e d

doubled_two : (q b c : ℕ) (body : List ℕ) → eqb b q ≡ true → eqb c q ≡ true → are_doubled q body ≡ true → are_doubled q (b ∷ c ∷ body) ≡ true
doubled_two q b c body e f d = rw (e, f) d

at_once : (q b : ℕ) (more : List ℕ) (n : ℕ) → eqb b q ≡ true → begins_with (λ c. eqb c q) more ≡ false → Some 1 ≡ Some n → ClosesAt q (b ∷ more) n
at_once q b more n e ends same = record {
  body = [];
  more = more;
  closes = record { whole = ap (λ (x : ℕ). x ∷ more) (eqb-true b q e); doubled = refl; ends = ends };
  len = cc;
}

one_further : (q b : ℕ) (rest : List ℕ) (n m : ℕ) → eqb b q ≡ false → n ≡ 1 + m → ClosesAt q rest m → ClosesAt q (b ∷ rest) n
one_further q b rest n m e s c = record {
  body = b ∷ c.body;
  more = c.more;
  closes = record { whole = ap (λ (x : List ℕ). b ∷ x) c.closes.whole; doubled = doubled_plain q b c.body e c.closes.doubled; ends = c.closes.ends };
  len = (let l : m ≡ length c.body + 1 = c.len in omega arith);
}

two_further : (q b d : ℕ) (rest : List ℕ) (n m : ℕ) → eqb b q ≡ true → eqb d q ≡ true → n ≡ 2 + m → ClosesAt q rest m → ClosesAt q (b ∷ d ∷ rest) n
two_further q b d rest n m e f s c = record {
  body = b ∷ d ∷ c.body;
  more = c.more;
  closes = record { whole = ap (λ (x : List ℕ). b ∷ d ∷ x) c.closes.whole; doubled = doubled_two q b d c.body e f c.closes.doubled; ends = c.closes.ends };
  len = (let l : m ≡ length c.body + 1 = c.len in omega arith);
}

last_seen : (q b n : ℕ) (same : Bool) → eqb b q ≡ same → closing_length q (b ∷ []) ≡ Some n → ClosesAt q (b ∷ []) n
last_seen q b n true e s = at_once q b [] n e refl (sym (last_quote q b e) ∙ s)
last_seen q b n false e s = absurd (let t : further 1 (closing_length q []) ≡ Some n = sym (no_quote q b [] e) ∙ s in let u = none_left q in none_some n (ap (further 1) (sym u) ∙ t)) where
  none_some : (m : ℕ) → ◌≡◌ {A = Option ℕ} None (Some m) → ⊥
  none_some m h = cc

two_seen : (q b c : ℕ) (rest : List ℕ) (n : ℕ) (same : Bool) (same' : Bool) → eqb b q ≡ same → eqb c q ≡ same' → closing_length q (b ∷ c ∷ rest) ≡ Some n
    → ((m : ℕ) → closing_length q rest ≡ Some m → ClosesAt q rest m) → ((m : ℕ) → closing_length q (c ∷ rest) ≡ Some m → ClosesAt q (c ∷ rest) m) → ClosesAt q (b ∷ c ∷ rest) n
two_seen q b c rest n true true e f s deep shallow =
    let h = further_some 2 (closing_length q rest) n (sym (two_quotes q b c rest e f) ∙ s) in two_further q b c rest n h.0 e f h.2 (deep h.0 h.1)
two_seen q b c rest n true false e f s deep shallow = at_once q b (c ∷ rest) n e f (sym (one_quote q b c rest e f) ∙ s)
two_seen q b c rest n false same' e f s deep shallow =
    let h = further_some 1 (closing_length q (c ∷ rest)) n (sym (no_quote q b (c ∷ rest) e) ∙ s) in one_further q b (c ∷ rest) n h.0 e h.2 (shallow h.0 h.1)

pub closed_seen : (q : ℕ) (rest : List ℕ) (n : ℕ) → closing_length q rest ≡ Some n → ClosesAt q rest n
closed_seen q [] n s = absurd (let u = none_left q in cc)
closed_seen q (b ∷ []) n s = last_seen q b n (eqb b q) refl s
closed_seen q (b ∷ c ∷ rest) n s = two_seen q b c rest n (eqb b q) (eqb c q) refl refl s (closed_seen q rest) (closed_seen q (c ∷ rest))
