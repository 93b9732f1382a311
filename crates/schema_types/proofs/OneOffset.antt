-- A list of tokens has a syntax error at one byte offset at most. If it spells a value, it has no syntax error.
use Rattle.std.proofs.Common.{◌≡◌, ℕ, List, [], ◌∷◌, ◌++◌, sym, ◌∙◌, ap, subst, append_assoc}
use Rattle.std.proofs.lemmas.List.{append-nil}
use Rattle.ll_grammars.specs.declared.lexeme.Lexeme.{Lexeme}
use Rattle.ll_grammars.specs.Language.{Language, IsViablePrefix, Fails}
use Rattle.ll_grammars.specs.Places.{IsSyntaxErrorAt}
use Rattle.ll_grammars.specs.Rules.{next_token_start}

module _ {A : Type 0} (L : Language A) where
  shorter : (front more : List Lexeme) → IsViablePrefix L (front ++ more) → IsViablePrefix L front
  shorter front more viable = record { more = more ++ viable.more; value = viable.value; spelled = subst (λ text. L text viable.value) (append_assoc front more viable.more) viable.spelled }

  -- the syntax error isn't after `front` if `front` with one more token still begins a text of the language
  goes_on : (front rest more : List Lexeme) (token : Lexeme) → rest ≡ token ∷ more → Fails L front rest → IsViablePrefix L (front ++ token ∷ []) → ⊥
  goes_on front rest more token e fails viable = let f : Fails L front (token ∷ more) = subst (λ r. Fails L front r) e fails in f viable

  one_rest : (done first first_rest second second_rest : List Lexeme) → first ++ first_rest ≡ second ++ second_rest → IsViablePrefix L (done ++ first) → Fails L (done ++ first) first_rest → IsViablePrefix L (done ++ second) → Fails L (done ++ second) second_rest → first_rest ≡ second_rest
  one_rest done [] r [] s e v f w g = e
  one_rest done [] r (token ∷ second) s e v f w g =
      absurd (goes_on done r (second ++ s) token e (subst (λ front. Fails L front r) (append-nil done) f)
      (shorter (done ++ token ∷ []) second (subst (IsViablePrefix L) (sym (append_assoc done (token ∷ []) second)) w)))
  one_rest done (token ∷ first) r [] s e v f w g =
      absurd (goes_on done s (first ++ r) token (sym e) (subst (λ front. Fails L front s) (append-nil done) g)
      (shorter (done ++ token ∷ []) first (subst (IsViablePrefix L) (sym (append_assoc done (token ∷ []) first)) v)))
  one_rest done (token ∷ first) r (other ∷ second) s e v f w g =
      let same : token ≡ other = cc in
      let tails : first ++ r ≡ second ++ s = cc in
      let here : (done ++ token ∷ []) ++ first ≡ done ++ token ∷ first = append_assoc done (token ∷ []) first in
      let there : (done ++ token ∷ []) ++ second ≡ done ++ other ∷ second = append_assoc done (token ∷ []) second ∙ ap (λ t. done ++ t ∷ second) same in
      one_rest (done ++ token ∷ []) first r second s tails
      (subst (IsViablePrefix L) (sym here) v) (subst (λ front. Fails L front r) (sym here) f)
      (subst (IsViablePrefix L) (sym there) w) (subst (λ front. Fails L front s) (sym there) g)

  pub one_error_offset : (tokens : List Lexeme) (text_len at other : ℕ) → IsSyntaxErrorAt L tokens text_len at → IsSyntaxErrorAt L tokens text_len other → at ≡ other
  one_error_offset tokens text_len at other p q =
      let rests : p.rest ≡ q.rest = one_rest [] p.wrong.front p.rest q.wrong.front q.rest (sym p.wrong.whole ∙ q.wrong.whole) p.wrong.begins p.wrong.fails q.wrong.begins q.wrong.fails in
      p.here ∙ ap (λ rest. next_token_start rest text_len) rests ∙ sym q.here

  not_wrong : (front rest : List Lexeme) (value : A) → L (front ++ rest) value → Fails L front rest → ⊥
  not_wrong front [] value l fails = fails value (subst (λ text. L text value) (append-nil front) l)
  not_wrong front (token ∷ rest) value l fails =
      fails (record { more = rest; value = value; spelled = subst (λ text. L text value) (sym (append_assoc front (token ∷ []) rest)) l })

  pub not_spelled : (tokens : List Lexeme) (text_len at : ℕ) (value : A) → L tokens value → IsSyntaxErrorAt L tokens text_len at → ⊥
  not_spelled tokens text_len at value l p = not_wrong p.wrong.front p.rest value (subst (λ text. L text value) p.wrong.whole l) p.wrong.fails
