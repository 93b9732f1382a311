-- Parsers that are alike on some lists of tokens: they give the same answer for each of these lists. If parsers are built in the same way from parts
-- that are alike, they are alike too.
use Rattle.std.proofs.Common.{◌≡◌, ℕ, zero, suc, cond, Option, Some, None, List, [], ◌∷◌, ◌++◌, length, refl, ap, subst, ◌∙◌}
use Rattle.ll_grammars.specs.declared.lexeme.Lexeme.{Lexeme}
use Rattle.ll_grammars.specs.declared.terminal.Terminal.{Terminal}
use Rattle.ll_grammars.specs.Language.{Language}
use Rattle.ll_grammars.specs.Reading.{Parser, Answer, next, ◌>>=◌, starts, give, read_second, read_then, read_mapped, read_maybe, read_others, read_up_to, read_many}
use Rattle.ll_grammars.specs.Parses.{FirstAndFollow, Splits, Parses}

abbrev pub AreAlikeOn : {A : Type 0} → (List Lexeme → Type 0) → Parser A → Parser A → Type 0
AreAlikeOn P p q = (text : List Lexeme) → P text → p text ≡ q text

abbrev pub StaysIn : {A : Type 0} → (List Lexeme → Type 0) → Parser A → Type 0
StaysIn {A} P p = (text : List Lexeme) (value : A) (rest : List Lexeme) → p text ≡ (Some value, rest) → P text → P rest

module _ (P : List Lexeme → Type 0) where
  pub itself_alike : {A : Type 0} (p : Parser A) → AreAlikeOn P p p
  itself_alike p text holds = refl

  pub stays : {A : Type 0} {L : Language A} {s : FirstAndFollow} {p : Parser A} → Parses L s p → ((front rest : List Lexeme) (value : A) → L front value → P (front ++ rest) → P rest) → StaysIn P p
  stays {A = A} {L = L} {p = p} reads h text value rest e holds = at (p text).0 (p text).1 e (reads.splits text) where
    at : (o : Option A) (r : List Lexeme) → ◌≡◌ {A = Answer A} (o, r) (Some value, rest) → Splits L text o r → P rest
    at None r e d = absurd (let k : ◌≡◌ {A = Option A} None (Some value) = ap (λ x. x.0) e in cc)
    at (Some b) r e d = subst P (ap (λ x. x.1) e) (h d.front r b d.spelled (subst P d.whole holds))

  bind_alike : {A B : Type 0} (p p' : Parser A) (f g : A → Parser B) → StaysIn P p → AreAlikeOn P p p' → ((a : A) → AreAlikeOn P (f a) (g a)) → AreAlikeOn P (λ text. p text >>= f) (λ text. p' text >>= g)
  bind_alike {A = A} {B = B} p p' f g stay same same' text holds = at (p text).0 (p text).1 refl ∙ ap (λ x. x >>= g) (same text holds) where
    at : (o : Option A) (r : List Lexeme) → p text ≡ (o, r) → next o r f ≡ next o r g
    at None r e = refl
    at (Some a) r e = same' a r (stay text a r e holds)

  pub then_alike : {A B : Type 0} (p p' : Parser A) (q q' : Parser B) → StaysIn P p → AreAlikeOn P p p' → AreAlikeOn P q q' → AreAlikeOn P (read_then p q) (read_then p' q')
  then_alike p p' q q' stay same same' = bind_alike p p' (read_second q) (read_second q') stay same (λ a text holds. ap (λ x. x >>= λ b. give (a, b)) (same' text holds))

  pub made_alike : {A B : Type 0} (f : A → B) (p p' : Parser A) → AreAlikeOn P p p' → AreAlikeOn P (read_mapped f p) (read_mapped f p')
  made_alike f p p' same text holds = ap (λ x. x >>= λ a. give (f a)) (same text holds)

  pub maybe_alike : {A : Type 0} (first : List Terminal) (p p' : Parser A) → AreAlikeOn P p p' → AreAlikeOn P (read_maybe first p) (read_maybe first p')
  maybe_alike first p p' same text holds = ap (λ x. cond (starts first text) (x >>= λ a. give (Some a)) (give None text)) (same text holds)

  up_to_alike : {A : Type 0} (n : ℕ) (first : List Terminal) (p p' : Parser A) → StaysIn P p → AreAlikeOn P p p' → AreAlikeOn P (read_up_to n first p) (read_up_to n first p')
  up_to_alike zero first p p' stay same text holds = refl
  up_to_alike (suc n) first p p' stay same text holds =
      let others : AreAlikeOn P (read_up_to n first p) (read_up_to n first p') = up_to_alike n first p p' stay same in
      ap (λ x. cond (starts first text) x (give [] text))
      (bind_alike p p' (read_others (read_up_to n first p)) (read_others (read_up_to n first p')) stay same (λ a rest holds. ap (λ x. x >>= λ values. give (a ∷ values)) (others rest holds)) text holds)

  pub many_alike : {A : Type 0} (first : List Terminal) (p p' : Parser A) → StaysIn P p → AreAlikeOn P p p' → AreAlikeOn P (read_many first p) (read_many first p')
  unfolding read_many
  many_alike first p p' stay same text holds = up_to_alike (length text) first p p' stay same text holds
