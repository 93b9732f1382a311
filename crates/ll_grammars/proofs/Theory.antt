-- A parser that reads a language finds the value of each text. If a list of tokens is no text, the parser stops at the syntax error: no text begins
-- with the tokens that were read and the next token. This follows from two facts: the parser finds every text, and it looks at no token after the
-- token at which it stops.
use Rattle.std.proofs.Common.{◌≡◌, List, [], ◌∷◌, ◌++◌, Option, Some, None, sym, ap, subst, ◌∙◌, append_assoc}
use Rattle.std.proofs.lemmas.List.{append-nil}
use Rattle.ll_grammars.specs.declared.lexeme.Lexeme.{Lexeme}
use Rattle.ll_grammars.specs.Language.{Language, IsViablePrefix, Fails, GoesWrong}
use Rattle.ll_grammars.specs.Reading.{Parser}
use Rattle.ll_grammars.specs.Parses.{FirstAndFollow, Spelled, Parses}
use Rattle.ll_grammars.specs.Parses.SameHead.{token}

not_empty : (t : Lexeme) (ys : List Lexeme) {A : Type 0} → (o q : Option A) → ◌≡◌ {A = Option A × List Lexeme} (o, t ∷ ys) (q, []) → ⊥
not_empty t ys o q e = let k : t ∷ ys ≡ [] = ap (λ x. x.1) e in cc

viable_front : {A : Type 0} (L : Language A) (front : List Lexeme) (o : Option A) → Spelled L front o → IsViablePrefix L front
viable_front L front None v = v
viable_front L front (Some a) l = record { more = []; value = a; spelled = rw append-nil l }

fails_at : {A : Type 0} (L : Language A) (s : FirstAndFollow) (p : Parser A) → Parses L s p → (front rest : List Lexeme) → (p (front ++ rest)).1 ≡ rest
    → (((value : A) → p (front ++ rest) ≡ (Some value, []) → ⊥)) → Fails L front rest
fails_at L s p reads front [] stop no_value = λ value l. no_value value (reads.complete front [] value l tt)
fails_at L s p reads front (t ∷ rest) stop no_value = λ viable.
    let whole : p (front ++ t ∷ viable.more) ≡ ((p (front ++ t ∷ rest)).0, t ∷ viable.more) = reads.looks front (t ∷ rest) (t ∷ viable.more) (token t rest viable.more) stop in
    let l : L (front ++ t ∷ viable.more) viable.value = rw append_assoc at viable.spelled in
    let done : p ((front ++ t ∷ viable.more) ++ []) ≡ (Some viable.value, []) = reads.complete (front ++ t ∷ viable.more) [] viable.value l tt in
    let done' : p (front ++ t ∷ viable.more) ≡ (Some viable.value, []) = rw append-nil at done in
    not_empty t viable.more (p (front ++ t ∷ rest)).0 (Some viable.value) (sym whole ∙ done')

pub goes_wrong : {A : Type 0} (L : Language A) (s : FirstAndFollow) (p : Parser A) → Parses L s p → (text : List Lexeme)
    → ((value : A) → p text ≡ (Some value, []) → ⊥) → GoesWrong L text (p text).1
goes_wrong L s p reads text no_value =
    let split = reads.splits text in
    let stop : (p (split.front ++ (p text).1)).1 ≡ (p text).1 = ap (λ x. (p x).1) (sym split.whole) in
    record {
      front = split.front;
      whole = split.whole;
      begins = viable_front L split.front (p text).0 split.spelled;
      fails = fails_at L s p reads split.front (p text).1 stop (λ value e. no_value value (ap p split.whole ∙ e));
    }

pub spells : {A : Type 0} (L : Language A) (s : FirstAndFollow) (p : Parser A) → Parses L s p → (text : List Lexeme) (value : A) → p text ≡ (Some value, []) → L text value
spells L s p reads text value e =
    let split = reads.splits text in
    let rest_empty : (p text).1 ≡ [] = ap (λ x. x.1) e in
    let whole : text ≡ split.front ++ [] = split.whole ∙ ap (λ x. split.front ++ x) rest_empty in
    let here : split.front ≡ text = sym (whole ∙ append-nil split.front) in
    let l : Spelled L split.front (Some value) = subst (λ o. Spelled L split.front o) (ap (λ x. x.0) e) split.spelled in
    subst (λ x. L x value) here l

pub found : {A : Type 0} (L : Language A) (s : FirstAndFollow) (p : Parser A) → Parses L s p → (text : List Lexeme) (value : A) → L text value → p text ≡ (Some value, [])
found L s p reads text value l = let done : p (text ++ []) ≡ (Some value, []) = reads.complete text [] value l tt in rw append-nil at done

pub one_value : {A : Type 0} (L : Language A) (s : FirstAndFollow) (p : Parser A) → Parses L s p → (text : List Lexeme) (a b : A) → L text a → L text b → a ≡ b
one_value L s p reads text a b la lb =
    let e = sym (found L s p reads text a la) ∙ found L s p reads text b lb in
    let k : Some a ≡ Some b = ap (λ x. x.0) e in cc
