-- If the languages from which a language is built are extended, the language is extended too.
use Rattle.std.proofs.Common.{List, [], ◌∷◌, inl, inr}
use Rattle.ll_grammars.specs.declared.lexeme.Lexeme.{Lexeme}
use Rattle.ll_grammars.specs.declared.terminal.Terminal.{Terminal}
use Rattle.ll_grammars.specs.Language.{Language, ◌▸◌, mapped, ◌∪◌, many}
use Rattle.ll_grammars.specs.Rules.{first_and_others, second, listed, in_parentheses}

abbrev pub IsSublanguage : {A : Type 0} → Language A → Language A → Type 0
IsSublanguage {A} L M = (text : List Lexeme) (value : A) → L text value → M text value

pub itself_grows : {A : Type 0} (L : Language A) → IsSublanguage L L
itself_grows L text value l = l

pub then_grows : {A B : Type 0} (L L' : Language A) (M M' : Language B) → IsSublanguage L L' → IsSublanguage M M' → IsSublanguage (L ▸ M) (L' ▸ M')
then_grows L L' M M' f g text value l = record { front = l.front; rest = l.rest; whole = l.whole; first = f l.front value.0 l.first; second = g l.rest value.1 l.second }

pub made_grows : {A B : Type 0} (f : A → B) (L L' : Language A) → IsSublanguage L L' → IsSublanguage (mapped f L) (mapped f L')
made_grows f L L' h text value l = (l.0, l.1, h text l.0 l.2)

pub either_grows : {A : Type 0} (L L' M M' : Language A) → IsSublanguage L L' → IsSublanguage M M' → IsSublanguage (L ∪ M) (L' ∪ M')
either_grows L L' M M' f g text value (inl l) = inl (f text value l)
either_grows L L' M M' f g text value (inr m) = inr (g text value m)

pub many_grows : {A : Type 0} (L L' : Language A) → IsSublanguage L L' → IsSublanguage (many L) (many L')
many_grows L L' h text [] l = l
many_grows L L' h text (v ∷ values) l = (l.0, l.1, l.2, h l.0 v l.3, many_grows L L' h l.1 values l.4)

pub listed_grows : {A : Type 0} (separator : Terminal) (L L' : Language A) → IsSublanguage L L' → IsSublanguage (listed separator L) (listed separator L')
listed_grows separator L L' h = made_grows first_and_others _ _ (then_grows _ _ _ _ h (many_grows _ _ (made_grows second _ _ (then_grows _ _ _ _ (itself_grows _) h))))

pub parentheses_grow : {A : Type 0} (L L' : Language A) → IsSublanguage L L' → IsSublanguage (in_parentheses L) (in_parentheses L')
parentheses_grow L L' h = made_grows _ _ _ (then_grows _ _ _ _ (itself_grows _) (then_grows _ _ _ _ h (itself_grows _)))
