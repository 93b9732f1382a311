-- `Preserves` for each way to build a language: if all tokens of a text have a property, the text's value has a property that follows from it.
use Rattle.std.proofs.Common.{inl, inr, All, Contains, IfSome, List, [], ◌∷◌, ◌++◌, Option, Some, None, subst}
use Rattle.std.proofs.lemmas.List.Elements.{All-nil, All-cons, All-head, All-tail, All-contains_itself}
use Rattle.ll_grammars.specs.declared.lexeme.Lexeme.{Lexeme}
use Rattle.ll_grammars.specs.declared.terminal.Terminal.{Terminal}
use Rattle.ll_grammars.specs.Language.{Language, one, ◌▸◌, mapped, ◌∪◌, maybe, many}
use Rattle.ll_grammars.specs.Preserving.{Preserves, IsOneOf}

all_front : {X : Type 0} (P : X → Type 0) (front rest : List X) → All P (front ++ rest) → All P front
all_front P [] rest h = All-nil P
all_front P (x ∷ front) rest h = All-cons P x front (All-head P x (front ++ rest) h) (all_front P front rest (All-tail P x (front ++ rest) h))

all_rest : {X : Type 0} (P : X → Type 0) (front rest : List X) → All P (front ++ rest) → All P rest
all_rest P [] rest h = h
all_rest P (x ∷ front) rest h = all_rest P front rest (All-tail P x (front ++ rest) h)

pub preserves_one : (P : Lexeme → Type 0) (terminals : List Terminal) → Preserves P (one terminals) (IsOneOf terminals P)
preserves_one P terminals = record { kept = λ text token l h. (All-head P token [] (subst (All P) l.0 h), l.1) }

pub preserves_then : {P : Lexeme → Type 0} {A B : Type 0} {L : Language A} {M : Language B} {Q : A → Type 0} {R : B → Type 0} → Preserves P L Q → Preserves P M R → Preserves P (L ▸ M) (λ values. Q values.0 × R values.1)
preserves_then {P = P} first second = record {
  kept = λ text values l h.
      let parts : All P (l.front ++ l.rest) = subst (All P) l.whole h in
      (first.kept l.front values.0 l.first (all_front P l.front l.rest parts), second.kept l.rest values.1 l.second (all_rest P l.front l.rest parts));
}

pub preserves_mapped : {P : Lexeme → Type 0} {A B : Type 0} {L : Language A} {Q : A → Type 0} (f : A → B) (R : B → Type 0) → Preserves P L Q → ((a : A) → Q a → R (f a)) → Preserves P (mapped f L) R
preserves_mapped f R inner step = record { kept = λ text value l h. subst R l.1 (step l.0 (inner.kept text l.0 l.2 h)) }

pub preserves_union : {P : Lexeme → Type 0} {A : Type 0} {L M : Language A} {Q : A → Type 0} → Preserves P L Q → Preserves P M Q → Preserves P (L ∪ M) Q
preserves_union left right = record { kept = λ text value l h. elim l [ inl a ↦ left.kept text value a h | inr b ↦ right.kept text value b h ] }

pub preserves_maybe : {P : Lexeme → Type 0} {A : Type 0} {L : Language A} {Q : A → Type 0} → Preserves P L Q → Preserves P (maybe L) (λ value. IfSome value Q)
preserves_maybe {P = P} {A = A} {L = L} {Q = Q} inner = record { kept = at } where
  at : (text : List Lexeme) (value : Option A) → maybe L text value → All P text → IfSome value Q
  at text None l h = tt
  at text (Some value) l h = inner.kept text value l h

pub preserves_many : {P : Lexeme → Type 0} {A : Type 0} {L : Language A} {Q : A → Type 0} → Preserves P L Q → Preserves P (many L) (All Q)
preserves_many {P = P} {A = A} {L = L} {Q = Q} inner = record { kept = at } where
  at : (text : List Lexeme) (values : List A) → many L text values → All P text → All Q values
  at text [] l h = All-nil Q
  at text (value ∷ values) l h =
      let parts : All P (l.0 ++ l.1) = subst (All P) l.2 h in
      All-cons Q value values (inner.kept l.0 value l.3 (all_front P l.0 l.1 parts)) (at l.1 values l.4 (all_rest P l.0 l.1 parts))

pub kept_of_text : {A : Type 0} {L : Language A} (Q : (Lexeme → Type 0) → A → Type 0) → ((P : Lexeme → Type 0) → Preserves P L (Q P)) → (text : List Lexeme) (value : A) → L text value → Q (Contains text) value
kept_of_text Q keeps text value l = (keeps (Contains text)).kept text value l (All-contains_itself text)
