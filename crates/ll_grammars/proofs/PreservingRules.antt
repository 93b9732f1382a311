-- `Preserves` for common forms of grammar rules: if all tokens of a text have a property, the text's value has a property that follows from it.
use Rattle.std.proofs.Common.{All, [], ◌∷◌}
use Rattle.std.proofs.lemmas.List.Elements.{All-cons}
use Rattle.ll_grammars.specs.declared.lexeme.Lexeme.{Lexeme}
use Rattle.ll_grammars.specs.declared.terminal.Terminal.{Terminal}
use Rattle.ll_grammars.specs.declared.terminal.Terminal.TheVariants as terminal
use Rattle.ll_grammars.specs.Language.{Language, ◌▸◌, mapped}
use Rattle.ll_grammars.specs.Rules.{first_and_others, second, middle, word, listed, in_parentheses}
use Rattle.ll_grammars.specs.Preserving.{Preserves, IsOneOf}
use Rattle.ll_grammars.proofs.Preserving.{preserves_one, preserves_then, preserves_mapped, preserves_many}

pub preserves_any : {P : Lexeme → Type 0} {A : Type 0} {L : Language A} → Preserves P L (λ _. Unit {0})
preserves_any = record { kept = λ text value l h. tt }

pub preserves_word : (P : Lexeme → Type 0) (t : Terminal) → Preserves P (word t) (IsOneOf (t ∷ []) P)
preserves_word P t = preserves_one P (t ∷ [])

pub preserves_after_word : {P : Lexeme → Type 0} {A : Type 0} {L : Language A} {Q : A → Type 0} (t : Terminal) → Preserves P L Q → Preserves P (mapped second (word t ▸ L)) Q
preserves_after_word {P = P} {Q = Q} t item = preserves_mapped second Q (preserves_then (preserves_word P t) item) (λ parts q. q.1)

pub preserves_listed : {P : Lexeme → Type 0} {A : Type 0} {L : Language A} {Q : A → Type 0} (separator : Terminal) → Preserves P L Q → Preserves P (listed separator L) (All Q)
preserves_listed {Q = Q} separator item = preserves_mapped first_and_others (All Q) (preserves_then item (preserves_many (preserves_after_word separator item))) (λ parts q. All-cons Q parts.0 parts.1 q.0 q.1)

pub preserves_inside : {P : Lexeme → Type 0} {A : Type 0} {L : Language A} {Q : A → Type 0} → Preserves P L Q → Preserves P (in_parentheses L) Q
preserves_inside {P = P} {Q = Q} inner = preserves_mapped middle Q (preserves_then (preserves_word P terminal.Open) (preserves_then inner (preserves_word P terminal.Close))) (λ parts q. q.1.0)
