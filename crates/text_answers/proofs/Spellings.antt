-- If a parser reads a language, its result for all tokens of a text is correct. The tokens spell the returned value, or their syntax error is at the
-- returned byte offset.
use Rattle.std.proofs.Common.{◌≡◌, ℕ, List, [], ◌∷◌, Option, Some, None, Result, Ok, Err, refl}
use Rattle.ll_grammars.specs.declared.lexeme.Lexeme.{Lexeme}
use Rattle.ll_grammars.specs.Language.{Language}
use Rattle.ll_grammars.specs.Places.{IsSyntaxErrorAt}
use Rattle.ll_grammars.specs.Reading.{Parser}
use Rattle.ll_grammars.specs.Parses.{FirstAndFollow, Parses}
use Rattle.ll_grammars.specs.Rules.{next_token_start}
use Rattle.ll_grammars.proofs.Ends.{spelled, wrong_after, wrong_at}
use Rattle.text_answers.specs.Stages.{to_the_end, parsed}

abbrev pub SpellsOrGoesWrong : {A : Type 0} → Language A → List Lexeme → ℕ → Result A ℕ → Type 0
SpellsOrGoesWrong L tokens text_len (Ok value) = L tokens value
SpellsOrGoesWrong L tokens text_len (Err at) = IsSyntaxErrorAt L tokens text_len at

pub is_spelling : {A : Type 0} {L : Language A} {s : FirstAndFollow} {p : Parser A} → Parses L s p → (tokens : List Lexeme) (text_len : ℕ) → SpellsOrGoesWrong L tokens text_len (parsed p text_len tokens)
is_spelling {A = A} {L = L} {p = p} reads tokens text_len = by (p tokens).0 (p tokens).1 refl where
  by : (found : Option A) (rest : List Lexeme) → p tokens ≡ (found, rest) → SpellsOrGoesWrong L tokens text_len (to_the_end text_len found rest)
  by None rest e = wrong_at reads tokens rest text_len (next_token_start rest text_len) e refl
  by (Some value) [] e = spelled reads tokens value [] e refl
  by (Some value) (token ∷ rest) e = wrong_after reads tokens value (token ∷ rest) text_len token.start e refl refl
