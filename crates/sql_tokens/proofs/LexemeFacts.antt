-- Steps of the loop that gives each token its terminal.
use Rattle.std.proofs.Common.{◌≡◌, ℕ, ◌<◌, List, map, length, get_or, sym, subst}
use Rattle.std.proofs.lemmas.List.Elements.{All-get_or, All-same, All-map, All-weaker}
use Rattle.std.specs.List.{All}
use Rattle.ll_grammars.specs.declared.lexeme.Lexeme.{Lexeme}
use Rattle.sql_tokens.specs.declared.token.Token.{Token}
use Rattle.sql_tokens.specs.Words.{IsTokenOf, IsLexemeOf, lexeme_of}

pub token_at : (text : List ℕ) (tokens : List Token) (i : ℕ) (t : Token) → i < length tokens → t ≡ get_or tokens i t → All (IsTokenOf text) tokens → IsTokenOf text t
token_at text tokens i t lt e all = subst (λ (x : Token). IsTokenOf text x) (sym e) (All-get_or (IsTokenOf text) tokens i t lt all)

pub lexemes_within : (text : List ℕ) (tokens : List Token) (found : List Lexeme) → found ≡ map (lexeme_of text) tokens → All (IsTokenOf text) tokens → All (IsLexemeOf text) found
lexemes_within text tokens found e all =
    All-same (IsLexemeOf text) found (map (lexeme_of text) tokens) e
    (All-map (IsLexemeOf text) (lexeme_of text) tokens
    (All-weaker (IsTokenOf text) (λ t. IsLexemeOf text (lexeme_of text t)) (λ t is. record { begins = is.begins; within = is.within; utf8 = is.utf8 }) tokens all))
