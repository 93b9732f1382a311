-- `IsLexed` allows the computed tokens of a text, and `IsBad` the computed byte offset of its error.
use Rattle.std.proofs.Common.{◌≡◌, ℕ, ◌-◌, Bool, true, false, cond, List, length, take, drop, Result, Ok, Err, refl, sym, ap, ◌∙◌, inl}
use Rattle.std.proofs.lemmas.Bool.{false≢true}
use Rattle.std.proofs.lemmas.List.{take_rest}
use Rattle.std.proofs.lemmas.Str.{IsUtf8-from_is_utf8, is_utf8-from_IsUtf8}
use Rattle.std.specs.Str.{IsUtf8, is_utf8}
use Rattle.std.specs.Str.Lossy.{utf8_valid_len}
use Rattle.sql_tokens.specs.declared.token.Token.{Token}
use Rattle.sql_tokens.specs.declared.token.LexError.TheVariants as error
use Rattle.sql_tokens.specs.Lexing.{byte_order_mark_len, IsLexed, IsBad}
use Rattle.sql_tokens.specs.Pieces.{Walked, tokens_at}
use Rattle.sql_tokens.proofs.WholeTexts.{lexed_result, refused_result}
use Rattle.text_answers.specs.Stages.{tokens_of}

abbrev pub AreTokensOrPlace : List ℕ → Result (List Token) ℕ → Type 0
AreTokensOrPlace text (Ok tokens) = IsLexed text tokens
AreTokensOrPlace text (Err at) = IsBad text at

cut_walk : (text : List ℕ) → tokens_at (byte_order_mark_len text) (take (length text - byte_order_mark_len text) (drop (byte_order_mark_len text) text)) ≡ tokens_at (byte_order_mark_len text) (drop (byte_order_mark_len text) text)
cut_walk text = ap (tokens_at (byte_order_mark_len text)) (take_rest text (byte_order_mark_len text))

walk_allowed : (text : List ℕ) (walked : Walked) → IsUtf8 text → tokens_at (byte_order_mark_len text) (drop (byte_order_mark_len text) text) ≡ walked → AreTokensOrPlace text walked
walk_allowed text (Ok tokens) utf8 e = lexed_result text (byte_order_mark_len text) refl utf8 (Ok tokens) (cut_walk text ∙ e)
walk_allowed text (Err at) utf8 e = refused_result text (byte_order_mark_len text) refl utf8 (Err (error.Bad at)) (cut_walk text ∙ e)

pub tokens_or_error : (text : List ℕ) → AreTokensOrPlace text (tokens_of text)
unfolding tokens_of
tokens_or_error text = by (is_utf8 text) refl where
  by : (valid : Bool) → is_utf8 text ≡ valid → AreTokensOrPlace text (cond valid (tokens_at (byte_order_mark_len text) (drop (byte_order_mark_len text) text)) (Err (utf8_valid_len text)))
  by true e = walk_allowed text (tokens_at (byte_order_mark_len text) (drop (byte_order_mark_len text) text)) (IsUtf8-from_is_utf8 text e) refl
  by false e = inl (record { bad = λ utf8. false≢true (sym e ∙ is_utf8-from_IsUtf8 text utf8); here = refl })
