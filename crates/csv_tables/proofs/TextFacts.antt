-- Bytes that aren't UTF-8 fail the test. Past the last field of a record, the empty field is taken.
use Rattle.std.proofs.Common.{ℕ, zero, suc, List, [], ◌∷◌, Bool, true, false, None, ◌≡◌, refl, get_or}
use Rattle.csv.specs.Records.{field_at}
use Rattle.std.specs.Prelude.{IsUtf8}
use Rattle.std.specs.Str.{is_utf8}
use Rattle.std.proofs.lemmas.Str.{IsUtf8-from_is_utf8, is_utf8-from_IsUtf8}

by_test : (bytes : List ℕ) (test : Bool) → is_utf8 bytes ≡ test → ¬ (IsUtf8 bytes) → is_utf8 bytes ≡ false
by_test bytes true e invalid = absurd (invalid (IsUtf8-from_is_utf8 bytes e))
by_test bytes false e invalid = e

pub not_text : (bytes : List ℕ) → ¬ (IsUtf8 bytes) → is_utf8 bytes ≡ false
not_text bytes invalid = by_test bytes (is_utf8 bytes) refl invalid

pub ruleset text_steps = (is_utf8-from_IsUtf8, not_text)

pub no_field : (fields : List (List ℕ)) (i : ℕ) → field_at fields i ≡ None → get_or fields i [] ≡ []
unfolding field_at
no_field [] i e = refl
no_field (f ∷ fs) zero e = absurd (cc e)
no_field (f ∷ fs) (suc i) e = no_field fs i e
