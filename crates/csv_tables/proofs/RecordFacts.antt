-- Each record takes at least one byte. So all records are read in at most one round more than there are bytes.
use Rattle.std.proofs.Common.{◌≡◌, ◌⊎◌, inl, inr, ℕ, zero, suc, ◌+◌, ◌≤◌, ◌<◌, List, [], ◌∷◌, length, Option, None, Some, Bool, true, false, refl, ap, arith, length-append, ◌&&◌, if◌then◌else◌}
use Rattle.std.specs.Prelude.{◌==◌}
use Rattle.csv.specs.Machine.{Read, next_record, step, is_end, ends_at_end, in_field, start_field, start_record, after_end, ends_with, is_byte, line_feed, carriage_return, fields_after, field_after}
use Rattle.csv.specs.Reading.{records_from, NextIs}
use Rattle.csv.specs.declared.parser.Config.{Config}
use Rattle.csv.specs.declared.parser.State.{State}
use Rattle.csv.specs.declared.parser.Action.{Action}
use Rattle.csv.specs.declared.parser.Action.TheVariants as act
use Rattle.csv.specs.declared.parser.Terminator.{Terminator}
use Rattle.csv.specs.declared.parser.Terminator.TheVariants as term
use Rattle.csv.specs.declared.parser.State.TheVariants as st

-- if a step ends a record, no record is begun in the state after it. So the end of the bytes ends no record there
record EndsCleanly (r : State × Action) : Type 0 where
  closes : is_end r.1 ≡ true → ends_at_end r.0 ≡ false

pick : (b : Bool) (x y : State × Action) → EndsCleanly x → EndsCleanly y → EndsCleanly (if b then x else y)
pick true x y p q = p
pick false x y p q = q

goes_on : (s : State) (a : Action) → is_end a ≡ false → EndsCleanly (s, a)
goes_on s a e = record { closes = λ h. absurd (cc) }

after_end_closes : (t : Terminator) (c : ℕ) → ends_at_end (after_end t c) ≡ false
after_end_closes term.CRLF c = elim (c == carriage_return) as (λ v. ends_at_end (if v then st.AfterCr else st.StartRecord) ≡ false) [ true ↦ refl | false ↦ refl ]
after_end_closes (term.Any t) c = refl

in_field_closes : (cfg : Config) (c : ℕ) → EndsCleanly (in_field cfg c)
in_field_closes cfg c =
    pick (c == cfg.delimiter) _ _ (goes_on _ _ refl)
    (pick (ends_with cfg.terminator c) _ _ (record { closes = λ e. after_end_closes cfg.terminator c }) (goes_on _ _ refl))

start_field_closes : (cfg : Config) (c : ℕ) → EndsCleanly (start_field cfg c)
start_field_closes cfg c = pick (cfg.quoting && (c == cfg.quote)) _ _ (goes_on _ _ refl) (in_field_closes cfg c)

start_record_closes : (cfg : Config) (c : ℕ) → EndsCleanly (start_record cfg c)
start_record_closes cfg c =
    pick (ends_with cfg.terminator c) _ _ (goes_on _ _ refl) (pick (is_byte cfg.comment c) _ _ (goes_on _ _ refl) (start_field_closes cfg c))

step_closes : (cfg : Config) (s : State) (c : ℕ) → EndsCleanly (step cfg s c)
step_closes cfg st.StartRecord c = start_record_closes cfg c
step_closes cfg st.StartField c = start_field_closes cfg c
step_closes cfg st.InField c = in_field_closes cfg c
step_closes cfg st.InQuoted c =
    pick (cfg.quoting && (c == cfg.quote)) _ _ (goes_on _ _ refl) (pick (cfg.quoting && is_byte cfg.escape c) _ _ (goes_on _ _ refl) (goes_on _ _ refl))
step_closes cfg st.InEscape c = goes_on _ _ refl
step_closes cfg st.AfterQuote c = pick (cfg.quoting && cfg.double_quote && (c == cfg.quote)) _ _ (goes_on _ _ refl) (in_field_closes cfg c)
step_closes cfg st.InComment c = pick (c == line_feed) _ _ (goes_on _ _ refl) (goes_on _ _ refl)
step_closes cfg st.AfterCr c = pick (c == line_feed) _ _ (goes_on _ _ refl) (start_record_closes cfg c)

pub from_if : (b : Bool) (q p : Read) (x : Option Read) → (if b then Some q else x) ≡ Some p → ((b ≡ true) × (q ≡ p)) ⊎ ((b ≡ false) × (x ≡ Some p))
from_if true q p x e = inl (refl, cc)
from_if false q p x e = inr (refl, e)

-- a record takes at least one byte, unless it is begun and the text is at its end
record TakesAByte (s : State) (xs : List ℕ) (p : Read) : Type 0 where
  pub closed : ends_at_end p.1 ≡ false
  pub less : ends_at_end s ≡ false → length p.2 < length xs
  pub no_more : length p.2 ≤ length xs

next_takes : (cfg : Config) (s : State) (fields : List (List ℕ)) (field xs : List ℕ) (p : Read) → next_record cfg s fields field xs ≡ Some p → TakesAByte s xs p
unfolding next_record
next_takes cfg s fields field [] p e =
    elim (from_if (ends_at_end s) _ p None e) [
      | inl h ↦ record { closed = rw (← h.1) refl; less = λ open'. absurd (cc); no_more = rw (← h.1) (omega arith) }
      | inr h ↦ absurd (cc)
    ]
next_takes cfg s fields field (c ∷ rest) p e =
    elim (from_if (is_end (step cfg s c).1) _ p _ e) [
      | inl h ↦ record { closed = rw (← h.1) ((step_closes cfg s c).closes h.0); less = λ open'. rw (← h.1) (omega arith); no_more = rw (← h.1) (omega arith) }
      | inr h ↦ let t = next_takes cfg (step cfg s c).0 (fields_after (step cfg s c).1 fields field) (field_after (step cfg s c).1 c field) rest p h.1 in
          let n : length p.2 ≤ length rest = t.no_more in
          record { closed = t.closed; less = λ open'. omega arith; no_more = omega arith }
    ]

one_field : (a : Action) (fields : List (List ℕ)) (field : List ℕ) → length (fields_after a fields field) ≤ length fields + 1
one_field act.EndField fields field = omega (arith, length-append fields (field ∷ []))
one_field act.EndRecord fields field = omega (arith, length-append fields (field ∷ []))
one_field act.Skip fields field = omega arith
one_field act.Copy fields field = omega arith

next_wide : (cfg : Config) (s : State) (fields : List (List ℕ)) (field xs : List ℕ) (p : Read) → next_record cfg s fields field xs ≡ Some p
    → length p.0 + length p.2 ≤ length fields + 1 + length xs
unfolding next_record
next_wide cfg s fields field [] p e =
    elim (from_if (ends_at_end s) _ p None e) [
      | inl h ↦ rw (← h.1) (omega (arith, length-append fields (field ∷ [])))
      | inr h ↦ absurd (cc)
    ]
next_wide cfg s fields field (c ∷ rest) p e =
    elim (from_if (is_end (step cfg s c).1) _ p _ e) [
      | inl h ↦ rw (← h.1) (omega (arith, one_field (step cfg s c).1 fields field))
      | inr h ↦
          let t : length p.0 + length p.2 ≤ length (fields_after (step cfg s c).1 fields field) + 1 + length rest =
          next_wide cfg (step cfg s c).0 (fields_after (step cfg s c).1 fields field) (field_after (step cfg s c).1 c field) rest p h.1 in
          omega (arith, one_field (step cfg s c).1 fields field)
    ]

turns_after : (cfg : Config) (s : State) (xs : List ℕ) (n m : ℕ) (o : Option Read) → next_record cfg s [] [] xs ≡ o
    → ((p : Read) → o ≡ Some p → records_from cfg n p.1 p.2 ≡ records_from cfg m p.1 p.2)
    → records_from cfg (suc n) s xs ≡ records_from cfg (suc m) s xs
unfolding records_from
turns_after cfg s xs n m None e h = rw e refl
turns_after cfg s xs n m (Some p) e h = rw e (ap (λ rest. p.0 ∷ rest) (h p refl))

pub enough_turns : (cfg : Config) (s : State) (xs : List ℕ) (n m : ℕ) → ends_at_end s ≡ false → length xs < n → length xs < m
    → records_from cfg n s xs ≡ records_from cfg m s xs
enough_turns cfg s xs zero m between lengths more = absurd (omega (arith, lengths))
enough_turns cfg s xs (suc n) zero between lengths more = absurd (omega (arith, more))
enough_turns cfg s xs (suc n) (suc m) between lengths more =
    turns_after cfg s xs n m (next_record cfg s [] [] xs) refl (λ p e.
    let t = next_takes cfg s [] [] xs p e in
    let shorter : length p.2 < length xs = t.less between in
    enough_turns cfg p.1 p.2 n m t.closed (omega (arith, lengths, shorter)) (omega (arith, more, shorter)))

pub record Found (cfg : Config) (s : State) (xs : List ℕ) (fields : List (List ℕ)) (s2 : State) (ys : List ℕ) : Type 0 where
  pub between : ends_at_end s2 ≡ false
  pub shorter : length ys ≤ length xs
  pub wide : length fields ≤ length xs + 1
  pub first : records_from cfg (length xs + 1) s xs ≡ fields ∷ records_from cfg (length ys + 1) s2 ys

found_read : (cfg : Config) (s : State) (xs : List ℕ) (p : Read) → ends_at_end s ≡ false → next_record cfg s [] [] xs ≡ Some p → Found cfg s xs p.0 p.1 p.2
unfolding records_from
found_read cfg s xs p between e =
    let t = next_takes cfg s [] [] xs p e in
    let shorter : length p.2 < length xs = t.less between in
    let one : length xs + 1 ≡ suc (length xs) = omega arith in
    record {
      between = t.closed;
      shorter = omega arith;
      wide = omega (arith, next_wide cfg s [] [] xs p e);
      first = rw one (rw e (ap (λ rest. p.0 ∷ rest) (enough_turns cfg p.1 p.2 (length xs) (length p.2 + 1) t.closed shorter (omega arith))));
    }

found_of : (cfg : Config) (s : State) (xs : List ℕ) (o : Option Read) (fields : List (List ℕ)) (s2 : State) (ys : List ℕ)
    → ends_at_end s ≡ false → next_record cfg s [] [] xs ≡ o → NextIs o true fields s2 ys → Found cfg s xs fields s2 ys
found_of cfg s xs None fields s2 ys between e n = absurd (cc n)
found_of cfg s xs (Some p) fields s2 ys between e n = rw (n.1, n.2, n.3) (found_read cfg s xs p between e)

pub first_found : (cfg : Config) (s : State) (xs : List ℕ) (fields : List (List ℕ)) (s2 : State) (ys : List ℕ)
    → ends_at_end s ≡ false → NextIs (next_record cfg s [] [] xs) true fields s2 ys → Found cfg s xs fields s2 ys
first_found cfg s xs fields s2 ys between n = found_of cfg s xs (next_record cfg s [] [] xs) fields s2 ys between refl n

pub none_found : (cfg : Config) (s : State) (xs : List ℕ) → next_record cfg s [] [] xs ≡ None → records_from cfg (length xs + 1) s xs ≡ []
unfolding records_from
none_found cfg s xs e =
    let one : length xs + 1 ≡ suc (length xs) = omega arith in
    rw one (rw e refl)
