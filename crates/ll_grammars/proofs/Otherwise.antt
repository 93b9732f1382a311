-- A choice whose second alternative may be empty. The parser takes the second alternative if no text of the first one begins with the next token.
use Rattle.std.proofs.Common.{◌≡◌, Bool, true, false, cond, List, [], ◌∷◌, ◌++◌, Option, Some, None, sym, inl, inr}
use Rattle.ll_grammars.specs.declared.lexeme.Lexeme.{Lexeme}
use Rattle.ll_grammars.specs.Terminals.{apart}
use Rattle.ll_grammars.specs.Language.{Language, ◌∪◌}
use Rattle.ll_grammars.specs.Reading.{Parser, starts, read_either}
use Rattle.ll_grammars.specs.Parses.{FirstAndFollow, BeginsIn, BeginsOutside, SameHead, Splits, Parses}
use Rattle.ll_grammars.proofs.Sets.{apart_false, among_left, among_right, BeginsOutside-left, BeginsOutside-right, BeginsOutside-starts, starts_same, starts_front}

abbrev pub otherwise_shape : FirstAndFollow → FirstAndFollow → FirstAndFollow
otherwise_shape s t = record { first = s.first ++ t.first; nullable = t.nullable; more = s.first ++ (s.more ++ t.more) }

module _ {A : Type 0} {L M : Language A} {s t : FirstAndFollow} {p q : Parser A} (first : Parses L s p) (second : Parses M t q) (not_nullable : s.nullable ≡ false) (apart_ : apart s.first t.first ≡ true) where
  left_splits : (text : List Lexeme) (o : Option A) (r : List Lexeme) → Splits L text o r → Splits (L ∪ M) text o r
  left_splits text None r d = record { front = d.front; whole = d.whole; spelled = record { more = d.spelled.more; value = d.spelled.value; spelled = inl d.spelled.spelled } }
  left_splits text (Some a) r d = record { front = d.front; whole = d.whole; spelled = inl d.spelled }

  right_splits : (text : List Lexeme) (o : Option A) (r : List Lexeme) → Splits M text o r → Splits (L ∪ M) text o r
  right_splits text None r d = record { front = d.front; whole = d.whole; spelled = record { more = d.spelled.more; value = d.spelled.value; spelled = inr d.spelled.spelled } }
  right_splits text (Some a) r d = record { front = d.front; whole = d.whole; spelled = inr d.spelled }

  splits_if : (text : List Lexeme) (b : Bool) → Splits (L ∪ M) text (cond b (p text) (q text)).0 (cond b (p text) (q text)).1
  splits_if text true = left_splits text (p text).0 (p text).1 (first.splits text)
  splits_if text false = right_splits text (q text).0 (q text).1 (second.splits text)

  none_starts : (front rest : List Lexeme) → BeginsIn t front → BeginsOutside s.first rest → starts s.first (front ++ rest) ≡ false
  none_starts [] rest b stop = BeginsOutside-starts s.first rest stop
  none_starts (x ∷ front) rest b stop = apart_false s.first t.first x.terminal apart_ b

  completes : (front rest : List Lexeme) (value : A) → (L ∪ M) front value → BeginsOutside (s.first ++ (s.more ++ t.more)) rest → read_either s.first p q (front ++ rest) ≡ (Some value, rest)
  completes front rest value (inl l) stop = rw (starts_front s front rest not_nullable (first.begins front value l)) (first.complete front rest value l (BeginsOutside-left s.more t.more rest (BeginsOutside-right s.first (s.more ++ t.more) rest stop)))
  completes front rest value (inr m) stop =
      rw (none_starts front rest (second.begins front value m) (BeginsOutside-left s.first (s.more ++ t.more) rest stop))
      (second.complete front rest value m (BeginsOutside-right s.more t.more rest (BeginsOutside-right s.first (s.more ++ t.more) rest stop)))

  begins_in : (text : List Lexeme) (value : A) → (L ∪ M) text value → BeginsIn (otherwise_shape s t) text
  begins_in [] value (inl l) = absurd (let k : s.nullable ≡ true = first.begins [] value l in cc)
  begins_in [] value (inr m) = second.begins [] value m
  begins_in (x ∷ text) value (inl l) = among_left s.first t.first x.terminal (first.begins (x ∷ text) value l)
  begins_in (x ∷ text) value (inr m) = among_right s.first t.first x.terminal (second.begins (x ∷ text) value m)

  looks_if : (front rest other : List Lexeme) → SameHead rest other → (b : Bool) → (cond b (p (front ++ rest)) (q (front ++ rest))).1 ≡ rest
      → cond b (p (front ++ other)) (q (front ++ other)) ≡ ((cond b (p (front ++ rest)) (q (front ++ rest))).0, other)
  looks_if front rest other same true stop = first.looks front rest other same stop
  looks_if front rest other same false stop = second.looks front rest other same stop

  pub otherwise : Parses (L ∪ M) (otherwise_shape s t) (read_either s.first p q)
  otherwise = record {
    some = record { more = first.some.more; value = first.some.value; spelled = inl first.some.spelled };
    begins = begins_in;
    splits = λ text. splits_if text (starts s.first text);
    complete = completes;
    looks = λ front rest other same stop. rw (sym (starts_same s.first front rest other same)) (looks_if front rest other same (starts s.first (front ++ rest)) stop);
  }
