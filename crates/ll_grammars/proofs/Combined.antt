-- The lemmas of the theory with implicit arguments, and lemmas for common forms of grammar rules.
use Rattle.std.proofs.Common.{◌≡◌, false, true, inl, inr, Option, Some, None, List, [], ◌∷◌, ◌++◌, refl}
use Rattle.ll_grammars.specs.declared.lexeme.Lexeme.{Lexeme}
use Rattle.ll_grammars.specs.declared.terminal.Terminal.{Terminal}
use Rattle.ll_grammars.specs.declared.terminal.Terminal.TheVariants as terminal
use Rattle.ll_grammars.specs.Terminals.{among, apart}
use Rattle.ll_grammars.specs.Language.{Language, ◌▸◌, mapped, ◌∪◌, maybe, many}
use Rattle.ll_grammars.specs.Reading.{Parser, read_then, read_mapped, read_either, read_maybe, read_many}
use Rattle.ll_grammars.specs.Parses.{FirstAndFollow, Parses, BeginsIn, Splits}
use Rattle.ll_grammars.specs.Rules.{middle, word, in_parentheses, read_word, read_in_parentheses}
use Rattle.ll_grammars.proofs.Sets.{among_right, BeginsOutside-right}
use Rattle.ll_grammars.proofs.Steps.{one_shape, then_shape, either_shape, maybe_shape, reads_one, reads_then, reads_mapped, reads_either, reads_maybe}
use Rattle.ll_grammars.proofs.Repeats.{many_shape, reads_many}

pub in_sequence : {A B : Type 0} {L : Language A} {M : Language B} {s t : FirstAndFollow} {p : Parser A} {q : Parser B} → Parses L s p → Parses M t q → apart s.more t.first ≡ true → Parses (L ▸ M) (then_shape s t) (read_then p q)
in_sequence first second h = reads_then _ _ _ _ _ _ first second h

pub with_value : {A B : Type 0} {L : Language A} {s : FirstAndFollow} {p : Parser A} → (f : A → B) → Parses L s p → Parses (mapped f L) s (read_mapped f p)
with_value f reads = reads_mapped _ f _ _ reads

pub choice : {A : Type 0} {L M : Language A} {s t : FirstAndFollow} {p q : Parser A} → Parses L s p → Parses M t q → s.nullable ≡ false → t.nullable ≡ false → apart s.first t.first ≡ true → Parses (L ∪ M) (either_shape s t) (read_either s.first p q)
choice first second not_nullable not_nullable' h = reads_either _ _ _ _ _ _ first second not_nullable not_nullable' h

pub option : {A : Type 0} {L : Language A} {s : FirstAndFollow} {p : Parser A} → Parses L s p → s.nullable ≡ false → Parses (maybe L) (maybe_shape s) (read_maybe s.first p)
option reads not_nullable = reads_maybe _ _ _ reads not_nullable

pub repeat : {A : Type 0} {L : Language A} {s : FirstAndFollow} {p : Parser A} → Parses L s p → s.nullable ≡ false → apart s.more s.first ≡ true → Parses (many L) (many_shape s) (read_many s.first p)
repeat reads not_nullable h = reads_many _ _ _ reads not_nullable h

abbrev pub some_token : Terminal → Lexeme
some_token t = record { terminal = t; start = 0; end = 0 }

abbrev pub word_shape : Terminal → FirstAndFollow
word_shape t = one_shape (t ∷ [])

pub a_word : (t : Terminal) → among (t ∷ []) t ≡ true → Parses (word t) (word_shape t) (read_word t)
a_word t e = reads_one (t ∷ []) (some_token t) e

abbrev pub parentheses_shape : FirstAndFollow → FirstAndFollow
parentheses_shape s = then_shape (word_shape terminal.Open) (then_shape s (word_shape terminal.Close))

pub parenthesized : {A : Type 0} {L : Language A} {s : FirstAndFollow} {p : Parser A} → Parses L s p → apart s.more (terminal.Close ∷ []) ≡ true → Parses (in_parentheses L) (parentheses_shape s) (read_in_parentheses p)
parenthesized reads h = with_value middle (in_sequence (a_word terminal.Open refl) (in_sequence reads (a_word terminal.Close refl) h) refl)

abbrev pub next_shape : Terminal → FirstAndFollow → FirstAndFollow
next_shape separator s = then_shape (word_shape separator) s

abbrev pub listed_shape : Terminal → FirstAndFollow → FirstAndFollow
listed_shape separator s = then_shape s (many_shape (next_shape separator s))

-- ---- a language with the same texts and values as another

pub reads_same : {A : Type 0} {L M : Language A} {s : FirstAndFollow} {p : Parser A} → ((text : List Lexeme) (v : A) → L text v → M text v) → ((text : List Lexeme) (v : A) → M text v → L text v) → Parses L s p → Parses M s p
reads_same {A = A} {L = L} {M = M} {s = s} {p = p} to from reads = record {
  some = record { more = reads.some.more; value = reads.some.value; spelled = to reads.some.more reads.some.value reads.some.spelled };
  begins = λ text v l. reads.begins text v (from text v l);
  splits = λ text. split text (p text).0 (p text).1 (reads.splits text);
  complete = λ front rest v l stop. reads.complete front rest v (from front v l) stop;
  looks = reads.looks;
} where
  split : (text : List Lexeme) (o : Option A) (rest : List Lexeme) → Splits L text o rest → Splits M text o rest
  split text None rest d = record { front = d.front; whole = d.whole; spelled = record { more = d.spelled.more; value = d.spelled.value; spelled = to (d.front ++ d.spelled.more) d.spelled.value d.spelled.spelled } }
  split text (Some v) rest d = record { front = d.front; whole = d.whole; spelled = to d.front v d.spelled }

-- ---- a choice between two languages, if one of them has no text

pub right_only : {A : Type 0} {L M : Language A} {t : FirstAndFollow} {q : Parser A} → (s : FirstAndFollow) → ((text : List Lexeme) (v : A) → L text v → ⊥) → Parses M t q → t.nullable ≡ false → Parses (L ∪ M) (either_shape s t) q
right_only {A = A} {L = L} {M = M} {t = t} {q = q} s none reads not_nullable = record {
  some = record { more = reads.some.more; value = reads.some.value; spelled = inr reads.some.spelled };
  begins = λ text v l. elim l [ inl a ↦ absurd (none text v a) | inr m ↦ wider text (reads.begins text v m) ];
  splits = λ text. split text (q text).0 (q text).1 (reads.splits text);
  complete = λ front rest v l stop. elim l [ inl a ↦ absurd (none front v a) | inr m ↦ reads.complete front rest v m (BeginsOutside-right s.more t.more rest stop) ];
  looks = reads.looks;
} where
  wider : (text : List Lexeme) → BeginsIn t text → BeginsIn (either_shape s t) text
  wider [] b = absurd cc
  wider (x ∷ text) b = among_right s.first t.first x.terminal b

  split : (text : List Lexeme) (o : Option A) (rest : List Lexeme) → Splits M text o rest → Splits (L ∪ M) text o rest
  split text None rest d = record { front = d.front; whole = d.whole; spelled = record { more = d.spelled.more; value = d.spelled.value; spelled = inr d.spelled.spelled } }
  split text (Some v) rest d = record { front = d.front; whole = d.whole; spelled = inr d.spelled }
