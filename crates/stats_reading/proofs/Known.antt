-- Some words aren't tested before they are read. If they are taken, the grammar allows them.
use Rattle.std.proofs.Common.{◌≡◌, ℕ, ◌≤◌, inl, inr, List, [], ◌∷◌, ap, subst, refl, Bool, true, false, Some}
use Rattle.std.specs.Prelude.{Ok, Err}
use Rattle.schema_types.specs.declared.types.Kind.{Kind}
use Rattle.schema_types.specs.declared.types.Kind.TheVariants as kinds
use Rattle.schema_types.specs.declared.types.Schema.{Schema}
use Rattle.stats_file.specs.declared.types.Datum.{Datum}
use Rattle.stats_file.specs.declared.types.Datum.TheVariants as datum
use Rattle.stats_file.specs.declared.types.PairStats.{PairStats}
use Rattle.stats_file.specs.Grammar.{IsListWord, IsValueWord}
use Rattle.stats_file.specs.Lines.{datum_text}
use Rattle.stats_file.specs.Rules.{IsList, IsOfKind, KeepsRules}
use Rattle.stats_file.proofs.WordFacts.{hex_word, list_word as list_is_word, signed_numeral}
use Rattle.stats_words.specs.Runs.{list_text}
use Rattle.stats_reading.specs.declared.draft.Draft.{Draft}
use Rattle.stats_reading.specs.declared.fault.Fault.{Fault}
use Rattle.stats_reading.specs.declared.fault.Fault.TheVariants as fault
use Rattle.stats_reading.specs.declared.line.LineKind.{LineKind}
use Rattle.stats_reading.specs.declared.line.LineKind.TheVariants as kind
use Rattle.stats_reading.specs.declared.stages.Stage.{Stage}
use Rattle.stats_reading.specs.declared.stages.Stage.TheVariants as stage
use Rattle.stats_reading.specs.IsTaken.{LineAnswers, WordsAreRead}
use Rattle.stats_reading.specs.Kinds.{is_tested, AreLineParts, HasEmptySecond, IsFaultOf, IsLineOf, MayBeLineOf}
use Rattle.stats_reading.specs.Remaining.{file_of_draft, section_of}
use Rattle.stats_reading.specs.Stages.{next_stage, TextRemaining}
use Rattle.stats_reading.specs.Valid.{IsValidDraft}
use Rattle.stats_reading.proofs.Answering.{no_text_continues}
use Rattle.stats_reading.proofs.RuleFacts.{section_at}
use Rattle.stats_reading.proofs.Stepping.{ended}
use Rattle.stats_words.proofs.TextFacts.{utf8_bytes}

-- ---- words

rows_within_limit : (schema : Schema) (s : Draft) (pair : PairStats) → KeepsRules schema (file_of_draft s (section_of s (pair ∷ []) ∷ [])) → s.section.rows ≤ 4000000
rows_within_limit schema s pair keeps = (section_at schema s (pair ∷ []) [] keeps).rows

list_known : (rows : ℕ) (list word : List ℕ) → rows ≤ 4000000 → IsList rows list → list_text list ≡ word → IsListWord word
list_known rows list word within_limit is e = subst IsListWord e (list_is_word rows list within_limit is)

value_text_is_word : (k : Kind) (v : Datum) → IsOfKind k v → IsValueWord (datum_text v)
value_text_is_word kinds.Int (datum.Int n) fits = inl (signed_numeral n fits)
value_text_is_word kinds.Int (datum.Text bytes) never = absurd never
value_text_is_word (kinds.Text most) (datum.Int n) never = absurd never
value_text_is_word (kinds.Text most) (datum.Text bytes) utf8 = inr (hex_word bytes (utf8_bytes bytes utf8))

value_known : (k : Kind) (v : Datum) (word : List ℕ) → IsOfKind k v → datum_text v ≡ word → IsValueWord word
value_known k v word is e = subst IsValueWord e (value_text_is_word k v is)

-- ---- lines

abbrev first_word : List ℕ × List ℕ → List ℕ
first_word words = words.0

abbrev second_word : List ℕ × List ℕ → List ℕ
second_word words = words.1

pub taken_words_are_allowed : (at : Stage) (k : LineKind) (next : Stage) (schema : Schema) (s t : Draft) (a b : List ℕ) (done : Unit {0}) → next_stage at k ≡ Some next → is_tested k ≡ false
    → HasEmptySecond k b → IsValidDraft at schema s → WordsAreRead at schema k s t (a, b) (Ok done) → AreLineParts k a b
taken_words_are_allowed stage.Start kind.First next schema s t a b done to untested empty_second v h = absurd (cc)
taken_words_are_allowed stage.Tables kind.Table next schema s t a b done to untested empty_second v h = absurd (cc)
taken_words_are_allowed stage.Tables kind.End next schema s t a b done to untested empty_second v h = absurd (cc)
taken_words_are_allowed stage.Pairs kind.Pair next schema s t a b done to untested empty_second v h = absurd (cc)
taken_words_are_allowed stage.Pairs kind.Table next schema s t a b done to untested empty_second v h = absurd (cc)
taken_words_are_allowed stage.Pairs kind.End next schema s t a b done to untested empty_second v h = absurd (cc)
taken_words_are_allowed stage.Whole kind.Whole next schema s t a b done to untested empty_second v h =
    (list_known s.section.rows h.value a (rows_within_limit schema s v.pair v.keeps) h.may.0 (ap first_word h.spelled), empty_second refl)
taken_words_are_allowed stage.Frequent kind.Frequent next schema s t a b done to untested empty_second v h =
    (value_known s.kind h.value.0 a h.may.0 (ap first_word h.spelled), list_known s.section.rows h.value.1 b (rows_within_limit schema s v.pair v.keeps) h.may.1 (ap second_word h.spelled))
taken_words_are_allowed stage.Frequent kind.Rest next schema s t a b done to untested empty_second v h =
    (list_known s.section.rows h.value a (rows_within_limit schema s v.pair v.keeps) h.may.0 (ap first_word h.spelled), empty_second refl)
taken_words_are_allowed stage.Cuts kind.Cut next schema s t a b done to untested empty_second v h = (value_known s.kind h.value a h.may.0 (ap first_word h.spelled), empty_second refl)
taken_words_are_allowed stage.Cuts kind.Node next schema s t a b done to untested empty_second v h =
    (list_known s.section.rows h.value a (rows_within_limit schema s v.pair v.keeps) h.may.0 (ap first_word h.spelled), empty_second refl)
taken_words_are_allowed stage.Nodes kind.Node next schema s t a b done to untested empty_second v h =
    (list_known s.section.rows h.value a (rows_within_limit schema s v.pair v.keeps) h.may.0 (ap first_word h.spelled), empty_second refl)
taken_words_are_allowed _ _ next schema s t a b done to untested empty_second v h = absurd (cc)

-- ---- faults

pub no_words : (schema : Schema) (s : Draft) (k : LineKind) (a b l : List ℕ) → MayBeLineOf k a b l → (AreLineParts k a b → ⊥)
    → (more : List (List ℕ)) → TextRemaining s.stage (ended l ∷ more) → ⊥
no_words schema s k a b l may none = no_text_continues schema s l (λ j f g is. none (may.only j f g is))

-- a line that the grammar doesn't have gets the fault Syntax, even if a rule refused it first
pub answers_with_fault : (schema : Schema) (s t : Draft) (k : LineKind) (a b l : List ℕ) (old new : Fault) → MayBeLineOf k a b l → (IsLineOf k a b l → LineAnswers schema s t (ended l) (Err old))
    → IsFaultOf k a b old new → LineAnswers schema s t (ended l) (Err new)
answers_with_fault schema s t k a b l fault.Rule fault.Rule may answers is = answers (record { parts = is; whole = may.whole })
answers_with_fault schema s t k a b l fault.Rule fault.Syntax may answers is = no_words schema s k a b l may is
answers_with_fault schema s t k a b l fault.Rule fault.NoMemory may answers is = tt
answers_with_fault schema s t k a b l fault.Syntax fault.Syntax may answers is = λ more h.
    no_text_continues schema s l (λ j f g line. answers (record { parts = may.only j f g line; whole = may.whole }) more h) more h
answers_with_fault schema s t k a b l fault.Syntax fault.Rule may answers is = absurd (cc)
answers_with_fault schema s t k a b l fault.Syntax fault.NoMemory may answers is = tt
answers_with_fault schema s t k a b l fault.NoMemory fault.Syntax may answers is = absurd (cc)
answers_with_fault schema s t k a b l fault.NoMemory fault.Rule may answers is = absurd (cc)
answers_with_fault schema s t k a b l fault.NoMemory fault.NoMemory may answers is = tt

pub answers_if_taken : (schema : Schema) (s t : Draft) (k : LineKind) (a b l : List ℕ) (done : Unit {0}) → MayBeLineOf k a b l → (is_tested k ≡ true → AreLineParts k a b)
    → (is_tested k ≡ false → AreLineParts k a b) → (IsLineOf k a b l → LineAnswers schema s t (ended l) (Ok done)) → LineAnswers schema s t (ended l) (Ok done)
answers_if_taken schema s t k a b l done may tested untested answers = at (is_tested k) refl
  where
    at : (x : Bool) → is_tested k ≡ x → LineAnswers schema s t (ended l) (Ok done)
    at true e = answers (record { parts = tested e; whole = may.whole })
    at false e = answers (record { parts = untested e; whole = may.whole })
