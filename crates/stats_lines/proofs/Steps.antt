-- `after_line` says what a line does to a draft (the part of a file that is read so far).
use Rattle.std.proofs.Common.{◌≡◌, ◌≢◌, inl, inr, ℕ, Bool, true, false, List, [], refl, subst, Option, Some, None}
use Rattle.std.specs.Prelude.{slice_get, option_map, Result, Ok, Err}
use Rattle.schema_types.specs.declared.types.Schema.{Schema}
use Rattle.schema_types.specs.declared.types.Table.{Table}
use Rattle.schema_types.specs.Validity.{IsValid}
use Rattle.stats_reading.specs.declared.draft.Draft.{Draft}
use Rattle.stats_reading.specs.declared.fault.Fault.{Fault}
use Rattle.stats_reading.specs.declared.fault.Fault.TheVariants as fault
use Rattle.stats_reading.specs.declared.line.LineKind.{LineKind}
use Rattle.stats_reading.specs.declared.line.LineKind.TheVariants as kind
use Rattle.stats_reading.specs.declared.stages.Stage.{Stage}
use Rattle.stats_reading.specs.declared.stages.Stage.TheVariants as stage
use Rattle.stats_reading.specs.Drafts.{empty_section, frequent_words, list_word, number_word, pair_ended, pair_words, table_ended, table_words, value_word, HasAllNodes, with_cut, with_frequent, with_node, with_rest, with_whole, BeginsPair, MayBeAccuracy, MayBeCut, MayBeFrequent, MayBeNode, MayBePair, MayBeRest, MayBeTable, MayBeWhole, ReadsValue}
use Rattle.stats_reading.specs.IsTaken.{LineAnswers, BeginsPairOf, WordsAreRead}
use Rattle.stats_reading.specs.Stages.{next_stage}
use Rattle.stats_reading.specs.Steps.{PairEnds, TableEnds}
use Rattle.stats_reading.specs.Valid.{IsValidDraft}
use Rattle.stats_reading.proofs.Answering.{answers_if_read, kind_not_allowed, no_text_continues}
use Rattle.stats_reading.proofs.Stepping.{ended}
use Rattle.stats_lines.specs.Searches.{when}
use Rattle.stats_lines.specs.LineForms.{line_of, line_of_bytes, Line}
use Rattle.stats_lines.specs.NextValues.{has_all_nodes, next_accuracy, next_cut, next_frequent, next_node, next_pair, next_rest, next_table, next_whole}
use Rattle.stats_lines.specs.Results.{after_line, after_line_at, after_line_or_fault, after_pair, after_table, after_words, option_then, or_rule, pair_begun}
use Rattle.stats_lines.proofs.Deciding.{Finds, Tells}
use Rattle.stats_lines.proofs.Grammar.{line_found, IsLine}
use Rattle.stats_lines.proofs.Next.{accuracy_found, cut_found, frequent_found, node_found, rest_found, tells_all_nodes, whole_found, IsNext}
use Rattle.stats_lines.proofs.Places.{begins, pair_found, table_found}

abbrev Outcome : Type 0
Outcome = Result (Unit {0}) Fault

-- a draft is found for which the line's words are read; or none is, and the line breaks a rule
record ReadsTo (Reads : Draft → Outcome → Type 0) (found : Option Draft) : Type 0 where
  taken : (t : Draft) → found ≡ Some t → Reads t (Ok tt)
  refused : found ≡ None → (t : Draft) → Reads t (Err fault.Rule)

-- ---- the words of a line spell a value

reads_value : {X : Type 0} (text : X → List ℕ × List ℕ) (MayBe : X → Type 0) (After : Draft → X → Type 0) (words : List ℕ × List ℕ) (make : X → Draft)
    → ((x : X) → MayBe x → After (make x) x) → (found : Option X) → Finds found (IsNext text MayBe words)
    → ReadsTo (λ t result. ReadsValue text MayBe (After t) words result) (option_map make found)
reads_value text MayBe After words make after None is = record { taken = λ t e. absurd (cc); refused = λ e t x may spells. is.none refl x (record { may = may; spells = spells }) }
reads_value text MayBe After words make after (Some x) is =
    let next = is.some x refl in
    record {
      taken = λ t e.
          let same : make x ≡ t = cc in
          subst (λ (y : Draft). ReadsValue text MayBe (After y) words (Ok tt)) same (record { value = x; may = next.may; spelled = next.spells; after = after x next.may });
      refused = λ e. absurd (cc);
    }

-- ---- the pair or the table that a line ends

record EndsIn (Ends : Draft → Type 0) (found : Option Draft) : Type 0 where
  some : (t : Draft) → found ≡ Some t → Ends t
  none : found ≡ None → (t : Draft) → Ends t → ⊥

whole_pair : (s : Draft) → EndsIn (λ t. HasAllNodes s × (t ≡ pair_ended s)) (when (has_all_nodes s) (Some (pair_ended s)))
whole_pair s = by (has_all_nodes s) (tells_all_nodes s)
  where
    by : (all : Bool) → Tells all (HasAllNodes s) → EndsIn (λ t. HasAllNodes s × (t ≡ pair_ended s)) (when all (Some (pair_ended s)))
    by true is = record { some = λ t e. (is.yes refl, cc); none = λ e. absurd (cc) }
    by false is = record { some = λ t e. absurd (cc); none = λ e t h. is.no refl h.0 }

as_it_is : (s : Draft) → EndsIn (λ t. t ≡ s) (Some s)
as_it_is s = record { some = λ t e. cc; none = λ e. absurd (cc) }

pair_ends : (at : Stage) (s : Draft) → EndsIn (PairEnds at s) (after_pair at s)
pair_ends stage.Start s = as_it_is s
pair_ends stage.Tables s = as_it_is s
pair_ends stage.Pairs s = as_it_is s
pair_ends stage.Whole s = as_it_is s
pair_ends stage.Frequent s = as_it_is s
pair_ends stage.Cuts s = whole_pair s
pair_ends stage.Nodes s = whole_pair s
pair_ends stage.Done s = as_it_is s

open_ends : (Ends : Draft → Type 0) (found : Option Draft) → EndsIn Ends found → EndsIn (λ t. (m : Draft) × Ends m × (t ≡ table_ended m)) (option_map table_ended found)
open_ends Ends None is = record { some = λ t e. absurd (cc); none = λ e t h. is.none refl h.0 h.1 }
open_ends Ends (Some m) is = record { some = λ t e. (m, is.some m refl, cc); none = λ e. absurd (cc) }

table_ends : (at : Stage) (s : Draft) → EndsIn (TableEnds at s) (after_table at s)
table_ends stage.Start s = open_ends (PairEnds stage.Start s) (after_pair stage.Start s) (pair_ends stage.Start s)
table_ends stage.Tables s = as_it_is s
table_ends stage.Pairs s = open_ends (PairEnds stage.Pairs s) (after_pair stage.Pairs s) (pair_ends stage.Pairs s)
table_ends stage.Whole s = open_ends (PairEnds stage.Whole s) (after_pair stage.Whole s) (pair_ends stage.Whole s)
table_ends stage.Frequent s = open_ends (PairEnds stage.Frequent s) (after_pair stage.Frequent s) (pair_ends stage.Frequent s)
table_ends stage.Cuts s = open_ends (PairEnds stage.Cuts s) (after_pair stage.Cuts s) (pair_ends stage.Cuts s)
table_ends stage.Nodes s = open_ends (PairEnds stage.Nodes s) (after_pair stage.Nodes s) (pair_ends stage.Nodes s)
table_ends stage.Done s = open_ends (PairEnds stage.Done s) (after_pair stage.Done s) (pair_ends stage.Done s)

-- ---- the words of a line, for each kind of line

table_read : (at : Stage) (schema : Schema) (s : Draft) (words : List ℕ × List ℕ) → ReadsTo (λ t result. WordsAreRead at schema kind.Table s t words result) (after_words at schema kind.Table s words)
table_read at schema s words = by (after_table at s) (table_ends at s)
  where
    by : (found : Option Draft) → EndsIn (TableEnds at s) found
        → ReadsTo (λ t result. WordsAreRead at schema kind.Table s t words result)
        (option_then found (λ m. option_map (λ v. record m { section = empty_section v.place v.rows }) (next_table schema m words)))
    by None is = record { taken = λ t e. absurd (cc); refused = λ e t. inr (inl (is.none refl, refl)) }
    by (Some m) is =
        let r = reads_value table_words (MayBeTable schema m) (λ t v. t ≡ record m { section = empty_section v.place v.rows }) words
        (λ v. record m { section = empty_section v.place v.rows }) (λ v may. refl) (next_table schema m words) (table_found schema m words) in
        record { taken = λ t e. inl (m, is.some m refl, r.taken t e); refused = λ e t. inl (m, is.some m refl, r.refused e t) }

pair_read_from : (schema : Schema) (m : Draft) (words : List ℕ × List ℕ) (found : Option Table) → slice_get schema.tables m.section.table ≡ found
    → ReadsTo (λ t result. BeginsPairOf schema t words m result) (option_then found (λ table. option_map (pair_begun table m) (next_pair table m words)))
pair_read_from schema m words None e = record { taken = λ t e. absurd (cc); refused = λ f t table is. absurd (cc) }
pair_read_from schema m words (Some table) e =
    let r = reads_value (pair_words table) (λ c. MayBePair table m c.0 c.1) (λ t c. BeginsPair table m t c.0 c.1) words (pair_begun table m)
    (λ c may. begins table m c may.filter_is) (next_pair table m words) (pair_found table m words) in
    record { taken = λ t f. other t (Ok tt) (r.taken t f); refused = λ f t. other t (Err fault.Rule) (r.refused f t) }
  where
    other : (t : Draft) (result : Outcome) → ReadsValue (pair_words table) (λ c. MayBePair table m c.0 c.1) (λ c. BeginsPair table m t c.0 c.1) words result → BeginsPairOf schema t words m result
    other t result read x is =
        let same : table ≡ x = cc in
        subst (λ (y : Table). ReadsValue (pair_words y) (λ c. MayBePair y m c.0 c.1) (λ c. BeginsPair y m t c.0 c.1) words result) same read

pair_read : (at : Stage) (schema : Schema) (s : Draft) (words : List ℕ × List ℕ) → ReadsTo (λ t result. WordsAreRead at schema kind.Pair s t words result) (after_words at schema kind.Pair s words)
pair_read at schema s words = by (after_pair at s) (pair_ends at s)
  where
    by : (found : Option Draft) → EndsIn (PairEnds at s) found
        → ReadsTo (λ t result. WordsAreRead at schema kind.Pair s t words result)
        (option_then found (λ m. option_then (slice_get schema.tables m.section.table) (λ table. option_map (pair_begun table m) (next_pair table m words))))
    by None is = record { taken = λ t e. absurd (cc); refused = λ e t. inr (inl (is.none refl, refl)) }
    by (Some m) is =
        let r = pair_read_from schema m words (slice_get schema.tables m.section.table) refl in
        record { taken = λ t e. inl (m, is.some m refl, r.taken t e); refused = λ e t. inl (m, is.some m refl, r.refused e t) }

end_read : (at : Stage) (schema : Schema) (s : Draft) (words : List ℕ × List ℕ) → ReadsTo (λ t result. WordsAreRead at schema kind.End s t words result) (after_table at s)
end_read at schema s words = let ends = table_ends at s in record { taken = ends.some; refused = λ e t u h. ends.none e u h }

words_read : (at : Stage) (schema : Schema) (k : LineKind) (s : Draft) (words : List ℕ × List ℕ) → ReadsTo (λ t result. WordsAreRead at schema k s t words result) (after_words at schema k s words)
words_read at schema kind.First s words =
    reads_value number_word MayBeAccuracy (λ t k. t ≡ record s { accuracy = k }) (words.0, []) (λ k. record s { accuracy = k }) (λ k may. refl) (next_accuracy words.0) (accuracy_found words.0)
words_read at schema kind.Table s words = table_read at schema s words
words_read at schema kind.Pair s words = pair_read at schema s words
words_read at schema kind.Whole s words =
    reads_value list_word (MayBeWhole s) (λ t l. t ≡ with_whole s l) (words.0, []) (with_whole s) (λ l may. refl) (next_whole s words.0) (whole_found s words.0)
words_read at schema kind.Frequent s words =
    reads_value frequent_words (MayBeFrequent s) (λ t f. t ≡ with_frequent s f) words (with_frequent s) (λ f may. refl) (next_frequent s words) (frequent_found s words)
words_read at schema kind.Rest s words =
    reads_value list_word (MayBeRest s) (λ t l. t ≡ with_rest s l) (words.0, []) (with_rest s) (λ l may. refl) (next_rest s words.0) (rest_found s words.0)
words_read at schema kind.Cut s words =
    reads_value value_word (MayBeCut s) (λ t v. t ≡ with_cut s v) (words.0, []) (with_cut s) (λ v may. refl) (next_cut s words.0) (cut_found s words.0)
words_read at schema kind.Node s words =
    reads_value list_word (MayBeNode s) (λ t l. t ≡ with_node s l) (words.0, []) (with_node s) (λ l may. refl) (next_node s words.0) (node_found s words.0)
words_read at schema kind.End s words = end_read at schema s words

-- ---- a line with all its words

-- the draft after the line is right, or the line's fault is
pub record IsAfter (schema : Schema) (s : Draft) (line : List ℕ) (result : Result Draft Fault) : Type 0 where
  pub taken : (t : Draft) → result ≡ Ok t → IsValid schema → IsValidDraft s.stage schema s → LineAnswers schema s t (ended line) (Ok tt)
  pub refused : (f : Fault) → result ≡ Err f → IsValid schema → IsValidDraft s.stage schema s → LineAnswers schema s s (ended line) (Err f)
  pub not_no_memory : result ≢ Err fault.NoMemory

breaks : (schema : Schema) (s : Draft) (line : List ℕ) → (IsValid schema → IsValidDraft s.stage schema s → LineAnswers schema s s (ended line) (Err fault.Syntax)) → IsAfter schema s line (Err fault.Syntax)
breaks schema s line h = record {
  taken = λ t e. absurd (cc);
  refused = λ f e. let same : fault.Syntax ≡ f = cc in subst (λ (g : Fault). IsValid schema → IsValidDraft s.stage schema s → LineAnswers schema s s (ended line) (Err g)) same h;
  not_no_memory = λ e. cc;
}

read_or_rule : (schema : Schema) (s : Draft) (bytes : List ℕ) (line : Line) (next : Stage) → IsLine bytes line → next_stage s.stage line.kind ≡ Some next
    → (found : Option Draft) → ReadsTo (λ t result. WordsAreRead s.stage schema line.kind s t (line.first, line.second) result) found → IsAfter schema s bytes (or_rule next found)
read_or_rule schema s bytes line next is e None reads = record {
  taken = λ t f. absurd (cc);
  refused = λ f g.
      let same : fault.Rule ≡ f = cc in
      subst (λ (x : Fault). IsValid schema → IsValidDraft s.stage schema s → LineAnswers schema s s (ended bytes) (Err x)) same
      (λ good valid. answers_if_read schema s s line.kind next line.first line.second bytes (Err fault.Rule) good valid is.is e (reads.refused refl s));
  not_no_memory = λ g. cc;
}
read_or_rule schema s bytes line next is e (Some t) reads = record {
  taken = λ u f.
      let same : record t { stage = next } ≡ u = cc in
      subst (λ (x : Draft). IsValid schema → IsValidDraft s.stage schema s → LineAnswers schema s x (ended bytes) (Ok tt)) same
      (λ good valid. answers_if_read schema s t line.kind next line.first line.second bytes (Ok tt) good valid is.is e (reads.taken t refl));
  refused = λ f g. absurd (cc);
  not_no_memory = λ g. cc;
}

after_stage : (schema : Schema) (s : Draft) (bytes : List ℕ) (line : Line) → IsLine bytes line → (found : Option Stage) → next_stage s.stage line.kind ≡ found
    → IsAfter schema s bytes (after_line_at schema s line found)
after_stage schema s bytes line is None e = breaks schema s bytes (λ good valid. kind_not_allowed schema s line.kind line.first line.second bytes is.is e)
after_stage schema s bytes line is (Some next) e =
    read_or_rule schema s bytes line next is e (after_words s.stage schema line.kind s (line.first, line.second)) (words_read s.stage schema line.kind s (line.first, line.second))

pub is_after : (schema : Schema) (s : Draft) (bytes : List ℕ) → IsAfter schema s bytes (after_line schema s bytes)
unfolding after_line
is_after schema s bytes = by (line_of_bytes bytes) (line_found bytes)
  where
    by : (found : Option Line) → Finds found (IsLine bytes) → IsAfter schema s bytes (after_line_or_fault schema s found)
    by None none = breaks schema s bytes (λ good valid. no_text_continues schema s bytes (λ k a b is. none.none refl (line_of k a b) (record { is = is })))
    by (Some line) found = after_stage schema s bytes line (found.some line refl) (next_stage s.stage line.kind) refl
