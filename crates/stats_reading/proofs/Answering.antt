-- If the words of a line are read as `WordsAreRead` says, the result for the line satisfies its contract (`LineAnswers`).
use Rattle.std.proofs.Common.{◌≡◌, ◌≢◌, inl, ℕ, List, [], ◌∷◌, refl, ap, sym, subst, ◌∙◌, arith, Option, Some, None}
use Rattle.std.specs.Prelude.{⊤, codes, Result, Ok, Err}
use Rattle.std.proofs.lemmas.Option.{slice_get_within}
use Rattle.schema_types.specs.declared.types.Schema.{Schema}
use Rattle.schema_types.specs.Validity.{IsValid}
use Rattle.stats_file.specs.declared.types.PairStats.{PairStats}
use Rattle.stats_file.specs.declared.types.StatsFile.{StatsFile}
use Rattle.stats_reading.specs.declared.draft.Draft.{Draft}
use Rattle.stats_reading.specs.declared.fault.Fault.{Fault}
use Rattle.stats_reading.specs.declared.fault.Fault.TheVariants as fault
use Rattle.stats_reading.specs.declared.line.LineKind.{LineKind}
use Rattle.stats_reading.specs.declared.line.LineKind.TheVariants as kind
use Rattle.stats_reading.specs.declared.stages.Stage.{Stage}
use Rattle.stats_reading.specs.declared.stages.Stage.TheVariants as stage
use Rattle.stats_reading.specs.Drafts.{list_word, number_word, value_word, with_cut, with_node, with_rest, with_whole, MayBeAccuracy, MayBeCut, MayBeNode, MayBeRest, MayBeWhole, ReadsValue}
use Rattle.stats_reading.specs.IsTaken.{LineAnswers, IsReadyAt, LineIsRead, WordsAreRead}
use Rattle.stats_reading.specs.Kinds.{IsLineOf, IsNoLine}
use Rattle.stats_reading.specs.Remaining.{CutsRemaining, FileRemaining, FrequentRemaining, InFile, InPair, InTable, NodesRemaining, WholeRemaining}
use Rattle.stats_reading.specs.Stages.{next_stage, TextRemaining, TextLeftAt}
use Rattle.stats_reading.specs.Valid.{IsValidDraft, IsValidPair}
use Rattle.stats_reading.proofs.Ascending.{pairs_ascend_in_cuts, pairs_ascend_in_nodes, pairs_ascend_in_pairs, tables_ascend_in_cuts, tables_ascend_in_nodes, tables_ascend_in_pairs, tables_ascend_in_tables}
use Rattle.stats_reading.proofs.Begun.{pairs_sums_fit}
use Rattle.stats_reading.proofs.Going.{FilesByResult}
use Rattle.stats_reading.proofs.Grammar.{no_text, tag_of, text_back, text_step}
use Rattle.stats_reading.proofs.Stepping.{cut_goes, ended, frequent_goes, kind_line, line_kind, line_tag, next_node_goes, node_goes, rest_goes, whole_goes}
use Rattle.stats_reading.proofs.Tags.{tag}
use Rattle.stats_reading.proofs.BeginsAndEnds.{end_line_goes, ends_in_cuts, ends_in_nodes, ends_in_pairs, ends_in_tables, first_goes, pair_goes, table_goes, table_in_cuts, table_in_nodes, table_in_pairs, PairEnding}

-- ---- the result for a line, and the files that extend the draft before and after it

abbrev FilesGoAt : Option Stage → Stage → Schema → Draft → Draft → List ℕ → Result (Unit {0}) Fault → Type 0
FilesGoAt None at schema s t line r = ⊤
FilesGoAt (Some next) at schema s t line r = FilesByResult (FileRemaining at schema s) (FileRemaining next schema t) (IsValidDraft next schema t) line r

not_tag : (k : LineKind) (a b l : List ℕ) (n : ℕ) → IsLineOf k a b l → (tag_of k ≡ n → ⊥) → tag (ended l) ≢ n
not_tag k a b l n is other e = other (sym (line_tag k a b l is) ∙ e)

pair_ending_at_cuts : (schema : Schema) (s : Draft) (k : LineKind) (a b l : List ℕ) → IsValidDraft stage.Cuts schema s → IsLineOf k a b l → (tag_of k ≡ 99 → ⊥) → (tag_of k ≡ 110 → ⊥)
    → PairEnding stage.Cuts schema s (ended l)
pair_ending_at_cuts schema s k a b l valid is c n = ends_in_cuts schema s (ended l) valid (not_tag k a b l 99 is c) (not_tag k a b l 110 is n)

pair_ending_at_nodes : (schema : Schema) (s : Draft) (k : LineKind) (a b l : List ℕ) → IsValidDraft stage.Nodes schema s → IsLineOf k a b l → (tag_of k ≡ 99 → ⊥) → (tag_of k ≡ 110 → ⊥)
    → PairEnding stage.Nodes schema s (ended l)
pair_ending_at_nodes schema s k a b l valid is c n = ends_in_nodes schema s (ended l) valid (not_tag k a b l 99 is c) (not_tag k a b l 110 is n)

with_empty_second : {X : Type 0} (text : X → List ℕ × List ℕ) (MayBe Then : X → Type 0) (a b : List ℕ) (r : Result (Unit {0}) Fault) → b ≡ [] → ReadsValue text MayBe Then (a, []) r → ReadsValue text MayBe Then (a, b) r
with_empty_second text MayBe Then a b r none h = subst (λ (x : List ℕ). ReadsValue text MayBe Then (a, x) r) (sym none) h

files_at : (at : Stage) (k : LineKind) (schema : Schema) (s t : Draft) (a b l : List ℕ) (r : Result (Unit {0}) Fault) → IsValid schema → IsValidDraft at schema s → IsLineOf k a b l
    → WordsAreRead at schema k s t (a, b) r → FilesGoAt (next_stage at k) at schema s t (ended l) r
files_at stage.Start kind.First schema s t a b l r good valid is h =
    first_goes schema s t a b l r valid is (with_empty_second number_word MayBeAccuracy (λ k. t ≡ record s { accuracy = k }) a b r is.parts.1 h)
files_at stage.Tables kind.Table schema s t a b l r good valid is h = table_goes stage.Tables schema s t a b l r good (ends_in_tables schema s (ended l) valid) is h
files_at stage.Tables kind.End schema s t a b l r good valid is h = end_line_goes stage.Tables schema s t a b l r (ends_in_tables schema s (ended l) valid) is h
files_at stage.Pairs kind.Pair schema s t a b l r good valid is h = pair_goes stage.Pairs schema s t a b l r good (ends_in_pairs schema s (ended l) valid) is h
files_at stage.Pairs kind.Table schema s t a b l r good valid is h =
    table_goes stage.Pairs schema s t a b l r good
    (table_in_pairs schema s (ended l) (ends_in_pairs schema s (ended l) valid) (not_tag kind.Table a b l 112 is (λ e. absurd (omega (arith, e))))) is h
files_at stage.Pairs kind.End schema s t a b l r good valid is h =
    end_line_goes stage.Pairs schema s t a b l r
    (table_in_pairs schema s (ended l) (ends_in_pairs schema s (ended l) valid) (not_tag kind.End a b l 112 is (λ e. absurd (omega (arith, e))))) is h
files_at stage.Whole kind.Whole schema s t a b l r good valid is h =
    whole_goes schema s t a b l r valid is (with_empty_second list_word (MayBeWhole s) (λ v. t ≡ with_whole s v) a b r is.parts.1 h)
files_at stage.Frequent kind.Frequent schema s t a b l r good valid is h = frequent_goes schema s t a b l r valid is h
files_at stage.Frequent kind.Rest schema s t a b l r good valid is h =
    rest_goes schema s t a b l r valid is (with_empty_second list_word (MayBeRest s) (λ v. t ≡ with_rest s v) a b r is.parts.1 h)
files_at stage.Cuts kind.Cut schema s t a b l r good valid is h =
    cut_goes schema s t a b l r valid is (with_empty_second value_word (MayBeCut s) (λ v. t ≡ with_cut s v) a b r is.parts.1 h)
files_at stage.Cuts kind.Node schema s t a b l r good valid is h =
    node_goes schema s t a b l r valid is (with_empty_second list_word (MayBeNode s) (λ v. t ≡ with_node s v) a b r is.parts.1 h)
files_at stage.Cuts kind.Pair schema s t a b l r good valid is h =
    pair_goes stage.Cuts schema s t a b l r good (pair_ending_at_cuts schema s kind.Pair a b l valid is (λ e. absurd (omega (arith, e))) (λ e. absurd (omega (arith, e)))) is h
files_at stage.Cuts kind.Table schema s t a b l r good valid is h =
    table_goes stage.Cuts schema s t a b l r good
    (table_in_cuts schema s (ended l) (pair_ending_at_cuts schema s kind.Table a b l valid is (λ e. absurd (omega (arith, e))) (λ e. absurd (omega (arith, e))))
    (not_tag kind.Table a b l 112 is (λ e. absurd (omega (arith, e))))) is h
files_at stage.Cuts kind.End schema s t a b l r good valid is h =
    end_line_goes stage.Cuts schema s t a b l r
    (table_in_cuts schema s (ended l) (pair_ending_at_cuts schema s kind.End a b l valid is (λ e. absurd (omega (arith, e))) (λ e. absurd (omega (arith, e))))
    (not_tag kind.End a b l 112 is (λ e. absurd (omega (arith, e))))) is h
files_at stage.Nodes kind.Node schema s t a b l r good valid is h =
    next_node_goes schema s t a b l r valid is (with_empty_second list_word (MayBeNode s) (λ v. t ≡ with_node s v) a b r is.parts.1 h)
files_at stage.Nodes kind.Pair schema s t a b l r good valid is h =
    pair_goes stage.Nodes schema s t a b l r good (pair_ending_at_nodes schema s kind.Pair a b l valid is (λ e. absurd (omega (arith, e))) (λ e. absurd (omega (arith, e)))) is h
files_at stage.Nodes kind.Table schema s t a b l r good valid is h =
    table_goes stage.Nodes schema s t a b l r good
    (table_in_nodes schema s (ended l) (pair_ending_at_nodes schema s kind.Table a b l valid is (λ e. absurd (omega (arith, e))) (λ e. absurd (omega (arith, e))))
    (not_tag kind.Table a b l 112 is (λ e. absurd (omega (arith, e))))) is h
files_at stage.Nodes kind.End schema s t a b l r good valid is h =
    end_line_goes stage.Nodes schema s t a b l r
    (table_in_nodes schema s (ended l) (pair_ending_at_nodes schema s kind.End a b l valid is (λ e. absurd (omega (arith, e))) (λ e. absurd (omega (arith, e))))
    (not_tag kind.End a b l 112 is (λ e. absurd (omega (arith, e))))) is h
files_at _ _ schema s t a b l r good valid is h = tt

-- ---- the result for a line, and the texts of the grammar that may continue with it

abbrev end_lines : List (List ℕ)
end_lines = codes "end\n" ∷ []

pub some_text : (at : Stage) → (lines : List (List ℕ)) × TextRemaining at lines
some_text stage.Start = (
  codes "safebound-stats 1 0\n" ∷ end_lines,
  record {
    head = codes "safebound-stats 1 0\n";
    tables = [];
    head_is = record { word = codes "0"; word_is = refl; whole = refl };
    tables_are = tt;
    all = refl;
  },
)
some_text stage.Tables = (end_lines, text_back stage.Tables kind.End (codes "end\n") [] refl refl)
some_text stage.Pairs = (end_lines, text_back stage.Pairs kind.End (codes "end\n") [] refl refl)
some_text stage.Whole = (
  codes "whole -\n" ∷ (codes "rest -\n" ∷ end_lines),
  text_back stage.Whole kind.Whole (codes "whole -\n") (codes "rest -\n" ∷ end_lines) (record { word = codes "-"; word_is = inl refl; whole = refl })
      (text_back stage.Frequent kind.Rest (codes "rest -\n") end_lines (record { word = codes "-"; word_is = inl refl; whole = refl }) (text_back stage.Cuts kind.End (codes "end\n") [] refl refl)),
)
some_text stage.Frequent = (
  codes "rest -\n" ∷ end_lines,
  text_back stage.Frequent kind.Rest (codes "rest -\n") end_lines (record { word = codes "-"; word_is = inl refl; whole = refl }) (text_back stage.Cuts kind.End (codes "end\n") [] refl refl),
)
some_text stage.Cuts = (end_lines, text_back stage.Cuts kind.End (codes "end\n") [] refl refl)
some_text stage.Nodes = (end_lines, text_back stage.Nodes kind.End (codes "end\n") [] refl refl)
some_text stage.Done = ([], refl)

-- ---- the result for a line

abbrev pub staged : Draft → Stage → Draft
staged t next = record t { stage = next }

-- the draft has a stage of its own, but the remaining lines don't depend on that stage
file_staged : (schema : Schema) (t : Draft) (x y : Stage) (file : StatsFile) (more : List (List ℕ)) → InFile schema (staged t x) file more → InFile schema (staged t y) file more
file_staged schema t x y file more h = record { tables = h.tables; keeps = h.keeps; is = h.is; all = h.all }

table_staged : (schema : Schema) (t : Draft) (x y : Stage) (file : StatsFile) (more : List (List ℕ)) → InTable schema (staged t x) file more → InTable schema (staged t y) file more
table_staged schema t x y file more h =
    record { table = h.table; exists = h.exists; pairs = h.pairs; tables = h.tables; keeps = h.keeps; is = h.is; all = h.all }

pair_staged : (Left : PairStats → List (List ℕ) → Type 0) (schema : Schema) (t : Draft) (x y : Stage) (file : StatsFile) (more : List (List ℕ)) → InPair Left schema (staged t x) file more
    → InPair Left schema (staged t y) file more
pair_staged Left schema t x y file more h = record {
  table = h.table;
  exists = h.exists;
  pair = h.pair;
  own = h.own;
  left = h.left;
  pairs = h.pairs;
  tables = h.tables;
  keeps = h.keeps;
  is = h.is;
  all = h.all;
}

files_staged : (at : Stage) (schema : Schema) (t : Draft) (x y : Stage) (file : StatsFile) (more : List (List ℕ)) → FileRemaining at schema (staged t x) file more → FileRemaining at schema (staged t y) file more
files_staged stage.Start schema t x y file more h = h
files_staged stage.Tables schema t x y file more h = file_staged schema t x y file more h
files_staged stage.Pairs schema t x y file more h = table_staged schema t x y file more h
files_staged stage.Whole schema t x y file more h = pair_staged (WholeRemaining t.pair) schema t x y file more h
files_staged stage.Frequent schema t x y file more h = pair_staged (FrequentRemaining t.pair) schema t x y file more h
files_staged stage.Cuts schema t x y file more h = pair_staged (CutsRemaining t.pair) schema t x y file more h
files_staged stage.Nodes schema t x y file more h = pair_staged (NodesRemaining t.pair) schema t x y file more h
files_staged stage.Done schema t x y file more h = h

valid_pair_staged : (Left : PairStats → List (List ℕ) → Type 0) (schema : Schema) (t : Draft) (x y : Stage) → IsValidPair Left schema (staged t x) → IsValidPair Left schema (staged t y)
valid_pair_staged Left schema t x y v = record {
  table = v.table;
  exists = v.exists;
  known = record { column = v.known.column; column_is = v.known.column_is; kind_is = v.known.kind_is; same_filter_at = v.known.same_filter_at; same_joined_at = v.known.same_joined_at };
  pair = v.pair;
  own = v.own;
  left = v.left;
  keeps = v.keeps;
}

-- at the first stage the draft must be empty, so this stage is left out
valid_staged : (at : Stage) (schema : Schema) (t : Draft) (x y : Stage) → (at ≡ stage.Start → ⊥) → IsValidDraft at schema (staged t x) → IsValidDraft at schema (staged t y)
valid_staged stage.Start schema t x y other v = absurd (other refl)
valid_staged stage.Tables schema t x y other v = v
valid_staged stage.Pairs schema t x y other v = record { table = v.table; exists = v.exists; keeps = v.keeps }
valid_staged stage.Whole schema t x y other v = valid_pair_staged (WholeRemaining t.pair) schema t x y v
valid_staged stage.Frequent schema t x y other v = valid_pair_staged (FrequentRemaining t.pair) schema t x y v
valid_staged stage.Cuts schema t x y other v = valid_pair_staged (CutsRemaining t.pair) schema t x y v
valid_staged stage.Nodes schema t x y other v = valid_pair_staged (NodesRemaining t.pair) schema t x y v
valid_staged stage.Done schema t x y other v = v

starts_once : (at : Stage) (k : LineKind) → next_stage at k ≡ Some stage.Start → ⊥
starts_once stage.Start kind.First e = absurd (cc)
starts_once stage.Tables kind.Table e = absurd (cc)
starts_once stage.Tables kind.End e = absurd (cc)
starts_once stage.Pairs kind.Pair e = absurd (cc)
starts_once stage.Pairs kind.Table e = absurd (cc)
starts_once stage.Pairs kind.End e = absurd (cc)
starts_once stage.Whole kind.Whole e = absurd (cc)
starts_once stage.Frequent kind.Frequent e = absurd (cc)
starts_once stage.Frequent kind.Rest e = absurd (cc)
starts_once stage.Cuts kind.Cut e = absurd (cc)
starts_once stage.Cuts kind.Node e = absurd (cc)
starts_once stage.Cuts kind.Pair e = absurd (cc)
starts_once stage.Cuts kind.Table e = absurd (cc)
starts_once stage.Cuts kind.End e = absurd (cc)
starts_once stage.Nodes kind.Node e = absurd (cc)
starts_once stage.Nodes kind.Pair e = absurd (cc)
starts_once stage.Nodes kind.Table e = absurd (cc)
starts_once stage.Nodes kind.End e = absurd (cc)
starts_once _ _ e = absurd (cc)

pub kind_not_allowed : (schema : Schema) (s : Draft) (k : LineKind) (a b l : List ℕ) → IsLineOf k a b l → next_stage s.stage k ≡ None
    → (more : List (List ℕ)) → TextRemaining s.stage (ended l ∷ more) → ⊥
kind_not_allowed schema s k a b l is none more h = subst (λ (o : Option Stage). TextLeftAt o more) none (text_step s.stage k (ended l) more (kind_line k a b l is) h)

answers_by_result : (schema : Schema) (s t : Draft) (k : LineKind) (next : Stage) (a b l : List ℕ) (r : Result (Unit {0}) Fault) → IsLineOf k a b l → next_stage s.stage k ≡ Some next
    → FilesByResult (FileRemaining s.stage schema s) (FileRemaining next schema t) (IsValidDraft next schema t) (ended l) r → LineAnswers schema s (staged t next) (ended l) r
answers_by_result schema s t k next a b l (Ok done) is to h = record {
  files = λ file more. (
    λ x. files_staged next schema t t.stage next file more ((h.0 file more).0 x),
    λ x. (h.0 file more).1 (files_staged next schema t next t.stage file more x),
  );
  texts = λ more. (
    λ x. subst (λ (o : Option Stage). TextLeftAt o more) to (text_step s.stage k (ended l) more (kind_line k a b l is) x),
    λ x. text_back s.stage k (ended l) more (kind_line k a b l is) (subst (λ (o : Option Stage). TextLeftAt o more) (sym to) x),
  );
  valid = valid_staged next schema t t.stage next (λ e. starts_once s.stage k (to ∙ ap Some e)) h.1;
}
answers_by_result schema s t k next a b l (Err fault.Syntax) is to never = absurd never
answers_by_result schema s t k next a b l (Err fault.Rule) is to h =
    let some = some_text next in
    record {
      files = h;
      some = some.0;
      text = text_back s.stage k (ended l) some.0 (kind_line k a b l is) (subst (λ (o : Option Stage). TextLeftAt o some.0) (sym to) some.1);
    }
answers_by_result schema s t k next a b l (Err fault.NoMemory) is to any = tt

pub answers_if_read : (schema : Schema) (s t : Draft) (k : LineKind) (next : Stage) (a b l : List ℕ) (r : Result (Unit {0}) Fault) → IsValid schema → IsValidDraft s.stage schema s → IsLineOf k a b l
    → next_stage s.stage k ≡ Some next → LineIsRead schema k s t (a, b) r → LineAnswers schema s (staged t next) (ended l) r
answers_if_read schema s t k next a b l r good valid is to h =
    answers_by_result schema s t k next a b l r is to
    (subst (λ (o : Option Stage). FilesGoAt o s.stage schema s t (ended l) r) to (files_at s.stage k schema s t a b l r good valid is h))

-- if a line is refused, its result says nothing of the new draft
pub refusal_for_any_draft : (schema : Schema) (s t u : Draft) (line : List ℕ) (e : Fault) → LineAnswers schema s t line (Err e) → LineAnswers schema s u line (Err e)
refusal_for_any_draft schema s t u line fault.Syntax h = h
refusal_for_any_draft schema s t u line fault.Rule h = h
refusal_for_any_draft schema s t u line fault.NoMemory h = h

pub no_text_continues : (schema : Schema) (s : Draft) (l : List ℕ) → IsNoLine l → (more : List (List ℕ)) → TextRemaining s.stage (ended l ∷ more) → ⊥
no_text_continues schema s l none more h = no_text s.stage (ended l) more (λ k is. let found = line_kind k l is in none k found.0 found.1 found.2) h

pub is_ready : (at : Stage) (k : LineKind) (next : Stage) (schema : Schema) (s : Draft) → next_stage at k ≡ Some next → IsValidDraft at schema s → IsReadyAt at k schema s
is_ready at kind.First next schema s e v = tt
is_ready at kind.Whole next schema s e v = tt
is_ready at kind.Cut next schema s e v = tt
is_ready at kind.End next schema s e v = tt
is_ready stage.Tables kind.Table next schema s e v = tables_ascend_in_tables schema s v
is_ready stage.Pairs kind.Table next schema s e v = tables_ascend_in_pairs schema s v
is_ready stage.Cuts kind.Table next schema s e v = tables_ascend_in_cuts schema s v
is_ready stage.Nodes kind.Table next schema s e v = tables_ascend_in_nodes schema s v
is_ready stage.Pairs kind.Pair next schema s e v = (slice_get_within schema.tables s.section.table v.table v.exists, pairs_ascend_in_pairs schema s v)
is_ready stage.Cuts kind.Pair next schema s e v = (slice_get_within schema.tables s.section.table v.table v.exists, pairs_ascend_in_cuts schema s v)
is_ready stage.Nodes kind.Pair next schema s e v = (slice_get_within schema.tables s.section.table v.table v.exists, pairs_ascend_in_nodes schema s v)
is_ready stage.Frequent kind.Frequent next schema s e v = pairs_sums_fit schema v.table s (v.pair ∷ []) [] v.exists v.keeps
is_ready stage.Frequent kind.Rest next schema s e v = pairs_sums_fit schema v.table s (v.pair ∷ []) [] v.exists v.keeps
is_ready stage.Cuts kind.Node next schema s e v = pairs_sums_fit schema v.table s (v.pair ∷ []) [] v.exists v.keeps
is_ready stage.Nodes kind.Node next schema s e v = pairs_sums_fit schema v.table s (v.pair ∷ []) [] v.exists v.keeps
is_ready _ _ next schema s e v = absurd (cc)
