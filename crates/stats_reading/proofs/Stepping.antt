-- What each kind of line does to a draft, at each stage where the grammar allows it.
use Rattle.std.proofs.Common.{◌≡◌, ◌↔◌, ℕ, ◌^◌, ◌<◌, ◌≤◌, List, [], ◌∷◌, ◌++◌, refl, ap, sym, subst, ◌∙◌, arith, append_assoc}
use Rattle.std.specs.Prelude.{codes, Result}
use Rattle.std.proofs.lemmas.List.{append_cancel_right}
use Rattle.schema_types.specs.declared.types.Schema.{Schema}
use Rattle.stats_file.specs.declared.types.Datum.{Datum}
use Rattle.stats_file.specs.declared.types.PairStats.{PairStats}
use Rattle.stats_file.specs.declared.types.StatsFile.{StatsFile}
use Rattle.stats_file.specs.FileText.{histogram_node_line, value_line}
use Rattle.stats_file.specs.Lines.{cut_line, datum_text}
use Rattle.stats_words.specs.Runs.{list_text}
use Rattle.stats_words.specs.Splits.{HasNoByte}
use Rattle.stats_reading.specs.declared.draft.Draft.{Draft}
use Rattle.stats_reading.specs.declared.fault.Fault.{Fault}
use Rattle.stats_reading.specs.declared.line.LineKind.{LineKind}
use Rattle.stats_reading.specs.declared.line.LineKind.TheVariants as kind
use Rattle.stats_reading.specs.declared.stages.Stage.{Stage}
use Rattle.stats_reading.specs.declared.stages.Stage.TheVariants as stage
use Rattle.stats_reading.specs.Drafts.{frequent_words, list_word, value_word, with_cut, with_frequent, with_node, with_rest, with_whole, MayBeCut, MayBeFrequent, MayBeNode, MayBeRest, MayBeWhole, ReadsValue}
use Rattle.stats_reading.specs.Kinds.{IsLineOf, IsOfLineKind}
use Rattle.stats_reading.specs.Remaining.{rest_line, whole_line, CutsRemaining, FileRemaining, FrequentRemaining, NodesRemaining, WholeRemaining}
use Rattle.stats_reading.specs.Valid.{IsValidDraft, IsValidPair}
use Rattle.stats_reading.proofs.Going.{step_goes, two_words_of_line, FilesByResult, IsStep, Lines}
use Rattle.stats_reading.proofs.Grammar.{tag_of, tag_of_line}
use Rattle.stats_reading.proofs.Grown.{frequent_grown, rest_grown, whole_grown}
use Rattle.stats_reading.proofs.GrownTrees.{cut_grown, node_grown}
use Rattle.stats_reading.proofs.Opens.{close_cut, close_frequent, close_node, close_rest, close_whole, known_in, open_cut, open_frequent, open_node, open_rest, open_whole, nodes_are_cuts_remaining, KnownIn}
use Rattle.stats_reading.proofs.RuleFacts.{section_at}
use Rattle.stats_reading.proofs.Tags.{tag}
use Rattle.stats_reading.proofs.WordFacts.{datum_without_blank, one_word, same_datum, same_list, two_words, value_without_blank}

-- ---- lines and their kinds

abbrev pub ended : List ℕ → List ℕ
ended l = l ++ codes "\n"

of_one : (first word l : List ℕ) → l ≡ first ++ word → ended l ≡ first ++ (word ++ codes "\n")
of_one first word l whole = ap ended whole ∙ append_assoc first word (codes "\n")

of_two : (first a b l : List ℕ) → l ≡ first ++ (a ++ (codes " " ++ b)) → ended l ≡ first ++ (a ++ (codes " " ++ (b ++ codes "\n")))
of_two first a b l whole = of_one first (a ++ (codes " " ++ b)) l whole ∙ ap (λ (x : List ℕ). first ++ x) (append_assoc a (codes " " ++ b) (codes "\n"))

pub kind_line : (k : LineKind) (a b l : List ℕ) → IsLineOf k a b l → IsOfLineKind k (ended l)
kind_line kind.First a b l is = record { word = a; word_is = is.parts.0; whole = of_one (codes "safebound-stats 1 ") a l is.whole }
kind_line kind.Table a b l is = record { first = a; second = b; first_is = is.parts.0; second_is = is.parts.1; whole = of_two (codes "table ") a b l is.whole }
kind_line kind.Pair a b l is = record { first = a; second = b; first_is = is.parts.0; second_is = is.parts.1; whole = of_two (codes "pair ") a b l is.whole }
kind_line kind.Whole a b l is = record { word = a; word_is = is.parts.0; whole = of_one (codes "whole ") a l is.whole }
kind_line kind.Frequent a b l is = record { first = a; second = b; first_is = is.parts.0; second_is = is.parts.1; whole = of_two (codes "frequent ") a b l is.whole }
kind_line kind.Rest a b l is = record { word = a; word_is = is.parts.0; whole = of_one (codes "rest ") a l is.whole }
kind_line kind.Cut a b l is = record { word = a; word_is = is.parts.0; whole = of_one (codes "cut ") a l is.whole }
kind_line kind.Node a b l is = record { word = a; word_is = is.parts.0; whole = of_one (codes "node ") a l is.whole }
kind_line kind.End a b l is = ap ended (is.whole ∙ ap (λ (x : List ℕ). codes "end" ++ x) is.parts.0)

cut_end : (x l : List ℕ) → ended l ≡ ended x → l ≡ x
cut_end x l e = append_cancel_right l x (codes "\n") e

back_one : (first word l : List ℕ) → ended l ≡ first ++ (word ++ codes "\n") → l ≡ first ++ word
back_one first word l e = cut_end (first ++ word) l (e ∙ sym (append_assoc first word (codes "\n")))

back_two : (first a b l : List ℕ) → ended l ≡ first ++ (a ++ (codes " " ++ (b ++ codes "\n"))) → l ≡ first ++ (a ++ (codes " " ++ b))
back_two first a b l e = back_one first (a ++ (codes " " ++ b)) l (e ∙ ap (λ (x : List ℕ). first ++ x) (sym (append_assoc a (codes " " ++ b) (codes "\n"))))

pub line_kind : (k : LineKind) (l : List ℕ) → IsOfLineKind k (ended l) → (a : List ℕ) × (b : List ℕ) × IsLineOf k a b l
line_kind kind.First l is = (is.word, [], record { parts = (is.word_is, refl); whole = back_one (codes "safebound-stats 1 ") is.word l is.whole })
line_kind kind.Table l is = (is.first, is.second, record { parts = (is.first_is, is.second_is); whole = back_two (codes "table ") is.first is.second l is.whole })
line_kind kind.Pair l is = (is.first, is.second, record { parts = (is.first_is, is.second_is); whole = back_two (codes "pair ") is.first is.second l is.whole })
line_kind kind.Whole l is = (is.word, [], record { parts = (is.word_is, refl); whole = back_one (codes "whole ") is.word l is.whole })
line_kind kind.Frequent l is = (is.first, is.second, record { parts = (is.first_is, is.second_is); whole = back_two (codes "frequent ") is.first is.second l is.whole })
line_kind kind.Rest l is = (is.word, [], record { parts = (is.word_is, refl); whole = back_one (codes "rest ") is.word l is.whole })
line_kind kind.Cut l is = (is.word, [], record { parts = (is.word_is, refl); whole = back_one (codes "cut ") is.word l is.whole })
line_kind kind.Node l is = (is.word, [], record { parts = (is.word_is, refl); whole = back_one (codes "node ") is.word l is.whole })
line_kind kind.End l is = ([], [], record { parts = (refl, refl); whole = cut_end (codes "end") l is })

pub line_tag : (k : LineKind) (a b l : List ℕ) → IsLineOf k a b l → tag (ended l) ≡ tag_of k
line_tag k a b l is = tag_of_line k (ended l) (kind_line k a b l is)

pub spells_one : (first w a b l : List ℕ) → l ≡ first ++ a → b ≡ [] → (first ++ (w ++ codes "\n") ≡ ended l) ↔ (two_words_of_line w [] ≡ two_words_of_line a b)
spells_one first w a b l whole none =
    let o = one_word first w a l whole in
    (λ e. ap (λ (x : List ℕ). two_words_of_line x []) (o.0 e) ∙ ap (λ (y : List ℕ). two_words_of_line a y) (sym none), λ e. o.1 (ap (λ (p : List ℕ × List ℕ). p.0) e))

pub spells_two : (first v w a b l : List ℕ) → HasNoByte 32 v → HasNoByte 32 a → l ≡ first ++ (a ++ (codes " " ++ b))
    → (first ++ (v ++ (codes " " ++ (w ++ codes "\n"))) ≡ ended l) ↔ (two_words_of_line v w ≡ two_words_of_line a b)
spells_two first v w a b l free_v free_a whole =
    let t = two_words first v w a b l free_v free_a whole in (
      λ e. let both = t.0 e in ap (λ (x : List ℕ). two_words_of_line x w) both.0 ∙ ap (λ (y : List ℕ). two_words_of_line a y) both.1,
      λ e. t.1 (ap (λ (p : List ℕ × List ℕ). p.0) e, ap (λ (p : List ℕ × List ℕ). p.1) e),
    )

-- ---- facts about a valid draft

pub known_if_valid : (Left : PairStats → Lines → Type 0) (schema : Schema) (s : Draft) → IsValidPair Left schema s → KnownIn schema s
known_if_valid Left schema s v = known_in schema s v.table v.exists v.known

rows_fit : (Left : PairStats → Lines → Type 0) (schema : Schema) (s : Draft) → IsValidPair Left schema s → s.section.rows < 2 ^ 64
rows_fit Left schema s v =
    let within_limit : s.section.rows ≤ 4000000 = (section_at schema s (v.pair ∷ []) [] v.keeps).rows in
    omega arith

pub weaker_valid : (schema : Schema) (s : Draft) → IsValidPair (NodesRemaining s.pair) schema s → IsValidPair (CutsRemaining s.pair) schema s
weaker_valid schema s v = record { table = v.table; exists = v.exists; known = v.known; pair = v.pair; own = v.own; left = ([], v.left); keeps = v.keeps }

file_of_equal_draft : (at : Stage) (schema : Schema) (a b : Draft) (file : StatsFile) (more : Lines) → b ≡ a → FileRemaining at schema a file more → FileRemaining at schema b file more
file_of_equal_draft at schema a b file more e h = subst (λ (x : Draft). FileRemaining at schema x file more) (sym e) h

file_of_equal_draft_back : (at : Stage) (schema : Schema) (a b : Draft) (file : StatsFile) (more : Lines) → b ≡ a → FileRemaining at schema b file more → FileRemaining at schema a file more
file_of_equal_draft_back at schema a b file more e h = subst (λ (x : Draft). FileRemaining at schema x file more) e h

valid_for_equal_draft : (at : Stage) (schema : Schema) (a b : Draft) → b ≡ a → IsValidDraft at schema a → IsValidDraft at schema b
valid_for_equal_draft at schema a b e h = subst (λ (x : Draft). IsValidDraft at schema x) (sym e) h

abbrev value_and : Datum → List ℕ → Datum × List ℕ
value_and value list = (value, list)

-- ---- the lines of a pair

pub whole_goes : (schema : Schema) (s t : Draft) (a b l : List ℕ) (r : Result (Unit {0}) Fault) → IsValidDraft stage.Whole schema s → IsLineOf kind.Whole a b l
    → ReadsValue list_word (MayBeWhole s) (λ v. t ≡ with_whole s v) (a, b) r → FilesByResult (FileRemaining stage.Whole schema s) (FileRemaining stage.Frequent schema t) (IsValidDraft stage.Frequent schema t) (ended l) r
whole_goes schema s t a b l r valid is takes =
    step_goes step (IsValidDraft stage.Frequent schema t) r takes (λ v may e. valid_for_equal_draft stage.Frequent schema (with_whole s v) t e (whole_grown schema s v valid may))
  where
    step : IsStep whole_line list_word (MayBeWhole s) (λ v. t ≡ with_whole s v) (FileRemaining stage.Whole schema s) (FileRemaining stage.Frequent schema t) (ended l) (a, b)
    step = record {
      opens = λ file more h.
          let o = open_whole schema s (known_if_valid (WholeRemaining s.pair) schema s valid) file (ended l) more h in
          record { value = o.value; is = o.is; may = o.may; rest = λ e. file_of_equal_draft stage.Frequent schema (with_whole s o.value) t file more e o.rest };
      closes = λ v file more e may h. close_whole schema s v file more (file_of_equal_draft_back stage.Frequent schema (with_whole s v) t file more e h);
      same = λ x y may_x may_y e. same_list s.section.rows x y (rows_fit (WholeRemaining s.pair) schema s valid) may_x.0 may_y.0 (ap (λ (p : List ℕ × List ℕ). p.0) e);
      spells = λ v may. spells_one (codes "whole ") (list_text v) a b l is.whole is.parts.1;
    }

pub frequent_goes : (schema : Schema) (s t : Draft) (a b l : List ℕ) (r : Result (Unit {0}) Fault) → IsValidDraft stage.Frequent schema s → IsLineOf kind.Frequent a b l
    → ReadsValue frequent_words (MayBeFrequent s) (λ f. t ≡ with_frequent s f) (a, b) r
    → FilesByResult (FileRemaining stage.Frequent schema s) (FileRemaining stage.Frequent schema t) (IsValidDraft stage.Frequent schema t) (ended l) r
frequent_goes schema s t a b l r valid is takes =
    step_goes step (IsValidDraft stage.Frequent schema t) r takes (λ v may e. valid_for_equal_draft stage.Frequent schema (with_frequent s v) t e (frequent_grown schema s v valid may))
  where
    step : IsStep value_line frequent_words (MayBeFrequent s) (λ f. t ≡ with_frequent s f) (FileRemaining stage.Frequent schema s) (FileRemaining stage.Frequent schema t) (ended l) (a, b)
    step = record {
      opens = λ file more h.
          let o = open_frequent schema s (known_if_valid (FrequentRemaining s.pair) schema s valid) file (ended l) more h (line_tag kind.Frequent a b l is) in
          record { value = o.value; is = o.is; may = o.may; rest = λ e. file_of_equal_draft stage.Frequent schema (with_frequent s o.value) t file more e o.rest };
      closes = λ v file more e may h. close_frequent schema s v file more (file_of_equal_draft_back stage.Frequent schema (with_frequent s v) t file more e h);
      same = λ x y may_x may_y e.
          let first : x.0 ≡ y.0 = same_datum s.kind x.0 y.0 may_x.0 may_y.0 (ap (λ (p : List ℕ × List ℕ). p.0) e) in
          let second : x.1 ≡ y.1 = same_list s.section.rows x.1 y.1 (rows_fit (FrequentRemaining s.pair) schema s valid) may_x.1 may_y.1 (ap (λ (p : List ℕ × List ℕ). p.1) e) in
          ap (λ (d : Datum). value_and d x.1) first ∙ ap (λ (list : List ℕ). value_and y.0 list) second;
      spells = λ v may. spells_two (codes "frequent ") (datum_text v.0) (list_text v.1) a b l (datum_without_blank s.kind v.0 may.0) (value_without_blank a is.parts.0) is.whole;
    }

pub rest_goes : (schema : Schema) (s t : Draft) (a b l : List ℕ) (r : Result (Unit {0}) Fault) → IsValidDraft stage.Frequent schema s → IsLineOf kind.Rest a b l
    → ReadsValue list_word (MayBeRest s) (λ v. t ≡ with_rest s v) (a, b) r → FilesByResult (FileRemaining stage.Frequent schema s) (FileRemaining stage.Cuts schema t) (IsValidDraft stage.Cuts schema t) (ended l) r
rest_goes schema s t a b l r valid is takes =
    step_goes step (IsValidDraft stage.Cuts schema t) r takes (λ v may e. valid_for_equal_draft stage.Cuts schema (with_rest s v) t e (rest_grown schema s v valid may))
  where
    step : IsStep rest_line list_word (MayBeRest s) (λ v. t ≡ with_rest s v) (FileRemaining stage.Frequent schema s) (FileRemaining stage.Cuts schema t) (ended l) (a, b)
    step = record {
      opens = λ file more h.
          let o = open_rest schema s (known_if_valid (FrequentRemaining s.pair) schema s valid) file (ended l) more h (line_tag kind.Rest a b l is) in
          record { value = o.value; is = o.is; may = o.may; rest = λ e. file_of_equal_draft stage.Cuts schema (with_rest s o.value) t file more e o.rest };
      closes = λ v file more e may h. close_rest schema s v file more (file_of_equal_draft_back stage.Cuts schema (with_rest s v) t file more e h);
      same = λ x y may_x may_y e. same_list s.section.rows x y (rows_fit (FrequentRemaining s.pair) schema s valid) may_x.0 may_y.0 (ap (λ (p : List ℕ × List ℕ). p.0) e);
      spells = λ v may. spells_one (codes "rest ") (list_text v) a b l is.whole is.parts.1;
    }

pub cut_goes : (schema : Schema) (s t : Draft) (a b l : List ℕ) (r : Result (Unit {0}) Fault) → IsValidDraft stage.Cuts schema s → IsLineOf kind.Cut a b l
    → ReadsValue value_word (MayBeCut s) (λ v. t ≡ with_cut s v) (a, b) r → FilesByResult (FileRemaining stage.Cuts schema s) (FileRemaining stage.Cuts schema t) (IsValidDraft stage.Cuts schema t) (ended l) r
cut_goes schema s t a b l r valid is takes =
    step_goes step (IsValidDraft stage.Cuts schema t) r takes (λ v may e. valid_for_equal_draft stage.Cuts schema (with_cut s v) t e (cut_grown schema s v valid may))
  where
    step : IsStep cut_line value_word (MayBeCut s) (λ v. t ≡ with_cut s v) (FileRemaining stage.Cuts schema s) (FileRemaining stage.Cuts schema t) (ended l) (a, b)
    step = record {
      opens = λ file more h.
          let o = open_cut schema s (known_if_valid (CutsRemaining s.pair) schema s valid) file (ended l) more h (line_tag kind.Cut a b l is) in
          record { value = o.value; is = o.is; may = o.may; rest = λ e. file_of_equal_draft stage.Cuts schema (with_cut s o.value) t file more e o.rest };
      closes = λ v file more e may h. close_cut schema s v file more (file_of_equal_draft_back stage.Cuts schema (with_cut s v) t file more e h);
      same = λ x y may_x may_y e. same_datum s.kind x y may_x.0 may_y.0 (ap (λ (p : List ℕ × List ℕ). p.0) e);
      spells = λ v may. spells_one (codes "cut ") (datum_text v) a b l is.whole is.parts.1;
    }

-- a node comes after the cuts, or after other nodes
pub node_goes : (schema : Schema) (s t : Draft) (a b l : List ℕ) (r : Result (Unit {0}) Fault) → IsValidDraft stage.Cuts schema s → IsLineOf kind.Node a b l
    → ReadsValue list_word (MayBeNode s) (λ v. t ≡ with_node s v) (a, b) r → FilesByResult (FileRemaining stage.Cuts schema s) (FileRemaining stage.Nodes schema t) (IsValidDraft stage.Nodes schema t) (ended l) r
node_goes schema s t a b l r valid is takes =
    step_goes step (IsValidDraft stage.Nodes schema t) r takes (λ v may e. valid_for_equal_draft stage.Nodes schema (with_node s v) t e (node_grown schema s v valid may))
  where
    step : IsStep histogram_node_line list_word (MayBeNode s) (λ v. t ≡ with_node s v) (FileRemaining stage.Cuts schema s) (FileRemaining stage.Nodes schema t) (ended l) (a, b)
    step = record {
      opens = λ file more h.
          let o = open_node schema s (known_if_valid (CutsRemaining s.pair) schema s valid) file (ended l) more h (line_tag kind.Node a b l is) in
          record { value = o.value; is = o.is; may = o.may; rest = λ e. file_of_equal_draft stage.Nodes schema (with_node s o.value) t file more e o.rest };
      closes = λ v file more e may h.
          nodes_are_cuts_remaining schema s file (histogram_node_line v ∷ more) (close_node schema s v file more (file_of_equal_draft_back stage.Nodes schema (with_node s v) t file more e h));
      same = λ x y may_x may_y e. same_list s.section.rows x y (rows_fit (CutsRemaining s.pair) schema s valid) may_x.0 may_y.0 (ap (λ (p : List ℕ × List ℕ). p.0) e);
      spells = λ v may. spells_one (codes "node ") (list_text v) a b l is.whole is.parts.1;
    }

pub next_node_goes : (schema : Schema) (s t : Draft) (a b l : List ℕ) (r : Result (Unit {0}) Fault) → IsValidDraft stage.Nodes schema s → IsLineOf kind.Node a b l
    → ReadsValue list_word (MayBeNode s) (λ v. t ≡ with_node s v) (a, b) r → FilesByResult (FileRemaining stage.Nodes schema s) (FileRemaining stage.Nodes schema t) (IsValidDraft stage.Nodes schema t) (ended l) r
next_node_goes schema s t a b l r valid is takes =
    step_goes step (IsValidDraft stage.Nodes schema t) r takes (λ v may e. valid_for_equal_draft stage.Nodes schema (with_node s v) t e (node_grown schema s v (weaker_valid schema s valid) may))
  where
    step : IsStep histogram_node_line list_word (MayBeNode s) (λ v. t ≡ with_node s v) (FileRemaining stage.Nodes schema s) (FileRemaining stage.Nodes schema t) (ended l) (a, b)
    step = record {
      opens = λ file more h.
          let o = open_node schema s (known_if_valid (NodesRemaining s.pair) schema s valid) file (ended l) more (nodes_are_cuts_remaining schema s file (ended l ∷ more) h) (line_tag kind.Node a b l is) in
          record { value = o.value; is = o.is; may = o.may; rest = λ e. file_of_equal_draft stage.Nodes schema (with_node s o.value) t file more e o.rest };
      closes = λ v file more e may h. close_node schema s v file more (file_of_equal_draft_back stage.Nodes schema (with_node s v) t file more e h);
      same = λ x y may_x may_y e. same_list s.section.rows x y (rows_fit (NodesRemaining s.pair) schema s valid) may_x.0 may_y.0 (ap (λ (p : List ℕ × List ℕ). p.0) e);
      spells = λ v may. spells_one (codes "node ") (list_text v) a b l is.whole is.parts.1;
    }
