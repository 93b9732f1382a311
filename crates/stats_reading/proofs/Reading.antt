-- The result for the bytes of a file follows from the results for its lines.
use Rattle.std.proofs.Common.{◌≡◌, ◌↔◌, inl, inr, ℕ, ◌+◌, ◌≤◌, List, [], ◌∷◌, ◌++◌, length, length-append, refl, ap, sym, subst, ◌∙◌, arith, append-nil, append_assoc}
use Rattle.std.specs.Prelude.{codes, Ok, Err}
use Rattle.std.specs.List.{concat, flat_map}
use Rattle.schema_types.specs.declared.types.Schema.{Schema}
use Rattle.stats_file.specs.declared.types.PairStats.{PairStats}
use Rattle.stats_file.specs.declared.types.StatsError.TheVariants as error
use Rattle.stats_file.specs.declared.types.StatsFile.{StatsFile}
use Rattle.stats_file.specs.Answers.{IsAllowedResult as FileAnswers, BeginsWithLine, IsReadUpTo}
use Rattle.stats_file.specs.FileText.{file_lines, file_text, pair_lines, section_lines}
use Rattle.stats_file.specs.Grammar.{IsText}
use Rattle.stats_file.specs.Lines.{end_line}
use Rattle.stats_file.specs.Rules.{KeepsRules}
use Rattle.stats_words.specs.Splits.{IsSplitAt, HasNoByte}
use Rattle.stats_reading.specs.declared.draft.Draft.{Draft}
use Rattle.stats_reading.specs.declared.fault.Fault.{Fault}
use Rattle.stats_reading.specs.declared.fault.Fault.TheVariants as fault
use Rattle.stats_reading.specs.declared.stages.Stage.{Stage}
use Rattle.stats_reading.specs.declared.stages.Stage.TheVariants as stage
use Rattle.stats_reading.specs.IsTaken.{LineAnswers, IsTaken}
use Rattle.stats_reading.specs.Remaining.{file_of_draft, section_of, CutsRemaining, FileRemaining, FrequentRemaining, InPair, NodesRemaining, WholeRemaining}
use Rattle.stats_reading.specs.Refusals.{refusal_of}
use Rattle.stats_reading.specs.Stages.{TextRemaining}
use Rattle.stats_reading.specs.Valid.{IsValidDraft, IsValidPair}
use Rattle.stats_reading.proofs.AppendedLists.{append_empty}

abbrev Lines : Type 0
Lines = List (List ℕ)

-- the draft s was made from `lines`. The remaining bytes are `rest`, and the next line has the number `line`
pub record IsRead (schema : Schema) (bytes rest : List ℕ) (s : Draft) (line : ℕ) : Type 0 where
  pub lines : Lines
  pub whole : bytes ≡ concat lines ++ rest
  pub here : line ≡ length lines + 1
  pub within_limit : line + length rest ≤ length bytes + 1
  pub valid : IsValidDraft s.stage schema s
  pub files : (file : StatsFile) (more : Lines) → (KeepsRules schema file × (lines ++ more ≡ file_lines schema file)) ↔ FileRemaining s.stage schema s file more
  pub texts : (more : Lines) → IsText (lines ++ more) ↔ TextRemaining s.stage more

concat_append : (a b : Lines) → concat (a ++ b) ≡ concat a ++ concat b
concat_append [] b = refl
concat_append (x ∷ a) b = ap (λ (rest : List ℕ). x ++ rest) (concat_append a b) ∙ sym (append_assoc x (concat a) (concat b))

abbrev ended : List ℕ → List ℕ
ended text = text ++ codes "\n"

-- a line at the end of the lines before is the line at the beginning of the lines after
one_more : (lines : Lines) (line : List ℕ) (more : Lines) → (lines ++ line ∷ []) ++ more ≡ lines ++ (line ∷ more)
one_more lines line more = append_assoc lines (line ∷ []) more

with_end : (text others : List ℕ) → text ++ (10 ∷ others) ≡ ended text ++ others
with_end text others = sym (append_assoc text (codes "\n") others)

pub read_more : (schema : Schema) (bytes rest text others : List ℕ) (s t : Draft) (line : ℕ) → IsRead schema bytes rest s line → IsSplitAt 10 rest text others → IsTaken schema s t (ended text)
    → IsRead schema bytes others t (line + 1)
read_more schema bytes rest text others s t line h split goes =
    let lines = h.lines ++ ended text ∷ [] in
    let here : line ≡ length h.lines + 1 = h.here in
    let within_limit : line + length rest ≤ length bytes + 1 = h.within_limit in
    let own = ap length split.whole ∙ length-append text (10 ∷ others) in
    record {
      lines = lines;
      whole = h.whole ∙ ap (λ (x : List ℕ). concat h.lines ++ x) (split.whole ∙ with_end text others) ∙ sym (append_assoc (concat h.lines) (ended text) others)
          ∙ ap (λ (x : List ℕ). x ++ others) (ap (λ (x : List ℕ). concat h.lines ++ x) (sym (append-nil (ended text))) ∙ sym (concat_append h.lines (ended text ∷ [])));
      here = omega (arith, length-append h.lines (ended text ∷ []));
      within_limit = omega arith;
      valid = goes.valid;
      files = λ file more. (
        λ k. (goes.files file more).0 ((h.files file (ended text ∷ more)).0 (k.0, sym (one_more h.lines (ended text) more) ∙ k.1)),
        λ k. let both = (h.files file (ended text ∷ more)).1 ((goes.files file more).1 k) in (both.0, one_more h.lines (ended text) more ∙ both.1),
      );
      texts = λ more. (
        λ k. (goes.texts more).0 ((h.texts (ended text ∷ more)).0 (subst IsText (one_more h.lines (ended text) more) k)),
        λ k. subst IsText (sym (one_more h.lines (ended text) more)) ((h.texts (ended text ∷ more)).1 ((goes.texts more).1 k)),
      );
    }

-- ---- for each valid draft there is a file that extends it

record FileExtends (at : Stage) (schema : Schema) (s : Draft) : Type 0 where
  file : StatsFile
  more : Lines
  left : FileRemaining at schema s file more

abbrev end_lines : Lines
end_lines = end_line ∷ []

in_pair : (Left : PairStats → Lines → Type 0) (schema : Schema) (s : Draft) (v : IsValidPair Left schema s) → InPair Left schema s (file_of_draft s (section_of s (v.pair ∷ []) ∷ [])) (v.own ++ end_lines)
in_pair Left schema s v = record {
  table = v.table;
  exists = v.exists;
  pair = v.pair;
  own = v.own;
  left = v.left;
  pairs = [];
  tables = [];
  keeps = v.keeps;
  is = refl;
  all = refl;
}

abbrev smallest : StatsFile
smallest = record { accuracy = 1; tables = [] }

some_file_extends : (at : Stage) (schema : Schema) (s : Draft) → IsValidDraft at schema s → FileExtends at schema s
some_file_extends stage.Start schema s v = record {
  file = smallest;
  more = file_lines schema smallest;
  left = (record { least = omega arith; most = omega arith; order = λ i j d less lt. absurd (omega arith); tables = λ i d lt. absurd (omega arith) }, refl);
}
some_file_extends stage.Tables schema s v = record { file = file_of_draft s []; more = end_lines; left = record { tables = []; keeps = v; is = refl; all = refl } }
some_file_extends stage.Pairs schema s v = record {
  file = file_of_draft s (section_of s [] ∷ []);
  more = end_lines;
  left = record { table = v.table; exists = v.exists; pairs = []; tables = []; keeps = v.keeps; is = refl; all = refl };
}
some_file_extends stage.Whole schema s v = record { file = file_of_draft s (section_of s (v.pair ∷ []) ∷ []); more = v.own ++ end_lines; left = in_pair (WholeRemaining s.pair) schema s v }
some_file_extends stage.Frequent schema s v = record { file = file_of_draft s (section_of s (v.pair ∷ []) ∷ []); more = v.own ++ end_lines; left = in_pair (FrequentRemaining s.pair) schema s v }
some_file_extends stage.Cuts schema s v = record { file = file_of_draft s (section_of s (v.pair ∷ []) ∷ []); more = v.own ++ end_lines; left = in_pair (CutsRemaining s.pair) schema s v }
some_file_extends stage.Nodes schema s v = record { file = file_of_draft s (section_of s (v.pair ∷ []) ∷ []); more = v.own ++ end_lines; left = in_pair (NodesRemaining s.pair) schema s v }
some_file_extends stage.Done schema s v = record { file = file_of_draft s []; more = []; left = (v, refl, refl) }

read_up_to : (schema : Schema) (bytes rest : List ℕ) (s : Draft) (line : ℕ) (h : IsRead schema bytes rest s line) → IsReadUpTo schema bytes h.lines rest
read_up_to schema bytes rest s line h =
    let b = some_file_extends s.stage schema s h.valid in
    let both = (h.files b.file b.more).1 b.left in
    record { whole = h.whole; begins = record { file = b.file; keeps = both.0; more = b.more; whole = both.1 } }

-- ---- a line is refused

next_line : (rest text others : List ℕ) → IsSplitAt 10 rest text others → BeginsWithLine rest (ended text) others
next_line rest text others split = record { text = text; no_end = split.first; ended = refl; whole = split.whole ∙ with_end text others }

pub refused : (schema : Schema) (bytes rest text others : List ℕ) (s t : Draft) (line : ℕ) (e : Fault) → IsRead schema bytes rest s line → IsSplitAt 10 rest text others
    → LineAnswers schema s t (ended text) (Err e) → FileAnswers schema bytes (Err (refusal_of line e))
refused schema bytes rest text others s t line fault.Syntax h split none = record {
  lines = h.lines;
  left = rest;
  read = read_up_to schema bytes rest s line h;
  here = h.here;
  wrong = inl (record {
    line = ended text;
    rest = others;
    next = next_line rest text others split;
    fails = λ front. none front.more ((h.texts (ended text ∷ front.more)).0 (subst IsText (one_more h.lines (ended text) front.more) front.whole));
  });
}
refused schema bytes rest text others s t line fault.Rule h split breaks = record {
  lines = h.lines;
  left = rest;
  read = read_up_to schema bytes rest s line h;
  here = h.here;
  broken = ended text;
  rest = others;
  next = next_line rest text others split;
  in_grammar = record { more = breaks.some; whole = subst IsText (sym (one_more h.lines (ended text) breaks.some)) ((h.texts (ended text ∷ breaks.some)).1 breaks.text) };
  fails = λ front. breaks.files front.file front.more
      ((h.files front.file (ended text ∷ front.more)).0 (front.keeps, sym (one_more h.lines (ended text) front.more) ∙ front.whole));
}
refused schema bytes rest text others s t line fault.NoMemory h split any = tt

not_nothing : (xs : Lines) → [] ≡ xs ++ end_lines → ⊥
not_nothing xs e = let none = (append_empty xs end_lines e).1 in absurd (cc)

not_left : (own before : Lines) → [] ≡ own ++ (before ++ end_lines) → ⊥
not_left own before e = not_nothing before (sym (append_empty own (before ++ end_lines) e).1)

not_behind : (own pairs tables : Lines) → [] ≡ own ++ (pairs ++ (tables ++ end_lines)) → ⊥
not_behind own pairs tables e = not_left pairs tables (sym (append_empty own (pairs ++ (tables ++ end_lines)) e).1)

more_left : (at : Stage) (schema : Schema) (s : Draft) (file : StatsFile) → (at ≡ stage.Done → ⊥) → FileRemaining at schema s file [] → ⊥
unfolding file_lines
more_left stage.Start schema s file other h = let none = h.1 in absurd (cc)
more_left stage.Tables schema s file other h = not_nothing (flat_map (section_lines schema) h.tables) h.all
more_left stage.Pairs schema s file other h = not_left (flat_map (pair_lines h.table) h.pairs) (flat_map (section_lines schema) h.tables) h.all
more_left stage.Whole schema s file other h = not_behind h.own (flat_map (pair_lines h.table) h.pairs) (flat_map (section_lines schema) h.tables) h.all
more_left stage.Frequent schema s file other h = not_behind h.own (flat_map (pair_lines h.table) h.pairs) (flat_map (section_lines schema) h.tables) h.all
more_left stage.Cuts schema s file other h = not_behind h.own (flat_map (pair_lines h.table) h.pairs) (flat_map (section_lines schema) h.tables) h.all
more_left stage.Nodes schema s file other h = not_behind h.own (flat_map (pair_lines h.table) h.pairs) (flat_map (section_lines schema) h.tables) h.all
more_left stage.Done schema s file other h = other refl

pub too_early : (schema : Schema) (bytes rest : List ℕ) (s : Draft) (line : ℕ) → IsRead schema bytes rest s line → HasNoByte 10 rest → ((s.stage ≡ stage.Done) × (rest ≡ []) → ⊥)
    → FileAnswers schema bytes (Err (error.Syntax line))
too_early schema bytes rest s line h none other = record {
  lines = h.lines;
  left = rest;
  read = read_up_to schema bytes rest s line h;
  here = h.here;
  wrong = inr (record {
    no_line = none;
    fails = λ file keeps is empty.
        more_left s.stage schema s file (λ done. other (done, empty)) ((h.files file []).0 (keeps, append-nil h.lines ∙ is));
  });
}

-- ---- the whole file is read

done_left : (at : Stage) (schema : Schema) (s : Draft) → at ≡ stage.Done → IsValidDraft at schema s → KeepsRules schema (file_of_draft s []) × FileRemaining at schema s (file_of_draft s []) []
done_left stage.Start schema s is v = absurd (cc)
done_left stage.Tables schema s is v = absurd (cc)
done_left stage.Pairs schema s is v = absurd (cc)
done_left stage.Whole schema s is v = absurd (cc)
done_left stage.Frequent schema s is v = absurd (cc)
done_left stage.Cuts schema s is v = absurd (cc)
done_left stage.Nodes schema s is v = absurd (cc)
done_left stage.Done schema s is v = (v, (v, refl, refl))

pub all_read : (schema : Schema) (bytes rest : List ℕ) (s : Draft) (line : ℕ) (file : StatsFile) → IsRead schema bytes rest s line → s.stage ≡ stage.Done → rest ≡ [] → file ≡ file_of_draft s []
    → FileAnswers schema bytes (Ok file)
all_read schema bytes rest s line file h done none is =
    let left = (done_left s.stage schema s done h.valid).1 in
    let both = (h.files (file_of_draft s []) []).1 left in
    subst (λ (f : StatsFile). KeepsRules schema f × (bytes ≡ file_text schema f)) (sym is) (
      both.0,
      h.whole ∙ ap (λ (x : List ℕ). concat h.lines ++ x) none ∙ append-nil (concat h.lines) ∙ ap concat (sym (append-nil h.lines) ∙ both.1),
    )
