-- A text has at most one result, apart from the result that memory ran out.
use Rattle.std.proofs.Common.{◌≡◌, ◌≢◌, ◌⊎◌, inl, inr, ℕ, ◌+◌, List, [], ◌∷◌, ◌++◌, length, refl, ap, sym, subst, ◌∙◌, append-nil, append_assoc}
use Rattle.std.specs.Prelude.{codes, Result, Ok, Err}
use Rattle.std.specs.List.{concat, AllByRecursion}
use Rattle.schema_types.specs.declared.types.Schema.{Schema}
use Rattle.schema_types.specs.Validity.{IsValid}
use Rattle.stats_file.specs.declared.types.StatsError.{StatsError}
use Rattle.stats_file.specs.declared.types.StatsError.TheVariants as error
use Rattle.stats_file.specs.declared.types.StatsFile.{StatsFile}
use Rattle.stats_file.specs.Answers.{IsAllowedResult, BeginsWithLine, EndsTooEarly, HasNoLineEnd, IsFrontOfFile, IsFrontOfText, IsReadUpTo, IsRuleLine, IsSyntaxLine, BreaksGrammar}
use Rattle.stats_file.specs.Grammar.{IsText}
use Rattle.stats_file.proofs.GrammarFacts.{file_is_text}
use Rattle.stats_words.proofs.SplitFacts.{not_without, split_same}
use Rattle.stats_reading.specs.Names.{HasByteColumns}
use Rattle.stats_reading.proofs.ByteFacts.{file_bytes}
use Rattle.stats_reading.proofs.LineEnds.{lines_ended, IsEnded}
use Rattle.stats_reading.proofs.OneFile.{answers_file}

abbrev Lines : Type 0
Lines = List (List ℕ)

abbrev AllEnded : Lines → Type 0
AllEnded lines = AllByRecursion IsEnded lines

front_ended : (lines more : Lines) → AllEnded (lines ++ more) → AllEnded lines
front_ended [] more are = tt
front_ended (x ∷ lines) more (is, are) = (is, front_ended lines more are)

-- ---- the next line, after the lines that were read

with_line : (left line rest : List ℕ) (next : BeginsWithLine left line rest) → left ≡ next.text ++ (10 ∷ rest)
with_line left line rest next = next.whole ∙ ap (λ (l : List ℕ). l ++ rest) next.ended ∙ append_assoc next.text (10 ∷ []) rest

one_line : (left a b rest other : List ℕ) → BeginsWithLine left a rest → BeginsWithLine left b other → a ≡ b
one_line left a b rest other x y =
    let same = split_same 10 x.text y.text rest other x.no_end y.no_end (sym (with_line left a rest x) ∙ with_line left b other y) in
    x.ended ∙ ap (λ (l : List ℕ). l ++ (10 ∷ [])) same.0 ∙ sym y.ended

no_line : (left line rest : List ℕ) → HasNoLineEnd left → BeginsWithLine left line rest → ⊥
no_line left line rest none next = not_without 10 next.text rest (subst HasNoLineEnd (with_line left line rest next) none)

-- these lines begin some statistics file. Together with the next line, they begin no statistics file
record Stops (schema : Schema) (bytes : List ℕ) (lines : Lines) (left : List ℕ) : Type 0 where
  read : IsReadUpTo schema bytes lines left
  halts : (line rest : List ℕ) → BeginsWithLine left line rest → IsFrontOfFile schema (lines ++ (line ∷ [])) → ⊥

read_ended : (schema : Schema) (bytes : List ℕ) (lines : Lines) (left : List ℕ) → IsReadUpTo schema bytes lines left → AllEnded lines
read_ended schema bytes lines left read =
    let begins = read.begins in
    front_ended lines begins.more (subst AllEnded (sym begins.whole) (lines_ended schema begins.file begins.keeps))

-- ---- if a text begins with two lists of lines, one list is a prefix of the other

record IsFrontOf (a b : Lines) (p q : List ℕ) : Type 0 where
  more : Lines
  whole : b ≡ a ++ more
  left : p ≡ concat more ++ q
  are : AllEnded more

front_with_line : (x : List ℕ) (a b : Lines) (p q : List ℕ) → IsFrontOf a b p q → IsFrontOf (x ∷ a) (x ∷ b) p q
front_with_line x a b p q h = record { more = h.more; whole = ap (λ (m : Lines). x ∷ m) h.whole; left = h.left; are = h.are }

text_first : (x : List ℕ) (a : Lines) (p : List ℕ) (is : IsEnded x) → concat (x ∷ a) ++ p ≡ is.text ++ (10 ∷ (concat a ++ p))
text_first x a p is =
    append_assoc x (concat a) p ∙ ap (λ (l : List ℕ). l ++ (concat a ++ p)) is.whole ∙ append_assoc is.text (codes "\n") (concat a ++ p)

one_begins_the_other : (a b : Lines) (p q : List ℕ) → AllEnded a → AllEnded b → concat a ++ p ≡ concat b ++ q → IsFrontOf a b p q ⊎ IsFrontOf b a q p
one_begins_the_other [] b p q are_a are_b e = inl (record { more = b; whole = refl; left = e; are = are_b })
one_begins_the_other (x ∷ a) [] p q are_a are_b e = inr (record { more = x ∷ a; whole = refl; left = sym e; are = are_a })
one_begins_the_other (x ∷ a) (y ∷ b) p q (is_x, are_a) (is_y, are_b) e = by (one_begins_the_other a b p q are_a are_b same.1)
  where
    same : (is_x.text ≡ is_y.text) × (concat a ++ p ≡ concat b ++ q)
    same = split_same 10 is_x.text is_y.text (concat a ++ p) (concat b ++ q) is_x.no_line_end is_y.no_line_end (sym (text_first x a p is_x) ∙ e ∙ text_first y b q is_y)

    first : x ≡ y
    first = is_x.whole ∙ ap (λ (t : List ℕ). t ++ codes "\n") same.0 ∙ sym is_y.whole

    by : IsFrontOf a b p q ⊎ IsFrontOf b a q p → IsFrontOf (x ∷ a) (y ∷ b) p q ⊎ IsFrontOf (y ∷ b) (x ∷ a) q p
    by (inl h) = inl (subst (λ (z : List ℕ). IsFrontOf (x ∷ a) (z ∷ b) p q) first (front_with_line x a b p q h))
    by (inr h) = inr (subst (λ (z : List ℕ). IsFrontOf (z ∷ b) (x ∷ a) q p) first (front_with_line x b a q p h))

same_stop : (schema : Schema) (bytes : List ℕ) (a b : Lines) (p q : List ℕ) → Stops schema bytes a p → Stops schema bytes b q → IsFrontOf a b p q → (b ≡ a) × (p ≡ q)
same_stop schema bytes a b p q stop other h = by h.more h.whole h.left h.are
  where
    by : (more : Lines) → b ≡ a ++ more → p ≡ concat more ++ q → AllEnded more → (b ≡ a) × (p ≡ q)
    by [] whole left are = (whole ∙ append-nil a, left)
    by (z ∷ more) whole left (is, are) =
        let begins = other.read.begins in
        absurd (stop.halts z (concat more ++ q)
        (record { text = is.text; no_end = is.no_line_end; ended = is.whole; whole = left ∙ append_assoc z (concat more) q })
        (record {
          file = begins.file;
          keeps = begins.keeps;
          more = more ++ begins.more;
          whole = append_assoc a (z ∷ []) (more ++ begins.more) ∙ sym (append_assoc a (z ∷ more) begins.more) ∙ ap (λ (m : Lines). m ++ begins.more) (sym whole) ∙ begins.whole;
        }))

one_stop : (schema : Schema) (bytes : List ℕ) (a b : Lines) (p q : List ℕ) → Stops schema bytes a p → Stops schema bytes b q → (a ≡ b) × (p ≡ q)
one_stop schema bytes a b p q stop other =
    by (one_begins_the_other a b p q (read_ended schema bytes a p stop.read) (read_ended schema bytes b q other.read) (sym stop.read.whole ∙ other.read.whole))
  where
    by : IsFrontOf a b p q ⊎ IsFrontOf b a q p → (a ≡ b) × (p ≡ q)
    by (inl h) = let same = same_stop schema bytes a b p q stop other h in (sym same.0, same.1)
    by (inr h) = let same = same_stop schema bytes b a q p other stop h in (same.0, sym same.1)

-- ---- refusals

abbrev refused : StatsError → Result StatsFile StatsError
refused why = Err why

module _ (schema : Schema) (bytes : List ℕ) (good : IsValid schema) (columns : HasByteColumns schema) where
  front_text : (lines : Lines) → IsFrontOfFile schema lines → IsFrontOfText lines
  front_text lines h = record { more = h.more; whole = subst IsText (sym h.whole) (file_is_text schema h.file (file_bytes schema h.file good columns h.keeps) h.keeps) }

  syntax_stops : (line : ℕ) (h : IsSyntaxLine schema bytes line) → Stops schema bytes h.lines h.left
  syntax_stops line h = record { read = h.read; halts = λ l rest next front. by h.wrong l rest next front }
    where
      by : BreaksGrammar h.lines h.left ⊎ EndsTooEarly schema h.lines h.left → (l rest : List ℕ) → BeginsWithLine h.left l rest → IsFrontOfFile schema (h.lines ++ (l ∷ [])) → ⊥
      by (inl wrong) l rest next front =
          let same = one_line h.left l wrong.line rest wrong.rest next wrong.next in
          wrong.fails (front_text (h.lines ++ (wrong.line ∷ [])) (subst (λ (x : List ℕ). IsFrontOfFile schema (h.lines ++ (x ∷ []))) same front))
      by (inr early) l rest next front = no_line h.left l rest early.no_line next

  rule_stops : (line : ℕ) (h : IsRuleLine schema bytes line) → Stops schema bytes h.lines h.left
  rule_stops line h = record {
    read = h.read;
    halts = λ l rest next front.
        h.fails (subst (λ (x : List ℕ). IsFrontOfFile schema (h.lines ++ (x ∷ []))) (one_line h.left l h.broken rest h.rest next h.next) front);
  }

  same_line : (a b : Lines) (n m : ℕ) → a ≡ b → n ≡ length a + 1 → m ≡ length b + 1 → n ≡ m
  same_line a b n m e at_a at_b = at_a ∙ ap (λ (x : Lines). length x + 1) e ∙ sym at_b

  one_cause : (n m : ℕ) → IsSyntaxLine schema bytes n → IsRuleLine schema bytes m → ⊥
  one_cause n m h k = by h.wrong
    where
      same : (h.lines ≡ k.lines) × (h.left ≡ k.left)
      same = one_stop schema bytes h.lines k.lines h.left k.left (syntax_stops n h) (rule_stops m k)

      next : BeginsWithLine h.left k.broken k.rest
      next = subst (λ (x : List ℕ). BeginsWithLine x k.broken k.rest) (sym same.1) k.next

      by : BreaksGrammar h.lines h.left ⊎ EndsTooEarly schema h.lines h.left → ⊥
      by (inl wrong) =
          wrong.fails (subst (λ (x : List ℕ). IsFrontOfText (h.lines ++ (x ∷ []))) (one_line h.left k.broken wrong.line k.rest wrong.rest next wrong.next)
          (subst (λ (x : Lines). IsFrontOfText (x ++ (k.broken ∷ []))) (sym same.0) k.in_grammar))
      by (inr early) = no_line h.left k.broken k.rest early.no_line next

  one_refusal : (a b : StatsError) → IsAllowedResult schema bytes (Err a) → IsAllowedResult schema bytes (Err b) → a ≢ error.NoMemory → b ≢ error.NoMemory → a ≡ b
  one_refusal (error.Syntax n) (error.Syntax m) h k some other =
      ap error.Syntax (same_line h.lines k.lines n m (one_stop schema bytes h.lines k.lines h.left k.left (syntax_stops n h) (syntax_stops m k)).0 h.here k.here)
  one_refusal (error.Syntax n) (error.Rule m) h k some other = absurd (one_cause n m h k)
  one_refusal (error.Rule n) (error.Syntax m) h k some other = absurd (one_cause m n k h)
  one_refusal (error.Rule n) (error.Rule m) h k some other =
      ap error.Rule (same_line h.lines k.lines n m (one_stop schema bytes h.lines k.lines h.left k.left (rule_stops n h) (rule_stops m k)).0 h.here k.here)
  one_refusal error.NoMemory b h k some other = absurd (some refl)
  one_refusal a error.NoMemory h k some other = absurd (other refl)

  -- ---- equality of two results for a text

  pub one_answer : (a b : Result StatsFile StatsError) → IsAllowedResult schema bytes a → IsAllowedResult schema bytes b → b ≢ Err error.NoMemory → (a ≡ Err error.NoMemory) ⊎ (a ≡ b)
  one_answer a (Ok file) h (keeps, is) some = by (answers_file schema file bytes a good (file_bytes schema file good columns keeps) keeps is h)
    where
      by : (a ≡ Ok file) ⊎ (a ≡ Err error.NoMemory) → (a ≡ Err error.NoMemory) ⊎ (a ≡ Ok file)
      by (inl e) = inr e
      by (inr e) = inl e
  one_answer (Ok file) (Err b) (keeps, is) k some = by (answers_file schema file bytes (Err b) good (file_bytes schema file good columns keeps) keeps is k)
    where
      by : (refused b ≡ Ok file) ⊎ (refused b ≡ Err error.NoMemory) → (Ok file ≡ refused error.NoMemory) ⊎ (Ok file ≡ refused b)
      by (inl e) = inr (sym e)
      by (inr e) = absurd (some e)
  one_answer (Err a) (Err b) h k some = by (is_no_memory_or_not a)
    where
      is_no_memory_or_not : (e : StatsError) → (e ≡ error.NoMemory) ⊎ (e ≢ error.NoMemory)
      is_no_memory_or_not (error.Syntax n) = inr (λ f. cc)
      is_no_memory_or_not (error.Rule n) = inr (λ f. cc)
      is_no_memory_or_not error.NoMemory = inl refl

      by : (a ≡ error.NoMemory) ⊎ (a ≢ error.NoMemory) → (refused a ≡ refused error.NoMemory) ⊎ (refused a ≡ refused b)
      by (inl e) = inl (ap Err e)
      by (inr other) = inr (ap Err (one_refusal a b h k other (λ e. some (ap Err e))))
