-- A step reads a line and makes a new draft. This line with further lines may follow the old draft exactly if the further lines may follow the new
-- draft.
use Rattle.std.proofs.Common.{◌≡◌, ◌↔◌, inl, inr, ℕ, List, ◌∷◌, refl, sym, subst, ◌∙◌}
use Rattle.std.specs.Prelude.{⊤, Result, Ok, Err}
use Rattle.stats_file.specs.declared.types.StatsFile.{StatsFile}
use Rattle.stats_reading.specs.declared.draft.Draft.{Draft}
use Rattle.stats_reading.specs.declared.fault.Fault.{Fault}
use Rattle.stats_reading.specs.declared.fault.Fault.TheVariants as fault
use Rattle.stats_reading.specs.Drafts.{ReadsValue}
use Rattle.stats_reading.specs.Steps.{Ends, EndsAnd}
use Rattle.stats_reading.proofs.Opens.{IsLineOfNext}

abbrev pub Lines : Type 0
Lines = List (List ℕ)

abbrev pub Words : Type 0
Words = List ℕ × List ℕ

abbrev pub two_words_of_line : List ℕ → List ℕ → Words
two_words_of_line a b = (a, b)

-- one step of reading: the value that the words of `line` spell goes into the draft. A file may continue with `line` exactly if `line` is the line of
-- a value that may come next. The words of a line determine its value
pub record IsStep {X : Type 0} (line_of : X → List ℕ) (text : X → Words) (MayBe Then : X → Type 0) (Before Next : StatsFile → Lines → Type 0) (line : List ℕ) (words : Words) : Type 0 where
  pub opens : (file : StatsFile) (more : Lines) → Before file (line ∷ more) → IsLineOfNext line_of MayBe (λ v. Then v → Next file more) line
  pub closes : (v : X) (file : StatsFile) (more : Lines) → Then v → MayBe v → Next file more → Before file (line_of v ∷ more)
  pub same : (a b : X) → MayBe a → MayBe b → text a ≡ text b → a ≡ b
  pub spells : (v : X) → MayBe v → (line_of v ≡ line) ↔ (text v ≡ words)

-- which files extend the draft before the line, and which extend the draft after it, for each result of reading the line
abbrev pub FilesByResult : (StatsFile → Lines → Type 0) → (StatsFile → Lines → Type 0) → Type 0 → List ℕ → Result (Unit {0}) Fault → Type 0
FilesByResult Before After Valid line (Ok done) = ((file : StatsFile) (more : Lines) → Before file (line ∷ more) ↔ After file more) × Valid
FilesByResult Before After Valid line (Err fault.Syntax) = ⊥
FilesByResult Before After Valid line (Err fault.Rule) = (file : StatsFile) (more : Lines) → Before file (line ∷ more) → ⊥
FilesByResult Before After Valid line (Err fault.NoMemory) = ⊤

value_goes : {X : Type 0} {line_of : X → List ℕ} {text : X → Words} {MayBe Then : X → Type 0} {Before Next : StatsFile → Lines → Type 0} {line : List ℕ} {words : Words}
    → IsStep line_of text MayBe Then Before Next line words → (v : X) → MayBe v → text v ≡ words → Then v → (file : StatsFile) (more : Lines) → Before file (line ∷ more) ↔ Next file more
value_goes {Then = Then} {Before = Before} step v may spelled then' file more = (
  λ b.
      let o = step.opens file more b in
      let text = (step.spells o.value o.may).0 (sym o.is) in
      o.rest (subst Then (step.same v o.value may o.may (spelled ∙ sym text)) then'),
  λ a. subst (λ (l : List ℕ). Before file (l ∷ more)) ((step.spells v may).1 spelled) (step.closes v file more then' may a),
)

pub step_goes : {X : Type 0} {line_of : X → List ℕ} {text : X → Words} {MayBe Then : X → Type 0} {Before Next : StatsFile → Lines → Type 0} {line : List ℕ} {words : Words}
    → IsStep line_of text MayBe Then Before Next line words → (Valid : Type 0) (r : Result (Unit {0}) Fault) → ReadsValue text MayBe Then words r → ((v : X) → MayBe v → Then v → Valid)
    → FilesByResult Before Next Valid line r
step_goes step Valid (Ok done) took valid =
    (λ file more. value_goes step took.value took.may took.spelled took.after file more, valid took.value took.may took.after)
step_goes step Valid (Err fault.Syntax) never valid = never
step_goes step Valid (Err fault.Rule) none valid = λ file more b.
    let o = step.opens file more b in
    none o.value o.may ((step.spells o.value o.may).0 (sym o.is))
step_goes step Valid (Err fault.NoMemory) any valid = tt

-- the current pair or table ends before this line. If it can end, it ends in exactly one way
pub record EndsBefore (MayEnd : Draft → Type 0) (Before : StatsFile → Lines → Type 0) (Between : Draft → StatsFile → Lines → Type 0) (line : List ℕ) : Type 0 where
  pub may : (file : StatsFile) (more : Lines) → Before file (line ∷ more) → (m : Draft) × MayEnd m
  pub same : (m : Draft) → MayEnd m → (file : StatsFile) (more : Lines) → Before file (line ∷ more) ↔ Between m file (line ∷ more)

both_ways : {A B C : Type 0} → A ↔ B → B ↔ C → A ↔ C
both_ways f g = (λ a. g.0 (f.0 a), λ c. f.1 (g.1 c))

pub then_goes : {MayEnd : Draft → Type 0} {Before : StatsFile → Lines → Type 0} {Between : Draft → StatsFile → Lines → Type 0} {line : List ℕ} → EndsBefore MayEnd Before Between line
    → (Then : Draft → Result (Unit {0}) Fault → Type 0) (Next : StatsFile → Lines → Type 0) (Valid : Type 0) (r : Result (Unit {0}) Fault) → EndsAnd MayEnd Then r
    → ((m : Draft) → MayEnd m → Then m r → FilesByResult (Between m) Next Valid line r) → FilesByResult Before Next Valid line r
then_goes ends Then Next Valid (Ok done) (inl (m, may, then')) step =
    let h = step m may then' in
    (λ file more. both_ways (ends.same m may file more) (h.0 file more), h.1)
then_goes ends Then Next Valid (Err fault.Syntax) (inl (m, may, then')) step = step m may then'
then_goes ends Then Next Valid (Err fault.Rule) (inl (m, may, then')) step = λ file more b. step m may then' file more ((ends.same m may file more).0 b)
then_goes ends Then Next Valid (Err fault.NoMemory) (inl (m, may, then')) step = tt
then_goes {Before = Before} {line = line} ends Then Next Valid r (inr (inl (none, is))) step =
    subst (λ (x : Result (Unit {0}) Fault). FilesByResult Before Next Valid line x) (sym is) (λ file more b. let found = ends.may file more b in none found.0 found.1)
then_goes {Before = Before} {line = line} ends Then Next Valid r (inr (inr is)) step =
    subst (λ (x : Result (Unit {0}) Fault). FilesByResult Before Next Valid line x) (sym is) tt

pub end_goes : {MayEnd : Draft → Type 0} {Before : StatsFile → Lines → Type 0} {Between : Draft → StatsFile → Lines → Type 0} {line : List ℕ} → EndsBefore MayEnd Before Between line
    → (Next : StatsFile → Lines → Type 0) (Valid : Type 0) (new : Draft) (r : Result (Unit {0}) Fault) → Ends MayEnd new r
    → ((m : Draft) → MayEnd m → m ≡ new → ((file : StatsFile) (more : Lines) → Between m file (line ∷ more) ↔ Next file more) × Valid) → FilesByResult Before Next Valid line r
end_goes ends Next Valid new (Ok done) may step =
    let h = step new may refl in
    (λ file more. both_ways (ends.same new may file more) (h.0 file more), h.1)
end_goes ends Next Valid new (Err fault.Syntax) never step = never
end_goes ends Next Valid new (Err fault.Rule) none step = λ file more b. let found = ends.may file more b in none found.0 found.1
end_goes ends Next Valid new (Err fault.NoMemory) any step = tt
