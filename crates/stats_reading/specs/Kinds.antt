-- The form of a line without its line end: a fixed first part, and after it one word or two.
use Rattle.std.specs.Prelude.{ℕ, ◌≡◌, Bool, true, false, if◌then◌else◌, List, [], ◌++◌, Option, None, Some, codes}
use Rattle.stats_file.specs.Grammar.{IsCutLine, IsFirstLine, IsFrequentLine, IsHexWord, IsListWord, IsNodeLine, IsNumeral, IsPairLine, IsRestLine, IsTableLine, IsValueWord, IsWholeLine}
use Rattle.stats_reading.specs.declared.fault.Fault.{Fault}
use Rattle.stats_reading.specs.declared.fault.Fault.TheVariants as fault
use Rattle.stats_reading.specs.declared.line.LineKind.{LineKind}
use Rattle.stats_reading.specs.declared.line.LineKind.TheVariants as kind

abbrev pub front : LineKind → List ℕ
front kind.First = codes "safebound-stats 1 "
front kind.Table = codes "table "
front kind.Pair = codes "pair "
front kind.Whole = codes "whole "
front kind.Frequent = codes "frequent "
front kind.Rest = codes "rest "
front kind.Cut = codes "cut "
front kind.Node = codes "node "
front kind.End = codes "end"

-- whether lines of this kind have two words. In lines with one word the second word is empty
abbrev pub has_two : LineKind → Bool
has_two kind.First = false
has_two kind.Table = true
has_two kind.Pair = true
has_two kind.Whole = false
has_two kind.Frequent = true
has_two kind.Rest = false
has_two kind.Cut = false
has_two kind.Node = false
has_two kind.End = false

-- the grammar allows these two words in a line of this kind
abbrev pub AreLineParts : LineKind → List ℕ → List ℕ → Type 0
AreLineParts kind.First first second = IsNumeral first × (second ≡ [])
AreLineParts kind.Table first second = IsHexWord first × IsNumeral second
AreLineParts kind.Pair first second = IsHexWord first × IsHexWord second
AreLineParts kind.Whole first second = IsListWord first × (second ≡ [])
AreLineParts kind.Frequent first second = IsValueWord first × IsListWord second
AreLineParts kind.Rest first second = IsListWord first × (second ≡ [])
AreLineParts kind.Cut first second = IsValueWord first × (second ≡ [])
AreLineParts kind.Node first second = IsListWord first × (second ≡ [])
AreLineParts kind.End first second = (first ≡ []) × (second ≡ [])

-- the text of the words, with a blank between two words
abbrev pub words_text : LineKind → List ℕ → List ℕ → List ℕ
words_text kind first second = if has_two kind then first ++ (codes " " ++ second) else first

-- the line of this kind with these words
pub record IsLineOf (kind : LineKind) (first second line : List ℕ) : Type 0 where
  pub parts : AreLineParts kind first second
  pub whole : line ≡ front kind ++ words_text kind first second

-- if lines of this kind have one word, the second word is empty
abbrev pub HasEmptySecond : LineKind → List ℕ → Type 0
HasEmptySecond kind second = has_two kind ≡ false → second ≡ []

-- a line has this kind's first part and these words; if the line is one of the grammar, the grammar allows these words
pub record MayBeLineOf (kind : LineKind) (first second line : List ℕ) : Type 0 where
  pub whole : line ≡ front kind ++ words_text kind first second
  pub empty_second : HasEmptySecond kind second
  pub only : (k : LineKind) (a b : List ℕ) → IsLineOf k a b line → AreLineParts kind first second

-- the grammar has no such line
abbrev pub IsNoLine : List ℕ → Type 0
IsNoLine line = (kind : LineKind) (first second : List ℕ) → IsLineOf kind first second line → ⊥

-- a text splits into these two words. If it splits into words of the grammar at all, these two are words of the grammar
pub record SplitsInto (kind : LineKind) (words first second : List ℕ) : Type 0 where
  pub whole : words ≡ words_text kind first second
  pub empty_second : HasEmptySecond kind second
  pub only : (a b : List ℕ) → AreLineParts kind a b → words ≡ words_text kind a b → AreLineParts kind first second

-- no words of the grammar for this kind have this text
abbrev pub HasNoLineWords : LineKind → List ℕ → Type 0
HasNoLineWords kind words = (first second : List ℕ) → AreLineParts kind first second → words ≡ words_text kind first second → ⊥

-- whether words of this kind are tested against the grammar before they are read. For the other kinds, words that are read without a fault are words
-- of the grammar
abbrev pub is_tested : LineKind → Bool
is_tested kind.First = true
is_tested kind.Table = true
is_tested kind.Pair = true
is_tested kind.Whole = false
is_tested kind.Frequent = false
is_tested kind.Rest = false
is_tested kind.Cut = false
is_tested kind.Node = false
is_tested kind.End = true

-- the fault of a line. Words that the grammar doesn't allow are a fault of syntax, not of a rule
abbrev pub IsFaultOf : LineKind → List ℕ → List ℕ → Fault → Fault → Type 0
IsFaultOf kind first second fault.Rule fault.Rule = AreLineParts kind first second
IsFaultOf kind first second fault.Rule fault.Syntax = AreLineParts kind first second → ⊥
IsFaultOf kind first second fault.Rule fault.NoMemory = ⊥
IsFaultOf kind first second fault.Syntax new = new ≡ fault.Syntax
IsFaultOf kind first second fault.NoMemory new = new ≡ fault.NoMemory

-- the only kind that the line may have. It is `None` if the line begins with no kind's fixed first part
abbrev pub CanBe : List ℕ → Option LineKind → Type 0
CanBe line None = (kind : LineKind) (rest : List ℕ) → line ≡ front kind ++ rest → ⊥
CanBe line (Some only) = (kind : LineKind) (rest : List ℕ) → line ≡ front kind ++ rest → kind ≡ only

-- a line with its line end is one of this kind in the grammar
abbrev pub IsOfLineKind : LineKind → List ℕ → Type 0
IsOfLineKind kind.First line = IsFirstLine line
IsOfLineKind kind.Table line = IsTableLine line
IsOfLineKind kind.Pair line = IsPairLine line
IsOfLineKind kind.Whole line = IsWholeLine line
IsOfLineKind kind.Frequent line = IsFrequentLine line
IsOfLineKind kind.Rest line = IsRestLine line
IsOfLineKind kind.Cut line = IsCutLine line
IsOfLineKind kind.Node line = IsNodeLine line
IsOfLineKind kind.End line = line ≡ codes "end\n"
