-- The kinds of lines that may come at each stage, and the lines that may follow in a text of the grammar.
use Rattle.std.specs.Prelude.{ℕ, ◌≡◌, List, [], ◌∷◌, ◌++◌, Option, None, Some, codes}
use Rattle.std.specs.List.{AllByRecursion, flat_map}
use Rattle.stats_file.specs.Grammar.{ArePairLines, AreTableLines, IsCutLine, IsFrequentLine, IsNodeLine, IsRestLine, IsText, IsWholeLine}
use Rattle.stats_reading.specs.declared.line.LineKind.{LineKind}
use Rattle.stats_reading.specs.declared.line.LineKind.TheVariants as kind
use Rattle.stats_reading.specs.declared.stages.Stage.{Stage}
use Rattle.stats_reading.specs.declared.stages.Stage.TheVariants as stage

abbrev pub next_stage : Stage → LineKind → Option Stage
next_stage stage.Start kind.First = Some stage.Tables
next_stage stage.Tables kind.Table = Some stage.Pairs
next_stage stage.Tables kind.End = Some stage.Done
next_stage stage.Pairs kind.Pair = Some stage.Whole
next_stage stage.Pairs kind.Table = Some stage.Pairs
next_stage stage.Pairs kind.End = Some stage.Done
next_stage stage.Whole kind.Whole = Some stage.Frequent
next_stage stage.Frequent kind.Frequent = Some stage.Frequent
next_stage stage.Frequent kind.Rest = Some stage.Cuts
next_stage stage.Cuts kind.Cut = Some stage.Cuts
next_stage stage.Cuts kind.Node = Some stage.Nodes
next_stage stage.Cuts kind.Pair = Some stage.Whole
next_stage stage.Cuts kind.Table = Some stage.Pairs
next_stage stage.Cuts kind.End = Some stage.Done
next_stage stage.Nodes kind.Node = Some stage.Nodes
next_stage stage.Nodes kind.Pair = Some stage.Whole
next_stage stage.Nodes kind.Table = Some stage.Pairs
next_stage stage.Nodes kind.End = Some stage.Done
next_stage _ _ = None

-- the lines are one line of a kind, then lines that satisfy `Next`
pub record One (IsKind : List ℕ → Type 0) (Next : List (List ℕ) → Type 0) (lines : List (List ℕ)) : Type 0 where
  pub line : List ℕ
  pub others : List (List ℕ)
  pub line_is : IsKind line
  pub next : Next others
  pub all : lines ≡ line ∷ others

-- the lines are any number of lines of a kind, then lines that satisfy `Next`
pub record Many (IsKind : List ℕ → Type 0) (Next : List (List ℕ) → Type 0) (lines : List (List ℕ)) : Type 0 where
  pub front : List (List ℕ)
  pub others : List (List ℕ)
  pub front_are : AllByRecursion IsKind front
  pub next : Next others
  pub all : lines ≡ front ++ others

-- the lines are any number of parts, then lines that satisfy `Next`. A part has one line or more
pub record ManyParts (ArePart : List (List ℕ) → Type 0) (Next : List (List ℕ) → Type 0) (lines : List (List ℕ)) : Type 0 where
  pub parts : List (List (List ℕ))
  pub others : List (List ℕ)
  pub parts_are : AllByRecursion ArePart parts
  pub next : Next others
  pub all : lines ≡ flat_map (λ part. part) parts ++ others

abbrev pub MayEnd : List (List ℕ) → Type 0
MayEnd lines = lines ≡ codes "end\n" ∷ []

abbrev pub TablesRemaining : List (List ℕ) → Type 0
TablesRemaining = ManyParts AreTableLines MayEnd

abbrev pub PairsRemaining : List (List ℕ) → Type 0
PairsRemaining = ManyParts ArePairLines TablesRemaining

abbrev pub NodesRemaining : List (List ℕ) → Type 0
NodesRemaining = Many IsNodeLine PairsRemaining

abbrev pub CutsRemaining : List (List ℕ) → Type 0
CutsRemaining = Many IsCutLine NodesRemaining

abbrev pub FrequentRemaining : List (List ℕ) → Type 0
FrequentRemaining = Many IsFrequentLine (One IsRestLine CutsRemaining)

-- from this stage on, these lines complete some text of the grammar
abbrev pub TextRemaining : Stage → List (List ℕ) → Type 0
TextRemaining stage.Start lines = IsText lines
TextRemaining stage.Tables lines = TablesRemaining lines
TextRemaining stage.Pairs lines = PairsRemaining lines
TextRemaining stage.Whole lines = One IsWholeLine FrequentRemaining lines
TextRemaining stage.Frequent lines = FrequentRemaining lines
TextRemaining stage.Cuts lines = CutsRemaining lines
TextRemaining stage.Nodes lines = NodesRemaining lines
TextRemaining stage.Done lines = lines ≡ []

abbrev pub TextLeftAt : Option Stage → List (List ℕ) → Type 0
TextLeftAt None lines = ⊥
TextLeftAt (Some at) lines = TextRemaining at lines
