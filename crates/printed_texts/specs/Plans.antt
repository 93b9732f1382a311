-- The text of a plan, and the text of an audit, for left-deep orders.
use Rattle.std.specs.Prelude.{ℕ, ◌+◌, List, [], ◌∷◌, ◌++◌, Option, None, Some, slice_get, codes, decimal}
use Rattle.plans.specs.declared.left_deep.Plan.{Plan}
use Rattle.query_types.specs.declared.types.Source.{Source}

-- the line `scan ALIAS BOUND`. The alias is the entry's name after folding, without quotes. The alias may hold blanks; the bound comes after
-- the last blank
abbrev pub scan_line : List ℕ → ℕ → List ℕ
scan_line alias bound = codes "scan " ++ (alias ++ (codes " " ++ (decimal bound ++ codes "\n")))

-- `level K ALIAS BOUND`, without a line end. The alias may hold blanks here too; the bound comes after the last blank
abbrev pub level_text : ℕ → List ℕ → ℕ → List ℕ
level_text k alias bound = codes "level " ++ (decimal k ++ (codes " " ++ (alias ++ (codes " " ++ decimal bound))))

abbrev pub level_line : ℕ → List ℕ → ℕ → List ℕ
level_line k alias bound = level_text k alias bound ++ codes "\n"

-- a line for each entry, with the bound of its scan
abbrev pub scan_lines : List Source → List ℕ → List ℕ
scan_lines [] bounds = []
scan_lines (source ∷ sources) [] = []
scan_lines (source ∷ sources) (bound ∷ bounds) = scan_line source.alias bound ++ scan_lines sources bounds

abbrev pub alias_of : Option Source → List ℕ
alias_of None = []
alias_of (Some source) = source.alias

-- a line for each entry of the order, with the bound of its level. The first line is that of level k
abbrev pub level_lines : ℕ → List Source → List ℕ → List ℕ → List ℕ
level_lines k sources [] bounds = []
level_lines k sources (entry ∷ order) [] = []
level_lines k sources (entry ∷ order) (bound ∷ bounds) =
    level_line k (alias_of (slice_get sources entry)) bound ++ level_lines (k + 1) sources order bounds

-- the text of a plan: a line for each FROM entry's scan, and then a line for each level of the order
abbrev pub plan_lines : List Source → Plan → List ℕ
plan_lines sources plan = scan_lines sources plan.scans ++ level_lines 1 sources plan.order plan.levels

-- the end of an audit's line, after the bound: a blank, the number of rows, and a line end
abbrev pub rows_and_line_end : ℕ → List ℕ
rows_and_line_end rows = codes " " ++ (decimal rows ++ codes "\n")

-- the line `level K ALIAS BOUND ROWS`. The alias may hold blanks; the bound is between the last two blanks
abbrev pub audit_line : ℕ → List ℕ → ℕ → ℕ → List ℕ
audit_line k alias bound rows = level_text k alias bound ++ rows_and_line_end rows

-- a line for each entry of the order, with the bound of its level and the level's number of rows. The first line is that of level k
abbrev pub level_audits : ℕ → List Source → List ℕ → List ℕ → List ℕ → List ℕ
level_audits k sources [] bounds counts = []
level_audits k sources (entry ∷ order) [] counts = []
level_audits k sources (entry ∷ order) (bound ∷ bounds) [] = []
level_audits k sources (entry ∷ order) (bound ∷ bounds) (rows ∷ counts) =
    audit_line k (alias_of (slice_get sources entry)) bound rows ++ level_audits (k + 1) sources order bounds counts

-- the text of an audit: a line for each level of the order. `counts` are the numbers of rows of the levels
abbrev pub audit_lines : List Source → Plan → List ℕ → List ℕ
audit_lines sources plan counts = level_audits 1 sources plan.order plan.levels counts
