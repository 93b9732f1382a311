-- The line that says how many bytes a plan takes. It follows the plan text if a limit of memory is given.
use Rattle.std.specs.Prelude.{ℕ, List, [], ◌++◌, Option, None, Some, codes, decimal}

-- the line `memory BYTES`
abbrev pub memory_line : ℕ → List ℕ
memory_line bytes = codes "memory " ++ (decimal bytes ++ codes "\n")

-- the line, if there is a limit; otherwise the empty text
abbrev pub memory_text : Option ℕ → ℕ → List ℕ
memory_text None bytes = []
memory_text (Some limit) bytes = memory_line bytes
