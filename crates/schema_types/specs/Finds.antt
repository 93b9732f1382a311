-- The result of a check: `Ok` if it finds nothing, otherwise an error with the first byte offset or number that it finds. `NoMemory` is always
-- allowed.
use Rattle.std.specs.Prelude.{◌≡◌, ℕ, List, [], Some, Result, Ok, Err, ⊤, option_map}
use Rattle.schema_types.specs.declared.errors.LimitKind.{LimitKind}
use Rattle.schema_types.specs.declared.errors.SchemaError.{SchemaError}
use Rattle.schema_types.specs.declared.errors.SchemaError.TheVariants as error
use Rattle.schema_types.specs.Names.{first}
use Rattle.schema_types.specs.Refusals.{in_64_bits}

-- byte offsets at which a rule on names is broken
abbrev pub IsNameCheckOf : {A : Type 0} → Result A SchemaError → List ℕ → Type 0
IsNameCheckOf (Ok _) offsets = offsets ≡ []
IsNameCheckOf (Err (error.Name at)) offsets = first offsets ≡ Some at
IsNameCheckOf (Err error.NoMemory) offsets = ⊤
IsNameCheckOf (Err (error.Syntax _)) offsets = ⊥
IsNameCheckOf (Err (error.Nullable _)) offsets = ⊥
IsNameCheckOf (Err (error.Limit _ _)) offsets = ⊥

-- byte offsets of the names of columns that may be null
abbrev pub FindsNullable : {A : Type 0} → Result A SchemaError → List ℕ → Type 0
FindsNullable (Ok _) offsets = offsets ≡ []
FindsNullable (Err (error.Nullable at)) offsets = first offsets ≡ Some at
FindsNullable (Err error.NoMemory) offsets = ⊤
FindsNullable (Err (error.Syntax _)) offsets = ⊥
FindsNullable (Err (error.Name _)) offsets = ⊥
FindsNullable (Err (error.Limit _ _)) offsets = ⊥

-- numbers that exceed a limit
abbrev pub FindsAbove : {A : Type 0} → LimitKind → Result A SchemaError → List ℕ → Type 0
FindsAbove limit (Ok _) numbers = numbers ≡ []
FindsAbove limit (Err (error.Limit which found)) numbers = (which ≡ limit) × (option_map in_64_bits (first numbers) ≡ Some found)
FindsAbove limit (Err error.NoMemory) numbers = ⊤
FindsAbove limit (Err (error.Syntax _)) numbers = ⊥
FindsAbove limit (Err (error.Name _)) numbers = ⊥
FindsAbove limit (Err (error.Nullable _)) numbers = ⊥
