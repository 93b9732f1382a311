-- The errors that may be given when a file is read.
use Rattle.std.specs.Prelude.{◌≡◌, Result, Err, ⊤}
use Rattle.csv_tables.specs.declared.types.TableError.{TableError}
use Rattle.csv_tables.specs.declared.types.TableError.TheVariants as error

-- the error is NoMemory, or exactly the refusal that the specification gives
abbrev pub IsRefusalOrNoMemory : {A : Type 0} → Result A TableError → TableError → Type 0
IsRefusalOrNoMemory stated error.NoMemory = ⊤
IsRefusalOrNoMemory stated (error.Utf8 at) = stated ≡ Err (error.Utf8 at)
IsRefusalOrNoMemory stated (error.Header column) = stated ≡ Err (error.Header column)
IsRefusalOrNoMemory stated (error.Width row found) = stated ≡ Err (error.Width row found)
IsRefusalOrNoMemory stated (error.Field row column) = stated ≡ Err (error.Field row column)
IsRefusalOrNoMemory stated (error.Key row earlier) = stated ≡ Err (error.Key row earlier)
IsRefusalOrNoMemory stated (error.Limit found) = stated ≡ Err (error.Limit found)
