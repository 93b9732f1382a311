-- The files that a store over slices tells, and the bytes that a sink over a slice tells.
use Rattle.std.specs.Prelude.{ℕ, ◌∷◌, List, map, take, Option, Some}
use Rattle.base_io.specs.Files.{Files}
use Rattle.slice_devices.specs.declared.slice_store.SliceFile.{SliceFile}

-- the files of a list, in its order
abbrev pub files_of : List SliceFile → Files
files_of files = map (λ file. (file.name.now, file.bytes.now)) files

-- what a sink tells: the ghost name of its buffer, then the written bytes. The name shows in which buffer they are
abbrev pub named_bytes : ℕ → ℕ → List ℕ → Option (List ℕ)
named_bytes name used room = Some (name ∷ take used room)
