use Rattle.std.proofs.Common.{◌≡◌, drop}
use Rattle.base_io.specs.Files.{file_of}
use Rattle.slice_devices.specs.Slices.{files_of}
use Rattle.slice_devices.proofs.slice_store.find_file.Given as goal

abbrev pub invariant-files : goal.invariant-files
invariant-files l = file_of (files_of (drop l.file-index l.files)) l.name ≡ file_of (files_of l.files) l.name
