-- The shop (files that `demo` makes in memory), and the store that a command reads.
use Rattle.std.specs.Prelude.{ℕ, List, Option, None, Some}
use Rattle.demo_files.specs.Files.{demo_files}
use Rattle.base_io.specs.Devices.{Reading}
use Rattle.safebound_words.specs.Answer.{command_of}
use Rattle.safebound_words.specs.declared.command.Command.{Command}

-- the shop of a command. Only `demo` has a shop
abbrev pub shop_asked : Option Command → Option ℕ
shop_asked None = None
shop_asked (Some command) = command.shop

-- the number of the shop whose files the words ask for
abbrev pub demo_number_of : List (List ℕ) → Option ℕ
demo_number_of words = shop_asked (command_of words)

-- a store with exactly the files of the shop, in which no read fails
abbrev pub shop_store : ℕ → Reading
shop_store number = record {
  files = Some (demo_files number);
  files_after = Some (demo_files number);
  faults_before = 0;
  faults_after = 0;
  misses_before = 0;
  misses_after = 0;
}

-- the store that is read: the store of the shop, if there is a shop, and otherwise the store that was handed in
abbrev pub store_read : Option ℕ → Reading → Reading
store_read None handed_in = handed_in
store_read (Some number) handed_in = shop_store number
