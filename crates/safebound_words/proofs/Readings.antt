-- Words are read in at most one way, and `reading_of` computes this reading.
use Rattle.std.proofs.Common.{◌≡◌, List, [], ◌∷◌, ◌++◌, Option, Some, None, sym, refl, ap, ◌∙◌, inl, inr, append_assoc}
use Rattle.std.specs.Bool.{IsTrue}
use Rattle.std.specs.List.{AllByRecursion, flat_map}
use Rattle.safebound_words.specs.Answer.{WordKind, Ends, IsPositional, Sets, Wants, Gives, Unknown, ItemsAndAfterDashes, command_named, command_of, in_front, kind_of_word, parts_from, read_by, reading_of}
use Rattle.safebound_words.specs.CommandLines.{Flag, AskFor, WithNextWord, IsEnd, IsItemOf, Item, WithEquals, Positional, CommandReading, AreReadAs, has_option, requested, spelling}
use Rattle.safebound_words.specs.declared.command.Command.{Command}
use Rattle.safebound_words.specs.Table.{command_row, option_row, ◌>>=◌}
use Rattle.safebound_words.specs.Words.{Word}
use Rattle.safebound_words.specs.declared.table.CommandName.{CommandName}
use Rattle.safebound_words.specs.declared.table.OptionName.{OptionName}
use Rattle.safebound_words.proofs.WordKinds.{KindSpells, kind_spells, kind-ends, kind-gives, kind-positional, kind-sets, kind-wants, word_of_named_command, names_itself}

-- ---- `parts_from` reads the items and the end that words spell

spelled_read : (name : CommandName) (items : List Item) (rest after_dashes : List Word)
    → AllByRecursion (IsItemOf name) items → IsEnd rest after_dashes → parts_from name None (flat_map spelling items ++ rest) ≡ Some (items, after_dashes)
unfolding parts_from
spelled_read name [] rest after_dashes all end = elim end [
  | inl w ↦ rw (w.0, w.1) refl
  | inr e ↦ rw (e, kind-ends name) refl
]
spelled_read name (Positional word ∷ items) rest after_dashes all end =
    rw (kind-positional name word all.0, spelled_read name items rest after_dashes all.1 end) refl
spelled_read name (Flag f ∷ items) rest after_dashes all end =
    rw (kind-sets name f all.0, spelled_read name items rest after_dashes all.1 end) refl
spelled_read name (WithNextWord o value ∷ items) rest after_dashes all end =
    rw (kind-wants name o all.0, spelled_read name items rest after_dashes all.1 end) refl
spelled_read name (WithEquals o value ∷ items) rest after_dashes all end =
    rw (kind-gives name o value all.0, spelled_read name items rest after_dashes all.1 end) refl

pub reads_computed : (words : List Word) (reading : CommandReading) → AreReadAs words reading → reading_of words ≡ Some reading
unfolding reading_of
reads_computed words reading is =
    rw (is.spelled, names_itself reading.command, spelled_read reading.command reading.items is.rest reading.after_dashes is.items is.end) refl

-- ---- words spell the items and the end that `parts_from` reads

pub record IsSpelled (name : CommandName) (words : List Word) (parts : ItemsAndAfterDashes) : Type 0 where
  pub rest : List Word
  pub spelled : words ≡ flat_map spelling parts.0 ++ rest
  pub end : IsEnd rest parts.1
  pub items : AllByRecursion (IsItemOf name) parts.0

pub record InFront (item : Item) (from : Option ItemsAndAfterDashes) (parts : ItemsAndAfterDashes) : Type 0 where
  pub inner : ItemsAndAfterDashes
  pub from_is : from ≡ Some inner
  pub parts_are : parts ≡ (item ∷ inner.0, inner.1)

in_front_inversion : (item : Item) (from : Option ItemsAndAfterDashes) (parts : ItemsAndAfterDashes) → in_front item from ≡ Some parts → InFront item from parts
in_front_inversion item None parts e = cc
in_front_inversion item (Some inner) parts e = record { inner = inner; from_is = refl; parts_are = cc }

one_more_item : (name : CommandName) (item : Item) (words inner_words : List Word) (from : Option ItemsAndAfterDashes) (parts : ItemsAndAfterDashes)
    → words ≡ spelling item ++ inner_words → IsItemOf name item
    → ((inner : ItemsAndAfterDashes) → from ≡ Some inner → IsSpelled name inner_words inner)
    → in_front item from ≡ Some parts → IsSpelled name words parts
one_more_item name item words inner_words from parts spelled of read_on e =
    let front = in_front_inversion item from parts e in
    let inner = read_on front.inner front.from_is in
    rw front.parts_are record {
      rest = inner.rest;
      spelled = spelled ∙ ap (λ ws. spelling item ++ ws) inner.spelled ∙ sym (append_assoc (spelling item) (flat_map spelling front.inner.0) inner.rest);
      end = inner.end;
      items = (of, inner.items);
    }

-- `kind` says what the word is: `--`, an item or an option's word
kind_spelled : (name : CommandName) (word : Word) (words : List Word) (kind : WordKind) (parts : ItemsAndAfterDashes) → KindSpells name word kind
    → ((inner : ItemsAndAfterDashes) → parts_from name None words ≡ Some inner → IsSpelled name words inner)
    → ((o : OptionName) (inner : ItemsAndAfterDashes) → IsTrue (has_option name o) → parts_from name (Some o) words ≡ Some inner → IsSpelled name ((option_row o).word ∷ words) inner)
    → read_by kind word words (λ wanted. parts_from name wanted words) ≡ Some parts
    → IsSpelled name (word ∷ words) parts
kind_spelled name word words Ends parts is read_on value e =
    let at_end : Some ([], words) ≡ Some parts = e in
    let parts_are : parts ≡ ([], words) = cc in
    rw parts_are record { rest = word ∷ words; spelled = refl; end = inr (ap (λ w. w ∷ words) is); items = tt }
kind_spelled name word words IsPositional parts is read_on value e =
    one_more_item name (Positional word) (word ∷ words) words (parts_from name None words) parts refl is read_on e
kind_spelled name word words (Sets f) parts is read_on value e =
    one_more_item name (Flag f) (word ∷ words) words (parts_from name None words) parts (ap (λ w. w ∷ words) is.0) is.1 read_on e
kind_spelled name word words (Wants o) parts is read_on value e =
    rw is.0 (value o parts is.1 e)
kind_spelled name word words (Gives o given) parts is read_on value e =
    one_more_item name (WithEquals o given) (word ∷ words) words (parts_from name None words) parts (ap (λ w. w ∷ words) is.0) is.1 read_on e
kind_spelled name word words Unknown parts is read_on value e = cc

value_spelled : (name : CommandName) (o : OptionName) (value : Word) (words : List Word) (parts : ItemsAndAfterDashes) → IsTrue (has_option name o)
    → ((inner : ItemsAndAfterDashes) → parts_from name None words ≡ Some inner → IsSpelled name words inner)
    → in_front (WithNextWord o value) (parts_from name None words) ≡ Some parts → IsSpelled name ((option_row o).word ∷ value ∷ words) parts
value_spelled name o value words parts has read_on e =
    one_more_item name (WithNextWord o value) ((option_row o).word ∷ value ∷ words) words (parts_from name None words) parts refl has read_on e

-- `words`, preceded by the word of the option that waits for its value, if there is one
with_option_word : Option OptionName → List Word → List Word
with_option_word None words = words
with_option_word (Some o) words = (option_row o).word ∷ words

WaitingOptionIsOfCommand : CommandName → Option OptionName → Type 0
WaitingOptionIsOfCommand name None = Unit {0}
WaitingOptionIsOfCommand name (Some o) = IsTrue (has_option name o)

spelled_from : (name : CommandName) (wanting : Option OptionName) (words : List Word) (parts : ItemsAndAfterDashes) → WaitingOptionIsOfCommand name wanting
    → parts_from name wanting words ≡ Some parts → IsSpelled name (with_option_word wanting words) parts
unfolding parts_from with_option_word WaitingOptionIsOfCommand
spelled_from name None [] parts has e =
    let at_end : Some ([], []) ≡ Some parts = e in
    let parts_are : parts ≡ ([], []) = cc in
    rw parts_are record { rest = []; spelled = refl; end = inl (refl, refl); items = tt }
spelled_from name (Some o) [] parts has e = cc
spelled_from name (Some o) (value ∷ words) parts has e =
    value_spelled name o value words parts has (λ inner is. spelled_from name None words inner tt is) e
spelled_from name None (word ∷ words) parts has e =
    kind_spelled name word words (kind_of_word name word) parts (kind_spells name word)
    (λ inner is. spelled_from name None words inner tt is)
    (λ o inner h is. spelled_from name (Some o) words inner h is) e

pub read_spelled : (name : CommandName) (words : List Word) (parts : ItemsAndAfterDashes) → parts_from name None words ≡ Some parts → IsSpelled name words parts
unfolding with_option_word WaitingOptionIsOfCommand
read_spelled name words parts e = spelled_from name None words parts tt e

-- ---- `reading_of` computes the only reading

pub bind_inversion : {A B : Type 0} (from : Option A) (rest : A → Option B) (b : B) → from >>= rest ≡ Some b → (a : A) × (from ≡ Some a) × (rest a ≡ Some b)
bind_inversion None rest b e = cc
bind_inversion (Some a) rest b e = (a, refl, e)

pub computed_reads : (words : List Word) (reading : CommandReading) → reading_of words ≡ Some reading → AreReadAs words reading
unfolding reading_of
computed_reads [] reading e = cc
computed_reads (first ∷ words) reading e =
    let name = bind_inversion (command_named first) _ reading e in
    let parts = bind_inversion (parts_from name.0 None words) _ reading name.2 in
    let is = read_spelled name.0 words parts.0 parts.1 in
    let made : Some (record { command = name.0; items = parts.0.0; after_dashes = parts.0.1 }) ≡ Some reading = parts.2 in
    let reading_is : reading ≡ record { command = name.0; items = parts.0.0; after_dashes = parts.0.1 } = cc in
    rw reading_is record {
      rest = is.rest;
      spelled = ap (λ w. w ∷ words) (word_of_named_command first name.0 name.1) ∙ ap (λ ws. (command_row name.0).word ∷ ws) is.spelled;
      end = is.end;
      items = is.items;
    }

pub one_reading : (words : List Word) (one other : CommandReading) → AreReadAs words one → AreReadAs words other → one ≡ other
one_reading words one other is same =
    let first = reads_computed words one is in
    let second = reads_computed words other same in cc

pub asked_computed : (words : List Word) (request : Command) → AskFor words request → command_of words ≡ Some request
unfolding command_of
asked_computed words request (reading, is, asks) = rw (reads_computed words reading is) asks

pub computed_asked : (words : List Word) (request : Command) → command_of words ≡ Some request → AskFor words request
unfolding command_of
computed_asked words request e =
    let read = bind_inversion (reading_of words) requested request e in
    (read.0, computed_reads words read.0 read.1, read.2)
