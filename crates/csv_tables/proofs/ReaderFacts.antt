-- A reader over bytes in memory gives the records that it has left, one after another.
use Rattle.std.proofs.Common.{◌≡◌, ◌≤◌, ◌+◌, arith, length, inl, ℕ, List, [], ◌∷◌, Option, None, Some, true, false, refl, ap, ◌∙◌}
use Rattle.csv.specs.Machine.{next_record}
use Rattle.csv.specs.Reading.{default_config, pending_of, took_first, NextIs, ReadRecord, ReadsNext}
use Rattle.csv.specs.declared.parser.State.{State}
use Rattle.csv.proofs.ReadFacts.{rows-end}
use Rattle.csv_tables.specs.Records.{unread_records, records_in, unread, IsReading, MemoryReader}
use Rattle.csv.specs.Records.{AllText}
use Rattle.csv_tables.proofs.FieldFacts.{text_read}
use Rattle.csv_tables.proofs.RecordFacts.{first_found, none_found, Found}

read_known : (s s2 : State) (xs : List ℕ) (k : Option (List ℕ)) (fields : List (List ℕ)) → ReadsNext default_config s (Some xs) k true fields s2
    → (ys : List ℕ) × (k ≡ Some ys) × NextIs (next_record default_config s [] [] xs) true fields s2 ys
read_known s s2 xs None fields r = absurd r
read_known s s2 xs (Some ys) fields r = (ys, refl, r)

first_of_known : (s s2 : State) (before after : Option (List ℕ)) (xs ys : List ℕ) (fields : List (List ℕ)) → before ≡ Some xs → after ≡ Some ys
    → Found default_config s xs fields s2 ys → records_in s before ≡ fields ∷ records_in s2 after
first_of_known s s2 before after xs ys fields e f found = rw (e, f) found.first

pub record IsNextRecord (old new : MemoryReader) (fields : List (List ℕ)) : Type 0 where
  pub reading : IsReading new
  pub first : unread_records old ≡ fields ∷ unread_records new
  pub text : AllText fields
  pub few : length fields ≤ 67108865

pub gives_next_record : (old new : MemoryReader) (fields : List (List ℕ)) → IsReading old → took_first new ≡ true
    → ReadRecord (λ bytes. Some bytes.now) old new true fields → IsNextRecord old new fields
gives_next_record old new fields was took r =
    let k = read_known old.state new.state was.bytes (pending_of (Some new.rdr.now) new) fields (rw (was.config, was.known) at r.0) in
    let known : unread new ≡ Some k.0 = rw r.1 k.1 in
    let found = first_found default_config old.state was.bytes fields new.state k.0 was.between k.2 in
    let text = text_read old.state was.bytes fields new.state k.0 was.text k.2 in
    let was_few : length was.bytes ≤ 67108864 = was.few in
    let wide : length fields ≤ length was.bytes + 1 = found.wide in
    let less : length k.0 ≤ length was.bytes = found.shorter in
    record {
      reading = record { config = r.2 ∙ was.config; trim = r.3 ∙ was.trim; ready = inl took; bytes = k.0; known = known; text = text.text; few = omega arith; between = found.between };
      first = first_of_known old.state new.state (unread old) (unread new) was.bytes k.0 fields was.known known found;
      text = text.all;
      few = omega arith;
    }

pub gives_no_record : (old new : MemoryReader) (fields : List (List ℕ)) → IsReading old → ReadRecord (λ bytes. Some bytes.now) old new false fields → unread_records old ≡ []
gives_no_record old new fields was r =
    ap (records_in old.state) was.known
    ∙ none_found default_config old.state was.bytes (rows-end (λ bytes. Some bytes.now) old new fields default_config was.bytes was.config was.known r)
