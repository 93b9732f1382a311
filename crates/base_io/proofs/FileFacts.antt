-- Several reads, one after another, give the first bytes of a file.
use Rattle.std.proofs.Common.{◌≡◌, ℕ, ◌+◌, ◌≤◌, List, ◌++◌, take, drop, length, ap, sym, Option, Ok, ◌∙◌, arith, append_assoc}
use Rattle.std.proofs.lemmas.Grind.{common_steps}
use Rattle.std.proofs.lemmas.List.{take-take, take-append-le}
use Rattle.std.proofs.Math.Seq.{take-add, take-append-add}
use Rattle.base_io.specs.Files.{Files, answer_about, ReadsAt, FileAnswer, Unknown, Absent, Present, MayHaveRead, AreFirstBytes}

pub block_appended : (items grown into after rest : List ℕ) (at n len : ℕ) → at ≡ length items → take at grown ≡ items → n ≤ length into → at + n ≤ len
    → take (at + n) (take len ((take at grown ++ (into ++ after)) ++ rest)) ≡ items ++ take n into
block_appended items grown into after rest at n len e front fits within =
    let joined : (items ++ (into ++ after)) ++ rest ≡ items ++ (into ++ (after ++ rest))
    = append_assoc items (into ++ after) rest ∙ ap (λ x. items ++ x) (append_assoc into after rest) in
    take-take (at + n) len _ within ∙ ap (λ x. take (at + n) ((x ++ (into ++ after)) ++ rest)) front ∙ ap (take (at + n)) joined
    ∙ ap (λ k. take (k + n) (items ++ (into ++ (after ++ rest)))) e ∙ take-append-add items (into ++ (after ++ rest)) n
    ∙ ap (λ x. items ++ x) (take-append-le n into (after ++ rest) fits)

first_bytes_extended : (all items into : List ℕ) (n : ℕ) → n ≤ length into → items ≡ take (length items) all → take n into ≡ take n (drop (length items) all)
    → items ++ take n into ≡ take (length (items ++ take n into)) all
first_bytes_extended all items into n le first more =
    let lengths : length (items ++ take n into) ≡ length items + n = grind (arith, common_steps) in
    ap (λ x. x ++ take n into) first ∙ ap (λ x. take (length items) all ++ x) more
    ∙ sym (take-add (length items) n all) ∙ ap (λ k. take k all) (sym lengths)

pub first_bytes_after_read : (file : FileAnswer) (items into : List ℕ) (n : ℕ) → n ≤ length into → AreFirstBytes file items → MayHaveRead file (length items) n into → AreFirstBytes file (items ++ take n into)
first_bytes_after_read Unknown items into n le front gives = tt
first_bytes_after_read Absent items into n le front gives = absurd gives
first_bytes_after_read (Present all) items into n le front gives = first_bytes_extended all items into n le front gives.same

-- `first_bytes_after_read` for a store with the same files before (`before`) and after (`now`)
pub first_bytes_after_read_since : (before now : Option Files) (name items into : List ℕ) (offset n : ℕ) → now ≡ before → offset ≡ length items
    → ReadsAt (answer_about now name) offset (Ok n) into → AreFirstBytes (answer_about before name) items → AreFirstBytes (answer_about before name) (items ++ take n into)
first_bytes_after_read_since before now name items into offset n same at reads front =
    let gives : MayHaveRead (answer_about now name) (length items) n into = rw (← at) reads.1 in
    first_bytes_after_read (answer_about before name) items into n reads.0 front (rw (← same) gives)
