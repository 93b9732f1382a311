-- The command that a whole line asks for: the definition agrees with what the code computes.
use Rattle.std.proofs.Common.{◌≡◌, ℕ, List, [], ◌∷◌, Bor, Option, Some, None, arith, length, map, refl, sym}
use Rattle.safebound_words.specs.Answer.{ItemsAndAfterDashes, command_named, command_of, parts_from, reading_of}
use Rattle.safebound_words.specs.Collected.{asked_by}
use Rattle.safebound_words.specs.CommandLines.{AskFor, requested}
use Rattle.safebound_words.specs.declared.command.Command.{Command}
use Rattle.safebound_words.specs.Table.{◌>>=◌}
use Rattle.safebound_words.specs.Words.{Word}
use Rattle.safebound_words.specs.declared.table.CommandName.{CommandName}
use Rattle.safebound_words.proofs.Readings.{asked_computed, computed_asked}

regrouped : (name : CommandName) (parts : Option ItemsAndAfterDashes)
    → (parts >>= λ p. Some (record { command = name; items = p.0; after_dashes = p.1 })) >>= requested
    ≡ parts >>= λ p. requested (record { command = name; items = p.0; after_dashes = p.1 })
regrouped name None = refl
regrouped name (Some p) = refl

pub named_line : (first : Word) (words : List Word) (name : CommandName) → command_named first ≡ Some name
    → command_of (first ∷ words) ≡ asked_by name words
unfolding command_of reading_of asked_by
named_line first words name is = rw is (regrouped name (parts_from name None words))

pub unnamed_line : (first : Word) (words : List Word) → command_named first ≡ None → command_of (first ∷ words) ≡ None
unfolding command_of reading_of
unnamed_line first words is = rw is refl

pub no_line : command_of [] ≡ None
unfolding command_of reading_of
no_line = refl

pub asks : (words : List Word) (request : Command) → Some request ≡ command_of words → AskFor words request
asks words request is = computed_asked words request (sym is)

pub asks_nothing : (words : List Word) → None ≡ command_of words → (request : Command) → AskFor words request → ⊥
asks_nothing words is request asked = let some = asked_computed words request asked in cc

-- These lemmas are about the words in a slice, as the code has them.

pub no_words : (words : List (Bor (List ℕ))) → length words ≡ 0 → command_of (map (λ w. w.now) words) ≡ None
no_words [] none = no_line
no_words (first ∷ words) none = absurd (omega arith)

pub unnamed_words : (words after_dashes : List (Bor (List ℕ))) (first : Bor (List ℕ)) → words ≡ first ∷ after_dashes → command_named first.now ≡ None
    → command_of (map (λ w. w.now) words) ≡ None
unnamed_words words after_dashes first is none = rw is (unnamed_line first.now (map (λ w. w.now) after_dashes) none)

pub named_words : (words after_dashes : List (Bor (List ℕ))) (first : Bor (List ℕ)) (name : CommandName) → words ≡ first ∷ after_dashes
    → command_named first.now ≡ Some name → command_of (map (λ w. w.now) words) ≡ asked_by name (map (λ w. w.now) after_dashes)
named_words words after_dashes first name is named = rw is (named_line first.now (map (λ w. w.now) after_dashes) name named)
