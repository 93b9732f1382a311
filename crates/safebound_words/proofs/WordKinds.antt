-- Kinds of words (`kind_of_word`). The lemmas give the kind of each word in the table of commands. They also say what a word of each kind is.
use Rattle.std.proofs.Common.{◌≡◌, ◌⊎◌, ℕ, ◌==◌, Bool, true, false, cond, if◌then◌else◌, List, [], ◌∷◌, ◌++◌, Option, Some, None, MatchOption, sym, refl, ap, ◌∙◌, codes, inl, inr, append_assoc}
use Rattle.std.proofs.lemmas.Bool.{eqb-true, false≢true, or_left, or_right}
use Rattle.std.proofs.lemmas.Slice.Eq.{bytes_eq-Decides}
use Rattle.std.specs.Bool.{IsTrue}
use Rattle.std.specs.List.{find, list_any}
use Rattle.std.specs.Str.{bytes_eq}
use Rattle.safebound_words.specs.Answer.{WordKind, Ends, IsPositional, Sets, Wants, Gives, Unknown, command_named, dashed_kind, flag_named, kind_of_word, option_kind, option_named, split_value}
use Rattle.safebound_words.specs.CommandLines.{has_flag, has_option, same_flag, same_option}
use Rattle.safebound_words.specs.Table.{command_row, flag_word, option_row}
use Rattle.safebound_words.specs.Words.{Word, is_dashed}
use Rattle.safebound_words.specs.declared.table.CommandName.{CommandName}
use Rattle.safebound_words.specs.declared.table.CommandName.TheVariants as command
use Rattle.safebound_words.specs.declared.table.FlagName.{FlagName}
use Rattle.safebound_words.specs.declared.table.FlagName.TheVariants as flag
use Rattle.safebound_words.specs.declared.table.OptionName.{OptionName}
use Rattle.safebound_words.specs.declared.table.OptionName.TheVariants as option

-- ---- the kind of a word in the table. For a new command, option or flag, each of these lemmas needs one more line

pub names_itself : (name : CommandName) → command_named (command_row name).word ≡ Some name
names_itself command.Run = refl
names_itself command.Plan = refl
names_itself command.Audit = refl
names_itself command.Stats = refl
names_itself command.Append = refl
names_itself command.Demo = refl

pub kind-sets : (name : CommandName) (f : FlagName) → IsTrue (has_flag name f) → kind_of_word name (flag_word f) ≡ Sets f
unfolding kind_of_word
kind-sets command.Run flag.Reduce has = refl
kind-sets command.Run flag.Bushy has = refl
kind-sets command.Run flag.Keys has = refl
kind-sets command.Run flag.Count has = refl
kind-sets command.Plan flag.Reduce has = refl
kind-sets command.Plan flag.Bushy has = refl
kind-sets command.Plan flag.Keys has = refl
kind-sets command.Plan flag.Count has = refl
kind-sets command.Audit flag.Reduce has = refl
kind-sets command.Audit flag.Bushy has = refl
kind-sets command.Audit flag.Keys has = refl
kind-sets command.Audit flag.Count has = refl
kind-sets command.Stats flag.Reduce has = absurd (false≢true has)
kind-sets command.Stats flag.Bushy has = absurd (false≢true has)
kind-sets command.Stats flag.Keys has = absurd (false≢true has)
kind-sets command.Stats flag.Count has = absurd (false≢true has)
kind-sets command.Append flag.Reduce has = absurd (false≢true has)
kind-sets command.Append flag.Bushy has = absurd (false≢true has)
kind-sets command.Append flag.Keys has = absurd (false≢true has)
kind-sets command.Append flag.Count has = absurd (false≢true has)
kind-sets command.Demo flag.Reduce has = absurd (false≢true has)
kind-sets command.Demo flag.Bushy has = absurd (false≢true has)
kind-sets command.Demo flag.Keys has = absurd (false≢true has)
kind-sets command.Demo flag.Count has = absurd (false≢true has)

pub kind-wants : (name : CommandName) (o : OptionName) → IsTrue (has_option name o) → kind_of_word name (option_row o).word ≡ Wants o
unfolding kind_of_word
kind-wants command.Run option.Budget has = refl
kind-wants command.Run option.Accuracy has = refl
kind-wants command.Run option.Memory has = refl
kind-wants command.Run option.Stats has = absurd (false≢true has)
kind-wants command.Plan option.Budget has = refl
kind-wants command.Plan option.Accuracy has = refl
kind-wants command.Plan option.Memory has = refl
kind-wants command.Plan option.Stats has = refl
kind-wants command.Audit option.Budget has = refl
kind-wants command.Audit option.Accuracy has = refl
kind-wants command.Audit option.Memory has = refl
kind-wants command.Audit option.Stats has = absurd (false≢true has)
kind-wants command.Stats option.Budget has = absurd (false≢true has)
kind-wants command.Stats option.Accuracy has = refl
kind-wants command.Stats option.Memory has = absurd (false≢true has)
kind-wants command.Stats option.Stats has = absurd (false≢true has)
kind-wants command.Append option.Budget has = absurd (false≢true has)
kind-wants command.Append option.Accuracy has = absurd (false≢true has)
kind-wants command.Append option.Memory has = absurd (false≢true has)
kind-wants command.Append option.Stats has = absurd (false≢true has)
kind-wants command.Demo option.Budget has = absurd (false≢true has)
kind-wants command.Demo option.Accuracy has = absurd (false≢true has)
kind-wants command.Demo option.Memory has = absurd (false≢true has)
kind-wants command.Demo option.Stats has = absurd (false≢true has)

pub kind-gives : (name : CommandName) (o : OptionName) (value : Word) → IsTrue (has_option name o)
    → kind_of_word name ((option_row o).word ++ codes "=" ++ value) ≡ Gives o value
unfolding kind_of_word
kind-gives command.Run option.Budget value has = refl
kind-gives command.Run option.Accuracy value has = refl
kind-gives command.Run option.Memory value has = refl
kind-gives command.Run option.Stats value has = absurd (false≢true has)
kind-gives command.Plan option.Budget value has = refl
kind-gives command.Plan option.Accuracy value has = refl
kind-gives command.Plan option.Memory value has = refl
kind-gives command.Plan option.Stats value has = refl
kind-gives command.Audit option.Budget value has = refl
kind-gives command.Audit option.Accuracy value has = refl
kind-gives command.Audit option.Memory value has = refl
kind-gives command.Audit option.Stats value has = absurd (false≢true has)
kind-gives command.Stats option.Budget value has = absurd (false≢true has)
kind-gives command.Stats option.Accuracy value has = refl
kind-gives command.Stats option.Memory value has = absurd (false≢true has)
kind-gives command.Stats option.Stats value has = absurd (false≢true has)
kind-gives command.Append option.Budget value has = absurd (false≢true has)
kind-gives command.Append option.Accuracy value has = absurd (false≢true has)
kind-gives command.Append option.Memory value has = absurd (false≢true has)
kind-gives command.Append option.Stats value has = absurd (false≢true has)
kind-gives command.Demo option.Budget value has = absurd (false≢true has)
kind-gives command.Demo option.Accuracy value has = absurd (false≢true has)
kind-gives command.Demo option.Memory value has = absurd (false≢true has)
kind-gives command.Demo option.Stats value has = absurd (false≢true has)

pub kind-ends : (name : CommandName) → kind_of_word name (codes "--") ≡ Ends
unfolding kind_of_word
kind-ends name = refl

positional_if_not_dashes : (name : CommandName) (word : Word) (same : Bool) → (same ≡ true → word ≡ codes "--") → is_dashed word ≡ false
    → cond same Ends (cond (is_dashed word) (dashed_kind (flag_named name word) (option_kind (option_named name (split_value word).0) (split_value word).1)) IsPositional)
    ≡ IsPositional
positional_if_not_dashes name word true two place = absurd (false≢true (sym place ∙ ap is_dashed (two refl)))
positional_if_not_dashes name word false two place = rw place refl

pub kind-positional : (name : CommandName) (word : Word) → is_dashed word ≡ false → kind_of_word name word ≡ IsPositional
unfolding kind_of_word
kind-positional name word place = positional_if_not_dashes name word (bytes_eq word (codes "--")) (bytes_eq-Decides word (codes "--")).0 place

-- ---- the row of the table for a word of a given kind

chosen : {X : Type 0} (b : Bool) (x y : X) (rest : Option X) → cond b (Some x) rest ≡ Some y → ((b ≡ true) × (x ≡ y)) ⊎ ((b ≡ false) × (rest ≡ Some y))
chosen true x y rest e = inl (refl, cc)
chosen false x y rest e = inr (refl, e)

found_inversion : {X : Type 0} (p q : X → Bool) (xs : List X) (x : X) → find p xs ≡ Some x → (p x ≡ true) × (q x ≡ true → list_any q xs ≡ true)
found_inversion p q [] x e = cc
found_inversion p q (y ∷ ys) x e = elim (chosen (p y) y x (find p ys) e) [
  | inl w ↦ (ap p (sym w.1) ∙ w.0, λ passes. or_left (q y) (list_any q ys) (ap q w.1 ∙ passes))
  | inr w ↦ let rest = found_inversion p q ys x w.1 in (rest.0, λ passes. or_right (q y) (list_any q ys) (rest.1 passes))
]

pub word_of_named_command : (word : Word) (name : CommandName) → command_named word ≡ Some name → word ≡ (command_row name).word
word_of_named_command word name found =
    (bytes_eq-Decides word (command_row name).word).0 (found_inversion (λ n. bytes_eq word (command_row n).word) (λ n. true) (command.Run ∷ command.Plan ∷ command.Audit ∷ command.Stats ∷ command.Append ∷ command.Demo ∷ []) name found).0

word_of_named_option : (name : CommandName) (word : Word) (o : OptionName) → option_named name word ≡ Some o → (word ≡ (option_row o).word) × IsTrue (has_option name o)
word_of_named_option name word o found =
    let so = found_inversion (λ other. bytes_eq word (option_row other).word) (same_option o) (command_row name).options o found in
    ((bytes_eq-Decides word (option_row o).word).0 so.0, so.1 ((bytes_eq-Decides (option_row o).word (option_row o).word).1 refl))

word_of_named_flag : (name : CommandName) (word : Word) (f : FlagName) → flag_named name word ≡ Some f → (word ≡ flag_word f) × IsTrue (has_flag name f)
word_of_named_flag name word f found =
    let so = found_inversion (λ other. bytes_eq word (flag_word other)) (same_flag f) (command_row name).flags f found in
    ((bytes_eq-Decides word (flag_word f)).0 so.0, so.1 ((bytes_eq-Decides (flag_word f) (flag_word f)).1 refl))

IsOfParts : Word → Word → Option Word → Type 0
IsOfParts word front value = MatchOption value (word ≡ front) (λ v. word ≡ front ++ 61 ∷ v)

one_more_part : (first : ℕ) (word front : Word) (value : Option Word) → IsOfParts word front value → IsOfParts (first ∷ word) (first ∷ front) value
unfolding IsOfParts
one_more_part first word front None is = ap (λ w. first ∷ w) is
one_more_part first word front (Some v) is = ap (λ w. first ∷ w) is

parts_step : (b : Bool) (first : ℕ) (rest : Word) → (b ≡ true → first ≡ 61) → IsOfParts rest (split_value rest).0 (split_value rest).1
    → let parts : Word × Option Word = (if b then ([], Some rest) else (first ∷ (split_value rest).0, (split_value rest).1)) in
    IsOfParts (first ∷ rest) parts.0 parts.1
unfolding IsOfParts
parts_step true first rest sign is = ap (λ c. c ∷ rest) (sign refl)
parts_step false first rest sign is = one_more_part first rest (split_value rest).0 (split_value rest).1 is

are_parts : (word : Word) → IsOfParts word (split_value word).0 (split_value word).1
unfolding IsOfParts
are_parts [] = refl
are_parts (first ∷ rest) = parts_step (first == 61) first rest (eqb-true first 61) (are_parts rest)

abbrev pub KindSpells : CommandName → Word → WordKind → Type 0
KindSpells name word Ends = word ≡ codes "--"
KindSpells name word IsPositional = is_dashed word ≡ false
KindSpells name word (Sets f) = (word ≡ flag_word f) × IsTrue (has_flag name f)
KindSpells name word (Wants o) = (word ≡ (option_row o).word) × IsTrue (has_option name o)
KindSpells name word (Gives o value) = (word ≡ (option_row o).word ++ codes "=" ++ value) × IsTrue (has_option name o)
KindSpells name word Unknown = Unit {0}

option_kind_spells : (name : CommandName) (word front : Word) (found : Option OptionName) (value : Option Word)
    → found ≡ option_named name front → IsOfParts word front value → KindSpells name word (option_kind found value)
unfolding IsOfParts
option_kind_spells name word front None value found is = tt
option_kind_spells name word front (Some o) None found is = let so = word_of_named_option name front o (sym found) in (is ∙ so.0, so.1)
option_kind_spells name word front (Some o) (Some v) found is =
    let so = word_of_named_option name front o (sym found) in
    (is ∙ ap (λ w. w ++ 61 ∷ v) so.0 ∙ sym (append_assoc (option_row o).word (codes "=") v), so.1)

dashed_kind_spells : (name : CommandName) (word : Word) (found : Option FlagName) → found ≡ flag_named name word
    → KindSpells name word (dashed_kind found (option_kind (option_named name (split_value word).0) (split_value word).1))
dashed_kind_spells name word None found = option_kind_spells name word (split_value word).0 (option_named name (split_value word).0) (split_value word).1 refl (are_parts word)
dashed_kind_spells name word (Some f) found = word_of_named_flag name word f (sym found)

branch_kind_spells : (name : CommandName) (word : Word) (same dashed : Bool) → (same ≡ true → word ≡ codes "--") → dashed ≡ is_dashed word
    → KindSpells name word (cond same Ends (cond dashed (dashed_kind (flag_named name word) (option_kind (option_named name (split_value word).0) (split_value word).1)) IsPositional))
branch_kind_spells name word true dashed two is = two refl
branch_kind_spells name word false true two is = dashed_kind_spells name word (flag_named name word) refl
branch_kind_spells name word false false two is = sym is

pub kind_spells : (name : CommandName) (word : Word) → KindSpells name word (kind_of_word name word)
unfolding kind_of_word
kind_spells name word = branch_kind_spells name word (bytes_eq word (codes "--")) (is_dashed word) (bytes_eq-Decides word (codes "--")).0 refl
