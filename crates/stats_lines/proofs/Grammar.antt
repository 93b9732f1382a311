-- The tests of words and lines tell what the grammar says of them.
use Rattle.std.proofs.Common.{◌≡◌, ◌≢◌, ◌⊎◌, inl, inr, ℕ, Bool, true, false, List, [], ◌∷◌, ◌++◌, refl, ap, sym, subst, ◌∙◌, arith, append-nil, append_assoc, Some}
use Rattle.std.specs.Prelude.{◌==◌, ◌&&◌, if◌then◌else◌, codes}
use Rattle.stats_file.specs.Grammar.{are_hex_pairs, is_numeral, AreRunWords, IsHexWord, IsListWord, IsNumeral, IsRunWord, IsValueWord}
use Rattle.stats_words.specs.Splits.{IsSplitAt, HasNoByte}
use Rattle.stats_words.proofs.ListWordFacts.{run_words_without_blank, run_words_split}
use Rattle.stats_words.proofs.SplitFacts.{both_without, front_without}
use Rattle.stats_reading.specs.declared.line.LineKind.{LineKind}
use Rattle.stats_reading.specs.declared.line.LineKind.TheVariants as kind
use Rattle.stats_reading.specs.Kinds.{front, has_two, words_text, AreLineParts, IsLineOf}
use Rattle.stats_lines.specs.Searches.{when, first_split}
use Rattle.stats_lines.specs.LineForms.{are_line_parts, are_run_words, is_empty, is_hex_word, is_list_word, is_negative_numeral, is_run_word, is_star_and_numeral, is_value_word, line_of, line_of_bytes, line_of_kind, with_second_word, with_words, Line}
use Rattle.stats_lines.proofs.Deciding.{tells_alike, tells_and, tells_equal, tells_not, tells_or, tells_same_numbers, tells_split, tells_true, finds_alike, finds_one, finds_or, finds_split, finds_when, Finds, SomeSplit, Tells}

-- ---- words

numeral : (word : List ℕ) → Tells (is_numeral word) (IsNumeral word)
numeral word = tells_true (is_numeral word)

negative_numeral : (word : List ℕ) → Tells (is_negative_numeral word) ((digits : List ℕ) × (word ≡ 45 ∷ digits) × IsNumeral digits × (digits ≢ codes "0"))
negative_numeral [] = record { yes = λ e. absurd (cc); no = λ e h. let f = h.1 in cc }
negative_numeral (c ∷ w) = tells_alike to from (tells_and (tells_and (tells_equal c 45) (numeral w)) (tells_not (tells_same_numbers w (codes "0"))))
  where
    Negative : Type 0
    Negative = (digits : List ℕ) × (c ∷ w ≡ 45 ∷ digits) × IsNumeral digits × (digits ≢ codes "0")

    to : ((c ≡ 45) × IsNumeral w) × (w ≡ codes "0" → ⊥) → Negative
    to h = (w, ap (λ (x : ℕ). x ∷ w) h.0.0, h.0.1, h.1)

    from : Negative → ((c ≡ 45) × IsNumeral w) × (w ≡ codes "0" → ⊥)
    from (digits, e, is, other) =
        let first : c ≡ 45 = cc in
        let rest : digits ≡ w = cc in
        ((first, subst (λ (x : List ℕ). IsNumeral x) rest is), λ f. other (rest ∙ f))

hex_word : (word : List ℕ) → Tells (is_hex_word word) (IsHexWord word)
hex_word [] = record { yes = λ e. absurd (cc); no = λ e h. let f = h.1 in cc }
hex_word (c ∷ w) = tells_alike to from (tells_and (tells_equal c 120) (tells_true (are_hex_pairs w)))
  where
    to : (c ≡ 120) × (are_hex_pairs w ≡ true) → IsHexWord (c ∷ w)
    to h = (w, ap (λ (x : ℕ). x ∷ w) h.0, h.1)

    from : IsHexWord (c ∷ w) → (c ≡ 120) × (are_hex_pairs w ≡ true)
    from (pairs, e, are) =
        let first : c ≡ 120 = cc in
        let rest : pairs ≡ w = cc in
        (first, subst (λ (x : List ℕ). are_hex_pairs x ≡ true) rest are)

value_word : (word : List ℕ) → Tells (is_value_word word) (IsValueWord word)
value_word word = tells_or (tells_or (numeral word) (negative_numeral word)) (hex_word word)

abbrev Behind : List ℕ → Type 0
Behind rest = (count : List ℕ) × (rest ≡ 42 ∷ count) × IsNumeral count

star_and_numeral : (rest : List ℕ) → Tells (is_star_and_numeral rest) (Behind rest)
star_and_numeral [] = record { yes = λ e. absurd (cc); no = λ e h. let f = h.1 in cc }
star_and_numeral (c ∷ w) = tells_alike (λ h. (w, ap (λ (x : ℕ). x ∷ w) h.0, h.1)) from (tells_and (tells_equal c 42) (numeral w))
  where
    from : Behind (c ∷ w) → (c ≡ 42) × IsNumeral w
    from (count, e, is) =
        let first : c ≡ 42 = cc in
        let rest : count ≡ w = cc in
        (first, subst (λ (x : List ℕ). IsNumeral x) rest is)

run_word : (word : List ℕ) → Tells (is_run_word word) (IsRunWord word)
run_word word =
    tells_alike to from
    (tells_split {P = λ value rest. IsNumeral value × Behind rest} (λ value rest. tells_and (numeral value) (star_and_numeral rest)) word)
  where
    to : SomeSplit (λ value rest. IsNumeral value × Behind rest) word → IsRunWord word
    to h = record {
      value = h.front;
      count = h.holds.1.0;
      value_is = h.holds.0;
      count_is = h.holds.1.2;
      whole = h.whole ∙ ap (λ (x : List ℕ). h.front ++ x) h.holds.1.1;
    }

    from : IsRunWord word → SomeSplit (λ value rest. IsNumeral value × Behind rest) word
    from is = record { front = is.value; rest = 42 ∷ is.count; whole = is.whole; holds = (is.value_is, (is.count, refl, is.count_is)) }

empty_without : (byte : ℕ) → HasNoByte byte []
empty_without byte k d lt = absurd (omega arith)

run_words : (run rest : List ℕ) → HasNoByte 32 run → Tells (are_run_words run rest) (AreRunWords (run ++ rest))
unfolding are_run_words
run_words run [] none =
    let whole : run ≡ run ++ [] = sym (append-nil run) in
    subst (λ (x : List ℕ). Tells (is_run_word run) (AreRunWords x)) whole (let h = run_words_without_blank run none in tells_alike h.1 h.0 (run_word run))
run_words run (c ∷ rest) none = by (c == 32) (tells_equal c 32) (run_words [] rest (empty_without 32)) (run_words (run ++ c ∷ []) rest)
  where
    by : (blank : Bool) → Tells blank (c ≡ 32) → Tells (are_run_words [] rest) (AreRunWords rest)
        → (HasNoByte 32 (run ++ c ∷ []) → Tells (are_run_words (run ++ c ∷ []) rest) (AreRunWords ((run ++ c ∷ []) ++ rest)))
        → Tells (if blank then is_run_word run && are_run_words [] rest else are_run_words (run ++ c ∷ []) rest) (AreRunWords (run ++ (c ∷ rest)))
    by true is others longer =
        let split : IsSplitAt 32 (run ++ (c ∷ rest)) run rest = record { first = none; whole = ap (λ (x : ℕ). run ++ (x ∷ rest)) (is.yes refl) } in
        let h = run_words_split (run ++ (c ∷ rest)) run rest split in
        tells_alike h.1 h.0 (tells_and (run_word run) others)
    by false is others longer =
        subst (λ (x : List ℕ). Tells (are_run_words (run ++ c ∷ []) rest) (AreRunWords x)) (append_assoc run (c ∷ []) rest)
        (longer (both_without 32 run (c ∷ []) none (front_without 32 c [] (is.no refl) (empty_without 32))))

list_word : (word : List ℕ) → Tells (is_list_word word) (IsListWord word)
list_word word = tells_or (tells_same_numbers word (codes "-")) (run_words [] word (empty_without 32))

-- ---- lines

empty : (word : List ℕ) → Tells (is_empty word) (word ≡ [])
empty word = tells_same_numbers word []

line_parts : (k : LineKind) (first second : List ℕ) → Tells (are_line_parts k first second) (AreLineParts k first second)
line_parts kind.First first second = tells_and (numeral first) (empty second)
line_parts kind.Table first second = tells_and (hex_word first) (numeral second)
line_parts kind.Pair first second = tells_and (hex_word first) (hex_word second)
line_parts kind.Whole first second = tells_and (list_word first) (empty second)
line_parts kind.Frequent first second = tells_and (value_word first) (list_word second)
line_parts kind.Rest first second = tells_and (list_word first) (empty second)
line_parts kind.Cut first second = tells_and (value_word first) (empty second)
line_parts kind.Node first second = tells_and (list_word first) (empty second)
line_parts kind.End first second = tells_and (empty first) (empty second)

-- the words of a line of this kind, behind its fixed first part
record HasWords (k : LineKind) (words : List ℕ) (line : Line) : Type 0 where
  kind_is : k ≡ line.kind
  parts : AreLineParts k line.first line.second
  whole : words ≡ words_text k line.first line.second

alone : (k : LineKind) (first second : List ℕ) → has_two k ≡ false → AreLineParts k first second → second ≡ []
alone kind.First first second one are = are.1
alone kind.Table first second one are = absurd (cc)
alone kind.Pair first second one are = absurd (cc)
alone kind.Whole first second one are = are.1
alone kind.Frequent first second one are = absurd (cc)
alone kind.Rest first second one are = are.1
alone kind.Cut first second one are = are.1
alone kind.Node first second one are = are.1
alone kind.End first second one are = are.1

one_text : (k : LineKind) (first second : List ℕ) → has_two k ≡ false → words_text k first second ≡ first
one_text k first second one = rw one refl

two_text : (k : LineKind) (first second : List ℕ) → has_two k ≡ true → words_text k first second ≡ first ++ (codes " " ++ second)
two_text k first second two = rw two refl

record HasSecond (k : LineKind) (first rest : List ℕ) (line : Line) : Type 0 where
  second : List ℕ
  rest_is : rest ≡ 32 ∷ second
  parts : AreLineParts k first second
  line_is : line_of k first second ≡ line

second_word : (k : LineKind) (first rest : List ℕ) → Finds (with_second_word k first rest) (HasSecond k first rest)
second_word k first [] = record { some = λ x e. absurd (cc); none = λ e x h. let f = h.rest_is in cc }
second_word k first (c ∷ w) = finds_alike to from (finds_when (tells_and (tells_equal c 32) (line_parts k first w)) (finds_one (line_of k first w)))
  where
    to : (x : Line) → ((c ≡ 32) × AreLineParts k first w) × (line_of k first w ≡ x) → HasSecond k first (c ∷ w) x
    to x h = record { second = w; rest_is = ap (λ (y : ℕ). y ∷ w) h.0.0; parts = h.0.1; line_is = h.1 }

    from : (x : Line) → HasSecond k first (c ∷ w) x → ((c ≡ 32) × AreLineParts k first w) × (line_of k first w ≡ x)
    from x h =
        let is = h.rest_is in
        let blank : c ≡ 32 = cc in
        let rest : h.second ≡ w = cc in
        ((blank, subst (λ (y : List ℕ). AreLineParts k first y) rest h.parts), ap (λ (y : List ℕ). line_of k first y) (sym rest) ∙ h.line_is)

words_found : (k : LineKind) (words : List ℕ) → Finds (with_words k words) (HasWords k words)
words_found k words = by (has_two k) refl
  where
    one_to : has_two k ≡ false → (x : Line) → AreLineParts k words [] × (line_of k words [] ≡ x) → HasWords k words x
    one_to one x h = subst (HasWords k words) h.1 (record { kind_is = refl; parts = h.0; whole = sym (one_text k words [] one) })

    one_from : has_two k ≡ false → (x : Line) → HasWords k words x → AreLineParts k words [] × (line_of k words [] ≡ x)
    one_from one x h =
        let second : x.second ≡ [] = alone k x.first x.second one h.parts in
        let first : x.first ≡ words = sym (h.whole ∙ one_text k x.first x.second one) in
        let kind_is = h.kind_is in
        (subst (λ (y : List ℕ). AreLineParts k y []) first (subst (λ (y : List ℕ). AreLineParts k x.first y) second h.parts), same k x.kind words x.first x.second kind_is first second)
      where
        same : (a b : LineKind) (c first second : List ℕ) → a ≡ b → first ≡ c → second ≡ [] → line_of a c [] ≡ line_of b first second
        same a b c first second e f g = ap (λ (y : LineKind). line_of y c []) e ∙ (ap (λ (y : List ℕ). line_of b y []) (sym f) ∙ ap (λ (y : List ℕ). line_of b first y) (sym g))

    two_to : has_two k ≡ true → (x : Line) → SomeSplit (λ first rest. HasSecond k first rest x) words → HasWords k words x
    two_to two x h =
        let second = h.holds.second in
        subst (HasWords k words) h.holds.line_is (record {
          kind_is = refl;
          parts = h.holds.parts;
          whole = h.whole ∙ ap (λ (y : List ℕ). h.front ++ y) h.holds.rest_is ∙ sym (two_text k h.front second two);
        })

    two_from : has_two k ≡ true → (x : Line) → HasWords k words x → SomeSplit (λ first rest. HasSecond k first rest x) words
    two_from two x h = record {
      front = x.first;
      rest = 32 ∷ x.second;
      whole = h.whole ∙ two_text k x.first x.second two;
      holds = record { second = x.second; rest_is = refl; parts = h.parts; line_is = ap (λ (y : LineKind). line_of y x.first x.second) h.kind_is };
    }

    by : (two : Bool) → has_two k ≡ two
        → Finds (if two then first_split (with_second_word k) words else when (are_line_parts k words []) (Some (line_of k words []))) (HasWords k words)
    by false one = finds_alike (one_to one) (one_from one) (finds_when (line_parts k words []) (finds_one (line_of k words [])))
    by true two = finds_alike (two_to two) (two_from two) (finds_split {R = HasSecond k} (second_word k) words)

pub record IsLine (bytes : List ℕ) (line : Line) : Type 0 where
  pub is : IsLineOf line.kind line.first line.second bytes

record IsLineOfKind (k : LineKind) (bytes : List ℕ) (line : Line) : Type 0 where
  kind_is : k ≡ line.kind
  is : IsLineOf k line.first line.second bytes

of_kind : (k : LineKind) (bytes : List ℕ) → Finds (line_of_kind k bytes) (IsLineOfKind k bytes)
unfolding line_of_kind
of_kind k bytes =
    finds_alike to from
    (finds_split {R = λ f words line. (f ≡ front k) × HasWords k words line} (λ f words. finds_when (tells_same_numbers f (front k)) (words_found k words)) bytes)
  where
    to : (x : Line) → SomeSplit (λ f words. (f ≡ front k) × HasWords k words x) bytes → IsLineOfKind k bytes x
    to x h =
        let words = h.holds.1 in
        record {
          kind_is = words.kind_is;
          is = record { parts = words.parts; whole = h.whole ∙ ap (λ (y : List ℕ). y ++ h.rest) h.holds.0 ∙ ap (λ (y : List ℕ). front k ++ y) words.whole };
        }

    from : (x : Line) → IsLineOfKind k bytes x → SomeSplit (λ f words. (f ≡ front k) × HasWords k words x) bytes
    from x h = record {
      front = front k;
      rest = words_text k x.first x.second;
      whole = h.is.whole;
      holds = (refl, record { kind_is = h.kind_is; parts = h.is.parts; whole = refl });
    }

pub line_found : (bytes : List ℕ) → Finds (line_of_bytes bytes) (IsLine bytes)
unfolding line_of_bytes
line_found bytes =
    finds_alike to (λ x h. from x.kind x refl h)
    (finds_or (of kind.First) (finds_or (of kind.Table) (finds_or (of kind.Pair) (finds_or (of kind.Whole) (finds_or (of kind.Frequent)
    (finds_or (of kind.Rest) (finds_or (of kind.Cut) (finds_or (of kind.Node) (of kind.End)))))))))
  where
    of : (k : LineKind) → Finds (line_of_kind k bytes) (IsLineOfKind k bytes)
    of k = of_kind k bytes

    Is : LineKind → Line → Type 0
    Is k x = IsLineOfKind k bytes x

    All : Line → Type 0
    All x = Is kind.First x ⊎ (Is kind.Table x ⊎ (Is kind.Pair x ⊎ (Is kind.Whole x ⊎ (Is kind.Frequent x ⊎ (Is kind.Rest x ⊎ (Is kind.Cut x ⊎ (Is kind.Node x ⊎ Is kind.End x)))))))

    is : (k : LineKind) (x : Line) → Is k x → IsLine bytes x
    is k x h = record { is = subst (λ (y : LineKind). IsLineOf y x.first x.second bytes) h.kind_is h.is }

    to : (x : Line) → All x → IsLine bytes x
    to x (inl h) = is kind.First x h
    to x (inr (inl h)) = is kind.Table x h
    to x (inr (inr (inl h))) = is kind.Pair x h
    to x (inr (inr (inr (inl h)))) = is kind.Whole x h
    to x (inr (inr (inr (inr (inl h))))) = is kind.Frequent x h
    to x (inr (inr (inr (inr (inr (inl h)))))) = is kind.Rest x h
    to x (inr (inr (inr (inr (inr (inr (inl h))))))) = is kind.Cut x h
    to x (inr (inr (inr (inr (inr (inr (inr (inl h)))))))) = is kind.Node x h
    to x (inr (inr (inr (inr (inr (inr (inr (inr h)))))))) = is kind.End x h

    at : (k : LineKind) (x : Line) → k ≡ x.kind → IsLine bytes x → Is k x
    at k x e h = record { kind_is = e; is = subst (λ (y : LineKind). IsLineOf y x.first x.second bytes) (sym e) h.is }

    from : (k : LineKind) (x : Line) → k ≡ x.kind → IsLine bytes x → All x
    from kind.First x e h = inl (at kind.First x e h)
    from kind.Table x e h = inr (inl (at kind.Table x e h))
    from kind.Pair x e h = inr (inr (inl (at kind.Pair x e h)))
    from kind.Whole x e h = inr (inr (inr (inl (at kind.Whole x e h))))
    from kind.Frequent x e h = inr (inr (inr (inr (inl (at kind.Frequent x e h)))))
    from kind.Rest x e h = inr (inr (inr (inr (inr (inl (at kind.Rest x e h))))))
    from kind.Cut x e h = inr (inr (inr (inr (inr (inr (inl (at kind.Cut x e h)))))))
    from kind.Node x e h = inr (inr (inr (inr (inr (inr (inr (inl (at kind.Node x e h))))))))
    from kind.End x e h = inr (inr (inr (inr (inr (inr (inr (inr (at kind.End x e h))))))))
