-- The fields of UTF-8 bytes are UTF-8. A character beyond ASCII goes into the current field with all its bytes.
use Rattle.std.proofs.Common.{◌≡◌, ◌⊎◌, inl, inr, ℕ, suc, ◌+◌, ◌≤◌, List, [], ◌∷◌, ◌++◌, length, Option, None, Some, Bool, true, false, ◌&&◌, refl, sym, ap, ◌∙◌, subst, arith, cond, append_assoc, append-nil, if◌then◌else◌, ltb}
use Rattle.std.proofs.lemmas.Bool.{cases_lt, eqb-true, le-ltb, and_parts}
use Rattle.std.specs.Prelude.{◌==◌, IsUtf8}
use Rattle.std.specs.Str.{all_scalars, encode_utf8_all}
use Rattle.std.proofs.lemmas.Str.{IsUtf8-append, IsUtf8-nil, IsUtf8-past_char, encode_ascii}
use Rattle.std.proofs.Math.Utf8.{encode, scalar}
use Rattle.csv.specs.Machine.{Read, Runs, next_record, step, is_end, ends_at_end, fields_after, field_after}
use Rattle.csv.specs.Reading.{default_config, strip_bom, NextIs}
use Rattle.csv.specs.Records.{AllText}
use Rattle.csv.specs.declared.parser.State.{State}
use Rattle.csv.specs.declared.parser.State.TheVariants as st
use Rattle.csv.specs.declared.parser.Action.{Action}
use Rattle.csv.specs.declared.parser.Action.TheVariants as act
use Rattle.csv.proofs.ReadFacts.{run-copies}
use Rattle.csv.proofs.RecordFacts.{text-more}
use Rattle.csv_tables.proofs.RecordFacts.{from_if}

-- every byte is beyond ASCII
abbrev AreBeyondAscii : List ℕ → Type 0
AreBeyondAscii [] = Unit {0}
AreBeyondAscii (b ∷ bs) = (128 ≤ b) × AreBeyondAscii bs

-- in state `s` the byte `b` beyond ASCII goes into the field, and after it every further byte beyond ASCII does
record TakesHighByte (s : State) (b : ℕ) : Type 0 where
  next : State
  steps : step default_config s b ≡ (next, act.Copy)
  stays : (c : ℕ) → 128 ≤ c → step default_config next c ≡ (next, act.Copy)

in_field_stays : (c : ℕ) → 128 ≤ c → step default_config st.InField c ≡ (st.InField, act.Copy)
in_field_stays c h =
    let comma : (c == 44) ≡ false = grind (arith, h) in
    let cr : (c == 13) ≡ false = grind (arith, h) in
    let lf : (c == 10) ≡ false = grind (arith, h) in
    rw (comma, cr, lf) refl

in_quoted_stays : (c : ℕ) → 128 ≤ c → step default_config st.InQuoted c ≡ (st.InQuoted, act.Copy)
in_quoted_stays c h = let quote : (c == 34) ≡ false = grind (arith, h) in rw quote refl

takes_high_byte : (s : State) (b : ℕ) → 128 ≤ b → (s ≡ st.InComment) ⊎ TakesHighByte s b
takes_high_byte st.StartRecord b h =
    let comma : (b == 44) ≡ false = grind (arith, h) in
    let cr : (b == 13) ≡ false = grind (arith, h) in
    let lf : (b == 10) ≡ false = grind (arith, h) in
    let quote : (b == 34) ≡ false = grind (arith, h) in
    inr (record { next = st.InField; steps = simp (comma, cr, lf, quote); stays = in_field_stays })
takes_high_byte st.AfterCr b h =
    let comma : (b == 44) ≡ false = grind (arith, h) in
    let cr : (b == 13) ≡ false = grind (arith, h) in
    let lf : (b == 10) ≡ false = grind (arith, h) in
    let quote : (b == 34) ≡ false = grind (arith, h) in
    inr (record { next = st.InField; steps = simp (comma, cr, lf, quote); stays = in_field_stays })
takes_high_byte st.StartField b h =
    let comma : (b == 44) ≡ false = grind (arith, h) in
    let cr : (b == 13) ≡ false = grind (arith, h) in
    let lf : (b == 10) ≡ false = grind (arith, h) in
    let quote : (b == 34) ≡ false = grind (arith, h) in
    inr (record { next = st.InField; steps = simp (comma, cr, lf, quote); stays = in_field_stays })
takes_high_byte st.InField b h = inr (record { next = st.InField; steps = in_field_stays b h; stays = in_field_stays })
takes_high_byte st.InQuoted b h = inr (record { next = st.InQuoted; steps = in_quoted_stays b h; stays = in_quoted_stays })
takes_high_byte st.InEscape b h = inr (record { next = st.InQuoted; steps = refl; stays = in_quoted_stays })
takes_high_byte st.AfterQuote b h =
    let comma : (b == 44) ≡ false = grind (arith, h) in
    let cr : (b == 13) ≡ false = grind (arith, h) in
    let lf : (b == 10) ≡ false = grind (arith, h) in
    let quote : (b == 34) ≡ false = grind (arith, h) in
    inr (record { next = st.InField; steps = simp (comma, cr, lf, quote); stays = in_field_stays })
takes_high_byte st.InComment b h = inl refl

runs : (s : State) (bs : List ℕ) → ((c : ℕ) → 128 ≤ c → step default_config s c ≡ (s, act.Copy)) → AreBeyondAscii bs → Runs default_config s bs
unfolding Runs
runs s [] stays h = tt
runs s (b ∷ bs) stays h = (stays b h.0, runs s bs stays h.1)

skips : (fields : List (List ℕ)) (field bs rest : List ℕ) → AreBeyondAscii bs
    → next_record default_config st.InComment fields field (bs ++ rest) ≡ next_record default_config st.InComment fields field rest
unfolding next_record
skips fields field [] rest h = refl
skips fields field (b ∷ bs) rest h =
    let lf : (b == 10) ≡ false = grind (arith, h.0) in
    rw lf (skips fields field bs rest h.1)

-- after the bytes `bs` of a character beyond ASCII, the field has gained all of these bytes, or it is as before
record TookCharacter (s : State) (fields : List (List ℕ)) (field bs rest : List ℕ) : Type 0 where
  state : State
  now : List ℕ
  is : (now ≡ field) ⊎ (now ≡ field ++ bs)
  goes : next_record default_config s fields field (bs ++ rest) ≡ next_record default_config state fields now rest

one_step : (s n : State) (fields : List (List ℕ)) (field : List ℕ) (b : ℕ) (rest : List ℕ) → step default_config s b ≡ (n, act.Copy)
    → next_record default_config s fields field (b ∷ rest) ≡ next_record default_config n fields (field ++ b ∷ []) rest
unfolding next_record
one_step s n fields field b rest e = rw e refl

took : (s : State) (fields : List (List ℕ)) (field : List ℕ) (b : ℕ) (bs rest : List ℕ) → 128 ≤ b → AreBeyondAscii bs → TookCharacter s fields field (b ∷ bs) rest
took s fields field b bs rest h hs = elim (takes_high_byte s b h) [
  | inl e ↦ record { state = st.InComment; now = field; is = inl refl; goes = rw e (skips fields field (b ∷ bs) rest (h, hs)) }
  | inr j ↦ record {
    state = j.next;
    now = (field ++ b ∷ []) ++ bs;
    is = inr (append_assoc field (b ∷ []) bs);
    goes = one_step s j.next fields field b (bs ++ rest) j.steps ∙ run-copies default_config j.next fields (field ++ b ∷ []) bs rest (runs j.next bs j.stays hs);
  }
]

record HasBytesBeyondAscii (bytes : List ℕ) : Type 0 where
  first : ℕ
  others : List ℕ
  is : bytes ≡ first ∷ others
  high : 128 ≤ first
  all : AreBeyondAscii others

high_by : (a b c d e f g h i : ℕ) (t u : Bool) → HasBytesBeyondAscii (cond t ((192 + a) ∷ (128 + b) ∷ []) (cond u ((224 + c) ∷ (128 + d) ∷ (128 + e) ∷ []) ((240 + f) ∷ (128 + g) ∷ (128 + h) ∷ (128 + i) ∷ [])))
high_by a b c d e f g h i true u = record { first = 192 + a; others = (128 + b) ∷ []; is = refl; high = omega arith; all = (omega arith, tt) }
high_by a b c d e f g h i false true = record { first = 224 + c; others = (128 + d) ∷ (128 + e) ∷ []; is = refl; high = omega arith; all = (omega arith, (omega arith, tt)) }
high_by a b c d e f g h i false false = record { first = 240 + f; others = (128 + g) ∷ (128 + h) ∷ (128 + i) ∷ []; is = refl; high = omega arith; all = (omega arith, (omega arith, (omega arith, tt))) }

encoded_beyond_ascii : (c : ℕ) → 128 ≤ c → HasBytesBeyondAscii (encode c)
unfolding encode
encoded_beyond_ascii c h = rw (le-ltb c 128 h) (high_by _ _ _ _ _ _ _ _ _ (ltb c 2048) (ltb c 65536))

char_text : (c : ℕ) → scalar c ≡ true → IsUtf8 (encode c)
char_text c h = (c ∷ [], (rw h refl, append-nil (encode c)))

record KeepsUtf8 (p : Read) : Type 0 where
  pub fields : AllText p.0
  pub rest : IsUtf8 p.2

goes_on : (s : State) (fields : List (List ℕ)) (field : List ℕ) (c : ℕ) (rest : List ℕ) (p : Read) → IsUtf8 rest → AllText fields → IsUtf8 field → IsUtf8 (field ++ c ∷ [])
    → ((t : State) (fs : List (List ℕ)) (f : List ℕ) → AllText fs → IsUtf8 f → next_record default_config t fs f rest ≡ Some p → KeepsUtf8 p)
    → next_record default_config s fields field (c ∷ rest) ≡ Some p → KeepsUtf8 p
unfolding next_record
goes_on s fields field c rest p text all one more next e =
    by (step default_config s c).1 refl
  where
    after_all : (a : Action) → AllText (fields_after a fields field)
    after_all act.EndField = text-more fields field all one
    after_all act.Skip = all
    after_all act.Copy = all
    after_all act.EndRecord = text-more fields field all one

    after_one : (a : Action) → IsUtf8 (field_after a c field)
    after_one act.Copy = more
    after_one act.EndField = IsUtf8-nil
    after_one act.Skip = one
    after_one act.EndRecord = IsUtf8-nil

    by : (a : Action) → (step default_config s c).1 ≡ a → KeepsUtf8 p
    by a is = elim (from_if (is_end (step default_config s c).1) _ p _ e) [
      | inl h ↦ rw (← h.1) (record { fields = after_all (step default_config s c).1; rest = text })
      | inr h ↦ next (step default_config s c).0 (fields_after (step default_config s c).1 fields field) (field_after (step default_config s c).1 c field) (after_all _) (after_one _) h.1
    ]

at_end : (b : Bool) (fields : List (List ℕ)) (field : List ℕ) (p : Read) → AllText fields → IsUtf8 field
    → (if b then Some (fields ++ (field ∷ []), st.StartRecord, []) else None) ≡ Some p → KeepsUtf8 p
at_end true fields field p all one e = let is : (fields ++ (field ∷ []), st.StartRecord, []) ≡ p = cc in subst KeepsUtf8 is (record { fields = text-more fields field all one; rest = IsUtf8-nil })
at_end false fields field p all one e = absurd (cc e)

record_keeps_utf8 : (cs : List ℕ) (s : State) (fields : List (List ℕ)) (field : List ℕ) (p : Read) → all_scalars cs ≡ true → AllText fields → IsUtf8 field
    → next_record default_config s fields field (encode_utf8_all cs) ≡ Some p → KeepsUtf8 p
unfolding next_record
record_keeps_utf8 [] s fields field p h all one e = at_end (ends_at_end s) fields field p all one e
record_keeps_utf8 (c ∷ cs) s fields field p h all one e =
    let ok = and_parts (scalar c) (all_scalars cs) h in
    let rest : IsUtf8 (encode_utf8_all cs) = (cs, (ok.1, refl)) in
    elim (cases_lt c 128) [
      | inl low ↦
          let ascii : encode c ≡ c ∷ [] = encode_ascii c low in
          let more : IsUtf8 (field ++ c ∷ []) = IsUtf8-append field (c ∷ []) one (subst IsUtf8 ascii (char_text c ok.0)) in
          goes_on s fields field c (encode_utf8_all cs) p rest all one more (λ t fs f a o. record_keeps_utf8 cs t fs f p ok.1 a o)
          (sym (ap (λ bs. next_record default_config s fields field (bs ++ encode_utf8_all cs)) ascii) ∙ e)
      | inr up ↦
          let h = encoded_beyond_ascii c up in
          let t = took s fields field h.first h.others (encode_utf8_all cs) h.high h.all in
          record_keeps_utf8 cs t.state fields t.now p ok.1 all
          (elim t.is [ inl same ↦ subst IsUtf8 (sym same) one | inr joined ↦ subst IsUtf8 (sym joined) (IsUtf8-append field _ one (subst IsUtf8 h.is (char_text c ok.0))) ])
          (sym t.goes ∙ sym (ap (λ bs. next_record default_config s fields field (bs ++ encode_utf8_all cs)) h.is) ∙ e)
    ]

pub record TextRead (fields : List (List ℕ)) (rest : List ℕ) : Type 0 where
  pub all : AllText fields
  pub text : IsUtf8 rest

read_of : (o : Option Read) (fields : List (List ℕ)) (s2 : State) (ys : List ℕ) → ((p : Read) → o ≡ Some p → KeepsUtf8 p) → NextIs o true fields s2 ys → TextRead fields ys
read_of None fields s2 ys h n = absurd (cc n)
read_of (Some p) fields s2 ys h n = rw (n.1, n.3) (record { all = (h p refl).fields; text = (h p refl).rest })

pub text_read : (s : State) (xs : List ℕ) (fields : List (List ℕ)) (s2 : State) (ys : List ℕ) → IsUtf8 xs
    → NextIs (next_record default_config s [] [] xs) true fields s2 ys → TextRead fields ys
unfolding AllText
text_read s xs fields s2 ys text n =
    read_of (next_record default_config s [] [] xs) fields s2 ys
    (λ p e. record_keeps_utf8 text.0 s [] [] p text.1.0 tt IsUtf8-nil (ap (next_record default_config s [] []) text.1.1 ∙ e)) n

pub text_after_mark : (bytes : List ℕ) → IsUtf8 bytes → IsUtf8 (strip_bom bytes)
unfolding strip_bom encode
text_after_mark [] h = h
text_after_mark (a ∷ []) h = h
text_after_mark (a ∷ b ∷ []) h = h
text_after_mark (a ∷ b ∷ c ∷ rest) h = by (a == 0xEF) (b == 0xBB) (c == 0xBF) refl refl refl
  where
    by : (x y z : Bool) → (a == 0xEF) ≡ x → (b == 0xBB) ≡ y → (c == 0xBF) ≡ z → IsUtf8 (if (x && y) && z then rest else a ∷ b ∷ c ∷ rest)
    by true true true x y z =
        let first : a ≡ 0xEF = eqb-true a 0xEF x in
        let second : b ≡ 0xBB = eqb-true b 0xBB y in
        let third : c ≡ 0xBF = eqb-true c 0xBF z in
        let mark : a ∷ b ∷ c ∷ rest ≡ encode 65279 ++ rest = cc in
        IsUtf8-past_char (a ∷ b ∷ c ∷ rest) rest 65279 h mark
    by true true false x y z = h
    by true false z x y w = h
    by false y z x w v = h

pub shorter_after_mark : (bytes : List ℕ) → length (strip_bom bytes) ≤ length bytes
unfolding strip_bom
shorter_after_mark [] = omega arith
shorter_after_mark (a ∷ []) = omega arith
shorter_after_mark (a ∷ b ∷ []) = omega arith
shorter_after_mark (a ∷ b ∷ c ∷ rest) = elim ((a == 0xEF) && (b == 0xBB) && (c == 0xBF)) as (λ v. length (if v then rest else a ∷ b ∷ c ∷ rest) ≤ suc (suc (suc (length rest)))) [
  | true ↦ omega arith
  | false ↦ omega arith
]
