-- `read_tails` reads a list of items, each after a separator, and perhaps one more separator at the end.
use Rattle.std.proofs.Common.{◌≡◌, ℕ, zero, suc, ◌+◌, ◌≤◌, Bool, true, false, cond, List, [], ◌∷◌, ◌++◌, length, Option, Some, None, refl, sym, ap, subst, ◌∙◌, append_assoc, arith, inl, inr, ◌⊎◌}
use Rattle.std.proofs.lemmas.List.{append-nil, append_cancel_right, length-append}
use Rattle.ll_grammars.specs.declared.lexeme.Lexeme.{Lexeme}
use Rattle.ll_grammars.specs.declared.terminal.Terminal.{Terminal}
use Rattle.ll_grammars.specs.Terminals.{among, apart}
use Rattle.ll_grammars.specs.Language.{Language, one, ◌▸◌, mapped, maybe, many}
use Rattle.ll_grammars.specs.Rules.{second}
use Rattle.ll_grammars.specs.Reading.{Parser, Answer, next, ◌>>=◌, starts, give, read_others, read_tails, read_tails_up_to}
use Rattle.ll_grammars.specs.Parses.{FirstAndFollow, BeginsIn, BeginsOutside, SameHead, Splits, Parses}
use Rattle.ll_grammars.proofs.Sets.{BeginsOutside-left, BeginsOutside-right, BeginsOutside-next, BeginsOutside-starts, starts_same, SameHead-append, self_append, starts_front}
use Rattle.ll_grammars.proofs.Steps.{next_give_rest}

-- the language `repeated`, defined by recursion on the items
abbrev pub tails : {A : Type 0} → List Terminal → Language A → Language (List A)
tails separators L text [] = (text ≡ []) ⊎ ((t : Lexeme) × (text ≡ t ∷ []) × (among separators t.terminal ≡ true))
tails separators L text (value ∷ values) = (t : Lexeme) × (front : List Lexeme) × (rest : List Lexeme) × (text ≡ t ∷ (front ++ rest)) × (among separators t.terminal ≡ true) × L front value × tails separators L rest values

abbrev pub repeated : {A : Type 0} → List Terminal → Language A → Language (List A × Option Lexeme)
repeated separators L = many (mapped second (one separators ▸ L)) ▸ maybe (one separators)

pub repeated_is_tails : {A : Type 0} (separators : List Terminal) (L : Language A) (values : List A) (end : Option Lexeme) (text : List Lexeme) → repeated separators L text (values, end) → tails separators L text values
repeated_is_tails separators L [] None text l = inl (l.whole ∙ ap (λ x. x ++ l.rest) l.first ∙ l.second)
repeated_is_tails separators L [] (Some t) text l = inr (t, l.whole ∙ ap (λ x. x ++ l.rest) l.first ∙ l.second.0, l.second.1)
repeated_is_tails separators L (v ∷ values) end text l =
    let item = l.first.3 in
    let parts = item.2 in
    let others = repeated_is_tails separators L values end (l.first.1 ++ l.rest) (record { front = l.first.1; rest = l.rest; whole = refl; first = l.first.4; second = l.second }) in
    let whole : text ≡ item.0.0 ∷ (parts.rest ++ (l.first.1 ++ l.rest)) =
    l.whole ∙ ap (λ x. x ++ l.rest) l.first.2 ∙ append_assoc l.first.0 l.first.1 l.rest ∙ ap (λ x. x ++ (l.first.1 ++ l.rest)) (parts.whole ∙ ap (λ x. x ++ parts.rest) parts.first.0) in
    (item.0.0, parts.rest, l.first.1 ++ l.rest, whole, parts.first.1, subst (λ x. L parts.rest x) item.1 parts.second, others)

pub tails_is_repeated : {A : Type 0} (separators : List Terminal) (L : Language A) (values : List A) (text : List Lexeme) → tails separators L text values → (end : Option Lexeme) × repeated separators L text (values, end)
tails_is_repeated separators L [] text (inl e) = (None, record { front = []; rest = text; whole = refl; first = refl; second = e })
tails_is_repeated separators L [] text (inr l) = (Some l.0, record { front = []; rest = text; whole = refl; first = refl; second = (l.1, l.2) })
tails_is_repeated separators L (v ∷ values) text l =
    let others = tails_is_repeated separators L values l.2 l.6 in
    let o = others.1 in
    let item : mapped second (one separators ▸ L) (l.0 ∷ l.1) v = ((l.0, v), refl, record { front = l.0 ∷ []; rest = l.1; whole = refl; first = (refl, l.4); second = l.5 }) in (
      others.0,
      record {
        front = (l.0 ∷ l.1) ++ o.front;
        rest = o.rest;
        whole = l.3 ∙ ap (λ x. l.0 ∷ (l.1 ++ x)) o.whole ∙ sym (append_assoc (l.0 ∷ l.1) o.front o.rest);
        first = (l.0 ∷ l.1, o.front, refl, item, o.first);
        second = o.second;
      },
    )

abbrev pub tails_shape : List Terminal → FirstAndFollow → FirstAndFollow
tails_shape separators s = record { first = separators; nullable = true; more = (separators ++ s.first) ++ s.more }

none_goes : (cs : List Terminal) (rest other : List Lexeme) → SameHead rest other → starts cs rest ≡ false → starts cs other ≡ false
none_goes cs rest other same h = sym (starts_same cs [] rest other same) ∙ h

module _ {A : Type 0} (separators : List Terminal) (L : Language A) (s : FirstAndFollow) (p : Parser A) (reads : Parses L s p) (not_nullable : s.nullable ≡ false) where
  abbrev tail : ℕ → Parser (List A)
  tail n = read_tails_up_to n separators s.first p

  abbrev after_separator : ℕ → Parser (List A)
  after_separator n rest = cond (starts s.first rest) (p rest >>= read_others (tail n)) (give [] rest)

  tail_stops : (n : ℕ) (text : List Lexeme) → starts separators text ≡ false → tail n text ≡ (Some [], text)
  tail_stops zero text h = refl
  tail_stops (suc n) [] h = refl
  tail_stops (suc n) (t ∷ rest) h = rw h refl

  tails_begins : (text : List Lexeme) (values : List A) → tails separators L text values → BeginsIn (tails_shape separators s) text
  tails_begins [] values l = refl
  tails_begins (x ∷ text) [] (inl e) = absurd cc
  tails_begins (x ∷ text) [] (inr l) = let e : x ≡ l.0 = cc (l.1) in rw e l.2
  tails_begins (x ∷ text) (v ∷ values) l = let e : x ≡ l.0 = cc (l.3) in rw e l.4

  split_item : (t : Lexeme) (rest f r : List Lexeme) (a : A) → among separators t.terminal ≡ true → rest ≡ f ++ r → L f a → (o : Option (List A)) (end : List Lexeme) → Splits (tails separators L) r o end
      → Splits (tails separators L) (t ∷ rest) (next {B = List A} o end (λ others. give (a ∷ others))).0 (next {B = List A} o end (λ others. give (a ∷ others))).1
  split_item t rest f r a sep whole l None end d = record {
    front = t ∷ (f ++ d.front);
    whole = ap (λ x. t ∷ x) (whole ∙ ap (λ x. f ++ x) d.whole ∙ sym (append_assoc f d.front end));
    spelled = record { more = d.spelled.more; value = a ∷ d.spelled.value; spelled = (t, f, d.front ++ d.spelled.more, ap (λ x. t ∷ x) (append_assoc f d.front d.spelled.more), sep, l, d.spelled.spelled) };
  }
  split_item t rest f r a sep whole l (Some others) end d = record {
    front = t ∷ (f ++ d.front);
    whole = ap (λ x. t ∷ x) (whole ∙ ap (λ x. f ++ x) d.whole ∙ sym (append_assoc f d.front end));
    spelled = (t, f, d.front, refl, sep, l, d.spelled);
  }

  split_turn : (q : Parser (List A)) → ((r : List Lexeme) → Splits (tails separators L) r (q r).0 (q r).1) → (t : Lexeme) (rest : List Lexeme) → among separators t.terminal ≡ true → (o : Option A) (r : List Lexeme) → Splits L rest o r
      → Splits (tails separators L) (t ∷ rest) (next {B = List A} o r (read_others q)).0 (next {B = List A} o r (read_others q)).1
  split_turn q ih t rest sep None r d = record {
    front = t ∷ d.front;
    whole = ap (λ x. t ∷ x) d.whole;
    spelled = record { more = d.spelled.more; value = d.spelled.value ∷ []; spelled = (t, d.front ++ d.spelled.more, [], ap (λ x. t ∷ x) (sym (append-nil (d.front ++ d.spelled.more))), sep, d.spelled.spelled, inl refl) };
  }
  split_turn q ih t rest sep (Some a) r d = split_item t rest d.front r a sep d.whole d.spelled (q r).0 (q r).1 (ih r)

  split_behind : (q : Parser (List A)) → ((r : List Lexeme) → Splits (tails separators L) r (q r).0 (q r).1) → (t : Lexeme) (rest : List Lexeme) → among separators t.terminal ≡ true → (b : Bool)
      → Splits (tails separators L) (t ∷ rest) (cond b (p rest >>= read_others q) (give [] rest)).0 (cond b (p rest >>= read_others q) (give [] rest)).1
  split_behind q ih t rest sep true = split_turn q ih t rest sep (p rest).0 (p rest).1 (reads.splits rest)
  split_behind q ih t rest sep false = record { front = t ∷ []; whole = refl; spelled = inr (t, refl, sep) }

  split_if : (n : ℕ) → ((r : List Lexeme) → Splits (tails separators L) r (tail n r).0 (tail n r).1) → (t : Lexeme) (rest : List Lexeme) (b : Bool) → among separators t.terminal ≡ b
      → Splits (tails separators L) (t ∷ rest) (cond b (after_separator n rest) (give [] (t ∷ rest))).0 (cond b (after_separator n rest) (give [] (t ∷ rest))).1
  split_if n ih t rest true e = split_behind (tail n) ih t rest e (starts s.first rest)
  split_if n ih t rest false e = record { front = []; whole = refl; spelled = inl refl }

  tails_splits : (n : ℕ) (text : List Lexeme) → Splits (tails separators L) text (tail n text).0 (tail n text).1
  tails_splits zero text = record { front = []; whole = refl; spelled = inl refl }
  tails_splits (suc n) [] = record { front = []; whole = refl; spelled = inl refl }
  tails_splits (suc n) (t ∷ rest) = split_if n (tails_splits n) t rest (among separators t.terminal) refl

  tails_complete : apart s.more separators ≡ true → (n : ℕ) (values : List A) (front rest : List Lexeme) → length (front ++ rest) ≤ n → tails separators L front values → BeginsOutside ((separators ++ s.first) ++ s.more) rest
      → tail n (front ++ rest) ≡ (Some values, rest)
  tails_complete apart_ n [] front rest le (inl e) stop = rw e (tail_stops n rest (BeginsOutside-starts separators rest (BeginsOutside-left separators s.first rest (BeginsOutside-left (separators ++ s.first) s.more rest stop))))
  tails_complete apart_ zero [] front rest le (inr l) stop = absurd (omega (arith, ap length l.1, length-append front rest))
  tails_complete apart_ (suc n) [] front rest le (inr l) stop = rw (l.1, l.2, BeginsOutside-starts s.first rest (BeginsOutside-right separators s.first rest (BeginsOutside-left (separators ++ s.first) s.more rest stop))) refl
  tails_complete apart_ zero (v ∷ values) front rest le l stop = absurd (omega (arith, ap length l.3, length-append front rest))
  tails_complete apart_ (suc n) (v ∷ values) front rest le l stop =
      let begins = reads.begins l.1 v l.5 in
      let small : length (l.2 ++ rest) ≤ n = omega (arith, length-append front rest, ap length l.3, length-append l.1 l.2, length-append l.2 rest) in
      let stop1 : BeginsOutside s.more (l.2 ++ rest) = BeginsOutside-next s.more (tails_shape separators s) l.2 rest apart_ (tails_begins l.2 values l.6) (BeginsOutside-right (separators ++ s.first) s.more rest stop) in
      let e1 = reads.complete l.1 (l.2 ++ rest) v l.5 stop1 in
      let e2 = tails_complete apart_ n values l.2 rest small l.6 stop in
      let regroup : front ++ rest ≡ l.0 ∷ (l.1 ++ (l.2 ++ rest)) = ap (λ x. x ++ rest) l.3 ∙ ap (λ x. l.0 ∷ x) (append_assoc l.1 l.2 rest) in
      rw (regroup, l.4, starts_front s l.1 (l.2 ++ rest) not_nullable begins, e1, e2) refl

  turn_front : (n : ℕ) (o : Option A) (r text : List Lexeme) → Splits L text o r → (front : List Lexeme) × (text ≡ front ++ (next {B = List A} o r (read_others (tail n))).1)
  turn_front n None r text d = (d.front, d.whole)
  turn_front n (Some a) r text d =
      let two = tails_splits n r in
      (d.front ++ two.front, d.whole ∙ ap (λ x. d.front ++ x) (two.whole ∙ ap (λ x. two.front ++ x) (sym (next_give_rest (tail n r).0 (tail n r).1 (λ others. a ∷ others)))) ∙ sym (append_assoc d.front two.front (next {B = List A} (Some a) r (read_others (tail n))).1))

  behind_front : (n : ℕ) (rest : List Lexeme) (b : Bool) → (front : List Lexeme) × (rest ≡ front ++ (cond b (p rest >>= read_others (tail n)) (give [] rest)).1)
  behind_front n rest true = turn_front n (p rest).0 (p rest).1 rest (reads.splits rest)
  behind_front n rest false = ([], refl)

  looks_others : (a : A) (n m : ℕ) (g rest other : List Lexeme) → tail m (g ++ other) ≡ ((tail n (g ++ rest)).0, other) → (o : Option (List A)) (end : List Lexeme) → tail n (g ++ rest) ≡ (o, end)
      → read_others (tail m) a (g ++ other) ≡ ((next {B = List A} o end (λ others. give (a ∷ others))).0, other)
  looks_others a n m g rest other ih None end e = rw (ih, e) refl
  looks_others a n m g rest other ih (Some others) end e = rw (ih, e) refl

  looks_turn : (n m : ℕ) → ((front rest other : List Lexeme) → SameHead rest other → length (front ++ rest) ≤ n → length (front ++ other) ≤ m → (tail n (front ++ rest)).1 ≡ rest → tail m (front ++ other) ≡ ((tail n (front ++ rest)).0, other))
      → (front rest other : List Lexeme) → SameHead rest other → length (front ++ rest) ≤ n → length (front ++ other) ≤ m → (o : Option A) (r : List Lexeme) → p (front ++ rest) ≡ (o, r)
      → (next {B = List A} o r (read_others (tail n))).1 ≡ rest
      → (p (front ++ other) >>= read_others (tail m)) ≡ ((next {B = List A} o r (read_others (tail n))).0, other)
  looks_turn n m ih front rest other same le le' None r e stop = rw (reads.looks front rest other same (ap (λ x. x.1) e ∙ stop), e) refl
  looks_turn n m ih front rest other same le le' (Some a) r e stop =
      let one = reads.splits (front ++ rest) in
      let two = tails_splits n r in
      let end : (tail n r).1 ≡ rest = sym (next_give_rest (tail n r).0 (tail n r).1 (λ others. a ∷ others)) ∙ stop in
      let whole_r : r ≡ two.front ++ rest = two.whole ∙ ap (λ x. two.front ++ x) end in
      let whole : front ++ rest ≡ one.front ++ (two.front ++ rest) = one.whole ∙ ap (λ x. one.front ++ x) (ap (λ x. x.1) e ∙ whole_r) in
      let fronts : front ≡ one.front ++ two.front = append_cancel_right front (one.front ++ two.front) rest (whole ∙ sym (append_assoc one.front two.front rest)) in
      let small : length (two.front ++ rest) ≤ n = omega (arith, ap length whole, length-append one.front (two.front ++ rest)) in
      let small' : length (two.front ++ other) ≤ m = omega (arith, length-append front other, ap length fronts, length-append one.front two.front, length-append two.front other) in
      let e1 : p (one.front ++ (two.front ++ rest)) ≡ (Some a, two.front ++ rest) = ap p (sym whole) ∙ e ∙ ap (λ x. (Some a, x)) whole_r in
      let e2 : p (one.front ++ (two.front ++ other)) ≡ (Some a, two.front ++ other) = rw e1 at (reads.looks one.front (two.front ++ rest) (two.front ++ other) (SameHead-append two.front rest other same) (ap (λ x. x.1) e1)) in
      let e3 = ih two.front rest other same small small' (ap (λ x. (tail n x).1) (sym whole_r) ∙ end) in
      let e4 = looks_others a n m two.front rest other e3 (tail n (two.front ++ rest)).0 (tail n (two.front ++ rest)).1 refl in
      let left : (p (front ++ other) >>= read_others (tail m)) ≡ read_others (tail m) a (two.front ++ other) = rw (ap (λ x. x ++ other) fronts ∙ append_assoc one.front two.front other, e2) refl in
      let right : ◌≡◌ {A = Answer (List A)} ((read_others (tail n) a (two.front ++ rest)).0, other) ((read_others (tail n) a r).0, other) = ap (λ x. ((read_others (tail n) a x).0, other)) (sym whole_r) in
      left ∙ e4 ∙ right

  looks_behind : (n m : ℕ) → ((front rest other : List Lexeme) → SameHead rest other → length (front ++ rest) ≤ n → length (front ++ other) ≤ m → (tail n (front ++ rest)).1 ≡ rest → tail m (front ++ other) ≡ ((tail n (front ++ rest)).0, other))
      → (front rest other : List Lexeme) → SameHead rest other → length (front ++ rest) ≤ n → length (front ++ other) ≤ m → (b : Bool)
      → (cond b (p (front ++ rest) >>= read_others (tail n)) (give [] (front ++ rest))).1 ≡ rest
      → cond b (p (front ++ other) >>= read_others (tail m)) (give [] (front ++ other)) ≡ ((cond b (p (front ++ rest) >>= read_others (tail n)) (give [] (front ++ rest))).0, other)
  looks_behind n m ih front rest other same le le' true stop = looks_turn n m ih front rest other same le le' (p (front ++ rest)).0 (p (front ++ rest)).1 refl stop
  looks_behind n m ih front rest other same le le' false stop = let k : front ≡ [] = self_append front rest stop in rw k refl

  looks_here : (n m : ℕ) (t : Lexeme) (r other : List Lexeme) → SameHead (t ∷ r) other → (b : Bool) → among separators t.terminal ≡ b → (cond b (after_separator n r) (give [] (t ∷ r))).1 ≡ t ∷ r
      → tail m other ≡ ((cond b (after_separator n r) (give [] (t ∷ r))).0, other)
  looks_here n m t r other same true e stop =
      absurd (let f = behind_front n r (starts s.first r) in let le : length r ≡ length f.0 + length (t ∷ r) = ap length f.1 ∙ length-append f.0 (after_separator n r).1 ∙ ap (λ x. length f.0 + length x) stop in omega arith)
  looks_here n m t r other same false e stop = tail_stops m other (none_goes separators (t ∷ r) other same e)

  looks_at : (n m : ℕ) → ((m : ℕ) (front rest other : List Lexeme) → SameHead rest other → length (front ++ rest) ≤ n → length (front ++ other) ≤ m → (tail n (front ++ rest)).1 ≡ rest → tail m (front ++ other) ≡ ((tail n (front ++ rest)).0, other))
      → (f : Lexeme) (fs rest other : List Lexeme) → SameHead rest other → length (f ∷ (fs ++ rest)) ≤ suc n → length (f ∷ (fs ++ other)) ≤ m → (b : Bool) → among separators f.terminal ≡ b
      → (cond b (after_separator n (fs ++ rest)) (give [] (f ∷ (fs ++ rest)))).1 ≡ rest → tail m (f ∷ (fs ++ other)) ≡ ((cond b (after_separator n (fs ++ rest)) (give [] (f ∷ (fs ++ rest)))).0, other)
  looks_at n zero ih f fs rest other same le le' b e stop = absurd (omega arith)
  looks_at n (suc m) ih f fs rest other same le le' true e stop =
      let starts_other = sym (starts_same s.first fs rest other same) in
      rw (e, starts_other) (looks_behind n m (ih m) fs rest other same (omega arith) (omega arith) (starts s.first (fs ++ rest)) stop)
  looks_at n (suc m) ih f fs rest other same le le' false e stop = absurd (let k : f ∷ fs ≡ [] = self_append (f ∷ fs) rest stop in cc)

  tails_looks : (n m : ℕ) (front rest other : List Lexeme) → SameHead rest other → length (front ++ rest) ≤ n → length (front ++ other) ≤ m → (tail n (front ++ rest)).1 ≡ rest
      → tail m (front ++ other) ≡ ((tail n (front ++ rest)).0, other)
  tails_looks zero m [] [] other same le le' stop = tail_stops m other (none_goes separators [] other same refl)
  tails_looks zero m [] (t ∷ r) other same le le' stop = absurd (omega arith)
  tails_looks zero m (f ∷ fs) rest other same le le' stop = absurd (omega arith)
  tails_looks (suc n) m [] [] other same le le' stop = tail_stops m other (none_goes separators [] other same refl)
  tails_looks (suc n) m [] (t ∷ r) other same le le' stop = looks_here n m t r other same (among separators t.terminal) refl stop
  tails_looks (suc n) m (f ∷ fs) rest other same le le' stop = looks_at n m (tails_looks n) f fs rest other same le le' (among separators f.terminal) refl stop

pub reads_tails : {A : Type 0} (separators : List Terminal) {L : Language A} {s : FirstAndFollow} {p : Parser A} → Parses L s p → s.nullable ≡ false → apart s.more separators ≡ true → Parses (tails separators L) (tails_shape separators s) (read_tails separators s.first p)
unfolding read_tails
reads_tails separators {L = L} {s = s} {p = p} reads not_nullable apart_ = record {
  some = record { more = []; value = []; spelled = inl refl };
  begins = tails_begins separators L s p reads not_nullable;
  splits = λ text. tails_splits separators L s p reads not_nullable (length text) text;
  complete = λ front rest value l stop. tails_complete separators L s p reads not_nullable apart_ (length (front ++ rest)) value front rest (omega arith) l stop;
  looks = λ front rest other same stop. tails_looks separators L s p reads not_nullable (length (front ++ rest)) (length (front ++ other)) front rest other same (omega arith) (omega arith) stop;
}

-- ---- the steps of a loop that reads items with separators

module _ {A : Type 0} (separators : List Terminal) (L : Language A) (s : FirstAndFollow) (p : Parser A) (reads : Parses L s p) (not_nullable : s.nullable ≡ false) where
  same_turn : (n m : ℕ) (rest : List Lexeme) → ((r : List Lexeme) → length r ≤ n → length r ≤ m → read_tails_up_to n separators s.first p r ≡ read_tails_up_to m separators s.first p r) → length rest ≤ n → length rest ≤ m
      → (o : Option A) (r : List Lexeme) → Splits L rest o r → next {B = List A} o r (read_others (read_tails_up_to n separators s.first p)) ≡ next {B = List A} o r (read_others (read_tails_up_to m separators s.first p))
  same_turn n m rest ih le le' None r d = refl
  same_turn n m rest ih le le' (Some a) r d =
      let all : length rest ≡ length d.front + length r = ap length d.whole ∙ length-append d.front r in
      rw (ih r (omega arith) (omega arith)) refl

  tail_same : (n m : ℕ) (text : List Lexeme) → length text ≤ n → length text ≤ m → read_tails_up_to n separators s.first p text ≡ read_tails_up_to m separators s.first p text
  tail_same zero zero text le le' = refl
  tail_same zero (suc m) [] le le' = refl
  tail_same (suc n) zero [] le le' = refl
  tail_same (suc n) (suc m) [] le le' = refl
  tail_same zero (suc m) (t ∷ rest) le le' = absurd (omega arith)
  tail_same (suc n) zero (t ∷ rest) le le' = absurd (omega arith)
  tail_same (suc n) (suc m) (t ∷ rest) le le' =
      ap (λ x. cond (among separators t.terminal) (cond (starts s.first rest) x (give [] rest)) (give [] (t ∷ rest)))
      (same_turn n m rest (tail_same n m) (omega arith) (omega arith) (p rest).0 (p rest).1 (reads.splits rest))

  turn_on : (rest : List Lexeme) (o : Option A) (r : List Lexeme) → Splits L rest o r → next {B = List A} o r (read_others (read_tails_up_to (length rest) separators s.first p)) ≡ next {B = List A} o r (read_others (read_tails separators s.first p))
  unfolding read_tails
  turn_on rest None r d = refl
  turn_on rest (Some a) r d =
      let all : length rest ≡ length d.front + length r = ap length d.whole ∙ length-append d.front r in
      rw (tail_same (length rest) (length r) r (omega arith) (omega arith)) refl

  pub tails_more : (t : Lexeme) (rest : List Lexeme) → among separators t.terminal ≡ true → starts s.first rest ≡ true → read_tails separators s.first p (t ∷ rest) ≡ (p rest >>= read_others (read_tails separators s.first p))
  unfolding read_tails
  tails_more t rest e h = rw (e, h) (turn_on rest (p rest).0 (p rest).1 (reads.splits rest))

  pub tails_last : (t : Lexeme) (rest : List Lexeme) → among separators t.terminal ≡ true → starts s.first rest ≡ false → read_tails separators s.first p (t ∷ rest) ≡ (Some [], rest)
  unfolding read_tails
  tails_last t rest e h = rw (e, h) refl

  pub tails_none : (text : List Lexeme) → starts separators text ≡ false → read_tails separators s.first p text ≡ (Some [], text)
  unfolding read_tails
  tails_none text h = tail_stops separators L s p reads not_nullable (length text) text h
