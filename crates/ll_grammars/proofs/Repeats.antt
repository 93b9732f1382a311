-- If a parser reads a language, `read_many` of this parser reads any number of its texts.
use Rattle.std.proofs.Common.{◌≡◌, ℕ, zero, suc, ◌+◌, ◌≤◌, ◌<◌, Bool, true, false, cond, List, [], ◌∷◌, ◌++◌, length, Option, Some, None, refl, sym, ap, subst, ◌∙◌, append_assoc, arith}
use Rattle.std.proofs.lemmas.List.{append-nil, append_cancel_right, length-append}
use Rattle.ll_grammars.specs.declared.lexeme.Lexeme.{Lexeme}
use Rattle.ll_grammars.specs.declared.terminal.Terminal.{Terminal}
use Rattle.ll_grammars.specs.Terminals.{apart}
use Rattle.ll_grammars.specs.Language.{Language, many}
use Rattle.ll_grammars.specs.Reading.{Parser, Answer, next, ◌>>=◌, starts, give, read_others, read_many, read_up_to}
use Rattle.ll_grammars.specs.Parses.{FirstAndFollow, BeginsIn, BeginsOutside, SameHead, Spelled, Splits, Parses}
use Rattle.ll_grammars.proofs.Sets.{BeginsOutside-left, BeginsOutside-right, BeginsOutside-next, BeginsOutside-starts, starts_same, SameHead-append, self_append, starts_front}
use Rattle.ll_grammars.proofs.Steps.{next_give_rest}

abbrev pub many_shape : FirstAndFollow → FirstAndFollow
many_shape s = record { first = s.first; nullable = true; more = s.first ++ s.more }

begins_append : (s : FirstAndFollow) (f g : List Lexeme) → s.nullable ≡ false → BeginsIn s f → BeginsIn s (f ++ g)
begins_append s [] g not_nullable b = absurd cc
begins_append s (x ∷ f) g not_nullable b = b

pub begins_length : (s : FirstAndFollow) (f : List Lexeme) → s.nullable ≡ false → BeginsIn s f → 0 < length f
begins_length s [] not_nullable b = absurd cc
begins_length s (x ∷ f) not_nullable b = omega arith

pub starts_none : (cs : List Terminal) (text : List Lexeme) → length text ≤ 0 → starts cs text ≡ false
starts_none cs [] h = refl
starts_none cs (x ∷ text) h = absurd (omega arith)

module _ {A : Type 0} (L : Language A) (s : FirstAndFollow) (p : Parser A) (reads : Parses L s p) (not_nullable : s.nullable ≡ false) where
  many_splits_others : (text f r : List Lexeme) (a : A) → text ≡ f ++ r → L f a → (o : Option (List A)) (end : List Lexeme) → Splits (many L) r o end
      → Splits (many L) text (next {B = List A} o end (λ others. give (a ∷ others))).0 (next {B = List A} o end (λ others. give (a ∷ others))).1
  many_splits_others text f r a whole l None end split = record {
    front = f ++ split.front;
    whole = whole ∙ ap (λ x. f ++ x) split.whole ∙ sym (append_assoc f split.front end);
    spelled = record { more = split.spelled.more; value = a ∷ split.spelled.value; spelled = (f, split.front ++ split.spelled.more, append_assoc f split.front split.spelled.more, l, split.spelled.spelled) };
  }
  many_splits_others text f r a whole l (Some others) end split = record {
    front = f ++ split.front;
    whole = whole ∙ ap (λ x. f ++ x) split.whole ∙ sym (append_assoc f split.front end);
    spelled = (f, split.front, refl, l, split.spelled);
  }

  many_splits_turn : (q : Parser (List A)) → ((r : List Lexeme) → Splits (many L) r (q r).0 (q r).1) → (text : List Lexeme) (o : Option A) (r : List Lexeme) → Splits L text o r
      → Splits (many L) text (next {B = List A} o r (read_others q)).0 (next {B = List A} o r (read_others q)).1
  many_splits_turn q ih text None r split = record {
    front = split.front;
    whole = split.whole;
    spelled = record { more = split.spelled.more; value = split.spelled.value ∷ []; spelled = (split.front ++ split.spelled.more, [], sym (append-nil (split.front ++ split.spelled.more)), split.spelled.spelled, refl) };
  }
  many_splits_turn q ih text (Some a) r split = many_splits_others text split.front r a split.whole split.spelled (q r).0 (q r).1 (ih r)

  many_splits_if : (q : Parser (List A)) → ((r : List Lexeme) → Splits (many L) r (q r).0 (q r).1) → (text : List Lexeme) (b : Bool)
      → Splits (many L) text (cond b (p text >>= read_others q) (give [] text)).0 (cond b (p text >>= read_others q) (give [] text)).1
  many_splits_if q ih text true = many_splits_turn q ih text (p text).0 (p text).1 (reads.splits text)
  many_splits_if q ih text false = record { front = []; whole = refl; spelled = refl }

  many_splits : (n : ℕ) (text : List Lexeme) → Splits (many L) text (read_up_to n s.first p text).0 (read_up_to n s.first p text).1
  many_splits zero text = record { front = []; whole = refl; spelled = refl }
  many_splits (suc n) text = many_splits_if (read_up_to n s.first p) (many_splits n) text (starts s.first text)

  many_begins_at : (text : List Lexeme) (values : List A) → many L text values → BeginsIn (many_shape s) text
  many_begins_at [] values l = refl
  many_begins_at (x ∷ text) [] l = absurd cc
  many_begins_at (x ∷ text) (v ∷ values) l = let k : BeginsIn s (x ∷ text) = subst (λ t. BeginsIn s t) (sym l.2) (begins_append s l.0 l.1 not_nullable (reads.begins l.0 v l.3)) in k

  many_complete : apart s.more s.first ≡ true → (n : ℕ) (values : List A) (front rest : List Lexeme) → length (front ++ rest) ≤ n → many L front values → BeginsOutside (s.first ++ s.more) rest
      → read_up_to n s.first p (front ++ rest) ≡ (Some values, rest)
  many_complete apart_ zero [] front rest le l stop = rw l refl
  many_complete apart_ (suc n) [] front rest le l stop = rw (l, BeginsOutside-starts s.first rest (BeginsOutside-left s.first s.more rest stop)) refl
  many_complete apart_ zero (v ∷ values) front rest le l stop =
      let pos : 0 < length l.0 = begins_length s l.0 not_nullable (reads.begins l.0 v l.3) in
      absurd (omega (arith, length-append front rest, ap length l.2, length-append l.0 l.1))
  many_complete apart_ (suc n) (v ∷ values) front rest le l stop =
      let begins = reads.begins l.0 v l.3 in
      let pos : 0 < length l.0 = begins_length s l.0 not_nullable begins in
      let small : length (l.1 ++ rest) ≤ n = omega (arith, length-append front rest, ap length l.2, length-append l.0 l.1, length-append l.1 rest) in
      let stop1 : BeginsOutside s.more (l.1 ++ rest) = BeginsOutside-next s.more (many_shape s) l.1 rest apart_ (many_begins_at l.1 values l.4) (BeginsOutside-right s.first s.more rest stop) in
      let e1 = reads.complete l.0 (l.1 ++ rest) v l.3 stop1 in
      let e2 = many_complete apart_ n values l.1 rest small l.4 stop in
      let regroup : front ++ rest ≡ l.0 ++ (l.1 ++ rest) = ap (λ x. x ++ rest) l.2 ∙ append_assoc l.0 l.1 rest in
      rw (regroup, starts_front s l.0 (l.1 ++ rest) not_nullable begins, e1, e2) refl

  up_stops : (m : ℕ) (text : List Lexeme) → starts s.first text ≡ false → read_up_to m s.first p text ≡ (Some [], text)
  up_stops zero text h = refl
  up_stops (suc m) text h = rw h refl

  many_looks_others : (a : A) (n m : ℕ) (g rest other : List Lexeme) → read_up_to m s.first p (g ++ other) ≡ ((read_up_to n s.first p (g ++ rest)).0, other)
      → (o : Option (List A)) (end : List Lexeme) → read_up_to n s.first p (g ++ rest) ≡ (o, end)
      → read_others (read_up_to m s.first p) a (g ++ other) ≡ ((next {B = List A} o end (λ others. give (a ∷ others))).0, other)
  many_looks_others a n m g rest other ih None end e = rw (ih, e) refl
  many_looks_others a n m g rest other ih (Some others) end e = rw (ih, e) refl

  many_looks_turn : (n m : ℕ) → ((front rest other : List Lexeme) → SameHead rest other → length (front ++ rest) ≤ n → length (front ++ other) ≤ m → (read_up_to n s.first p (front ++ rest)).1 ≡ rest
      → read_up_to m s.first p (front ++ other) ≡ ((read_up_to n s.first p (front ++ rest)).0, other))
      → (front rest other : List Lexeme) → SameHead rest other → length (front ++ rest) ≤ suc n → length (front ++ other) ≤ suc m → (o : Option A) (r : List Lexeme) → p (front ++ rest) ≡ (o, r)
      → (next {B = List A} o r (read_others (read_up_to n s.first p))).1 ≡ rest
      → (p (front ++ other) >>= read_others (read_up_to m s.first p)) ≡ ((next {B = List A} o r (read_others (read_up_to n s.first p))).0, other)
  many_looks_turn n m ih front rest other same le le' None r e stop = rw (reads.looks front rest other same (ap (λ x. x.1) e ∙ stop), e) refl
  many_looks_turn n m ih front rest other same le le' (Some a) r e stop =
      let one = reads.splits (front ++ rest) in
      let two = many_splits n r in
      let end : (read_up_to n s.first p r).1 ≡ rest = sym (next_give_rest (read_up_to n s.first p r).0 (read_up_to n s.first p r).1 (λ others. a ∷ others)) ∙ stop in
      let whole_r : r ≡ two.front ++ rest = two.whole ∙ ap (λ x. two.front ++ x) end in
      let whole : front ++ rest ≡ one.front ++ (two.front ++ rest) = one.whole ∙ ap (λ x. one.front ++ x) (ap (λ x. x.1) e ∙ whole_r) in
      let fronts : front ≡ one.front ++ two.front = append_cancel_right front (one.front ++ two.front) rest (whole ∙ sym (append_assoc one.front two.front rest)) in
      let spelled : L one.front a = subst (λ (x : Option A). Spelled L one.front x) (ap (λ x. x.0) e) one.spelled in
      let pos : 0 < length one.front = begins_length s one.front not_nullable (reads.begins one.front a spelled) in
      let small : length (two.front ++ rest) ≤ n = omega (arith, ap length whole, length-append one.front (two.front ++ rest)) in
      let small' : length (two.front ++ other) ≤ m = omega (arith, length-append front other, ap length fronts, length-append one.front two.front, length-append two.front other) in
      let e1 : p (one.front ++ (two.front ++ rest)) ≡ (Some a, two.front ++ rest) = ap p (sym whole) ∙ e ∙ ap (λ x. (Some a, x)) whole_r in
      let e2 : p (one.front ++ (two.front ++ other)) ≡ (Some a, two.front ++ other) = rw e1 at (reads.looks one.front (two.front ++ rest) (two.front ++ other) (SameHead-append two.front rest other same) (ap (λ x. x.1) e1)) in
      let e3 = ih two.front rest other same small small' (ap (λ x. (read_up_to n s.first p x).1) (sym whole_r) ∙ end) in
      let e4 = many_looks_others a n m two.front rest other e3 (read_up_to n s.first p (two.front ++ rest)).0 (read_up_to n s.first p (two.front ++ rest)).1 refl in
      let left : (p (front ++ other) >>= read_others (read_up_to m s.first p)) ≡ read_others (read_up_to m s.first p) a (two.front ++ other) = rw (ap (λ x. x ++ other) fronts ∙ append_assoc one.front two.front other, e2) refl in
      let right : ◌≡◌ {A = Answer (List A)} ((read_others (read_up_to n s.first p) a (two.front ++ rest)).0, other) ((read_others (read_up_to n s.first p) a r).0, other) = ap (λ x. ((read_others (read_up_to n s.first p) a x).0, other)) (sym whole_r) in
      left ∙ e4 ∙ right

  many_looks_none : (m : ℕ) (front rest other : List Lexeme) → SameHead rest other → front ++ rest ≡ rest → starts s.first rest ≡ false → read_up_to m s.first p (front ++ other) ≡ (Some [], other)
  many_looks_none m front rest other same stop h =
      let k : front ≡ [] = self_append front rest stop in
      rw k (up_stops m other (sym (starts_same s.first [] rest other same) ∙ h))

  many_looks_if : (n m : ℕ) → ((m : ℕ) (front rest other : List Lexeme) → SameHead rest other → length (front ++ rest) ≤ n → length (front ++ other) ≤ m → (read_up_to n s.first p (front ++ rest)).1 ≡ rest
      → read_up_to m s.first p (front ++ other) ≡ ((read_up_to n s.first p (front ++ rest)).0, other))
      → (front rest other : List Lexeme) → SameHead rest other → length (front ++ rest) ≤ suc n → length (front ++ other) ≤ m → (b : Bool) → starts s.first (front ++ rest) ≡ b
      → (cond b (p (front ++ rest) >>= read_others (read_up_to n s.first p)) (give [] (front ++ rest))).1 ≡ rest
      → read_up_to m s.first p (front ++ other) ≡ ((cond b (p (front ++ rest) >>= read_others (read_up_to n s.first p)) (give [] (front ++ rest))).0, other)
  many_looks_if n m ih front rest other same le le' false b stop = many_looks_none m front rest other same stop (ap (λ x. starts s.first x) (sym stop) ∙ b)
  many_looks_if n zero ih front rest other same le le' true b stop = absurd (let k : starts s.first (front ++ other) ≡ false = starts_none s.first (front ++ other) le' in let k' = starts_same s.first front rest other same in cc)
  many_looks_if n (suc m) ih front rest other same le le' true b stop =
      let k' : starts s.first (front ++ other) ≡ true = sym (starts_same s.first front rest other same) ∙ b in
      rw k' (many_looks_turn n m (ih m) front rest other same le le' (p (front ++ rest)).0 (p (front ++ rest)).1 refl stop)

  many_looks : (n m : ℕ) (front rest other : List Lexeme) → SameHead rest other → length (front ++ rest) ≤ n → length (front ++ other) ≤ m → (read_up_to n s.first p (front ++ rest)).1 ≡ rest
      → read_up_to m s.first p (front ++ other) ≡ ((read_up_to n s.first p (front ++ rest)).0, other)
  many_looks zero m front rest other same le le' stop =
      let none : length rest ≤ 0 = omega (arith, length-append front rest) in
      many_looks_none m front rest other same stop (starts_none s.first rest none)
  many_looks (suc n) m front rest other same le le' stop = many_looks_if n m (many_looks n) front rest other same le le' (starts s.first (front ++ rest)) refl stop

  up_same_turn : (n m : ℕ) (text : List Lexeme) → ((r : List Lexeme) → length r ≤ n → length r ≤ m → read_up_to n s.first p r ≡ read_up_to m s.first p r) → length text ≤ suc n → length text ≤ suc m
      → (o : Option A) (r : List Lexeme) → Splits L text o r → next {B = List A} o r (read_others (read_up_to n s.first p)) ≡ next {B = List A} o r (read_others (read_up_to m s.first p))
  up_same_turn n m text ih le le' None r split = refl
  up_same_turn n m text ih le le' (Some a) r split =
      let pos : 0 < length split.front = begins_length s split.front not_nullable (reads.begins split.front a split.spelled) in
      let all : length text ≡ length split.front + length r = ap length split.whole ∙ length-append split.front r in
      rw (ih r (omega arith) (omega arith)) refl

  up_same : (n m : ℕ) (text : List Lexeme) → length text ≤ n → length text ≤ m → read_up_to n s.first p text ≡ read_up_to m s.first p text
  up_same zero m text le le' = sym (up_stops m text (starts_none s.first text le))
  up_same (suc n) zero text le le' = up_stops (suc n) text (starts_none s.first text le')
  up_same (suc n) (suc m) text le le' = let e = up_same_turn n m text (up_same n m) le le' (p text).0 (p text).1 (reads.splits text) in
      ap (λ x. cond (starts s.first text) x (give [] text)) e

  step_at : (x : Lexeme) (text : List Lexeme) (o : Option A) (r : List Lexeme) → Splits L (x ∷ text) o r → next {B = List A} o r (read_others (read_up_to (length text) s.first p)) ≡ next {B = List A} o r (read_others (read_many s.first p))
  unfolding read_many
  step_at x text None r split = refl
  step_at x text (Some a) r split =
      let pos : 0 < length split.front = begins_length s split.front not_nullable (reads.begins split.front a split.spelled) in
      let all : suc (length text) ≡ length split.front + length r = ap length split.whole ∙ length-append split.front r in
      rw (up_same (length text) (length r) r (omega arith) (omega arith)) refl

  pub many_step : (text : List Lexeme) → starts s.first text ≡ true → read_many s.first p text ≡ (p text >>= read_others (read_many s.first p))
  unfolding read_many
  many_step [] h = absurd cc
  many_step (x ∷ text) h = rw h (step_at x text (p (x ∷ text)).0 (p (x ∷ text)).1 (reads.splits (x ∷ text)))

  pub many_stop : (text : List Lexeme) → starts s.first text ≡ false → read_many s.first p text ≡ (Some [], text)
  unfolding read_many
  many_stop text h = up_stops (length text) text h

pub reads_many : {A : Type 0} → (L : Language A) (s : FirstAndFollow) (p : Parser A) → Parses L s p → s.nullable ≡ false → apart s.more s.first ≡ true → Parses (many L) (many_shape s) (read_many s.first p)
unfolding read_many
reads_many L s p reads not_nullable apart_ = record {
  some = record { more = []; value = []; spelled = refl };
  begins = many_begins_at L s p reads not_nullable;
  splits = λ text. many_splits L s p reads not_nullable (length text) text;
  complete = λ front rest value l stop. many_complete L s p reads not_nullable apart_ (length (front ++ rest)) value front rest (omega arith) l stop;
  looks = λ front rest other same stop. many_looks L s p reads not_nullable (length (front ++ rest)) (length (front ++ other)) front rest other same (omega arith) (omega arith) stop;
}
