-- If parsers read languages, parsers combined from them read the languages combined in the same way.
use Rattle.std.proofs.Common.{◌≡◌, Bool, true, false, cond, ◌&&◌, List, [], ◌∷◌, ◌++◌, Option, Some, None, refl, sym, ap, subst, ◌∙◌, append_assoc, inl, inr}
use Rattle.std.proofs.lemmas.List.{append_cancel_right}
use Rattle.ll_grammars.specs.declared.lexeme.Lexeme.{Lexeme}
use Rattle.ll_grammars.specs.declared.terminal.Terminal.{Terminal}
use Rattle.ll_grammars.specs.Terminals.{among, apart}
use Rattle.ll_grammars.specs.Language.{Language, ◌▸◌, one, mapped, maybe, ◌∪◌, IsViablePrefix}
use Rattle.ll_grammars.specs.Reading.{Parser, Answer, next, ◌>>=◌, starts, give, read_second, read_one, read_then, read_mapped, read_either, read_maybe}
use Rattle.ll_grammars.specs.Parses.{FirstAndFollow, BeginsIn, BeginsOutside, SameHead, Splits, Parses}
use Rattle.ll_grammars.specs.Parses.SameHead.{nothing, token}
use Rattle.ll_grammars.proofs.Sets.{apart_false, among_left, among_right, BeginsOutside-left, BeginsOutside-right, BeginsOutside-next, BeginsOutside-starts, starts_same, SameHead-append, self_append, starts_front}

-- ---- the tokens that a step leaves

pub next_give_rest : {A B : Type 0} → (o : Option A) (end : List Lexeme) (f : A → B) → (next o end (λ a. give (f a))).1 ≡ end
next_give_rest None end f = refl
next_give_rest (Some a) end f = refl

-- ---- `read_one`: one token

abbrev pub one_shape : List Terminal → FirstAndFollow
one_shape terminals = record { first = terminals; nullable = false; more = [] }

one_splits : (terminals : List Terminal) (t : Lexeme) (rest : List Lexeme) → IsViablePrefix (one terminals) [] → (b : Bool) → among terminals t.terminal ≡ b
    → Splits (one terminals) (t ∷ rest) (cond {A = Answer Lexeme} b (Some t, rest) (None, t ∷ rest)).0 (cond {A = Answer Lexeme} b (Some t, rest) (None, t ∷ rest)).1
one_splits terminals t rest some true e = record { front = t ∷ []; whole = refl; spelled = (refl, e) }
one_splits terminals t rest some false e = record { front = []; whole = refl; spelled = some }

one_looks : (terminals : List Terminal) (t : Lexeme) (rest other : List Lexeme) (b : Bool) → (cond {A = Answer Lexeme} b (Some t, rest) (None, t ∷ rest)).1 ≡ t ∷ rest
    → cond {A = Answer Lexeme} b (Some t, other) (None, t ∷ other) ≡ ((cond {A = Answer Lexeme} b (Some t, rest) (None, t ∷ rest)).0, t ∷ other)
one_looks terminals t rest other true e = absurd (let k : t ∷ [] ≡ [] = self_append (t ∷ []) rest (sym e) in cc)
one_looks terminals t rest other false e = refl

one_looks_past : (t : Lexeme) (front rest other : List Lexeme) (b : Bool) → (cond {A = Answer Lexeme} b (Some t, front ++ rest) (None, t ∷ (front ++ rest))).1 ≡ rest
    → cond {A = Answer Lexeme} b (Some t, front ++ other) (None, t ∷ (front ++ other)) ≡ ((cond {A = Answer Lexeme} b (Some t, front ++ rest) (None, t ∷ (front ++ rest))).0, other)
one_looks_past t front rest other true e = let k : front ≡ [] = self_append front rest e in rw k refl
one_looks_past t front rest other false e = absurd (let k : t ∷ front ≡ [] = self_append (t ∷ front) rest e in cc)

one_looks_all : (terminals : List Terminal) (front rest other : List Lexeme) → SameHead rest other → (read_one terminals (front ++ rest)).1 ≡ rest
    → read_one terminals (front ++ other) ≡ ((read_one terminals (front ++ rest)).0, other)
one_looks_all terminals [] [] [] nothing e = refl
one_looks_all terminals [] (t ∷ xs) (u ∷ ys) (token v zs ws) e = one_looks terminals t xs ys (among terminals t.terminal) e
one_looks_all terminals [] [] (u ∷ ys) h e = elim h [ ]
one_looks_all terminals [] (t ∷ xs) [] h e = elim h [ ]
one_looks_all terminals (f ∷ fs) rest other h e = one_looks_past f fs rest other (among terminals f.terminal) e

one_complete : (terminals : List Terminal) (front rest : List Lexeme) (value : Lexeme) → one terminals front value → read_one terminals (front ++ rest) ≡ (Some value, rest)
one_complete terminals front rest value l = rw (l.0, l.1) refl

one_begins : (terminals : List Terminal) (text : List Lexeme) (value : Lexeme) → one terminals text value → BeginsIn (one_shape terminals) text
one_begins terminals text value l = subst (λ x. BeginsIn (one_shape terminals) x) (sym l.0) l.1

one_all_splits : (terminals : List Terminal) → IsViablePrefix (one terminals) [] → (text : List Lexeme) → Splits (one terminals) text (read_one terminals text).0 (read_one terminals text).1
one_all_splits terminals some [] = record { front = []; whole = refl; spelled = some }
one_all_splits terminals some (t ∷ rest) = one_splits terminals t rest some (among terminals t.terminal) refl

pub reads_one : (terminals : List Terminal) (t : Lexeme) → among terminals t.terminal ≡ true → Parses (one terminals) (one_shape terminals) (read_one terminals)
reads_one terminals t e =
    let some : IsViablePrefix (one terminals) [] = record { more = t ∷ []; value = t; spelled = (refl, e) } in
    record {
      some = some;
      begins = one_begins terminals;
      splits = one_all_splits terminals some;
      complete = λ front rest value l stop. one_complete terminals front rest value l;
      looks = one_looks_all terminals;
    }

-- ---- `read_then`: one text after another

abbrev pub then_shape : FirstAndFollow → FirstAndFollow → FirstAndFollow
then_shape s t = record { first = s.first ++ cond s.nullable t.first []; nullable = s.nullable && t.nullable; more = t.more ++ cond t.nullable s.more [] }

module _ {A B : Type 0} (L : Language A) (M : Language B) (s t : FirstAndFollow) (p : Parser A) (q : Parser B) (first : Parses L s p) (second : Parses M t q) where
  then_splits_second : (text f r : List Lexeme) (a : A) → text ≡ f ++ r → L f a → (o : Option B) (end : List Lexeme) → Splits M r o end
      → Splits (L ▸ M) text (next {B = A × B} o end (λ b. give (a, b))).0 (next {B = A × B} o end (λ b. give (a, b))).1
  then_splits_second text f r a whole l None end split =
      record {
        front = f ++ split.front;
        whole = whole ∙ ap (λ x. f ++ x) split.whole ∙ sym (append_assoc f split.front end);
        spelled = record {
          more = split.spelled.more;
          value = (a, split.spelled.value);
          spelled = record { front = f; rest = split.front ++ split.spelled.more; whole = append_assoc f split.front split.spelled.more; first = l; second = split.spelled.spelled };
        };
      }
  then_splits_second text f r a whole l (Some b) end split =
      record {
        front = f ++ split.front;
        whole = whole ∙ ap (λ x. f ++ x) split.whole ∙ sym (append_assoc f split.front end);
        spelled = record { front = f; rest = split.front; whole = refl; first = l; second = split.spelled };
      }

  then_splits : (text : List Lexeme) (o : Option A) (r : List Lexeme) → Splits L text o r
      → Splits (L ▸ M) text (next {B = A × B} o r (read_second q)).0 (next {B = A × B} o r (read_second q)).1
  then_splits text None r split =
      record {
        front = split.front;
        whole = split.whole;
        spelled = record {
          more = split.spelled.more ++ second.some.more;
          value = (split.spelled.value, second.some.value);
          spelled = record { front = split.front ++ split.spelled.more; rest = second.some.more; whole = sym (append_assoc split.front split.spelled.more second.some.more); first = split.spelled.spelled; second = second.some.spelled };
        };
      }
  then_splits text (Some a) r split = then_splits_second text split.front r a split.whole split.spelled (q r).0 (q r).1 (second.splits r)

  then_complete : (f g rest : List Lexeme) (a : A) (b : B) → apart s.more t.first ≡ true → L f a → M g b → BeginsOutside (t.more ++ cond t.nullable s.more []) rest → read_then p q ((f ++ g) ++ rest) ≡ (Some (a, b), rest)
  then_complete f g rest a b apart_ l m stop =
      let stop1 : BeginsOutside s.more (g ++ rest) = BeginsOutside-next s.more t g rest apart_ (second.begins g b m) (BeginsOutside-right t.more (cond t.nullable s.more []) rest stop) in
      let e1 = first.complete f (g ++ rest) a l stop1 in
      let e2 = second.complete g rest b m (BeginsOutside-left t.more (cond t.nullable s.more []) rest stop) in
      rw (append_assoc f g rest, e1, e2) refl

  then_begins : (f g : List Lexeme) → BeginsIn s f → BeginsIn t g → BeginsIn (then_shape s t) (f ++ g)
  then_begins [] [] b c = rw (b, c) refl
  then_begins [] (x ∷ g) b c = rw b (among_right s.first t.first x.terminal c)
  then_begins (x ∷ f) g b c = among_left s.first (cond s.nullable t.first []) x.terminal b

  then_looks_second : (a : A) (g rest other : List Lexeme) → SameHead rest other → (o : Option B) (end : List Lexeme) → q (g ++ rest) ≡ (o, end)
      → (next {B = A × B} o end (λ b. give (a, b))).1 ≡ rest
      → read_second q a (g ++ other) ≡ ((next {B = A × B} o end (λ b. give (a, b))).0, other)
  then_looks_second a g rest other same None end e stop = rw (second.looks g rest other same (ap (λ x. x.1) e ∙ stop), e) refl
  then_looks_second a g rest other same (Some b) end e stop = rw (second.looks g rest other same (ap (λ x. x.1) e ∙ stop), e) refl

  then_looks_some : (a : A) (f g rest other : List Lexeme) → SameHead rest other → p (f ++ (g ++ rest)) ≡ (Some a, g ++ rest) → (o : Option B) (end : List Lexeme) → q (g ++ rest) ≡ (o, end)
      → (next {B = A × B} o end (λ b. give (a, b))).1 ≡ rest
      → read_then p q ((f ++ g) ++ other) ≡ ((next {B = A × B} o end (λ b. give (a, b))).0, other)
  then_looks_some a f g rest other same e o end e2 stop =
      let e1 : p (f ++ (g ++ other)) ≡ (Some a, g ++ other) = rw e at (first.looks f (g ++ rest) (g ++ other) (SameHead-append g rest other same) (ap (λ x. x.1) e)) in
      rw (append_assoc f g other, e1) (then_looks_second a g rest other same o end e2 stop)

  then_looks : (front rest other : List Lexeme) → SameHead rest other → (o : Option A) (r : List Lexeme) → p (front ++ rest) ≡ (o, r)
      → (next {B = A × B} o r (read_second q)).1 ≡ rest
      → read_then p q (front ++ other) ≡ ((next {B = A × B} o r (read_second q)).0, other)
  then_looks front rest other same None r e stop = rw (first.looks front rest other same (ap (λ x. x.1) e ∙ stop), e) refl
  then_looks front rest other same (Some a) r e stop =
      let one = first.splits (front ++ rest) in
      let two = second.splits r in
      let end : (q r).1 ≡ rest = sym (next_give_rest (q r).0 (q r).1 (λ b. (a, b))) ∙ stop in
      let whole_r : r ≡ two.front ++ rest = two.whole ∙ ap (λ x. two.front ++ x) end in
      let whole : front ++ rest ≡ one.front ++ (two.front ++ rest) = one.whole ∙ ap (λ x. one.front ++ x) (ap (λ x. x.1) e ∙ whole_r) in
      let fronts : front ≡ one.front ++ two.front = append_cancel_right front (one.front ++ two.front) rest (whole ∙ sym (append_assoc one.front two.front rest)) in
      let e1 : p (one.front ++ (two.front ++ rest)) ≡ (Some a, two.front ++ rest) = ap p (sym whole) ∙ e ∙ ap (λ x. (Some a, x)) whole_r in
      let done = then_looks_some a one.front two.front rest other same e1 (q (two.front ++ rest)).0 (q (two.front ++ rest)).1 refl (ap (λ x. (read_second q a x).1) (sym whole_r) ∙ stop) in
      let left : read_then p q (front ++ other) ≡ read_then p q ((one.front ++ two.front) ++ other) = ap (λ x. read_then p q (x ++ other)) fronts in
      let right : ◌≡◌ {A = Answer (A × B)} ((read_second q a (two.front ++ rest)).0, other) ((read_second q a r).0, other) = ap (λ x. ((read_second q a x).0, other)) (sym whole_r) in
      left ∙ done ∙ right

pub reads_then : {A B : Type 0} → (L : Language A) (M : Language B) (s t : FirstAndFollow) (p : Parser A) (q : Parser B) → Parses L s p → Parses M t q → apart s.more t.first ≡ true → Parses (L ▸ M) (then_shape s t) (read_then p q)
reads_then L M s t p q first second apart_ = record {
  some = record {
    more = first.some.more ++ second.some.more;
    value = (first.some.value, second.some.value);
    spelled = record { front = first.some.more; rest = second.some.more; whole = refl; first = first.some.spelled; second = second.some.spelled };
  };
  begins = λ text value l. subst (λ x. BeginsIn (then_shape s t) x) (sym l.whole) (then_begins L M s t p q first second l.front l.rest (first.begins l.front value.0 l.first) (second.begins l.rest value.1 l.second));
  splits = λ text. then_splits L M s t p q first second text (p text).0 (p text).1 (first.splits text);
  complete = λ front rest value l stop. rw l.whole (then_complete L M s t p q first second l.front l.rest rest value.0 value.1 apart_ l.first l.second stop);
  looks = λ front rest other same stop. then_looks L M s t p q first second front rest other same (p (front ++ rest)).0 (p (front ++ rest)).1 refl stop;
}

-- ---- `read_mapped`: a text with another value

module _ {A B : Type 0} (L : Language A) (f : A → B) (s : FirstAndFollow) (p : Parser A) (reads : Parses L s p) where
  mapped_splits : (text : List Lexeme) (o : Option A) (r : List Lexeme) → Splits L text o r → Splits (mapped f L) text (next o r (λ a. give (f a))).0 (next o r (λ a. give (f a))).1
  mapped_splits text None r split = record { front = split.front; whole = split.whole; spelled = record { more = split.spelled.more; value = f split.spelled.value; spelled = (split.spelled.value, refl, split.spelled.spelled) } }
  mapped_splits text (Some a) r split = record { front = split.front; whole = split.whole; spelled = (a, refl, split.spelled) }

  mapped_looks : (front rest other : List Lexeme) → SameHead rest other → (o : Option A) (r : List Lexeme) → p (front ++ rest) ≡ (o, r) → (next o r (λ a. give (f a))).1 ≡ rest
      → read_mapped f p (front ++ other) ≡ ((next o r (λ a. give (f a))).0, other)
  mapped_looks front rest other same None r e stop = rw (reads.looks front rest other same (ap (λ x. x.1) e ∙ stop), e) refl
  mapped_looks front rest other same (Some a) r e stop = rw (reads.looks front rest other same (ap (λ x. x.1) e ∙ stop), e) refl

pub reads_mapped : {A B : Type 0} → (L : Language A) (f : A → B) (s : FirstAndFollow) (p : Parser A) → Parses L s p → Parses (mapped f L) s (read_mapped f p)
reads_mapped L f s p reads = record {
  some = record { more = reads.some.more; value = f reads.some.value; spelled = (reads.some.value, refl, reads.some.spelled) };
  begins = λ text value l. reads.begins text l.0 l.2;
  splits = λ text. mapped_splits L f s p reads text (p text).0 (p text).1 (reads.splits text);
  complete = λ front rest value l stop. rw (reads.complete front rest l.0 l.2 stop) (ap (λ x. (Some x, rest)) l.1);
  looks = λ front rest other same stop. mapped_looks L f s p reads front rest other same (p (front ++ rest)).0 (p (front ++ rest)).1 refl stop;
}

-- ---- `read_either`: a text of one language or of another

starts_not : (cs : List Terminal) (t : FirstAndFollow) (front rest : List Lexeme) → t.nullable ≡ false → apart cs t.first ≡ true → BeginsIn t front → starts cs (front ++ rest) ≡ false
starts_not cs t [] rest not_nullable h b = absurd cc
starts_not cs t (x ∷ front) rest not_nullable h b = apart_false cs t.first x.terminal h b

abbrev pub either_shape : FirstAndFollow → FirstAndFollow → FirstAndFollow
either_shape s t = record { first = s.first ++ t.first; nullable = false; more = s.more ++ t.more }

module _ {A : Type 0} (L M : Language A) (s t : FirstAndFollow) (p q : Parser A) (first : Parses L s p) (second : Parses M t q) (not_nullable : s.nullable ≡ false) (not_nullable' : t.nullable ≡ false) (apart_ : apart s.first t.first ≡ true) where
  left_viable : (front : List Lexeme) → IsViablePrefix L front → IsViablePrefix (L ∪ M) front
  left_viable front v = record { more = v.more; value = v.value; spelled = inl v.spelled }

  right_viable : (front : List Lexeme) → IsViablePrefix M front → IsViablePrefix (L ∪ M) front
  right_viable front v = record { more = v.more; value = v.value; spelled = inr v.spelled }

  left_splits : (text : List Lexeme) (o : Option A) (r : List Lexeme) → Splits L text o r → Splits (L ∪ M) text o r
  left_splits text None r split = record { front = split.front; whole = split.whole; spelled = left_viable split.front split.spelled }
  left_splits text (Some a) r split = record { front = split.front; whole = split.whole; spelled = inl split.spelled }

  right_splits : (text : List Lexeme) (o : Option A) (r : List Lexeme) → Splits M text o r → Splits (L ∪ M) text o r
  right_splits text None r split = record { front = split.front; whole = split.whole; spelled = right_viable split.front split.spelled }
  right_splits text (Some a) r split = record { front = split.front; whole = split.whole; spelled = inr split.spelled }

  either_splits : (text : List Lexeme) (b : Bool) → Splits (L ∪ M) text (cond b (p text) (q text)).0 (cond b (p text) (q text)).1
  either_splits text true = left_splits text (p text).0 (p text).1 (first.splits text)
  either_splits text false = right_splits text (q text).0 (q text).1 (second.splits text)

  either_complete : (front rest : List Lexeme) (value : A) → (L ∪ M) front value → BeginsOutside (s.more ++ t.more) rest → read_either s.first p q (front ++ rest) ≡ (Some value, rest)
  either_complete front rest value (inl l) stop = rw (starts_front s front rest not_nullable (first.begins front value l)) (first.complete front rest value l (BeginsOutside-left s.more t.more rest stop))
  either_complete front rest value (inr m) stop = rw (starts_not s.first t front rest not_nullable' apart_ (second.begins front value m)) (second.complete front rest value m (BeginsOutside-right s.more t.more rest stop))

  either_begins : (text : List Lexeme) (value : A) → (L ∪ M) text value → BeginsIn (either_shape s t) text
  either_begins [] value (inl l) = absurd (let k : s.nullable ≡ true = first.begins [] value l in cc)
  either_begins [] value (inr m) = absurd (let k : t.nullable ≡ true = second.begins [] value m in cc)
  either_begins (x ∷ text) value (inl l) = among_left s.first t.first x.terminal (first.begins (x ∷ text) value l)
  either_begins (x ∷ text) value (inr m) = among_right s.first t.first x.terminal (second.begins (x ∷ text) value m)

  either_looks : (front rest other : List Lexeme) → SameHead rest other → (b : Bool) → (cond b (p (front ++ rest)) (q (front ++ rest))).1 ≡ rest
      → cond b (p (front ++ other)) (q (front ++ other)) ≡ ((cond b (p (front ++ rest)) (q (front ++ rest))).0, other)
  either_looks front rest other same true stop = first.looks front rest other same stop
  either_looks front rest other same false stop = second.looks front rest other same stop

pub reads_either : {A : Type 0} → (L M : Language A) (s t : FirstAndFollow) (p q : Parser A) → Parses L s p → Parses M t q → s.nullable ≡ false → t.nullable ≡ false → apart s.first t.first ≡ true → Parses (L ∪ M) (either_shape s t) (read_either s.first p q)
reads_either L M s t p q first second not_nullable not_nullable' apart_ = record {
  some = left_viable L M s t p q first second not_nullable not_nullable' apart_ [] first.some;
  begins = either_begins L M s t p q first second not_nullable not_nullable' apart_;
  splits = λ text. either_splits L M s t p q first second not_nullable not_nullable' apart_ text (starts s.first text);
  complete = either_complete L M s t p q first second not_nullable not_nullable' apart_;
  looks = λ front rest other same stop. rw (sym (starts_same s.first front rest other same)) (either_looks L M s t p q first second not_nullable not_nullable' apart_ front rest other same (starts s.first (front ++ rest)) stop);
}

-- ---- `read_maybe`: a text, or no token

abbrev pub maybe_shape : FirstAndFollow → FirstAndFollow
maybe_shape s = record { first = s.first; nullable = true; more = s.first ++ s.more }

module _ {A : Type 0} (L : Language A) (s : FirstAndFollow) (p : Parser A) (reads : Parses L s p) (not_nullable : s.nullable ≡ false) where
  maybe_splits_some : (text : List Lexeme) (o : Option A) (r : List Lexeme) → Splits L text o r → Splits (maybe L) text (next {B = Option A} o r (λ a. give (Some a))).0 (next {B = Option A} o r (λ a. give (Some a))).1
  maybe_splits_some text None r split = record { front = split.front; whole = split.whole; spelled = record { more = split.spelled.more; value = Some split.spelled.value; spelled = split.spelled.spelled } }
  maybe_splits_some text (Some a) r split = record { front = split.front; whole = split.whole; spelled = split.spelled }

  maybe_splits : (text : List Lexeme) (b : Bool) → Splits (maybe L) text (cond b (p text >>= λ a. give (Some a)) (give None text)).0 (cond b (p text >>= λ a. give (Some a)) (give None text)).1
  maybe_splits text true = maybe_splits_some text (p text).0 (p text).1 (reads.splits text)
  maybe_splits text false = record { front = []; whole = refl; spelled = refl }

  maybe_complete : (front rest : List Lexeme) (value : Option A) → maybe L front value → BeginsOutside (s.first ++ s.more) rest → read_maybe s.first p (front ++ rest) ≡ (Some value, rest)
  maybe_complete front rest None l stop = rw (l, BeginsOutside-starts s.first rest (BeginsOutside-left s.first s.more rest stop)) refl
  maybe_complete front rest (Some a) l stop = rw (starts_front s front rest not_nullable (reads.begins front a l), reads.complete front rest a l (BeginsOutside-right s.first s.more rest stop)) refl

  maybe_begins : (text : List Lexeme) (value : Option A) → maybe L text value → BeginsIn (maybe_shape s) text
  maybe_begins [] value l = refl
  maybe_begins (x ∷ text) None l = absurd cc
  maybe_begins (x ∷ text) (Some a) l = reads.begins (x ∷ text) a l

  maybe_looks_some : (front rest other : List Lexeme) → SameHead rest other → (o : Option A) (r : List Lexeme) → p (front ++ rest) ≡ (o, r) → (next {B = Option A} o r (λ a. give (Some a))).1 ≡ rest
      → (p (front ++ other) >>= λ a. give (Some a)) ≡ ((next {B = Option A} o r (λ a. give (Some a))).0, other)
  maybe_looks_some front rest other same None r e stop = rw (reads.looks front rest other same (ap (λ x. x.1) e ∙ stop), e) refl
  maybe_looks_some front rest other same (Some a) r e stop = rw (reads.looks front rest other same (ap (λ x. x.1) e ∙ stop), e) refl

  maybe_looks : (front rest other : List Lexeme) → SameHead rest other → (b : Bool) → (cond b (p (front ++ rest) >>= λ a. give (Some a)) (give None (front ++ rest))).1 ≡ rest
      → cond b (p (front ++ other) >>= λ a. give (Some a)) (give None (front ++ other)) ≡ ((cond b (p (front ++ rest) >>= λ a. give (Some a)) (give None (front ++ rest))).0, other)
  maybe_looks front rest other same true stop = maybe_looks_some front rest other same (p (front ++ rest)).0 (p (front ++ rest)).1 refl stop
  maybe_looks front rest other same false stop = let k : front ≡ [] = self_append front rest stop in rw k refl

pub reads_maybe : {A : Type 0} → (L : Language A) (s : FirstAndFollow) (p : Parser A) → Parses L s p → s.nullable ≡ false → Parses (maybe L) (maybe_shape s) (read_maybe s.first p)
reads_maybe L s p reads not_nullable = record {
  some = record { more = []; value = None; spelled = refl };
  begins = maybe_begins L s p reads not_nullable;
  splits = λ text. maybe_splits L s p reads not_nullable text (starts s.first text);
  complete = maybe_complete L s p reads not_nullable;
  looks = λ front rest other same stop. rw (sym (starts_same s.first front rest other same)) (maybe_looks L s p reads not_nullable front rest other same (starts s.first (front ++ rest)) stop);
}
