-- Sets of terminals, and the first token of a text.
use Rattle.std.proofs.Common.{◌≡◌, Bool, true, false, cond, ◌||◌, eqb, List, [], ◌∷◌, ◌++◌, refl, sym, subst, ◌∙◌}
use Rattle.std.proofs.lemmas.List.{append_cancel_right}
use Rattle.std.proofs.lemmas.Bool.{eqb-true, or_parts, or_left, or_right}
use Rattle.ll_grammars.specs.declared.lexeme.Lexeme.{Lexeme}
use Rattle.ll_grammars.specs.declared.terminal.Terminal.{Terminal}
use Rattle.ll_grammars.specs.Terminals.{code, among, apart}
use Rattle.ll_grammars.specs.Reading.{starts}
use Rattle.ll_grammars.specs.Parses.{FirstAndFollow, BeginsIn, BeginsOutside, SameHead}
use Rattle.ll_grammars.specs.Parses.SameHead.{nothing, token}

pub same_code : (ds : List Terminal) (c d : Terminal) → code c ≡ code d → among ds c ≡ among ds d
same_code [] c d e = refl
same_code (x ∷ ds) c d e = let ih = same_code ds c d e in cc

pub among-append : (cs ds : List Terminal) (c : Terminal) → among (cs ++ ds) c ≡ (among cs c || among ds c)
among-append [] ds c = refl
among-append (x ∷ cs) ds c = let ih = among-append cs ds c in or_assoc (eqb (code x) (code c)) (among cs c) (among ds c) (among (cs ++ ds) c) ih where
  or_assoc : (a b c d : Bool) → d ≡ (b || c) → (a || d) ≡ ((a || b) || c)
  or_assoc true b c d e = refl
  or_assoc false b c d e = e

pub among_left : (cs ds : List Terminal) (c : Terminal) → among cs c ≡ true → among (cs ++ ds) c ≡ true
among_left cs ds c h = among-append cs ds c ∙ or_left (among cs c) (among ds c) h

pub among_right : (cs ds : List Terminal) (c : Terminal) → among ds c ≡ true → among (cs ++ ds) c ≡ true
among_right cs ds c h = among-append cs ds c ∙ or_right (among cs c) (among ds c) h

apart_step : (b r : Bool) → cond b false r ≡ true → (b ≡ false) × (r ≡ true)
apart_step true r e = absurd cc
apart_step false r e = (refl, e)

pub apart_false : (cs ds : List Terminal) (c : Terminal) → apart cs ds ≡ true → among ds c ≡ true → among cs c ≡ false
apart_false [] ds c h e = refl
apart_false (x ∷ cs) ds c h e =
    let parts = apart_step (among ds x) (apart cs ds) h in
    let ih = apart_false cs ds c parts.1 e in
    here (eqb (code x) (code c)) refl parts.0 ih where
      here : (b : Bool) → eqb (code x) (code c) ≡ b → among ds x ≡ false → among cs c ≡ false → (b || among cs c) ≡ false
      here true q h0 ih = let k : code x ≡ code c = eqb-true (code x) (code c) q in let m = same_code ds x c k in absurd cc
      here false q h0 ih = ih

pub BeginsOutside-left : (cs ds : List Terminal) (text : List Lexeme) → BeginsOutside (cs ++ ds) text → BeginsOutside cs text
BeginsOutside-left cs ds [] h = tt
BeginsOutside-left cs ds (t ∷ ts) h = (or_parts (among cs t.terminal) (among ds t.terminal) (sym (among-append cs ds t.terminal) ∙ h)).0

pub BeginsOutside-right : (cs ds : List Terminal) (text : List Lexeme) → BeginsOutside (cs ++ ds) text → BeginsOutside ds text
BeginsOutside-right cs ds [] h = tt
BeginsOutside-right cs ds (t ∷ ts) h = (or_parts (among cs t.terminal) (among ds t.terminal) (sym (among-append cs ds t.terminal) ∙ h)).1

pub BeginsOutside-starts : (cs : List Terminal) (text : List Lexeme) → BeginsOutside cs text → starts cs text ≡ false
BeginsOutside-starts cs [] h = refl
BeginsOutside-starts cs (t ∷ ts) h = h

pub BeginsOutside-next : (more : List Terminal) (s : FirstAndFollow) (text rest : List Lexeme) → apart more s.first ≡ true → BeginsIn s text → BeginsOutside (cond s.nullable more []) rest → BeginsOutside more (text ++ rest)
BeginsOutside-next more s [] rest h b stop = let k : BeginsOutside (cond true more []) rest = subst (λ (e : Bool). BeginsOutside (cond e more []) rest) b stop in k
BeginsOutside-next more s (t ∷ ts) rest h b stop = apart_false more s.first t.terminal h b

pub starts_same : (cs : List Terminal) (front rest other : List Lexeme) → SameHead rest other → starts cs (front ++ rest) ≡ starts cs (front ++ other)
starts_same cs [] [] [] nothing = refl
starts_same cs [] (t ∷ xs) (u ∷ ys) (token v zs ws) = refl
starts_same cs [] [] (u ∷ ys) h = elim h [ ]
starts_same cs [] (t ∷ xs) [] h = elim h [ ]
starts_same cs (f ∷ fs) rest other h = refl

pub SameHead-append : (front rest other : List Lexeme) → SameHead rest other → SameHead (front ++ rest) (front ++ other)
SameHead-append [] rest other h = h
SameHead-append (f ∷ fs) rest other h = token f (fs ++ rest) (fs ++ other)

pub self_append : (fs rest : List Lexeme) → fs ++ rest ≡ rest → fs ≡ []
self_append fs rest e = append_cancel_right fs [] rest e

pub starts_front : (s : FirstAndFollow) (front rest : List Lexeme) → s.nullable ≡ false → BeginsIn s front → starts s.first (front ++ rest) ≡ true
starts_front s [] rest e b = absurd cc
starts_front s (f ∷ fs) rest e b = b
