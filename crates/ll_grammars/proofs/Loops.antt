-- A loop that reads one item after another gives what `read_many` gives.
use Rattle.std.proofs.Common.{◌≡◌, ◌<◌, true, false, List, [], ◌∷◌, ◌++◌, length, Option, Some, None, Err, refl, sym, ap, ◌∙◌, append_assoc, arith}
use Rattle.std.proofs.lemmas.List.{append-nil, length-append}
use Rattle.ll_grammars.specs.declared.lexeme.Lexeme.{Lexeme}
use Rattle.ll_grammars.specs.declared.stop.Stop.{Stop}
use Rattle.ll_grammars.specs.declared.stop.Stop.TheVariants as stop
use Rattle.ll_grammars.specs.Language.{Language}
use Rattle.ll_grammars.specs.Reading.{Parser, Answer, next, ◌>>=◌, starts, give, read_then, read_mapped, read_others, read_many, with_front}
use Rattle.ll_grammars.specs.Rules.{IsReadAs}
use Rattle.ll_grammars.specs.Rules.{first_and_others}
use Rattle.ll_grammars.specs.Parses.{FirstAndFollow, Splits, Parses}
use Rattle.ll_grammars.proofs.Repeats.{many_step, many_stop, begins_length}

pub front_others : {A : Type 0} → (front : List A) (a : A) (o : Option (List A)) (end : List Lexeme) → with_front front (next o end (λ others. give (a ∷ others))) ≡ with_front (front ++ a ∷ []) (o, end)
front_others front a None end = refl
front_others front a (Some others) end = ap (λ x. (Some x, end)) (sym (append_assoc front (a ∷ []) others))

listed_at : {A : Type 0} → (a : A) (o : Option (List A)) (end : List Lexeme) → with_front (a ∷ []) (o, end) ≡ (next {B = A × List A} o end (λ b. give (a, b)) >>= λ parts. give (first_and_others parts))
listed_at a None end = refl
listed_at a (Some others) end = refl

pub listed_start : {A : Type 0} → (p : Parser A) (m : Parser (List A)) (text : List Lexeme) (a : A) (rest : List Lexeme) → p text ≡ (Some a, rest) → with_front (a ∷ []) (m rest) ≡ read_mapped first_and_others (read_then p m) text
listed_start p m text a rest e = rw e (listed_at a (m rest).0 (m rest).1)

pub many_start : {A : Type 0} → (answer : Answer (List A)) → with_front [] answer ≡ answer
many_start answer = at answer.0 answer.1 where
  at : {A : Type 0} → (o : Option (List A)) (end : List Lexeme) → with_front [] (o, end) ≡ (o, end)
  at None end = refl
  at (Some others) end = refl

module _ {A : Type 0} (L : Language A) (s : FirstAndFollow) (p : Parser A) (reads : Parses L s p) (not_nullable : s.nullable ≡ false) where
  pub shorter : (text : List Lexeme) (a : A) (rest : List Lexeme) → p text ≡ (Some a, rest) → length rest < length text
  shorter text a rest e = at (p text).0 (p text).1 e (reads.splits text) where
    at : (o : Option A) (r : List Lexeme) → ◌≡◌ {A = Answer A} (o, r) (Some a, rest) → Splits L text o r → length rest < length text
    at None r e split = absurd (let k : ◌≡◌ {A = Option A} None (Some a) = ap (λ x. x.0) e in cc)
    at (Some b) r e split =
        let pos : 0 < length split.front = begins_length s split.front not_nullable (reads.begins split.front b split.spelled) in
        let same : r ≡ rest = ap (λ x. x.1) e in
        omega (arith, ap length split.whole, length-append split.front r, ap length same)

  pub loop_more : (front : List A) (text : List Lexeme) (a : A) (rest : List Lexeme) → starts s.first text ≡ true → p text ≡ (Some a, rest)
      → with_front front (read_many s.first p text) ≡ with_front (front ++ a ∷ []) (read_many s.first p rest)
  loop_more front text a rest h e =
      let step : read_many s.first p text ≡ read_others (read_many s.first p) a rest = many_step L s p reads not_nullable text h ∙ ap (λ x. x >>= read_others (read_many s.first p)) e in
      rw step (front_others front a (read_many s.first p rest).0 (read_many s.first p rest).1)

  pub loop_stops : (e : Stop) (front : List A) (text rest : List Lexeme) (total : Answer (List A)) → starts s.first text ≡ true → IsReadAs {A = A} (Err e) rest (p text)
      → with_front front (read_many s.first p text) ≡ total → IsReadAs {A = List A} (Err e) rest total
  loop_stops stop.NoMemory front text rest total h g so_far = tt
  loop_stops stop.Syntax front text rest total h g so_far =
      let step : read_many s.first p text ≡ (None, rest) = many_step L s p reads not_nullable text h ∙ ap (λ x. x >>= read_others (read_many s.first p)) g in
      sym so_far ∙ ap (with_front front) step

  pub loop_ends : (front : List A) (text : List Lexeme) (total : Answer (List A)) → starts s.first text ≡ false → with_front front (read_many s.first p text) ≡ total → total ≡ (Some front, text)
  loop_ends front text total h so_far = sym so_far ∙ ap (with_front front) (many_stop L s p reads not_nullable text h) ∙ ap (λ x. (Some x, text)) (append-nil front)

  pub loop_keeps : (front longer : List A) (text : List Lexeme) (a : A) (rest : List Lexeme) (total : Answer (List A)) → starts s.first text ≡ true → p text ≡ (Some a, rest) → longer ≡ front ++ a ∷ []
      → with_front front (read_many s.first p text) ≡ total → with_front longer (read_many s.first p rest) ≡ total
  loop_keeps front longer text a rest total h e pushed so_far = rw pushed (sym (loop_more front text a rest h e) ∙ so_far)
