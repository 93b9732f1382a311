-- Steps of the loop that reads the tables of a schema. After each table it looks for a semicolon, and for another table after the semicolon.
use Rattle.std.proofs.Common.{◌≡◌, ◌<◌, Bool, true, false, List, [], ◌∷◌, ◌++◌, length, Some, None, Err, refl, sym, ap, ◌∙◌, arith}
use Rattle.std.proofs.lemmas.List.{append-nil}
use Rattle.ll_grammars.specs.declared.lexeme.Lexeme.{Lexeme}
use Rattle.ll_grammars.specs.declared.terminal.Terminal.TheVariants as terminal
use Rattle.ll_grammars.specs.declared.stop.Stop.{Stop}
use Rattle.ll_grammars.specs.declared.stop.Stop.TheVariants as stop
use Rattle.ll_grammars.specs.Terminals.{among}
use Rattle.ll_grammars.specs.Reading.{Answer, ◌>>=◌, starts, read_one, read_others, with_front}
use Rattle.ll_grammars.specs.Rules.{IsReadAs}
use Rattle.ll_grammars.proofs.Tails.{tails_more, tails_last, tails_none}
use Rattle.ll_grammars.proofs.Loops.{front_others, shorter}
use Rattle.schema_grammar.specs.declared.tree.TableNode.{TableNode}
use Rattle.schema_grammar.specs.Grammar.{TableDefinition}
use Rattle.schema_grammar.specs.Readers.{Follows, read_table, read_other_tables}
use Rattle.schema_grammar.proofs.Rules.{table_shape, reads_table}

after : (t : Lexeme) (rest : List Lexeme) (b : Bool) → among (terminal.Semicolon ∷ []) t.terminal ≡ true → starts (terminal.Create ∷ []) rest ≡ b → Follows b (t ∷ rest) rest
unfolding read_other_tables
after t rest true e h = (tails_more (terminal.Semicolon ∷ []) TableDefinition table_shape read_table reads_table refl t rest e h, omega arith)
after t rest false e h = tails_last (terminal.Semicolon ∷ []) TableDefinition table_shape read_table reads_table refl t rest e h

pub follows : (old new : List Lexeme) (b : Bool) → starts (terminal.Semicolon ∷ []) old ≡ true → new ≡ (read_one (terminal.Semicolon ∷ []) old).1 → starts (terminal.Create ∷ []) new ≡ b → Follows b old new
follows [] new b h e s = absurd cc
follows (t ∷ rest) new b h e s = let k : new ≡ rest = rw h at e in rw k (after t rest b h (rw (sym k) s))

none_follows : (text : List Lexeme) → starts (terminal.Semicolon ∷ []) text ≡ false → Follows false text text
unfolding read_other_tables
none_follows text h = tails_none (terminal.Semicolon ∷ []) TableDefinition table_shape read_table reads_table refl text h

pub follows_not : (old new : List Lexeme) → starts (terminal.Semicolon ∷ []) old ≡ false → new ≡ (read_one (terminal.Semicolon ∷ []) old).1 → Follows false old new
follows_not [] new h e = rw e (none_follows [] h)
follows_not (t ∷ rest) new h e = let k : new ≡ t ∷ rest = rw h at e in rw k (none_follows (t ∷ rest) h)

pub table_shorter : (text : List Lexeme) (a : TableNode) (rest : List Lexeme) → read_table text ≡ (Some a, rest) → length rest < length text
table_shorter text a rest e = shorter TableDefinition table_shape read_table reads_table refl text a rest e

pub tables_keep : (front longer : List TableNode) (old new : List Lexeme) (a : TableNode) (rest : List Lexeme) (total : Answer (List TableNode)) → Follows true old new → read_table new ≡ (Some a, rest) → longer ≡ front ++ a ∷ []
    → with_front front (read_other_tables old) ≡ total → with_front longer (read_other_tables rest) ≡ total
tables_keep front longer old new a rest total f e pushed so_far =
    let step : read_other_tables old ≡ read_others read_other_tables a rest = f.0 ∙ ap (λ x. x >>= read_others read_other_tables) e in
    rw pushed (sym (front_others front a (read_other_tables rest).0 (read_other_tables rest).1) ∙ ap (with_front front) (sym step) ∙ so_far)

pub tables_stop : (e : Stop) (front : List TableNode) (old new rest : List Lexeme) (total : Answer (List TableNode)) → Follows true old new → IsReadAs {A = TableNode} (Err e) rest (read_table new)
    → with_front front (read_other_tables old) ≡ total → IsReadAs {A = List TableNode} (Err e) rest total
tables_stop stop.NoMemory front old new rest total f g so_far = tt
tables_stop stop.Syntax front old new rest total f g so_far =
    let step : read_other_tables old ≡ (None, rest) = f.0 ∙ ap (λ x. x >>= read_others read_other_tables) g in
    sym so_far ∙ ap (with_front front) step

pub tables_end : (front : List TableNode) (old new : List Lexeme) (total : Answer (List TableNode)) → Follows false old new → with_front front (read_other_tables old) ≡ total → total ≡ (Some front, new)
tables_end front old new total f so_far = sym so_far ∙ ap (with_front front) f ∙ ap (λ x. (Some x, new)) (append-nil front)
