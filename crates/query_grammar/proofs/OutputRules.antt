-- The parsers of outputs read their rules. A name is read before it is known whether it is an alias or the name of a column.
use Rattle.std.proofs.Common.{◌≡◌, Option, Some, None, List, [], ◌++◌, inl, inr, refl, sym, ap, ◌∙◌, append_assoc}
use Rattle.std.proofs.lemmas.List.{append-nil}
use Rattle.ll_grammars.specs.declared.lexeme.Lexeme.{Lexeme}
use Rattle.ll_grammars.specs.declared.terminal.Terminal.TheVariants as terminal
use Rattle.ll_grammars.specs.Language.{Language, Then, ◌▸◌, mapped, ◌∪◌, maybe}
use Rattle.ll_grammars.specs.Parses.{FirstAndFollow, Parses}
use Rattle.ll_grammars.specs.Rules.{first_and_others, second, word, listed}
use Rattle.ll_grammars.proofs.Steps.{then_shape, either_shape}
use Rattle.ll_grammars.proofs.Otherwise.{otherwise_shape, otherwise}
use Rattle.ll_grammars.proofs.Combined.{in_sequence, with_value, choice, repeat, a_word, word_shape, next_shape, listed_shape, reads_same}
use Rattle.query_grammar.specs.declared.tree.ColumnNode.{ColumnNode}
use Rattle.query_grammar.specs.declared.tree.OutNode.{OutNode}
use Rattle.query_grammar.specs.declared.tree.OutNode.TheVariants as out
use Rattle.query_grammar.specs.Values.{column, one_column, everything, these_outs}
use Rattle.query_grammar.specs.Grammar.{Name, NewName, SelectSublist, SelectList}
use Rattle.query_grammar.specs.Readers.{apply_to_beginning, star_of, qualified, plain, read_dotted_out, read_out, read_next_out, read_listed_outs, read_outs}
use Rattle.query_grammar.proofs.OperandRules.{name_shape, new_name_shape, reads_name, reads_new_name}

abbrev AfterDot : Language (Lexeme → OutNode)
AfterDot = mapped star_of (word terminal.Star)
    ∪ mapped qualified (Name ▸ NewName)

abbrev Dotted : Language (Lexeme → OutNode)
Dotted = mapped second (word terminal.Dot ▸ AfterDot)

abbrev AfterName : Language (Lexeme → OutNode)
AfterName = Dotted ∪ mapped plain NewName

abbrev Factored : Language OutNode
Factored = mapped apply_to_beginning (Name ▸ AfterName)

to_outs : (text : List Lexeme) (v : OutNode) → Factored text v → SelectSublist text v
to_outs text v l = at l.2.second where
  behind_dot : (parts : Lexeme × (Lexeme → OutNode)) → parts.1 ≡ l.0.1 → (t : Then (word terminal.Dot) AfterDot l.2.rest parts) → AfterDot t.rest parts.1 → SelectSublist text v
  behind_dot parts e t (inl s) = inl (
    (l.0.0, (parts.0, s.0)),
    ap (λ (f : Lexeme → OutNode). f l.0.0) (s.1 ∙ e) ∙ l.1,
    record { front = l.2.front; rest = l.2.rest; whole = l.2.whole; first = l.2.first; second = record { front = t.front; rest = t.rest; whole = t.whole; first = t.first; second = s.2 } },
  )
  behind_dot parts e t (inr m) = let u = m.2 in inr (
    (record { table = Some l.0.0; column = m.0.0 }, m.0.1),
    ap (λ (f : Lexeme → OutNode). f l.0.0) (m.1 ∙ e) ∙ l.1,
    record {
      front = l.2.front ++ (t.front ++ u.front);
      rest = u.rest;
      whole = l.2.whole ∙ ap (λ x. l.2.front ++ x) (t.whole ∙ ap (λ x. t.front ++ x) u.whole ∙ sym (append_assoc t.front u.front u.rest)) ∙ sym (append_assoc l.2.front (t.front ++ u.front) u.rest);
      first = (
        (l.0.0, Some m.0.0),
        refl,
        record { front = l.2.front; rest = t.front ++ u.front; whole = refl; first = l.2.first; second = ((parts.0, m.0.0), refl, record { front = t.front; rest = u.front; whole = refl; first = t.first; second = u.first }) },
      );
      second = u.second;
    },
  )

  at : AfterName l.2.rest l.0.1 → SelectSublist text v
  at (inl m) = behind_dot m.0 m.1 m.2 m.2.second
  at (inr m) = inr (
    (record { table = None; column = l.0.0 }, m.0),
    ap (λ (f : Lexeme → OutNode). f l.0.0) m.1 ∙ l.1,
    record {
      front = l.2.front;
      rest = l.2.rest;
      whole = l.2.whole;
      first = ((l.0.0, None), refl, record { front = l.2.front; rest = []; whole = sym (append-nil l.2.front); first = l.2.first; second = refl });
      second = m.2;
    },
  )

from_column : (text front rest : List Lexeme) (c : ColumnNode) (new : Option Lexeme) (v : OutNode) → one_column (c, new) ≡ v → text ≡ front ++ rest → NewName rest new
    → (name : Lexeme) (other : Option Lexeme) → column (name, other) ≡ c → Then Name (maybe (mapped second (word terminal.Dot ▸ Name))) front (name, other) → Factored text v
from_column text front rest c new v e whole l name None made_ t = (
  (name, plain new),
  ap (λ x. one_column (x, new)) made_ ∙ e,
  record {
    front = t.front;
    rest = rest;
    whole = whole ∙ ap (λ x. x ++ rest) (t.whole ∙ ap (λ x. t.front ++ x) t.second ∙ append-nil t.front);
    first = t.first;
    second = inr (new, refl, l);
  },
)
from_column text front rest c new v e whole l name (Some other) made_ t =
    let d = t.second in
    let u = d.2 in
    let parts : Lexeme × Option Lexeme = (d.0.1, new) in (
      (name, qualified parts),
      ap (λ x. out.Column (record { table = Some name; column = x }) new) d.1 ∙ ap (λ x. one_column (x, new)) made_ ∙ e,
      record {
        front = t.front;
        rest = t.rest ++ rest;
        whole = whole ∙ ap (λ x. x ++ rest) t.whole ∙ append_assoc t.front t.rest rest;
        first = t.first;
        second = inl (
          (d.0.0, qualified parts),
          refl,
          record {
            front = u.front;
            rest = u.rest ++ rest;
            whole = ap (λ x. x ++ rest) u.whole ∙ append_assoc u.front u.rest rest;
            first = u.first;
            second = inr (parts, refl, record { front = u.rest; rest = rest; whole = refl; first = u.second; second = l });
          },
        );
      },
    )

from_outs : (text : List Lexeme) (v : OutNode) → SelectSublist text v → Factored text v
from_outs text v (inl l) =
    let t = l.2.second in (
      (l.0.0, star_of l.0.1.1),
      l.1,
      record {
        front = l.2.front;
        rest = l.2.rest;
        whole = l.2.whole;
        first = l.2.first;
        second = inl ((l.0.1.0, star_of l.0.1.1), refl, record { front = t.front; rest = t.rest; whole = t.whole; first = t.first; second = inl (l.0.1.1, refl, t.second) });
      },
    )
from_outs text v (inr l) = let c = l.2.first in from_column text l.2.front l.2.rest l.0.0 l.0.1 v l.1 l.2.whole l.2.second c.0.0 c.0.1 c.1 c.2

abbrev pub dotted_out_shape : FirstAndFollow
dotted_out_shape = then_shape (word_shape terminal.Dot) (either_shape (word_shape terminal.Star) (then_shape name_shape new_name_shape))

pub reads_dotted_out : Parses Dotted dotted_out_shape read_dotted_out
unfolding read_dotted_out
reads_dotted_out = with_value second (in_sequence (a_word terminal.Dot refl) (choice (with_value star_of (a_word terminal.Star refl)) (with_value qualified (in_sequence reads_name reads_new_name refl)) refl refl refl) refl)

abbrev pub out_shape : FirstAndFollow
out_shape = then_shape name_shape (otherwise_shape dotted_out_shape new_name_shape)

pub reads_out : Parses SelectSublist out_shape read_out
unfolding read_out
reads_out = reads_same to_outs from_outs (with_value apply_to_beginning (in_sequence reads_name (otherwise reads_dotted_out (with_value plain reads_new_name) refl refl) refl))

pub reads_next_out : Parses (mapped second (word terminal.Comma ▸ SelectSublist)) (next_shape terminal.Comma out_shape) read_next_out
unfolding read_next_out
reads_next_out = with_value second (in_sequence (a_word terminal.Comma refl) reads_out refl)

pub reads_listed_outs : Parses (listed terminal.Comma SelectSublist) (listed_shape terminal.Comma out_shape) read_listed_outs
unfolding read_listed_outs
reads_listed_outs = with_value first_and_others (in_sequence reads_out (repeat reads_next_out refl refl) refl)

abbrev pub outs_shape : FirstAndFollow
outs_shape = either_shape (word_shape terminal.Star) (listed_shape terminal.Comma out_shape)

pub reads_outs : Parses SelectList outs_shape read_outs
unfolding read_outs
reads_outs = choice (with_value everything (a_word terminal.Star refl)) (with_value these_outs reads_listed_outs) refl refl refl
