-- The fields of a record are written one after another, with a comma before each but the first.
use Rattle.std.proofs.Common.{◌≡◌, ℕ, ◌≤◌, ◌-◌, List, [], ◌∷◌, ◌++◌, take, drop, length, map, get_or, ap, sym, ◌∙◌, append-nil, arith}
use Rattle.std.specs.List.{flat_map, join_with_byte}
use Rattle.std.proofs.lemmas.Grind.{common_steps}
use Rattle.std.proofs.lemmas.List.Concat.{flat_map-cons}
use Rattle.row_printer.specs.Fields.{field_text}
use Rattle.sql_meaning.specs.Tables.{Tables}
use Rattle.query_types.specs.declared.types.Out.{Out}
use Rattle.printed_texts.specs.Lines.{field_at, fields_at, next_field}
use Rattle.printed_texts.specs.declared.rows.RowsRecord.{RowsRecord}

to_the_end : {X : Type 0} (a : ℕ) (xs : List X) → take (length xs - a) (drop a xs) ≡ drop a xs
to_the_end a xs = grind (arith, common_steps)

abbrev behind_comma : (Out → List ℕ) → Out → List ℕ
behind_comma field out = 44 ∷ field_text (field out)

tails : (field : Out → List ℕ) (b : Out) (rest : List Out)
    → 44 ∷ join_with_byte 44 (map field_text (map field (b ∷ rest))) ≡ flat_map (behind_comma field) (b ∷ rest)
tails field b [] = sym (flat_map-cons (behind_comma field) b [] ∙ append-nil (44 ∷ field_text (field b)))
tails field b (c ∷ rest) = ap (λ x. (44 ∷ field_text (field b)) ++ x) (tails field c rest) ∙ sym (flat_map-cons (behind_comma field) b (c ∷ rest))

pub several : (outs : List Out) (x : Out) (tables : Tables) (l : RowsRecord) → 2 ≤ length outs → x ≡ get_or outs 0 x
    → field_text (field_at tables l x) ++ flat_map (next_field tables l) (take (length outs - 1) (drop 1 outs)) ≡ fields_at outs tables l
several [] x tables l many first = absurd (omega arith)
several (a ∷ []) x tables l many first = absurd (omega arith)
several (a ∷ (b ∷ rest)) x tables l many first =
    ap (λ y. field_text (field_at tables l y) ++ flat_map (next_field tables l) (take (length (a ∷ b ∷ rest) - 1) (drop 1 (a ∷ b ∷ rest)))) first
    ∙ ap (λ ys. field_text (field_at tables l a) ++ flat_map (next_field tables l) ys) (to_the_end 1 (a ∷ b ∷ rest))
    ∙ ap (λ x. field_text (field_at tables l a) ++ x) (sym (tails (field_at tables l) b rest))
