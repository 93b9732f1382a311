-- In a text of the grammar, the kind of a line limits the kinds of the next line.
use Rattle.std.proofs.Common.{◌≡◌, ◌⊎◌, inl, inr, ℕ, List, [], ◌∷◌, ◌++◌, ◌==◌, if◌then◌else◌, refl, ap, sym, subst, ◌∙◌, append_assoc, Option, Some, None}
use Rattle.std.specs.Prelude.{codes}
use Rattle.std.specs.List.{AllByRecursion, flat_map}
use Rattle.stats_file.specs.Grammar.{ArePairLines, AreTableLines, IsCutLine, IsFirstLine, IsFrequentLine, IsNodeLine, IsPairLine, IsRestLine, IsTableLine, IsWholeLine}
use Rattle.stats_reading.specs.declared.line.LineKind.{LineKind}
use Rattle.stats_reading.specs.declared.line.LineKind.TheVariants as kind
use Rattle.stats_reading.specs.declared.stages.Stage.{Stage}
use Rattle.stats_reading.specs.declared.stages.Stage.TheVariants as stage
use Rattle.stats_reading.specs.Kinds.{IsOfLineKind}
use Rattle.stats_reading.specs.Stages.{next_stage, CutsRemaining, FrequentRemaining, Many, MayEnd, NodesRemaining, One, PairsRemaining, TablesRemaining, TextRemaining, TextLeftAt}
use Rattle.stats_reading.proofs.Tags.{same_tag, tag}

-- ---- the kind of a line by its first byte

abbrev pub tag_of : LineKind → ℕ
tag_of kind.First = 115
tag_of kind.Table = 116
tag_of kind.Pair = 112
tag_of kind.Whole = 119
tag_of kind.Frequent = 102
tag_of kind.Rest = 114
tag_of kind.Cut = 99
tag_of kind.Node = 110
tag_of kind.End = 101

abbrev with_tag : ℕ → Option LineKind
with_tag n =
    if n == 115 then Some kind.First else (if n == 116 then Some kind.Table else (if n == 112 then Some kind.Pair else (if n == 119 then Some kind.Whole else
    (if n == 102 then Some kind.Frequent else (if n == 114 then Some kind.Rest else (if n == 99 then Some kind.Cut else (if n == 110 then Some kind.Node else
    (if n == 101 then Some kind.End else None))))))))

tag_tells : (k : LineKind) → with_tag (tag_of k) ≡ Some k
tag_tells kind.First = refl
tag_tells kind.Table = refl
tag_tells kind.Pair = refl
tag_tells kind.Whole = refl
tag_tells kind.Frequent = refl
tag_tells kind.Rest = refl
tag_tells kind.Cut = refl
tag_tells kind.Node = refl
tag_tells kind.End = refl

pub kind_by_tag : (a b : LineKind) → tag_of a ≡ tag_of b → a ≡ b
kind_by_tag a b e = let same : Some a ≡ Some b = sym (tag_tells a) ∙ ap with_tag e ∙ tag_tells b in cc

pub tag_of_line : (k : LineKind) (line : List ℕ) → IsOfLineKind k line → tag line ≡ tag_of k
tag_of_line kind.First line is = same_tag line (codes "safebound-stats 1 " ++ (is.word ++ codes "\n")) is.whole
tag_of_line kind.Table line is = same_tag line (codes "table " ++ (is.first ++ (codes " " ++ (is.second ++ codes "\n")))) is.whole
tag_of_line kind.Pair line is = same_tag line (codes "pair " ++ (is.first ++ (codes " " ++ (is.second ++ codes "\n")))) is.whole
tag_of_line kind.Whole line is = same_tag line (codes "whole " ++ (is.word ++ codes "\n")) is.whole
tag_of_line kind.Frequent line is = same_tag line (codes "frequent " ++ (is.first ++ (codes " " ++ (is.second ++ codes "\n")))) is.whole
tag_of_line kind.Rest line is = same_tag line (codes "rest " ++ (is.word ++ codes "\n")) is.whole
tag_of_line kind.Cut line is = same_tag line (codes "cut " ++ (is.word ++ codes "\n")) is.whole
tag_of_line kind.Node line is = same_tag line (codes "node " ++ (is.word ++ codes "\n")) is.whole
tag_of_line kind.End line is = same_tag line (codes "end\n") is

pub same_kind : (a b : LineKind) (line : List ℕ) → IsOfLineKind a line → IsOfLineKind b line → a ≡ b
same_kind a b line is other = kind_by_tag a b (sym (tag_of_line a line is) ∙ tag_of_line b line other)

-- ---- the first of the remaining lines

many_first : {IsKind : List ℕ → Type 0} {Next : List (List ℕ) → Type 0} (line : List ℕ) (more : List (List ℕ)) → Many IsKind Next (line ∷ more)
    → (IsKind line × Many IsKind Next more) ⊎ Next (line ∷ more)
many_first {IsKind} {Next} line more h = by h.front h.front_are h.all
  where
    by : (front : List (List ℕ)) → AllByRecursion IsKind front → line ∷ more ≡ front ++ h.others → (IsKind line × Many IsKind Next more) ⊎ Next (line ∷ more)
    by [] are e = inr (subst Next (sym e) h.next)
    by (l ∷ ls) are e =
        let same : line ≡ l = cc in
        inl (subst IsKind (sym same) are.0, record { front = ls; others = h.others; front_are = are.1; next = h.next; all = cc })

many_put : {IsKind : List ℕ → Type 0} {Next : List (List ℕ) → Type 0} (line : List ℕ) (more : List (List ℕ)) → IsKind line → Many IsKind Next more → Many IsKind Next (line ∷ more)
many_put line more is h = record { front = line ∷ h.front; others = h.others; front_are = (is, h.front_are); next = h.next; all = ap (λ (ls : List (List ℕ)). line ∷ ls) h.all }

many_none : {IsKind : List ℕ → Type 0} {Next : List (List ℕ) → Type 0} (lines : List (List ℕ)) → Next lines → Many IsKind Next lines
many_none lines h = record { front = []; others = lines; front_are = tt; next = h; all = refl }

one_first : {IsKind : List ℕ → Type 0} {Next : List (List ℕ) → Type 0} (line : List ℕ) (more : List (List ℕ)) → One IsKind Next (line ∷ more) → IsKind line × Next more
one_first {IsKind} {Next} line more h =
    let same : line ≡ h.line = cc in
    let rest : more ≡ h.others = cc in
    (subst IsKind (sym same) h.line_is, subst Next (sym rest) h.next)

one_put : {IsKind : List ℕ → Type 0} {Next : List (List ℕ) → Type 0} (line : List ℕ) (more : List (List ℕ)) → IsKind line → Next more → One IsKind Next (line ∷ more)
one_put line more is h = record { line = line; others = more; line_is = is; next = h; all = refl }

abbrev concatenated : List (List (List ℕ)) → List (List ℕ)
concatenated parts = flat_map (λ part. part) parts

tables_first : (line : List ℕ) (more : List (List ℕ)) → TablesRemaining (line ∷ more) → (IsTableLine line × PairsRemaining more) ⊎ MayEnd (line ∷ more)
tables_first line more h = by h.parts h.parts_are h.all
  where
    by : (parts : List (List (List ℕ))) → AllByRecursion AreTableLines parts → line ∷ more ≡ concatenated parts ++ h.others → (IsTableLine line × PairsRemaining more) ⊎ MayEnd (line ∷ more)
    by [] are e = inr (e ∙ h.next)
    by (part ∷ parts) (is, are) e =
        let f = e ∙ append_assoc part (concatenated parts) h.others ∙ ap (λ (p : List (List ℕ)). p ++ (concatenated parts ++ h.others)) is.all in
        let same : line ≡ is.head = cc in
        inl (
          subst IsTableLine (sym same) is.head_is,
          record {
            parts = is.pairs;
            others = concatenated parts ++ h.others;
            parts_are = is.pairs_are;
            next = record { parts = parts; others = h.others; parts_are = are; next = h.next; all = refl };
            all = cc;
          },
        )

tables_put : (line : List ℕ) (more : List (List ℕ)) → IsTableLine line → PairsRemaining more → TablesRemaining (line ∷ more)
tables_put line more is h =
    let t = h.next in
    let part = line ∷ concatenated h.parts in
    record {
      parts = part ∷ t.parts;
      others = t.others;
      parts_are = (record { head = line; pairs = h.parts; head_is = is; pairs_are = h.parts_are; all = refl }, t.parts_are);
      next = t.next;
      all = ap (λ (ls : List (List ℕ)). line ∷ ls) (h.all ∙ ap (λ (ls : List (List ℕ)). concatenated h.parts ++ ls) t.all) ∙ sym (append_assoc part (concatenated t.parts) t.others);
    }

pairs_first : (line : List ℕ) (more : List (List ℕ)) → PairsRemaining (line ∷ more) → (IsPairLine line × One IsWholeLine FrequentRemaining more) ⊎ TablesRemaining (line ∷ more)
pairs_first line more h = by h.parts h.parts_are h.all
  where
    by : (parts : List (List (List ℕ))) → AllByRecursion ArePairLines parts → line ∷ more ≡ concatenated parts ++ h.others
        → (IsPairLine line × One IsWholeLine FrequentRemaining more) ⊎ TablesRemaining (line ∷ more)
    by [] are e = inr (subst TablesRemaining (sym e) h.next)
    by (part ∷ parts) (is, are) e =
        let after = concatenated parts ++ h.others in
        let f = e ∙ append_assoc part (concatenated parts) h.others ∙ ap (λ (p : List (List ℕ)). p ++ after) is.all in
        let same : line ≡ is.head = cc in
        let tree = is.cuts ++ is.nodes in
        let split : (is.frequent ++ (is.rest ∷ tree)) ++ after ≡ is.frequent ++ (is.rest ∷ (is.cuts ++ (is.nodes ++ after))) =
        append_assoc is.frequent (is.rest ∷ tree) after ∙ ap (λ (ls : List (List ℕ)). is.frequent ++ (is.rest ∷ ls)) (append_assoc is.cuts is.nodes after) in
        let behind : more ≡ is.whole ∷ (is.frequent ++ (is.rest ∷ (is.cuts ++ (is.nodes ++ after)))) = cc in
        inl (
          subst IsPairLine (sym same) is.head_is,
          record {
            line = is.whole;
            others = is.frequent ++ (is.rest ∷ (is.cuts ++ (is.nodes ++ after)));
            line_is = is.whole_is;
            next = record {
              front = is.frequent;
              others = is.rest ∷ (is.cuts ++ (is.nodes ++ after));
              front_are = is.frequent_are;
              next = record {
                line = is.rest;
                others = is.cuts ++ (is.nodes ++ after);
                line_is = is.rest_is;
                next = record {
                  front = is.cuts;
                  others = is.nodes ++ after;
                  front_are = is.cuts_are;
                  next = record {
                    front = is.nodes;
                    others = after;
                    front_are = is.nodes_are;
                    next = record { parts = parts; others = h.others; parts_are = are; next = h.next; all = refl };
                    all = refl;
                  };
                  all = refl;
                };
                all = refl;
              };
              all = refl;
            };
            all = behind;
          },
        )

pairs_put : (line : List ℕ) (more : List (List ℕ)) → IsPairLine line → One IsWholeLine FrequentRemaining more → PairsRemaining (line ∷ more)
pairs_put line more is h =
    let values = h.next in
    let rest = values.next in
    let cuts = rest.next in
    let nodes = cuts.next in
    let t = nodes.next in
    let part = line ∷ (h.line ∷ (values.front ++ (rest.line ∷ (cuts.front ++ nodes.front)))) in
    let after = concatenated t.parts ++ t.others in
    let joined : (values.front ++ (rest.line ∷ (cuts.front ++ nodes.front))) ++ after ≡ values.front ++ (rest.line ∷ (cuts.front ++ (nodes.front ++ after))) =
    append_assoc values.front (rest.line ∷ (cuts.front ++ nodes.front)) after ∙ ap (λ (ls : List (List ℕ)). values.front ++ (rest.line ∷ ls)) (append_assoc cuts.front nodes.front after) in
    let behind : more ≡ h.line ∷ (values.front ++ (rest.line ∷ (cuts.front ++ (nodes.front ++ after)))) =
    h.all ∙ ap (λ (ls : List (List ℕ)). h.line ∷ ls) (values.all ∙ ap (λ (ls : List (List ℕ)). values.front ++ ls) (rest.all ∙ ap (λ (ls : List (List ℕ)). rest.line ∷ ls)
    (cuts.all ∙ ap (λ (ls : List (List ℕ)). cuts.front ++ ls) (nodes.all ∙ ap (λ (ls : List (List ℕ)). nodes.front ++ ls) t.all)))) in
    record {
      parts = part ∷ t.parts;
      others = t.others;
      parts_are = (
        record {
          head = line;
          whole = h.line;
          frequent = values.front;
          rest = rest.line;
          cuts = cuts.front;
          nodes = nodes.front;
          head_is = is;
          whole_is = h.line_is;
          frequent_are = values.front_are;
          rest_is = rest.line_is;
          cuts_are = cuts.front_are;
          nodes_are = nodes.front_are;
          all = refl;
        },
        t.parts_are,
      );
      next = t.next;
      all = ap (λ (ls : List (List ℕ)). line ∷ ls) (behind ∙ ap (λ (ls : List (List ℕ)). h.line ∷ ls) (sym joined)) ∙ sym (append_assoc part (concatenated t.parts) t.others);
    }

-- ---- one line of a text of the grammar, and the stage after it

abbrev GoesOn : Stage → List ℕ → List (List ℕ) → Type 0
GoesOn at line more = (k : LineKind) × (IsOfLineKind k line × TextLeftAt (next_stage at k) more)

end_of : (line : List ℕ) (more : List (List ℕ)) → MayEnd (line ∷ more) → IsOfLineKind kind.End line × (more ≡ [])
end_of line more e = (cc, cc)

text_opens : (at : Stage) (line : List ℕ) (more : List (List ℕ)) → TextRemaining at (line ∷ more) → GoesOn at line more
text_opens stage.Start line more h =
    let same : line ≡ h.head = cc in
    (kind.First, (subst IsFirstLine (sym same) h.head_is, record { parts = h.tables; others = codes "end\n" ∷ []; parts_are = h.tables_are; next = refl; all = cc }))
text_opens stage.Tables line more h = by (tables_first line more h)
  where
    by : (IsTableLine line × PairsRemaining more) ⊎ MayEnd (line ∷ more) → GoesOn stage.Tables line more
    by (inl (is, rest)) = (kind.Table, (is, rest))
    by (inr e) = (kind.End, end_of line more e)
text_opens stage.Pairs line more h = by (pairs_first line more h)
  where
    by_table : (IsTableLine line × PairsRemaining more) ⊎ MayEnd (line ∷ more) → GoesOn stage.Pairs line more
    by_table (inl (is, rest)) = (kind.Table, (is, rest))
    by_table (inr e) = (kind.End, end_of line more e)

    by : (IsPairLine line × One IsWholeLine FrequentRemaining more) ⊎ TablesRemaining (line ∷ more) → GoesOn stage.Pairs line more
    by (inl (is, rest)) = (kind.Pair, (is, rest))
    by (inr t) = by_table (tables_first line more t)
text_opens stage.Whole line more h = let both = one_first line more h in (kind.Whole, (both.0, both.1))
text_opens stage.Frequent line more h = by (many_first line more h)
  where
    by : (IsFrequentLine line × FrequentRemaining more) ⊎ One IsRestLine CutsRemaining (line ∷ more) → GoesOn stage.Frequent line more
    by (inl (is, rest)) = (kind.Frequent, (is, rest))
    by (inr r) = let both = one_first line more r in (kind.Rest, (both.0, both.1))
text_opens stage.Cuts line more h = by (many_first line more h)
  where
    by_table : (IsTableLine line × PairsRemaining more) ⊎ MayEnd (line ∷ more) → GoesOn stage.Cuts line more
    by_table (inl (is, rest)) = (kind.Table, (is, rest))
    by_table (inr e) = (kind.End, end_of line more e)

    by_pair : (IsPairLine line × One IsWholeLine FrequentRemaining more) ⊎ TablesRemaining (line ∷ more) → GoesOn stage.Cuts line more
    by_pair (inl (is, rest)) = (kind.Pair, (is, rest))
    by_pair (inr t) = by_table (tables_first line more t)

    by_node : (IsNodeLine line × NodesRemaining more) ⊎ PairsRemaining (line ∷ more) → GoesOn stage.Cuts line more
    by_node (inl (is, rest)) = (kind.Node, (is, rest))
    by_node (inr p) = by_pair (pairs_first line more p)

    by : (IsCutLine line × CutsRemaining more) ⊎ NodesRemaining (line ∷ more) → GoesOn stage.Cuts line more
    by (inl (is, rest)) = (kind.Cut, (is, rest))
    by (inr n) = by_node (many_first line more n)
text_opens stage.Nodes line more h = by_node (many_first line more h)
  where
    by_table : (IsTableLine line × PairsRemaining more) ⊎ MayEnd (line ∷ more) → GoesOn stage.Nodes line more
    by_table (inl (is, rest)) = (kind.Table, (is, rest))
    by_table (inr e) = (kind.End, end_of line more e)

    by_pair : (IsPairLine line × One IsWholeLine FrequentRemaining more) ⊎ TablesRemaining (line ∷ more) → GoesOn stage.Nodes line more
    by_pair (inl (is, rest)) = (kind.Pair, (is, rest))
    by_pair (inr t) = by_table (tables_first line more t)

    by_node : (IsNodeLine line × NodesRemaining more) ⊎ PairsRemaining (line ∷ more) → GoesOn stage.Nodes line more
    by_node (inl (is, rest)) = (kind.Node, (is, rest))
    by_node (inr p) = by_pair (pairs_first line more p)
text_opens stage.Done line more h = absurd (cc)

to_tables : (lines : List (List ℕ)) → MayEnd lines → TablesRemaining lines
to_tables lines h = record { parts = []; others = lines; parts_are = tt; next = h; all = refl }

to_pairs : (lines : List (List ℕ)) → TablesRemaining lines → PairsRemaining lines
to_pairs lines h = record { parts = []; others = lines; parts_are = tt; next = h; all = refl }

ends_here : (line : List ℕ) (more : List (List ℕ)) → IsOfLineKind kind.End line → more ≡ [] → MayEnd (line ∷ more)
ends_here line more is none = cc

text_closes : (at : Stage) (k : LineKind) (line : List ℕ) (more : List (List ℕ)) → IsOfLineKind k line → TextLeftAt (next_stage at k) more → TextRemaining at (line ∷ more)
text_closes stage.Start kind.First line more is h = record {
  head = line;
  tables = h.parts;
  head_is = is;
  tables_are = h.parts_are;
  all = ap (λ (ls : List (List ℕ)). line ∷ ls) (h.all ∙ ap (λ (ls : List (List ℕ)). concatenated h.parts ++ ls) h.next);
}
text_closes stage.Tables kind.Table line more is h = tables_put line more is h
text_closes stage.Tables kind.End line more is h = to_tables (line ∷ more) (ends_here line more is h)
text_closes stage.Pairs kind.Pair line more is h = pairs_put line more is h
text_closes stage.Pairs kind.Table line more is h = to_pairs (line ∷ more) (tables_put line more is h)
text_closes stage.Pairs kind.End line more is h = to_pairs (line ∷ more) (to_tables (line ∷ more) (ends_here line more is h))
text_closes stage.Whole kind.Whole line more is h = one_put line more is h
text_closes stage.Frequent kind.Frequent line more is h = many_put line more is h
text_closes stage.Frequent kind.Rest line more is h = many_none (line ∷ more) (one_put line more is h)
text_closes stage.Cuts kind.Cut line more is h = many_put line more is h
text_closes stage.Cuts kind.Node line more is h = many_none (line ∷ more) (many_put line more is h)
text_closes stage.Cuts kind.Pair line more is h = many_none (line ∷ more) (many_none (line ∷ more) (pairs_put line more is h))
text_closes stage.Cuts kind.Table line more is h = many_none (line ∷ more) (many_none (line ∷ more) (to_pairs (line ∷ more) (tables_put line more is h)))
text_closes stage.Cuts kind.End line more is h = many_none (line ∷ more) (many_none (line ∷ more) (to_pairs (line ∷ more) (to_tables (line ∷ more) (ends_here line more is h))))
text_closes stage.Nodes kind.Node line more is h = many_put line more is h
text_closes stage.Nodes kind.Pair line more is h = many_none (line ∷ more) (pairs_put line more is h)
text_closes stage.Nodes kind.Table line more is h = many_none (line ∷ more) (to_pairs (line ∷ more) (tables_put line more is h))
text_closes stage.Nodes kind.End line more is h = many_none (line ∷ more) (to_pairs (line ∷ more) (to_tables (line ∷ more) (ends_here line more is h)))
text_closes _ _ line more is h = absurd h

pub text_step : (at : Stage) (k : LineKind) (line : List ℕ) (more : List (List ℕ)) → IsOfLineKind k line → TextRemaining at (line ∷ more) → TextLeftAt (next_stage at k) more
text_step at k line more is h =
    let on = text_opens at line more h in
    subst (λ (x : LineKind). TextLeftAt (next_stage at x) more) (same_kind on.0 k line on.1.0 is) on.1.1

pub text_back : (at : Stage) (k : LineKind) (line : List ℕ) (more : List (List ℕ)) → IsOfLineKind k line → TextLeftAt (next_stage at k) more → TextRemaining at (line ∷ more)
text_back at k line more is h = text_closes at k line more is h

pub no_text : (at : Stage) (line : List ℕ) (more : List (List ℕ)) → ((k : LineKind) → IsOfLineKind k line → ⊥) → TextRemaining at (line ∷ more) → ⊥
no_text at line more none h = let on = text_opens at line more h in none on.0 on.1.0
