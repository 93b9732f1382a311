-- Laws of comparisons of two values, and of the ends of ranges.
use Rattle.std.proofs.Common.{◌≡◌, Bool, true, false, List, [], ◌∷◌, Option, None, Some, refl, ap, sym, ◌∙◌, cond}
use Rattle.std.specs.List.{AllByRecursion}
use Rattle.std.specs.Ordering.{is_lt, is_le, is_gt, is_ge, ordering_reverse}
use Rattle.std.specs.declared.cmp.Ordering.{Ordering}
use Rattle.std.specs.declared.cmp.Ordering.TheVariants.{Less, Equal, Greater}
use Rattle.std.proofs.lemmas.Cmp.{int_cmp_total, nat_list_cmp_total}
use Rattle.std.specs.Str.{chars}
use Rattle.csv_tables.specs.Values.{Value, Int, Text, value_cmp}
use Rattle.query_grammar.specs.declared.tree.Op.{Op}
use Rattle.query_grammar.specs.declared.tree.Op.TheVariants as op
use Rattle.sql_meaning.specs.Conditions.{compares}
use Rattle.filtered_lists.specs.Comparisons.{negated_operator, mirrored}
use Rattle.filtered_lists.specs.Ranges.{greater_of, lesser_of, greatest_value, least_value}
use Rattle.filtered_lists.specs.Standing.{is_from, is_up_to}

-- ---- opposite and mirrored comparisons

pub value_cmp-reverse : (a b : Value) → value_cmp a b ≡ ordering_reverse (value_cmp b a)
value_cmp-reverse (Int a) (Int b) = int_cmp_total.antisymm a b
value_cmp-reverse (Text a) (Text b) = nat_list_cmp_total.antisymm (chars a) (chars b)
value_cmp-reverse (Int a) (Text b) = refl
value_cmp-reverse (Text a) (Int b) = refl

pub negated_compares : (o : Op) (order : Ordering) → compares o order ≡ false → compares (negated_operator o) order ≡ true
negated_compares op.Eq Less h = refl
negated_compares op.Eq Equal h = cc
negated_compares op.Eq Greater h = refl
negated_compares op.Ne Less h = cc
negated_compares op.Ne Equal h = refl
negated_compares op.Ne Greater h = cc
negated_compares op.Lt Less h = cc
negated_compares op.Lt Equal h = refl
negated_compares op.Lt Greater h = refl
negated_compares op.Le Less h = cc
negated_compares op.Le Equal h = cc
negated_compares op.Le Greater h = refl
negated_compares op.Gt Less h = refl
negated_compares op.Gt Equal h = refl
negated_compares op.Gt Greater h = cc
negated_compares op.Ge Less h = refl
negated_compares op.Ge Equal h = cc
negated_compares op.Ge Greater h = cc

reversed_compares : (o : Op) (order : Ordering) → compares (mirrored o) order ≡ compares o (ordering_reverse order)
reversed_compares op.Eq Less = refl
reversed_compares op.Eq Equal = refl
reversed_compares op.Eq Greater = refl
reversed_compares op.Ne Less = refl
reversed_compares op.Ne Equal = refl
reversed_compares op.Ne Greater = refl
reversed_compares op.Lt Less = refl
reversed_compares op.Lt Equal = refl
reversed_compares op.Lt Greater = refl
reversed_compares op.Le Less = refl
reversed_compares op.Le Equal = refl
reversed_compares op.Le Greater = refl
reversed_compares op.Gt Less = refl
reversed_compares op.Gt Equal = refl
reversed_compares op.Gt Greater = refl
reversed_compares op.Ge Less = refl
reversed_compares op.Ge Equal = refl
reversed_compares op.Ge Greater = refl

pub mirrored_compares : (o : Op) (a b : Value) → compares (mirrored o) (value_cmp b a) ≡ compares o (value_cmp a b)
mirrored_compares o a b = reversed_compares o (value_cmp b a) ∙ ap (compares o) (sym (value_cmp-reverse a b))

-- ---- the greatest low end and the least high end of ranges

from_greater_of : (value low : Value) (other : Option Value) → is_from (Some low) value ≡ true → is_from other value ≡ true → is_from (Some (greater_of low other)) value ≡ true
from_greater_of value low None h k = h
from_greater_of value low (Some other) h k = either_end (is_lt (value_cmp low other))
  where
    either_end : (b : Bool) → is_ge (value_cmp value (cond b other low)) ≡ true
    either_end true = k
    either_end false = h

pub from_greatest : (value : Value) (lows : List Value) → AllByRecursion (λ low. is_from (Some low) value ≡ true) lows → is_from (greatest_value lows) value ≡ true
from_greatest value [] h = refl
from_greatest value (low ∷ lows) h = from_greater_of value low (greatest_value lows) h.0 (from_greatest value lows h.1)

up_to_lesser_of : (value high : Value) (other : Option Value) → is_up_to (Some high) value ≡ true → is_up_to other value ≡ true → is_up_to (Some (lesser_of high other)) value ≡ true
up_to_lesser_of value high None h k = h
up_to_lesser_of value high (Some other) h k = either_end (is_gt (value_cmp high other))
  where
    either_end : (b : Bool) → is_le (value_cmp value (cond b other high)) ≡ true
    either_end true = k
    either_end false = h

pub up_to_least : (value : Value) (highs : List Value) → AllByRecursion (λ high. is_up_to (Some high) value ≡ true) highs → is_up_to (least_value highs) value ≡ true
up_to_least value [] h = refl
up_to_least value (high ∷ highs) h = up_to_lesser_of value high (least_value highs) h.0 (up_to_least value highs h.1)
