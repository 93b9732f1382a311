-- Two values that compare as equal compare alike with every third value.
use Rattle.std.proofs.Common.{◌≡◌, Bool, true, refl, ap, sym, ◌∙◌}
use Rattle.std.specs.Ordering.{is_eq, is_ge, is_le, ordering_reverse}
use Rattle.std.specs.Str.{chars}
use Rattle.std.specs.declared.cmp.Ordering.{Ordering}
use Rattle.std.specs.declared.cmp.Ordering.TheVariants.{Less, Equal, Greater}
use Rattle.std.proofs.lemmas.Bool.{false≢true}
use Rattle.std.proofs.lemmas.Cmp.{alike_right, int_cmp_total, nat_list_cmp_total, tied_itself}
use Rattle.csv_tables.specs.Values.{Value, Int, Text, value_cmp}
use Rattle.cond_stats.specs.Columns.{value_le}
use Rattle.filtered_lists.proofs.Ordered.{value_cmp-reverse}

abbrev pub is_equal : Value → Value → Bool
is_equal a b = is_eq (value_cmp a b)

pub equal_order : (o : Ordering) → is_eq o ≡ true → o ≡ Equal
equal_order Less h = absurd (false≢true h)
equal_order Equal h = refl
equal_order Greater h = absurd (false≢true h)

pub equal_itself : (a : Value) → is_equal a a ≡ true
equal_itself (Int a) = ap is_eq (tied_itself int_cmp_total a)
equal_itself (Text a) = ap is_eq (tied_itself nat_list_cmp_total (chars a))

pub alike_on_right : (a b : Value) → is_equal a b ≡ true → (c : Value) → value_cmp c a ≡ value_cmp c b
alike_on_right (Int a) (Int b) h (Int c) = alike_right int_cmp_total a b c (equal_order (value_cmp (Int a) (Int b)) h)
alike_on_right (Int a) (Int b) h (Text c) = refl
alike_on_right (Int a) (Text b) h c = absurd (false≢true h)
alike_on_right (Text a) (Int b) h c = absurd (false≢true h)
alike_on_right (Text a) (Text b) h (Int c) = refl
alike_on_right (Text a) (Text b) h (Text c) =
    alike_right nat_list_cmp_total (chars a) (chars b) (chars c) (equal_order (value_cmp (Text a) (Text b)) h)

pub alike_on_left : (a b : Value) → is_equal a b ≡ true → (c : Value) → value_cmp a c ≡ value_cmp b c
alike_on_left a b h c =
    value_cmp-reverse a c ∙ ap ordering_reverse (alike_on_right a b h c) ∙ sym (value_cmp-reverse b c)

pub equal_symmetric : (a b : Value) → is_equal a b ≡ true → is_equal b a ≡ true
equal_symmetric a b h = ap is_eq (sym (alike_on_left a b h a)) ∙ equal_itself a

pub equal_transitive : (a b c : Value) → is_equal a b ≡ true → is_equal b c ≡ true → is_equal a c ≡ true
equal_transitive a b c h k = ap is_eq (alike_on_left a b h c) ∙ k

pub alike_le : (a b c d : Value) → is_equal a b ≡ true → is_equal c d ≡ true → value_le a c ≡ value_le b d
alike_le a b c d h k = ap is_le (alike_on_left a b h c ∙ alike_on_right c d k b)

ge_le : (o : Ordering) → is_le (ordering_reverse o) ≡ is_ge o
ge_le Less = refl
ge_le Equal = refl
ge_le Greater = refl

pub le_from_ge : (a b : Value) → is_ge (value_cmp a b) ≡ true → value_le b a ≡ true
le_from_ge a b h = ap is_le (value_cmp-reverse b a) ∙ ge_le (value_cmp a b) ∙ h
