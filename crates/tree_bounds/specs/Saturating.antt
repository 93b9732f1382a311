-- Lists whose elements are saturated, that is, capped at 2^128 - 1.
use Rattle.std.specs.Prelude.{map}
use Rattle.degree_sequences.specs.Composition.{ChildLists}
use Rattle.degree_sequences.specs.Saturation.{saturated}

-- a child whose class list is saturated
abbrev pub saturated_class : ChildLists → ChildLists
saturated_class child = record { column = child.column; class = map saturated child.class }
