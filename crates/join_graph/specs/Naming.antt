-- Whether a list of entries has no entry, just one entry, or several entries.
use Rattle.std.specs.Prelude.{ℕ, Bool, true, false, ◌==◌, if◌then◌else◌, List, [], ◌∷◌, Option, Some, None}
use Rattle.berge_tree.specs.declared.edges.Edge.{Edge}
use Rattle.query_types.specs.declared.types.Cond.{Cond}
use Rattle.join_graph.specs.declared.naming.EntriesNamed.{EntriesNamed}
use Rattle.join_graph.specs.declared.naming.EntriesNamed.TheVariants as named
use Rattle.join_graph.specs.declared.splitting.Part.{Part}
use Rattle.join_graph.specs.declared.splitting.Part.TheVariants as part
use Rattle.join_graph.specs.Conjuncts.{equality_of}
use Rattle.query_types.specs.Named.{entries_named}

-- the entries that two lists name together
abbrev pub together : EntriesNamed → EntriesNamed → EntriesNamed
together named.NoEntry right = right
together (named.OneEntry a) named.NoEntry = named.OneEntry a
together (named.OneEntry a) (named.OneEntry b) = if a == b then named.OneEntry a else named.Several
together (named.OneEntry a) named.Several = named.Several
together named.Several right = named.Several

abbrev pub named_of : List ℕ → EntriesNamed
named_of [] = named.NoEntry
named_of (entry ∷ entries) = together (named.OneEntry entry) (named_of entries)

abbrev pub part_from : Option Edge → EntriesNamed → Part
part_from (Some edge) names = part.Equality edge
part_from None named.NoEntry = part.Residual
part_from None (named.OneEntry entry) = part.Local entry
part_from None named.Several = part.Residual

-- the part of a conjunct
abbrev pub part_of : Cond → Part
part_of cond = part_from (equality_of cond) (named_of (entries_named cond))

-- whether both are the own conjuncts of the same entry, or both are the residual part
abbrev pub is_same_part : Part → Part → Bool
is_same_part (part.Local a) (part.Local b) = b == a
is_same_part part.Residual part.Residual = true
is_same_part a b = false

abbrev pub edge_in : Part → Option Edge
edge_in (part.Local entry) = None
edge_in (part.Equality edge) = Some edge
edge_in part.Residual = None
