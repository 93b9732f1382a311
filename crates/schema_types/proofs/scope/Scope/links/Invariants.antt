use Rattle.std.proofs.Common.{◌≡◌, take}
use Rattle.std.specs.List.{flat_map}
use Rattle.schema_types.specs.Meaning.{element_keys, element_references}
use Rattle.schema_types.proofs.scope.Scope.links.Given as goal

abbrev pub invariant-elements : goal.invariant-elements
invariant-elements l = record {
  keys : l.links.keys ≡ flat_map (element_keys l.self.text.now l.declared) (take l.element-index l.elements);
  references : l.links.references ≡ flat_map (element_references l.self.text.now l.self.tables.now l.declared) (take l.element-index l.elements);
}
