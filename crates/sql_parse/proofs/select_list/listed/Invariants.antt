use Rattle.std.proofs.Common.{◌≡◌, take, drop}
use Rattle.std.specs.List.{flat_map}
use Rattle.query_names.specs.Binding.{out_offences_of}
use Rattle.sql_parse.specs.Outputs.{outs_by}
use Rattle.sql_parse.proofs.OutFacts.{IsCountedAndBuilt}
use Rattle.sql_parse.proofs.select_list.listed.Given as goal

abbrev pub invariant-all : goal.invariant-all
invariant-all l = record {
  names : flat_map (out_offences_of l.binder l.visible.scope) l.list ≡ flat_map (out_offences_of l.binder l.visible.scope) (drop l.out-index l.list);
  gathered : IsCountedAndBuilt l.binder l.found (flat_map (outs_by l.binder) (take l.out-index l.list));
}
