-- In the loop over the sections, each step lets the table's section grow, or leaves another section unchanged.
use Rattle.std.proofs.Common.{◌≡◌, ◌≢◌, ℕ, ◌+◌, ◌<◌, ◌==◌, Bool, true, false, cond, List, ◌++◌, drop, length, map, set, take, Some, slice_get, ap, sym, ◌∙◌}
use Rattle.std.specs.List.{All}
use Rattle.std.proofs.lemmas.Bool.{eq-eqb, ne_eqb}
use Rattle.csv_tables.specs.declared.types.Cells.{Cells}
use Rattle.stats_file.specs.declared.types.TableStats.{TableStats}
use Rattle.appended_stats.specs.Cells.{section_after_by_cells, section_by_cells}
use Rattle.appended_stats.specs.Conditions.{MayGrowWhere, SectionMayGrow}
use Rattle.appended_stats.proofs.Walks.{one_changed, one_kept, read_all, read_twice}

module _ (texts : List (List ℕ)) (cells : Cells) (accuracy table : ℕ) (sections ys : List TableStats) (i : ℕ) (section_exists : i < length sections) where
  abbrev pub one : TableStats → TableStats
  one section = section_after_by_cells texts cells accuracy table section

  abbrev pub AreHandledUpTo : ℕ → List TableStats → Type 0
  AreHandledUpTo n changed = changed ≡ map one (take n sections) ++ drop n sections

  pub may_grow : (read taken : TableStats) → All (MayGrowWhere table cells) sections → AreHandledUpTo i ys → slice_get ys i ≡ Some read → read.table ≡ table → slice_get ys i ≡ Some taken
      → SectionMayGrow cells taken
  may_grow read taken may are at its out =
      read_all (MayGrowWhere table cells) one sections ys i taken may section_exists are out (ap (λ (s : TableStats). s.table) (read_twice ys i taken read out at) ∙ its)

  pub one_grown : (between new : List TableStats) (read taken none grown : TableStats) → AreHandledUpTo i ys → slice_get ys i ≡ Some read → read.table ≡ table → slice_get ys i ≡ Some taken
      → between ≡ set ys i none → grown ≡ section_by_cells texts cells accuracy taken → new ≡ set between i grown → AreHandledUpTo (i + 1) new
  one_grown between new read taken none grown are at its out put made back =
      let same : taken.table ≡ table = ap (λ (s : TableStats). s.table) (read_twice ys i taken read out at) ∙ its in
      let e : (taken.table == table) ≡ true = eq-eqb taken.table table same in
      one_changed one sections ys between new i taken none grown section_exists are out put
      (made ∙ ap (λ (b : Bool). cond b (section_by_cells texts cells accuracy taken) taken) (sym e)) back

  pub other_kept : (new : List TableStats) (read : TableStats) → AreHandledUpTo i ys → slice_get ys i ≡ Some read → read.table ≢ table → new ≡ ys → AreHandledUpTo (i + 1) new
  other_kept new read are at other same =
      let e : (read.table == table) ≡ false = ne_eqb read.table table other in
      one_kept one sections ys new i read section_exists are at (ap (λ (b : Bool). cond b (section_by_cells texts cells accuracy read) read) e) same
