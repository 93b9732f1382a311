-- Why a type may contain a `Boxed` of itself: a box holds one value, a pointer and an allocator.
use mathlib.Core.Path.{refl}
use mathlib.Core.Former.{Former, this, const, pair, via}
use base.Stored.{gnil}
use base.Fml.{ftrue}
use denote.RattleType.{RattleType}
use denote.Memory.{part_of}
use denote.RawPtr.{Ptr}
use denote.Sharing.{nothing}
use denote.HoleLaws.{Alike}
use denote.HolePlaces.{Recodes, struct_places, laid, one_value}
use denote.Hole.Fix.{over}
use denote.Param.Weighed.{Weighed}
use denote.Model.Placed.{view_places}
use Rattle.std.specs.declared.boxed.Box.{Box}
use Rattle.std.specs.contracts.boxed.Box as box
use Rattle.std.specs.declared.alloc.Global.{Global}
use Rattle.std.specs.contracts.alloc.Global as heap
use Rattle.std.specs.contracts.impls.GlobalAllocator.TheImpl.{ghosts}
use Rattle.base_io.specs.declared.boxed.Boxed.TheInside.{Inside}
use Rattle.base_io.specs.declared.boxed.Boxed.TheView.{view, invariant}
use Rattle.base_io.specs.contracts.boxed.Boxed as C
use Rattle.base_io.specs.contracts.boxed.Boxed.TheInside as I

-- in contracts it is only the value
abbrev pub the_former : Former {0} → Former {0}
the_former g = g

abbrev pub the_weighed : {g : Former {0}} → Weighed g → Weighed (the_former g)
the_weighed w = w

-- the fields: a pointer with its allocator, and the value
abbrev place : Type 0
place = Ptr × Global

abbrev put : (X : Type 0) → place × X → Inside X
put X parts = record { inner = record { ptr = parts.0.0; alloc = parts.0.1; value = parts.1 } }

abbrev fields : Former {0}
fields = via (pair (const place) this) Inside (λ X a. ((a.inner.ptr, a.inner.alloc), a.inner.value)) put (λ X a. refl) (λ X parts. refl)

abbrev at_same_place : {X Y : Type 0} → Box X Global → Y → Box Y Global
at_same_place b y = record { ptr = b.ptr; alloc = b.alloc; value = y }

abbrev boxes : RattleType → RattleType
boxes R = box.the_row R heap.the_row ghosts

module _ (R S : RattleType) (h : R.Denot → S.Denot) where
  boxes_alike : Alike R S h → Alike (boxes R) (boxes S) (λ b. at_same_place b (h b.value))
  unfolding part_of
  boxes_alike a = record {
    mir_same = λ i. (boxes (one_value R (a.mir_same i) (λ _. ftrue) (λ _ _. nothing) gnil)).mir;
    own_same = λ b i. (boxes (one_value R (a.mir_same i) (a.own_same b.value i) (a.shr_same b.value i) gnil)).own_val (at_same_place b tt);
    shr_same = λ b i. (boxes (one_value R (a.mir_same i) (a.own_same b.value i) (a.shr_same b.value i) gnil)).shr_at (at_same_place b tt);
  }

  pub the_places : Alike R S h → Alike (C.the_row R) (C.the_row S) ((the_former this).map R.Denot S.Denot h)
  the_places a = view_places fields this view (λ X Y k u. refl) (λ X u. refl) R.Denot S.Denot h (C.the_row R).coded (C.the_row S).coded
      (invariant R.Denot) (invariant S.Denot) (λ u p q. refl) (λ u p q. refl) (λ u e. tt) (λ u e. tt)
      (over (I.the_row R)) (over (I.the_row S))
      (struct_places (I.the_type R) (I.the_type S) ((λ b. at_same_place b (h b.value)), tt) _
      (λ d. refl) refl (laid _ _ _ (boxes_alike a), tt))

  pub the_codes_placed : Recodes R S h → Recodes (C.the_row R) (C.the_row S) ((the_former this).map R.Denot S.Denot h)
  the_codes_placed e d = e d
