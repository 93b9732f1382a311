-- The look-up of a reference's target by the table's name.
use Rattle.std.proofs.Common.{◌≡◌, ℕ, ◌<◌, length, List, Option, Some, None, map, refl, sym}
use Rattle.std.specs.List.{slice_get}
use Rattle.std.specs.Option.{option_map, option_and_then}
use Rattle.std.proofs.lemmas.Option.{slice_get-map}
use Rattle.std.proofs.lemmas.List.{length-map}
use Rattle.schema_grammar.specs.declared.tree.TableNode.{TableNode}
use Rattle.schema_types.specs.Declarations.{table_names}
use Rattle.schema_types.specs.Names.{index_of_name}
use Rattle.schema_types.proofs.NameIndexes.{place_of_within}

pub no_target : {A B : Type 0} (f : A → B) (xs : List A) (o : Option ℕ) → o ≡ None → None ≡ option_map f (option_and_then (slice_get xs) o)
no_target f xs None e = refl
no_target f xs (Some place) e = cc

pub target_found : {A B : Type 0} (f : A → B) (xs : List A) (ys : List B) (o : Option ℕ) (place : ℕ) (y : B) → ys ≡ map f xs → o ≡ Some place → slice_get ys place ≡ Some y → Some y ≡ option_map f (option_and_then (slice_get xs) o)
target_found f xs ys None place y same e here = cc
target_found f xs ys (Some p) place y same e here =
    let at : p ≡ place = cc in
    rw at (sym (rw (same, slice_get-map f xs place) at here))

pub no_map : {A B : Type 0} (f : A → B) (o : Option A) → option_map f o ≡ None → o ≡ None
no_map f None e = refl
no_map f (Some x) e = cc

pub some_map : {A B : Type 0} (f : A → B) (o : Option A) (y : B) → option_map f o ≡ Some y → (x : A) × (o ≡ Some x) × (y ≡ f x)
some_map f None y e = cc
some_map f (Some x) y e = (x, refl, cc)

pub indexed_within : {B : Type 0} (f : TableNode → B) (text : List ℕ) (tables : List TableNode) (indexes : List B) (name : List ℕ) (place : ℕ) → indexes ≡ map f tables → index_of_name (table_names text tables) name ≡ Some place → place < length indexes
indexed_within f text tables indexes name place indexed here =
    let within : place < length (table_names text tables) = place_of_within (table_names text tables) name place here in
    rw indexed (simp length-map (simp length-map at within))
