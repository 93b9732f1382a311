-- The test `is_same_part` picks the own conjuncts of one entry, or the residual conjuncts. Their numbers are those in `local_of` and `residual_of`.
-- `edge_in` picks the equalities.
use Rattle.std.proofs.Common.{◌≡◌, ℕ, suc, ◌+◌, ◌-◌, ◌<◌, Bool, not, ◌&&◌, cond, List, [], ◌∷◌, ◌++◌, map, length, Option, Some, None, is_none, refl, ap, sym, ◌∙◌, arith}
use Rattle.std.specs.List.{filter_map, range_with_len}
use Rattle.std.proofs.lemmas.List.{append_assoc}
use Rattle.berge_tree.specs.declared.edges.Edge.{Edge}
use Rattle.query_types.specs.declared.types.Cond.{Cond}
use Rattle.query_types.specs.declared.types.Query.{Query}
use Rattle.join_graph.specs.declared.naming.EntriesNamed.{EntriesNamed}
use Rattle.join_graph.specs.declared.naming.EntriesNamed.TheVariants as named
use Rattle.join_graph.specs.declared.splitting.Part.{Part}
use Rattle.join_graph.specs.declared.splitting.Part.TheVariants as part
use Rattle.join_graph.specs.Conjuncts.{equality_of, is_own_conjunct, is_residual, numbers_where, local_of, equalities_of, residual_of}
use Rattle.query_types.specs.Named.{entries_named}
use Rattle.join_graph.specs.Naming.{named_of, part_from, part_of, is_same_part, edge_in}
use Rattle.join_graph.proofs.NamedEntries.{names_no_other_entry, names_one_entry, only_named_is, one_named, equality_several}

range_front : (entry entries : ℕ) → entry < entries → range_with_len entry (entries - entry) ≡ entry ∷ range_with_len (entry + 1) (entries - (entry + 1))
range_front entry entries h = let e : entries - entry ≡ suc (entries - (entry + 1)) = omega arith in rw e refl

-- one step of the loop over entries
pub entry_more : (f : ℕ → List ℕ) (entry entries : ℕ) (lists longer : List (List ℕ)) (one : List ℕ) → entry < entries → one ≡ f entry → longer ≡ lists ++ one ∷ []
    → lists ++ map f (range_with_len entry (entries - entry)) ≡ map f (range_with_len 0 entries)
    → longer ++ map f (range_with_len (entry + 1) (entries - (entry + 1))) ≡ map f (range_with_len 0 entries)
entry_more f entry entries lists longer one h is is_longer so_far =
    rw (is_longer, is) (append_assoc lists (f entry ∷ []) (map f (range_with_len (entry + 1) (entries - (entry + 1))))
    ∙ ap (λ es. lists ++ map f es) (sym (range_front entry entries h)) ∙ so_far)

pub numbers_where-map : {A B : Type 0} (test : B → Bool) (f : A → B) (test' : A → Bool) → ((x : A) → test (f x) ≡ test' x) → (first : ℕ) (xs : List A)
    → numbers_where test first (map f xs) ≡ numbers_where test' first xs
numbers_where-map test f test' same first [] = refl
numbers_where-map test f test' same first (x ∷ xs) =
    ap (λ b. cond b (first ∷ numbers_where test (first + 1) (map f xs)) (numbers_where test (first + 1) (map f xs))) (same x)
    ∙ ap (λ ns. cond (test' x) (first ∷ ns) ns) (numbers_where-map test f test' same (first + 1) xs)

-- ---- the test `is_same_part` picks the own conjuncts of an entry, or the residual conjuncts

local_test_by_names : (entry : ℕ) (equality : Option Edge) (n : EntriesNamed) → ((edge : Edge) → equality ≡ Some edge → n ≡ named.Several) → is_same_part (part.Local entry) (part_from equality n) ≡ names_no_other_entry entry n
local_test_by_names entry (Some edge) n several = rw (several edge refl) refl
local_test_by_names entry None named.NoEntry several = refl
local_test_by_names entry None (named.OneEntry own) several = refl
local_test_by_names entry None named.Several several = refl

pub local_test_is : (entry : ℕ) (c : Cond) → is_same_part (part.Local entry) (part_of c) ≡ is_own_conjunct entry c
local_test_is entry c = local_test_by_names entry (equality_of c) (named_of (entries_named c)) (equality_several c) ∙ sym (only_named_is entry (entries_named c))

residual_test_by_names : (equality : Option Edge) (n : EntriesNamed) → is_same_part part.Residual (part_from equality n) ≡ (is_none equality && not (names_one_entry n))
residual_test_by_names (Some edge) n = refl
residual_test_by_names None named.NoEntry = refl
residual_test_by_names None (named.OneEntry own) = refl
residual_test_by_names None named.Several = refl

pub residual_test_is : (c : Cond) → is_same_part part.Residual (part_of c) ≡ is_residual c
residual_test_is c =
    residual_test_by_names (equality_of c) (named_of (entries_named c)) ∙ ap (λ b. is_none (equality_of c) && not b) (sym (one_named (entries_named c)))

edge_from : (equality : Option Edge) (n : EntriesNamed) → edge_in (part_from equality n) ≡ equality
edge_from (Some edge) n = refl
edge_from None named.NoEntry = refl
edge_from None (named.OneEntry own) = refl
edge_from None named.Several = refl

pub local_is : (query : Query) (parts : List Part) (entries : ℕ) → parts ≡ map part_of query.conjuncts → entries ≡ length query.from
    → map (λ entry. numbers_where (is_same_part (part.Local entry)) 0 parts) (range_with_len 0 entries) ≡ local_of query
local_is query parts entries is are = rw (is, are) (each (range_with_len 0 (length query.from)))
  where
    each : (es : List ℕ) → map (λ entry. numbers_where (is_same_part (part.Local entry)) 0 (map part_of query.conjuncts)) es ≡ map (λ entry. numbers_where (is_own_conjunct entry) 0 query.conjuncts) es
    each [] = refl
    each (e ∷ es) = rw (numbers_where-map (is_same_part (part.Local e)) part_of (is_own_conjunct e) (local_test_is e) 0 query.conjuncts, each es) refl

pub residual_is : (query : Query) (parts : List Part) → parts ≡ map part_of query.conjuncts → numbers_where (is_same_part part.Residual) 0 parts ≡ residual_of query
residual_is query parts is = rw is (numbers_where-map (is_same_part part.Residual) part_of is_residual residual_test_is 0 query.conjuncts)

pub equalities_are : (query : Query) (parts : List Part) → parts ≡ map part_of query.conjuncts → filter_map edge_in parts ≡ equalities_of query
equalities_are query parts is = rw is (each query.conjuncts)
  where
    each : (cs : List Cond) → filter_map edge_in (map part_of cs) ≡ filter_map equality_of cs
    each [] = refl
    each (c ∷ cs) = rw (edge_from (equality_of c) (named_of (entries_named c)), each cs) refl
