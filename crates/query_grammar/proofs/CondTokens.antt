-- The tokens of a condition have P if the tokens of its members have P.
use Rattle.std.proofs.Common.{◌≡◌, All, List, [], ◌∷◌, map, refl, sym, ap, subst, ◌∙◌}
use Rattle.std.proofs.lemmas.List.Elements.{All-nil, All-cons, All-head, All-tail}
use Rattle.ll_grammars.specs.declared.lexeme.Lexeme.{Lexeme}
use Rattle.query_grammar.specs.declared.tree.TestNode.{TestNode}
use Rattle.query_grammar.specs.declared.tree.CondNode.{CondNode, every_made-CondNode, every_here-CondNode, every_held-CondNode, out-CondNode, out-roll-CondNode, map-CondNode}
use Rattle.query_grammar.specs.declared.tree.CondNode.TheVariants as cond
use Rattle.query_grammar.specs.declared.tree.CondNode.TheVariants.{rolls-And, rolls-Or, rolls-Not, rolls-Test}
use Rattle.query_grammar.specs.declared.tree.CondNode.TheOpen.{CondNode-F}
use Rattle.query_grammar.specs.declared.tree.CondNode.TheOpen as layer
use Rattle.query_grammar.specs.Lexemes.{IsTestWith, IsLayerWith, IsCondWith}

-- a condition with the fact that its tokens have P. The lemmas go over lists of these pairs
abbrev CondWithTokens : (Lexeme → Type 0) → Type 0
CondWithTokens P = (c : CondNode) × IsCondWith P c

paired : (P : Lexeme → Type 0) (cs : List CondNode) → All (IsCondWith P) cs → (held : List (CondWithTokens P)) × (map (λ (e : CondWithTokens P). e.0) held ≡ cs)
paired P [] h = ([], refl)
paired P (c ∷ cs) h =
    let others = paired P cs (All-tail (IsCondWith P) c cs h) in
    ((c, All-head (IsCondWith P) c cs h) ∷ others.0, ap (λ x. c ∷ x) others.1)

module _ (P : Lexeme → Type 0) where
  pub test_of : (t : TestNode) → IsTestWith P t → IsCondWith P (cond.Test t)
  test_of t h = subst (IsCondWith P) (rolls-Test t) (every_made-CondNode (IsLayerWith P) (layer.Test t) (layer.Test t) refl h)

  pub not_of : (c : CondNode) → IsCondWith P c → IsCondWith P (cond.Not c)
  not_of c h = subst (IsCondWith P) (rolls-Not c) (every_made-CondNode (IsLayerWith P) (layer.Not c) (layer.Not (c, h)) refl tt)

  pub and_of : (cs : List CondNode) → All (IsCondWith P) cs → IsCondWith P (cond.And cs)
  and_of cs h =
      let pairs = paired P cs h in
      subst (IsCondWith P) (rolls-And cs) (every_made-CondNode (IsLayerWith P) (layer.And cs) (layer.And pairs.0) (ap (λ (x : List CondNode). layer.And x) pairs.1) tt)

  pub or_of : (cs : List CondNode) → All (IsCondWith P) cs → IsCondWith P (cond.Or cs)
  or_of cs h =
      let pairs = paired P cs h in
      subst (IsCondWith P) (rolls-Or cs) (every_made-CondNode (IsLayerWith P) (layer.Or cs) (layer.Or pairs.0) (ap (λ (x : List CondNode). layer.Or x) pairs.1) tt)

-- ---- the conditions in a list of these pairs have tokens with P

unpaired : (P : Lexeme → Type 0) (held : List (CondWithTokens P)) → All (IsCondWith P) (map (λ (e : CondWithTokens P). e.0) held)
unpaired P [] = All-nil (IsCondWith P)
unpaired P (e ∷ held) = All-cons (IsCondWith P) e.0 (map (λ (e : CondWithTokens P). e.0) held) e.1 (unpaired P held)

module _ (P : Lexeme → Type 0) where
  abbrev shown : CondNode-F (CondWithTokens P) → CondNode-F CondNode
  shown x = map-CondNode (CondWithTokens P) CondNode (λ e. e.0) x

  out_and : (cs : List CondNode) → out-CondNode (cond.And cs) ≡ layer.And cs
  out_and cs = ap out-CondNode (sym (rolls-And cs)) ∙ out-roll-CondNode (layer.And cs)

  pub members_of_and : (cs : List CondNode) → IsCondWith P (cond.And cs) → All (IsCondWith P) cs
  members_of_and cs h = let k = every_held-CondNode (IsLayerWith P) (cond.And cs) h in at k.0 (k.1 ∙ out_and cs) where
    at : (x : CondNode-F (CondWithTokens P)) → shown x ≡ layer.And cs → All (IsCondWith P) cs
    at (layer.And held) e = subst (All (IsCondWith P)) (let k : map (λ (e : CondWithTokens P). e.0) held ≡ cs = cc in k) (unpaired P held)
    at (layer.Or held) e = absurd cc
    at (layer.Not c) e = absurd cc
    at (layer.Test t) e = absurd cc

  out_or : (cs : List CondNode) → out-CondNode (cond.Or cs) ≡ layer.Or cs
  out_or cs = ap out-CondNode (sym (rolls-Or cs)) ∙ out-roll-CondNode (layer.Or cs)

  pub members_of_or : (cs : List CondNode) → IsCondWith P (cond.Or cs) → All (IsCondWith P) cs
  members_of_or cs h = let k = every_held-CondNode (IsLayerWith P) (cond.Or cs) h in at k.0 (k.1 ∙ out_or cs) where
    at : (x : CondNode-F (CondWithTokens P)) → shown x ≡ layer.Or cs → All (IsCondWith P) cs
    at (layer.And held) e = absurd cc
    at (layer.Or held) e = subst (All (IsCondWith P)) (let k : map (λ (e : CondWithTokens P). e.0) held ≡ cs = cc in k) (unpaired P held)
    at (layer.Not c) e = absurd cc
    at (layer.Test t) e = absurd cc

  out_not : (c : CondNode) → out-CondNode (cond.Not c) ≡ layer.Not c
  out_not c = ap out-CondNode (sym (rolls-Not c)) ∙ out-roll-CondNode (layer.Not c)

  pub inner_of_not : (c : CondNode) → IsCondWith P (cond.Not c) → IsCondWith P c
  inner_of_not c h = let k = every_held-CondNode (IsLayerWith P) (cond.Not c) h in at k.0 (k.1 ∙ out_not c) where
    at : (x : CondNode-F (CondWithTokens P)) → shown x ≡ layer.Not c → IsCondWith P c
    at (layer.And held) e = absurd cc
    at (layer.Or held) e = absurd cc
    at (layer.Not held) e = subst (IsCondWith P) (let k : held.0 ≡ c = cc in k) held.1
    at (layer.Test t) e = absurd cc

  pub test_in : (t : TestNode) → IsCondWith P (cond.Test t) → IsTestWith P t
  test_in t h = subst (IsLayerWith P) (ap out-CondNode (sym (rolls-Test t)) ∙ out-roll-CondNode (layer.Test t)) (every_here-CondNode (IsLayerWith P) (cond.Test t) h)
