-- Steps that write, one after another. If each step guarantees `Wrote`, so do all steps together. The same is proved of `WroteBuffered`.
use Rattle.std.proofs.Common.{◌≡◌, ℕ, ◌+◌, ◌<◌, ◌≤◌, List, [], ◌++◌, take, drop, length, get_or, Option, Result, Ok, Err, ap, sym, ◌∙◌, append_assoc, append-nil, subst, arith}
use Rattle.std.specs.Prelude.{OnOk, OnErr}
use Rattle.std.specs.List.{flat_map}
use Rattle.base_io.specs.Causes.{Rose}
use Rattle.base_io.specs.Devices.{Growth}
use Rattle.base_io.specs.Sinks.{appended, GrewByPrefix, TookBut}
use Rattle.base_io.specs.Writes.{WroteBuffered, Wrote}
use Rattle.base_io.specs.declared.errors.Failed.{Failed}
use Rattle.base_io.proofs.BufferFacts.{prefix_if_second_fails, prefix_if_flush_fails, append_next_part, took_both_texts, took_all_after_flush}
use Rattle.base_io.proofs.CountFacts.{later_then_rose}
use Rattle.base_io.proofs.SinkFacts.{appended-nil, parts_split, prefix_after_first, prefix_of_first, nothing_is_prefix, both_texts_appended}

abbrev WriteResult : Type 0
WriteResult = Result (Unit {0}) Failed

abbrev pub growth_between : Option (List ℕ) → Option (List ℕ) → ℕ → ℕ → Growth
growth_between t0 t1 f0 f1 = record { taken_before = t0; taken_after = t1; faults_before = f0; faults_after = f1 }

where_ok : (r : WriteResult) (P Q : Type 0) → (P → Q) → OnOk r P → OnOk r Q
where_ok (Ok u) P Q f h = f h
where_ok (Err e) P Q f h = tt

where_err : (r : WriteResult) (P Q : Type 0) → (P → Q) → OnErr r P → OnErr r Q
where_err (Ok u) P Q f h = tt
where_err (Err e) P Q f h = f h

rose_earlier : (f0 f1 f2 : ℕ) (r : WriteResult) → f0 ≤ f1 → OnErr r (Rose f1 f2) → OnErr r (Rose f0 f2)
rose_earlier f0 f1 f2 r le = where_err r (Rose f1 f2) (Rose f0 f2) (later_then_rose f0 f1 f2 le)

-- ---- `Wrote` for steps that write directly to the sink

pub wrote_with_other_error : {g : Growth} {a : List ℕ} {x y : Failed} {r : WriteResult} → r ≡ Err y → Wrote g a (Err x) → Wrote g a r
wrote_with_other_error {g} {a} {x} {y} {r} e h = subst (λ (v : WriteResult). Wrote g a v) (sym e) (record { ok = tt; prefix = h.prefix; later = h.later; failed = h.failed })

pub wrote_equal_text : {g : Growth} {a : List ℕ} {r : WriteResult} (b : List ℕ) → a ≡ b → Wrote g a r → Wrote g b r
wrote_equal_text {g} {a} {r} b e h = subst (λ (x : List ℕ). Wrote g x r) e h

pub wrote_then : {t0 t1 t2 : Option (List ℕ)} {f0 f1 f2 : ℕ} {a b : List ℕ} {u : Unit {0}} {r : WriteResult} → Wrote (growth_between t0 t1 f0 f1) a (Ok u)
    → Wrote (growth_between t1 t2 f1 f2) b r → Wrote (growth_between t0 t2 f0 f2) (a ++ b) r
wrote_then {t0} {t1} {t2} {f0} {f1} {f2} {a} {b} {u} {r} h k = record {
  ok = where_ok r (t2 ≡ appended t1 b) (t2 ≡ appended t0 (a ++ b)) (both_texts_appended t0 t1 t2 a b h.ok) k.ok;
  prefix = prefix_after_first t0 t1 t2 a b h.ok k.prefix;
  later = omega (arith, h.later, k.later);
  failed = rose_earlier f0 f1 f2 r h.later k.failed;
}

-- ---- `WroteBuffered` for steps that write through a buffer

pub put_nothing : (t : Option (List ℕ)) (f : ℕ) (w : List ℕ) → WroteBuffered (growth_between t t f f) w w [] (Ok tt)
put_nothing t f w = record {
  ok = record { front = []; whole = sym (append-nil w); grew = sym (appended-nil t) };
  prefix = nothing_is_prefix t (w ++ []);
  later = omega arith;
  failed = tt;
}

pub put_equal_text : {g : Growth} {w w' a : List ℕ} {r : WriteResult} (b : List ℕ) → a ≡ b → WroteBuffered g w w' a r → WroteBuffered g w w' b r
put_equal_text {g} {w} {w'} {a} {r} b e h = subst (λ (x : List ℕ). WroteBuffered g w w' x r) e h

pub put_with_other_error : {g : Growth} {w w' a : List ℕ} {x y : Failed} {r : WriteResult} → r ≡ Err y → WroteBuffered g w w' a (Err x) → WroteBuffered g w w' a r
put_with_other_error {g} {w} {w'} {a} {x} {y} {r} e h = subst (λ (v : WriteResult). WroteBuffered g w w' a v) (sym e) (record { ok = tt; prefix = h.prefix; later = h.later; failed = h.failed })

pub put_then : {t0 t1 t2 : Option (List ℕ)} {f0 f1 f2 : ℕ} {w0 w1 w2 a b : List ℕ} {u : Unit {0}} {r : WriteResult} → WroteBuffered (growth_between t0 t1 f0 f1) w0 w1 a (Ok u)
    → WroteBuffered (growth_between t1 t2 f1 f2) w1 w2 b r → WroteBuffered (growth_between t0 t2 f0 f2) w0 w2 (a ++ b) r
put_then {t0} {t1} {t2} {f0} {f1} {f2} {w0} {w1} {w2} {a} {b} {u} {r} h k = record {
  ok = where_ok r (TookBut t1 t2 w2 (w1 ++ b)) (TookBut t0 t2 w2 (w0 ++ (a ++ b)))
      (λ took. subst (TookBut t0 t2 w2) (append_assoc w0 a b) (took_both_texts t0 t1 t2 w1 w2 (w0 ++ a) b h.ok took)) k.ok;
  prefix = subst (GrewByPrefix t0 t2) (append_assoc w0 a b) (prefix_if_second_fails t0 t1 t2 w1 (w0 ++ a) b h.ok k.prefix);
  later = omega (arith, h.later, k.later);
  failed = rose_earlier f0 f1 f2 r h.later k.failed;
}

pub put_failed : {t0 t1 : Option (List ℕ)} {f0 f1 : ℕ} {w0 w1 a : List ℕ} {x : Failed} (b : List ℕ) → WroteBuffered (growth_between t0 t1 f0 f1) w0 w1 a (Err x)
    → WroteBuffered (growth_between t0 t1 f0 f1) w0 w1 (a ++ b) (Err x)
put_failed {t0} {t1} {f0} {f1} {w0} {w1} {a} {x} b h = record {
  ok = tt;
  prefix = subst (GrewByPrefix t0 t1) (append_assoc w0 a b) (prefix_of_first t0 t1 (w0 ++ a) b h.prefix);
  later = h.later;
  failed = h.failed;
}

pub put_failed_next : {t0 t1 t2 : Option (List ℕ)} {f0 f1 f2 : ℕ} {w0 w1 w2 done next : List ℕ} {u : Unit {0}} {x : Failed} (left all : List ℕ) → done ++ (next ++ left) ≡ all
    → WroteBuffered (growth_between t0 t1 f0 f1) w0 w1 done (Ok u) → WroteBuffered (growth_between t1 t2 f1 f2) w1 w2 next (Err x) → WroteBuffered (growth_between t0 t2 f0 f2) w0 w2 all (Err x)
put_failed_next {t0} {t1} {t2} {f0} {f1} {f2} {w0} {w1} {w2} {done} {next} {u} {x} left all whole h k =
    put_equal_text all (append_assoc done next left ∙ whole) (put_failed {a = done ++ next} left (put_then h k))

-- ---- `WroteBuffered` for a list of items, with one step for each item

parts_whole : {X : Type 0} (f : X → List ℕ) (parts : List X) (i : ℕ) (d : X) → i < length parts
    → flat_map f (take i parts) ++ (f (get_or parts i d) ++ flat_map f (drop (i + 1) parts)) ≡ flat_map f parts
parts_whole f parts i d lt =
    sym (append_assoc (flat_map f (take i parts)) (f (get_or parts i d)) (flat_map f (drop (i + 1) parts))) ∙ parts_split f parts i d lt

pub put_part : {X : Type 0} {t0 t1 t2 : Option (List ℕ)} {f0 f1 f2 : ℕ} {w0 w1 w2 : List ℕ} {u v : Unit {0}} (f : X → List ℕ) (items : List X) (i : ℕ) (d : X)
    → i < length items → WroteBuffered (growth_between t0 t1 f0 f1) w0 w1 (flat_map f (take i items)) (Ok u) → WroteBuffered (growth_between t1 t2 f1 f2) w1 w2 (f (get_or items i d)) (Ok v)
    → WroteBuffered (growth_between t0 t2 f0 f2) w0 w2 (flat_map f (take (i + 1) items)) (Ok tt)
put_part f items i d lt h k = put_equal_text (flat_map f (take (i + 1) items)) (append_next_part f items i d lt) (put_then h k)

pub put_part_failed : {X : Type 0} {t0 t1 t2 : Option (List ℕ)} {f0 f1 f2 : ℕ} {w0 w1 w2 : List ℕ} {u : Unit {0}} {e : Failed} (f : X → List ℕ) (items : List X) (i : ℕ) (d : X)
    → i < length items → WroteBuffered (growth_between t0 t1 f0 f1) w0 w1 (flat_map f (take i items)) (Ok u) → WroteBuffered (growth_between t1 t2 f1 f2) w1 w2 (f (get_or items i d)) (Err e)
    → WroteBuffered (growth_between t0 t2 f0 f2) w0 w2 (flat_map f items) (Err e)
put_part_failed f items i d lt h k = put_failed_next (flat_map f (drop (i + 1) items)) (flat_map f items) (parts_whole f items i d lt) h k

-- `put_item` is `put_part`, and `put_item_failed` is `put_part_failed`, with variables for the item (`x`) and for its text (`text`)
pub put_item : {X : Type 0} {t0 t1 t2 : Option (List ℕ)} {f0 f1 f2 : ℕ} {w0 w1 w2 text : List ℕ} {u v : Unit {0}} (f : X → List ℕ) (items : List X) (i : ℕ) (x : X)
    → i < length items → x ≡ get_or items i x → text ≡ f x → WroteBuffered (growth_between t0 t1 f0 f1) w0 w1 (flat_map f (take i items)) (Ok u) → WroteBuffered (growth_between t1 t2 f1 f2) w1 w2 text (Ok v)
    → WroteBuffered (growth_between t0 t2 f0 f2) w0 w2 (flat_map f (take (i + 1) items)) (Ok tt)
put_item f items i x lt at' is h k = put_part f items i x lt h (put_equal_text (f (get_or items i x)) (is ∙ ap f at') k)

pub put_item_failed : {X : Type 0} {t0 t1 t2 : Option (List ℕ)} {f0 f1 f2 : ℕ} {w0 w1 w2 text : List ℕ} {u : Unit {0}} {e : Failed} (f : X → List ℕ) (items : List X) (i : ℕ) (x : X)
    → i < length items → x ≡ get_or items i x → text ≡ f x → WroteBuffered (growth_between t0 t1 f0 f1) w0 w1 (flat_map f (take i items)) (Ok u) → WroteBuffered (growth_between t1 t2 f1 f2) w1 w2 text (Err e)
    → WroteBuffered (growth_between t0 t2 f0 f2) w0 w2 (flat_map f items) (Err e)
put_item_failed f items i x lt at' is h k = put_part_failed f items i x lt h (put_equal_text (f (get_or items i x)) (is ∙ ap f at') k)

-- ---- steps that first hand the waiting bytes to the sink, and a last flush

pub put_directly : {t0 t1 t2 : Option (List ℕ)} {f0 f1 f2 : ℕ} {w w' text : List ℕ} {u : Unit {0}} {r : WriteResult} → w' ≡ [] → Wrote (growth_between t0 t1 f0 f1) w (Ok u)
    → Wrote (growth_between t1 t2 f1 f2) text r → WroteBuffered (growth_between t0 t2 f0 f2) w w' text r
put_directly {t0} {t1} {t2} {f0} {f1} {f2} {w} {w'} {text} {u} {r} empty h k =
    let both : Wrote (growth_between t0 t2 f0 f2) (w ++ text) r = wrote_then h k in
    record {
      ok = where_ok r (t2 ≡ appended t0 (w ++ text)) (TookBut t0 t2 w' (w ++ text))
          (λ all. record { front = w ++ text; whole = ap (λ (x : List ℕ). (w ++ text) ++ x) empty ∙ append-nil (w ++ text); grew = all }) both.ok;
      prefix = both.prefix;
      later = both.later;
      failed = both.failed;
    }

pub put_if_flush_fails : {t0 t1 : Option (List ℕ)} {f0 f1 : ℕ} {w w' : List ℕ} {x : Failed} (text : List ℕ) → Wrote (growth_between t0 t1 f0 f1) w (Err x)
    → WroteBuffered (growth_between t0 t1 f0 f1) w w' text (Err x)
put_if_flush_fails {t0} {t1} {f0} {f1} {w} {w'} {x} text h = record { ok = tt; prefix = prefix_of_first t0 t1 w text h.prefix; later = h.later; failed = h.failed }

pub wrote_with_last_flush : {t0 t1 t2 : Option (List ℕ)} {f0 f1 f2 : ℕ} {w0 w1 a : List ℕ} {u : Unit {0}} {r : WriteResult} → w0 ≡ [] → WroteBuffered (growth_between t0 t1 f0 f1) w0 w1 a (Ok u)
    → Wrote (growth_between t1 t2 f1 f2) w1 r → Wrote (growth_between t0 t2 f0 f2) a r
wrote_with_last_flush {t0} {t1} {t2} {f0} {f1} {f2} {w0} {w1} {a} {u} {r} empty h k =
    let took : TookBut t0 t1 w1 a = subst (λ (w : List ℕ). TookBut t0 t1 w1 (w ++ a)) empty h.ok in
    record {
      ok = where_ok r (t2 ≡ appended t1 w1) (t2 ≡ appended t0 a) (took_all_after_flush t0 t1 t2 w1 a took) k.ok;
      prefix = prefix_if_flush_fails t0 t1 t2 w1 a took k.prefix;
      later = omega (arith, h.later, k.later);
      failed = rose_earlier f0 f1 f2 r h.later k.failed;
    }

pub wrote_err : {t0 t1 : Option (List ℕ)} {f0 f1 : ℕ} {w0 w1 a : List ℕ} {x y : Failed} {r : WriteResult} → w0 ≡ [] → r ≡ Err y → WroteBuffered (growth_between t0 t1 f0 f1) w0 w1 a (Err x)
    → Wrote (growth_between t0 t1 f0 f1) a r
wrote_err {t0} {t1} {f0} {f1} {w0} {w1} {a} {x} {y} {r} empty e h =
    wrote_with_other_error e (record { ok = tt; prefix = subst (λ (w : List ℕ). GrewByPrefix t0 t1 (w ++ a)) empty h.prefix; later = h.later; failed = h.failed })
