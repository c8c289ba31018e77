-- Lemmas on writes.
use Rattle.w16_script.proofs.Common as C
use Rattle.w16_script.proofs.Common.{◌≡◌, ◌+◌, ◌<◌, OnErr, ◌++◌, ap, ◌∙◌, take, drop, sym, arith, Appends, AppendsFront}

-- what holds anyway holds on an error
pub on_err : {T E P : Type 0} (r : C.Result T E) → P → OnErr r P
on_err r p = grind arith

-- a further front of what is left
pub Appends-take : (a b c xs ys n m : _) → Appends a b (take n xs) → ys ≡ drop n xs → Appends b c (take m ys) → Appends a c (take (n + m) xs)
Appends-take a b c xs ys n m p e q = rw C.take-add (C.Appends-trans a b c _ _ p (rw e at q))

-- a front that is not all
pub AppendsFront_take : {a b xs : _} (n : _) → n < C.length xs → Appends a b (take n xs) → AppendsFront a b xs
AppendsFront_take {xs} n h p = record { front = take n xs; back = drop n xs; whole = sym (C.take-append-drop n xs); left = omega (arith, C.length-drop n xs); appends = p }

-- a front was written, and of what is left a further one
pub AppendsFront_rest : {a b c xs ys : _} (n : _) → Appends a b (take n xs) → ys ≡ drop n xs → AppendsFront b c ys → AppendsFront a c xs
AppendsFront_rest {a} {c} {xs} n p is q = record {
  front = take n xs ++ q.front;
  back = q.back;
  whole = sym (C.take-append-drop n xs) ∙ ap (λ l. take n xs ++ l) (sym is ∙ q.whole) ∙ sym (C.append_assoc (take n xs) q.front q.back);
  left = q.left;
  appends = C.Appends-trans _ _ _ _ q.front p q.appends;
}

-- something before it was written whole, and something is left after it
pub AppendsFront-between : {b bytes : _} (a c before behind : _) → Appends a b before → AppendsFront b c bytes → AppendsFront a c (before ++ (bytes ++ behind))
AppendsFront-between a c before behind p q = record {
  front = before ++ q.front;
  back = q.back ++ behind;
  whole = ap (λ l. before ++ (l ++ behind)) q.whole ∙ simp C.append_assoc;
  left = omega (arith, q.left, C.length-append q.back behind);
  appends = C.Appends-trans _ _ _ before q.front p q.appends;
}
