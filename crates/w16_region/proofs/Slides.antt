-- A part that is slid down, piece by piece.
use Rattle.w16_region.proofs.Common as C
use Rattle.w16_region.proofs.Common.{ℕ, ◌≡◌, ◌+◌, ◌-◌, ◌<◌, ◌≤◌, List, ◌++◌, length, take, drop, arith, sym, ◌∙◌, ap, append_assoc, drop-drop, part, put_part, length-part}

-- two pieces, one behind the other
joined : (bytes : List ℕ) (from a b : ℕ) → part bytes from a ++ part bytes (from + a) b ≡ part bytes from (a + b)
joined bytes from a b = ap (λ zs. take a (drop from bytes) ++ take b zs) (sym (drop-drop a from bytes)) ∙ sym (C.take-add a b _)

pub slide_none : (bytes : List ℕ) (from to : ℕ) → put_part bytes to (part bytes from 0) ≡ bytes
slide_none bytes from to = C.take-append-drop to bytes

module _ (bytes : List ℕ) (from to done n : ℕ) (down : to < from) (inside : from + (done + n) ≤ length bytes) where
  abbrev first : List ℕ
  first = part bytes from done

  abbrev mid : List ℕ
  mid = put_part bytes to first

  abbrev next : List ℕ
  next = part bytes (from + done) n

  first_long : length first ≡ done
  first_long = length-part bytes from done (omega arith)

  source : part mid (from + done) n ≡ next
  source = let long = first_long in ap (take n) (C.drop-put_part bytes to first (from + done) (omega arith) (omega arith))

  front : take (to + done) mid ≡ take to bytes ++ first
  front =
      let rest : List ℕ = drop (length first) (drop to bytes) in let long = first_long in
      let one = C.length-append (take to bytes) first in let two = C.length-take-le to bytes (omega arith) in
      ap (take (to + done)) (sym (append_assoc (take to bytes) first rest)) ∙ C.take_at (take to bytes ++ first) rest (to + done) (omega arith)

  back : drop (length next) (drop (to + done) mid) ≡ drop (length (first ++ next)) (drop to bytes)
  back =
      let long = first_long in let more = length-part bytes (from + done) n (omega arith) in let both = C.length-append first next in
      drop-drop (length next) (to + done) mid
      ∙ C.drop-put_part bytes to first (to + done + length next) (omega arith) (omega arith)
      ∙ ap (λ (k : ℕ). drop k bytes) (let e : to + done + length next ≡ to + length (first ++ next) = omega arith in e)
      ∙ sym (drop-drop (length (first ++ next)) to bytes)

  pub slide_more : (old : List ℕ) → old ≡ mid → put_part old (to + done) (part old (from + done) n) ≡ put_part bytes to (part bytes from (done + n))
  slide_more old is =
      let rest : List ℕ = drop (length (first ++ next)) (drop to bytes) in
      ap (λ (f : List ℕ). put_part f (to + done) (part f (from + done) n)) is
      ∙ ap (put_part mid (to + done)) source
      ∙ (λ i. front i ++ (next ++ back i))
      ∙ append_assoc (take to bytes) first (next ++ rest)
      ∙ ap (λ (ys : List ℕ). take to bytes ++ ys) (sym (append_assoc first next rest))
      ∙ ap (put_part bytes to) (joined bytes from done n)

-- and a part that is slid up, from the last piece on: what a piece of n bytes adds in front of the b that are there
module _ (bytes : List ℕ) (from to a n b : ℕ) (inside : to + (a + n + b) ≤ length bytes) (up : from ≤ to) where
  abbrev last : List ℕ
  last = part bytes (from + (a + n)) b

  abbrev piece : List ℕ
  piece = part bytes (from + a) n

  abbrev lifted : List ℕ
  lifted = put_part bytes (to + (a + n)) last

  last_long : length last ≡ b
  last_long = length-part bytes (from + (a + n)) b (omega arith)

  behind : drop n (drop (to + a) lifted) ≡ last ++ drop (n + b) (drop (to + a) bytes)
  behind =
      drop-drop n (to + a) lifted
      ∙ C.drop_at (take (to + (a + n)) bytes) (last ++ drop (length last) (drop (to + (a + n)) bytes)) (to + a + n) (C.length-take-le (to + (a + n)) bytes (omega arith) ∙ omega arith)
      ∙ ap (λ (rest : List ℕ). last ++ rest) (drop-drop (length last) (to + (a + n)) bytes ∙ ap (λ (k : ℕ). drop k bytes) (let long = last_long in let e : to + (a + n) + length last ≡ to + a + (n + b) = omega arith in e) ∙ sym (drop-drop (n + b) (to + a) bytes))

  pub lift_more : (old : List ℕ) → old ≡ lifted → put_part old (to + a) (part old (from + a) n) ≡ put_part bytes (to + a) (part bytes (from + a) (n + b))
  lift_more old is =
      let before : take (to + a) lifted ≡ take (to + a) bytes = C.take-put_part bytes (to + (a + n)) last (to + a) (omega arith) (omega arith) in
      let own : part lifted (from + a) n ≡ piece = C.part_below lifted bytes (from + a) n (to + (a + n)) (omega arith) (C.take-put_part bytes (to + (a + n)) last (to + (a + n)) (omega arith) (omega arith)) in
      let long = length-part bytes (from + a) n (omega arith) in
      let both : length (part bytes (from + a) (n + b)) ≡ n + b = length-part bytes (from + a) (n + b) (omega arith) in
      let next : piece ++ last ≡ part bytes (from + a) (n + b) = ap (λ (k : ℕ). piece ++ part bytes k b) (let e : from + (a + n) ≡ from + a + n = omega arith in e) ∙ joined bytes (from + a) n b in
      ap (λ (f : List ℕ). put_part f (to + a) (part f (from + a) n)) is
      ∙ ap (put_part lifted (to + a)) own
      ∙ (λ i. before i ++ (piece ++ (ap (λ (k : ℕ). drop k (drop (to + a) lifted)) long ∙ behind) i))
      ∙ ap (λ (ys : List ℕ). take (to + a) bytes ++ ys) (sym (append_assoc piece last (drop (n + b) (drop (to + a) bytes))))
      ∙ (λ i. take (to + a) bytes ++ (next i ++ drop (sym both i) (drop (to + a) bytes)))
