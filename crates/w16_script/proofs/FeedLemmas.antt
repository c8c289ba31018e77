-- Lemmas on bytes that are fed.
use Rattle.w16_script.proofs
use proofs.Common as C
use proofs.Common.{◌≡◌, ◌≢◌, ◌+◌, ◌<◌, ◌≤◌, Bool, List, [], ◌∷◌, ◌++◌, length, refl, ap, ◌∙◌, append_assoc, inl, inr, arith, count_by, if◌then◌else◌, AllByRecursion, Keeps, Write, has_reply, ended, HasNoLf, IsRaw, without_cr, Progress, with_bytes, IsWithinLimits, FailsAt, Feeds, Stops}
use proofs.RunLemmas.{RunsLines-none, RunsLines-append, RunsLines-kept}

-- Lists.

module _ {X : Type 0} (P : X → Type 0) where
  all-append : (xs ys : List X) → AllByRecursion P xs → AllByRecursion P ys → AllByRecursion P (xs ++ ys)
  all-append [] ys p q = q
  all-append (x ∷ xs) ys p q = (p.0, all-append xs ys p.1 q)

  all-front : (xs ys : List X) → AllByRecursion P (xs ++ ys) → AllByRecursion P xs
  all-front [] ys p = tt
  all-front (x ∷ xs) ys p = (p.0, all-front xs ys p.1)

pub count-append : {X : Type 0} (p : X → Bool) (xs ys : List X) → count_by p (xs ++ ys) ≡ count_by p xs + count_by p ys
count-append p xs ys = C.sum_by-append (λ x. if p x then 1 else 0) xs ys

-- What is fed.

-- bytes, and then further bytes
pub Feeds-trans : {steps a b c s t u v w x front back : _} → Feeds steps a s v front b t w → Feeds steps b t w back c u x → Feeds steps a s v (front ++ back) c u x
Feeds-trans p q = record {
  raw = p.raw ++ q.raw;
  whole = rw (C.flat_map-append, ← append_assoc, p.whole, append_assoc, q.whole, append_assoc);
  parts = λ none. let (raw, mid) = p.parts none in let (more, after) = q.parts mid in (all-append IsRaw p.raw q.raw raw more, after);
  runs = rw C.map-append (RunsLines-append p.runs q.runs);
  lines = omega (arith, p.lines, q.lines, C.length-append p.raw q.raw);
  replies = rw (C.map-append, count-append has_reply) (omega (arith, p.replies, q.replies));
}

-- what was written stays
pub Feeds-kept : {steps a b c s t v w bytes : _} → Feeds steps a s v bytes b t w → Keeps b c → Feeds steps a s v bytes c t w
Feeds-kept p q = record { raw = p.raw; whole = p.whole; parts = p.parts; runs = RunsLines-kept p.runs q; lines = p.lines; replies = p.replies }

-- bytes of one line
pub Feeds-held : {steps a s t v w bytes : _} → HasNoLf bytes → t ≡ with_bytes s bytes → w ≡ v → Feeds steps a s v bytes a t w
Feeds-held {s} {bytes} one_line is same = rw (same, is) (record {
  raw = [];
  whole = refl;
  parts = λ none. (tt, all-append (λ byte. byte ≢ 10) s.line bytes none one_line);
  runs = RunsLines-none;
  lines = omega arith;
  replies = omega arith;
})

-- the LF that ends a line, which was run
pub Feeds-ends : {steps a b v w line : _} {s t : Progress} → line ≡ without_cr s.line → C.RunsLines steps a v (line ∷ []) b w
    → length s.line ≤ 4096 → t.line ≡ [] → t.lines ≡ s.lines + 1 → t.replies ≡ s.replies + (if has_reply line then 1 else 0) → Feeds steps a s v (10 ∷ []) b t w
Feeds-ends {s} same ran short empty lines replies = record {
  raw = s.line ∷ [];
  whole = simp (empty, C.append-nil);
  parts = λ none. (((none, short), tt), rw empty tt);
  runs = rw same at ran;
  lines = lines;
  replies = replies ∙ rw same (omega arith);
}

-- a line and its LF, where none was unfinished
pub Feeds-whole : {steps a b v w text : _} {s t : Progress} (line : _) → s.line ≡ [] → HasNoLf line → length line ≤ 4096 → text ≡ without_cr line → C.RunsLines steps a v (text ∷ []) b w
    → t.line ≡ [] → t.lines ≡ s.lines + 1 → t.replies ≡ s.replies + (if has_reply text then 1 else 0) → Feeds steps a s v (ended line) b t w
Feeds-whole {s} line nothing one_line short same ran empty lines replies =
    let whole : s.line ++ line ≡ line = rw nothing refl in
    Feeds-trans {t = with_bytes s line} (Feeds-held one_line refl refl) (Feeds-ends (rw whole same) ran (omega (arith, short, ap length whole)) empty lines replies)

-- Where it stops.

-- bytes of one line pass a limit
pub Stops-overflow : {steps a s v w bytes fault : _} (more : _) → HasNoLf bytes → w ≡ v → fault ≡ C.TooLong → C.Overflows s bytes → Stops steps a s v (bytes ++ more) fault a w
Stops-overflow {a} {s} {v} more one_line same is over =
    let front : HasNoLf over.front = all-front (λ byte. byte ≢ 10) over.front (over.byte ∷ over.more) (rw over.whole at one_line) in
    rw is (record {
      front = over.front;
      byte = over.byte;
      more = over.more ++ more;
      whole = ap (λ l. l ++ more) over.whole ∙ simp append_assoc;
      between = a;
      here = with_bytes s over.front;
      state = v;
      feeds = Feeds-held front refl refl;
      fits = over.fits;
      stops = (over.over, same, C.Keeps-refl a);
    })

-- or any byte stands after the last line that may end
pub Stops-full : {steps a v w : _} {s : Progress} (bytes : _) → 0 < length bytes → w ≡ v → IsWithinLimits s → s.lines ≡ 1000000 → Stops steps a s v bytes C.TooLong a w
Stops-full [] some same fits full = absurd (omega arith)
Stops-full {a} {v} {s} (byte ∷ more) some same fits full = record {
  front = [];
  byte = byte;
  more = more;
  whole = refl;
  between = a;
  here = s;
  state = v;
  feeds = Feeds-held tt (simp C.append-nil) refl;
  fits = fits;
  stops = (inl full, same, C.Keeps-refl a);
}

-- the line that the LF ends met a fault
pub Stops-line : {steps a b s v w x fault : _} {t : Progress} (line : _) → HasNoLf line → t ≡ with_bytes s line → w ≡ v → IsWithinLimits t → t.lines ≢ 1000000
    → FailsAt steps a w (without_cr t.line) fault b x → Stops steps a s v (ended line) fault b x
Stops-line {steps} {a} {b} {w} {x} {fault} {t} line one_line is same fits few fails =
    let none : C.IsOver t 10 → ⊥ = elim [ inl full ↦ few full | inr long ↦ long.1 refl ] in
    record {
      front = line;
      byte = 10;
      more = [];
      whole = refl;
      between = a;
      here = t;
      state = w;
      feeds = Feeds-held one_line is same;
      fits = fits;
      stops = elim fault as (λ f. FailsAt steps a w (without_cr t.line) f b x → C.StopsHere steps a t w 10 f b x) [
        | Write ↦ λ h. (none, refl, h)
        | C.Memory ↦ λ h. (none, refl, h)
        | other ↦ λ h. absurd h
      ] fails;
    }

-- and so did a line that was run where it stood
pub Stops-whole : {steps a b v x fault : _} {s : Progress} (line : _) → s.line ≡ [] → HasNoLf line → length line ≤ 4096 → IsWithinLimits s → s.lines < 1000000
    → FailsAt steps a v (without_cr line) fault b x → Stops steps a s v (ended line) fault b x
Stops-whole {s} line nothing one_line short fits few fails =
    let whole : s.line ++ line ≡ line = rw nothing refl in
    Stops-line {t = with_bytes s line} line one_line refl refl (record { replies = fits.replies; lines = fits.lines; last = λ filled. few; short = omega (arith, short, ap length whole) }) (λ full. omega (arith, full, few)) (rw whole fails)

-- bytes were fed before, and others follow
pub Stops-later : {steps a b c s t v w x whole done bytes fault : _} (more : _) → whole ≡ done ++ (bytes ++ more) → Feeds steps a s v done b t w → Stops steps b t w bytes fault c x → Stops steps a s v whole fault c x
Stops-later {done} more is p q = record {
  front = done ++ q.front;
  byte = q.byte;
  more = q.more ++ more;
  whole = is ∙ ap (λ l. done ++ (l ++ more)) q.whole ∙ simp append_assoc;
  between = q.between;
  here = q.here;
  state = q.state;
  feeds = Feeds-trans p q.feeds;
  fits = q.fits;
  stops = q.stops;
}
