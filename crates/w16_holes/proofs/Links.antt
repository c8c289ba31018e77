-- What `take` and `put` of holes in their own bytes write, and what they look up there.
use Rattle.w16_holes.proofs
use proofs.Common as C
use proofs.Common.{ℕ, suc, ◌≡◌, ◌<◌, ◌≤◌, ◌+◌, ◌-◌, ◌^◌, inl, inr, List, [], ◌∷◌, ◌++◌, length, Option, Some, None, IfSome, ◌*◌, arith, refl, sym, ap, ◌∙◌, subst, cases_lt, lt-ltb, le-ltb, Span, IsMultiple, word_in, put_word, word_in-put_word, Range, AreHoles, IsFree, AreSameOutside}
use proofs.Common.{taken, joined, add_span, last_before, length_at, length_to, HasWords, IsThread, AreThreaded, no_hole, first_of, put_words, put_hole, put_link, room}
use proofs.Units.{multiple_sum}
use proofs.Thread.{IsKept, kept_refl, kept_trans, kept_wider, kept_word, kept_word_in, kept_words, word_kept, thread_kept, thread_join, thread_front, thread_back, free_front, free_back, used_trans, used_kept, relink, link_kept, link_used, link_fits}
use proofs.Cuts.{IsTakenFrom, IsPutAt, IsPutBelow, IsPassed, HasHole, cut_taken, cut_below, cut_put, cut_passed}
use proofs.Slid.{part_slid, others_stay}
use Rattle.w16_holes.specs.Thread.{MayPass}

-- a hole's words, just written
words_put : (from to next : ℕ) (bytes : List ℕ) → IsMultiple 8 from → IsMultiple 8 to → from < to → to ≤ length bytes → next < 2 ^ 32 → to < 2 ^ 32
    → HasWords (record { from = from; to = to }) next (put_words bytes from (to - from) next)
words_put from to next bytes low high some inside small top =
    let fits = room from to low high some in
    let long = C.length-put_word bytes from (to - from) (omega arith) in
    let kept = kept_words bytes from (to - from) next (omega arith) in
    let same = kept.long in
    record {
      low = low;
      high = high;
      some = some;
      inside = omega arith;
      size =
          word_kept (from + 4) (from + 4 + 4) (put_word bytes from _) (put_words bytes from _ next) from (kept_word _ _ next (omega arith)) (inl (omega arith))
          ∙ word_in-put_word bytes from (to - from) (omega arith) (omega arith);
      link = word_in-put_word (put_word bytes from _) (from + 4) next (omega arith) small;
    }

first_small : (lo hi : ℕ) (hs : List Span) → hi < 2 ^ 32 → AreHoles lo hi hs → first_of no_hole hs < 2 ^ 32
first_small lo hi [] small holes = omega arith
first_small lo hi (h ∷ hs) small holes = let some = holes.1 in let to = holes.2 in omega arith

-- and before and behind it what is a thread already
between : (lo mid hi from to : ℕ) (front back : List Span) (bytes : List ℕ) → IsMultiple 8 from → IsMultiple 8 to → from < to → to ≤ length bytes → mid ≤ from → to ≤ hi → hi < 2 ^ 32 → AreHoles lo mid front → AreHoles (suc to) hi back
    → IsThread from front bytes → IsThread no_hole back bytes → AreThreaded (front ++ record { from = from; to = to } ∷ back) (put_words bytes from (to - from) (first_of no_hole back))
between lo mid hi from to front back bytes low_8 high_8 some inside low top small lower higher linked rest =
    let next = first_of no_hole back in
    let wide = room from to low_8 high_8 some in
    let kept = kept_words bytes from (to - from) next (omega arith) in
    thread_join no_hole front (record { from = from; to = to } ∷ back) _
    (thread_kept from front lo mid from _ bytes _ kept lower (inl low) linked)
    (words_put from to next bytes low_8 high_8 some inside (first_small _ hi back small higher) (omega arith), thread_kept no_hole back _ hi from _ bytes _ kept higher (inr (omega arith)) rest)

holes_lower : (lo low hi : ℕ) (hs : List Span) → low ≤ lo → AreHoles lo hi hs → AreHoles low hi hs
holes_lower lo low hi [] le holes = tt
holes_lower lo low hi (h ∷ hs) le holes = let from = holes.0 in (omega arith, holes.1, holes.2, holes.3)

pub hole_kept : (from to next : ℕ) (bytes : List ℕ) → IsMultiple 8 from → IsMultiple 8 to → to ≤ length bytes → IsKept from to bytes (put_hole bytes from to next)
hole_kept from to next bytes low high inside = elim (cases_lt from to) [
  | inl lt ↦ let wide = room from to low high lt in
      rw (lt-ltb from to lt) (kept_wider from _ from to bytes _ (omega arith) wide (kept_words bytes from _ next (omega arith)))
  | inr le ↦ rw (le-ltb from to le) (kept_refl from to bytes)
]

-- one hole, or none
pub one_threaded : (from to : ℕ) (bytes : List ℕ) → IsMultiple 8 from → IsMultiple 8 to → to ≤ length bytes → to < 2 ^ 32 → AreThreaded (add_span from to []) (put_hole bytes from to no_hole)
one_threaded from to bytes low high inside top = elim (cases_lt from to) [
  | inl lt ↦ rw (lt-ltb from to lt) (words_put from to no_hole bytes low high lt inside (omega arith) top, tt)
  | inr le ↦ rw (le-ltb from to le) tt
]

-- [a, b) is taken from the hole h
module _ (lo hi a b : ℕ) (hs : List Span) (bytes : List ℕ) (front : List Span) (h : Span) (back : List Span) (c : IsTakenFrom lo hi a b hs front h back)
    (some : a < b) (low_8 : IsMultiple 8 a) (high_8 : IsMultiple 8 b) (small : hi < 2 ^ 32) (thread : AreThreaded hs bytes) where
  cut : IsThread no_hole (front ++ h ∷ back) bytes
  cut = subst (λ (l : List Span). IsThread no_hole l bytes) c.whole thread

  abbrev next : ℕ
  next = first_of no_hole back

  pub taken_words : HasWords h next bytes
  taken_words = (thread_back no_hole front (h ∷ back) bytes cut).0

  low : IsThread h.from front bytes
  low = thread_front no_hole front (h ∷ back) bytes cut

  high : IsThread no_hole back bytes
  high = (thread_back no_hole front (h ∷ back) bytes cut).1

  free : (x y : ℕ) → h.from ≤ x → y ≤ h.to → IsFree x y hs
  free x y from to = subst (λ (l : List Span). IsFree x y l) (sym c.whole) (free_back x y front (h ∷ back) (inl (from, to)))

  abbrev rest : List Span
  rest = add_span b h.to back

  abbrev behind : ℕ
  behind = first_of next (add_span b h.to [])

  abbrev one : List ℕ
  one = put_hole bytes b h.to next

  behind_is : behind ≡ first_of no_hole rest
  behind_is = elim (cases_lt b h.to) [
    | inl lt ↦ rw (lt-ltb b h.to lt) refl
    | inr le ↦ rw (le-ltb b h.to le) refl
  ]

  next_small : next < 2 ^ 32
  next_small = first_small (suc h.to) hi back small c.above

  behind_small : behind < 2 ^ 32
  behind_small = let top = c.high in let less = next_small in elim (cases_lt b h.to) [
    | inl lt ↦ rw (lt-ltb b h.to lt) (omega arith)
    | inr le ↦ rw (le-ltb b h.to le) less
  ]

  rest_holes : AreHoles b hi rest
  rest_holes = let to = c.to in elim (cases_lt b h.to) [
    | inl lt ↦ rw (lt-ltb b h.to lt) (omega arith, lt, c.high, c.above)
    | inr le ↦ rw (le-ltb b h.to le) (holes_lower (suc h.to) b hi back (omega arith) c.above)
  ]

  fits : h.to ≤ length bytes
  fits = taken_words.inside

  one_kept : IsKept b h.to bytes one
  one_kept = hole_kept b h.to next bytes high_8 taken_words.high fits

  one_used : AreSameOutside hs bytes one
  one_used = let from = c.from in used_kept b h.to hs bytes one (free b h.to (omega arith) (omega arith)) one_kept

  one_rest : IsThread no_hole rest one
  one_rest =
      let top = c.high in
      let inside = fits in
      elim (cases_lt b h.to) [
        | inl lt ↦
            let wide = room b h.to high_8 taken_words.high lt in
            rw (lt-ltb b h.to lt) (
              words_put b h.to next bytes high_8 taken_words.high lt fits next_small (omega arith),
              thread_kept no_hole back (suc h.to) hi b (b + 8) bytes (put_words bytes b (h.to - b) next) (kept_words bytes b (h.to - b) next (omega arith)) c.above (inr (omega arith)) high,
            )
        | inr le ↦ rw (le-ltb b h.to le) high
      ]

  abbrev Done : Type 0
  Done = AreThreaded (taken a b hs) (put_word (put_link one (last_before a hs) behind) h.from (a - h.from)) × AreSameOutside hs bytes (put_word (put_link one (last_before a hs) behind) h.from (a - h.from))

  -- some of the hole is left before it
  module _ (lt : h.from < a) where
    abbrev two : List ℕ
    two = put_word one (h.from + 4) behind

    abbrev three : List ℕ
    three = put_word two h.from (a - h.from)

    before : h.from + 8 ≤ a
    before = room h.from a taken_words.low low_8 lt

    one_long : h.from + 8 ≤ length one
    one_long = let long = one_kept.long in let inside = fits in let wide = before in let to = c.to in omega arith

    two_kept : IsKept h.from (h.from + 8) one two
    two_kept = let long = one_long in kept_word_in h.from (h.from + 8) one (h.from + 4) behind (omega arith) (omega arith) (omega arith)

    two_long : h.from + 8 ≤ length two
    two_long = let long = two_kept.long in let inside = one_long in omega arith

    last_kept : IsKept h.from (h.from + 8) two three
    last_kept = let long = two_long in kept_word_in h.from (h.from + 8) two h.from (a - h.from) (omega arith) (omega arith) (omega arith)

    three_kept : IsKept h.from (h.from + 8) one three
    three_kept = kept_trans h.from (h.from + 8) one two three two_kept last_kept

    all_kept : IsKept h.from h.to bytes three
    all_kept =
        let wide = before in let to = c.to in
        kept_trans h.from h.to bytes one three (kept_wider b h.to h.from h.to bytes one (omega arith) (omega arith) one_kept) (kept_wider h.from (h.from + 8) h.from h.to one three (omega arith) (omega arith) three_kept)

    first : HasWords (record { from = h.from; to = a }) (first_of no_hole rest) three
    first =
        let long = two_long in
        let longer = one_long in
        let same = all_kept.long in
        let inside = fits in
        let wide = before in
        let to = c.to in
        let top = c.high in
        record {
          low = taken_words.low;
          high = low_8;
          some = lt;
          inside = omega arith;
          size = word_in-put_word two h.from (a - h.from) (omega arith) (omega arith);
          link =
              word_kept h.from (h.from + 4) two three (h.from + 4) (kept_word two h.from (a - h.from) (omega arith)) (inr (omega arith))
              ∙ word_in-put_word one (h.from + 4) behind (omega arith) behind_small ∙ behind_is;
        }

    left_is : taken a b hs ≡ front ++ record { from = h.from; to = a } ∷ rest
    left_is = c.left ∙ rw (lt-ltb h.from a lt) refl

    pub taken_inside : Done
    taken_inside =
        let wide = before in
        let new : AreThreaded (front ++ record { from = h.from; to = a } ∷ rest) three =
        thread_join no_hole front (record { from = h.from; to = a } ∷ rest) three
        (thread_kept h.from front lo h.from h.from h.to bytes three all_kept c.below (inl (omega arith)) low)
        (first, thread_kept no_hole rest b hi h.from (h.from + 8) one three three_kept rest_holes (inr (omega arith)) one_rest) in
        let same : AreSameOutside hs bytes three = used_kept h.from h.to hs bytes three (free h.from h.to (omega arith) (omega arith)) all_kept in
        subst (λ (o : Option ℕ). AreThreaded (taken a b hs) (put_word (put_link one o behind) h.from (a - h.from)) × AreSameOutside hs bytes (put_word (put_link one o behind) h.from (a - h.from)))
        (sym (c.inside lt)) (subst (λ (l : List Span). AreThreaded l three) (sym left_is) new, same)

  -- nothing is
  module _ (at : h.from ≡ a) where
    abbrev linked : List ℕ
    linked = put_link one (last_before h.from front) behind

    abbrev last : List ℕ
    last = put_word linked h.from (a - h.from)

    wide : a + 8 ≤ b
    wide = room a b low_8 high_8 some

    one_front : IsThread h.from front one
    one_front = thread_kept h.from front lo h.from b h.to bytes one one_kept c.below (inl (omega arith)) low

    linked_kept : IsKept lo h.from one linked
    linked_kept = link_kept h.from behind lo h.from front one c.below one_front

    room_there : h.from + 4 ≤ length linked
    room_there = let long = linked_kept.long in let longer = one_kept.long in let inside = fits in let to = c.to in let w = wide in omega arith

    word : IsKept h.from (h.from + 4) linked last
    word = kept_word linked h.from (a - h.from) room_there

    last_front : IsThread behind front last
    last_front = thread_kept behind front lo h.from h.from (h.from + 4) linked last word c.below (inl (omega arith)) (relink h.from behind lo h.from front one behind_small c.below one_front)

    last_rest : IsThread no_hole rest last
    last_rest =
        let w = wide in
        thread_kept no_hole rest b hi h.from (h.from + 4) linked last word rest_holes (inr (omega arith)) (thread_kept no_hole rest b hi lo h.from one linked linked_kept rest_holes (inr (omega arith)) one_rest)

    rest_is : taken a b hs ≡ front ++ rest
    rest_is = c.left ∙ rw (le-ltb h.from a (omega arith)) refl

    among : (x y : ℕ) → IsFree x y front → IsFree x y hs
    among x y is = subst (λ (l : List Span). IsFree x y l) (sym c.whole) (free_front x y front (h ∷ back) is)

    same : AreSameOutside hs bytes last
    same =
        let w = wide in let to = c.to in
        used_trans hs bytes one last one_used (used_trans hs one linked last (link_used h.from behind lo h.from front hs one among c.below one_front)
        (used_kept h.from (h.from + 4) hs linked last (free h.from (h.from + 4) (omega arith) (omega arith)) word))

    pub taken_whole : Done
    taken_whole =
        let new : AreThreaded (front ++ rest) last = thread_join no_hole front rest last (subst (λ (n : ℕ). IsThread n front last) behind_is last_front) last_rest in
        subst (λ (o : Option ℕ). AreThreaded (taken a b hs) (put_word (put_link one o behind) h.from (a - h.from)) × AreSameOutside hs bytes (put_word (put_link one o behind) h.from (a - h.from)))
        (sym (c.begins at ∙ ap (λ (x : ℕ). last_before x front) (sym at))) (subst (λ (l : List Span). AreThreaded l last) (sym rest_is) new, same)

  pub taken_done : Done
  taken_done = elim (cases_lt h.from a) [
    | inl lt ↦ taken_inside lt
    | inr le ↦ let from = c.from in taken_whole (omega arith)
  ]

-- a hole of a thread
hole_words : (end from to : ℕ) (hs : List Span) (bytes : List ℕ) → HasHole from to hs → IsThread end hs bytes → IsMultiple 8 from × IsMultiple 8 to × (to ≤ length bytes)
hole_words end from to [] bytes has thread = absurd has
hole_words end from to (h ∷ hs) bytes (inl is) thread =
    let words = thread.0 in
    (subst (IsMultiple 8) is.0 words.low, subst (IsMultiple 8) is.1 words.high, subst (λ n. n ≤ length bytes) is.1 words.inside)
hole_words end from to (h ∷ hs) bytes (inr rest) thread = hole_words end from to hs bytes rest thread.1

-- [a, b) is put, and makes a hole [from, to)
module _ (lo hi a b : ℕ) (hs : List Span) (bytes : List ℕ) (front : List Span) (from to : ℕ) (back joins : List Span) (c : IsPutAt lo hi a b hs front from to back joins)
    (some : a < b) (low_8 : IsMultiple 8 a) (high_8 : IsMultiple 8 b) (small : hi < 2 ^ 32) (inside : b ≤ length bytes) (thread : AreThreaded hs bytes) where
  abbrev put_next : ℕ
  put_next = first_of no_hole back

  put_cut : IsThread no_hole (front ++ (joins ++ back)) bytes
  put_cut = subst (λ (l : List Span). IsThread no_hole l bytes) c.whole thread

  put_low : IsThread (first_of no_hole (joins ++ back)) front bytes
  put_low = thread_front no_hole front (joins ++ back) bytes put_cut

  put_high : IsThread no_hole back bytes
  put_high = thread_back no_hole joins back bytes (thread_back no_hole front (joins ++ back) bytes put_cut)

  from_8 : IsMultiple 8 from
  from_8 = elim c.begin [
    | inl alone ↦ subst (IsMultiple 8) (sym alone.0) low_8
    | inr hole ↦ (hole_words no_hole from a hs bytes hole.1 thread).0
  ]

  to_8 : IsMultiple 8 to
  to_8 = elim c.end [
    | inl alone ↦ subst (IsMultiple 8) (sym alone) high_8
    | inr hole ↦ (hole_words no_hole b to hs bytes hole thread).1
  ]

  to_inside : to ≤ length bytes
  to_inside = elim c.end [
    | inl alone ↦ omega arith
    | inr hole ↦ (hole_words no_hole b to hs bytes hole thread).2
  ]

  from_to : from < to
  from_to = let low = c.below in let high = c.above in omega arith

  wide_enough : from + 8 ≤ to
  wide_enough = room from to from_8 to_8 from_to

  abbrev all : List Span
  all = front ++ record { from = from; to = to } ∷ back

  -- once the hole below is linked to it
  module _ (one : List ℕ) (kept : IsKept lo (from + 8) bytes one) (linked : IsThread from front one) (same : AreSameOutside all bytes one) where
    abbrev put : List ℕ
    put = put_words one from (to - from) put_next

    long_there : to ≤ length one
    long_there = let long = kept.long in let i = to_inside in omega arith

    put_kept : IsKept from (from + 8) one put
    put_kept = let long = long_there in let w = wide_enough in kept_words one from (to - from) put_next (omega arith)

    pub put_written : AreThreaded (joined a b hs) put × AreSameOutside (joined a b hs) bytes put
    put_written =
        let low = c.low in
        let w = wide_enough in
        let top = c.high in
        let threaded : AreThreaded all put = between lo from hi from to front back one from_8 to_8 from_to long_there (omega arith) top small c.lower c.higher linked (thread_kept no_hole back (suc to) hi lo (from + 8) bytes one kept c.higher (inr (omega arith)) put_high) in
        let outside : AreSameOutside all bytes put =
        used_trans all bytes one put same (used_kept from (from + 8) all one put (free_back from (from + 8) front (record { from = from; to = to } ∷ back) (inl (omega arith, omega arith))) put_kept) in
        subst (λ (l : List Span). AreThreaded l put × AreSameOutside l bytes put) (sym c.made) (threaded, outside)

  -- where no hole ends at it
  put_alone : from ≡ a → last_before a hs ≡ last_before a front
      → AreThreaded (joined a b hs) (put_words (put_link bytes (last_before a hs) from) from (to - from) put_next)
      × AreSameOutside (joined a b hs) bytes (put_words (put_link bytes (last_before a hs) from) from (to - from) put_next)
  put_alone at is =
      let one : List ℕ = put_link bytes (last_before from front) from in
      let top = c.high in
      let w = wide_enough in
      let below : last_before a hs ≡ last_before from front = is ∙ ap (λ (x : ℕ). last_before x front) (sym at) in
      let kept : IsKept lo from bytes one = link_kept (first_of no_hole (joins ++ back)) from lo from front bytes c.lower put_low in
      subst (λ (o : Option ℕ). AreThreaded (joined a b hs) (put_words (put_link bytes o from) from (to - from) put_next) × AreSameOutside (joined a b hs) bytes (put_words (put_link bytes o from) from (to - from) put_next)) (sym below)
      (put_written one (kept_wider lo from lo (from + 8) bytes one (omega arith) (omega arith) kept) (relink (first_of no_hole (joins ++ back)) from lo from front bytes (omega arith) c.lower put_low)
      (link_used (first_of no_hole (joins ++ back)) from lo from front all bytes (λ x y f. free_front x y front (record { from = from; to = to } ∷ back) f) c.lower put_low))

  -- where one does
  put_joined : last_before a hs ≡ Some from → first_of no_hole (joins ++ back) ≡ from
      → AreThreaded (joined a b hs) (put_words (put_link bytes (last_before a hs) from) from (to - from) put_next)
      × AreSameOutside (joined a b hs) bytes (put_words (put_link bytes (last_before a hs) from) from (to - from) put_next)
  put_joined is first =
      let one : List ℕ = put_word bytes (from + 4) from in
      let low = c.low in
      let w = wide_enough in
      let i = to_inside in
      let kept : IsKept from (from + 8) bytes one = kept_word_in from (from + 8) bytes (from + 4) from (omega arith) (omega arith) (omega arith) in
      let linked : IsThread from front one = thread_kept from front lo from from (from + 8) bytes one kept c.lower (inl (omega arith)) (subst (λ (n : ℕ). IsThread n front bytes) first put_low) in
      let same : AreSameOutside all bytes one = used_kept from (from + 8) all bytes one (free_back from (from + 8) front (record { from = from; to = to } ∷ back) (inl (omega arith, omega arith))) kept in
      subst (λ (o : Option ℕ). AreThreaded (joined a b hs) (put_words (put_link bytes o from) from (to - from) put_next) × AreSameOutside (joined a b hs) bytes (put_words (put_link bytes o from) from (to - from) put_next)) (sym is)
      (put_written one (kept_wider from (from + 8) lo (from + 8) bytes one low (omega arith) kept) linked same)

  pub put_done : AreThreaded (joined a b hs) (put_words (put_link bytes (last_before a hs) from) from (to - from) put_next)
      × AreSameOutside (joined a b hs) bytes (put_words (put_link bytes (last_before a hs) from) from (to - from) put_next)
  put_done = elim c.begin [
    | inl alone ↦ put_alone alone.0 alone.1
    | inr hole ↦ put_joined hole.2 (hole.3 no_hole)
  ]

-- What the calls need, by the holes beside the memory.

pub place_behind : {r : Range} {a n : ℕ} → C.IsPart r a n → C.IsPlace r (a + n)
place_behind {r} {a} {n} part = let from = part.from in record {
  from = omega arith;
  to = part.to;
  grained = multiple_sum r.grain a n part.grained part.rounded;
}

pub multiple_of_8 : (g a : ℕ) → IsMultiple 8 g → IsMultiple g a → IsMultiple 8 a
multiple_of_8 g a wide grained = (wide.0 * grained.0, grained.1 ∙ ap (λ n. n * grained.0) wide.1 ∙ C.mul_assoc 8 wide.0 _)

some_of : {r : Range} {a n : ℕ} → C.IsPart r a n → a < a + n
some_of part = let has = part.some in omega arith

start_8 : {r : Range} {a n : ℕ} → C.HasRoom r → C.IsPart r a n → IsMultiple 8 a
start_8 {r} {a} {n} roomy part = multiple_of_8 r.grain a roomy.wide part.grained

end_8 : {r : Range} {a n : ℕ} → C.HasRoom r → C.IsPart r a n → IsMultiple 8 (a + n)
end_8 {r} {a} {n} roomy part = multiple_of_8 r.grain (a + n) roomy.wide (multiple_sum r.grain a n part.grained part.rounded)

-- what is asked for a part, which is free or used
pub record Asked (Is : ℕ → ℕ → List Span → Type 0) (r : Range) (hs : List Span) (bytes : List ℕ) (a n : ℕ) : Type 0 where
  pub roomy : C.HasRoom r
  pub part : C.IsPart r a n
  pub holes : AreHoles r.lo r.hi hs
  pub thread : AreThreaded hs bytes
  pub is : Is a (a + n) hs

pub asked : (Is : ℕ → ℕ → List Span → Type 0) (bytes : List ℕ) {f now : C.Free} {a n : ℕ} → f ≡ now → C.HasRoom f.range → AreHoles f.range.lo f.range.hi f.holes → C.IsPart now.range a n → AreThreaded now.holes bytes → Is a (a + n) now.holes → Asked Is f.range f.holes bytes a n
asked Is bytes {f} {now} {a} {n} same roomy holes part thread is = record {
  roomy = roomy;
  part = subst (λ g. C.IsPart g.range a n) (sym same) part;
  holes = holes;
  thread = subst (λ g. AreThreaded g.holes bytes) (sym same) thread;
  is = subst (λ g. Is a (a + n) g.holes) (sym same) is;
}

module _ {r : Range} {hs : List Span} {bytes : List ℕ} {a n : ℕ} (p : Asked IsFree r hs bytes a n) where
  abbrev taken_cut : (front : List Span) × (h : Span) × (back : List Span) × IsTakenFrom r.lo r.hi a (a + n) hs front h back
  taken_cut = cut_taken r.lo r.hi a (a + n) hs (some_of p.part) p.holes p.is

  pub take_there : None ≡ last_before (a + n) hs → ⊥
  take_there is = let c = taken_cut in C.none-some c.1.from (is ∙ c.3.at)

  module _ (begin : ℕ) (at : Some begin ≡ last_before (a + n) hs) where
    begin_is : begin ≡ taken_cut.1.from
    begin_is = C.same_Some begin taken_cut.1.from (at ∙ taken_cut.3.at)

    words : HasWords taken_cut.1 (first_of no_hole taken_cut.2) bytes
    words = let c = taken_cut in taken_words r.lo r.hi a (a + n) hs bytes c.0 c.1 c.2 c.3 (some_of p.part) (start_8 p.roomy p.part) (end_8 p.roomy p.part) p.roomy.small p.thread

    pub take_from : begin ≤ a
    take_from = let e = begin_is in let from = taken_cut.3.from in omega arith

    pub take_fits : begin + 8 ≤ length bytes
    take_fits = let e = begin_is in let w = words in let fits = room taken_cut.1.from taken_cut.1.to w.low w.high w.some in let inside = w.inside in omega arith

    take_size : word_in bytes begin ≡ taken_cut.1.to - taken_cut.1.from
    take_size = ap (λ (x : ℕ). word_in bytes x) begin_is ∙ words.size

    take_next : word_in bytes (begin + 4) ≡ first_of no_hole taken_cut.2
    take_next = ap (λ (x : ℕ). word_in bytes (x + 4)) begin_is ∙ words.link

    -- where the hole ends
    take_end : begin + word_in bytes begin ≡ taken_cut.1.to
    take_end = let e = begin_is in let f = take_size in let has = words.some in omega arith

    pub take_top : begin + word_in bytes begin ≤ r.hi
    take_top = let e = take_end in let top = taken_cut.3.high in omega arith

    pub take_room : a + n < begin + word_in bytes begin → a + n + 8 ≤ length bytes
    take_room lt =
        let e = take_end in
        let w = words in
        let inside = w.inside in
        let fits = room (a + n) taken_cut.1.to (end_8 p.roomy p.part) w.high (omega arith) in omega arith

    -- the words of the last hole below
    pub take_link : IfSome (last_before a hs) (λ (x : ℕ). x + 8 ≤ length bytes)
    take_link =
        let c = taken_cut in
        let cut : IsThread no_hole (c.0 ++ c.1 ∷ c.2) bytes = subst (λ (l : List Span). IsThread no_hole l bytes) c.3.whole p.thread in
        elim (cases_lt c.1.from a) [
          | inl lt ↦ let e = begin_is in let fits = take_fits in subst (λ (o : Option ℕ). IfSome o (λ (x : ℕ). x + 8 ≤ length bytes)) (sym (c.3.inside lt)) (omega arith)
          | inr le ↦
              let from = c.3.from in
              let e : c.1.from ≡ a = omega arith in
              subst (λ (o : Option ℕ). IfSome o (λ (x : ℕ). x + 8 ≤ length bytes)) (sym (c.3.begins e ∙ ap (λ (x : ℕ). last_before x c.0) (sym e)))
              (link_fits c.1.from r.lo c.1.from c.0 bytes c.3.below (thread_front no_hole c.0 (c.1 ∷ c.2) bytes cut))
        ]

    pub take_written : (size next behind : ℕ) (made tied left : List ℕ) → size ≡ word_in bytes begin → next ≡ word_in bytes (begin + 4) → made ≡ put_hole bytes (a + n) (begin + size) next
        → behind ≡ first_of next (add_span (a + n) (begin + size) []) → tied ≡ put_link made (last_before a hs) behind → left ≡ put_word tied begin (a - begin)
        → AreThreaded (taken a (a + n) hs) left × AreSameOutside hs bytes left
    take_written size next behind made tied left size_is next_is made_is behind_is tied_is left_is =
        let c = taken_cut in
        let end : begin + size ≡ c.1.to = ap (λ (m : ℕ). begin + m) size_is ∙ take_end in
        let link : next ≡ first_of no_hole c.2 = next_is ∙ take_next in
        let first : made ≡ put_hole bytes (a + n) c.1.to (first_of no_hole c.2) = made_is ∙ ap (λ (m : ℕ). put_hole bytes (a + n) m next) end ∙ ap (λ (m : ℕ). put_hole bytes (a + n) c.1.to m) link in
        let onward : behind ≡ first_of (first_of no_hole c.2) (add_span (a + n) c.1.to []) = behind_is ∙ ap (λ (m : ℕ). first_of next (add_span (a + n) m [])) end ∙ ap (λ (m : ℕ). first_of m (add_span (a + n) c.1.to [])) link in
        let second = tied_is ∙ ap (λ (l : List ℕ). put_link l (last_before a hs) behind) first ∙ ap (λ (m : ℕ). put_link (put_hole bytes (a + n) c.1.to (first_of no_hole c.2)) (last_before a hs) m) onward in
        let third = left_is ∙ ap (λ (l : List ℕ). put_word l begin (a - begin)) second
        ∙ ap (λ (m : ℕ). put_word (put_link (put_hole bytes (a + n) c.1.to (first_of no_hole c.2)) (last_before a hs) (first_of (first_of no_hole c.2) (add_span (a + n) c.1.to []))) m (a - m)) begin_is in
        subst (λ (l : List ℕ). AreThreaded (taken a (a + n) hs) l × AreSameOutside hs bytes l) (sym third)
        (taken_done r.lo r.hi a (a + n) hs bytes c.0 c.1 c.2 c.3 (some_of p.part) (start_8 p.roomy p.part) (end_8 p.roomy p.part) p.roomy.small p.thread)

module _ {r : Range} {hs : List Span} {bytes : List ℕ} {a n : ℕ} (p : Asked C.IsUsed r hs bytes a n) (inside : a + n ≤ length bytes) where
  abbrev put_at : (front : List Span) × (from to : ℕ) × (back joins : List Span) × IsPutAt r.lo r.hi a (a + n) hs front from to back joins
  put_at = cut_put r.lo r.hi a (a + n) hs (some_of p.part) p.part.from p.part.to p.holes p.is

  put_from : a - length_to a hs ≡ put_at.1
  put_from = let c = put_at in let e = c.5.ending in let le = c.5.below in omega arith

  pub put_less : length_to a hs ≤ a
  put_less = let c = put_at in let e = c.5.ending in omega arith

  put_end : a + n + length_at (a + n) hs ≡ put_at.2
  put_end = let c = put_at in let e = c.5.at in let le = c.5.above in omega arith

  pub put_top : a + n + length_at (a + n) hs ≤ r.hi
  put_top = let e = put_end in let top = put_at.5.high in omega arith

  put_wide : put_at.1 + 8 ≤ put_at.2
  put_wide = let c = put_at in wide_enough r.lo r.hi a (a + n) hs bytes c.0 c.1 c.2 c.3 c.4 c.5 (some_of p.part) (start_8 p.roomy p.part) (end_8 p.roomy p.part) p.roomy.small inside p.thread

  put_inside : put_at.2 ≤ length bytes
  put_inside = let c = put_at in to_inside r.lo r.hi a (a + n) hs bytes c.0 c.1 c.2 c.3 c.4 c.5 (some_of p.part) (start_8 p.roomy p.part) (end_8 p.roomy p.part) p.roomy.small inside p.thread

  pub put_fits : a - length_to a hs + 8 ≤ length bytes
  put_fits = let e = put_from in let w = put_wide in let i = put_inside in omega arith

  pub put_room : IfSome (last_before a hs) (λ (x : ℕ). x + 8 ≤ length bytes)
  put_room =
      let c = put_at in
      let cut : IsThread no_hole (c.0 ++ (c.4 ++ c.3)) bytes = subst (λ (l : List Span). IsThread no_hole l bytes) c.5.whole p.thread in
      elim c.5.begin [
        | inl alone ↦ subst (λ (o : Option ℕ). IfSome o (λ (x : ℕ). x + 8 ≤ length bytes)) (sym (alone.1 ∙ ap (λ (x : ℕ). last_before x c.0) (sym alone.0)))
            (link_fits (first_of no_hole (c.4 ++ c.3)) r.lo c.1 c.0 bytes c.5.lower (thread_front no_hole c.0 (c.4 ++ c.3) bytes cut))
        | inr hole ↦ let w = put_wide in let i = put_inside in subst (λ (o : Option ℕ). IfSome o (λ (x : ℕ). x + 8 ≤ length bytes)) (sym hole.2) (omega arith)
      ]

  pub put_all : (next end ending : ℕ) (tied left : List ℕ) → next ≡ C.next_above (a + n) hs → end ≡ length_at (a + n) hs → ending ≡ length_to a hs → tied ≡ put_link bytes (last_before a hs) (a - ending)
      → left ≡ put_words tied (a - ending) (a + n + end - (a - ending)) next → AreThreaded (joined a (a + n) hs) left × AreSameOutside (joined a (a + n) hs) bytes left
  put_all next end ending tied left next_is end_is ending_is tied_is left_is =
      let c = put_at in
      let from : a - ending ≡ c.1 = ap (λ (m : ℕ). a - m) ending_is ∙ put_from in
      let to : a + n + end ≡ c.2 = ap (λ (m : ℕ). a + n + m) end_is ∙ put_end in
      let link : next ≡ first_of no_hole c.3 = next_is ∙ c.5.next in
      let first : tied ≡ put_link bytes (last_before a hs) c.1 = tied_is ∙ ap (λ (m : ℕ). put_link bytes (last_before a hs) m) from in
      let second = left_is ∙ ap (λ (l : List ℕ). put_words l (a - ending) (a + n + end - (a - ending)) next) first
      ∙ ap (λ (m : ℕ). put_words (put_link bytes (last_before a hs) c.1) m (a + n + end - m) next) from
      ∙ ap (λ (m : ℕ). put_words (put_link bytes (last_before a hs) c.1) c.1 (m - c.1) next) to
      ∙ ap (λ (m : ℕ). put_words (put_link bytes (last_before a hs) c.1) c.1 (c.2 - c.1) m) link in
      subst (λ (l : List ℕ). AreThreaded (joined a (a + n) hs) l × AreSameOutside (joined a (a + n) hs) bytes l) (sym second)
      (put_done r.lo r.hi a (a + n) hs bytes c.0 c.1 c.2 c.3 c.4 c.5 (some_of p.part) (start_8 p.roomy p.part) (end_8 p.roomy p.part) p.roomy.small inside p.thread)

-- n used bytes slide over a whole hole
module _ {f : C.Free} {bytes : List ℕ} {from to n : ℕ} (p : MayPass f bytes from to n) where
  pub pass_at : (front rest : List Span) × IsPassed f.range.hi from to n f.range.lo f.holes front rest
  pass_at = cut_passed f.range.hi from to n p.down p.new.some f.range.lo f.holes p.ordered p.whole p.used

  pub pass_put : (end : ℕ) × (back joins : List Span) × IsPutBelow (to + n) (from + n) f.range.hi pass_at.1 end back joins
  pass_put = let down = p.down in cut_below (to + n) (from + n) f.range.hi pass_at.1 (omega arith) p.old.to pass_at.2.higher

  pass_threads : IsThread to pass_at.0 bytes × IsThread no_hole pass_at.1 bytes
  pass_threads =
      let c = pass_at in let h : Span = record { from = to; to = from } in let cut = subst (λ (l : List Span). IsThread no_hole l bytes) c.2.whole p.kept in
      (thread_front no_hole c.0 (h ∷ c.1) bytes cut, (thread_back no_hole c.0 (h ∷ c.1) bytes cut).1)

  pass_high_8 : IsMultiple 8 pass_put.0 × (pass_put.0 ≤ length bytes)
  pass_high_8 = let inside = p.inside in elim pass_put.3.end [
    | inl alone ↦ (subst (IsMultiple 8) (sym alone.0) (end_8 p.roomy p.old), let e = alone.0 in omega arith)
    | inr there ↦ let w = hole_words no_hole (from + n) pass_put.0 pass_at.1 bytes there pass_threads.1 in (w.1, w.2)
  ]

  pub pass_fits : (from + n + length_at (from + n) f.holes ≡ pass_put.0) × (pass_put.0 ≤ f.range.hi) × (to + n + 8 ≤ pass_put.0) × (pass_put.0 ≤ length bytes)
  pass_fits =
      let put = pass_put.3 in let above = put.from in let one = pass_at.2.at in let two = put.at in let down = p.down in
      (omega arith, put.high, room (to + n) pass_put.0 (end_8 p.roomy p.new) pass_high_8.0 (omega arith), pass_high_8.1)

  pub pass_below : Some to ≡ last_before (from + n) f.holes
  pass_below = sym pass_at.2.last

  pub pass_link : IfSome (last_before to f.holes) (λ (x : ℕ). x + 8 ≤ length bytes)
  pass_link = let c = pass_at in subst (λ (o : Option ℕ). IfSome o (λ (x : ℕ). x + 8 ≤ length bytes)) (sym c.2.begin) (link_fits to f.range.lo to c.0 bytes c.2.lower pass_threads.0)

  abbrev pass_one : List ℕ
  pass_one = put_link bytes (last_before to f.holes) (to + n)

  abbrev pass_two : List ℕ
  pass_two = C.put_part pass_one to (C.part pass_one from n)

  abbrev pub pass_three : List ℕ
  pass_three = put_words pass_two (to + n) (from + n + length_at (from + n) f.holes - (to + n)) (C.next_above (from + n) f.holes)

  abbrev pub Passes : List ℕ → Type 0
  Passes last = AreThreaded (C.slid_down from to n f.holes) last × C.AreSameBut to n f.holes (C.slid_down from to n f.holes) bytes last × (C.part last to n ≡ C.part bytes from n)

  pub passed : Passes pass_three
  passed =
      let c = pass_at in let is = c.2 in let end = pass_put.0 in let back = pass_put.1 in let put = pass_put.3 in let lo = f.range.lo in
      let fits = pass_fits.2 in let inside = pass_fits.3 in let low = is.low in let small = p.roomy.small in let top = put.high in let within = p.inside in let down = p.down in
      let all : List Span = c.0 ++ record { from = to + n; to = end } ∷ back in
      let made : C.slid_down from to n f.holes ≡ all = is.made ∙ ap (λ (l : List Span). c.0 ++ l) put.made in
      let link = ap (λ (o : Option ℕ). put_link bytes o (to + n)) (sym is.begin) in
      let linked : IsKept lo to bytes pass_one = subst (IsKept lo to bytes) link (link_kept to (to + n) lo to c.0 bytes is.lower pass_threads.0) in
      let same : AreSameOutside f.holes bytes pass_one = subst (AreSameOutside f.holes bytes) link
      (link_used to (to + n) lo to c.0 f.holes bytes (λ x y free. subst (λ (l : List Span). IsFree x y l) (sym is.whole) (free_front x y c.0 (record { from = to; to = from } ∷ c.1) free)) is.lower pass_threads.0) in
      let long = linked.long in let size = C.length-part pass_one from n (omega arith) in let target : to + n ≤ length pass_one = omega arith in
      let slid : IsKept to (to + n) pass_one pass_two = record {
        long = C.length-put_part pass_one to (C.part pass_one from n) (omega arith);
        outside = record {
          below = C.take-put_part pass_one to (C.part pass_one from n) to (omega arith) (omega arith);
          above = C.drop-put_part pass_one to (C.part pass_one from n) (to + n) (omega arith) (omega arith);
        };
      } in
      let longer = slid.long in
      let last : IsKept (to + n) (to + n + 8) pass_two pass_three = kept_words pass_two (to + n) (from + n + length_at (from + n) f.holes - (to + n)) (C.next_above (from + n) f.holes) (omega arith) in
      let front = thread_kept (to + n) c.0 lo to to (to + n) pass_one pass_two slid is.lower (inl (omega arith)) (subst (IsThread (to + n) c.0) link (relink to (to + n) lo to c.0 bytes (omega arith) is.lower pass_threads.0)) in
      let behind = thread_kept no_hole back (suc end) f.range.hi lo (to + n) bytes pass_two (kept_trans lo (to + n) bytes pass_one pass_two (kept_wider lo to lo (to + n) bytes pass_one (omega arith) (omega arith) linked) (kept_wider to (to + n) lo (to + n) pass_one pass_two low (omega arith) slid))
      put.above (inr (omega arith)) (thread_back no_hole pass_put.2 back bytes (subst (λ (l : List Span). IsThread no_hole l bytes) put.whole pass_threads.1)) in
      let threaded = between lo to f.range.hi (to + n) end c.0 back pass_two (end_8 p.roomy p.new) pass_high_8.0 (omega arith) (omega arith) (omega arith) top small is.lower put.above front behind in (
        subst (λ (l : List Span). AreThreaded l pass_three) (sym made) (subst (AreThreaded all) (λ i. put_words pass_two (to + n) (sym pass_fits.0 i - (to + n)) (sym (is.next ∙ put.next) i)) threaded),
        others_stay from to n bytes pass_one pass_two pass_three f.holes (C.slid_down from to n f.holes) same refl
            (subst (λ (l : List Span). AreSameOutside l pass_two pass_three) (sym made) (used_kept (to + n) (to + n + 8) all pass_two pass_three (free_back (to + n) (to + n + 8) c.0 (record { from = to + n; to = end } ∷ back) (inl (omega arith, omega arith))) last)) (omega arith) (omega arith),
        C.part_below pass_three pass_two to n (to + n) (omega arith) last.outside.below ∙ part_slid from to n pass_one pass_two refl (omega arith) target ∙ same.same from n p.used,
      )
