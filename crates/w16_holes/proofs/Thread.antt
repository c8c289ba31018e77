-- A thread through bytes: what a word written elsewhere leaves of it, threads cut and appended, and the last hole linked anew.
use Rattle.w16_holes.proofs
use proofs.Common as C
use proofs.Common.{ℕ, suc, ◌≡◌, ◌<◌, ◌≤◌, ◌+◌, ◌^◌, ◌⊎◌, inl, inr, List, [], ◌∷◌, ◌++◌, length, Option, Some, None, arith, refl, sym, ap, ◌∙◌, subst, Span, put_word, length-put_word, AreHoles, IsFree, AreSameOutside, last_before, HasWords, IsThread, first_of, put_link, room}
use proofs.Write.{apart}

-- bytes that stay outside [x, y)
pub record IsKept (x y : ℕ) (old new : List ℕ) : Type 0 where
  pub long : length new ≡ length old
  pub outside : C.IsSameOutside x y old new

pub kept_refl : (x y : ℕ) (bytes : List ℕ) → IsKept x y bytes bytes
kept_refl x y bytes = record { long = refl; outside = record { below = refl; above = refl } }

pub kept_trans : (x y : ℕ) (one two three : List ℕ) → IsKept x y one two → IsKept x y two three → IsKept x y one three
kept_trans x y one two three first second = record {
  long = second.long ∙ first.long;
  outside = record { below = second.outside.below ∙ first.outside.below; above = second.outside.above ∙ first.outside.above };
}

pub kept_wider : (x y u v : ℕ) (old new : List ℕ) → u ≤ x → y ≤ v → IsKept x y old new → IsKept u v old new
kept_wider x y u v old new low high kept = record {
  long = kept.long;
  outside = record { below = C.take_lower new old u x low kept.outside.below; above = C.drop_higher new old y v high kept.outside.above };
}

pub kept_word : (bytes : List ℕ) (at value : ℕ) → at + 4 ≤ length bytes → IsKept at (at + 4) bytes (put_word bytes at value)
kept_word bytes at value le = record { long = length-put_word bytes at value le; outside = C.IsSameOutside-put_word bytes at value le }

-- a word written in [x, y)
pub kept_word_in : (x y : ℕ) (bytes : List ℕ) (at value : ℕ) → x ≤ at → at + 4 ≤ y → at + 4 ≤ length bytes → IsKept x y bytes (put_word bytes at value)
kept_word_in x y bytes at value low high le = kept_wider at _ x y bytes _ low high (kept_word bytes at value le)

pub kept_words : (bytes : List ℕ) (at size next : ℕ) → at + 8 ≤ length bytes → IsKept at (at + 8) bytes (C.put_words bytes at size next)
kept_words bytes at size next le =
    let long = length-put_word bytes at size (omega arith) in
    kept_trans at _ bytes (put_word bytes at size) _
    (kept_word_in at _ bytes at size (omega arith) (omega arith) (omega arith))
    (kept_word_in at _ _ _ next (omega arith) (omega arith) (omega arith))

pub word_kept : (x y : ℕ) (old new : List ℕ) (at : ℕ) → IsKept x y old new → (at + 4 ≤ x) ⊎ (y ≤ at) → C.word_in new at ≡ C.word_in old at
word_kept x y old new at kept (inl below) = C.word_in-same old new at (C.part_below new old at 4 x below kept.outside.below)
word_kept x y old new at kept (inr above) = C.word_in-same old new at (C.part_above new old at 4 y above kept.outside.above)

pub words_kept : (h : Span) (next x y : ℕ) (old new : List ℕ) → IsKept x y old new → (h.to ≤ x) ⊎ (y ≤ h.from) → HasWords h next old → HasWords h next new
words_kept h next x y old new kept beside words =
    let fits = room h.from h.to words.low words.high words.some in
    let long = kept.long in
    let inside = words.inside in
    let size_apart : (h.from + 4 ≤ x) ⊎ (y ≤ h.from) = elim beside [
      | inl below ↦ inl (omega arith)
      | inr above ↦ inr above
    ] in
    let link_apart : (h.from + 4 + 4 ≤ x) ⊎ (y ≤ h.from + 4) = elim beside [
      | inl below ↦ inl (omega arith)
      | inr above ↦ inr (omega arith)
    ] in
    record {
      low = words.low;
      high = words.high;
      some = words.some;
      inside = omega arith;
      size = word_kept x y old new h.from kept size_apart ∙ words.size;
      link = word_kept x y old new _ kept link_apart ∙ words.link;
    }

pub thread_kept : (last : ℕ) (hs : List Span) (lo hi x y : ℕ) (old new : List ℕ) → IsKept x y old new → AreHoles lo hi hs → (hi ≤ x) ⊎ (y ≤ lo) → IsThread last hs old → IsThread last hs new
thread_kept last [] lo hi x y old new kept holes beside thread = tt
thread_kept last (h ∷ hs) lo hi x y old new kept holes beside thread =
    let from = holes.0 in
    let some = holes.1 in
    let to = holes.2 in
    let first : (h.to ≤ x) ⊎ (y ≤ h.from) = elim beside [
      | inl below ↦ inl (omega arith)
      | inr above ↦ inr (omega arith)
    ] in
    let rest : (hi ≤ x) ⊎ (y ≤ suc h.to) = elim beside [
      | inl below ↦ inl below
      | inr above ↦ inr (omega arith)
    ] in
    (words_kept h _ x y old new kept first thread.0, thread_kept last hs _ hi x y old new kept holes.3 rest thread.1)

-- Threads appended.

first_append : (last : ℕ) (front back : List Span) → first_of last (front ++ back) ≡ first_of (first_of last back) front
first_append last [] back = refl
first_append last (h ∷ hs) back = refl

pub thread_join : (last : ℕ) (front back : List Span) (bytes : List ℕ) → IsThread (first_of last back) front bytes → IsThread last back bytes → IsThread last (front ++ back) bytes
thread_join last [] back bytes low high = high
thread_join last (h ∷ hs) back bytes low high = (subst (λ n. HasWords h n bytes) (sym (first_append last hs back)) low.0, thread_join last hs back bytes low.1 high)

pub thread_front : (last : ℕ) (front back : List Span) (bytes : List ℕ) → IsThread last (front ++ back) bytes → IsThread (first_of last back) front bytes
thread_front last [] back bytes thread = tt
thread_front last (h ∷ hs) back bytes thread = (subst (λ n. HasWords h n bytes) (first_append last hs back) thread.0, thread_front last hs back bytes thread.1)

pub thread_back : (last : ℕ) (front back : List Span) (bytes : List ℕ) → IsThread last (front ++ back) bytes → IsThread last back bytes
thread_back last [] back bytes thread = thread
thread_back last (h ∷ hs) back bytes thread = thread_back last hs back bytes thread.1

-- What stays where there is no hole.

pub free_front : (a b : ℕ) (front back : List Span) → IsFree a b front → IsFree a b (front ++ back)
free_front a b [] back free = absurd free
free_front a b (h ∷ hs) back (inl here) = inl here
free_front a b (h ∷ hs) back (inr rest) = inr (free_front a b hs back rest)

pub free_back : (a b : ℕ) (front back : List Span) → IsFree a b back → IsFree a b (front ++ back)
free_back a b [] back free = free
free_back a b (h ∷ hs) back free = inr (free_back a b hs back free)

pub free_part : (a b x y : ℕ) (hs : List Span) → a ≤ x → y ≤ b → IsFree a b hs → IsFree x y hs
free_part a b x y [] low high free = absurd free
free_part a b x y (h ∷ hs) low high (inl here) = let from = here.0 in let to = here.1 in inl (omega arith, omega arith)
free_part a b x y (h ∷ hs) low high (inr rest) = inr (free_part a b x y hs low high rest)

pub used_refl : (hs : List Span) (bytes : List ℕ) → AreSameOutside hs bytes bytes
used_refl hs bytes = record { long = refl; same = λ at n used. refl }

pub used_trans : (hs : List Span) (one two three : List ℕ) → AreSameOutside hs one two → AreSameOutside hs two three → AreSameOutside hs one three
used_trans hs one two three first second = record {
  long = second.long ∙ first.long;
  same = λ at n used. second.same at n used ∙ first.same at n used;
}

-- bytes that stay outside a part of a hole
pub used_kept : (x y : ℕ) (hs : List Span) (old new : List ℕ) → IsFree x y hs → IsKept x y old new → AreSameOutside hs old new
used_kept x y hs old new free kept = record {
  long = kept.long;
  same = λ at n used. elim (apart x y at _ hs free used) [
    | inl above ↦ C.part_above new old at n y above kept.outside.above
    | inr below ↦ C.part_below new old at n x below kept.outside.below
  ];
}

-- The last hole of a list.

-- x is where it begins
pub record IsLast (lo hi : ℕ) (hs : List Span) (bytes : List ℕ) (x : ℕ) : Type 0 where
  pub is : last_before hi hs ≡ Some x
  pub low : lo ≤ x
  pub high : x + 8 ≤ hi
  pub inside : x + 8 ≤ length bytes
  pub free : IsFree x (x + 8) hs

pub last_cons : (a x : ℕ) (h : Span) (hs : List Span) → h.from < a → last_before a hs ≡ Some x → last_before a (h ∷ hs) ≡ Some x
last_cons a x h hs lt is = rw (C.lt-ltb h.from a lt) (ap (λ o. Some (C.unwrap_or o h.from)) is)

pub last_first : (a : ℕ) (h : Span) (hs : List Span) → h.from < a → last_before a hs ≡ None → last_before a (h ∷ hs) ≡ Some h.from
last_first a h hs lt is = rw (C.lt-ltb h.from a lt) (ap (λ o. Some (C.unwrap_or o h.from)) is)

last_of : (last lo hi : ℕ) (h : Span) (hs : List Span) (bytes : List ℕ) → AreHoles lo hi (h ∷ hs) → IsThread last (h ∷ hs) bytes → (x : ℕ) × IsLast lo hi (h ∷ hs) bytes x
last_of last lo hi h [] bytes holes thread =
    let words = thread.0 in
    let fits = room h.from h.to words.low words.high words.some in
    let to = holes.2 in
    let inside = words.inside in
    (h.from, record { is = last_first hi h [] (omega arith) refl; low = holes.0; high = omega arith; inside = omega arith; free = inl (omega arith, omega arith) })
last_of last lo hi h (k ∷ ks) bytes holes thread =
    let rest = last_of last (suc h.to) hi k ks bytes holes.3 thread.1 in
    let from = holes.0 in
    let some = holes.1 in
    let to = holes.2 in
    let low = rest.1.low in
    (rest.0, record { is = last_cons hi rest.0 h (k ∷ ks) (omega arith) rest.1.is; low = omega arith; high = rest.1.high; inside = rest.1.inside; free = inr rest.1.free })

-- linked to another place
pub relink : (old new lo hi : ℕ) (hs : List Span) (bytes : List ℕ) → new < 2 ^ 32 → AreHoles lo hi hs → IsThread old hs bytes → IsThread new hs (put_link bytes (last_before hi hs) new)
relink old new lo hi [] bytes small holes thread = tt
relink old new lo hi (h ∷ []) bytes small holes thread =
    let words = thread.0 in
    let fits = room h.from h.to words.low words.high words.some in
    let to = holes.2 in
    let inside = words.inside in
    let long = length-put_word bytes (h.from + 4) new (omega arith) in
    subst (λ o. IsThread new (h ∷ []) (put_link bytes o new)) (sym (last_first hi h [] (omega arith) refl)) (
      record {
        low = words.low;
        high = words.high;
        some = words.some;
        inside = omega arith;
        size = word_kept (h.from + 4) (h.from + 4 + 4) bytes (put_word bytes _ new) h.from (kept_word bytes _ new (omega arith)) (inl (omega arith)) ∙ words.size;
        link = C.word_in-put_word bytes (h.from + 4) new (omega arith) small;
      },
      tt,
    )
relink old new lo hi (h ∷ k ∷ ks) bytes small holes thread =
    let l = last_of old (suc h.to) hi k ks bytes holes.3 thread.1 in
    let some = holes.1 in
    let to = holes.2 in
    let low = l.1.low in
    let inside = l.1.inside in
    let high = l.1.high in
    let is = last_cons hi l.0 h (k ∷ ks) (omega arith) l.1.is in
    let rest : IsThread new (k ∷ ks) (put_word bytes (l.0 + 4) new) =
    subst (λ o. IsThread new (k ∷ ks) (put_link bytes o new)) l.1.is (relink old new (suc h.to) hi (k ∷ ks) bytes small holes.3 thread.1) in
    subst (λ o. IsThread new (h ∷ k ∷ ks) (put_link bytes o new)) (sym is)
    (words_kept h k.from (l.0 + 4) (l.0 + 4 + 4) bytes _ (kept_word bytes _ new (omega arith)) (inl (omega arith)) thread.0, rest)

pub link_kept : (last value lo hi : ℕ) (hs : List Span) (bytes : List ℕ) → AreHoles lo hi hs → IsThread last hs bytes → IsKept lo hi bytes (put_link bytes (last_before hi hs) value)
link_kept last value lo hi [] bytes holes thread = kept_refl lo hi bytes
link_kept last value lo hi (h ∷ hs) bytes holes thread =
    let l = last_of last lo hi h hs bytes holes thread in
    let low = l.1.low in
    let high = l.1.high in
    let inside = l.1.inside in
    subst (λ o. IsKept lo hi bytes (put_link bytes o value)) (sym l.1.is) (kept_word_in lo hi bytes _ value (omega arith) (omega arith) (omega arith))

-- bytes of holes alone are written there
pub link_used : (last value lo hi : ℕ) (hs all : List Span) (bytes : List ℕ) → ((x y : ℕ) → IsFree x y hs → IsFree x y all) → AreHoles lo hi hs → IsThread last hs bytes → AreSameOutside all bytes (put_link bytes (last_before hi hs) value)
link_used last value lo hi [] all bytes among holes thread = used_refl all bytes
link_used last value lo hi (h ∷ hs) all bytes among holes thread =
    let l = last_of last lo hi h hs bytes holes thread in
    let inside = l.1.inside in
    let word = among (l.0 + 4) (l.0 + 4 + 4) (free_part l.0 (l.0 + 8) (l.0 + 4) (l.0 + 4 + 4) (h ∷ hs) (omega arith) (omega arith) l.1.free) in
    subst (λ o. AreSameOutside all bytes (put_link bytes o value)) (sym l.1.is) (used_kept _ _ all bytes _ word (kept_word bytes _ value (omega arith)))

-- there is room for its link
pub link_fits : (last lo hi : ℕ) (hs : List Span) (bytes : List ℕ) → AreHoles lo hi hs → IsThread last hs bytes → C.IfSome (last_before hi hs) (λ x. x + 8 ≤ length bytes)
link_fits last lo hi [] bytes holes thread = tt
link_fits last lo hi (h ∷ hs) bytes holes thread =
    let l = last_of last lo hi h hs bytes holes thread in
    subst (λ o. C.IfSome o (λ x. x + 8 ≤ length bytes)) (sym l.1.is) l.1.inside
