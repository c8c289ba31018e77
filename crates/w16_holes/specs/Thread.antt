-- Holes kept in their own bytes, as a thread: each has its size as a double word where it begins, and behind it as another where the next hole begins.
use Rattle.std.specs.Prelude.{ℕ, ◌<◌, ◌≤◌, ◌≡◌, ◌+◌, ◌-◌, ◌^◌, nat_lt, if◌then◌else◌, List, [], ◌∷◌, length, Option, Some, None}
use Rattle.std.proofs.Common.{arith, ◌∙◌, inl, inr}
use Rattle.w16_model.specs.{declared.Span.Span, Bytes.part, Heap.IsMultiple}
use Rattle.w16_region.specs.Bytes.{word_in, put_word}
use Rattle.w16_region.proofs.Words.{word_in-same}
use Rattle.w16_holes.specs.Holes.{Range, Free, AreHoles, IsFree, IsUsed, IsPart, AreSameIn, length_at}

-- what the last hole has in place of the next
abbrev pub no_hole : ℕ
no_hole = 0xffff_ffff

-- where the first hole of a list begins, or what is told of none
abbrev pub first_of : ℕ → List Span → ℕ
first_of none [] = none
first_of none (h ∷ hs) = h.from

-- a hole has its two words. There is room for them, since it begins and ends at multiples of 8 and isn't empty
pub record HasWords (h : Span) (next : ℕ) (bytes : List ℕ) : Type 0 where
  pub low : IsMultiple 8 h.from
  pub high : IsMultiple 8 h.to
  pub some : h.from < h.to
  pub inside : h.to ≤ length bytes
  pub size : word_in bytes h.from ≡ h.to - h.from
  pub link : word_in bytes (h.from + 4) ≡ next

-- the holes of a list are a thread, each linked to the one behind it, and the last to a place
abbrev pub IsThread : ℕ → List Span → List ℕ → Type 0
IsThread last [] bytes = Unit {0}
IsThread last (h ∷ hs) bytes = HasWords h (first_of last hs) bytes × IsThread last hs bytes

-- all holes are a thread
abbrev pub AreThreaded : List Span → List ℕ → Type 0
AreThreaded hs bytes = IsThread no_hole hs bytes

-- a range whose holes have room for their words: its places are multiples of 8, and addresses of 32 bits
pub record HasRoom (r : Range) : Type 0 where
  pub wide : IsMultiple 8 r.grain
  pub small : r.hi < 2 ^ 32

-- n used bytes may slide from one place down to another, over the whole hole that lies between
pub record MayPass (f : Free) (bytes : List ℕ) (from to n : ℕ) : Type 0 where
  pub roomy : HasRoom f.range
  pub ordered : AreHoles f.range.lo f.range.hi f.holes
  pub kept : AreThreaded f.holes bytes
  pub down : to < from
  pub new : IsPart f.range to n
  pub old : IsPart f.range from n
  pub whole : length_at to f.holes ≡ from - to
  pub used : IsUsed from (from + n) f.holes
  pub inside : from + n ≤ length bytes

-- What is looked up and written on the way.

-- where the first hole begins that begins above a place
abbrev pub next_above : ℕ → List Span → ℕ
next_above a [] = no_hole
next_above a (h ∷ hs) = if nat_lt a h.from then h.from else next_above a hs

-- the bytes with a hole's two words put
abbrev pub put_words : List ℕ → ℕ → ℕ → ℕ → List ℕ
put_words bytes at size next = put_word (put_word bytes at size) (at + 4) next

-- the bytes with the words of a hole between two places put, if it isn't empty
abbrev pub put_hole : List ℕ → ℕ → ℕ → ℕ → List ℕ
put_hole bytes from to next = if nat_lt from to then put_words bytes from (to - from) next else bytes

-- the bytes with a hole, if there is one, linked to a place
abbrev pub put_link : List ℕ → Option ℕ → ℕ → List ℕ
put_link bytes None next = bytes
put_link bytes (Some at) next = put_word bytes (at + 4) next

-- What stays.

-- a hole has room for its two words
pub room : (from to : ℕ) → IsMultiple 8 from → IsMultiple 8 to → from < to → from + 8 ≤ to
room from to low high some = let e = low.1 in let f = high.1 in omega arith

stays : (last : ℕ) (hs : List Span) (old new : List ℕ) → length new ≡ length old → ((at n : ℕ) → IsFree at (at + n) hs → part new at n ≡ part old at n) → IsThread last hs old → IsThread last hs new
stays last [] old new long same kept = tt
stays last (h ∷ hs) old new long same kept =
    let w = kept.0 in
    let fits = room h.from h.to w.low w.high w.some in
    let inside = w.inside in (
      record {
        low = w.low;
        high = w.high;
        some = w.some;
        inside = omega arith;
        size = word_in-same old new h.from (same h.from 4 (inl (omega arith, omega arith))) ∙ w.size;
        link = word_in-same old new (h.from + 4) (same (h.from + 4) 4 (inl (omega arith, omega arith))) ∙ w.link;
      },
      stays last hs old new long (λ at n free. same at n (inr free)) kept.1,
    )

-- the thread is the same where the bytes in the holes are
pub threaded_stay : (hs : List Span) (old new : List ℕ) → AreThreaded hs old → AreSameIn hs old new → AreThreaded hs new
threaded_stay hs old new kept same = stays no_hole hs old new same.long same.same kept
