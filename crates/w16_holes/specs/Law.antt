-- The laws of holes, in terms of the free bytes.
use Rattle.std.specs.Prelude.{ℕ, suc, ◌<◌, ◌≤◌, ◌≡◌, ◌⊎◌, ◌↔◌, List}
use Rattle.w16_model.specs.declared.Span.{Span}
use Rattle.w16_holes.specs.Holes.{AreHoles, IsFree, IsUsed, taken, joined}

-- a byte is free
abbrev pub IsIn : ℕ → List Span → Type 0
IsIn p hs = IsFree p (suc p) hs

-- two lists of holes with the same free bytes are one list
abbrev pub BytesLaw : Type 0
BytesLaw = (lo hi : ℕ) (hs ks : List Span) → AreHoles lo hi hs → AreHoles lo hi ks → ((p : ℕ) → IsIn p hs ↔ IsIn p ks) → hs ≡ ks

-- what is left of the holes are holes, and free is what was free and is not taken
abbrev pub TakenLaw : Type 0
TakenLaw = (lo hi a b : ℕ) (hs : List Span) → a < b → AreHoles lo hi hs → IsFree a b hs
    → AreHoles lo hi (taken a b hs) × ((p : ℕ) → IsIn p (taken a b hs) ↔ (IsIn p hs × ((p < a) ⊎ (b ≤ p))))

-- what comes of a part put are holes, and free is what was free and what is put
abbrev pub JoinedLaw : Type 0
JoinedLaw = (lo hi a b : ℕ) (hs : List Span) → a < b → lo ≤ a → b ≤ hi → AreHoles lo hi hs → IsUsed a b hs
    → AreHoles lo hi (joined a b hs) × ((p : ℕ) → IsIn p (joined a b hs) ↔ (IsIn p hs ⊎ ((a ≤ p) × (p < b))))
