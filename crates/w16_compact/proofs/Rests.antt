-- What a step over part of a memory leaves as it was: one step after another, and a part that was put.
use Rattle.w16_compact.proofs.Common as C
use Rattle.w16_compact.proofs.Common.{refl, ℕ, ◌≡◌, ◌+◌, ◌≤◌, List, length, take, drop, arith, ◌∙◌, ap, GName, Span, Leaves, IsSameRest}

pub rest_more : {low high a b : ℕ} {x y z : List ℕ} → IsSameRest low high x y → IsSameRest a b y z → low ≤ a → b ≤ high → IsSameRest low high x z
rest_more {low} {high} {a} {b} {x} {y} {z} p q below above = record {
  long = q.long ∙ p.long;
  outside = record {
    below = C.take_lower z y low a below q.outside.below ∙ p.outside.below;
    above = C.drop_higher z y b high above q.outside.above ∙ p.outside.above;
  };
}

pub rest_same : (low high : ℕ) (x : List ℕ) → IsSameRest low high x x
rest_same low high x = record { long = refl; outside = record { below = refl; above = refl } }

pub rest_wider : {low high a b : ℕ} {x y : List ℕ} → IsSameRest a b x y → low ≤ a → b ≤ high → IsSameRest low high x y
rest_wider {low} {high} {a} {b} {x} q below above = rest_more (rest_same low high x) q below above

-- a part that was put in the range
pub rest_put : {x y : List ℕ} {low high : ℕ} (at : ℕ) (new : List ℕ) → y ≡ C.put_part x at new → low ≤ at → at + length new ≤ high → at + length new ≤ length x → IsSameRest low high x y
rest_put {x} {y} {low} {high} at new is below above inside = record {
  long = ap (length {A = ℕ}) is ∙ C.length-put_part x at new inside;
  outside = record { below = ap (take low) is ∙ C.take-put_part x at new low below (omega arith); above = ap (drop high) is ∙ C.drop-put_part x at new high above inside };
}

-- one step after another, with what is kept of the holes
pub leaves_more : {X : Type 0} {are_in : List Span → List ℕ → Type 0} {bytes : X → List ℕ} {lenders : X → List GName} {hs hs' : List Span} {low high a b : ℕ} {x y z : X}
    → Leaves are_in bytes lenders hs (IsSameRest low high) x y → Leaves are_in bytes lenders hs' (IsSameRest a b) y z → low ≤ a → b ≤ high → Leaves are_in bytes lenders hs' (IsSameRest low high) x z
leaves_more p q below above = record { kept = q.kept; bytes = rest_more p.bytes q.bytes below above; loans = q.loans ∙ p.loans }
