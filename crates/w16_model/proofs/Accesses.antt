-- What a far access without a fault reaches.
use Rattle.w16_model.proofs
use proofs.Common as C
use proofs.Common.{◌≡◌, ℕ, ◌+◌, ◌*◌, ◌≤◌, Bool, true, false, ◌||◌, if◌then◌else◌, nat_lt, List, length, Option, Some, None, refl, ap, ◌∙◌, arith, FarFault, Limit, REACH, Object, object_at, bytes_at, Handles, Part, far_fault}
use proofs.KeptHeaps.{bytes_in}

-- a slot's object has so many bytes or more
pub record Reached (handles : Handles) (slot end : ℕ) : Type 0 where
  pub object : Object
  pub bytes : List ℕ
  pub there : object_at handles.heap slot ≡ Some object
  pub has : object.bytes ≡ Some bytes
  pub here : bytes_at handles.heap slot ≡ Some bytes
  pub fits : end ≤ length bytes

-- no fault
abbrev IsNone : Option FarFault → Type 0
IsNone fault = fault ≡ None

-- the fault of an access up to an end in the bytes that a selector reaches, and in those there are
abbrev limit_fault : Part → ℕ → List ℕ → Option FarFault
limit_fault p end bytes = if C.is_past (length bytes) p end then Some Limit else None

abbrev pub bytes_fault : Part → ℕ → Option (List ℕ) → Option FarFault
bytes_fault p end b = elim b [ None ↦ Some C.NotPresent | Some bytes ↦ limit_fault p end bytes ]

abbrev nowhere : Part
nowhere = record { slot = 0; number = 0 }

-- an access without a fault reaches one, within its selector's reach
abbrev Both : Handles → ℕ → ℕ → Part → Type 0
Both handles offset n p = Reached handles p.slot (REACH * p.number + offset + n) × (offset + n ≤ REACH)

both_reached : (handles : Handles) (selector offset n : ℕ) → far_fault handles selector offset n ≡ None → Reached handles (C.far_slot handles selector) (C.far_at handles selector offset + n) × (offset + n ≤ REACH)
both_reached handles selector offset n = turn _
  where
    inside : (p : Part) (bytes : List ℕ) (a b : Bool) → nat_lt REACH (offset + n) ≡ a → nat_lt (length bytes) (REACH * p.number + (offset + n)) ≡ b → IsNone (if a || b then Some Limit else None) → (REACH * p.number + offset + n ≤ length bytes) × (offset + n ≤ REACH)
    inside p bytes true b s t e = cc
    inside p bytes false true s t e = cc
    inside p bytes false false s t e = (omega (arith, C.ltb-false (length bytes) (REACH * p.number + (offset + n)) t), C.ltb-false REACH _ s)

    of_bytes : (p : Part) (o : Object) → object_at handles.heap p.slot ≡ Some o → (b : Option (List ℕ)) → o.bytes ≡ b → IsNone (bytes_fault p (offset + n) b) → Both handles offset n p
    of_bytes p o there None has e = cc
    of_bytes p o there (Some bytes) has e =
        let fits = inside p bytes _ _ refl refl e in
        (record { object = o; bytes = bytes; there = there; has = has; here = ap bytes_in there ∙ has; fits = fits.0 }, fits.1)

    of_object : (p : Part) (q : Option Object) → object_at handles.heap p.slot ≡ q → IsNone (bytes_fault p (offset + n) (bytes_in q)) → Both handles offset n p
    of_object p None there e = cc
    of_object p (Some o) there e = of_bytes p o there _ refl e

    turn : (r : Option Part) → IsNone (elim r [ None ↦ Some C.BadSelector | Some p ↦ bytes_fault p (offset + n) (bytes_at handles.heap p.slot) ]) → Both handles offset n (C.unwrap_or r nowhere)
    turn None e = cc
    turn (Some p) e = of_object p _ refl e

pub reached : (handles : Handles) (selector offset n : ℕ) → far_fault handles selector offset n ≡ None → Reached handles (C.far_slot handles selector) (C.far_at handles selector offset + n)
reached handles selector offset n free = (both_reached _ _ _ n free).0

pub near : (handles : Handles) (selector offset n : ℕ) → far_fault handles selector offset n ≡ None → offset + n ≤ REACH
near handles selector offset n free = (both_reached handles _ _ n free).1
