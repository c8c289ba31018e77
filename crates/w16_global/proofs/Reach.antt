-- A far access by descriptors is one by objects.
use Rattle.w16_global.proofs
use proofs.Common as C
use Rattle.std.proofs.lemmas.List.{get_or_past}
use proofs.Common.{◌≡◌, ℕ, ◌+◌, ◌-◌, ◌*◌, ◌/◌, ◌<◌, ◌≤◌, inl, inr, Bool, true, false, if◌then◌else◌, not, ◌&&◌, ◌||◌, nat_lt, List, length, Option, Some, None, Result, Ok, Err, option_map, is_some, unwrap_or, refl, sym, ap, ◌∙◌, subst, arith, min, IfErr, FarFault, BadSelector, ReadOnly}
use proofs.Common.{Limit, REACH, bytes_at, Part, part_of_selector, bytes_in, false≢true, far_fault, Owned, near, descriptor_of, place_of, unset, is_code, Descriptor, SelKind, Data, Code, access_fault, handles_of, kind_in}
use proofs.Owners.{Has, attributes_at, by_owner}
use Rattle.w16_model.specs.{Calls.global_handle, Handles.offset_in, Handles.reached, Owned.is_code as handles_is_code}
use Rattle.w16_model.proofs.Runs.{reach_law}
use Rattle.w16_selectors.specs.Descriptors.{number_at, number_of}
use Rattle.w16_global.specs.{Peek.selector_descriptor, Runs.reaching, declared.peek.Descriptor.Descriptor as Told}
use Rattle.std.specs.FinMap as finmap
use Rattle.w16_selectors.specs.Descriptors as selectors

-- what holds of a fault holds of the one that is handed on
pub handed_on : {T E : Type 0} (P : E → Type 0) (r : Result T E) (e : E) → C.IsErrAnd r (λ f. f ≡ e) → P e → IfErr r P
handed_on P (Ok x) e h p = tt
handed_on P (Err f) e h p = subst P (sym h) p

-- where there is none there is none of a read
pub no_fault : (w : C.Handles) (write : Bool) (selector offset n : ℕ) → access_fault w write selector offset n ≡ None → (far_fault w selector offset n ≡ None) × ((write && C.refuses_write w selector) ≡ false)
no_fault w write selector offset n = turn _
  where
    turn : (b : Bool) → (if b then Some ReadOnly else far_fault w selector offset n) ≡ None → (far_fault w selector offset n ≡ None) × (b ≡ false)
    turn true e = cc
    turn false e = (e, refl)

-- the fault of what a far access finds
abbrev pub fault_of : Result ℕ FarFault → Option FarFault
fault_of r = elim r [ Ok at ↦ None | Err fault ↦ Some fault ]

-- that of a write to code comes before others
read_only : (b : Bool) (r : Result ℕ FarFault) → (if b then Some ReadOnly else fault_of r) ≡ fault_of (if b then Err ReadOnly else r)
read_only true r = refl
read_only false r = refl

never : (b : Bool) → ◌≡◌ {A = Option FarFault} (if b && false then Some ReadOnly else Some BadSelector) (Some BadSelector)
never true = refl
never false = refl

at_limit : (b : Bool) (at : ℕ) → ◌≡◌ {A = Option FarFault} (if b then Some Limit else None) (fault_of (if b then Err Limit else Ok at))
at_limit true at = refl
at_limit false at = refl

-- code is what refuses to be written
code_kind : (b : Bool) → is_code (if b then Code else Data) ≡ b
code_kind true = refl
code_kind false = refl

code_is : (h : C.Holding) (xs : List (Option C.Attributes)) (m first : ℕ) → handles_is_code (handles_of h xs m) first ≡ is_code (kind_in xs first)
code_is h xs m first = ap (λ p. unwrap_or (option_map (λ o. o.code) (C.owned_in p)) false) (attributes_at xs first)
    ∙ sym (code_kind (unwrap_or (option_map (λ o. o.code) (C.owned_in (C.get_or xs first None))) false))

module _ {h : C.Holding} {xs : List (Option C.Attributes)} {t : selectors.DescriptorTable} {m : ℕ} {w : C.Handles} (are : C.AreJoined h xs t) (shown : handles_of h xs m ≡ w) (selector : ℕ) where
  -- what a selector reaches, by its slot's number
  abbrev part_at : Part
  part_at = record { slot = selector / 8 - number_at t (selector / 8); number = number_at t (selector / 8) }

  found : is_some (descriptor_of t selector) ≡ true → (selector / 8 < length t) × (number_at t (selector / 8) ≤ selector / 8) × (part_of_selector w selector ≡ Some part_at)
  found there =
      let known = by_owner are selector (λ p d. is_some d ≡ true → (selector / 8 < length t) × (number_at t (selector / 8) ≤ selector / 8) × (p ≡ Some part_at)) (λ none. absurd (false≢true none)) some there in
      (known.0, known.1, subst (λ v. part_of_selector v selector ≡ Some part_at) shown known.2)
    where
      within : (slot : ℕ) → is_some (C.descriptor_at t slot) ≡ true → slot < length t
      within slot taken = elim (C.cases_lt slot (length t)) [ inl lt ↦ lt | inr le ↦ absurd (false≢true (sym (ap is_some (get_or_past t slot None le)) ∙ taken)) ]

      some : (first : ℕ) (o : Has h xs t (selector / 8) first) → is_some (Some o.descriptor) ≡ true → (selector / 8 < length t) × (number_at t (selector / 8) ≤ selector / 8) × (Some (record { slot = first; number = selector / 8 - first }) ≡ Some part_at)
      some first o there =
          let low = o.low in
          let number : number_at t (selector / 8) ≡ selector / 8 - first = ap number_of o.said ∙ o.number in
          let slot : first ≡ selector / 8 - number_at t (selector / 8) = omega arith in
          (within (selector / 8) (ap is_some o.said), omega arith, λ i. Some (record { slot = slot i; number = sym number i }))

  -- A far access to n bytes is resolved as one to 4,294,967,295 where there are more.
  module _ (write : Bool) (offset n count : ℕ) (count_is : count ≡ min n 4294967295) where
    -- the fault by what a selector reaches, and what is found by a descriptor
    abbrev reach_fault : Part → Option (List ℕ) → Option FarFault
    reach_fault p b = elim b [ None ↦ Some C.NotPresent | Some bytes ↦ if C.is_past (length bytes) p (offset + n) then Some Limit else None ]

    abbrev fault_by : Option Part → Option FarFault
    fault_by p = if write && unwrap_or (option_map (λ (p : Part). handles_is_code (handles_of h xs m) p.slot) p) false then Some ReadOnly else (elim p [ None ↦ Some BadSelector | Some p ↦ reach_fault p (bytes_at h.heap p.slot) ])

    abbrev open_by : Descriptor → Result ℕ FarFault
    open_by d = if not d.present then Err C.NotPresent else (if nat_lt (d.limit + 1) (offset + count) then Err Limit else Ok (d.base + offset))

    abbrev place_by : Option Descriptor → Result ℕ FarFault
    place_by d = elim d [ None ↦ Err BadSelector | Some d ↦ if write && is_code d.kind then Err ReadOnly else open_by d ]

    -- what a selector's limit is, of the bytes that there are
    past_is : (size number : ℕ) → 0 < min REACH (size - REACH * number) → (nat_lt REACH (offset + n) || nat_lt size (REACH * number + (offset + n))) ≡ nat_lt (min REACH (size - REACH * number) - 1 + 1) (offset + count)
    past_is size number some = grind (arith, C.nat_tests)

    abbrev Reaches : Part → Option (List ℕ) → Type 0
    Reaches p b = C.IfSome b (λ bytes. (0 < reached (length bytes) p) × (REACH * p.number + reached (length bytes) p ≤ length bytes))

    abbrev Lies : Part → Type 0
    Lies p = (selector ≡ C.selector_of (p.slot + p.number)) × (p.number < C.slots_at (C.attributes_in xs) p.slot) × Reaches p (bytes_at h.heap p.slot)

    opened : (holds : SelKind) (at : ℕ) (p : Part) (b : Option (List ℕ)) → Reaches p b → reach_fault p b ≡ fault_of (open_by (elim b [ None ↦ unset holds p.number | Some bytes ↦ reaching holds at (length bytes) p.number ]))
    opened holds at p None some = refl
    opened holds at p (Some bytes) some = ap (λ b. if b then Some Limit else None) (past_is (length bytes) p.number some.0) ∙ at_limit (nat_lt (reached (length bytes) p - 1 + 1) (offset + count)) (at + REACH * p.number + offset)

    -- the first fault
    pub resolved : access_fault w write selector offset n ≡ fault_of (place_of t selector offset count write)
    resolved = subst (λ v. access_fault v write selector offset n ≡ fault_of (place_of t selector offset count write)) shown
        (by_owner are selector (λ p d. C.IfSome p Lies → fault_by p ≡ fault_of (place_by d)) (λ _. never write) some (reach_law (handles_of h xs 0) selector are.handles))
      where
        some : (first : ℕ) (o : Has h xs t (selector / 8) first) → Lies (record { slot = first; number = selector / 8 - first }) → fault_by (Some (record { slot = first; number = selector / 8 - first })) ≡ fault_of (place_by (Some o.descriptor))
        some first o lies =
            let p : Part = record { slot = first; number = selector / 8 - first } in
            let here : bytes_at h.heap first ≡ o.object.bytes = ap bytes_in o.there in
            let kind = o.kind in
            let is = o.is in
            (λ i. if write && code_is h xs m first i then Some ReadOnly else reach_fault p (here i))
            ∙ ap (λ f. if write && is_code (kind_in xs first) then Some ReadOnly else f) (opened (kind_in xs first) (unwrap_or (finmap.get h.heap.places first) 0) p o.object.bytes (subst (Reaches p) here lies.2))
            ∙ read_only (write && is_code (kind_in xs first)) (open_by (C.descriptor_for h.heap (kind_in xs first) (selector / 8 - first) first o.object))
            ∙ (λ i. fault_of (if write && is_code (sym kind i) then Err ReadOnly else open_by (sym is i)))

    -- and where there is none, where it begins
    pub known : (at : ℕ) → Ok at ≡ place_of t selector offset count write → (slot number : ℕ) → slot ≡ selector / 8 → number ≡ number_at t slot
        → (slot < length t) × (number ≤ slot) × (slot - number ≡ C.far_slot w selector) × (REACH * number + offset ≡ C.far_at w selector offset) × (access_fault w write selector offset n ≡ None) × (n < 4294967296)
    known at is slot number slot_is number_at_is =
        let k = found (named (descriptor_of t selector) (sym is)) in
        let within = k.0 in
        let below = k.1 in
        let number_is : number ≡ number_at t (selector / 8) = number_at_is ∙ ap (number_at t) slot_is in
        let part : part_of_selector w selector ≡ Some (record { slot = slot - number; number = number }) = k.2 ∙ (λ i. Some (record { slot = sym slot_is i - sym number_is i; number = sym number_is i })) in
        let none : access_fault w write selector offset n ≡ None = resolved ∙ ap fault_of (sym is) in
        let inside = near w selector offset n (no_fault w write selector offset n none).0 in (
          omega arith,
          omega arith,
          sym (ap (λ p. (unwrap_or p nowhere).slot) part),
          sym (ap (λ p. REACH * (unwrap_or p nowhere).number + offset) part),
          none,
          omega arith,
        )
      where
        nowhere : Part
        nowhere = record { slot = 0; number = 0 }

        named : (d : Option Descriptor) → place_by d ≡ Ok at → is_some d ≡ true
        named None e = cc
        named (Some d) e = refl

  -- What a selector tells of its object.
  abbrev base_of : Option Part → ℕ
  base_of p = elim p [ None ↦ 0 | Some p ↦ unwrap_or (option_map (λ at. at + REACH * p.number) (finmap.get h.heap.places p.slot)) 0 ]

  pub base_known : unwrap_or (option_map (λ (d : Descriptor). d.base) (descriptor_of t selector)) 0 ≡ C.selector_base w selector
  base_known = subst (λ v. unwrap_or (option_map (λ (d : Descriptor). d.base) (descriptor_of t selector)) 0 ≡ C.selector_base v selector) shown
      (by_owner are selector (λ p d. unwrap_or (option_map (λ (d : Descriptor). d.base) d) 0 ≡ base_of p) refl (λ first o.
      ap (λ (d : Descriptor). d.base) o.is
      ∙ based (kind_in xs first) (selector / 8 - first) (finmap.get h.heap.places first) o.object.bytes (are.handles.heap.at_bytes first ∙ ap (λ p. is_some (bytes_in p)) o.there)))
    where
      based : (holds : SelKind) (number : ℕ) (p : Option ℕ) (b : Option (List ℕ)) → is_some p ≡ is_some b
          → (elim b as (λ _. Descriptor) [ None ↦ unset holds number | Some bytes ↦ reaching holds (unwrap_or p 0) (length bytes) number ]).base ≡ unwrap_or (option_map (λ at. at + REACH * number) p) 0
      based holds number None None e = refl
      based holds number None (Some bytes) e = absurd (false≢true e)
      based holds number (Some at) None e = absurd (false≢true (sym e))
      based holds number (Some at) (Some bytes) e = refl

  abbrev limit_of : Option Part → ℕ
  limit_of p = elim p [ None ↦ 0 | Some p ↦ unwrap_or (option_map (λ bytes. reached (length bytes) p - 1) (bytes_at h.heap p.slot)) 0 ]

  pub limit_known : unwrap_or (option_map (λ (d : Descriptor). d.limit) (descriptor_of t selector)) 0 ≡ C.selector_limit w selector
  limit_known = subst (λ v. unwrap_or (option_map (λ (d : Descriptor). d.limit) (descriptor_of t selector)) 0 ≡ C.selector_limit v selector) shown
      (by_owner are selector (λ p d. unwrap_or (option_map (λ (d : Descriptor). d.limit) d) 0 ≡ limit_of p) refl (λ first o.
      ap (λ (d : Descriptor). d.limit) o.is
      ∙ limited (kind_in xs first) (unwrap_or (finmap.get h.heap.places first) 0) (selector / 8 - first) o.object.bytes
      ∙ ap (λ p. unwrap_or (option_map (λ bytes. min REACH (length bytes - REACH * (selector / 8 - first)) - 1) (bytes_in p)) 0) (sym o.there)))
    where
      limited : (holds : SelKind) (at number : ℕ) (b : Option (List ℕ))
          → (elim b as (λ _. Descriptor) [ None ↦ unset holds number | Some bytes ↦ reaching holds at (length bytes) number ]).limit ≡ unwrap_or (option_map (λ bytes. min REACH (length bytes - REACH * number) - 1) b) 0
      limited holds at number None = refl
      limited holds at number (Some bytes) = refl

  -- whether its object has bytes, and whether it is code
  abbrev in_table : Descriptor → Bool × Bool
  in_table d = (d.present, is_code d.kind)

  abbrev in_handles : C.Handles → Part → Bool × Bool
  in_handles v p = (is_some (bytes_at v.heap p.slot), handles_is_code v p.slot)

  present_known : option_map in_table (descriptor_of t selector) ≡ option_map (in_handles w) (part_of_selector w selector)
  present_known = subst (λ v. option_map in_table (descriptor_of t selector) ≡ option_map (in_handles v) (part_of_selector v selector)) shown
      (by_owner are selector (λ p d. option_map in_table d ≡ option_map (in_handles (handles_of h xs m)) p) refl (λ first o.
      let present : o.descriptor.present ≡ is_some (bytes_at h.heap first) = ap (λ (d : Descriptor). d.present) o.is ∙ presented (kind_in xs first) (unwrap_or (finmap.get h.heap.places first) 0) (selector / 8 - first) o.object.bytes ∙ ap (λ p. is_some (bytes_in p)) (sym o.there) in
      let code : is_code o.descriptor.kind ≡ handles_is_code (handles_of h xs m) first = ap is_code o.kind ∙ sym (code_is h xs m first) in
      λ i. Some (present i, code i)))
    where
      presented : (holds : SelKind) (at number : ℕ) (b : Option (List ℕ)) → (elim b as (λ _. Descriptor) [ None ↦ unset holds number | Some bytes ↦ reaching holds at (length bytes) number ]).present ≡ is_some b
      presented holds at number None = refl
      presented holds at number (Some bytes) = refl

  -- all that it tells
  abbrev by_descriptor : Descriptor → Told
  by_descriptor d = record { base = d.base; limit = d.limit; object = offset_in (global_handle w selector); present = d.present; code = is_code d.kind }

  abbrev by_part : Part → Told
  by_part p = record { base = C.selector_base w selector; limit = C.selector_limit w selector; object = offset_in (global_handle w selector); present = is_some (bytes_at w.heap p.slot); code = handles_is_code w p.slot }

  pub descriptor_known : (r : Option Descriptor) → r ≡ descriptor_of t selector → selector_descriptor w selector ≡ option_map by_descriptor r
  descriptor_known r is = turn (part_of_selector w selector) r (ap (λ r. unwrap_or (option_map (λ (d : Descriptor). d.base) r) 0) is ∙ base_known) (ap (λ r. unwrap_or (option_map (λ (d : Descriptor). d.limit) r) 0) is ∙ limit_known)
      (ap (option_map in_table) is ∙ present_known)
    where
      turn : (p : Option Part) (r : Option Descriptor) → unwrap_or (option_map (λ (d : Descriptor). d.base) r) 0 ≡ C.selector_base w selector → unwrap_or (option_map (λ (d : Descriptor). d.limit) r) 0 ≡ C.selector_limit w selector
          → option_map in_table r ≡ option_map (in_handles w) p → option_map by_part p ≡ option_map by_descriptor r
      turn None None base limit e = refl
      turn None (Some d) base limit e = cc
      turn (Some p) None base limit e = cc
      turn (Some p) (Some d) base limit e =
          let same : in_handles w p ≡ in_table d = cc in
          λ i. Some (record { base = sym base i; limit = sym limit i; object = offset_in (global_handle w selector); present = (same i).0; code = (same i).1 })
