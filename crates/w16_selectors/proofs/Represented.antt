-- What a change of one slot keeps.
use Rattle.w16_selectors.specs
use Rattle.std.proofs.Common.{◌≡◌, ℕ, zero, suc, ◌+◌, ◌^◌, ◌<◌, ◌≤◌, List, ◌∷◌, length, map, set, replicate, Option, Some, None, is_some, IsSome, IfSome, refl, sym, ap, ◌∙◌, subst, arith, inl, inr, ◌⊎◌}
use Rattle.std.proofs.lemmas.Bool.{cases_eq, cases_lt, false≢true}
use Rattle.std.proofs.lemmas.List.{length-set, length-replicate, map-set, get_or-set_same, get_or-set_other, get_or-replicate, get_or_past}
use Rattle.std.proofs.Math.Seq.{map-set_same}
use Rattle.w16_model.specs.declared.TheConstants.{FIRST_SLOT, MOST_SLOTS}
use specs.Descriptors.{DescriptorTable, descriptor_at, unset}
use specs.Representation.{SelectorsInvariant, AreTaken, mark_of}
use specs.{declared.Descriptor.Descriptor, declared.SelKind.SelKind}

-- a segment ends where an address of 32 bits can reach
abbrev pub Reaches : Option Descriptor → Type 0
Reaches entry = IfSome entry (λ d. d.base + d.limit + 1 < 2 ^ 32)

-- one without bytes does
pub unset_reaches : (d : Descriptor) (kind : SelKind) (number : ℕ) → d ≡ unset kind number → Reaches (Some d)
unset_reaches d kind number is = subst (λ d. Reaches (Some d)) (sym is) (omega arith)

none_at : (n slot : ℕ) → descriptor_at (replicate n None) slot ≡ None
none_at n slot = elim (cases_lt slot n) [
  | inl lt ↦ get_or-replicate n slot None None lt
  | inr le ↦ get_or_past _ slot None (rw (length-replicate {A = Option Descriptor} n None) le)
]

marks_none : (n : ℕ) → replicate n 0 ≡ map mark_of (replicate n None)
marks_none zero = refl
marks_none (suc n) = ap (λ (ms : List ℕ). 0 ∷ ms) (marks_none n)

-- where no slot is taken
pub SelectorsInvariant-replicate : (n : ℕ) → FIRST_SLOT ≤ n → n ≤ FIRST_SLOT + MOST_SLOTS → SelectorsInvariant (replicate n None) (replicate n 0)
SelectorsInvariant-replicate n some few = record {
  marked = marks_none n;
  some = rw (length-replicate {A = Option Descriptor} n None) some;
  few = rw (length-replicate {A = Option Descriptor} n None) few;
  unused = λ slot lt. none_at n slot;
  inside = λ slot. subst Reaches (sym (none_at n slot)) tt;
}

-- a changed slot has its new entry, if it is one, and any other what it had
at_set : (table : DescriptorTable) (slot k : ℕ) (entry : Option Descriptor)
    → ((k ≡ slot) × (descriptor_at (set table slot entry) k ≡ entry)) ⊎ (descriptor_at (set table slot entry) k ≡ descriptor_at table k)
at_set table slot k entry = elim (cases_eq k slot) [
  | inl same ↦ elim (cases_lt slot (length table)) [
    | inl lt ↦ inl (same, subst (λ (i : ℕ). descriptor_at (set table slot entry) i ≡ entry) (sym same) (get_or-set_same table slot entry None lt))
    | inr le ↦
        let n = length-set table slot entry in
        inr (get_or_past _ k None (omega arith) ∙ sym (get_or_past table k None (omega arith)))
  ]
  | inr other ↦ inr (get_or-set_other table slot k entry None other)
]

-- a slot below the first stays free
pub SelectorsInvariant-set : (table : DescriptorTable) (marks : List ℕ) (slot : ℕ) (entry : Option Descriptor)
    → SelectorsInvariant table marks → (slot < FIRST_SLOT → entry ≡ None) → Reaches entry → SelectorsInvariant (set table slot entry) (set marks slot (mark_of entry))
SelectorsInvariant-set table marks slot entry kept low reaches = record {
  marked = ap (λ (ms : List ℕ). set ms slot (mark_of entry)) kept.marked ∙ sym (map-set mark_of table slot entry);
  some = rw (length-set table slot entry) kept.some;
  few = rw (length-set table slot entry) kept.few;
  unused = λ k lt. elim (at_set table slot k entry) [
    | inl here ↦ here.1 ∙ low (let e = here.0 in omega arith)
    | inr there ↦ there ∙ kept.unused k lt
  ];
  inside = λ k. elim (at_set table slot k entry) [
    | inl here ↦ subst Reaches (sym here.1) reaches
    | inr there ↦ subst Reaches (sym there) (kept.inside k)
  ];
}

-- a taken slot isn't below the first
pub taken_above : (table : DescriptorTable) (marks : List ℕ) (slot : ℕ) → SelectorsInvariant table marks → IsSome (descriptor_at table slot) → FIRST_SLOT ≤ slot
taken_above table marks slot kept taken = elim (cases_lt slot _) [
  | inl lt ↦ absurd (false≢true (ap is_some (sym (kept.unused slot lt)) ∙ taken))
  | inr le ↦ le
]

pub mark_of_taken : (entry : Option Descriptor) → IsSome entry → mark_of entry ≡ 1
mark_of_taken None taken = absurd (false≢true taken)
mark_of_taken (Some d) taken = refl

-- the mark of a taken slot stays as it is
pub SelectorsInvariant-written : (table : DescriptorTable) (marks : List ℕ) (slot : ℕ) (d : Descriptor)
    → SelectorsInvariant table marks → IsSome (descriptor_at table slot) → Reaches (Some d) → SelectorsInvariant (set table slot (Some d)) marks
SelectorsInvariant-written table marks slot d kept taken reaches =
    let above = taken_above table marks slot kept taken in
    let all = SelectorsInvariant-set table marks slot _ kept (λ lt. absurd (omega arith)) reaches in record {
      marked = kept.marked ∙ sym (map-set_same mark_of table slot _ None (sym (mark_of_taken _ taken)));
      some = all.some;
      few = all.few;
      unused = all.unused;
      inside = all.inside;
    }

-- Slots that are taken below one.

-- a slot that is taken, or set to a descriptor, is taken
pub stays_taken : (table : DescriptorTable) (slot k : ℕ) (d : Descriptor) → slot < length table → (k ≡ slot) ⊎ IsSome (descriptor_at table k) → IsSome (descriptor_at (set table slot (Some d)) k)
stays_taken table slot k d lt was = elim (cases_eq k slot) [
  | inl same ↦ ap is_some (ap (descriptor_at _) same ∙ get_or-set_same table slot _ None lt)
  | inr other ↦ ap is_some (get_or-set_other table slot k _ None other) ∙ (elim was [ inl same ↦ absurd (other same) | inr there ↦ there ])
]

-- where a slot is set to a descriptor
pub AreTaken-set : (table : DescriptorTable) (below slot : ℕ) (d : Descriptor) → AreTaken table below → slot < length table → AreTaken (set table slot (Some d)) below
AreTaken-set table below slot d are lt = record {
  above = are.above;
  within = rw (length-set table slot (Some d)) are.within;
  taken = λ k first low. stays_taken table slot k d lt (inr (are.taken k first low));
}

-- where a taken one is
pub AreTaken-written : (table : DescriptorTable) (below slot : ℕ) (d : Descriptor) → AreTaken table below → IsSome (descriptor_at table slot) → AreTaken (set table slot (Some d)) below
AreTaken-written table below slot d are there = AreTaken-set table below slot d are (within (cases_lt slot (length table)))
  where
    within : (slot < length table) ⊎ (length table ≤ slot) → slot < length table
    within (inl lt) = lt
    within (inr le) = absurd (false≢true (sym (ap is_some (get_or_past table slot None le)) ∙ there))

-- and where it is the first that wasn't
pub AreTaken-next : (table : DescriptorTable) (below slot : ℕ) (d : Descriptor) → AreTaken table below → slot < length table → below ≡ slot → AreTaken (set table slot (Some d)) (below + 1)
AreTaken-next table below slot d are lt same = record {
  above = let above = are.above in omega arith;
  within = rw (length-set table slot (Some d)) (omega arith);
  taken = λ k first low. elim (cases_eq k slot) [
    | inl e ↦ stays_taken table slot k d lt (inl e)
    | inr n ↦ stays_taken table slot k d lt (inr (are.taken k first (elim (cases_lt k below) [ inl lower ↦ lower | inr le ↦ absurd (n (omega arith)) ])))
  ];
}

-- where a slot is given back
pub AreTaken-give : (table : DescriptorTable) (below slot lower : ℕ) → AreTaken table below → FIRST_SLOT ≤ slot → lower ≤ below → lower ≤ slot → FIRST_SLOT ≤ lower → AreTaken (set table slot None) lower
AreTaken-give table below slot lower are first le other above = record {
  above = above;
  within = rw (length-set table slot None) (let within = are.within in omega arith);
  taken = λ k begin low. ap is_some (get_or-set_other table slot k None None (λ e. absurd (omega arith))) ∙ are.taken k begin (omega arith);
}

-- where none is taken
pub AreTaken-none : (n : ℕ) → FIRST_SLOT ≤ n → AreTaken (replicate n None) FIRST_SLOT
AreTaken-none n some = record {
  above = omega arith;
  within = rw (length-replicate {A = Option Descriptor} n None) some;
  taken = λ k begin lt. absurd (omega arith);
}
