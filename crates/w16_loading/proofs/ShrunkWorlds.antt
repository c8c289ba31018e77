-- A world without some objects: what stays of it.
use Rattle.w16_loading.proofs
use proofs.Common as C
use proofs.Common.{◌≡◌, ℕ, inl, inr, Bool, true, false, cond, not, None, IfSome, is_some, sym, ap, ◌∙◌, subst, nat_cmp, FinMap, false≢true, cases_Bool, Kind, owned_in, LoadingWorld, Load, IsRun, slots_at, refl, arith, ◌≤◌}
use proofs.{Undone.retained, Released.released_heap}
use Rattle.std.specs.FinMap as finmap

-- a value in a map from which keys went
pub value_left : {X : Type 0} (m : FinMap nat_cmp X) (gone : ℕ → Bool) (q : ℕ) → gone q ≡ false → finmap.get (finmap.retain_keys m (λ k. not (gone k))) q ≡ finmap.get m q
value_left m gone q t = retained m _ q ∙ ap (λ b. cond (not b) (finmap.get m q) None) t

pub value_gone : {X : Type 0} (m : FinMap nat_cmp X) (gone : ℕ → Bool) (q : ℕ) → gone q ≡ true → finmap.get (finmap.retain_keys m (λ k. not (gone k))) q ≡ None
value_gone m gone q t = retained m _ q ∙ ap (λ b. cond (not b) (finmap.get m q) None) t

-- no object has more slots then
abbrev slots_in : C.Option C.Attributes → ℕ
slots_in p = C.unwrap_or (C.option_map (λ (a : C.Attributes). a.slots) p) 0

fewer_slots : (old : C.Handles) (gone : ℕ → Bool) (q : ℕ) → slots_at (finmap.retain_keys old.attributes (λ q. not (gone q))) q ≤ slots_at old.attributes q
fewer_slots old gone q = elim (cases_Bool (gone q)) [
  | inl t ↦ let none : slots_at (finmap.retain_keys old.attributes (λ q. not (gone q))) q ≡ 0 = ap slots_in (value_gone _ _ q t) in omega (arith, none)
  | inr t ↦ let same : slots_at (finmap.retain_keys old.attributes (λ q. not (gone q))) q ≡ slots_at old.attributes q = ap slots_in (value_left _ _ q t) in omega (arith, same)
]

-- handles without some objects are handles
pub released_handles : (old : C.Handles) → C.AreHandles old → (gone : ℕ → Bool) → C.AreHandles (record old { heap = C.heap_without gone old.heap; attributes = finmap.retain_keys old.attributes (λ q. not (gone q)) })
released_handles old is gone = record {
  heap = released_heap _ is.heap gone;
  low = is.low;
  grain = is.grain;
  few = is.few;
  runs = record {
    each = λ q. elim (cases_Bool (gone q)) [
      | inl t ↦ subst (λ p. IfSome p (IsRun old.slots q)) (sym (value_gone _ _ q t)) tt
      | inr t ↦ subst (λ p. IfSome p (IsRun old.slots q)) (sym (value_left _ _ q t)) (is.runs.each q)
    ];
    apart = λ q other less some. elim (cases_Bool (gone other)) [
      | inl t ↦ absurd (false≢true (sym (ap is_some (value_gone _ _ _ t)) ∙ some))
      | inr t ↦
          let bound = is.runs.apart q other less (sym (ap is_some (value_left _ _ _ t)) ∙ some) in
          omega (arith, bound, fewer_slots old gone q)
    ];
  };
  attributed = λ q. elim (cases_Bool (gone q)) [
    | inl t ↦ ap is_some (value_gone _ _ q t) ∙ sym (ap is_some (value_gone _ _ q t))
    | inr t ↦ ap is_some (value_left _ _ q t) ∙ is.attributed q ∙ sym (ap is_some (value_left _ _ q t))
  ];
  sized = λ q. elim (cases_Bool (gone q)) [
    | inl t ↦ C.sized_is refl (ap C.bytes_in (value_gone _ _ q t)) tt
    | inr t ↦ C.sized_is (ap slots_in (value_left _ _ q t)) (ap C.bytes_in (value_left _ _ q t)) (is.sized q)
  ];
}

-- the world without some objects, and with these modules and loads
abbrev pub shrunk : LoadingWorld → (ℕ → Bool) → C.Modules → FinMap nat_cmp Load → LoadingWorld
shrunk old gone modules loads = record (C.without_objects gone old) { modules = modules; loads = loads }

module _ (old : LoadingWorld) (gone : ℕ → Bool) (modules : C.Modules) (loads : FinMap nat_cmp Load) (slot : ℕ) where
  -- an object that stays is as it was
  pub stays_of : (kind : Kind) (size : ℕ) (code : Bool) → gone slot ≡ false → C.IsObjectOf old slot kind size code → C.IsObjectOf (shrunk old gone modules loads) slot kind size code
  stays_of kind size code t h = record {
    object = subst (λ p. C.IsSomeAnd p (λ (o : C.Object). (o.kind ≡ kind) × IfSome o.bytes (λ bytes. C.length bytes ≡ size))) (sym (value_left old.handles.heap.objects gone slot t)) h.object;
    owned = ap owned_in (value_left old.handles.attributes gone slot t) ∙ h.owned;
  }

  -- what has an owner had one, and stays
  pub owner_left : is_some (C.owned_at (shrunk old gone modules loads).handles slot) ≡ true → (gone slot ≡ false) × (is_some (C.owned_at old.handles slot) ≡ true)
  owner_left some = elim (cases_Bool (gone slot)) [
    | inl t ↦ absurd (false≢true (sym (ap (λ p. is_some (owned_in p)) (value_gone old.handles.attributes gone slot t)) ∙ some))
    | inr t ↦ (t, sym (ap (λ p. is_some (owned_in p)) (value_left old.handles.attributes gone slot t)) ∙ some)
  ]
