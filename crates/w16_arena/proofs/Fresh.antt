-- An arena before anything is allocated.
use Rattle.w16_arena.proofs
use proofs.Common as C
use proofs.Common.{◌≡◌, ℕ, zero, suc, ◌≤◌, [], replicate, None, refl, sym, ap, ◌∙◌, subst, arith, Entry, IsMultiple, Uses}
use proofs.Lookups.{IsArranged, IsOrder, sound_of}

abbrev none : C.Option Entry
none = None

-- a list of nothing has nothing at each place
pub no_entry : (n q : ℕ) → C.get_or (replicate n none) q None ≡ None
no_entry zero q = refl
no_entry (suc n) zero = refl
no_entry (suc n) (suc q) = no_entry n q

abbrev fresh : ℕ → ℕ → ℕ → ℕ → C.Layout
fresh cap lo hi grain = record { cap = cap; lo = lo; hi = hi; grain = grain; blocks = [] }

abbrev no_uses : ℕ → Uses
no_uses cap = record { cap = cap; ids = [] }

module _ (cap lo hi grain : ℕ) (bounds : lo ≤ hi) (grained : IsMultiple grain lo) where
  -- what holds of nothing holds of each entry
  each : (P : Entry → Type 0) (q : ℕ) → C.IfSome (C.get_or (replicate cap none) q None) P
  each P q = subst (λ (e : C.Option Entry). C.IfSome e P) (sym (no_entry cap q)) tt

  arranged : IsArranged (fresh cap lo hi grain)
  arranged = record { laid = bounds; ids = C.AllPairs-from_EachPair (λ x y. x.id ≡ y.id → ⊥) [] tt; grained = C.All-from_Each (λ x. IsMultiple grain x.at × IsMultiple grain x.size) [] tt; low_grained = grained }

  listed : IsOrder (replicate cap none) (fresh cap lo hi grain) []
  listed = record { members = λ q. sym (ap (λ e. C.is_listed e None) (no_entry cap q)); once = C.AllPairs-from_EachPair (λ a b. a ≡ b → ⊥) [] tt }

  pub sound : C.IsSound (C.empty_table cap lo hi grain)
  sound = sound_of (replicate cap none) (fresh cap lo hi grain) [] arranged (λ q x e. cc) listed (each (C.IsCountedBy None))

  pub fresh_kept : (gap_rooms : ℕ) → gap_rooms ≡ cap → (room : ℕ) → cap ≤ room → C.ArenaInvariant (replicate cap none) (fresh cap lo hi grain) (no_uses cap) gap_rooms room
  fresh_kept gap_rooms told room enough =
      let many : C.length (replicate cap none) ≡ cap = C.length-replicate cap none in
      record { sound = sound; ids = sym many; ordered = sym many; told = told ∙ sym many; enough = omega arith }
