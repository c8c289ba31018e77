-- How the code keeps an order of use: a ring of ids, linked both ways. A number above all ids stands between its newest member and its oldest.
use Rattle.std.specs.Prelude.{◌≡◌, ◌+◌, ◌<◌, ℕ, zero, suc, false, List, [], ◌∷◌, length, slice_index}
use Rattle.w16_model.specs.Discards.{is_member}
use Rattle.w16_lru.specs.Uses.{Uses, AreUses}

-- the first n on the way along the links
abbrev pub follow : ℕ → List ℕ → ℕ → List ℕ
follow zero after from = []
follow (suc n) after from = from ∷ follow n after (slice_index after from)

-- the way along the links from a number on: these ids, and then the end
abbrev pub Leads : List ℕ → ℕ → List ℕ → ℕ → Type 0
Leads after from [] end = from ≡ end
Leads after from (id ∷ ids) end = (from ≡ id) × Leads after (slice_index after id) ids end

-- these links stay below a number, and the others lead back
abbrev pub LeadBack : ℕ → List ℕ → List ℕ → Type 0
LeadBack count after before = (q : ℕ) → q < count → (slice_index after q < count) × (slice_index before (slice_index after q) ≡ q)

-- the ring of these ids: what is no member is linked to itself
pub record IsRing (cap : ℕ) (after before ids : List ℕ) : Type 0 where
  pub after_long : length after ≡ cap + 1
  pub before_long : length before ≡ cap + 1
  pub forth : LeadBack (cap + 1) after before
  pub back : LeadBack (cap + 1) before after
  pub around : Leads after (slice_index after cap) ids cap
  pub alone : (id : ℕ) → id < cap → is_member id ids ≡ false → slice_index after id ≡ id
  pub uses : AreUses (record { cap = cap; ids = ids })

-- the members of a ring: as many from the oldest on
abbrev pub ids_of : ℕ → List ℕ → ℕ → List ℕ
ids_of cap after members = follow members after (slice_index after cap)

-- the order that they are
abbrev pub uses_of : ℕ → List ℕ → ℕ → Uses
uses_of cap after members = record { cap = cap; ids = ids_of cap after members }
