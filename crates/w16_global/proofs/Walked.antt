-- A walk that names objects by their handles, from one that names them by their slots.
use Rattle.w16_global.proofs.Common.{◌≡◌, ℕ, ◌<◌, ◌≤◌, ◌⊎◌, inl, inr, Option, Some, None, option_map, refl, sym, ap, ◌∙◌, subst, Item, Owner, Heap, handle_of, IsItem, IsFirstItem, by_its_id}

-- the item with its owner's handle in place of its id
abbrev pub renamed : Item → Item
renamed item = record item { owner = option_map (λ (o : Owner). record o { name = handle_of o.kind o.name }) item.owner }

module _ (heap : Heap) where
  -- an item that handles name is one that ids name, with its owner renamed
  back : (item : Item) → IsItem handle_of heap item → (i : Item) × IsItem by_its_id heap i × (renamed i ≡ item)
  back item is = by_owner item.owner refl is
    where
      by_owner : (o : Option Owner) → item.owner ≡ o → IsItem handle_of heap (record item { owner = o }) → (i : Item) × IsItem by_its_id heap i × (renamed i ≡ item)
      by_owner None e h = (record item { owner = None }, h, λ i. record item { owner = sym e i })
      by_owner (Some owner) e h = (
        record item { owner = Some (record owner { name = h.0 }) },
        (h.0, refl, record { place = h.2.place; object = h.2.object }),
        (λ i. record item { owner = Some (record owner { name = sym h.1 i }) }) ∙ (λ i. record item { owner = sym e i }),
      )

  forward : (item : Item) → IsItem by_its_id heap item → IsItem handle_of heap (renamed item)
  forward item is = by_owner item.owner refl is
    where
      by_owner : (o : Option Owner) → item.owner ≡ o → IsItem by_its_id heap (record item { owner = o }) → IsItem handle_of heap (renamed (record item { owner = o }))
      by_owner None e h = h
      by_owner (Some owner) e h = (h.0, ap (handle_of owner.kind) h.1, record { place = h.2.place; object = h.2.object })

  pub first_renamed : (from : ℕ) (found : Option Item) → IsFirstItem by_its_id heap from found → IsFirstItem handle_of heap from (option_map renamed found)
  first_renamed from None none = λ other is. let b = back other is in subst (λ (j : Item). j.at < from) b.2 (none b.0 b.1)
  first_renamed from (Some item) first = (forward item first.0, first.1, others)
    where
      others : (other : Item) → IsItem handle_of heap other → from ≤ other.at → (other ≡ renamed item) ⊎ (item.at < other.at)
      others other is low = let b = back other is in elim (first.2 b.0 b.1 (subst (λ (j : Item). from ≤ j.at) (sym b.2) low)) [
        | inl same ↦ inl (sym b.2 ∙ ap renamed same)
        | inr below ↦ inr (subst (λ (j : Item). item.at < j.at) b.2 below)
      ]

  -- the same of what an item tells of each other
  pub apart_renamed : (at end : ℕ) → ((other : Item) → IsItem by_its_id heap other → at < other.at → end ≤ other.at) → (other : Item) → IsItem handle_of heap other → at < other.at → end ≤ other.at
  apart_renamed at end apart other is l = let b = back other is in subst (λ (j : Item). end ≤ j.at) b.2 (apart b.0 b.1 (subst (λ (j : Item). at < j.at) (sym b.2) l))
