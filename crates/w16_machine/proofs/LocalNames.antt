-- One name, one object; and one object begins at a near pointer.
use Rattle.w16_machine.proofs
use proofs.Common as C
use proofs.Common.{◌≡◌, ℕ, ◌+◌, ◌*◌, ◌<◌, ◌≤◌, inl, inr, Bool, true, false, cond, ◌==◌, List, [], ◌∷◌, find, Option, Some, None, option_map, is_some, refl, sym, ap, ◌∙◌, subst, arith, eqb-true, false≢true, Block, Heap, Object, blocks, object_at, is_fixed, Member, IsBlockOf, block_member}
use proofs.Common.{bytes_in, name_of, is_name, id_named, id_at}
use Rattle.std.specs.FinMap as finmap

-- The first of a list that passes a test.
module _ {X : Type 0} (test : X → Bool) where
  found : (xs : List X) (x : X) → find test xs ≡ Some x → Member x xs × (test x ≡ true)
  found [] x e = cc
  found (y ∷ xs) x e = elim (test y) as (λ b. test y ≡ b → cond b (Some y) (find test xs) ≡ Some x → Member x (y ∷ xs) × (test x ≡ true)) [
    | true ↦ λ t h. let same : y ≡ x = cc in (inl (sym same), ap test (sym same) ∙ t)
    | false ↦ λ t h. let r : Member x xs × (test x ≡ true) = found xs x h in (inr r.0, r.1)
  ] refl e

  -- the only one is the first
  only : (xs : List X) (x : X) → Member x xs → test x ≡ true → ((y : X) → Member y xs → test y ≡ true → y ≡ x) → find test xs ≡ Some x
  only [] x m t one = absurd m
  only (y ∷ xs) x m t one = elim (C.cases_Bool (test y)) [
    | inl here ↦ ap (λ b. cond b (Some y) (find test xs)) here ∙ ap Some (one y (inl refl) here)
    | inr out ↦ ap (λ b. cond b (Some y) (find test xs)) out ∙ only xs x (later m out) t (λ z n u. one z (inr n) u)
  ]
    where
      later : Member x (y ∷ xs) → test y ≡ false → Member x xs
      later (inl e) out = absurd (false≢true (sym out ∙ ap test (sym e) ∙ t))
      later (inr n) out = n

-- The same of a map's entries.
module _ {X : Type 0} (m : C.FinMap C.nat_cmp X) (test : ℕ × X → Bool) where
  abbrev key_found : Option ℕ
  key_found = option_map (λ (e : ℕ × X). e.0) (find test (finmap.entries m))

  entry_is : (e : ℕ × X) → Member e (finmap.entries m) → finmap.get m e.0 ≡ Some e.1
  entry_is e n = C.get-entries m e.0 ∙ C.member_found (finmap.entries m) e.0 e.1 (C.keys_rise (finmap.entries m) (C.entries_sorted m)) n

  key_is : (id : ℕ) → key_found ≡ Some id → (x : X) × (finmap.get m id ≡ Some x) × (test (id, x) ≡ true)
  key_is id e = turn (find test (finmap.entries m)) refl e
    where
      turn : (p : Option (ℕ × X)) → find test (finmap.entries m) ≡ p → option_map (λ (e : ℕ × X). e.0) p ≡ Some id → (x : X) × (finmap.get m id ≡ Some x) × (test (id, x) ≡ true)
      turn None f e = cc
      turn (Some d) f e =
          let r : Member d (finmap.entries m) × (test d ≡ true) = found test (finmap.entries m) d f in
          let same : d.0 ≡ id = cc in
          subst (λ k. (x : X) × (finmap.get m k ≡ Some x) × (test (k, x) ≡ true)) same (d.1, entry_is d r.0, r.1)

  is_key : (id : ℕ) (x : X) → finmap.get m id ≡ Some x → test (id, x) ≡ true → ((q : ℕ) (y : X) → finmap.get m q ≡ Some y → test (q, y) ≡ true → q ≡ id) → key_found ≡ Some id
  is_key id x there t one = ap (option_map (λ (e : ℕ × X). e.0)) (only test (finmap.entries m) (id, x) (C.found_member (finmap.entries m) id x (sym (C.get-entries m id) ∙ there)) t same)
    where
      same : (e : ℕ × X) → Member e (finmap.entries m) → test e ≡ true → e ≡ (id, x)
      same e n u =
          let key : e.0 ≡ id = one e.0 e.1 (entry_is e n) u in
          let value : e.1 ≡ x = (let some : ◌≡◌ {A = Option X} (Some e.1) (Some x) = sym (entry_is e n) ∙ ap (finmap.get m) key ∙ there in cc) in
          λ i. (key i, value i)

-- Places.
module _ (heap : Heap) (is : C.IsHeap heap) where
  -- an object that has a place has a block there
  pub block_placed : (id p : ℕ) → finmap.get heap.places id ≡ Some p → (x : Block) × IsBlockOf heap x × (x.id ≡ id) × (x.at ≡ p)
  block_placed id p e = turn (object_at heap id) refl (sym (is.at_bytes id) ∙ ap is_some e)
    where
      by_bytes : (o : Object) → object_at heap id ≡ Some o → (b : Option (List ℕ)) → o.bytes ≡ b → is_some b ≡ true → (x : Block) × IsBlockOf heap x × (x.id ≡ id) × (x.at ≡ p)
      by_bytes o there None has t = absurd (false≢true t)
      by_bytes o there (Some bytes) has t = (
        record { id = id; at = p; size = C.length bytes; hold = C.hold_of_object o },
        record { object = o; bytes = bytes; is_there = there; has_bytes = has; place = sym (ap (λ q. C.unwrap_or q 0) e); size = refl; hold = refl },
        refl,
        refl,
      )

      turn : (q : Option Object) → object_at heap id ≡ q → is_some (bytes_in q) ≡ true → (x : Block) × IsBlockOf heap x × (x.id ≡ id) × (x.at ≡ p)
      turn None there t = absurd (false≢true t)
      turn (Some o) there t = by_bytes o there o.bytes refl t

  -- and a block has its place
  pub placed_block : (x : Block) → IsBlockOf heap x → finmap.get heap.places x.id ≡ Some x.at
  placed_block x b = turn (finmap.get heap.places x.id) refl (is.at_bytes x.id ∙ ap (λ p. is_some (bytes_in p)) b.is_there ∙ ap is_some b.has_bytes)
    where
      turn : (p : Option ℕ) → finmap.get heap.places x.id ≡ p → is_some p ≡ true → finmap.get heap.places x.id ≡ Some x.at
      turn None e t = absurd (false≢true t)
      turn (Some q) e t = e ∙ ap Some (sym (b.place ∙ ap (λ p. C.unwrap_or p 0) e))

  sized : (x : Block) → IsBlockOf heap x → 0 < x.size
  sized x b = (C.Each-at (λ x. (heap.lo ≤ x.at) × (0 < x.size) × (C.block_end x ≤ heap.hi)) (blocks heap) (C.Each-from_All _ (blocks heap) is.placed.inside) x (block_member heap x b)).1

  -- no two begin at one place
  one_block : (x y : Block) → IsBlockOf heap x → IsBlockOf heap y → x.at ≡ y.at → x.id ≡ y.id
  one_block x y b c e = elim (C.cases_eq x.id y.id) [
    | inl same ↦ same
    | inr d ↦ absurd (never x y e (sized x b) (sized y c) (C.two_placed heap is x y b c (λ f. d (ap (λ (z : Block). z.id) f))))
  ]
    where
      never : (x y : Block) → x.at ≡ y.at → 0 < x.size → 0 < y.size → C.Misses x.at x.size y.at (C.block_end y) → ⊥
      never x y e s t (inl f) = omega (arith, e, s, f)
      never x y e s t (inr f) = omega (arith, e, t, f)

  pub one_place : (q id p : ℕ) → finmap.get heap.places q ≡ Some p → finmap.get heap.places id ≡ Some p → q ≡ id
  one_place q id p e f =
      let x : (x : Block) × IsBlockOf heap x × (x.id ≡ q) × (x.at ≡ p) = block_placed q p e in
      let y : (y : Block) × IsBlockOf heap y × (y.id ≡ id) × (y.at ≡ p) = block_placed id p f in
      sym x.2 ∙ one_block x.0 y.0 x.1 y.1 (x.3 ∙ sym y.3) ∙ y.2

  -- near pointers
  at_place : (p id : ℕ) → id_at heap p ≡ Some id → finmap.get heap.places id ≡ Some p
  at_place p id e = turn (find (λ (x : Block). x.at == p) (blocks heap)) refl e
    where
      turn : (b : Option Block) → find (λ (x : Block). x.at == p) (blocks heap) ≡ b → option_map (λ (x : Block). x.id) b ≡ Some id → finmap.get heap.places id ≡ Some p
      turn None f e = cc
      turn (Some x) f e =
          let r : Member x (blocks heap) × ((x.at == p) ≡ true) = found (λ (x : Block). x.at == p) (blocks heap) x f in
          let same : x.id ≡ id = cc in
          ap (finmap.get heap.places) (sym same) ∙ placed_block x (C.member_block heap x r.0) ∙ ap Some (eqb-true x.at p r.1)

  place_at : (p id : ℕ) → finmap.get heap.places id ≡ Some p → id_at heap p ≡ Some id
  place_at p id e =
      let x : (x : Block) × IsBlockOf heap x × (x.id ≡ id) × (x.at ≡ p) = block_placed id p e in
      ap (option_map (λ (x : Block). x.id)) (only (λ (x : Block). x.at == p) (blocks heap) x.0 (block_member heap x.0 x.1) (C.eq-eqb x.0.at p x.3) (λ y m t. same x.0 y x.1 (C.member_block heap y m) (eqb-true y.at p t ∙ sym x.3)))
      ∙ ap Some x.2
    where
      same : (x y : Block) → IsBlockOf heap x → IsBlockOf heap y → y.at ≡ x.at → y ≡ x
      same x y b c e = C.same_id heap y x c b (one_block y x c b e)

  -- Names.
  module _ (grain : heap.grain ≡ C.LOCAL_GRAIN) where
    -- places are multiples of 4
    by_four : (id p : ℕ) → finmap.get heap.places id ≡ Some p → (m : ℕ) × (p ≡ 4 * m)
    by_four id p e =
        let x : (x : Block) × IsBlockOf heap x × (x.id ≡ id) × (x.at ≡ p) = block_placed id p e in
        let g : ((m : ℕ) × (x.0.at ≡ heap.grain * m)) × ((m : ℕ) × (x.0.size ≡ heap.grain * m)) = C.Each-at (λ x. ((m : ℕ) × (x.at ≡ heap.grain * m)) × ((m : ℕ) × (x.size ≡ heap.grain * m))) (blocks heap) (C.Each-from_All _ (blocks heap) is.grained) x.0 (block_member heap x.0 x.1) in
        (g.0.0, sym x.3 ∙ g.0.1 ∙ ap (λ k. k * g.0.0) grain)

    -- two that have one name are one
    one_named : (q id name : ℕ) (w o : Object) → name_of heap q w ≡ Some name → name_of heap id o ≡ Some name → q ≡ id
    one_named q id name w o = turn (is_fixed w.kind) (is_fixed o.kind)
      where
        entry_number : (id name : ℕ) → ◌≡◌ {A = Option ℕ} (Some (4 * id + 2)) (Some name) → 4 * id + 2 ≡ name
        entry_number id name e = cc

        turn : (f g : Bool) → cond f (finmap.get heap.places q) (Some (4 * q + 2)) ≡ Some name → cond g (finmap.get heap.places id) (Some (4 * id + 2)) ≡ Some name → q ≡ id
        turn true true e f = one_place q id name e f
        turn true false e f = let m : (m : ℕ) × (name ≡ 4 * m) = by_four q name e in absurd (apart m.0 id (sym m.1 ∙ sym (entry_number id name f)))
          where
            apart : (m id : ℕ) → 4 * m ≡ 4 * id + 2 → ⊥
            apart m id e = omega (arith, e)
        turn false true e f = let m : (m : ℕ) × (name ≡ 4 * m) = by_four id name f in absurd (apart m.0 q (sym m.1 ∙ sym (entry_number q name e)))
          where
            apart : (m id : ℕ) → 4 * m ≡ 4 * id + 2 → ⊥
            apart m id e = omega (arith, e)
        turn false false e f = omega (arith, entry_number q name e, entry_number id name f)

    is_name-true : (name : ℕ) (p : Option ℕ) → is_name name p ≡ true → p ≡ Some name
    is_name-true name None t = absurd (false≢true t)
    is_name-true name (Some n) t = ap Some (eqb-true n name t)

    true-is_name : (name : ℕ) (p : Option ℕ) → p ≡ Some name → is_name name p ≡ true
    true-is_name name p e = ap (is_name name) e ∙ C.eq-eqb name name refl

    has_name : (name id : ℕ) → id_named heap name ≡ Some id → C.name_at heap id ≡ Some name
    has_name name id e =
        let r : (o : Object) × (object_at heap id ≡ Some o) × (is_name name (name_of heap id o) ≡ true) = key_is heap.objects (λ e. is_name name (name_of heap e.0 e.1)) id e in
        ap (λ (p : Option Object). elim p [ None ↦ None | Some o ↦ name_of heap id o ]) r.1 ∙ is_name-true name (name_of heap id r.0) r.2

    name_has : (name id : ℕ) → C.name_at heap id ≡ Some name → id_named heap name ≡ Some id
    name_has name id e = turn (object_at heap id) refl e
      where
        turn : (p : Option Object) → object_at heap id ≡ p → ◌≡◌ {A = Option ℕ} (elim p [ None ↦ None | Some o ↦ name_of heap id o ]) (Some name) → id_named heap name ≡ Some id
        turn None there e = cc
        turn (Some o) there e = is_key heap.objects (λ e. is_name name (name_of heap e.0 e.1)) id o there (true-is_name name (name_of heap id o) e)
            (λ q w at t. one_named q id name w o (is_name-true name (name_of heap q w) t) e)

pub names_law : C.NamesLaw
names_law heap name id is grain = ((has_name _ is grain _ id, name_has _ is grain _ id), (at_place _ is _ id, place_at _ is _ id))
