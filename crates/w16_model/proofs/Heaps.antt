-- The blocks of a heap, by its objects.
use Rattle.w16_model.proofs
use proofs.Common as C
use Rattle.std.specs.{List.AllByRecursion as Each, FinMap.Entries.find}
use proofs.Common.{◌≡◌, ◌≢◌, ℕ, ◌<◌, inl, inr, Bool, true, false, cond, ◌&&◌, T, List, [], ◌∷◌, length, Option, Some, None, option_map, unwrap_or, refl, sym, ap, ◌∙◌, subst, arith, Less, Equal, is_eq, is_lt, eq_by_cmp, nat_cmp_total, filter_map, cons_option, FinMap, is_sorted}
use proofs.Common.{below_all, false≢true, Block, Heap, Object, blocks, block_of, hold_of_object, absent}
use proofs.Gaps.{EachPair, Member, Each-at, Each-from, EachPair-map}
use proofs.Members.{AllDiffer, permutation_from}
use Rattle.std.proofs.Common.{nat_cmp}
use Rattle.std.specs.FinMap as finmap

pub tied : (q k : ℕ) → eq_by_cmp nat_cmp q k ≡ true → q ≡ k
tied q k = turn _ _ (C.eqb-true q k)
  where
    turn : (l e : Bool) → (e ≡ true → q ≡ k) → is_eq (cond l Less (cond e Equal C.Greater)) ≡ true → q ≡ k
    turn true e f h = absurd (false≢true h)
    turn false true f h = f refl
    turn false false f h = absurd (false≢true h)

pub tied_itself : (q : ℕ) → eq_by_cmp nat_cmp q q ≡ true
tied_itself q = (C.eq_by_cmp_equiv nat_cmp_total).refl q

smaller : (k q : ℕ) → T (is_lt (nat_cmp k q)) → k < q
smaller k q = turn _ _ (C.ltb-true k q)
  where
    turn : (l e : Bool) → (l ≡ true → k < q) → T (is_lt (cond l Less (cond e Equal C.Greater))) → k < q
    turn true e f h = f refl
    turn false true f h = absurd h
    turn false false f h = absurd h

both : (a b : Bool) → T (a && b) → T a × T b
both true b h = (tt, h)
both false b h = absurd h

module _ {X : Type 0} where
  -- an entry is one of a map's just where the map has its value at its key
  pub found_member : (es : List (ℕ × X)) (q : ℕ) (v : X) → find nat_cmp q es ≡ Some v → Member (q, v) es
  found_member [] q v e = cc
  found_member (x ∷ es) q v e =
      elim (eq_by_cmp nat_cmp q x.0) as (λ b. eq_by_cmp nat_cmp q x.0 ≡ b → cond b (Some x.1) (find nat_cmp q es) ≡ Some v → Member (q, v) (x ∷ es)) [
        | true ↦ λ t h. let same : x.1 ≡ v = cc in inl (λ i. (tied q x.0 t i, sym same i))
        | false ↦ λ t h. inr (found_member es q v h)
      ] refl e

  keys_above : (k : ℕ) (es : List (ℕ × X)) → T (below_all nat_cmp k es) → Each (λ e. k < e.0) es
  keys_above k [] h = tt
  keys_above k (x ∷ es) h = let parts : T (is_lt (nat_cmp k x.0)) × T (below_all nat_cmp k es) = both (is_lt (nat_cmp k x.0)) (below_all nat_cmp k es) h in (smaller k x.0 parts.0, keys_above k es parts.1)

  pub keys_rise : (es : List (ℕ × X)) → T (is_sorted nat_cmp es) → EachPair (λ d e. d.0 < e.0) es
  keys_rise [] h = tt
  keys_rise (x ∷ es) h = let parts : T (below_all nat_cmp x.0 es) × T (is_sorted nat_cmp es) = both (below_all nat_cmp x.0 es) (is_sorted nat_cmp es) h in (keys_above x.0 es parts.0, keys_rise es parts.1)

  pub member_found : (es : List (ℕ × X)) (q : ℕ) (v : X) → EachPair (λ d e. d.0 < e.0) es → Member (q, v) es → find nat_cmp q es ≡ Some v
  member_found [] q v h m = absurd m
  member_found (x ∷ es) q v h (inl e) = ap (λ b. cond b (Some x.1) (find nat_cmp q es)) (ap (λ k. eq_by_cmp nat_cmp q k) (sym (ap (λ (p : ℕ × X). p.0) e)) ∙ tied_itself q) ∙ ap (λ (p : ℕ × X). Some p.1) (sym e)
  member_found (x ∷ es) q v h (inr m) =
      let above : x.0 < q = Each-at (λ (e : ℕ × X). x.0 < e.0) es h.0 (q, v) m in
      elim (C.cases_Bool (eq_by_cmp nat_cmp q x.0)) [
        | inl t ↦ absurd (omega (arith, tied q x.0 t, above))
        | inr t ↦ ap (λ b. cond b (Some x.1) (find nat_cmp q es)) t ∙ member_found es q v h.1 m
      ]

-- what a heap says of a block
pub record IsBlockOf (heap : Heap) (x : Block) : Type 0 where
  pub object : Object
  pub bytes : List ℕ
  pub is_there : C.object_at heap x.id ≡ Some object
  pub has_bytes : object.bytes ≡ Some bytes
  pub place : x.at ≡ unwrap_or (finmap.get heap.places x.id) 0
  pub size : x.size ≡ length bytes
  pub hold : x.hold ≡ hold_of_object object

member_mapped : {X Y : Type 0} (f : X → Option Y) (xs : List X) (y : Y) → Member y (filter_map f xs) → (x : X) × Member x xs × (f x ≡ Some y)
member_mapped f [] y m = absurd m
member_mapped {X} {Y} f (x ∷ xs) y m =
    elim (f x) as (λ o. f x ≡ o → Member y (cons_option o (filter_map f xs)) → (z : X) × Member z (x ∷ xs) × (f z ≡ Some y)) [
      | None ↦ λ e n. later (member_mapped f xs y n)
      | Some w ↦ λ e n. elim n [ inl is ↦ (x, inl refl, e ∙ ap Some (sym is)) | inr k ↦ later (member_mapped f xs y k) ]
    ] refl m
  where
    later : (z : X) × Member z xs × (f z ≡ Some y) → (z : X) × Member z (x ∷ xs) × (f z ≡ Some y)
    later r = (r.0, inr r.1, r.2)

mapped_member : {X Y : Type 0} (f : X → Option Y) (xs : List X) (y : Y) (x : X) → Member x xs → f x ≡ Some y → Member y (filter_map f xs)
mapped_member f [] y x m e = absurd m
mapped_member f (z ∷ xs) y x (inl is) e = subst (λ o. Member y (cons_option o (filter_map f xs))) (sym (ap f (sym is) ∙ e)) (inl refl)
mapped_member {X} {Y} f (z ∷ xs) y x (inr m) e = turn (f z) (mapped_member f xs y x m e)
  where
    turn : (o : Option Y) → Member y (filter_map f xs) → Member y (cons_option o (filter_map f xs))
    turn None n = n
    turn (Some w) n = inr n

abbrev block_from : FinMap nat_cmp ℕ → ℕ → Object → List ℕ → Block
block_from places id o bytes = record { id = id; at = unwrap_or (finmap.get places id) 0; size = length bytes; hold = hold_of_object o }

-- a block is one of a heap's just where the heap says it of it
pub block_member : (heap : Heap) (x : Block) → IsBlockOf heap x → Member x (blocks heap)
block_member heap x is =
    mapped_member (block_of _) (finmap.entries _) x (x.id, is.object)
    (found_member _ x.id _ (sym (C.get-entries _ x.id) ∙ is.is_there))
    (ap (option_map (λ bytes. record { id = x.id; at = unwrap_or (finmap.get _ x.id) 0; size = length bytes; hold = hold_of_object is.object })) is.has_bytes
    ∙ ap Some (λ i. record { id = x.id; at = sym is.place i; size = sym is.size i; hold = sym is.hold i }))

pub member_block : (heap : Heap) (x : Block) → Member x (blocks heap) → IsBlockOf heap x
member_block heap x m =
    let at = member_mapped _ _ x m in
    from at.0.0 at.0.1 at.1 _ refl at.2
  where
    block_is : (id : ℕ) (o : Object) → option_map (λ bytes. record { id = id; at = unwrap_or (finmap.get heap.places id) 0; size = length bytes; hold = hold_of_object o }) o.bytes ≡ Some x
        → option_map (λ bytes. block_from heap.places id o bytes) o.bytes ≡ Some x
    block_is id o h = h

    from : (id : ℕ) (o : Object) → Member (id, o) (finmap.entries heap.objects) → (b : Option (List ℕ)) → o.bytes ≡ b
        → option_map (λ bytes. record { id = id; at = unwrap_or (finmap.get heap.places id) 0; size = length bytes; hold = hold_of_object o }) o.bytes ≡ Some x → IsBlockOf heap x
    from id o n None e h = let none : ◌≡◌ {A = Option Block} None (Some x) = ap (option_map (λ (bytes : List ℕ). block_from _ id o bytes)) (sym e) ∙ block_is id o h in cc
    from id o n (Some bytes) e h =
        let y = block_from _ id o bytes in
        let some : ◌≡◌ {A = Option Block} (Some y) (Some x) = ap (option_map (λ (bytes : List ℕ). block_from _ id o bytes)) (sym e) ∙ block_is id o h in
        let same : y ≡ x = cc in
        subst (IsBlockOf heap) same (record {
          object = o;
          bytes = bytes;
          is_there = C.get-entries _ id ∙ member_found _ id o (keys_rise _ (C.entries_sorted _)) n;
          has_bytes = e;
          place = refl;
          size = refl;
          hold = refl;
        })

-- the ids of a heap's blocks differ, and so do the blocks
block_of_id : (places : FinMap nat_cmp ℕ) (e : ℕ × Object) (x : Block) → block_of places e ≡ Some x → x.id ≡ e.0
block_of_id places e x h = turn _ h
  where
    turn : (b : Option (List ℕ)) → option_map (λ bytes. block_from places e.0 e.1 bytes) b ≡ Some x → x.id ≡ e.0
    turn None k = cc
    turn (Some bytes) k = let same : block_from places e.0 e.1 bytes ≡ x = cc in ap (λ (y : Block). y.id) (sym same)

pub blocks_rise : (places : FinMap nat_cmp ℕ) (es : List (ℕ × Object)) → EachPair (λ d e. d.0 < e.0) es → EachPair (λ x y. x.id < y.id) (filter_map (block_of places) es)
blocks_rise places [] h = tt
blocks_rise places (e ∷ es) h =
    let rest : EachPair (λ x y. x.id < y.id) (filter_map (block_of places) es) = blocks_rise places es h.1 in
    let above : (y : Block) → Member y (filter_map (block_of places) es) → e.0 < y.id = λ y m.
    let from = member_mapped _ es y m in
    omega (arith, Each-at (λ d. e.0 < d.0) es h.0 from.0 from.1, block_of_id places from.0 y from.2) in
    elim (block_of places e) as (λ o. block_of places e ≡ o → EachPair (λ x y. x.id < y.id) (cons_option o (filter_map (block_of places) es))) [
      | None ↦ λ _. rest
      | Some x ↦ λ is. (Each-from (λ y. x.id < y.id) (filter_map (block_of places) es) (λ y m. omega (arith, block_of_id places e x is, above y m)), rest)
    ] refl

pub blocks_differ : (heap : Heap) → AllDiffer (blocks heap)
blocks_differ heap = EachPair-map (λ x y. x.id < y.id) (λ x y. x ≢ y) (λ x y l e. let same = ap (λ z. z.id) e in omega (arith, l, same)) _
    (blocks_rise heap.places (finmap.entries _) (keys_rise _ (C.entries_sorted _)))

-- Any list of blocks that says what the heap says is the heap's, in another order.
pub blocks_permutation : (heap : Heap) (xs : List Block) → AllDiffer xs → ((x : Block) → Member x xs → IsBlockOf heap x) → ((x : Block) → IsBlockOf heap x → Member x xs) → C.IsPermutation xs (blocks heap)
blocks_permutation heap xs differ into back = permutation_from xs _ differ (blocks_differ heap) (λ x m. block_member heap x (into x m)) (λ x m. back x (member_block heap x m))

pub untied : (q k : ℕ) → q ≢ k → eq_by_cmp nat_cmp q k ≡ false
untied q k h = elim (C.cases_Bool _) [ inl t ↦ absurd (h (tied q k t)) | inr t ↦ t ]

pub get-update_same : (m : FinMap nat_cmp Object) (id : ℕ) (f : Object → Object) → finmap.get (C.update m id f) id ≡ option_map f (finmap.get m id)
get-update_same m id f = elim (finmap.get m id) as (λ o. finmap.get m id ≡ o → finmap.get (elim o [ Some o ↦ finmap.insert m id (f o) | None ↦ m ]) id ≡ option_map f o) [
  | Some o ↦ λ _. C.get-insert nat_cmp_total m id (f o) id ∙ ap (λ b. cond b (Some (f o)) (finmap.get m id)) (tied_itself id)
  | None ↦ λ e. e
] refl

pub get-update_other : (m : FinMap nat_cmp Object) (id : ℕ) (f : Object → Object) (q : ℕ) → q ≢ id → finmap.get (C.update m id f) q ≡ finmap.get m q
get-update_other m id f q h = elim (finmap.get m id) as (λ o. finmap.get (elim o [ Some o ↦ finmap.insert m id (f o) | None ↦ m ]) q ≡ finmap.get m q) [
  | Some o ↦ C.get-insert nat_cmp_total m id (f o) q ∙ ap (λ b. cond b (Some (f o)) (finmap.get m q)) (untied q id h)
  | None ↦ refl
]

get-remove_other : (m : FinMap nat_cmp ℕ) (id q : ℕ) → q ≢ id → finmap.get (finmap.remove m id) q ≡ finmap.get m q
get-remove_other m id q h = C.get-remove nat_cmp_total m id q ∙ ap (λ b. cond b None (finmap.get m q)) (untied q id h)

-- A heap with an object absent has the other blocks.
pub block_of_absent : (heap : Heap) (id : ℕ) (x : Block) → IsBlockOf (absent heap id) x → IsBlockOf heap x × (x.id ≢ id)
block_of_absent heap id x is = elim (C.cases_eq x.id id) [
  | inl e ↦ absurd (gone _ (sym (get-update_same heap.objects id (λ o. record o { bytes = None })) ∙ ap (λ q. C.object_at (absent heap id) q) (sym e) ∙ is.is_there))
  | inr other ↦ (
    record {
      object = is.object;
      bytes = is.bytes;
      is_there = sym (get-update_other _ id (λ o. record o { bytes = None }) x.id other) ∙ is.is_there;
      has_bytes = is.has_bytes;
      place = is.place ∙ ap (λ o. unwrap_or o 0) (get-remove_other _ id x.id other);
      size = is.size;
      hold = is.hold;
    },
    other,
  )
]
  where
    gone : (o : Option Object) → option_map (λ (o : Object). record o { bytes = None }) o ≡ Some is.object → ⊥
    gone None h = cc
    gone (Some o) h = let same : record o { bytes = None } ≡ is.object = cc in let none : ◌≡◌ {A = Option (List ℕ)} None (Some is.bytes) = ap (λ (o : Object). o.bytes) same ∙ is.has_bytes in cc

pub absent_of_block : (heap : Heap) (id : ℕ) (x : Block) → IsBlockOf heap x → x.id ≢ id → IsBlockOf (absent heap id) x
absent_of_block heap id x is other = record {
  object = is.object;
  bytes = is.bytes;
  is_there = get-update_other _ id (λ o. record o { bytes = None }) x.id other ∙ is.is_there;
  has_bytes = is.has_bytes;
  place = is.place ∙ ap (λ o. unwrap_or o 0) (sym (get-remove_other _ id x.id other));
  size = is.size;
  hold = is.hold;
}
