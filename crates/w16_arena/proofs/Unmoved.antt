-- Where each object stands as it stood, or nowhere, nothing was moved.
use Rattle.w16_arena.proofs.Common.{◌≡◌, ℕ, ◌⊎◌, inl, inr, Bool, false, cond, not, List, [], ◌∷◌, filter, sum_by, Option, Some, None, unwrap_or, refl, ap, ◌∙◌, eq-eqb, nat_cmp, FinMap, filter_map, Block, Heap, Object, blocks, block_of, is_elsewhere, moved_bytes}
use Rattle.std.specs.FinMap as finmap
use Rattle.std.specs.List.{AllByRecursion as Each}

-- an address that is looked up is the one that was
here : (p : Option ℕ) → is_elsewhere (unwrap_or p 0) p ≡ false
here None = refl
here (Some at) = ap not (eq-eqb at at refl)

-- every object stands where it stood, or nowhere
abbrev pub NoneElsewhere : Heap → Heap → Type 0
NoneElsewhere heap new = (q : ℕ) → (finmap.get new.places q ≡ finmap.get heap.places q) ⊎ (finmap.get new.places q ≡ None)

not_elsewhere : (p r : Option ℕ) → (r ≡ p) ⊎ (r ≡ None) → is_elsewhere (unwrap_or p 0) r ≡ false
not_elsewhere p r (inl same) = ap (is_elsewhere _) same ∙ here p
not_elsewhere p r (inr none) = ap (is_elsewhere _) none

-- none of the blocks is elsewhere
abbrev AreHere : Heap → Heap → List Block → Type 0
AreHere heap new xs = Each (λ (x : Block). is_elsewhere x.at (finmap.get new.places x.id) ≡ false) xs

more_here : (heap new : Heap) → NoneElsewhere heap new → (id : ℕ) (o : Object) (es : List (ℕ × Object)) (b : Option (List ℕ)) → AreHere heap new (filter_map (block_of heap.places) es)
    → AreHere heap new (filter_map (block_of heap.places) ((id, record o { bytes = b }) ∷ es))
more_here heap new stay id o es None rest = rest
more_here heap new stay id o es (Some bytes) rest = (not_elsewhere (finmap.get _ id) (finmap.get _ id) (stay id), rest)

none_elsewhere : (heap new : Heap) → NoneElsewhere heap new → (es : List (ℕ × Object)) → AreHere heap new (filter_map (block_of heap.places) es)
none_elsewhere heap new stay [] = tt
none_elsewhere heap new stay ((id, o) ∷ es) = more_here heap new stay id o es o.bytes (none_elsewhere heap new stay es)

-- a sum over none
none_summed : (p : Block → Bool) (xs : List Block) → Each (λ x. p x ≡ false) xs → sum_by (λ x. x.size) (filter p xs) ≡ 0
none_summed p [] all = refl
none_summed p (x ∷ xs) all = ap (λ b. sum_by (λ x. x.size) (cond b (x ∷ filter p xs) (filter p xs))) all.0 ∙ none_summed p xs all.1

pub none_moved : (heap new : Heap) → NoneElsewhere heap new → moved_bytes heap new ≡ 0
none_moved heap new stay = none_summed (λ x. is_elsewhere x.at (finmap.get _ x.id)) (blocks heap) (none_elsewhere heap new stay (finmap.entries _))

pub unmoved : (heap new : Heap) → new.places ≡ heap.places → moved_bytes heap new ≡ 0
unmoved heap new same = none_moved heap new (λ q. inl (ap (λ places. finmap.get places q) same))
