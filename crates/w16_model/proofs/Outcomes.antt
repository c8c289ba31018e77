-- What a request leaves where it stands.
use Rattle.w16_model.proofs
use proofs.Common as C
use proofs.Common.{◌≡◌, ◌≢◌, ℕ, Bool, true, false, cond, not, ◌&&◌, ◌||◌, IsSomeAnd, List, Option, Some, None, is_some, refl, sym, ap, ◌∙◌, subst, false≢true, Block, Loose, is_pinned, Heap, Object, object_at, hold_of_object, stays_for}
use proofs.{Gaps.Each-at, Gaps.Each-from_All, Heaps.IsBlockOf, Heaps.block_member}
use Rattle.std.specs.FinMap as finmap

module _ (old : Heap) (is : C.IsHeap old) (stays : Block → Bool) (heap new : Heap) (settles : C.Settles old stays heap new) where
  -- an object whose block stays keeps its address
  still : (q : ℕ) → ((x : Block) → x.id ≡ q → IsSomeAnd (object_at old q) (λ o. x.hold ≡ hold_of_object o) → stays x ≡ true) → C.StandsStill old new q
  still q keeps = place (finmap.get old.places q) refl
    where
      kept : (o : Object) (bytes : List ℕ) (at : ℕ) → object_at old q ≡ Some o → o.bytes ≡ Some bytes → finmap.get old.places q ≡ Some at → finmap.get new.places q ≡ Some at
      kept o bytes at there has stood =
          let x : Block = record { id = q; at = at; size = C.length bytes; hold = hold_of_object o } in
          let block : IsBlockOf old x = record { object = o; bytes = bytes; is_there = there; has_bytes = has; place = ap (λ p. C.unwrap_or p 0) (sym stood); size = refl; hold = refl } in
          Each-at (λ y. C.IsTrue (stays y) → finmap.get new.places y.id ≡ Some y.at) (C.blocks old) (Each-from_All _ (C.blocks old) settles.kept) x (block_member old x block)
          (keeps x refl (subst (λ p. IsSomeAnd p (λ o. x.hold ≡ hold_of_object o)) (sym there) refl))

      object : (at : ℕ) → finmap.get old.places q ≡ Some at → (p : Option Object) → object_at old q ≡ p → finmap.get new.places q ≡ Some at
      object at stood None there = absurd (false≢true (sym (ap (λ (p : Option Object). is_some (elim p [ Some o ↦ o.bytes | None ↦ None ])) there) ∙ sym (is.at_bytes q) ∙ ap is_some stood))
      object at stood (Some o) there = bytes o.bytes refl
        where
          bytes : (b : Option (List ℕ)) → o.bytes ≡ b → finmap.get new.places q ≡ Some at
          bytes None has = absurd (false≢true (sym (ap (λ (p : Option Object). is_some (elim p [ Some o ↦ o.bytes | None ↦ None ])) there ∙ ap is_some has) ∙ sym (is.at_bytes q) ∙ ap is_some stood))
          bytes (Some list) has = kept o list at there has stood

      place : (p : Option ℕ) → finmap.get old.places q ≡ p → C.IfSome p (λ at. finmap.get new.places q ≡ Some at)
      place None stood = tt
      place (Some at) stood = object at stood (object_at old q) refl

-- the block of a pinned object is pinned
pinned_block : (x : Block) (p : Option Object) → IsSomeAnd p (λ o. C.is_pinned_object o ≡ true) → IsSomeAnd p (λ o. x.hold ≡ hold_of_object o) → is_pinned x ≡ true
pinned_block x None pinned held = absurd pinned
pinned_block x (Some o) pinned held = ap C.holds_still (held ∙ ap (λ b. cond b C.Pinned Loose) pinned)

-- what stays for h, if it isn't h's own block
pub stays_other : (h : ℕ) (options : C.RoomOptions) (x : Block) → x.id ≢ h → (is_pinned x || not options.compact) ≡ true → stays_for h options x ≡ true
stays_other h options x other t = ap (λ b. not b && (is_pinned x || not options.compact)) (C.ne_eqb x.id h other) ∙ t

or_left : (a b : Bool) → a ≡ true → (a || b) ≡ true
or_left true b t = refl
or_left false b t = absurd (false≢true t)

pub or_right : (a b : Bool) → b ≡ false → (a || not b) ≡ true
or_right true b t = refl
or_right false true t = absurd (false≢true (sym t))
or_right false false t = refl

pub address_law : C.AddressLaw
address_law old new is k = (
  (λ h options o order step. record {
    pinned = λ q other pinned. still old is _ _ new step q
        (λ x e held. stays_other h options x (λ same. other (ap Some (sym same ∙ e))) (or_left _ (not _) (pinned_block x _ pinned held)));
    unmoved = λ none q other. still old is _ _ new step q (λ x e held. stays_other h options x (λ same. other (ap Some (sym same ∙ e))) (or_right _ _ none));
  }),
  (λ step. record {
    pinned = λ q other pinned. still old is _ _ new step q (λ x e held. pinned_block x _ pinned held);
    unmoved = λ none q other. absurd (false≢true (sym none));
  }),
)
