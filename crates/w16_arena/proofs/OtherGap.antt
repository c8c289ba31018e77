-- A gap that is gathered for a block that stands elsewhere.
use Rattle.w16_arena.proofs
use proofs.Common as C
use proofs.Common.{◌≡◌, ℕ, ◌+◌, ◌<◌, ◌≤◌, ◌==◌, ◌⊎◌, inl, inr, List, [], ◌∷◌, All, Some, None, refl, sym, ap, ◌∙◌, subst, arith, Block, part, loose_bytes, block_with, Layout, all_but, Gap, Slides}
use proofs.ButFor.{moved_both, slides_ids, own_lies}
use proofs.Gathering.{gathered_moved, gathered_free}
use proofs.Pairs.{BothOrNone, with_two}
use Rattle.w16_blocks.specs.Runs.{IsRun}
use Rattle.w16_compact.specs.Gap.{without}

-- the loose bytes of an interval, without a block outside
loose_outside : (cap a e : ℕ) (x : Block) (bs : List Block) → C.AreNamed cap bs → block_with bs x.id ≡ Some x → (x.at < a) ⊎ (e ≤ x.at) → loose_bytes bs a e ≡ loose_bytes (all_but x.id bs) a e
loose_outside cap a e x [] named known out = cc
loose_outside cap a e x (b ∷ bs) named known out = elim (C.eqb_tells b.id x.id) [
  | inl same ↦
      let f : Some b ≡ Some x = sym (C.with_same x.id b bs same.0) ∙ known in let is : b ≡ x = cc in
      let rest = C.all_but_same x.id b bs same.0 ∙ C.all_but_absent x.id bs (C.rest_differs cap x.id b bs same.1 named) in
      C.loose_skip b bs a e (subst (λ c. (c.at < a) ⊎ (e ≤ c.at)) (sym is) out) ∙ ap (λ cs. loose_bytes cs a e) (sym rest)
  | inr other ↦
      let rest = loose_outside cap a e x bs named.2 (sym (C.with_other x.id b bs other.0) ∙ known) out in
      let left = ap (λ cs. loose_bytes cs a e) (C.all_but_other x.id b bs other.0) in
      let one = C.loose_one b bs a e in let two = C.loose_one b (all_but x.id bs) a e in
      omega (arith, rest, left, one, two)
]

module _ {l : Layout} (ordered : C.IsOrdered l) (x : Block) (known : block_with l.blocks x.id ≡ Some x) {n : ℕ} {gap : Gap} (has : C.HasRoom (without (Some x.id) l) n gap) (other : (x.at < gap.low) ⊎ (gap.high ≤ x.at)) where
  outside : (C.block_end x ≤ gap.low) ⊎ (gap.high ≤ x.at)
  outside = C.lies_outside l ordered x.id x known n gap has other

  -- a pinned block outside the gap has no byte there
  abbrev Missed : ℕ → ℕ → Block → Type 0
  Missed a e y = C.IsTrue (C.is_pinned y) → C.Misses y.at y.size a e

  -- so the gap has the room with it too
  pub room_all : C.HasRoom l n gap
  room_all = record {
    gap = record {
      some = has.gap.some;
      clear = record {
        above = has.gap.clear.above;
        below = has.gap.clear.below;
        misses = C.All-from_Each _ l.blocks (C.All-back l.cap (Missed gap.low gap.high) x.id x l.blocks ordered.named known (λ t. elim outside [ inl front ↦ inl front | inr behind ↦ inr behind ]) (C.Each-from_All _ (all_but x.id l.blocks) has.gap.clear.misses));
      };
      maximal = λ a e low high wider. has.gap.maximal a e low high (record {
        above = wider.above;
        below = wider.below;
        misses = C.All-from_Each _ (all_but x.id l.blocks) (C.All-all_but (Missed a e) x.id l.blocks (C.Each-from_All _ l.blocks wider.misses));
      });
    };
    loose = has.loose ∙ sym (loose_outside l.cap gap.low gap.high x l.blocks ordered.named known other);
    room = has.room;
    grained = has.grained;
    may = C.may_beside l ordered x.id x known n gap has other;
  }

  -- once it is gathered
  pub all_free : {mid : Layout} → mid ≡ record l { blocks = C.gathered gap.low gap.high l.blocks } → C.IsClear C.is_any l.lo l.hi mid.blocks (gap.low + loose_bytes l.blocks gap.low gap.high) gap.high → C.AreFreeBytes mid n (gap.low + gap.loose)
  all_free value clear = gathered_free ordered room_all value clear

  module _ {from : ℕ} (run : IsRun l (record { from = gap.low; to = from })) (top : from ≤ gap.high) {mid : Layout}
      (value : mid ≡ record l { blocks = C.gathered gap.low gap.high l.blocks }) (laid : C.IsOrdered mid)
      (memory after : List ℕ) (bytes : C.contents after mid.blocks ≡ C.contents memory l.blocks)
      (long : C.length after ≡ C.length memory)
      (small : All (λ b. b < 256) after) where
    pub all_moved : C.AreMoved from gap.high l memory mid after
    all_moved = gathered_moved ordered room_all run top value bytes long laid small

    -- the block stands where it stood, with its bytes
    stays : (block_with mid.blocks x.id ≡ Some x) × (part after x.at x.size ≡ part memory x.at x.size)
    stays = is_at (block_with mid.blocks x.id) (subst (λ (o : C.Option Block). BothOrNone R o (block_with mid.blocks x.id)) known (with_two R (slides_ids from gap.high memory after) l.blocks mid.blocks all_moved.blocks x.id))
      where
        R : Block → Block → Type 0
        R = Slides from gap.high memory after

        same : (c : Block) → Slides from gap.high memory after x c → c ≡ x
        same c s = s.same ∙ ap (λ (a : ℕ). let r : Block = record x { at = a } in r) (elim s.place [
          | inl e ↦ e
          | inr f ↦ let some = (own_lies ordered x known).1 in let from_low = f.3 in let to_high = f.4 in let le = run.inside.1 in elim outside [ inl front ↦ absurd (omega arith) | inr behind ↦ absurd (omega arith) ]
        ])

        is_at : (o : C.Option Block) → BothOrNone (Slides from gap.high memory after) (Some x) o → (o ≡ Some x) × (part after x.at x.size ≡ part memory x.at x.size)
        is_at None s = absurd s
        is_at (Some c) s = (ap Some (same c s), subst (λ (d : Block). part after d.at d.size ≡ part memory x.at x.size) (same c s) s.bytes)

    pub known_mid : block_with mid.blocks x.id ≡ Some x
    known_mid = stays.0

    pub bytes_mid : part after x.at x.size ≡ part memory x.at x.size
    bytes_mid = stays.1

    -- so what was moved was others'
    pub others_moved : C.moved_between l.blocks mid.blocks ≡ C.moved_between (all_but x.id l.blocks) (all_but x.id mid.blocks)
    others_moved =
        let all = moved_both (Slides from gap.high memory after) (slides_ids from gap.high memory after) x.id l.cap l.blocks mid.blocks all_moved.blocks ordered.named (subst (λ k. C.AreNamed k mid.blocks) (ap (λ (m : Layout). m.cap) value) laid.named) x x known known_mid in
        let none = C.cond-true (x.at == x.at) 0 x.size (C.eq-eqb x.at x.at refl) in
        omega (arith, all, none)
