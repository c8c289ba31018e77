use Rattle.w16_arena.proofs
use proofs.Common.{◌≡◌, false, ◌<◌, ◌≤◌, ℕ, nat_le, IfSome, IfNone, IsMultiple, List, Some, None, sym, ap, ◌∙◌, subst, length, Span, Table, block_with, heap_in, table_of}
use proofs.LeastEnd.{Tells, answered_absent, answered_known, least_is, none_found, below_cap}
use proofs.Arena.least_end.Goals.{in-None, in-Some}
use proofs.{Shown.known, Shown.told, Reallocated.found_known}
use Rattle.w16_model.specs.{Ends.ending, Ends.is_answered, Law.HasNoEnd, Law.IsLeastEnd}
use Rattle.w16_holes.specs.declared.holes.TheConstants.{LAST_END}
use Rattle.w16_compact.specs.{Stretch.stretch_at, declared.stretch.Stretch.Stretch}
use Rattle.w16_arena.proofs.Arena.least_end.Goals as goal

pub growth_stretch-stretch-requires-clause-known : goal.growth_stretch-stretch-requires-clause-known
growth_stretch-stretch-requires-clause-known g c =
    let b = c.in-Some.block in
    known c.self.invariant c.self.view_is (λ t. block_with t.blocks b.id ≡ Some b) (found_known c.args.self.now.table c.args.id b c.in-Some.ensures.value).1

pub growth_stretch-stretch-requires-clause-id : goal.growth_stretch-stretch-requires-clause-id
growth_stretch-stretch-requires-clause-id g c =
    let b = c.in-Some.block in
    let there = known c.self.invariant c.self.view_is (λ t. block_with t.blocks b.id ≡ Some b) (found_known c.args.self.now.table c.args.id b c.in-Some.ensures.value).1 in
    below_cap c.self.invariant b there

module _ (g : _) (c : goal.After-end_for g) where
  memory : List ℕ
  memory = g.S.Space.bytes c.args.space.now

  table : Table
  table = table_of c.self.inside.entries.items c.self.inside.blocks c.self.inside.order.ids

  inside : table.hi ≤ length memory
  unfolding memory table
  inside = known c.self.invariant c.self.view_is (λ t. t.hi ≤ length (g.S.Space.bytes c.args.space.now)) c.requires.memory.inside

  top : c.bounds.result.to ≡ table.hi
  unfolding table
  top = ap (λ (s : Span). s.to) c.bounds.ensures.value

  tells : Tells (heap_in table memory) c.args.id c.args.size c.args.options c.match-block.stretch
  unfolding table memory
  tells e le = elim c.match-block.branch [
    | in-None w ↦
        answered_absent table c.self.invariant.sound memory inside e c.args.size c.args.options c.args.id (known c.self.invariant c.self.view_is (λ t. block_with t.blocks c.args.id ≡ None) (sym w.in-None.ensures.value))
        ∙ sym (ap (λ (s : Stretch). nat_le c.args.size (stretch_at s e)) w.stretch-is ∙ w.stretch_for-stretch.ensures.value e c.args.size le)
    | in-Some w ↦
        let b = w.in-Some.block in
        let found = found_known table c.args.id b (known c.self.invariant c.self.view_is (λ t. Some b ≡ block_with t.blocks c.args.id) w.in-Some.ensures.value) in
        ap (λ (q : ℕ). is_answered (ending (heap_in table memory) e) q c.args.size c.args.options) (sym found.0)
        ∙ answered_known table c.self.invariant.sound memory inside e c.args.size c.args.options b found.1
        ∙ sym (ap (λ (s : Stretch). nat_le c.args.size (stretch_at s e)) w.stretch-is ∙ w.growth_stretch-stretch.ensures.value e c.args.size le)
  ]

pub returns-clause-least : goal.returns-clause-least
unfolding table memory
returns-clause-least g c =
    let n = c.args.size in let s = c.match-block.stretch in let m = g.S.Space.bytes c.args.space.now in let found = c.end_for.result in
    told c.self.invariant c.self.view_is (λ t. IfSome found (λ end. (end ≤ LAST_END) × IsLeastEnd (heap_in t m) c.args.id n c.args.options end))
    (least_is (heap_in (table g c) m) c.args.id n c.args.options s (tells g c) found
    (subst (λ hi. IfSome found (λ end. (end ≤ LAST_END) × (hi ≤ end))) (top g c) c.end_for.ensures.some)
    c.end_for.ensures.enough
    (subst (λ hi. IfSome found (λ end. (e : ℕ) → hi ≤ e → e < end → nat_le n (stretch_at s e) ≡ false)) (top g c) c.end_for.ensures.least))

pub returns-clause-none : goal.returns-clause-none
unfolding table memory
returns-clause-none g c =
    let n = c.args.size in let s = c.match-block.stretch in let m = g.S.Space.bytes c.args.space.now in let found = c.end_for.result in
    told c.self.invariant c.self.view_is (λ t. IfNone found (HasNoEnd LAST_END (heap_in t m) c.args.id n c.args.options))
    (none_found (heap_in (table g c) m) c.args.id n c.args.options s (tells g c) found
    (subst (λ hi. IfNone found ((e : ℕ) → hi ≤ e → e ≤ LAST_END → nat_le n (stretch_at s e) ≡ false)) (top g c) c.end_for.ensures.none))

pub returns-clause-grained : goal.returns-clause-grained
unfolding table memory
returns-clause-grained g c =
    let grain = c.self.inside.blocks.grain in let found = c.end_for.result in
    let last : IfSome c.match-block.stretch.last (IsMultiple grain) = elim c.match-block.branch [
      | in-None w ↦ subst (λ s. IfSome s.last (IsMultiple grain)) (sym w.stretch-is) w.stretch_for-stretch.ensures.grained
      | in-Some w ↦ subst (λ s. IfSome s.last (IsMultiple grain)) (sym w.stretch-is) w.growth_stretch-stretch.ensures.grained
    ] in
    told c.self.invariant c.self.view_is (λ t. IsMultiple t.grain t.hi → IsMultiple t.grain c.args.size → IfSome found (IsMultiple t.grain))
    (λ hi size. c.end_for.ensures.grained grain (subst (IsMultiple grain) (sym (top g c)) hi) size last)
