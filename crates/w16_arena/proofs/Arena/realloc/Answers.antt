use Rattle.w16_arena.proofs
use proofs.Lookups.{in_list}
use proofs.Common.{◌≡◌, ℕ, ◌-◌, ◌≤◌, true, false, is_ok, length, IsSome, option_map, unwrap_or, sym, ◌∙◌, subst, if◌then◌else◌, false≢true, bytes_at, Table, heap_in, fewest_law, sound_heap, IsResized}
use proofs.Reallocated.{IsTold, told_ok, revived, revived_listed, size_told, still_written, size_written, cut_written, found_known, held_by, no_size, revived_written}
use Rattle.w16_arena.proofs.Arena.realloc.Given as Given
use Rattle.w16_arena.proofs.Arena.realloc.Goals as goal

pub unreachable-requires : goal.unreachable-requires
unreachable-requires g c =
    false≢true (subst IsSome (sym c.in_default.ensures.value) c.requires.object)

-- An object without bytes.

pub alloc-requires-clause-id : goal.alloc-requires-clause-id
alloc-requires-clause-id g c = in_list _ _ c.in-Some.entry (sym c.in-Some.ensures.value)

pub alloc-requires-clause-absent : goal.alloc-requires-clause-absent
alloc-requires-clause-absent g c = sym c.in_default-block.ensures.value

pub returns-in_default-block-clause-reallocated : goal.returns-in_default-block-clause-reallocated
returns-in_default-block-clause-reallocated g c =
    revived c.args.self.now.table c.in-Some.ensures.sound (g.S.Space.bytes _) c.requires.memory.inside
    _ c.in-Some.entry (sym c.in-Some.ensures.value) (sym c.in_default-block.ensures.value) _
    _ _ _
    c.alloc.ensures.allocated

pub returns-in_default-block-clause-fewest : goal.returns-in_default-block-clause-fewest
returns-in_default-block-clause-fewest g c =
    let m = g.S.Space.bytes c.args.space.now in let t = c.args.self.now.table in
    fewest_law _ _ _ _ _ _ (sound_heap t c.in-Some.ensures.sound m c.requires.memory.inside c.reveal_bytes.ensures) (returns-in_default-block-clause-reallocated g c)

pub returns-in_default-block-clause-discarded : goal.returns-in_default-block-clause-discarded
returns-in_default-block-clause-discarded g c =
    revived_listed c.args.self.now.table c.in-Some.ensures.sound (g.S.Space.bytes _)
    c.requires.memory.inside c.args.id c.in-Some.entry (sym c.in-Some.ensures.value)
    (sym c.in_default-block.ensures.value) c.args.size c.args.options c.alloc.new.self.discarded _
    c.alloc.ensures.discarded

pub returns-in_default-block-clause-written : goal.returns-in_default-block-clause-written
returns-in_default-block-clause-written g c =
    let m = g.S.Space.bytes c.args.space.now in let t = c.args.self.now.table in
    revived_written _ _ _ _ _ _
    (no_size t c.in-Some.ensures.sound m c.requires.memory.inside _ c.in-Some.entry (sym c.in-Some.ensures.value) (sym c.in_default-block.ensures.value)) c.alloc.ensures.written

-- One that has as many bytes or more.

pub cut-requires-clause-known : goal.cut-requires-clause-known
cut-requires-clause-known g c = (found_known c.args.self.now.table c.args.id _ c.in-Some-block.ensures.value).1

cut_is : (g : Given.Over) (c : goal.After-cut g) → IsResized (heap_in c.args.self.now.table (g.S.Space.bytes c.args.space.now)) c.args.id c.args.size c.args.options c.cut.result c.cut.new.self.discarded (heap_in c.cut.new.self.table (g.S.Space.bytes c.cut.new.space))
cut_is g c =
    subst (λ q. IsResized (heap_in c.args.self.now.table (g.S.Space.bytes c.args.space.now)) q c.args.size c.args.options c.cut.result c.cut.new.self.discarded (heap_in c.cut.new.self.table (g.S.Space.bytes c.cut.new.space)))
    (found_known c.args.self.now.table _ c.in-Some-block.block c.in-Some-block.ensures.value).0 (c.cut.ensures.resized _)

pub returns-then-size-block-clause-reallocated : goal.returns-then-size-block-clause-reallocated
returns-then-size-block-clause-reallocated g c = (cut_is g c).reallocated

pub returns-then-size-block-clause-fewest : goal.returns-then-size-block-clause-fewest
returns-then-size-block-clause-fewest g c =
    let m = g.S.Space.bytes _ in let t = c.args.self.now.table in
    fewest_law (heap_in t m) (heap_in c.cut.new.self.table (g.S.Space.bytes _)) c.args.id c.args.size c.args.options true (sound_heap t c.in-Some.ensures.sound m c.requires.memory.inside c.reveal_bytes.ensures) (cut_is g c).reallocated

pub returns-then-size-block-clause-placed : goal.returns-then-size-block-clause-placed
returns-then-size-block-clause-placed g c = (cut_is g c).placed

pub returns-then-size-block-clause-discarded : goal.returns-then-size-block-clause-discarded
returns-then-size-block-clause-discarded g c = (cut_is g c).listed

pub returns-then-size-block-clause-written : goal.returns-then-size-block-clause-written
returns-then-size-block-clause-written g c =
    let m = g.S.Space.bytes _ in let t = c.args.self.now.table in let n = c.args.size in
    let s = size_told t c.in-Some.ensures.sound m c.requires.memory.inside _ c.in-Some-block.block c.in-Some-block.ensures.value in
    cut_written _ _ _ _ n _ c.cut.ensures.moved c.cut.ensures.written (subst (λ k. n ≤ k) (sym s) c.if-size-block.true)

-- One that keeps its address while it grows.

pub grow_in_place-requires-clause-known : goal.grow_in_place-requires-clause-known
grow_in_place-requires-clause-known g c = (found_known c.args.self.now.table c.args.id _ c.in-Some-block.ensures.value).1

pub grow_in_place-requires-clause-held : goal.grow_in_place-requires-clause-held
grow_in_place-requires-clause-held g c =
    held_by c.args.self.now.table c.in-Some.ensures.sound c.args.id c.in-Some.entry c.in-Some.ensures.value c.in-Some-block.block c.in-Some-block.ensures.value c.args.options true (sym c.if-is_held.true ∙ c.is_held.ensures)

grow_in_place_is : (g : Given.Over) (c : goal.After-grow_in_place g) → IsTold
    (heap_in c.args.self.now.table (g.S.Space.bytes c.args.space.now))
    (heap_in c.grow_in_place.new.self.table (g.S.Space.bytes c.grow_in_place.new.space)) c.args.id c.args.size
    c.args.options c.grow_in_place.new.self.discarded c.grow_in_place.result
    ((c.grow_in_place.new.self ≡ c.args.self.now) × (c.grow_in_place.new.space ≡ c.args.space.now))
grow_in_place_is g c = told_ok g.S.Space.bytes _ _ _
    _ _ _ c.in-Some-block.block _ c.in-Some-block.ensures.value
    _ c.grow_in_place.ensures.resized c.grow_in_place.ensures.refused

pub returns-then-is_held-clause-reallocated : goal.returns-then-is_held-clause-reallocated
returns-then-is_held-clause-reallocated g c = (grow_in_place_is g c).reallocated

pub returns-then-is_held-clause-fewest : goal.returns-then-is_held-clause-fewest
returns-then-is_held-clause-fewest g c =
    let m = g.S.Space.bytes c.args.space.now in let t = c.args.self.now.table in
    fewest_law _ _
    _ _ _ _
    (sound_heap t c.in-Some.ensures.sound m c.requires.memory.inside c.reveal_bytes.ensures)
    (grow_in_place_is g c).reallocated

pub returns-then-is_held-clause-placed : goal.returns-then-is_held-clause-placed
returns-then-is_held-clause-placed g c = (grow_in_place_is g c).placed

pub returns-then-is_held-clause-discarded : goal.returns-then-is_held-clause-discarded
returns-then-is_held-clause-discarded g c = (grow_in_place_is g c).listed

pub returns-then-is_held-clause-refused : goal.returns-then-is_held-clause-refused
returns-then-is_held-clause-refused g c = (grow_in_place_is g c).refused

pub returns-then-is_held-clause-written : goal.returns-then-is_held-clause-written
returns-then-is_held-clause-written g c =
    let m = g.S.Space.bytes _ in let t = c.args.self.now.table in let n = c.args.size in let b = c.in-Some-block.block in
    let s = size_told t c.in-Some.ensures.sound m c.requires.memory.inside _ b c.in-Some-block.ensures.value in
    size_written _ _
    _ _ n b.size
    _ (sym s)
    (still_written _ _
    _ _
    c.grow_in_place.ensures.moved c.grow_in_place.ensures.written)

-- One that may move.

pub grow-requires-clause-known : goal.grow-requires-clause-known
grow-requires-clause-known g c = (found_known c.args.self.now.table c.args.id _ c.in-Some-block.ensures.value).1

pub grow-requires-clause-free : goal.grow-requires-clause-free
grow-requires-clause-free g c =
    held_by c.args.self.now.table c.in-Some.ensures.sound c.args.id c.in-Some.entry c.in-Some.ensures.value c.in-Some-block.block c.in-Some-block.ensures.value c.args.options false (sym c.if-is_held.false ∙ c.is_held.ensures)

grow_is : (g : Given.Over) (c : goal.After-grow g) → IsTold
    (heap_in c.args.self.now.table (g.S.Space.bytes c.args.space.now))
    (heap_in c.grow.new.self.table (g.S.Space.bytes c.grow.new.space)) c.args.id c.args.size c.args.options
    c.grow.new.self.discarded c.grow.result ((c.grow.new.self ≡ c.args.self.now) ×
    (c.grow.new.space ≡ c.args.space.now))
grow_is g c = told_ok g.S.Space.bytes _ _ _ _ _ _ c.in-Some-block.block _ c.in-Some-block.ensures.value _ c.grow.ensures.resized c.grow.ensures.refused

pub returns-else-is_held-clause-reallocated : goal.returns-else-is_held-clause-reallocated
returns-else-is_held-clause-reallocated g c = (grow_is g c).reallocated

pub returns-else-is_held-clause-fewest : goal.returns-else-is_held-clause-fewest
returns-else-is_held-clause-fewest g c =
    let m = g.S.Space.bytes _ in let t = c.args.self.now.table in
    fewest_law (heap_in t m) (heap_in c.grow.new.self.table (g.S.Space.bytes _)) c.args.id c.args.size c.args.options (is_ok _) (sound_heap t c.in-Some.ensures.sound m c.requires.memory.inside c.reveal_bytes.ensures) (grow_is g c).reallocated

pub returns-else-is_held-clause-placed : goal.returns-else-is_held-clause-placed
returns-else-is_held-clause-placed g c = (grow_is g c).placed

pub returns-else-is_held-clause-discarded : goal.returns-else-is_held-clause-discarded
returns-else-is_held-clause-discarded g c = (grow_is g c).listed

pub returns-else-is_held-clause-refused : goal.returns-else-is_held-clause-refused
returns-else-is_held-clause-refused g c = (grow_is g c).refused

pub returns-else-is_held-clause-written : goal.returns-else-is_held-clause-written
returns-else-is_held-clause-written g c =
    let m = g.S.Space.bytes _ in let t = c.args.self.now.table in let n = c.args.size in let b = c.in-Some-block.block in
    let s = size_told t c.in-Some.ensures.sound m c.requires.memory.inside _ b c.in-Some-block.ensures.value in
    size_written _ _ _ _ n b.size _ (sym s) c.grow.ensures.written
