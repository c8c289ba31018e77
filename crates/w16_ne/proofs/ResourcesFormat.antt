-- Resources are read exactly where they are.
use Rattle.w16_ne.proofs
use proofs.Common as C
use proofs.Common.{◌≡◌, ◌≢◌, ℕ, zero, suc, ◌+◌, ◌-◌, ◌*◌, ◌^◌, ◌≤◌, ◌<◌, ◌⊎◌, inl, inr, Bool, true, false, cond, ltb, eqb, List, [], ◌∷◌, length, take, drop, Some, None, Ok, Err, slice_get, map, ◌++◌, refl, sym, ap, subst, ◌∙◌, arith, nat_tests, listed_resources, Block, Reading, ◌>>=◌}
use proofs.Common.{reaches, word_of, each, resource_table, resident_names, Label, Number, Text, Typed, block_at, blocks_from, blocks_at, label_at, resource_at, typed_at, is_placed, are_placed, filled, typed_in, resources_at, IsLabel, IsResource, AreResources, AreBlocks, HasResources}
use proofs.NamesFormat.{cut_word, ends_here, goes_on_past}
use proofs.SegmentsFormat.{bind_ok, passed, reached, reaches_there, word_here}
use proofs.ReferencesFormat.{text_is, text_read}
use proofs.{Filled.stays, Until.reads_ok, Until.goes_past}
use Rattle.w16_ne.specs.{Resources.Entry, Modules.resource_at as resource_in}
use Rattle.w16_ne.specs.declared.fault.NeFault.TheVariants as faults

-- a resource's bytes, as far as they have to be there
module _ (file : List ℕ) (unit : ℕ) (r : Entry) where
  placed_is : (b : Bool) → eqb r.len 0 ≡ b → cond b (Ok tt) (reaches (Some file) (r.place + r.len - unit + 1)) ≡ Ok tt → (r.len ≡ 0) ⊎ (r.place + r.len < length file + unit)
  placed_is true q h = inl (grind (arith, nat_tests, q))
  placed_is false q h = let end = reached file (r.place + r.len - unit + 1) h in inr (omega arith)

  placed_read : 0 < length file → (r.len ≡ 0) ⊎ (r.place + r.len < length file + unit) → is_placed (Some file) unit r ≡ Ok tt
  placed_read some (inl none) = rw none refl
  placed_read some (inr less) = by (eqb r.len 0)
    where
      by : (b : Bool) → cond b (Ok tt) (reaches (Some file) (r.place + r.len - unit + 1)) ≡ Ok tt
      by true = refl
      by false = reaches_there file (r.place + r.len - unit + 1) (omega arith)

module _ (file : List ℕ) (table : ℕ) where
  label_cases : (word : ℕ) (label : Label) (b : Bool) → ltb word 0x8000 ≡ b → cond b (C.text_at faults.BadTable (Some file) (table + word) >>= λ text. Ok (Text text)) (Ok (Number (word - 0x8000))) ≡ Ok label → IsLabel file table word label
  label_cases word label true q h =
      let one = bind_ok (C.text_at faults.BadTable (Some file) (table + word)) (λ text. Ok (Text text)) label h in
      let same : Text one.0 ≡ label = cc (one.1.1) in
      subst (λ l. IsLabel file table word l) same (grind (arith, nat_tests, q), text_is faults.BadTable file (table + word) one.0 one.1.0)
  label_cases word label false q h =
      let same : Number (word - 0x8000) ≡ label = cc in
      let big : 0x8000 ≤ word = grind (arith, nat_tests, q) in
      let value : word ≡ 0x8000 + (word - 0x8000) = omega arith in
      subst (λ l. IsLabel file table word l) same value

  label_is : (word : ℕ) (label : Label) → label_at (Some file) table word ≡ Ok label → IsLabel file table word label
  unfolding label_at
  label_is word label h = label_cases word label (ltb word 0x8000) refl h

  label_read : (word : ℕ) (label : Label) → IsLabel file table word label → label_at (Some file) table word ≡ Ok label
  unfolding label_at
  label_read word (Number value) is =
      let big : ltb word 0x8000 ≡ false = grind (arith, nat_tests, is) in
      let less : word - 0x8000 ≡ value = omega arith in
      rw (big, less) refl
  label_read word (Text text) is =
      let small : ltb word 0x8000 ≡ true = grind (arith, nat_tests, is.0) in
      rw (small, text_read faults.BadTable file (table + word) text is.1) refl

  module _ (shift at : ℕ) (r : Entry) where
    abbrev row : List ℕ
    row = take 12 (drop at file)

    abbrev entry : Label → Entry
    entry id = record { id = id; place = word_of row 0 * 2 ^ shift; len = word_of row 2 * 2 ^ shift; flags = word_of row 4 }

    first_there : word_of row 0 ≡ word_of file at
    first_there = let here : at + 0 ≡ at = omega arith in cut_word file at 12 0 (omega arith) ∙ ap (λ i. word_of file i) here

    resource_is : resource_at (Some file) table shift at ≡ Ok r → is_placed (Some file) (2 ^ shift) r ≡ Ok tt → IsResource file table shift at r
    unfolding resource_at
    resource_is h placed =
        let first = reads_ok (ltb (length file) (at + 12)) faults.Truncated row _ r h in
        let id = bind_ok (label_at (Some file) table (word_of row 6)) (λ l. Ok (entry l)) r first.1 in
        let same : entry id.0 ≡ r = cc (id.1.1) in
        let named = subst (λ w. IsLabel file table w id.0) (cut_word file at 12 6 (omega arith)) (label_is (word_of row 6) id.0 id.1.0) in
        record {
          inside = grind (arith, nat_tests, first.0);
          place = sym (ap (λ (x : Entry). x.place) same) ∙ ap (λ w. w * 2 ^ shift) first_there;
          len = sym (ap (λ (x : Entry). x.len) same) ∙ ap (λ w. w * 2 ^ shift) (cut_word file at 12 2 (omega arith));
          flags = sym (ap (λ (x : Entry). x.flags) same) ∙ cut_word file at 12 4 (omega arith);
          id = subst (λ l. IsLabel file table (word_of file (at + 6)) l) (ap (λ (x : Entry). x.id) same) named;
          placed = placed_is file (2 ^ shift) r (eqb r.len 0) refl placed;
        }

    resource_read : IsResource file table shift at r → resource_at (Some file) table shift at ≡ Ok r
    unfolding resource_at
    resource_read is =
        let first : ltb (length file) (at + 12) ≡ false = grind (arith, nat_tests, is.inside) in
        let place : word_of row 0 * 2 ^ shift ≡ r.place = ap (λ w. w * 2 ^ shift) first_there ∙ sym is.place in
        let len : word_of row 2 * 2 ^ shift ≡ r.len = ap (λ w. w * 2 ^ shift) (cut_word file at 12 2 (omega arith)) ∙ sym is.len in
        let flags : word_of row 4 ≡ r.flags = cut_word file at 12 4 (omega arith) ∙ sym is.flags in
        let id : label_at (Some file) table (word_of row 6) ≡ Ok r.id = label_read (word_of row 6) r.id (subst (λ w. IsLabel file table w r.id) (sym (cut_word file at 12 6 (omega arith))) is.id) in
        rw (first, id, place, len, flags) refl

  -- the resources of a block, the first at an offset
  module _ (shift base : ℕ) where
    abbrev item : ℕ → Reading Entry
    item i = resource_at (Some file) table shift (base + 12 * i)

    next_place : (i : ℕ) → base + 12 * (i + 1) ≡ base + 12 * i + 12
    next_place i = omega arith

    items_are : (n i : ℕ) (rs : List Entry) → each item n i ≡ Ok rs → are_placed (Some file) (2 ^ shift) rs ≡ Ok tt → (length rs ≡ n) × AreResources file table shift (base + 12 * i) rs
    items_are zero i rs h placed = let same : ◌≡◌ {A = List Entry} [] rs = cc in subst (λ xs. (length xs ≡ 0) × AreResources file table shift (base + 12 * i) xs) same (refl, tt)
    items_are (suc n) i rs h placed =
        let one = bind_ok (item i) (λ first. each item n (i + 1) >>= λ others. Ok (first ∷ others)) rs h in
        let two = bind_ok (each item n (i + 1)) (λ others. Ok (one.0 ∷ others)) rs one.1.1 in
        let same : one.0 ∷ two.0 ≡ rs = cc (two.1.1) in
        let there = bind_ok (is_placed (Some file) (2 ^ shift) one.0) (λ _. are_placed (Some file) (2 ^ shift) two.0) tt (subst (λ xs. are_placed (Some file) (2 ^ shift) xs ≡ Ok tt) (sym same) placed) in
        let rest = items_are n (i + 1) two.0 two.1.0 there.1.1 in
        subst (λ xs. (length xs ≡ suc n) × AreResources file table shift (base + 12 * i) xs) same
        (ap (λ k. suc k) rest.0, (resource_is shift (base + 12 * i) one.0 one.1.0 there.1.0, subst (λ p. AreResources file table shift p two.0) (next_place i) rest.1))

    items_read : (rs : List Entry) (i : ℕ) → AreResources file table shift (base + 12 * i) rs → (each item (length rs) i ≡ Ok rs) × (are_placed (Some file) (2 ^ shift) rs ≡ Ok tt)
    items_read [] i are = (refl, refl)
    items_read (r ∷ rs) i are =
        let rest = items_read rs (i + 1) (subst (λ p. AreResources file table shift p rs) (sym (next_place i)) are.1) in
        let there = placed_read file (2 ^ shift) r (omega (arith, are.0.inside)) are.0.placed in
        (rw (resource_read shift (base + 12 * i) r are.0, rest.0) refl, rw there rest.1)

-- a block's head
module _ (file : List ℕ) (at : ℕ) where
  abbrev head : List ℕ
  head = take 8 (drop at file)

  abbrev head_of : ℕ → ℕ → Block
  head_of kind count = record { kind = kind; count = count; at = at + 8 }

  kind_there : word_of head 0 ≡ word_of file at
  kind_there = let here : at + 0 ≡ at = omega arith in cut_word file at 8 0 (omega arith) ∙ ap (λ i. word_of file i) here

  never : (b : Bool) (x : List ℕ) (next : List ℕ → Reading (Unit {0})) (f : List ℕ → Block) → (cond b (Err faults.Truncated) (Ok x) >>= λ y. next y >>= λ _. Ok (Some (f y))) ≡ Ok None → ⊥
  never true x next f h = cc
  never false x next f h = by (next x) h
    where
      by : (read : Reading (Unit {0})) → (read >>= λ _. Ok (Some (f x))) ≡ Ok None → ⊥
      by (Ok u) h = cc
      by (Err e) h = cc

  blocks_end : block_at (Some file) at ≡ Ok None → (at + 2 ≤ length file) × (word_of file at ≡ 0)
  unfolding block_at
  blocks_end h =
      let first = reads_ok (ltb (length file) (at + 2)) faults.Truncated (take 2 (drop at file)) _ None h in
      let over = ends_here (eqb (word_of (take 2 (drop at file)) 0) 0) _ (never (ltb (length file) (at + 8)) head (λ y. reaches (Some file) (at + 8 + 12 * word_of y 2)) (λ y. head_of (word_of y 0) (word_of y 2))) first.1 in
      let none : word_of (take 2 (drop at file)) 0 ≡ 0 = grind (arith, nat_tests, over) in
      (grind (arith, nat_tests, first.0), sym (word_here file at) ∙ none)

  end_read : at + 2 ≤ length file → word_of file at ≡ 0 → block_at (Some file) at ≡ Ok None
  unfolding block_at
  end_read le none =
      let first : ltb (length file) (at + 2) ≡ false = grind (arith, nat_tests) in
      let kind : word_of (take 2 (drop at file)) 0 ≡ 0 = word_here file at ∙ none in
      rw (first, kind) refl

  block_is : (b : Block) → block_at (Some file) at ≡ Ok (Some b) → (word_of file at ≢ 0) × (at + 8 + 12 * word_of file (at + 2) ≤ length file) × (head_of (word_of file at) (word_of file (at + 2)) ≡ b)
  unfolding block_at
  block_is b h =
      let first = reads_ok (ltb (length file) (at + 2)) faults.Truncated (take 2 (drop at file)) _ (Some b) h in
      let more = goes_past (eqb (word_of (take 2 (drop at file)) 0) 0) _ b first.1 in
      let some = goes_on_past (eqb (word_of (take 2 (drop at file)) 0) 0) _ b first.1 in
      let second = reads_ok (ltb (length file) (at + 8)) faults.Truncated head _ (Some b) more in
      let third = bind_ok (reaches (Some file) (at + 8 + 12 * word_of head 2)) (λ _. Ok (Some (head_of (word_of head 0) (word_of head 2)))) (Some b) second.1 in
      let same : head_of (word_of head 0) (word_of head 2) ≡ b = cc (third.1.1) in
      let count = cut_word file at 8 2 (omega arith) in
      let inside = reached file (at + 8 + 12 * word_of head 2) third.1.0 in
      let kind : word_of (take 2 (drop at file)) 0 ≢ 0 = λ e. absurd (grind (arith, nat_tests, some, e)) in
      (λ e. kind (word_here file at ∙ e), rw (← count) inside, ap (λ k. head_of k (word_of file (at + 2))) (sym kind_there) ∙ ap (λ n. head_of (word_of head 0) n) (sym count) ∙ same)

  block_read : (n : ℕ) → word_of file at ≢ 0 → word_of file (at + 2) ≡ n → at + 8 + 12 * n ≤ length file → block_at (Some file) at ≡ Ok (Some (head_of (word_of file at) n))
  unfolding block_at
  block_read n some count inside =
      let first : ltb (length file) (at + 2) ≡ false = grind (arith, nat_tests) in
      let more : eqb (word_of (take 2 (drop at file)) 0) 0 ≡ false = rw (word_here file at) (grind (arith, nat_tests, some)) in
      let second : ltb (length file) (at + 8) ≡ false = grind (arith, nat_tests) in
      let count_is : word_of head 2 ≡ n = cut_word file at 8 2 (omega arith) ∙ count in
      rw (first, more, second, count_is, reaches_there file (at + 8 + 12 * n) inside, kind_there) refl

-- the blocks of a table, and their types with resources
module _ (file : List ℕ) (table shift : ℕ) where
  abbrev types_of : List Block → Reading (List Typed)
  types_of blocks = C.all_typed (Some file) table shift blocks

  abbrev all_placed : List Typed → Reading (Unit {0})
  all_placed types = C.are_all_placed (Some file) (2 ^ shift) types

  typed_is : (at : ℕ) (t : Typed) → word_of file at ≢ 0 → at + 8 + 12 * word_of file (at + 2) ≤ length file → typed_at (Some file) table shift (head_of file at (word_of file at) (word_of file (at + 2))) ≡ Ok t
      → are_placed (Some file) (2 ^ shift) t.1 ≡ Ok tt → C.IsBlock file table shift at t
  unfolding typed_at C.resources_of
  typed_is at t some inside h placed =
      let count = word_of file (at + 2) in
      let kind = bind_ok (label_at (Some file) table (word_of file at)) (λ k. each (item file table shift (at + 8)) count 0 >>= λ rs. Ok (k, rs)) t h in
      let found = bind_ok (each (item file table shift (at + 8)) count 0) (λ rs. Ok (kind.0, rs)) t kind.1.1 in
      let same : (kind.0, found.0) ≡ t = cc (found.1.1) in
      let here : at + 8 + 12 * 0 ≡ at + 8 = omega arith in
      let second : found.0 ≡ t.1 = ap (λ (x : Typed). x.1) same in
      let all = items_are file table shift (at + 8) count 0 t.1 (found.1.0 ∙ ap (λ rs. Ok rs) second) placed in
      record {
        some = some;
        count = sym all.0;
        inside = rw all.0 inside;
        kind = subst (λ k. IsLabel file table (word_of file at) k) (ap (λ (x : Typed). x.0) same) (label_is file table (word_of file at) kind.0 kind.1.0);
        are = subst (λ p. AreResources file table shift p t.1) here all.1;
      }

  typed_read : (at : ℕ) (t : Typed) → C.IsBlock file table shift at t → (typed_at (Some file) table shift (head_of file at (word_of file at) (length t.1)) ≡ Ok t) × (are_placed (Some file) (2 ^ shift) t.1 ≡ Ok tt)
  unfolding typed_at C.resources_of
  typed_read at t is =
      let here : at + 8 + 12 * 0 ≡ at + 8 = omega arith in
      let all = items_read file table shift (at + 8) t.1 0 (subst (λ p. AreResources file table shift p t.1) (sym here) is.are) in
      (rw (label_read file table (word_of file at) t.0 is.kind, all.0) refl, all.1)

  abbrev more : ℕ → Block → Reading (List Block)
  more n b = blocks_from (Some file) n (b.at + 12 * b.count)

  next_are : (n at : ℕ) (b : Block) (blocks : List Block) (types : List Typed) → block_at (Some file) at ≡ Ok (Some b)
      → ((a : ℕ) (bs : List Block) (ts : List Typed) → blocks_from (Some file) n a ≡ Ok bs → types_of bs ≡ Ok ts → all_placed ts ≡ Ok tt → AreBlocks file table shift a ts)
      → (more n b >>= λ others. Ok (b ∷ others)) ≡ Ok blocks → types_of blocks ≡ Ok types → all_placed types ≡ Ok tt → AreBlocks file table shift at types
  next_are n at b blocks types read rest h typed placed =
      let one = bind_ok (more n b) (λ others. Ok (b ∷ others)) blocks h in
      let same : b ∷ one.0 ≡ blocks = cc (one.1.1) in
      let first = bind_ok (typed_at (Some file) table shift b) (λ t. types_of one.0 >>= λ others. Ok (t ∷ others)) types (subst (λ bs. types_of bs ≡ Ok types) (sym same) typed) in
      let second = bind_ok (types_of one.0) (λ others. Ok (first.0 ∷ others)) types first.1.1 in
      let all : first.0 ∷ second.0 ≡ types = cc (second.1.1) in
      let there = bind_ok (are_placed (Some file) (2 ^ shift) first.0.1) (λ _. all_placed second.0) tt (subst (λ ts. all_placed ts ≡ Ok tt) (sym all) placed) in
      let is = block_is file at b read in
      let here = typed_is at first.0 is.0 is.1 (ap (λ x. typed_at (Some file) table shift x) is.2 ∙ first.1.0) there.1.0 in
      let next : b.at + 12 * b.count ≡ at + 8 + 12 * length first.0.1 = sym (ap (λ (x : Block). x.at + 12 * x.count) is.2) ∙ ap (λ n. at + 8 + 12 * n) here.count in
      let others = rest (b.at + 12 * b.count) one.0 second.0 one.1.0 second.1.0 there.1.1 in
      subst (λ ts. AreBlocks file table shift at ts) all (here, subst (λ p. AreBlocks file table shift p second.0) next others)

  found_are : (n at : ℕ) (read : Reading (C.Option Block)) (blocks : List Block) (types : List Typed) → block_at (Some file) at ≡ read
      → ((a : ℕ) (bs : List Block) (ts : List Typed) → blocks_from (Some file) n a ≡ Ok bs → types_of bs ≡ Ok ts → all_placed ts ≡ Ok tt → AreBlocks file table shift a ts)
      → (read >>= λ found. elim found [ None ↦ Ok [] | Some b ↦ more n b >>= λ others. Ok (b ∷ others) ]) ≡ Ok blocks → types_of blocks ≡ Ok types → all_placed types ≡ Ok tt → AreBlocks file table shift at types
  found_are n at (Err e) blocks types read rest h typed placed = cc
  found_are n at (Ok None) blocks types read rest h typed placed =
      let same : ◌≡◌ {A = List Block} [] blocks = cc in
      let said : ◌≡◌ {A = Reading (List Typed)} (Ok []) (Ok types) = ap types_of same ∙ typed in
      let none : ◌≡◌ {A = List Typed} [] types = cc in
      subst (λ ts. AreBlocks file table shift at ts) none (blocks_end file at read)
  found_are n at (Ok (Some b)) blocks types read rest h typed placed = next_are n at b blocks types read rest h typed placed

  blocks_are : (n at : ℕ) (blocks : List Block) (types : List Typed) → blocks_from (Some file) n at ≡ Ok blocks → types_of blocks ≡ Ok types → all_placed types ≡ Ok tt → AreBlocks file table shift at types
  blocks_are zero at blocks types h typed placed = cc
  blocks_are (suc n) at blocks types h typed placed = found_are n at (block_at (Some file) at) blocks types refl (blocks_are n) h typed placed

  abbrev blocks_of : ℕ → List Typed → List Block
  blocks_of at [] = []
  blocks_of at (t ∷ ts) = head_of file at (word_of file at) (length t.1) ∷ blocks_of (at + 8 + 12 * length t.1) ts

  blocks_read : (types : List Typed) (n at : ℕ) → length types < n → AreBlocks file table shift at types → blocks_from (Some file) n at ≡ Ok (blocks_of at types)
  blocks_read types zero at few are = absurd (omega arith)
  blocks_read [] (suc n) at few are = rw (end_read file at are.0 are.1) refl
  blocks_read (t ∷ ts) (suc n) at few are =
      let is = are.0 in
      rw (block_read file at (length t.1) is.some is.count is.inside, blocks_read ts n (at + 8 + 12 * length t.1) (omega arith) are.1) refl

  types_read : (types : List Typed) (at : ℕ) → AreBlocks file table shift at types → (types_of (blocks_of at types) ≡ Ok types) × (all_placed types ≡ Ok tt)
  types_read [] at are = (refl, refl)
  types_read (t ∷ ts) at are =
      let here = typed_read at t are.0 in
      let rest = types_read ts (at + 8 + 12 * length t.1) are.1 in
      (rw (here.0, rest.0) refl, rw here.1 rest.1)

  few_blocks : (types : List Typed) (at : ℕ) → AreBlocks file table shift at types → at + length types < length file
  few_blocks [] at are = omega (arith, are.0)
  few_blocks (t ∷ ts) at are = omega (arith, few_blocks ts (at + 8 + 12 * length t.1) are.1)

-- a table, at an offset
module _ (file : List ℕ) (at : ℕ) (types : List Typed) where
  abbrev read_table : Reading (List Typed)
  read_table = C.bytes_or faults.Truncated (Some file) at 2 >>= λ shift. blocks_at (Some file) (at + 2) >>= λ blocks. typed_in (Some file) at (word_of shift 0) blocks

  table_is : read_table ≡ Ok types → C.IsResourceTable file at types
  unfolding blocks_at typed_in
  table_is h =
      let first = reads_ok (ltb (length file) (at + 2)) faults.Truncated (take 2 (drop at file)) _ types h in
      let shift = word_of (take 2 (drop at file)) 0 in
      let blocks = bind_ok (blocks_from (Some file) (length file) (at + 2)) _ types first.1 in
      let fits = passed (ltb 15 shift) faults.BadTable _ types blocks.1.1 in
      let typed = bind_ok (C.all_typed (Some file) at shift blocks.0) _ types fits.1 in
      let few = passed (ltb 65535 (C.resource_count typed.0)) faults.Unsupported _ types typed.1.1 in
      let placed = bind_ok (C.are_all_placed (Some file) (2 ^ shift) typed.0) (λ _. Ok (filled typed.0)) types few.1 in
      let same : filled typed.0 ≡ types = cc (placed.1.1) in
      let all = blocks_are file at shift (length file) (at + 2) blocks.0 typed.0 blocks.1.0 typed.1.0 placed.1.0 in
      let said = word_here file at in
      record {
        shift = rw (← said) (grind (arith, nat_tests, fits.0));
        blocks = typed.0;
        are = subst (λ s. AreBlocks file at s (at + 2) typed.0) said all;
        few = grind (arith, nat_tests, few.0);
        filled = sym same;
      }

  table_read : C.IsResourceTable file at types → read_table ≡ Ok types
  unfolding blocks_at typed_in
  table_read is =
      let shift = word_of file at in
      let all = is.blocks in
      let inside = few_blocks file at shift all (at + 2) is.are in
      let first : ltb (length file) (at + 2) ≡ false = grind (arith, nat_tests) in
      let blocks = blocks_read file at shift all (length file) (at + 2) (omega arith) is.are in
      let typed = types_read file at shift all (at + 2) is.are in
      let fits : ltb 15 shift ≡ false = grind (arith, nat_tests, is.shift) in
      let few : ltb 65535 (C.resource_count all) ≡ false = grind (arith, nat_tests, is.few) in
      rw (first, word_here file at, blocks, fits, typed.0, few, typed.1, ← is.filled) refl

module _ (file header : List ℕ) (ne : ℕ) (types : List Typed) where
  are_cases : (b : Bool) → eqb (resource_table header) (resident_names header) ≡ b → cond b (Ok []) (read_table file (ne + resource_table header) types) ≡ Ok types → HasResources file ne header types
  are_cases true q h = let same : ◌≡◌ {A = List Typed} [] types = cc in inl (grind (arith, nat_tests, q), sym same)
  are_cases false q h = inr (λ e. absurd (grind (arith, nat_tests, q, e)), table_is file (ne + resource_table header) types h)

  pub resources_are : resources_at (Some file) ne header ≡ Ok types → HasResources file ne header types
  unfolding resources_at
  resources_are h = are_cases (eqb (resource_table header) (resident_names header)) refl h

  pub resources_read : HasResources file ne header types → resources_at (Some file) ne header ≡ Ok types
  unfolding resources_at
  resources_read (inl (none, are)) = let same : eqb (resource_table header) (resident_names header) ≡ true = grind (arith, nat_tests, none) in rw (same, are) refl
  resources_read (inr (some, is)) = let apart : eqb (resource_table header) (resident_names header) ≡ false = grind (arith, nat_tests, some) in rw apart (table_read file (ne + resource_table header) types is)

-- a resource that has bytes begins in the file
module _ (file : List ℕ) (table shift : ℕ) where
  abbrev pub Begins : Label × Entry → Type 0
  Begins x = 0 < x.1.len → x.1.place < length file

  whole_unit : (w unit len : ℕ) → len ≡ w * unit → 0 < len → unit ≤ len
  whole_unit zero unit len e some = absurd (omega arith)
  whole_unit (suc w) unit len e some = omega arith

  one_begins : (at : ℕ) (r : Entry) → IsResource file table shift at r → 0 < r.len → r.place < length file
  one_begins at r is some = by is.placed
    where
      by : (r.len ≡ 0) ⊎ (r.place + r.len < length file + 2 ^ shift) → r.place < length file
      by (inl none) = absurd (omega arith)
      by (inr less) = let unit = whole_unit (word_of file (at + 2)) (2 ^ shift) r.len is.len some in omega arith

  block_begins : (l : Label) (at : ℕ) (rs : List Entry) (ys : List (Label × Entry)) → AreResources file table shift at rs → ((i : ℕ) (x : Label × Entry) → slice_get ys i ≡ Some x → Begins x)
      → (i : ℕ) (x : Label × Entry) → slice_get (map (λ (r : Entry). (l, r)) rs ++ ys) i ≡ Some x → Begins x
  block_begins l at [] ys are rest i x h = rest i x h
  block_begins l at (r ∷ rs) ys are rest zero x h = let same : (l, r) ≡ x = cc in subst Begins same (one_begins at r are.0)
  block_begins l at (r ∷ rs) ys are rest (suc i) x h = block_begins l (at + 12) rs ys are.1 rest i x h

  blocks_begin : (ts : List Typed) (at : ℕ) → AreBlocks file table shift at ts → (i : ℕ) (x : Label × Entry) → slice_get (listed_resources (filled ts)) i ≡ Some x → Begins x
  blocks_begin [] at are i x h = cc
  blocks_begin ((l, []) ∷ ts) at are i x h = blocks_begin ts (at + 8 + 12 * 0) are.1 i x h
  blocks_begin ((l, r ∷ rs) ∷ ts) at are i x h =
      let here = ap (λ us. slice_get (listed_resources us) i) (stays l r rs ts) in
      block_begins l (at + 8) (r ∷ rs) (listed_resources (filled ts)) are.0.are (blocks_begin ts (at + 8 + 12 * length (r ∷ rs)) are.1) i x (sym here ∙ h)

pub resources_begin : (file header : List ℕ) (ne : ℕ) (types : List Typed) → HasResources file ne header types → (place : ℕ) (x : Label × Entry) → resource_in types place ≡ Some x → 0 < x.1.len → x.1.place < length file
resources_begin file header ne types has zero x h = cc
resources_begin file header ne types (inl (none, are)) (suc i) x h = let said = ap (λ ts. resource_in ts (suc i)) are in cc
resources_begin file header ne types (inr (some, is)) (suc i) x h =
    let table = ne + resource_table header in
    blocks_begin file table (word_of file table) is.blocks (table + 2) is.are i x (ap (λ ts. resource_in ts (suc i)) (sym is.filled) ∙ h)
