-- A block that gets another id.
use Rattle.w16_blocks.proofs
use proofs.Common as C
use proofs.Remove as M
use proofs.Common.{◌≡◌, ◌≢◌, ℕ, suc, ◌+◌, ◌*◌, ◌<◌, ◌==◌, Bool, true, false, cond, min, List, [], ◌∷◌, map, filter, set, Some, None, sum_by, arith, refl, sym, ap, ◌∙◌, subst, inl, inr, Block, Span, block_end, holes, is_any, block_with, Range, Layout, Fits, placed, all_but, renamed}
use proofs.Common.{with_other_id, no_block, layout_in, pins_in}
use proofs.Tables.{AreTables-drop, AreTables-add, blocks_in-drop, blocks_in-add}
use proofs.Keeping.{with_blocks, known_now, cell_is}
use proofs.{Place.placed_after, Place.placed_before, Step.lies, Step.grained_known}

-- where no block has the id, all stay
none_renamed : (id to : ℕ) (bs : List Block) → C.AllByRecursion (λ c. c.id ≢ id) bs → renamed id to bs ≡ bs
none_renamed id to [] all = refl
none_renamed id to (b ∷ bs) all = λ i. ap (λ t. cond t (record b { id = to }) b) (C.ne_eqb b.id id all.0) i ∷ none_renamed id to bs all.1 i

module _ (id to : ℕ) where
  -- a block keeps all but its id
  pub id_alone : (b : Block) → with_other_id id to b ≡ record b { id = cond (b.id == id) to b.id }
  id_alone b = turn (b.id == id)
    where
      turn : (t : Bool) → cond t (record b { id = to }) b ≡ record b { id = cond t to b.id }
      turn true = refl
      turn false = refl

  first_renamed : (hi : ℕ) (bs : List Block) (a : ℕ) → C.first_from is_any hi (renamed id to bs) a ≡ C.first_from is_any hi bs a
  first_renamed hi [] a = refl
  first_renamed hi (b ∷ bs) a = λ i. let b' : Block = id_alone b i in cond (C.nat_le a b'.at) (min b'.at (first_renamed hi bs a i)) (first_renamed hi bs a i)

  ends_renamed : (bs : List Block) → map block_end (filter is_any (renamed id to bs)) ≡ map block_end (filter is_any bs)
  ends_renamed [] = refl
  ends_renamed (b ∷ bs) = λ i. block_end (id_alone b i) ∷ ends_renamed bs i

  -- so the holes are the same
  pub holes_renamed : (lo hi : ℕ) (bs : List Block) → holes lo hi (renamed id to bs) ≡ holes lo hi bs
  holes_renamed lo hi bs = λ i. filter (λ (s : Span). C.nat_lt s.from s.to) (map (λ (a : ℕ). let s : Span = record { from = a; to = first_renamed hi bs a i } in s) (lo ∷ ends_renamed bs i))

  -- and so are sums that don't look at it
  sum_renamed : (f : Block → ℕ) → ((b : Block) → f (with_other_id id to b) ≡ f b) → (bs : List Block) → sum_by f (renamed id to bs) ≡ sum_by f bs
  sum_renamed f same [] = refl
  sum_renamed f same (b ∷ bs) = C.sum_by-cons f (with_other_id id to b) (renamed id to bs) ∙ (λ i. same b i + sum_renamed f same bs i) ∙ sym (C.sum_by-cons f b bs)

  placed_renamed : (b : Block) (bs : List Block) → renamed id to (placed b bs) ≡ placed (with_other_id id to b) (renamed id to bs)
  placed_renamed b [] = refl
  placed_renamed b (c ∷ cs) =
      let one = ap (λ (x : Block). x.at) (id_alone b) in let two = ap (λ (x : Block). x.at) (id_alone c) in
      elim (C.cases_lt c.at b.at) [
        | inl lt ↦ ap (renamed id to) (placed_after b c cs lt) ∙ ap (λ (l : List Block). with_other_id id to c ∷ l) (placed_renamed b cs)
            ∙ sym (placed_after (with_other_id id to b) (with_other_id id to c) (renamed id to cs) (omega arith))
        | inr le ↦ ap (renamed id to) (placed_before b c cs le) ∙ sym (placed_before (with_other_id id to b) (with_other_id id to c) (renamed id to cs) (omega arith))
      ]

module _ {cap lo hi g : ℕ} {slots : List Block} {cells : List ℕ} {free pinned : ℕ} {range : Range} {kept : List Span} (k : C.BlocksInvariant cap lo hi g slots cells free pinned range kept) (long : cap ≡ C.length slots)
    {l : Layout} (is : layout_in cap lo hi g slots cells ≡ l) (id to : ℕ) where
  abbrev now : Layout
  now = layout_in cap lo hi g slots cells

  pub same_layout : None ≡ block_with l.blocks id → l ≡ record l { blocks = renamed id to l.blocks }
  same_layout none = ap (λ (bs : List Block). record l { blocks = bs }) (sym (none_renamed id to l.blocks (M.none_with id l.blocks (sym none))))

  module _ {x : Block} (known : Some x ≡ block_with l.blocks id) (lt : to < l.cap) (none : block_with l.blocks to ≡ None) (u : ℕ) (at : x.at ≡ lo + g * u) (n : ℕ) (told : n ≡ to + 1) where
    abbrev moved : Block
    moved = record x { id = to }

    here : block_with now.blocks id ≡ Some x
    here = known_now k long is id (sym known)

    tells : C.slice_index cells u ≡ suc id
    tells = cell_is k long is id (sym known) u at

    moved_into : Fits (record now { blocks = all_but id now.blocks }) moved
    moved_into = record {
      id = let cap_is = ap (λ (m : Layout). m.cap) is in omega arith;
      free = M.All-all_but (λ c. c.id ≢ to) id now.blocks (M.none_with to now.blocks (ap (λ (m : Layout). block_with m.blocks to) is ∙ none));
      inside = lies now id x here k.tables.ordered;
      apart = M.others_apart lo hi cap id x now.blocks k.tables.ordered.laid k.tables.ordered.named here;
      grained = grained_known now id x here k.tables.ordered;
    }

    -- as if the block went, and came again
    gone : C.AreTables cap lo hi g (set slots id no_block) (set cells u 0)
    gone = AreTables-drop k.tables long u tells

    fits_gone : Fits (layout_in cap lo hi g (set slots id no_block) (set cells u 0)) moved
    fits_gone = subst (λ (bs : List Block). Fits (record now { blocks = bs }) moved) (sym (blocks_in-drop k.tables long u tells)) moved_into

    long_gone : cap ≡ C.length (set slots id no_block)
    long_gone = long ∙ sym (C.length-set slots id no_block)

    cells_are : set (set cells u 0) u (suc to) ≡ set cells u n
    cells_are = C.set-set cells u 0 (suc to) ∙ ap (set cells u) (let e : suc to ≡ n = omega arith in e)

    -- it is in its place by address
    replaced_is : placed moved (all_but id now.blocks) ≡ renamed id to now.blocks
    replaced_is =
        let own = M.with_id id x now.blocks here in
        let same : with_other_id id to x ≡ moved = ap (λ t. cond t moved x) (C.eq-eqb x.id id own) in
        (λ i. placed (sym same i) (sym (none_renamed id to (all_but id now.blocks) (M.others_differ id now.blocks)) i)) ∙ sym (placed_renamed id to x (all_but id now.blocks))
        ∙ ap (renamed id to) (ap (λ q. placed x (all_but q now.blocks)) (sym own) ∙ M.replaced-itself lo hi cap x now.blocks k.tables.ordered.laid k.tables.ordered.named (ap (block_with now.blocks) own ∙ here))

    blocks_are : C.blocks_in (set (set slots id no_block) to moved) (set cells u n) ≡ renamed id to now.blocks
    blocks_are = ap (C.blocks_in (set (set slots id no_block) to moved)) (sym cells_are) ∙ blocks_in-add gone long_gone u fits_gone at ∙ ap (placed moved) (blocks_in-drop k.tables long u tells) ∙ replaced_is

    pub layout_renamed : layout_in cap lo hi g (set (set slots id no_block) to moved) (set cells u n) ≡ record l { blocks = renamed id to l.blocks }
    layout_renamed = with_blocks k long is (renamed id to) blocks_are

    pub BlocksInvariant-renamed : C.BlocksInvariant cap lo hi g (set (set slots id no_block) to moved) (set cells u n) free pinned range kept
    BlocksInvariant-renamed = record {
      tables = subst (λ (cs : List ℕ). C.AreTables cap lo hi g (set (set slots id no_block) to moved) cs) cells_are (AreTables-add gone long_gone u fits_gone at);
      counted = let sum = ap (sum_by (λ (b : Block). b.size)) blocks_are ∙ sum_renamed id to (λ b. b.size) (λ b. ap (λ (c : Block). c.size) (id_alone id to b)) now.blocks in let counted = k.counted in omega arith;
      pins = k.pins ∙ sym (ap (sum_by pins_in) blocks_are ∙ sum_renamed id to pins_in (λ b. ap pins_in (id_alone id to b)) now.blocks);
      ranged = k.ranged;
      between = k.between ∙ sym (ap (holes lo hi) blocks_are ∙ holes_renamed id to lo hi now.blocks);
    }
