-- Lemmas on walks that are printed, item by item.
use Rattle.w16_script.proofs
use proofs.Common as C
use proofs.Common.{◌≡◌, ℕ, ◌+◌, ◌<◌, ◌≤◌, List, [], ◌∷◌, ◌++◌, None, Some, codes, refl, sym, ap, ◌∙◌, arith, w32, flat_map, Appends, Item, IsFirstItem, IsCut, Next, next, AppendsFront, item_text, end_text, walk_text}
use proofs.WriteLemmas.{AppendsFront-between}
use Rattle.w16_model.specs.Walk.{IsWalk}

-- Fronts of what is printed.

-- nothing was written of something
pub AppendsFront_none : (a bytes : _) → 0 < C.length bytes → AppendsFront a a bytes
AppendsFront_none a bytes some = record { front = []; back = bytes; whole = refl; left = some; appends = C.Appends-nil a }

-- a line is not empty
pub item_filled : (item : Item) → 0 < C.length (item_text item)
item_filled item =
    let body : List ℕ = C.encode_lower (C.to_be_bytes w32 item.at) ++ codes " " ++ C.encode_lower (C.to_be_bytes w32 item.size) ++ codes " " ++ C.owner_text item.owner in
    omega (arith, C.length-append body (10 ∷ []))

-- A walk of which the items below an address were printed.
pub record PrintedBelow (held holds : C.Option (List ℕ)) (items : List Item) (from : ℕ) : Type 0 where
  pub cut : IsCut items from
  pub appends : Appends held holds (flat_map item_text cut.done)

-- before the first
pub none_printed : (held items : _) → PrintedBelow held held items 0
none_printed held items = record { cut = C.cut_none items; appends = rw C.done_none (C.Appends-nil held) }

module _ (name heap items : _) (walk : IsWalk name heap items) (from held holds : _) (printed : PrintedBelow held holds items from) where
  abbrev done : List ℕ
  done = flat_map item_text printed.cut.done

  -- one item more, inside which none begins
  pub item_printed : (item : Item) (new : _) → IsFirstItem name heap from (Some item) → 0 < item.size → ((other : Item) → C.IsItem name heap other → item.at < other.at → item.at + item.size ≤ other.at) → Appends holds new (item_text item)
      → PrintedBelow held new items (item.at + item.size)
  item_printed item new first some apart appends =
      let on = C.cut_on name heap item some apart items walk (C.cut_more name heap items walk from printed.cut item first) in
      record {
        cut = on.0;
        appends = rw (on.1, C.done_more name heap items walk from printed.cut item first, C.flat_map-append, C.append-nil) (C.Appends-trans held holds new done (item_text item) printed.appends appends);
      }

  -- a front of an item is one of the walk
  pub item_fails : (item new : _) → IsFirstItem name heap from (Some item) → AppendsFront holds new (item_text item) → AppendsFront held new (walk_text items)
  item_fails item new first front =
      let n : Next name heap items walk from printed.cut item = next name heap items walk from printed.cut item first in
      let text : walk_text items ≡ done ++ (item_text item ++ (flat_map item_text n.more ++ end_text)) =
      ap walk_text (printed.cut.whole ∙ ap (λ l. printed.cut.done ++ l) n.is) ∙ simp (C.flat_map-append, C.append_assoc) in
      rw text (AppendsFront-between held new done _ printed.appends front)

  -- after the last item all were printed
  whole : IsFirstItem name heap from None → done ≡ flat_map item_text items
  whole none = ap (flat_map item_text) (sym (C.all_done name heap items walk from printed.cut none))

  pub walk_printed : (new : _) → IsFirstItem name heap from None → Appends holds new end_text → Appends held new (walk_text items)
  walk_printed new none appends = rw (← whole none) (C.Appends-trans held holds new done end_text printed.appends appends)

  -- and a front of the last line is one of the walk
  pub end_fails : (new : _) → IsFirstItem name heap from None → AppendsFront holds new end_text → AppendsFront held new (walk_text items)
  end_fails new none front = rw (← whole none, ← C.append-nil end_text) (AppendsFront-between held new done [] printed.appends front)
