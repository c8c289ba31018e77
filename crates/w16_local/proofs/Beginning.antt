-- The beginning of a local heap.
use Rattle.w16_local.proofs
use proofs.Common as C
use proofs.Common.{◌≡◌, ℕ, zero, suc, Bool, true, false, cond, if◌then◌else◌, ◌==◌, ◌&&◌, nat_le, min, OnErr, Ok, Err, List, [], ◌∷◌, ◌++◌, length, get_or, Option, Some, None, option_map, is_some, refl, sym, ap, ◌∙◌, subst, nat_cmp, FinMap, Span, Handles, slot_of_selector, bytes_at}
use proofs.Common.{is_code, Table, World, Beginning, Stays, beginning, beginning_in, new_table, range_in, LocalInit, tables_of, Calls, alone, with_parts}
use proofs.Locals.{tables_at}
use Rattle.w16_local.specs.Parts.{MayBegin as MayBeginIn}
use Rattle.std.specs.FinMap as finmap

-- The range, as its test has it.
pub range_told : (size start end from to : ℕ) → from ≡ C.rounded_up start → to ≡ C.rounded_down end → (b : Bool) → b ≡ ((nat_le 4 start && nat_le end (min size 65536)) && C.nat_lt from to)
    → ◌≡◌ {A = Option Span} (if b then Some (record { from = from; to = to }) else None) (range_in size start end)
range_told size start end from to up down b is = λ i. cond {A = Option Span} ((is ∙ (λ j. (nat_le 4 start && nat_le end (min size 65536)) && C.nat_lt (up j) (down j))) i) (Some (record { from = up i; to = down i })) None

-- Where a heap may begin.
module _ (h : Handles) (ts : FinMap nat_cmp Table) (ds selector start end : ℕ) (named : ℕ) (is : named ≡ (if selector == 0 then ds else selector)) where
  abbrev w : World
  w = alone h ts ds

  abbrev of_slot : Option ℕ → Option Beginning
  of_slot s = elim s [ None ↦ None | Some slot ↦ cond {A = Option Beginning} (is_code h slot) None (beginning_in w start end slot) ]

  at_selector : (s : Option ℕ) → slot_of_selector h named ≡ s → beginning w selector start end ≡ of_slot s
  at_selector s e = ap (λ n. of_slot (slot_of_selector h n)) (sym is) ∙ ap of_slot e

  abbrev begun : ℕ → Option Table → Option (List ℕ) → Option Beginning
  begun slot t p = elim p [ None ↦ None | Some bytes ↦ cond {A = Option Beginning} (is_some t) None (option_map (λ range. record { slot = slot; range = range }) (range_in (length bytes) start end)) ]

  either : (b : Bool) → cond {A = Option Beginning} b None None ≡ None
  either true = refl
  either false = refl

  -- nowhere where the selector's object has no bytes, or there is none
  pub nowhere : ((slot : ℕ) → slot_of_selector h named ≡ Some slot → bytes_at h.heap slot ≡ None) → beginning w selector start end ≡ None
  nowhere none = turn (slot_of_selector h named) refl
    where
      turn : (s : Option ℕ) → slot_of_selector h named ≡ s → beginning w selector start end ≡ None
      turn None e = at_selector None e
      turn (Some slot) e = at_selector (Some slot) e ∙ ap (λ p. cond {A = Option Beginning} (is_code h slot) None (begun slot (finmap.get ts slot) p)) (none slot e) ∙ either (is_code h slot)

  module _ (slot : ℕ) (selected : slot_of_selector h named ≡ Some slot) (size : ℕ) (long : option_map (length {A = ℕ}) (bytes_at h.heap slot) ≡ Some size) where
    pub not_in_code : is_code h slot ≡ true → beginning w selector start end ≡ None
    not_in_code code = at_selector (Some slot) selected ∙ ap (λ b. cond {A = Option Beginning} b None (beginning_in w start end slot)) code

    module _ (plain : is_code h slot ≡ false) where
      in_slot : (t : Option Table) → finmap.get ts slot ≡ t → beginning w selector start end ≡ cond {A = Option Beginning} (is_some t) None (option_map (λ range. record { slot = slot; range = range }) (range_in size start end))
      in_slot t e = at_selector (Some slot) selected ∙ ap (λ b. cond {A = Option Beginning} b None (beginning_in w start end slot)) plain ∙ ap (λ t. begun slot t (bytes_at h.heap slot)) e ∙ turn (bytes_at h.heap slot) long
        where
          turn : (p : Option (List ℕ)) → option_map (length {A = ℕ}) p ≡ Some size → begun slot t p ≡ cond {A = Option Beginning} (is_some t) None (option_map (λ range. record { slot = slot; range = range }) (range_in size start end))
          turn None e = cc
          turn (Some bytes) e = let same : length bytes ≡ size = cc in ap (λ n. cond {A = Option Beginning} (is_some t) None (option_map (λ range. record { slot = slot; range = range }) (range_in n start end))) same

      pub not_twice : (t : Table) → finmap.get ts slot ≡ Some t → beginning w selector start end ≡ None
      not_twice t e = in_slot (Some t) e

      pub begins_as : finmap.get ts slot ≡ None → (r : Option Span) → r ≡ range_in size start end → beginning w selector start end ≡ option_map (λ range. record { slot = slot; range = range }) r
      begins_as e r range = in_slot None e ∙ ap (option_map (λ range. record { slot = slot; range = range })) (sym range)

-- The call.
module _ (h : Handles) (ts : FinMap nat_cmp Table) (ds selector start end : ℕ) where
  init_by : (b : Option Beginning) → beginning (alone h ts ds) selector start end ≡ b → (answer : ℕ) (new : FinMap nat_cmp Table)
      → ((rest : World) → C.MatchOption b (Stays (with_parts rest h ts ds) 0 answer (with_parts rest h new ds)) (λ b. (answer ≡ 1) × (with_parts rest h new ds ≡ C.with_table (with_parts rest h ts ds) b.slot (new_table b.range))))
      → Calls h ts ds (LocalInit selector start end) answer h new
  init_by b e answer new so rest = subst (λ b. C.MatchOption b (Stays (with_parts rest h ts ds) 0 answer (with_parts rest h new ds)) (λ b. (answer ≡ 1) × (with_parts rest h new ds ≡ C.with_table (with_parts rest h ts ds) b.slot (new_table b.range)))) (sym e) (so rest)

  pub init_none : beginning (alone h ts ds) selector start end ≡ None → Calls h ts ds (LocalInit selector start end) 0 h ts
  init_none e = init_by None e 0 ts (λ rest. (refl, refl))

  module _ (b : Beginning) (e : beginning (alone h ts ds) selector start end ≡ Some b) where
    pub may : C.MayBegin (alone h ts ds) selector start end b
    may = (C.begin_law (alone h ts ds) selector start end b).0 e

    pub init_calls : (new : FinMap nat_cmp Table) → new ≡ finmap.insert ts b.slot (new_table b.range) → Calls h ts ds (LocalInit selector start end) 1 h new
    init_calls new is = init_by (Some b) e 1 new (λ rest. (refl, ap (λ m. with_parts rest h m ds) is))

-- a heap may begin there in each world with these parts
pub may_begin : (h : Handles) (ts : FinMap nat_cmp Table) (ds selector start end : ℕ) (b : Beginning) → beginning (alone h ts ds) selector start end ≡ Some b → MayBeginIn h ts ds selector start end
may_begin h ts ds selector start end b e rest = subst C.IsSome (sym e) refl

-- The list of heaps, with more slots.
module _ {X : Type 0} (table : X → Table) (xs ys : List (Option X)) (same : (q : ℕ) → get_or ys q None ≡ get_or xs q None) where
  pub tables_reached : tables_of ys table ≡ tables_of xs table
  tables_reached = C.same_map C.nat_cmp_total C.nat_cmp-IsAntisymmetric (tables_of ys table) (tables_of xs table) (λ q. tables_at table ys q ∙ ap (option_map table) (same q) ∙ sym (tables_at table xs q))

module _ {X : Type 0} (xs ys : List (Option X)) (same : (q : ℕ) → get_or ys q None ≡ get_or xs q None) where
  pub listed_reached : (slots : List ℕ) → C.AreListed xs slots → C.AreListed ys slots
  listed_reached slots listed q some = listed q (sym (ap is_some (same q)) ∙ some)

-- nothing is added where nothing stands
pub nothing_more : {X : Type 0} (xs : List (Option X)) (q : ℕ) → get_or (xs ++ None ∷ []) q None ≡ get_or xs q None
nothing_more [] zero = refl
nothing_more [] (suc q) = refl
nothing_more (x ∷ xs) zero = refl
nothing_more (x ∷ xs) (suc q) = nothing_more xs q

-- what holds anyway holds where there was no memory
pub on_any : {X E : Type 0} (r : C.Result X E) (P : Type 0) → P → OnErr r P
on_any (Ok x) P p = tt
on_any (Err e) P p = p
