-- What gets bytes in turn: of one segment and then of the others, and of one module and then of the others.
use Rattle.w16_loader.proofs
use proofs.Common as C
use proofs.Common.{◌≡◌, ◌≢◌, ℕ, zero, suc, ◌+◌, ◌<◌, ◌≤◌, Bool, true, false, cond, ◌||◌, List, [], ◌∷◌, ◌++◌, length, drop, flat_map, All, Option, Some, None, IfSome, IsSomeAnd, get_or, slice_get, Ok, Err, inl, inr, refl, sym, ap, ◌∙◌, subst, arith, add-one, AllZip, Handles, Heap}
use proofs.Common.{is_fixed, Member, EachPair, Each-at, ModuleFile, Segment, Failure, Filling, Giving, InTurn, Module, Modules, module_at, fills_from, Part, HasUnfilled, IsUnfilled, fills_in, fills_of_part, fills_with, slots_at}
use proofs.{Files.there, Giving.some_at}
use Rattle.std.specs.List.{AllByRecursion as Each}

-- Turns.

module _ (gives : Giving) where
  pub one_turn : {A : Type 0} (old new : Heap) (place slot : ℕ) (bytes : List ℕ) (result : C.Result A C.FetchFault) → gives old slot bytes (C.fault_in result) new
      → InTurn gives old (record { place = place; slot = slot; bytes = bytes } ∷ []) (C.failure_at place result) new
  one_turn old new place slot bytes (Ok done) g = (None, new, g, (refl, refl))
  one_turn old new place slot bytes (Err fault) g = (Some fault, new, g, (refl, refl))

  pub turns_then : (old mid new : Heap) (xs ys : List Filling) (failure : Option Failure) → InTurn gives old xs None mid → InTurn gives mid ys failure new → InTurn gives old (xs ++ ys) failure new
  turns_then old mid new [] ys failure h k = subst (λ (a : Heap). InTurn gives a ys failure new) h.1 k
  turns_then old mid new (x ∷ xs) ys failure (None, next, one, rest) k = (None, next, one, turns_then next mid new xs ys failure rest k)
  turns_then old mid new (x ∷ xs) ys failure (Some fault, next, one, rest) k = let never = rest.0 in cc

  pub turns_end : (old new : Heap) (xs ys : List Filling) (f : Failure) → InTurn gives old xs (Some f) new → InTurn gives old (xs ++ ys) (Some f) new
  turns_end old new [] ys f h = let never = h.0 in cc
  turns_end old new (x ∷ xs) ys f (None, next, one, rest) = (None, next, one, turns_end next new xs ys f rest)
  turns_end old new (x ∷ xs) ys f (Some fault, next, one, rest) = (Some fault, next, one, rest)

  -- what is done from here on is done from the start
  abbrev pub Goes : Heap → List Filling → Heap → List Filling → Type 0
  Goes old xs now ys = (failure : Option Failure) (last : Heap) → InTurn gives now ys failure last → InTurn gives old xs failure last

  pub goes_on : (old now next : Heap) (xs first ys : List Filling) → Goes old xs now (first ++ ys) → InTurn gives now first None next → Goes old xs next ys
  goes_on old now next xs first ys goes one failure last rest = goes failure last (turns_then now next last first ys failure one rest)

  pub ends_here : (old now next : Heap) (xs first ys : List Filling) (f : Failure) → Goes old xs now (first ++ ys) → InTurn gives now first (Some f) next → InTurn gives old xs (Some f) next
  ends_here old now next xs first ys f goes one = goes (Some f) next (turns_end now next first ys f one)

  pub all_done : (old now : Heap) (xs ys : List Filling) → Goes old xs now ys → ys ≡ [] → InTurn gives old xs None now
  all_done old now xs ys goes none = goes None now (subst (λ zs. InTurn gives now zs None now) (sym none) (refl, refl))

-- Segments.

pub left_at : {X : Type 0} (xs : List X) (i : ℕ) (x : X) → slice_get xs i ≡ Some x → drop i xs ≡ x ∷ drop (suc i) xs
left_at [] i x e = cc
left_at (y ∷ xs) zero x e = let same : y ≡ x = cc in ap (λ z. z ∷ xs) same
left_at (y ∷ xs) (suc i) x e = left_at xs i x e

module _ (place : ℕ) (m : Module) (read : ModuleFile) where
  -- what gets bytes of the segments from a place on
  abbrev pub fills_behind : ℕ → List Filling
  fills_behind i = fills_from place (drop i m.slots) (drop i m.tables.segments) (drop i read.segments) (drop i m.values)

  one_first : (b : Bool) (x : Filling) (rest : List Filling) → cond b (x ∷ rest) rest ≡ cond b (x ∷ []) [] ++ rest
  one_first true x rest = refl
  one_first false x rest = refl

  part_first : (i j : ℕ) → j ≡ i → (part : Part m read j) → fills_behind i ≡ fills_of_part place part ++ fills_behind (i + 1)
  part_first i j e part =
      let slots : drop i m.slots ≡ part.slot ∷ drop (suc i) m.slots = left_at m.slots i part.slot (ap (slice_get m.slots) (sym e) ∙ part.slot_at) in
      let segments : drop i m.tables.segments ≡ part.segment ∷ drop (suc i) m.tables.segments = left_at m.tables.segments i part.segment (ap (slice_get m.tables.segments) (sym e) ∙ part.segment_at) in
      let all_data : drop i read.segments ≡ part.its_data ∷ drop (suc i) read.segments = left_at read.segments i part.its_data (ap (slice_get read.segments) (sym e) ∙ part.data_at) in
      let values : drop i m.values ≡ part.its_values ∷ drop (suc i) m.values = left_at m.values i part.its_values (ap (slice_get m.values) (sym e) ∙ part.values_at) in
      (λ k. fills_from place (slots k) (segments k) (all_data k) (values k))
      ∙ one_first (is_fixed part.segment.kind || part.segment.is_preload) (record { place = place; slot = part.slot; bytes = part.its_data.image part.its_values }) (fills_behind (suc i))
      ∙ ap (λ k. fills_of_part place part ++ fills_behind k) (sym (add-one i))

  pub none_behind : (i : ℕ) → length m.slots ≤ i → fills_behind i ≡ []
  none_behind i le = ap (λ (slots : List ℕ). fills_from place slots (drop i m.tables.segments) (drop i read.segments) (drop i m.values)) (C.drop_all i m.slots le)

  module _ (gives : Giving) (old now next : Heap) (done j : ℕ) (same : j ≡ done) (part : Part m read j) (goes : Goes gives old (fills_in place m read) now (fills_behind done)) where
    parted_goes : Goes gives old (fills_in place m read) now (fills_of_part place part ++ fills_behind (done + 1))
    parted_goes = subst (λ ys. Goes gives old (fills_in place m read) now ys) (part_first done j same part) goes

    pub part_goes : InTurn gives now (fills_of_part place part) None next → Goes gives old (fills_in place m read) next (fills_behind (done + 1))
    part_goes one = goes_on gives old now next (fills_in place m read) (fills_of_part place part) (fills_behind (done + 1)) parted_goes one

    pub part_ends : (f : Failure) → InTurn gives now (fills_of_part place part) (Some f) next → InTurn gives old (fills_in place m read) (Some f) next
    part_ends f one = ends_here gives old now next (fills_in place m read) (fills_of_part place part) (fills_behind (done + 1)) f parted_goes one

  pub parts_done : (gives : Giving) (old now : Heap) (done : ℕ) → length m.slots ≤ done → Goes gives old (fills_in place m read) now (fills_behind done) → InTurn gives old (fills_in place m read) None now
  parts_done gives old now done le goes = all_done gives old now (fills_in place m read) (fills_behind done) goes (none_behind done le)

-- Lists that go together are as long.
zip_long : {A B : Type 0} (R : A → B → Type 0) (xs : List A) (ys : List B) → AllZip R xs ys → length ys ≡ length xs
zip_long R [] [] h = refl
zip_long R [] (y ∷ ys) h = absurd h
zip_long R (x ∷ xs) [] h = absurd h
zip_long R (x ∷ xs) (y ∷ ys) h = let rest = zip_long R xs ys h.1 in omega (arith, rest)

-- each of a module's segments is there with its data and values
pub part_at : (m : Module) (read : ModuleFile) → C.IsReadAs m read → (i : ℕ) → i < length m.tables.segments → Part m read i
part_at m read is i lt =
    let data_many = zip_long _ read.tables.segments read.segments is.is_file.segments in
    let tables_many = ap (λ t. length t.segments) is.tables in
    let slots_many = is.slots in
    let values_many = is.values in
    let slot = there m.slots i (omega (arith, slots_many, lt)) in
    let segment = there _ i lt in
    let its_data = there _ i (omega (arith, data_many, tables_many, lt)) in
    let its_values = there _ i (omega (arith, values_many, lt)) in
    record { slot = slot.0; segment = segment.0; its_data = its_data.0; its_values = its_values.0; slot_at = slot.1; segment_at = segment.1; data_at = its_data.1; values_at = its_values.1 }

-- places of two lists that go together
pub zipped_at : {A B : Type 0} (R : A → B → Type 0) (xs : List A) (ys : List B) → AllZip R xs ys → (i : ℕ) (x : A) (y : B) → slice_get xs i ≡ Some x → slice_get ys i ≡ Some y → R x y
zipped_at R [] ys h i x y e f = cc
zipped_at R (a ∷ xs) [] h i x y e f = cc
zipped_at R (a ∷ xs) (b ∷ ys) h zero x y e f = let same : a ≡ x = cc in let also : b ≡ y = cc in subst (λ c. R c y) same (subst (λ d. R a d) also h.0)
zipped_at R (a ∷ xs) (b ∷ ys) h (suc i) x y e f = zipped_at R xs ys h.1 i x y e f

-- a slot that is none of these is at no place
pub at_none : (slots : List ℕ) (slot : ℕ) → All (λ q. q ≢ slot) slots → (i : ℕ) → slice_get slots i ≢ Some slot
at_none slots slot all i e = Each-at (λ q. q ≢ slot) slots (C.Each-from_All (λ q. q ≢ slot) slots all) slot (C.place_member slots i slot e) refl

-- the object of a segment has no bytes while only those of segments before it got theirs
pub part_unfilled : (m : Module) (read : ModuleFile) (old now : Handles) (done j : ℕ) → j ≡ done → HasUnfilled old m → (part : Part m read j)
    → ((slot : ℕ) (s : Segment) → ((i : ℕ) → i < done → slice_get m.slots i ≢ Some slot) → IsUnfilled old slot s → IsUnfilled now slot s) → IsUnfilled now part.slot part.segment
part_unfilled m read old now done j same empty part keeps = keeps _ _
    (λ i lt e. let here = C.one_place m.slots i j _ (C.EachPair-from_AllPairs (λ a b. a ≢ b) m.slots empty.apart) e part.slot_at in omega (arith, here, same, lt))
    (zipped_at (IsUnfilled old) m.slots m.tables.segments empty.objects j part.slot part.segment part.slot_at part.segment_at)

-- Modules.

-- the objects of the segments of the modules of these handles have no bytes, and are different
pub record Left (modules : Modules) (handles : Handles) (hs : List ℕ) : Type 0 where
  pub objects : Each (λ h. IfSome (module_at modules h) (λ m. AllZip (IsUnfilled handles) m.slots m.tables.segments)) hs
  pub apart : EachPair (λ a b. a ≢ b) (flat_map (slots_at modules) hs)

zip_kept : (old new : Handles) (slots : List ℕ) (segments : List Segment) → ((q : ℕ) (s : Segment) → Member q slots → IsUnfilled old q s → IsUnfilled new q s) → AllZip (IsUnfilled old) slots segments → AllZip (IsUnfilled new) slots segments
zip_kept old new [] [] keeps h = tt
zip_kept old new [] (s ∷ ss) keeps h = h
zip_kept old new (q ∷ qs) [] keeps h = h
zip_kept old new (q ∷ qs) (s ∷ ss) keeps h = (keeps q s (inl refl) h.0, zip_kept old new qs ss (λ p t m. keeps p t (inr m)) h.1)

in_all : (modules : Modules) (hs : List ℕ) (h q : ℕ) → Member h hs → Member q (slots_at modules h) → Member q (flat_map (slots_at modules) hs)
in_all modules [] h q m n = absurd m
in_all modules (k ∷ hs) h q (inl e) n = C.in_first q (slots_at modules k) (flat_map _ hs) (subst (λ i. Member q (slots_at modules i)) e n)
in_all modules (k ∷ hs) h q (inr m) n = C.in_second q (slots_at modules k) (flat_map _ hs) (in_all modules hs h q m n)

apart_from : (s more : List ℕ) (q : ℕ) → EachPair (λ a b. a ≢ b) (s ++ more) → Member q s → Member q more → ⊥
apart_from [] more q differ m n = m
apart_from (x ∷ s) more q differ (inl e) n = Each-at (λ b. x ≢ b) (s ++ more) differ.0 q (C.in_second q s more n) (sym e)
apart_from (x ∷ s) more q differ (inr m) n = apart_from s more q differ.1 m n

module _ (modules : Modules) (old : Handles) (h : ℕ) (hs : List ℕ) (left : Left modules old (h ∷ hs)) (m : Module) (found : module_at modules h ≡ Some m) where
  abbrev others : List ℕ
  others = flat_map (slots_at modules) hs

  differ : EachPair (λ a b. a ≢ b) (m.slots ++ others)
  differ = subst (λ (p : Option Module). EachPair (λ a b. a ≢ b) (C.unwrap_or (C.option_map (λ (n : Module). n.slots) p) [] ++ others)) found left.apart

  pub first_unfilled : HasUnfilled old m
  first_unfilled = record {
    objects = subst (λ (p : Option Module). IfSome p (λ n. AllZip (IsUnfilled old) n.slots n.tables.segments)) found left.objects.0;
    apart = C.AllPairs-from_EachPair (λ a b. a ≢ b) m.slots (C.first_apart m.slots others differ);
  }

  -- those of the others stay so
  pub others_left : (new : Handles) → ((slot : ℕ) (s : Segment) → All (λ q. q ≢ slot) m.slots → IsUnfilled old slot s → IsUnfilled new slot s) → Left modules new hs
  others_left new keeps = record {
    objects = C.Each-from (λ k. IfSome (module_at modules k) (λ n. AllZip (IsUnfilled new) n.slots n.tables.segments)) hs (λ k mem. turn k mem (module_at modules k) refl (Each-at (λ k. IfSome (module_at modules k) (λ n. AllZip (IsUnfilled old) n.slots n.tables.segments)) hs left.objects.1 k mem));
    apart = C.apart_after m.slots others differ;
  }
    where
      none_here : (q : ℕ) → Member q others → All (λ p. p ≢ q) m.slots
      none_here q n = C.All-from_Each (λ p. p ≢ q) m.slots (C.Each-from (λ p. p ≢ q) m.slots (λ p mem e. apart_from m.slots others q differ (subst (λ k. Member k m.slots) e mem) n))

      turn : (k : ℕ) → Member k hs → (p : Option Module) → module_at modules k ≡ p → IfSome p (λ n. AllZip (IsUnfilled old) n.slots n.tables.segments) → IfSome p (λ n. AllZip (IsUnfilled new) n.slots n.tables.segments)
      turn k mem None e had = tt
      turn k mem (Some n) e had = zip_kept old new n.slots n.tables.segments (λ q s at is. keeps q s (none_here q (in_all modules hs k q mem (subst (λ (slots : List ℕ). Member q slots) (sym (ap (λ (p : Option Module). C.unwrap_or (C.option_map (λ (x : Module). x.slots) p) []) e)) at))) is) had

pub all_left : (modules : Modules) (handles : Handles) (hs : List ℕ) → C.AreUnfilled modules handles hs → Left modules handles hs
all_left modules handles hs are = record {
  objects = C.Each-from_All (λ h. IfSome (module_at modules h) (λ m. AllZip (IsUnfilled handles) m.slots m.tables.segments)) hs are.objects;
  apart = C.EachPair-from_AllPairs (λ a b. a ≢ b) _ are.apart;
}

-- how far the fillings of modules have come
pub record Reached (gives : Giving) (modules : Modules) (old now : Handles) (hs : List ℕ) (reads : List ModuleFile) (place : ℕ) : Type 0 where
  pub left : Left modules now (drop place hs)
  pub goes : Goes gives old.heap (fills_with modules 0 hs reads) now.heap (fills_with modules place (drop place hs) (drop place reads))

pub reached_first : (gives : Giving) (modules : Modules) (old : Handles) (hs : List ℕ) (reads : List ModuleFile) → C.AreUnfilled modules old hs → Reached gives modules old old hs reads 0
reached_first gives modules old hs reads are = record { left = all_left modules old hs are; goes = λ failure last h. h }

none_with : (modules : Modules) (place : ℕ) (hs : List ℕ) (reads : List ModuleFile) → hs ≡ [] → fills_with modules place hs reads ≡ []
none_with modules place hs reads e = ap (λ ks. fills_with modules place ks reads) e

pub reached_last : (gives : Giving) (modules : Modules) (old now : Handles) (hs : List ℕ) (reads : List ModuleFile) (place : ℕ) → length hs ≤ place → Reached gives modules old now hs reads place
    → InTurn gives old.heap (fills_with modules 0 hs reads) None now.heap
reached_last gives modules old now hs reads place le r = all_done gives _ _ _ _ r.goes
    (none_with modules place _ _ (C.drop_all place hs le))

module _ (gives : Giving) (modules : Modules) (old now next : Handles) (hs : List ℕ) (reads : List ModuleFile) (place h : ℕ) (read : ModuleFile) (m : Module) (at : slice_get hs place ≡ Some h) (its : slice_get reads place ≡ Some read)
    (found : module_at modules h ≡ Some m) (reached : Reached gives modules old now hs reads place) where
  hs_left : drop place hs ≡ h ∷ drop (place + 1) hs
  hs_left = left_at hs place h at ∙ ap (λ k. h ∷ drop k hs) (sym (add-one place))

  reads_left : drop place reads ≡ read ∷ drop (place + 1) reads
  reads_left = left_at reads place read its ∙ ap (λ k. read ∷ drop k reads) (sym (add-one place))

  goes_first : Goes gives old.heap (fills_with modules 0 hs reads) now.heap (fills_in place m read ++ fills_with modules (place + 1) (drop (place + 1) hs) (drop (place + 1) reads))
  goes_first = subst (λ ys. Goes gives old.heap (fills_with modules 0 hs reads) now.heap ys)
      ((λ i. fills_with modules place (hs_left i) (reads_left i))
      ∙ ap (λ (p : Option Module). elim p as (λ _. List Filling) [ None ↦ [] | Some n ↦ fills_in place n read ] ++ fills_with modules (place + 1) (drop (place + 1) hs) (drop (place + 1) reads)) found) reached.goes

  left_first : Left modules now (h ∷ drop (place + 1) hs)
  left_first = subst (λ ks. Left modules now ks) hs_left reached.left

  pub module_unfilled : HasUnfilled now m
  module_unfilled = first_unfilled modules now h (drop (place + 1) hs) left_first m found

  pub module_goes : ((slot : ℕ) (s : Segment) → All (λ q. q ≢ slot) m.slots → IsUnfilled now slot s → IsUnfilled next slot s) → InTurn gives now.heap (fills_in place m read) None next.heap
      → Reached gives modules old next hs reads (place + 1)
  module_goes keeps one = record {
    left = others_left modules now h (drop (place + 1) hs) left_first m found next keeps;
    goes = goes_on gives old.heap now.heap next.heap (fills_with modules 0 hs reads) (fills_in place m read) (fills_with modules (place + 1) (drop (place + 1) hs) (drop (place + 1) reads)) goes_first one;
  }

  pub module_ends : (f : Failure) → InTurn gives now.heap (fills_in place m read) (Some f) next.heap → InTurn gives old.heap (fills_with modules 0 hs reads) (Some f) next.heap
  module_ends f one = ends_here gives old.heap now.heap next.heap (fills_with modules 0 hs reads) (fills_in place m read) (fills_with modules (place + 1) (drop (place + 1) hs) (drop (place + 1) reads)) f goes_first one

-- The module of a handle, with what its file says.
pub record Named (modules : Modules) (h : ℕ) (reads : List ModuleFile) (place : ℕ) : Type 0 where
  pub read : ModuleFile
  pub read_at : slice_get reads place ≡ Some read
  pub m : Module
  pub found : module_at modules h ≡ Some m

pub here : (hs : List ℕ) (place : ℕ) → place < length hs → slice_get hs place ≡ Some (get_or hs place 0)
here [] place lt = absurd (omega (arith, lt))
here (h ∷ hs) zero lt = refl
here (h ∷ hs) (suc place) lt = here hs place (omega (arith, lt))

named_by : (modules : Modules) (R : Module → ModuleFile → Type 0) (hs : List ℕ) (reads : List ModuleFile) → AllZip (λ h read. IsSomeAnd (module_at modules h) (λ m. R m read)) hs reads → (place h : ℕ) → slice_get hs place ≡ Some h
    → Named modules h reads place
named_by modules R hs reads all place h at = turn _ refl
    (subst (λ p. C.MatchOption p (Unit {0}) (λ k. IsSomeAnd (slice_get reads place) (λ read. IsSomeAnd (module_at modules k) (λ m. R m read)))) at (C.AllZip-left (λ k read. IsSomeAnd _ (λ m. R m read)) hs reads all place))
  where
    turn : (p : Option ModuleFile) → slice_get reads place ≡ p → IsSomeAnd p (λ read. IsSomeAnd (module_at modules h) (λ m. R m read)) → Named modules h reads place
    turn None e has = absurd has
    turn (Some read) e has = let m = some_at (λ m. R m read) _ has in record { read = read; read_at = e; m = m.0; found = m.1 }

pub named_at : (modules : Modules) (R : Module → ModuleFile → Type 0) (hs : List ℕ) (reads : List ModuleFile) → AllZip (λ h read. IsSomeAnd (module_at modules h) (λ m. R m read)) hs reads → (place : ℕ) → place < length hs
    → Named modules (get_or hs place 0) reads place
named_at modules R hs reads all place lt = named_by modules R hs reads all place _ (here hs place lt)

pub its_at : (modules : Modules) (R : Module → ModuleFile → Type 0) (hs : List ℕ) (reads : List ModuleFile) → AllZip (λ h read. IsSomeAnd (module_at modules h) (λ m. R m read)) hs reads → (place h : ℕ) → slice_get hs place ≡ Some h
    → (named : Named modules h reads place) → R named.m named.read
its_at modules R hs reads all place h at named = subst (λ p. IsSomeAnd p (λ m. R m named.read)) named.found (zipped_at (λ k read. IsSomeAnd _ (λ m. R m read)) hs reads all place h named.read at named.read_at)

pub one_module : (n m : Module) → Some n ≡ Some m → n ≡ m
one_module n m e = cc

pub no_module : (m : Module) → None ≡ Some m → ⊥
no_module m e = cc

-- handles of which the heap alone is another, after more of which the same holds
pub rest_then : (old now next : Handles) → now ≡ record old { heap = now.heap } → next ≡ record now { heap = next.heap } → next ≡ record old { heap = next.heap }
rest_then old now next first second = second ∙ ap (λ (h : Handles). record h { heap = next.heap }) first
