-- A load that has come to its end keeps what holds of every world.
use Rattle.w16_loading.proofs
use proofs.Common as C
use proofs.Given as M
use proofs.Common.{◌≡◌, ◌≢◌, ℕ, zero, suc, ◌+◌, ◌-◌, ◌<◌, ◌≤◌, ◌==◌, inl, inr, ◌⊎◌, Bool, true, false, cond, List, [], ◌∷◌, length, fold, map, zip, slice_get, Option, Some, None, IfSome, IsSomeAnd, is_some, refl, sym, ap, ◌∙◌, subst, arith, false≢true, Kind, Heap, object_at, owned_in}
use proofs.Common.{owned_at, Member, Each-at, true-is_member, inserted_here, is_named, MOST_USES, IsSegmentData, Segment, LoadingWorld, Load, Module, Named, IsFreeModule, name_of, module_at, importers, usage, usage_with, Loaded, Filling, Referent, New, attributes_of, Given, given}
use proofs.Common.{segments_of, with_segment, bound, imports_at, handle_meant, named, fills, Fills, IsModule, IsObjectOf, slots_at, slots_for, Owned}
use proofs.Undone.{chosen, fold_named, same_owned}
use proofs.Fillings.{SameRange, any_do, any_kept, any_there, any_range, any_sized}
use proofs.Named.{AreApart, given_slots_apart, named_handles, free_slot}
use proofs.Given.{given_found, member_place, place_member, put_named, put_here, loaded_is}
use proofs.Worlds.{IsNumber, AreNamesApart, HasOwner, same_module, is_used, is_load, owner_stays, extends}
use proofs.ModuleWorlds.{importers_stay, still_used, not_named}
use proofs.{Importers.HasImporter, Importers.of_importer, KeptWorlds.IsOwned, FetchWorlds.filled_owned, ClosureFacts.IsClosure, Answered.HoldFiles, Owners.object_there}
use Rattle.std.specs.FinMap as finmap

-- What is filled has its size, and all else what it had.
all_owned : (answers : C.Answers) (old new : Heap) (xs : List Filling) → C.IsHeap old → C.InTurn (C.GivesFrom Fills answers) old xs None new → (q : ℕ) (kind : Kind) (size : ℕ) → ((x : Filling) → Member x xs → q ≡ x.slot → length x.bytes ≡ size) → IsOwned old q kind size → IsOwned new q kind size
all_owned answers old new xs is f q kind size long = (any_do answers (λ a b. IsOwned a q kind _ → IsOwned b q _ _) (λ a k. k) (λ a b c x y k. y (x k)) old new xs None is
    (λ x m a b h read same again g. filled_owned a _ _ b h g q _ _ (λ e. same ∙ long x m e)) f).0

-- Names.

-- each segment is an object of its own, without bytes, and a module's
pub named_new : (w : LoadingWorld) (xs : List (ℕ × Segment)) → AreApart xs → (x : ℕ × Segment) → Member x xs → (object_at (fold with_segment w xs).handles.heap x.0 ≡ Some (record { kind = x.1.kind; locks = 0; bytes = None }))
    × (owned_at (fold with_segment w xs).handles x.0 ≡ Some (record { size = x.1.size; code = x.1.is_code }))
named_new w [] apart x m = absurd m
named_new w (y ∷ xs) apart x (inl e) = (
  (fold_named _ xs).others x.0 out ∙ inserted_here _ y.0 (record { kind = y.1.kind; locks = 0; bytes = None }) x.0 (λ i. (e i).0) ∙ (λ i. Some (record { kind = (sym e i).1.kind; locks = 0; bytes = None })),
  same_owned (with_segment w y) xs x.0 out ∙ ap owned_in (inserted_here w.handles.attributes y.0 (attributes_of y.1) x.0 (λ i. (e i).0)) ∙ (λ i. Some (record { size = (sym e i).1.size; code = (sym e i).1.is_code })),
)
  where
    out : (z : ℕ × Segment) → Member z xs → x.0 ≢ z.0
    out z k same = Each-at (λ z. y.0 ≢ z.0) xs apart.0 z k (sym (λ i. (e i).0) ∙ same)
named_new w (y ∷ xs) apart x (inr m) = named_new (with_segment w y) xs apart.1 x m

-- a slot is one segment's
one_segment_of : (xs : List (ℕ × Segment)) → AreApart xs → (x y : ℕ × Segment) → Member x xs → Member y xs → x.0 ≡ y.0 → x ≡ y
one_segment_of [] apart x y m n e = absurd m
one_segment_of (z ∷ xs) apart x y (inl d) (inl f) e = d ∙ sym f
one_segment_of (z ∷ xs) apart x y (inl d) (inr n) e = absurd (Each-at (λ k. z.0 ≢ k.0) xs apart.0 y n (sym (λ i. (d i).0) ∙ e))
one_segment_of (z ∷ xs) apart x y (inr m) (inl f) e = absurd (Each-at (λ k. z.0 ≢ k.0) xs apart.0 x m (sym (e ∙ (λ i. (f i).0))))
one_segment_of (z ∷ xs) apart x y (inr m) (inr n) e = one_segment_of xs apart.1 x y m n e

-- The world.
module _ (answers : C.Answers) (are : HoldFiles answers) (old : LoadingWorld) (is : C.IsLoadingWorld old) (closure : C.Closure) (choice : C.Choice) (good : C.IsChoice old closure.found choice) (facts : IsClosure answers (C.around old).named closure)
    (heap : Heap) (filled : C.InTurn (C.GivesFrom Fills answers) (named old closure choice).handles.heap (fills old closure choice) None heap) where
  abbrev gs : List Given
  gs = given closure choice

  abbrev module_of : Given → Module
  module_of = bound old closure choice

  abbrev begun : LoadingWorld
  begun = named old closure choice

  abbrev new : LoadingWorld
  new = C.with_heap begun heap

  pub slots_differ : C.EachPair (λ a b. a ≢ b) (C.all_slots choice)
  slots_differ = C.EachPair-from_AllPairs (λ (a b : ℕ). a ≢ b) (C.all_slots choice) good.slots.apart

  pub handles_differ : C.EachPair (λ a b. a ≢ b) choice.handles
  handles_differ = C.EachPair-from_AllPairs (λ (a b : ℕ). a ≢ b) choice.handles good.apart

  pub segments_differ : AreApart (segments_of gs)
  segments_differ = given_slots_apart 0 closure.found choice.handles choice.slots slots_differ

  -- each segment is small enough for one slot
  small : (x : ℕ × Segment) → Member x (segments_of gs) → 1 ≡ slots_for x.1.size
  small x m =
      let r : (g : Given) × Member g gs × Member x (zip g.slots g.found.read.tables.segments) = M.segment_given gs x m in
      let p : (i : ℕ) × (slice_get (zip r.0.slots r.0.found.read.tables.segments) i ≡ Some x) = member_place (zip r.0.slots r.0.found.read.tables.segments) x r.2 in
      let file : C.IsModuleFile r.0.found.read = are r.0.found.file r.0.found.read (facts.held r.0.found (given_found 0 closure.found choice.handles choice.slots r.0 r.1)) in
      of_data (slice_get r.0.found.read.segments p.0) (subst (λ a. C.MatchOption a (Unit {0}) (λ y. IsSomeAnd (slice_get r.0.found.read.segments p.0) (IsSegmentData y))) (M.zip_place r.0.slots r.0.found.read.tables.segments p.0 x p.1).1
      (C.AllZip-left IsSegmentData r.0.found.read.tables.segments r.0.found.read.segments file.segments p.0))
    where
      of_data : (d : Option C.SegmentData) → IsSomeAnd d (IsSegmentData x.1) → 1 ≡ slots_for x.1.size
      of_data None h = absurd h
      of_data (Some d) h = omega (arith, h.some, h.small)

  begun_handles : C.AreHandles begun.handles
  begun_handles = named_handles old closure choice is.handles good small

  -- a slot of a new segment was free
  pub was_free : (x : ℕ × Segment) → Member x (segments_of gs) → object_at old.handles.heap x.0 ≡ None
  was_free x m = C.unused_slot old.handles is.handles x.0 (free_slot old closure choice good x.0 (chosen 0 closure.found choice.handles choice.slots x m))

  -- a handle of a new module was free
  pub free_handle : (g : Given) → Member g gs → IsFreeModule old.modules g.handle
  free_handle g m = Each-at (IsFreeModule old.modules) choice.handles (C.Each-from_All (IsFreeModule old.modules) choice.handles good.free) g.handle (M.given_handle 0 closure.found choice.handles choice.slots g m)

  none_some : {X A : Type 0} (p : Option X) (x : X) → p ≡ None → p ≡ Some x → A
  none_some p x e f = let h : ◌≡◌ {A = Option _} None (Some x) = sym e ∙ f in cc

  -- Objects.

  -- what is filled has the size of its segment
  pub sized : (x : Filling) → Member x (fills old closure choice) → (segment : Segment) × Member {X = ℕ × Segment} (x.slot, segment) (segments_of gs) × (length x.bytes ≡ segment.size)
  sized x m =
      let r : (g : Given) × Member g gs × M.IsFilledBy module_of g x = M.filled_by module_of gs x m in
      let f : M.IsFilledBy module_of r.0 x = r.2 in
      let file : C.IsModuleFile r.0.found.read = are r.0.found.file r.0.found.read (facts.held r.0.found (given_found 0 closure.found choice.handles choice.slots r.0 r.1)) in
      let both : IsSomeAnd (slice_get r.0.found.read.segments f.place) (IsSegmentData f.segment) = subst (λ p. C.MatchOption p (Unit {0}) (λ y. IsSomeAnd (slice_get r.0.found.read.segments f.place) (IsSegmentData y))) f.segment_at
      (C.AllZip-left IsSegmentData r.0.found.read.tables.segments r.0.found.read.segments file.segments f.place) in
      let is_data : IsSegmentData f.segment f.its_data = subst (λ p. IsSomeAnd p (IsSegmentData f.segment)) f.data_at both in
      (f.segment, M.given_segment gs r.0 (x.slot, f.segment) r.1 (M.zip_member r.0.slots r.0.found.read.tables.segments f.place x.slot f.segment f.slot_at f.segment_at), ap length f.image ∙ (is_data.image f.its_values).0)

  filled_handles : C.AreHandles (record begun.handles { heap = heap })
  filled_handles =
      let range : SameRange begun.handles.heap heap = any_range answers begun.handles.heap heap (fills old closure choice) None begun_handles.heap filled in
      C.other_handles begun.handles begun_handles heap (any_kept answers begun.handles.heap heap (fills old closure choice) None begun_handles.heap filled).0 range.lo range.grain
      (any_there answers begun.handles.heap heap (fills old closure choice) None begun_handles.heap filled)
      (λ q. any_sized answers begun.handles.heap heap (fills old closure choice) None begun_handles.heap filled q (slots_at begun.handles.attributes q) (enough q) (begun_handles.sized q))
    where
      enough : (q : ℕ) (y : Filling) → Member y (fills old closure choice) → q ≡ y.slot → slots_at begun.handles.attributes q ≡ slots_for (length y.bytes)
      enough q y n e =
          let s : (segment : Segment) × Member {X = ℕ × Segment} (y.slot, segment) (segments_of gs) × (length y.bytes ≡ segment.size) = sized y n in
          ap (slots_at begun.handles.attributes) e
          ∙ subst (λ p. IfSome p (λ (o : Owned). slots_at begun.handles.attributes y.slot ≡ slots_for o.size)) (named_new old (segments_of gs) segments_differ (y.slot, s.0) s.1).1 (C.owned_slots begun.handles begun_handles y.slot)
          ∙ ap slots_for (sym s.2)

  -- a new segment's object
  made : (x : ℕ × Segment) → Member x (segments_of gs) → IsObjectOf new x.0 x.1.kind x.1.size x.1.is_code
  made x m = record {
    object = all_owned answers begun.handles.heap heap (fills old closure choice) begun_handles.heap filled x.0 x.1.kind x.1.size long
        (subst (λ p. IsSomeAnd p (λ (o : C.Object). (o.kind ≡ x.1.kind) × IfSome o.bytes (λ b. length b ≡ x.1.size))) (sym ((named_new old (segments_of gs) segments_differ x m).0)) (refl, tt));
    owned = (named_new old (segments_of gs) segments_differ x m).1;
  }
    where
      long : (y : Filling) → Member y (fills old closure choice) → x.0 ≡ y.slot → length y.bytes ≡ x.1.size
      long y n e =
          let s : (segment : Segment) × Member {X = ℕ × Segment} (y.slot, segment) (segments_of gs) × (length y.bytes ≡ segment.size) = sized y n in
          let same : x ≡ (y.slot, s.0) = one_segment_of (segments_of gs) segments_differ x (y.slot, s.0) m s.1 e in
          s.2 ∙ (λ i. (sym same i).1.size)

  -- an object that a module had stays
  not_new : (q : ℕ) (kind : Kind) (size : ℕ) (code : Bool) → IsObjectOf old q kind size code → (x : ℕ × Segment) → Member x (segments_of gs) → q ≢ x.0
  not_new q kind size code h x m e = false≢true (sym (ap is_some (ap (object_at old.handles.heap) e ∙ was_free x m)) ∙ object_there old q kind size code h)

  kept : (q : ℕ) (kind : Kind) (size : ℕ) (code : Bool) → IsObjectOf old q kind size code → IsObjectOf new q kind size code
  kept q kind size code h = record {
    object = all_owned answers begun.handles.heap heap (fills old closure choice) begun_handles.heap filled q kind size (λ y n e. absurd (out y n e))
        (subst (λ p. IsSomeAnd p (λ (o : C.Object). (o.kind ≡ kind) × IfSome o.bytes (λ b. length b ≡ size))) (sym ((fold_named old (segments_of gs)).others q (not_new q kind size code h))) h.object);
    owned = same_owned old (segments_of gs) q (not_new q kind size code h) ∙ h.owned;
  }
    where
      out : (y : Filling) → Member y (fills old closure choice) → q ≡ y.slot → ⊥
      out y n e = let s : (segment : Segment) × Member {X = ℕ × Segment} (y.slot, segment) (segments_of gs) × (length y.bytes ≡ segment.size) = sized y n in not_new q kind size code h (y.slot, s.0) s.1 e

  -- Modules.

  -- a new module's handle named nothing
  is_new : (g : Given) → Member g gs → (n : Named) → finmap.get old.modules g.handle ≡ Some n → ⊥
  is_new g m n e = none_some (finmap.get old.modules g.handle) n (free_handle g m).2 e

  there_still : (a : ℕ) (n : Named) → finmap.get old.modules a ≡ Some n → finmap.get new.modules a ≡ Some n
  there_still a n e = M.put_all module_of gs old.modules a (λ g m same. is_new g m n (ap (finmap.get old.modules) (sym same) ∙ e)) ∙ e

  numbers : (a : ℕ) → IfSome (finmap.get new.modules a) (λ _. IsNumber a)
  numbers a = turn (finmap.get new.modules a) refl
    where
      turn : (p : Option Named) → finmap.get new.modules a ≡ p → IfSome p (λ _. IsNumber a)
      turn None e = tt
      turn (Some n) e = by (put_named module_of gs old.modules a n e)
        where
          by : ((g : Given) × Member g gs × (g.handle ≡ a) × (n ≡ Loaded (module_of g))) ⊎ (finmap.get old.modules a ≡ Some n) → IsNumber a
          by (inl r) = let free : IsFreeModule old.modules r.0.handle = free_handle r.0 r.1 in subst IsNumber r.2 (free.0, free.1)
          by (inr f) = subst (λ p. IfSome p (λ _. IsNumber a)) f (is.numbers a)

  -- a new module's name was nobody's
  unnamed : (g : Given) → Member g gs → (a : ℕ) (n : Named) → finmap.get old.modules a ≡ Some n → is_named (name_of n) g.found.read.tables.name ≡ false
  unnamed g m a n e = not_named old.modules g.found.read.tables.name (facts.new g.found (given_found 0 closure.found choice.handles choice.slots g m)) a n e

  names : AreNamesApart new.modules
  names a b x y e f t = turn (put_named module_of gs old.modules a x e) (put_named module_of gs old.modules b y f)
    where
      turn : ((g : Given) × Member g gs × (g.handle ≡ a) × (x ≡ Loaded (module_of g))) ⊎ (finmap.get old.modules a ≡ Some x) → ((g : Given) × Member g gs × (g.handle ≡ b) × (y ≡ Loaded (module_of g))) ⊎ (finmap.get old.modules b ≡ Some y) → a ≡ b
      turn (inl u) (inl v) =
          let same : u.0 ≡ v.0 = M.one_named 0 closure.found choice.handles choice.slots facts.apart u.0 v.0 u.1 v.1 (subst (λ (n : Named). is_named u.0.found.read.tables.name (name_of n) ≡ true) v.3 (subst (λ (n : Named). is_named (name_of n) (name_of y) ≡ true) u.3 t)) in
          sym u.2 ∙ (λ i. (same i).handle) ∙ v.2
      turn (inl u) (inr v) = absurd (false≢true (sym (unnamed u.0 u.1 b y v) ∙ M.named_back u.0.found.read.tables.name (name_of y) (subst (λ (n : Named). is_named (name_of n) (name_of y) ≡ true) u.3 t)))
      turn (inr u) (inl v) = absurd (false≢true (sym (unnamed v.0 v.1 a x u) ∙ subst (λ (n : Named). is_named (name_of x) (name_of n) ≡ true) v.3 t))
      turn (inr u) (inr v) = is.names a b x y u v t

  -- a module that is there is a new one, or was there
  which : (a : ℕ) (m : Module) → module_at new.modules a ≡ Some m → ((g : Given) × Member g gs × (g.handle ≡ a) × (m ≡ module_of g)) ⊎ (module_at old.modules a ≡ Some m)
  which a m e = M.new_or_old module_of gs old.modules a m e

  -- its segments
  zip_all : (slots : List ℕ) (segments : List Segment) → length slots ≡ length segments → ((x : ℕ × Segment) → Member x (zip slots segments) → IsObjectOf new x.0 x.1.kind x.1.size x.1.is_code)
      → C.AllZip (λ slot (s : Segment). IsObjectOf new slot s.kind s.size s.is_code) slots segments
  zip_all [] [] e f = tt
  zip_all [] (s ∷ ss) e f = absurd (omega (arith, e))
  zip_all (q ∷ qs) [] e f = absurd (omega (arith, e))
  zip_all (q ∷ qs) (s ∷ ss) e f = (f (q, s) (inl refl), zip_all qs ss (omega (arith, e)) (λ x m. f x (inr m)))

  -- a module that another asked for has an importer
  asked_for : (g : Given) → Member g gs → 0 < g.place → HasImporter new.modules g.handle
  asked_for g member some =
      let i : (i : ℕ) × (g.place ≡ 0 + i) × (i < length closure.found) × (slice_get choice.handles i ≡ Some g.handle) = M.given_index 0 closure.found choice.handles choice.slots g member in
      let same : g.place ≡ 0 + i.0 = i.1 in
      let asks : (by : ℕ) × Member {X = ℕ × Referent} (by, New i.0) closure.bound × (by ≢ i.0) = facts.asked i.0 (omega (arith, same, some)) i.2 in
      let few : asks.0 < length closure.found = Each-at (λ (x : ℕ × Referent). x.0 < length closure.found) closure.bound facts.bound (asks.0, New i.0) asks.1 in
      let h : (h : Given) × Member h gs × (h.place ≡ 0 + asks.0) × (slice_get choice.handles asks.0 ≡ Some h.handle) = M.at_place 0 closure.found choice.handles choice.slots good.many good.slots.many asks.0 few in
      let its_place : h.0.place ≡ 0 + asks.0 = h.2 in
      let exact : asks.0 ≡ h.0.place = omega (arith, its_place) in
      record {
        who = h.0.handle;
        importer = Loaded (module_of h.0);
        there = put_here module_of 0 closure.found choice.handles choice.slots old.modules handles_differ h.0 h.1;
        other = λ e. asks.2 (M.one_place choice.handles asks.0 i.0 g.handle handles_differ (h.3 ∙ ap Some e) i.3);
        uses = true-is_member g.handle (imports_at closure choice h.0.place) (meant_member closure.bound h.0.place i.0 (subst (λ p. Member {X = ℕ × Referent} (p, New i.0) closure.bound) exact asks.1) g.handle (M.index_place choice.handles i.0 g.handle 0 i.3));
      }
    where
      meant_member : (bound : List (ℕ × Referent)) (place p : ℕ) → Member {X = ℕ × Referent} (place, New p) bound → (handle : ℕ) → C.slice_index_or choice.handles p 0 ≡ handle
          → Member handle (map (λ (b : ℕ × Referent). handle_meant choice.handles b.1) (C.filter (λ (b : ℕ × Referent). b.0 == place) bound))
      meant_member bound place p m handle e = mapped (C.filter (λ (b : ℕ × Referent). b.0 == place) bound) (C.filter_member (λ (b : ℕ × Referent). b.0 == place) bound (place, New p) m (C.eq-eqb place place refl))
        where
          mapped : (xs : List (ℕ × Referent)) → Member {X = ℕ × Referent} (place, New p) xs → Member handle (map (λ (b : ℕ × Referent). handle_meant choice.handles b.1) xs)
          mapped [] m = absurd m
          mapped (x ∷ xs) (inl same) = inl (sym e ∙ (λ i. handle_meant choice.handles (same i).1))
          mapped (x ∷ xs) (inr m) = inr (mapped xs m)

  -- so each is in use
  new_used : (g : Given) → Member g gs → 0 < (module_of g).uses + importers new.modules g.handle
  new_used g member = turn (g.place == 0) refl
    where
      turn : (b : Bool) → (g.place == 0) ≡ b → 0 < cond b 1 0 + importers new.modules g.handle
      turn true t = omega arith
      turn false t = let some : 0 < importers new.modules g.handle = of_importer new.modules g.handle (asked_for g member (not_zero g.place t)) in omega (arith, some)
        where
          not_zero : (n : ℕ) → (n == 0) ≡ false → 0 < n
          not_zero zero t = absurd (false≢true (sym t ∙ C.eq-eqb 0 0 refl))
          not_zero (suc n) t = omega arith

  few_uses : (g : Given) → (module_of g).uses ≤ MOST_USES
  few_uses g = turn (g.place == 0)
    where
      turn : (b : Bool) → cond b 1 0 ≤ MOST_USES
      turn true = let most : MOST_USES ≡ 65000 = refl in omega (arith, most)
      turn false = omega arith

  new_module : (g : Given) → Member g gs → IsModule new g.handle (module_of g)
  new_module g member = record {
    segments = zip_all g.slots g.found.read.tables.segments (M.given_long 0 closure.found choice.handles choice.slots good.slots.many g member) (λ x m. made x (M.given_segment gs g x member m));
    used = subst (λ p. 0 < usage_with p (importers new.modules g.handle)) (sym (put_here module_of 0 closure.found choice.handles choice.slots old.modules handles_differ g member)) (new_used g member);
    full = few_uses g;
  }

  old_used : (a : ℕ) (m : Module) → module_at old.modules a ≡ Some m → 0 < usage new.modules a
  old_used a m e =
      let at : finmap.get old.modules a ≡ Some (Loaded m) = loaded_is (finmap.get old.modules a) m e in
      let lt : 0 < m.uses + importers old.modules a = subst (λ p. 0 < usage_with p (importers old.modules a)) at (is_used old is a m e).0 in
      subst (λ p. 0 < usage_with p (importers new.modules a)) (sym (there_still a (Loaded m) at))
      (still_used old.modules new.modules a m.uses m.uses (omega arith) (importers_stay old.modules new.modules a (λ who n f. (n, there_still who n f, refl))) lt)

  -- Resources.

  same_load : (q : ℕ) → finmap.get new.loads q ≡ finmap.get old.loads q
  same_load q = ap (λ (m : finmap.FinMap C.nat_cmp Load). finmap.get m q) (ap (λ (w : LoadingWorld). w.loads) (fold_named old (segments_of gs)).rest)

  module_still : (a : ℕ) (m : Module) → module_at old.modules a ≡ Some m → module_at new.modules a ≡ Some m
  module_still a m e = ap C.module_in (there_still a (Loaded m) (loaded_is (finmap.get old.modules a) m e))

  -- Owners.

  -- a new segment's slot had no object
  slot_free : (q i : ℕ) (g : Given) → Member g gs → slice_get g.slots i ≡ Some q → object_at old.handles.heap q ≡ None
  slot_free q i g m e = C.unused_slot old.handles is.handles q (free_slot old closure choice good q (M.given_slot 0 closure.found choice.handles choice.slots g q m (place_member g.slots i q e)))

  abbrev IsNew : ℕ → Module → Type 0
  IsNew a m = (g : Given) × Member g gs × (g.handle ≡ a) × (m ≡ module_of g)

  one_new : (q a i b j : ℕ) (m n : Module) → IsNew a m → IsNew b n → C.IsSegmentOf new q a i m → C.IsSegmentOf new q b j n → (a ≡ b) × (i ≡ j)
  one_new q a i b j m n u v s t =
      let x : slice_get u.0.slots (i - 1) ≡ Some q = ap (λ (k : Module). slice_get k.slots (i - 1)) (sym u.3) ∙ s.has.1 in
      let y : slice_get v.0.slots (j - 1) ≡ Some q = ap (λ (k : Module). slice_get k.slots (j - 1)) (sym v.3) ∙ t.has.1 in
      let same : v.0 ≡ u.0 = M.one_given 0 closure.found choice.handles choice.slots u.0 v.0 q slots_differ u.1 v.1 (place_member u.0.slots (i - 1) q x) (place_member v.0.slots (j - 1) q y) in (
        sym u.2 ∙ (λ k. (sym same k).handle) ∙ v.2,
        place i j s.has.0 t.has.0 (M.one_place u.0.slots (i - 1) (j - 1) q (M.given_slots_differ 0 closure.found choice.handles choice.slots u.0 slots_differ u.1) x (ap (λ (g : Given). slice_get g.slots (j - 1)) (sym same) ∙ y)),
      )
    where
      place : (i j : ℕ) → 0 < i → 0 < j → i - 1 ≡ j - 1 → i ≡ j
      place i j x y e = omega (arith, x, y, e)

  -- whether a slot is a new segment's
  is_given : (q : ℕ) (xs : List (ℕ × Segment)) → ((x : ℕ × Segment) × Member x xs × (x.0 ≡ q)) ⊎ ((x : ℕ × Segment) → Member x xs → q ≢ x.0)
  is_given q [] = inr (λ x m. absurd m)
  is_given q (y ∷ xs) = turn (C.cases_eq q y.0) (is_given q xs)
    where
      turn : (q ≡ y.0) ⊎ (q ≢ y.0) → ((x : ℕ × Segment) × Member x xs × (x.0 ≡ q)) ⊎ ((x : ℕ × Segment) → Member x xs → q ≢ x.0) → ((x : ℕ × Segment) × Member x (y ∷ xs) × (x.0 ≡ q)) ⊎ ((x : ℕ × Segment) → Member x (y ∷ xs) → q ≢ x.0)
      turn (inl e) r = inl (y, inl refl, sym e)
      turn (inr d) (inl r) = inl (r.0, inr r.1, r.2)
      turn (inr d) (inr out) = inr (λ x m. elim m [ inl e ↦ (λ f. d (f ∙ (λ i. (e i).0))) | inr k ↦ out x k ])

  owner_is : (q : ℕ) → ((x : ℕ × Segment) × Member x (segments_of gs) × (x.0 ≡ q)) ⊎ ((x : ℕ × Segment) → Member x (segments_of gs) → q ≢ x.0) → is_some (owned_at new.handles q) ≡ true → HasOwner new q
  owner_is q (inl r) some =
      let g : (g : Given) × Member g gs × Member r.0 (zip g.slots g.found.read.tables.segments) = M.segment_given gs r.0 r.1 in
      let i : (i : ℕ) × (slice_get (zip g.0.slots g.0.found.read.tables.segments) i ≡ Some r.0) = member_place (zip g.0.slots g.0.found.read.tables.segments) r.0 g.2 in
      let at : slice_get g.0.slots i.0 ≡ Some r.0.0 = (M.zip_place g.0.slots g.0.found.read.tables.segments i.0 r.0 i.1).0 in (
        g.0.handle,
        i.0 + 1,
        module_of g.0,
        inl (record {
          loaded = ap C.module_in (put_here module_of 0 closure.found choice.handles choice.slots old.modules handles_differ g.0 g.1);
          has = (omega arith, ap (slice_get g.0.slots) (back i.0) ∙ at ∙ ap Some r.2);
        }),
      )
    where
      back : (n : ℕ) → n + 1 - 1 ≡ n
      back n = omega arith
  owner_is q (inr out) some = owner_stays old is new (λ a m e. (m, module_still a m e, same_module m)) (λ k l e. (l.loads, same_load k ∙ e)) q (sym (ap is_some (same_owned old (segments_of gs) q out)) ∙ some)

  pub loaded_world : C.IsLoadingWorld new
  loaded_world = extends IsNew (λ _ _. ⊥) old new is (record {
    handles = filled_handles;
    numbers = numbers;
    names = names;
    sources = λ a m e. elim (which a m e) [ inl r ↦ inr r | inr f ↦ inl (m, f, same_module m) ];
    used = λ a m before e at. elim (which a m e) [ inl r ↦ absurd (was_new r.0 r.1 a before r.2 at) | inr f ↦ (old_used a m f, (is_used old is a m f).1) ];
    loads = λ q l e. let was : finmap.get old.loads q ≡ Some l = sym (same_load q) ∙ e in inl (l.loads, was, (is_load old is q l was).0, (is_load old is q l was).1);
    still = λ q l before at e. (before, module_still l.handle before e, same_module before);
    of_segments = λ a m q kind size code e k h. kept q kind size code h;
    of_loads = λ q l kind size code e h. kept q kind size code h;
    owners = λ q some. owner_is q (is_given q (segments_of gs)) some;
    new_module = λ a m r. subst (λ (x : Module). IsModule new a x) (sym r.3) (subst (λ k. IsModule new k (module_of r.0)) r.2 (new_module r.0 r.1));
    new_slots = λ a m q r k. let i : (i : ℕ) × (slice_get r.0.slots i ≡ Some q) = member_place r.0.slots q (subst (λ (x : Module). Member q x.slots) r.3 k) in slot_free q i.0 r.0 r.1 i.1;
    one_new = one_new;
    new_load = λ q l x. absurd x;
    new_place = λ s t l other x e g. absurd x;
    apart = λ a q m l x y. y;
  })
    where
      -- a new module's handle named no module
      was_new : (g : Given) → Member g gs → (a : ℕ) (before : Module) → g.handle ≡ a → module_at old.modules a ≡ Some before → ⊥
      was_new g m a before e at = is_new g m (Loaded before) (ap (finmap.get old.modules) e ∙ loaded_is (finmap.get old.modules a) before at)
