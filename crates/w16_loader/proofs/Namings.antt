-- New modules that get names, one after another.
use Rattle.w16_loader.proofs
use proofs.Common as C
use proofs.Takings as M
use proofs.Common.{◌≡◌, ◌≢◌, ℕ, zero, suc, ◌+◌, ◌<◌, ◌≤◌, inl, inr, List, [], ◌∷◌, ◌++◌, length, map, fold, flat_map, zip, take, Some, All, refl, sym, ap, ◌∙◌, subst, arith, sum_by-cons, IsFreeSlot, EachPair, Segment, LoadingWorld, Module, Modules, Loaded, Given, given_from, segments_in}
use proofs.Common.{segments_of, unbound, with_modules, with_segment, free_slots, undone_law, Takes, GetNames, unbound_by, IsFit}
use proofs.{Takings.takes_fold, Undoing.AreMany, Undoing.undone_by_release}
use Rattle.std.proofs.Common.{length-append}
use Rattle.std.specs.List.{AllByRecursion as Each}
use Rattle.w16_loading.specs.Closure.{Found}
use Rattle.std.specs.FinMap as finmap

-- One module more at the end.

given_more : (place : ℕ) (fs : List Found) (hs : List ℕ) (ss : List (List ℕ)) (at : ℕ) (f : Found) (h : ℕ) (s : List ℕ) → length hs ≡ length fs → AreMany fs ss → at ≡ place + length fs
    → given_from place (fs ++ f ∷ []) (hs ++ h ∷ []) (ss ++ s ∷ []) ≡ given_from place fs hs ss ++ record { place = at; found = f; handle = h; slots = s } ∷ []
given_more place [] [] [] at f h s same many is = let e : place ≡ at = omega (arith, is) in (λ i. record { place = e i; found = f; handle = h; slots = s } ∷ [])
given_more place [] [] (t ∷ ss) at f h s same many is = absurd many
given_more place [] (k ∷ hs) ss at f h s same many is = absurd (omega (arith, same))
given_more place (g ∷ fs) [] ss at f h s same many is = absurd (omega (arith, same))
given_more place (g ∷ fs) (k ∷ hs) [] at f h s same many is = absurd many
given_more place (g ∷ fs) (k ∷ hs) (t ∷ ss) at f h s same many is =
    ap (λ r. record { place = place; found = g; handle = k; slots = t } ∷ r) (given_more (place + 1) fs hs ss at f h s (omega (arith, same)) many.1 (omega (arith, is)))

segments_more : (gs : List Given) (g : Given) → segments_of (gs ++ g ∷ []) ≡ segments_of gs ++ zip g.slots g.found.read.tables.segments
segments_more [] g = C.append-nil _
segments_more (x ∷ gs) g =
    ap (λ r. zip x.slots x.found.read.tables.segments ++ r) (segments_more gs g)
    ∙ sym (C.append_assoc (zip x.slots _) (segments_of gs) (zip g.slots _))

modules_more : (module_of : Given → Module) (gs : List Given) (g : Given) (old : Modules) → with_modules module_of (gs ++ g ∷ []) old ≡ finmap.insert (with_modules module_of gs old) g.handle (Loaded (module_of g))
modules_more module_of [] g old = refl
modules_more module_of (x ∷ gs) g old = modules_more _ gs g _

many_more : (fs : List Found) (ss : List (List ℕ)) (f : Found) (s : List ℕ) → AreMany fs ss → length s ≡ length f.read.tables.segments → AreMany (fs ++ f ∷ []) (ss ++ s ∷ [])
many_more [] [] f s many long = (long, tt)
many_more [] (t ∷ ss) f s many long = absurd many
many_more (g ∷ fs) [] f s many long = absurd many
many_more (g ∷ fs) (t ∷ ss) f s many long = (many.0, many_more fs ss f s many.1 long)

module _ (imports : ℕ → List ℕ) where
  abbrev module_of : Given → Module
  module_of = unbound_by imports

  pub one_more : (old now next : LoadingWorld) (fs : List Found) (hs : List ℕ) (place : ℕ) (f : Found) (h : ℕ) (s : List ℕ) → length hs ≡ length fs → place ≡ length fs → GetNames old module_of fs hs now
      → C.GetsName now h (module_of (record { place = place; found = f; handle = h; slots = s })) next → GetNames old module_of (fs ++ f ∷ []) (hs ++ h ∷ []) next
  one_more old now next fs hs place f h s same at names one = record {
    slots = names.slots ++ s ∷ [];
    many = many_more fs names.slots f s names.many one.many;
    fit = C.All-push (λ (x : Found). All IsFit x.read.tables.segments) fs f names.fit one.fit;
    taken = subst (λ (xs : List (ℕ × Segment)). Takes old xs (record next { modules = old.modules })) (sym segments)
        (M.takes_then (segments_of gs) (zip s f.read.tables.segments) old (record now { modules = old.modules }) (record next { modules = old.modules }) names.taken
        (M.takes_beside old.modules (zip s f.read.tables.segments) now (record next { modules = now.modules }) one.taken));
    named = one.named ∙ ap (λ (m : Modules). finmap.insert m h (Loaded (module_of g))) names.named ∙ sym (modules_more module_of gs g old.modules) ∙ ap (λ xs. with_modules module_of xs old.modules) (sym more);
  }
    where
      g : Given
      g = record { place = place; found = f; handle = h; slots = s }

      gs : List Given
      gs = given_from 0 fs hs names.slots

      more : given_from 0 (fs ++ f ∷ []) (hs ++ h ∷ []) (names.slots ++ s ∷ []) ≡ gs ++ g ∷ []
      more = given_more 0 fs hs names.slots place f h s same names.many (omega (arith, at))

      segments : segments_of (given_from 0 (fs ++ f ∷ []) (hs ++ h ∷ []) (names.slots ++ s ∷ [])) ≡ segments_of gs ++ zip s f.read.tables.segments
      segments = ap segments_of more ∙ segments_more gs g

-- The slots of all.

slots_are : (place : ℕ) (fs : List Found) (hs : List ℕ) (ss : List (List ℕ)) → length hs ≡ length fs → AreMany fs ss → map (λ x. x.0) (segments_of (given_from place fs hs ss)) ≡ flat_map (λ s. s) ss
slots_are place [] hs [] same many = refl
slots_are place [] hs (s ∷ ss) same many = absurd many
slots_are place (f ∷ fs) [] ss same many = absurd (omega (arith, same))
slots_are place (f ∷ fs) (h ∷ hs) [] same many = absurd many
slots_are place (f ∷ fs) (h ∷ hs) (s ∷ ss) same many =
    C.map-append (λ x. x.0) _ _
    ∙ (λ i. M.firsts s f.read.tables.segments (let e = many.0 in omega (arith, e)) i ++ slots_are (place + 1) fs hs ss (omega (arith, same)) many.1 i)

pairs_first : (R : ℕ → ℕ → Type 0) (xs : List (ℕ × Segment)) → EachPair (λ x y. R x.0 y.0) xs → EachPair R (map (λ x. x.0) xs)
pairs_first R [] h = tt
pairs_first R (x ∷ xs) h = (M.each_first (R x.0) xs h.0, pairs_first R xs h.1)

segments_are : (place : ℕ) (fs : List Found) (hs : List ℕ) (ss : List (List ℕ)) → length hs ≡ length fs → AreMany fs ss → length (segments_of (given_from place fs hs ss)) ≡ segments_in fs
segments_are place [] hs [] same many = refl
segments_are place [] hs (s ∷ ss) same many = absurd many
segments_are place (f ∷ fs) [] ss same many = absurd (omega (arith, same))
segments_are place (f ∷ fs) (h ∷ hs) [] same many = absurd many
segments_are place (f ∷ fs) (h ∷ hs) (s ∷ ss) same many =
    let long = many.0 in
    let first = M.zip_long s f.read.tables.segments (omega (arith, long)) in
    let rest = segments_are (place + 1) fs hs ss (omega (arith, same)) many.1 in
    let both = length-append (zip s f.read.tables.segments) (segments_of (given_from _ fs hs ss)) in
    let all = sum_by-cons (λ g. length g.read.tables.segments) f fs in
    both ∙ omega (arith, long, first, rest) ∙ sym all

-- the segments of the modules before a place, and of the one there, are no more than all
pub segments_before : (fs : List Found) (k : ℕ) (f : Found) → C.slice_get fs k ≡ Some f → segments_in (take k fs) + length f.read.tables.segments ≤ segments_in fs
segments_before [] k f e = cc
segments_before (g ∷ fs) zero f e =
    let same : g ≡ f = cc in
    let many = ap (λ x. length x.read.tables.segments) same in
    let all = sum_by-cons (λ x. length x.read.tables.segments) g fs in
    omega (arith, many, all)
segments_before (g ∷ fs) (suc k) f e =
    let rest = segments_before fs k f e in
    let all = sum_by-cons (λ x. length x.read.tables.segments) g fs in
    let some = sum_by-cons (λ x. length x.read.tables.segments) g (take k fs) in
    omega (arith, rest, all, some)

-- Modules that have names.
module _ (old : LoadingWorld) (module_of : Given → Module) (fs : List Found) (hs : List ℕ) (now : LoadingWorld) (same : length hs ≡ length fs) (names : GetNames old module_of fs hs now) where
  abbrev gs : List Given
  gs = given_from 0 fs hs names.slots

  abbrev choice : C.Choice
  choice = record { handles = hs; slots = names.slots }

  are_slots : C.AreSlots old fs names.slots
  are_slots = record {
    many = names.many;
    free = C.All-from_Each (IsFreeSlot old.handles) (flat_map (λ s. s) names.slots) (subst (Each (IsFreeSlot old.handles)) (slots_are 0 fs hs names.slots same names.many)
        (M.each_first (IsFreeSlot old.handles) (segments_of gs) (M.slots_free (segments_of gs) old (record now { modules = old.modules }) names.taken)));
    apart = C.AllPairs-from_EachPair (λ (a b : ℕ). a ≢ b) (flat_map (λ s. s) names.slots) (subst (EachPair (λ (a b : ℕ). a ≢ b)) (slots_are 0 fs hs names.slots same names.many)
        (pairs_first (λ (a b : ℕ). a ≢ b) (segments_of gs) (M.slots_apart (segments_of gs) old (record now { modules = old.modules }) names.taken)));
  }

  pub slots_left : length (free_slots old.handles) ≡ length (free_slots now.handles) + segments_in fs
  slots_left =
      let fewer : length (free_slots old.handles) ≡ length (free_slots now.handles) + length (segments_of gs) = M.fewer_slots (segments_of gs) old (record now { modules = old.modules }) names.taken in
      let many : length (segments_of gs) ≡ segments_in fs = segments_are 0 fs hs names.slots same names.many in
      omega (arith, fewer, many)

  all_named : now ≡ record (fold with_segment old (segments_of gs)) { modules = with_modules module_of gs old.modules }
  all_named = λ i. record (takes_fold (segments_of gs) old (record now { modules = old.modules }) names.taken i) { modules = names.named i }

  module _ (free : All (C.IsFreeModule old.modules) hs) (apart : C.AllPairs ◌≢◌ hs) where
    is_choice : C.IsChoice old fs choice
    is_choice = record { many = same; free = free; apart = apart; slots = are_slots }

    -- they are released, and nothing is left
    pub names_back : C.AreHandles old.handles → ((g : Given) → (module_of g).slots ≡ g.slots) → fold C.without_module now hs ≡ old
    names_back is owns =
        ap (λ (w : LoadingWorld). fold C.without_module w hs) all_named
        ∙ undone_by_release old (record { found = fs; pending = []; bound = [] }) choice module_of (fold with_segment old (segments_of gs)).handles.heap is is_choice owns
        ∙ undone_law old (record { found = fs; pending = []; bound = [] }) choice is is_choice

modules_same : (f g : Given → Module) (xs : List Given) (old : Modules) → ((x : Given) → C.Member x xs → f x ≡ g x) → with_modules f xs old ≡ with_modules g xs old
modules_same f g [] old same = refl
modules_same f g (x ∷ xs) old same =
    ap (λ m. with_modules f xs (finmap.insert old x.handle (Loaded m))) (same x (inl refl))
    ∙ modules_same f g xs _ (λ y m. same y (inr m))

-- So a closure's modules have names, and none is bound yet.
pub unbound_named : (old now : LoadingWorld) (closure : C.Closure) (hs : List ℕ) (imports : ℕ → List ℕ) → length hs ≡ length closure.found → All (C.IsFreeModule old.modules) hs → C.AllPairs ◌≢◌ hs
    → ((place : ℕ) → place < length closure.found → imports place ≡ C.imports_among hs closure.bound place) → GetNames old (unbound_by imports) closure.found hs now → C.IsUnbound old closure hs now
unbound_named old now closure hs imports same free apart means names = record {
  choice = chosen;
  is_choice = is_choice old _ _ hs now same names free apart;
  handles = refl;
  fit = names.fit;
  after = all_named old _ _ hs now same names
      ∙ ap (λ m. record (fold with_segment old (segments_of gs)) { modules = m }) (modules_same _ _ gs _ alike);
}
  where
    chosen : C.Choice
    chosen = record { handles = hs; slots = names.slots }

    gs : List Given
    gs = given_from 0 closure.found hs names.slots

    alike : (g : Given) → C.Member g gs → unbound_by imports g ≡ unbound closure chosen g
    alike g m =
        let r = C.given_index 0 _ hs _ g m in
        let e = r.1 in
        let lt = r.2 in
        (λ i. record (unbound closure chosen g) { imports = means g.place (omega (arith, e, lt)) i })
