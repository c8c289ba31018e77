-- A module more has its name, or those before it lose theirs.
use Rattle.w16_loader.proofs
use proofs.Common as C
use proofs.NameSteps as M
use proofs.Common.{◌≡◌, ◌+◌, ◌<◌, if◌then◌else◌, Bool, true, false, [], ◌∷◌, ◌++◌, Some, length, get_or, map, fold, take, refl, sym, ap, ◌∙◌, subst, arith, rules, YieldsList-from_vec, YieldsList-from_enumerate, YieldsList-turn, with_handles, in_world, unbound_by}
use proofs.{Imports.pushed_other, NameSteps.some_world, NameSteps.at_turn}
use Rattle.w16_loader.proofs.naming.name_all.Goals.{In-Some}
use Rattle.w16_loader.proofs.naming.name_all.Goals as goal

counts : (b : Bool) → C.from_bool b ≡ (if b then 1 else 0)
counts true = refl
counts false = refl

-- the module of this turn
at_place : (g : _) (c : In-Some g) → (length c.loop-place.yielded < length c.args.found.items) × (c.in-Some.place ≡ length c.loop-place.yielded) × (C.slice_get c.args.found.items (length c.loop-place.yielded) ≡ Some c.in-Some.found)
at_place g c =
    let t = YieldsList-turn (YieldsList-from_enumerate {s = c.into_iter-place-iterator.result} (YieldsList-from_vec _ (first_of (cc, search rules)) (first_of (cc, search rules))) (first_of (cc, search rules)))
    c.loop-place.yielded c.loop-place.place-iterator c.loop-place.yielded_by c.next.result c.next.new.self (c.in-Some.place, c.in-Some.found) c.in-Some.is c.next.ensures.steps in
    at_turn c.args.found.items (length c.loop-place.yielded) c.in-Some.place c.in-Some.found t.0 t.1

pub name_module-requires-clause-free : goal.name_module-requires-clause-free
name_module-requires-clause-free g c =
    let at = at_place g (goal.at.name_module-requires-clause-free g c).In-Some in
    let lt = at.0 in
    let place = at.1 in
    subst (λ k. C.IsFreeModule c.loop-place.registry (get_or c.args.handles.now k 0)) (sym place)
    (M.next_free (in_world (with_handles some_world _) _) (in_world (with_handles some_world _) _) _ _ c.args.handles.now (length _)
    (omega (arith, lt, c.requires.handles)) c.requires.free c.requires.apart (c.loop-place.invariant.named some_world (map _ _) (M.as_found _)))

pub loop-place-preserved : goal.loop-place-preserved
loop-place-preserved g c =
    let at = at_place g (goal.at.loop-place-preserved g c).In-Some in
    let lt = at.0 in
    let place = at.1 in
    let here = ap (C.slice_get _) place ∙ at.2 in
    let more : c.in-Some.place + 1 ≡ length (c.loop-place.yielded ++ (c.in-Some.place, c.in-Some.found) ∷ []) = omega (arith, place, C.length_push c.loop-place.yielded (c.in-Some.place, c.in-Some.found)) in
    let room : c.in-Some.place < length c.loop-place.imports.items = omega (arith, place, lt, c.loop-place.invariant.many, c.requires.imports) in
    record {
      named = λ rest meant all.
          let m = M.facing c.args.found.items meant c.in-Some.place c.in-Some.found all here in
          let before = subst (λ k. C.GetNames (in_world (with_handles rest c.args.global.now.handles) c.args.registry.now) (unbound_by (λ p. get_or (map (λ v. v.items) c.args.imports.now.items) p [])) (take k meant) (take k c.args.handles.now)
          (in_world (with_handles rest c.loop-place.global.handles) c.loop-place.registry)) (sym place) (c.loop-place.invariant.named rest meant all) in
          subst (λ k. C.GetNames (in_world (with_handles rest c.args.global.now.handles) c.args.registry.now) (unbound_by (λ p. get_or (map (λ v. v.items) c.args.imports.now.items) p [])) (take k meant) (take k c.args.handles.now)
          (in_world (with_handles rest c.name_module.new.global.handles) c.name_module.new.registry)) more
          (M.next_named (λ p. get_or (map (λ v. v.items) c.args.imports.now.items) p []) c.in-Some.place c.in-Some.found (get_or c.args.handles.now c.in-Some.place 0) c.from-uses.result c.replace-imports.result.items m.0 m.2
          (c.from-uses.ensures ∙ counts _)
          (ap (λ v. v.items) (c.replace-imports.ensures.value ∙ c.index_mut.ensures.value) ∙ sym (C.get_or-map (λ v. v.items) c.loop-place.imports.items c.in-Some.place c.index_mut.result.now [] room)
          ∙ c.loop-place.invariant.imports c.in-Some.place (omega (arith, place)))
          (in_world (with_handles rest _) _) (in_world (with_handles rest _) _)
          (in_world (with_handles rest _) _) c.args.found.items meant c.args.handles.now all c.requires.handles (omega (arith, place, lt)) m.1 refl before (c.in-Ok.ensures.named rest));
      imports = λ p le. pushed_other (λ v. v.items) c.loop-place.imports.items c.in-Some.place c.replace-imports.new.dest p (λ e. absurd (omega (arith, le, e, more))) ∙ c.loop-place.invariant.imports p (omega (arith, le, more, place));
      many = C.length-set c.loop-place.imports.items c.in-Some.place c.replace-imports.new.dest ∙ c.loop-place.invariant.many;
      written = c.name_module.ensures.written ∙ c.loop-place.invariant.written;
    }

pub slice_bounds-release_modules-end : goal.slice_bounds-release_modules-end
slice_bounds-release_modules-end g c =
    let at = at_place g (goal.at.slice_bounds-release_modules-end g c).In-Some in
    let lt = at.0 in
    let place = at.1 in
    sym (C.length-take-le _ _ (omega (arith, lt, place, c.requires.handles)))

pub returns-in-Err-clause-same : goal.returns-in-Err-clause-same
returns-in-Err-clause-same g c =
    let at = at_place g (goal.at.returns-in-Err-clause-same g c).In-Some in
    let back = M.all_go_back c.args.global.now.handles c.loop-place.global.handles c.release_modules.new.global.handles c.args.registry.now c.loop-place.registry c.release_modules.new.registry
    (unbound_by (λ p. get_or (map (λ v. v.items) c.args.imports.now.items) p [])) c.args.found.items c.args.handles.now (length c.loop-place.yielded) c.reveal_handles.ensures (λ g. refl) c.requires.handles at.0 c.requires.free c.requires.apart
    c.loop-place.invariant.named
    (λ rest. c.release_modules.ensures.gone rest ∙ (λ i. fold C.without_module (in_world (with_handles rest ((c.in-Err.ensures.same.1 i).handles)) (c.in-Err.ensures.same.0 i)) (take (at.1 i) c.args.handles.now))) in
    (back.0, M.same_global c.release_modules.new.global c.args.global.now back.1 (c.release_modules.ensures.written ∙ c.name_module.ensures.written ∙ c.loop-place.invariant.written))

pub returns-in-Err-clause-fault : goal.returns-in-Err-clause-fault
returns-in-Err-clause-fault g c = λ meant all.
    let at = at_place g (goal.at.returns-in-Err-clause-fault g c).In-Some in
    M.naming_fault c.in-Err.fault _ _ (λ f. C.IsNamingFault f c.args.global.now.handles (C.segments_in meant)) c.in-Err.ensures.fault (λ few. M.too_few_slots c.args.global.now.handles c.loop-place.global.handles c.args.registry.now c.loop-place.registry
    (unbound_by (λ p. get_or (map (λ v. v.items) c.args.imports.now.items) p [])) c.args.found.items meant c.args.handles.now
    _ _ at.2 all c.requires.handles at.0 (c.loop-place.invariant.named some_world meant all) few) tt

pub returns-clause-named : goal.returns-clause-named
returns-clause-named g c = λ rest meant all.
    let end = C.YieldsList-end (YieldsList-from_enumerate {s = c.into_iter-place-iterator.result} (YieldsList-from_vec c.args.found.items (first_of (cc, search rules)) (first_of (cc, search rules))) (first_of (cc, search rules)))
    c.loop-place.yielded c.loop-place.place-iterator c.loop-place.yielded_by c.next.result c.next.new.self c.in-None.is c.next.ensures.steps in
    let long = end.1 in
    M.all_are_named (in_world (with_handles rest c.args.global.now.handles) c.args.registry.now) (in_world (with_handles rest c.loop-place.global.handles) c.loop-place.registry) _ c.args.found.items meant c.args.handles.now (length c.loop-place.yielded)
    all c.requires.handles (omega (arith, long, C.length-enumerate_from 0 c.args.found.items)) (c.loop-place.invariant.named rest meant all)

pub bounds-handles-place : goal.bounds-handles-place
bounds-handles-place g c =
    let at = at_place g (goal.at.bounds-handles-place g c).In-Some in
    omega (arith, at.0, at.1, c.requires.handles)
