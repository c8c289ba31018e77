-- A module more: its objects get their bytes, and leave the others without, or one of them ends all.
use Rattle.w16_loader.proofs
use proofs.Fillings as M
use proofs.Common.{◌≡◌, ℕ, ◌<◌, ◌≤◌, length, get_or, slice_get, Some, refl, ◌∙◌, sym, arith, subst, gives_over, IsItsFiles, IsSaid, IsReadAs}
use proofs.Fillings.{Named, here, its_at}
use proofs.Givings.{turn_since}
use Rattle.w16_loader.proofs.filling.fill_modules.Goals as goal

pub loop-place-init : goal.loop-place-init
loop-place-init g c = record {
  files = refl;
  failures = omega arith;
  rest = refl;
  given = λ reads after le are its empty. M.reached_first _ _ _ _ reads empty;
}

pub loop-place-preserved : goal.loop-place-preserved
loop-place-preserved g c =
    let inside : c.loop-place.place < length c.args.handles.now = omega arith in
    record {
      files = c.in-Ok.ensures.stays.same ∙ c.loop-place.invariant.files;
      failures = omega (arith, c.in-Ok.ensures.stays.counted, c.loop-place.invariant.failures);
      rest = M.rest_then c.args.global.now.handles c.loop-place.global.handles _ c.loop-place.invariant.rest c.in-Ok.ensures.rest;
      given = λ reads after le are its empty.
          let h = get_or c.args.handles.now c.loop-place.place 0 in
          let at = here _ _ inside in
          let n = M.named_at _ _ _ reads are _ inside in
          let gives = gives_over _ _ after in
          let reached = c.loop-place.invariant.given reads after (omega (arith, c.in-Ok.ensures.stays.counted, le)) are its empty in
          let still : g.S.Store.is_honest → IsSaid (g.S.Store.files c.loop-place.store) n.m n.read × IsItsFiles n.m n.read =
          λ honest. (
            subst (λ files. IsSaid files n.m n.read) (sym c.loop-place.invariant.files) (its_at _ _ _ reads (its honest).0 _ h at n),
            its_at _ _ _ reads (its honest).1 _ h at n,
          ) in
          M.module_goes gives _ _ _ _ _ reads _ h n.read n.m at n.read_at n.found reached
          (λ slot s all is. c.in-Ok.ensures.kept n.m slot s n.found all is)
          (turn_since _ _ (g.S.Store.failures _) _ after c.loop-place.invariant.failures le _ _ _ _
          (c.in-Ok.ensures.given n.m n.read _ n.found (its_at _ _ _ reads are _ h at n) still
          (M.module_unfilled gives _ _ _ c.fill_module.new.global.handles _ reads _ h n.read n.m at n.read_at n.found reached)));
    }

pub returns-in-Err-clause-rest : goal.returns-in-Err-clause-rest
returns-in-Err-clause-rest g c = M.rest_then c.args.global.now.handles c.loop-place.global.handles _ c.loop-place.invariant.rest c.in-Err.ensures.rest

pub returns-in-Err-clause-given : goal.returns-in-Err-clause-given
returns-in-Err-clause-given g c = λ reads are its empty.
    let inside : c.loop-place.place < length c.args.handles.now = omega arith in
    let h = get_or c.args.handles.now c.loop-place.place 0 in
    let at = here _ _ inside in
    let n = M.named_at _ _ _ reads are _ inside in
    let gives = gives_over _ _ _ in
    let reached = c.loop-place.invariant.given reads _ c.in-Err.ensures.stays.counted are its empty in
    let still : g.S.Store.is_honest → IsSaid (g.S.Store.files c.loop-place.store) n.m n.read × IsItsFiles n.m n.read =
    λ honest. (
      subst (λ files. IsSaid files n.m n.read) (sym c.loop-place.invariant.files) (its_at _ _ _ reads (its honest).0 _ h at n),
      its_at _ _ _ reads (its honest).1 _ h at n,
    ) in
    M.module_ends gives _ _ _ c.fill_module.new.global.handles _ reads _ h n.read n.m at n.read_at n.found reached
    (record { place = c.loop-place.place; fault = c.in-Err.fault })
    (turn_since _ _ (g.S.Store.failures _) (g.S.Store.failures _) _ c.loop-place.invariant.failures (omega arith) _ _ _ _
    (c.in-Err.ensures.given n.m n.read _ n.found (its_at _ _ _ reads are _ h at n) still
    (M.module_unfilled gives _ _ _ c.fill_module.new.global.handles _ reads _ h n.read n.m at n.read_at n.found reached)))

pub returns-clause-given : goal.returns-clause-given
returns-clause-given g c = λ reads are its empty.
    let all : length c.args.handles.now ≤ c.loop-place.place = omega arith in
    M.reached_last _ _ c.args.global.now.handles c.loop-place.global.handles _ reads _ all
    (c.loop-place.invariant.given reads _ (omega arith) are its empty)
