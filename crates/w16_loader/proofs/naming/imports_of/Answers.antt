-- A reference more is followed.
use Rattle.w16_loader.proofs.Common.{◌≡◌, ◌<◌, ◌≤◌, [], length, map, subst, ◌∙◌, arith, slice_index_or, take_all, pair_of, imports_among}
use Rattle.w16_loader.proofs.Imports.{import_more}
use Rattle.w16_loader.proofs.naming.imports_of.Goals as goal

pub loop-reference-init : goal.loop-reference-init
loop-reference-init g c = record { many = c.in_ok-made.ensures.many; imports = λ place lt. c.in_ok-made.ensures.empty place }

pub loop-reference-preserved : goal.loop-reference-preserved
loop-reference-preserved g c =
    let inside : c.loop-reference.reference-index < length c.args.bound.now = omega arith in
    record {
      many = c.in_ok-push_at.ensures.many ∙ c.loop-reference.invariant.many;
      imports = λ place lt. import_more c.args.handles.now place c.args.bound.now c.loop-reference.reference-index _ (λ q. slice_index_or (map (λ v. v.items) c.loop-reference.made.items) q []) (λ q. slice_index_or (map (λ v. v.items) c.push_at.new.lists.items) q [])
          (length _) c.handle_meant-handle.result inside (omega (arith, lt, c.loop-reference.invariant.many)) c.handle_meant-handle.ensures c.in_ok-push_at.ensures.here c.in_ok-push_at.ensures.others (c.loop-reference.invariant.imports place lt);
    }

pub returns-clause-imports : goal.returns-clause-imports
returns-clause-imports g c = λ place lt.
    let all : length c.args.bound.now ≤ c.loop-reference.reference-index = omega arith in
    subst (λ xs. slice_index_or (map (λ v. v.items) c.loop-reference.made.items) place [] ≡ imports_among c.args.handles.now (map pair_of xs) place) (take_all _ _ all) (c.loop-reference.invariant.imports place lt)
