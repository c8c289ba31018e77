-- A handle more is looked at, and those that are free are as many as the table has free places.
use Rattle.w16_loader.proofs
use proofs.Common.{◌≡◌, ◌+◌, ◌<◌, ◌≤◌, ◌++◌, ◌∷◌, [], length, take, true, false, sym, ap, ◌∙◌, arith, FIRST_MODULE, MOST_MODULES, named_of}
use proofs.FreeHandles.{is_free, free_from, handle_more, handle_taken, enough, all_through, as_many, tested}
use proofs.registry.Registry.free_handles.Goals.{then-len-count+then-is_none+in_ok-push, else-len-count, else-len-count-via-then-len-count+else-is_none, else-len-count-via-else-len-count}
use Rattle.std.proofs.Common.{length-append}
use Rattle.std.specs.FinMap as finmap
use Rattle.w16_loader.proofs.registry.Registry.free_handles.Goals as goal

pub loop-handle-preserved : goal.loop-handle-preserved
loop-handle-preserved g c =
    let modules = c.args.self.now in
    let h = c.loop-handle.handle in
    let lt : c.loop-handle.handle < FIRST_MODULE + MOST_MODULES = omega arith in
    elim c.if-len-count.branch [
      | then-len-count+then-is_none+in_ok-push w ↦
          let more = ap (λ v. v.items) w.handles-is ∙ w.in_ok-push.ensures.items in
          let free = tested w.get.result (λ e. named_of e.now) (finmap.get modules h) w.is_none.result true w.get.ensures w.is_none.ensures w.if-is_none.true in
          record {
            lowest = ap (λ xs. take c.args.count (xs ++ free_from modules (h + 1))) more ∙ handle_more modules c.args.count h c.loop-handle.handles.items lt free ∙ c.loop-handle.invariant.lowest;
            few = omega (arith, ap length more, length-append c.loop-handle.handles.items (c.loop-handle.handle ∷ []), w.if-len-count.true, c.len.ensures);
          }
      | else-len-count w ↦ elim w.else-len-count.branch [
        | else-len-count-via-then-len-count+else-is_none w' ↦
            let free = tested w'.get.result (λ e. named_of e.now) (finmap.get modules h) w'.is_none.result false w'.get.ensures w'.is_none.ensures w'.if-is_none.false in
            record {
              lowest = ap (λ v. take c.args.count (v.items ++ free_from modules (h + 1))) w.handles-is ∙ handle_taken modules c.args.count h c.loop-handle.handles.items lt free ∙ c.loop-handle.invariant.lowest;
              few = omega (arith, ap (λ v. length v.items) w.handles-is, c.loop-handle.invariant.few);
            }
        | else-len-count-via-else-len-count w' ↦
            let full : c.args.count ≤ length c.loop-handle.handles.items = omega (arith, w'.if-len-count.false, c.len.ensures) in
            record {
              lowest = ap (λ v. take c.args.count (v.items ++ free_from modules (h + 1))) w.handles-is ∙ enough c.args.count c.loop-handle.handles.items (free_from modules (h + 1)) (free_from modules h) full ∙ c.loop-handle.invariant.lowest;
              few = omega (arith, ap (λ v. length v.items) w.handles-is, c.loop-handle.invariant.few);
            }
      ]
    ]

pub returns-clause-lowest : goal.returns-clause-lowest
returns-clause-lowest g c =
    let past : FIRST_MODULE + MOST_MODULES ≤ c.loop-handle.handle = omega arith in
    sym (all_through _ _ _ _ past c.loop-handle.invariant.few) ∙ c.loop-handle.invariant.lowest

pub returns-clause-many : goal.returns-clause-many
returns-clause-many g c =
    let past : FIRST_MODULE + MOST_MODULES ≤ c.loop-handle.handle = omega arith in
    as_many _ c.self.inside.entries _ _ c.self.view_is c.self.invariant.0
    (sym (all_through _ _ _ _ past c.loop-handle.invariant.few) ∙ c.loop-handle.invariant.lowest)

pub loop-handle-init : goal.loop-handle-init
loop-handle-init g c = record {
  lowest = ap (λ xs. take c.args.count (xs ++ free_from c.args.self.now FIRST_MODULE)) c.in_ok-handles.ensures.items;
  few = omega (arith, ap length c.in_ok-handles.ensures.items);
}
