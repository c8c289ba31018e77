use Rattle.std.specs.Result.{is_ok}
use Rattle.w16_global.proofs.Common.{◌≡◌, Result, OnOk, Ok, Err, true, false≢true, sym, arith}
use Rattle.w16_global.proofs.Resizing as M
use Rattle.w16_global.proofs.global.Global16.change_at.Goals as goal

where_ok : {X E P : Type 0} (r : Result X E) → OnOk r P → true ≡ is_ok r → P
where_ok (Ok x) says e = says
where_ok (Err e) says f = absurd (false≢true (sym f))

pub returns-then-is_owned : goal.returns-then-is_owned
returns-then-is_owned g c = M.owned_changes _ c.reveal_handles.ensures _ _ _ c.requires (sym c.if-is_owned.ensures)

pub returns-then-intersects : goal.returns-then-intersects
returns-then-intersects g c = M.modified_changes _ c.reveal_handles.ensures _ _ _ c.requires (sym c.if-is_owned.ensures) c.kind_modified.result c.kind_modified.ensures (sym (c.if-intersects.ensures tt)) _ c.modify.ensures

pub returns-then-is_ok : goal.returns-then-is_ok
returns-then-is_ok g c =
    let done = where_ok c.discard.result c.discard.ensures.ok c.if-is_ok.ensures.value in
    M.emptied_changes _ c.reveal_handles.ensures _ _ _ c.requires (sym c.if-is_owned.ensures) (sym (c.if-intersects.ensures tt)) c.if-size-eq0.true (sym (c.if-intersects-2.ensures tt)) _ done.0 done.1

pub returns : goal.returns
returns g c =
    let s = c.reallocate.ensures in
    M.resized_changes _ c.reveal_handles.ensures _ _ _ c.requires (sym c.if-is_owned.ensures) (sym (c.if-intersects.ensures tt)) c.if-size-eq0.false (omega (arith, c.if-size-gt-LARGEST_SIZE.false))
    c.rounded.result c.rounded.ensures c.realloc_options.result c.realloc_options.ensures _ _ s.gets s.resized s.written s.refused s.lacks
