use Rattle.w16_global.proofs.{Common.refl, Common.sym, Resizing.called}
use Rattle.w16_global.proofs.global.Global16.change_object.Goals as goal

pub returns-in-Some-change_at : goal.returns-in-Some-change_at
returns-in-Some-change_at g c =
    let told = called c.args.self.now _ c.in-Some.slot _ _ _ c.in-Some-change_at.ensures _ (sym c.in-Some.ensures) _ (λ i. record (c.self-2.view_is i) { handles = record (c.self-2.view_is i).handles { moved = c.in-Some-change_at.resized.moved } }) _ c.handle_at.ensures in
    record { step = told.0; written = told.1 }

pub returns-in-None : goal.returns-in-None
returns-in-None g c =
    let told = called c.args.self.now _ c.in-Some.slot _ _ _ c.in-None.ensures _ (sym c.in-Some.ensures) _ (λ i. record (c.self-2.view_is i) { handles = record (c.self-2.view_is i).handles { moved = 0 } }) 0 refl in
    record { step = told.0; written = told.1 }
