-- A resource that is loaded is fetched from where its module's file has it.
use Rattle.w16_resource.proofs.Common.{err_from_is_err_and, refl, ◌∙◌}
use Rattle.w16_loader.proofs.Fetches.{unread, full, filled}
use Rattle.w16_resource.proofs.{Given.written_resource, Stored.not_there, Stored.fetched}
use Rattle.w16_resource.proofs.parts.Loading.fetch_resource.Goals as goal

pub returns-in_default-clause-step : goal.returns-in_default-clause-step
returns-in_default-clause-step g c = rw (← c.self.view_is) (λ is lacks some. not_there is _ some (rw c.slot_of.ensures.value at c.in_default.ensures.none))

pub returns-in_err-read-clause-step : goal.returns-in_err-read-clause-step
returns-in_err-read-clause-step g c =
    let p = err_from_is_err_and c.from_residual.result c.from_residual.ensures.1 in
    rw (p.1, p.2, ← c.self.view_is) (λ is lacks some. fetched is _ (rw c.slot_of.ensures.value at c.in-Some.ensures.found) c.read.ensures.stays
    (unread _ _ _ _ _ _ c.in_err-read.field-0.0 c.in_err-read.ensures.faults c.in_err-read.ensures.device (λ s. c.in_err-read.ensures.exact s.file s.truly s.stored s.short s.inside)))

pub returns-in_err-read-clause-refused : goal.returns-in_err-read-clause-refused
returns-in_err-read-clause-refused g c = let p = err_from_is_err_and c.from_residual.result c.from_residual.ensures.1 in rw (p.1, ← c.self.view_is) refl

pub returns-clause-step : goal.returns-clause-step
returns-clause-step g c = rw (← c.self.view_is) (λ is lacks some. fetched is _ (rw c.slot_of.ensures.value at c.in-Some.ensures.found) c.read.ensures.stays
    (filled _ _ _ _ _ _ c.reveal_handles.ensures.heap _
    (λ bytes are sized s. written_resource s c.bytes.result.now (c.bytes.ensures ∙ c.in_ok-read.ensures.exact s.file s.truly s.stored s.short s.inside) bytes are sized)
    c.give_bytes.new.global.handles (c.if-not-give_bytes.ensures.given refl)))

pub returns-then-not-give_bytes-clause-step : goal.returns-then-not-give_bytes-clause-step
returns-then-not-give_bytes-clause-step g c = rw (← c.self.view_is, c.if-not-give_bytes.ensures.refused refl) (λ is lacks some.
    fetched is _ (rw c.slot_of.ensures.value at c.in-Some.ensures.found) c.read.ensures.stays
    (full _ _ _ _ _ _ c.reveal_handles.ensures.heap lacks.owned lacks.without_bytes (c.if-not-give_bytes.ensures.lacks refl lacks)))
