-- The segment is read, and then its object given its bytes.
use Rattle.w16_loader.proofs.Common.{◌/◌, Some, ap, ◌∙◌, sym, subst, refl, err_from_is_err_and, NoRoom}
use Rattle.w16_loader.specs.Fetching.{GivesSegment}
use Rattle.w16_loader.proofs.Fetches.{unread, full, filled, relocated, written_image}
use Rattle.w16_loader.proofs.segment_fetch.fetch.Goals as goal

pub returns-in_err-read-clause-given : goal.returns-in_err-read-clause-given
returns-in_err-read-clause-given g c = λ lacks.
    let p = err_from_is_err_and c.from_residual.result c.from_residual.ensures.1 in
    rw (p.1, p.2) (unread _ _ _ _ _ _ c.in_err-read.field-0.0 c.in_err-read.ensures.faults c.in_err-read.ensures.device
    (λ s. c.in_err-read.ensures.exact s.file s.sound.segment s.sound.held s.truly s.stored s.sound.tables s.sound.there s.sound.passed s.sound.many))

pub returns-then-give_bytes-clause-given : goal.returns-then-give_bytes-clause-given
returns-then-give_bytes-clause-given g c = λ lacks. filled _ _ _ _ _ _ c.reveal_handles.ensures.heap _ (λ bytes are sized. (
  λ s there long. relocated _ _ _ _ bytes s.size are (rw (← c.bytes.ensures, ← c.records.ensures) at c.in_ok-read.ensures.sound)
      (rw (← c.bytes.ensures) at c.in_ok-read.ensures.room s there) long,
  λ s.
      let read = c.in_ok-read.ensures.exact s.file s.sound.segment _ s.truly s.stored s.sound.tables s.sound.there s.sound.passed s.sound.many in
      written_image _ _ _ _ s.sound c.args.global.now.handles (c.args.handle / 8) s.sized c.bytes.result.now c.records.result.now (c.bytes.ensures ∙ (λ i. (read i).bytes)) (c.records.ensures ∙ (λ i. (read i).records)) bytes are sized,
)) _ (c.if-give_bytes.ensures.given refl)

pub returns-else-give_bytes-clause-given : goal.returns-else-give_bytes-clause-given
returns-else-give_bytes-clause-given g c = λ lacks.
    subst (λ x. GivesSegment g.S.Store.is_honest (g.S.Store.files c.args.store.now) c.args.source.now.file.now c.args.source.now.module.now c.args.source.now.number c.args.source.now.values.now
    (g.S.Store.failures c.args.store.now) (g.S.Store.failures c.read.new.store) c.args.global.now.handles (c.args.handle / 8) (Some NoRoom) x.handles)
    (sym (c.if-give_bytes.ensures.refused refl)) (full _ _ _ _ _ _ c.reveal_handles.ensures.heap lacks.owned lacks.without_bytes (c.if-give_bytes.ensures.lacks refl lacks))

pub returns-in_err-read-clause-rest : goal.returns-in_err-read-clause-rest
returns-in_err-read-clause-rest g c = refl

pub returns-then-give_bytes-clause-rest : goal.returns-then-give_bytes-clause-rest
returns-then-give_bytes-clause-rest g c = (c.if-give_bytes.ensures.given refl).rest

pub returns-else-give_bytes-clause-rest : goal.returns-else-give_bytes-clause-rest
returns-else-give_bytes-clause-rest g c =
    let same = c.if-give_bytes.ensures.refused refl in
    ap (λ x. x.handles) same ∙ ap (λ h. record c.args.global.now.handles { heap = h.heap }) (sym (ap (λ x. x.handles) same))
