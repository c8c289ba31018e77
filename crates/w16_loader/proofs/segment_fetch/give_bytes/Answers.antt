-- The object is revived, and its bytes are written.
use Rattle.w16_loader.proofs.{Common.refl, Common.ap, Giving.revived_bytes, Giving.given_bytes}
use Rattle.w16_loader.proofs.segment_fetch.give_bytes.Goals as goal

pub with_bytes-requires : goal.with_bytes-requires
with_bytes-requires g c = revived_bytes _ _ (c.if-not-revive.ensures.named refl).without_bytes c.revive.new.self.handles (c.if-not-revive.ensures.revived refl) _ c.requires

pub returns-clause-given : goal.returns-clause-given
returns-clause-given g c = λ t.
    given_bytes _ _ (c.if-not-revive.ensures.named refl).without_bytes c.revive.new.self.handles (c.if-not-revive.ensures.revived refl) c.with_bytes.new.self.handles _ _ c.with_bytes.ensures.0 c.with_bytes.ensures.0.does.1
    (ap (λ x. x.handles) c.with_bytes.ensures.1)
