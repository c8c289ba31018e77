use Rattle.w16_global.proofs.{Common.false, Common.length, Common.sym, Common.ap, Common.◌∙◌, Access.has_part, Access.part_known, Access.length_known}
use Rattle.w16_global.proofs.global.Global16.far_peek.Goals as goal

pub bytes-requires : goal.bytes-requires
bytes-requires g c = has_part c.args.self.now.handles false c.args.selector c.args.offset _ _ _ c.in_ok-reached.ensures.ok

pub copy_from_slice-requires : goal.copy_from_slice-requires
copy_from_slice-requires g c = sym (ap length c.bytes.ensures ∙ length_known c.args.self.now.handles false c.args.selector c.args.offset _ _ _ c.in_ok-reached.ensures.ok)

pub returns-clause-ok : goal.returns-clause-ok
returns-clause-ok g c = (c.in_ok-reached.ensures.ok.2, c.copy_from_slice.ensures.after ∙ c.bytes.ensures ∙ part_known c.args.self.now.handles false _ _ _ _ _ c.in_ok-reached.ensures.ok)
