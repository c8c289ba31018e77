use Rattle.w16_ne.proofs.module_file.Module.place_of.Goals as goal

pub returns : goal.returns
returns g c = rw (← c.self.view_is) c.place_of.ensures
