use Rattle.w16_kernel.proofs.Common.{refl, ap, Word, Dword, ◌∙◌}
use Rattle.w16_kernel.proofs.Modules.{as_many, seen, unread}
use Rattle.w16_kernel.proofs.step.module_reply.Goals as goal

pub returns-in_ok-builtin-in-Builtin-clause-step : goal.returns-in_ok-builtin-in-Builtin-clause-step
returns-in_ok-builtin-in-Builtin-clause-step g c = rw (c.in-Builtin.is, ← c.loading.view_is) (unread _ _ _ _ _ refl refl (_, refl, c.in_ok-builtin-in-Builtin.ensures.step (seen c.loading.view_is)))

pub returns-in-GetProcAddress-clause-step : goal.returns-in-GetProcAddress-clause-step
returns-in-GetProcAddress-clause-step g c = rw (c.in-GetProcAddress.is, ← c.loading-in-GetProcAddress.view_is)
    (unread _ _ _ _ _ refl refl (ap Dword (c.proc_address.ensures (seen c.loading-in-GetProcAddress.view_is)), refl))

pub returns-in-FindResource-clause-step : goal.returns-in-FindResource-clause-step
returns-in-FindResource-clause-step g c = rw (c.in-FindResource.is, ← c.loading-in-FindResource.view_is)
    (unread _ _ _ _ _ refl refl (ap Word (c.find_resource.ensures (seen c.loading-in-FindResource.view_is)), refl))

pub returns-in-SizeofResource-clause-step : goal.returns-in-SizeofResource-clause-step
returns-in-SizeofResource-clause-step g c = rw (c.in-SizeofResource.is, ← c.loading-in-SizeofResource.view_is)
    (unread _ _ _ _ _ refl refl (ap Dword (c.size_of_resource.ensures (seen c.loading-in-SizeofResource.view_is)), refl))

pub returns-in-FreeResource-clause-step : goal.returns-in-FreeResource-clause-step
returns-in-FreeResource-clause-step g c =
    let f = c.free_resource.ensures in
    rw c.in-FreeResource.is (unread _ _ _ _ _ f.unread.0 f.unread.1 (ap (λ x. Word x.0) f.freed, as_many _ f.unread.1 ∙ ap (λ x. x.1) f.freed))

pub returns-in-FreeLibrary-clause-step : goal.returns-in-FreeLibrary-clause-step
returns-in-FreeLibrary-clause-step g c = let f = c.free_module.ensures in rw c.in-FreeLibrary.is (unread _ _ _ _ _ f.unread.0 f.unread.1 (_, refl, f.frees))

pub returns-in-FreeModule-clause-step : goal.returns-in-FreeModule-clause-step
returns-in-FreeModule-clause-step g c = let f = c.free_module-in-FreeModule.ensures in rw c.in-FreeModule.is (unread _ _ _ _ _ f.unread.0 f.unread.1 (_, refl, f.frees))
