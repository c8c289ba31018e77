-- All but an application is loaded by LoadModule as by LoadLibrary.
use Rattle.w16_loader.proofs.Common.{sym, ap, ◌∙◌, used_again, in_world}
use Rattle.std.specs.FinMap as finmap
use Rattle.w16_loader.proofs.UsedAgain.{once}
use Rattle.w16_loader.proofs.loading.load_again.Goals as goal

pub returns : goal.returns
returns g c = λ rest.
    ap (λ b. used_again b (in_world rest c.args.registry.now) c.args.handle (finmap.get c.args.registry.now c.args.handle)) c.if-not-is_load_module.false
    ∙ once (in_world rest _) c.args.handle (finmap.get _ _) (sym c.is_application.ensures ∙ c.if-is_application.false)
    ∙ c.count_use-2.ensures rest
