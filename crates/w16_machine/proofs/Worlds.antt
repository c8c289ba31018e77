-- Each step keeps what holds of every world of the machine.
use Rattle.w16_machine.proofs
use proofs.Common as C
use proofs.Common.{◌≡◌, false, sym, subst, World}
use proofs.LocalModules.{local_files_kept, local_world_kept}
use proofs.{Loaded.loading_world_kept}
use Rattle.w16_loading.proofs.Begun.{empty_law as empty_loading_law}
use Rattle.w16_loading.specs.Families.AnyCommand.{any}

pub empty_world_law : C.EmptyLaw
empty_world_law format memory slots files failures few = (
  record {
    loading = empty_loading_law _ _ _ _ few;
    heaps = record {
      handles = C.empty_law _ _ few;
      heaps = λ slot. subst (λ t. C.IfSome t (λ t. C.IsSomeAnd (C.segment_bytes w slot) (C.IsLocalIn t))) (sym (C.get-empty _ _)) tt;
    };
    uncoded = λ slot. subst (λ t. C.IfSome t (λ _. C.is_code w.loading.handles slot ≡ false)) (sym (C.get-empty _ _)) tt;
  },
  C.empty_of_files_law _ _ _ _ _,
)
  where
    w : World
    w = C.empty_world memory slots files failures

pub world_law : (honest : Type 0) → C.WorldLaw honest
world_law honest format old new (any C.OfLocals command) reply is known step = local_world_kept old new command reply is step
world_law honest format old new command reply is known step = loading_world_kept honest format old new is command reply step.0 step.1 known

pub files_law : (honest : Type 0) → C.FilesLaw honest
files_law honest format old new (any C.OfLocals command) reply truly is known step = (local_world_kept old new command reply is.0 step, local_files_kept old new command reply is.0 step _ is.1)
files_law honest format old new command reply truly is known step = (
  world_law honest format old new command reply is.0 known step,
  C.code_law honest _ _ _ command reply truly is.0.loading is.1 step.0,
)
