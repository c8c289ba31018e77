-- Each step of a run discards as few as it can.
use Rattle.w16_machine.proofs
use proofs.Common as C
use proofs.Common.{◌≡◌, subst, Format, Reply, Word, Dword, World, Event, Command, Step}
use proofs.LocalFewest.{local_alloc_law, local_compact_law, local_realloc_law}
use proofs.Stepped.{call_replies, loading_part, resize_replies}
use Rattle.w16_loading.specs.Families.{AnyCommand}
use Rattle.w16_loading.proofs.Requests.{any_requests_fewest}

-- the same step, told with its command, and with its reply
asked : (honest : Type 0) (format : Format) (old : World) (event : Event) {command : AnyCommand} → event.command ≡ command → Step honest format old event.command event.reply event.after → Step honest format old command event.reply event.after
asked honest format old event c step = subst (λ asked. Step honest format old asked event.reply event.after) c step

told : (honest : Type 0) (format : Format) (old : World) (event : Event) {command : AnyCommand} {reply : Reply} → event.command ≡ command → event.reply ≡ reply → Step honest format old event.command event.reply event.after
    → Step honest format old command reply event.after
told honest format old event {command} c r step = subst (λ answer. Step honest format old command answer event.after) r (asked _ format old event c step)

pub step_fewest : (honest : Type 0) (format : Format) (old : World) (event : Event) → C.IsWorld old → Step honest format old event.command event.reply event.after → C.IsFewest old event
step_fewest honest format old event is step = record {
  alloc = λ flags size handle c r. C.global_alloc_law _ _ _ _ _ is.heaps.handles
      (call_replies honest format _ _ _ _ (told _ format old event c r step).0);
  realloc = λ handle size flags answer c r. C.resize_fewest_law _ event.after.loading.handles _ _ _ _ is.heaps.handles
      (resize_replies honest format _ _ _ _ (told _ format old event c r step).0);
  compact = λ size answer c r. C.global_compact_law old.loading.handles event.after.loading.handles _ _ is.heaps.handles
      (call_replies honest format _ _ _ _ (told _ format old event c r step).0);
  local_alloc = λ flags size answer at c r current. local_alloc_law old _ _ _ _ at is.heaps (told honest format old _ c r step) current;
  local_realloc = λ name size flags answer o c r named unmodified some. local_realloc_law old _ name _ _ _ o is.heaps (told honest format old _ c r step) named unmodified some;
  local_compact = λ size answer at c r current. local_compact_law old event.after _ _ at is.heaps (told honest format old _ c r step) current;
  requests = λ other. any_requests_fewest honest format _ _ _ _ is.loading (loading_part honest format old event.after event.command event.reply other step).0;
}
