-- What is lent, by what the kernel has found.
use Rattle.w16_c.proofs.Common.{◌≡◌, ℕ, Bool, true, false, Ok, Err, length, refl, sym, subst, Command, World, OfFar, Read, KernelStep, ne_format, Reply}
use Rattle.w16_c.proofs.ReplyKinds.{fault_calls}
use Rattle.std.proofs.Common.{◌≢◌, ◌∙◌, arith, inl, inr}
use Rattle.std.specs.Prelude.{List}
use Rattle.w16_loading.specs.Replies.Reply.{Bytes, Done, Failed, Fault}
use Rattle.w16_loading.specs.{Law.IsCommand}
use Rattle.w16_machine.specs.Rows.{IsOfKind}
use Rattle.w16_machine.specs.Rows.ReplyKind.{OnlyDone}
use Rattle.w16_model.specs.Commands.{Command}
use Rattle.w16_loading.specs.Families.{AnyCommand}
use Rattle.w16_model.specs.Commands.Family.{OfHandles}
use Rattle.w16_kernel.specs.Questions.{IsAnswered}
use Rattle.w16_kernel.specs.{Lent.FindsPlace, Lent.IsFarFault, Parts.IsWorldOver, Runs.reply_of}
use Rattle.w16_model.specs.{Heap.bytes_at}
use Rattle.w16_writes.proofs.Promises.{promised_step}
use Rattle.w16_global.proofs.Loans.{part_length}
use Rattle.w16_global.specs.{Loans.lent_bytes, declared.loan.Place.Place}
use Rattle.w16_c.specs.{Makes.FarCalls, Makes.IsStatus, Makes.Lends, Makes.Makes, declared.held.Held.Held, declared.lent.Lent.Lent}
use Rattle.w16_c.specs.declared.status.TheConstants.{DONE}
use Rattle.w16_kernel.specs.declared.call.Reply as code
use Rattle.w16_loading.specs.Families.AnyCommand.{any}

pub fault_is : (reply : Reply) → IsFarFault reply → IsOfKind OnlyDone reply
fault_is (Fault f) k = tt
fault_is (Failed f) k = tt
fault_is reply k = absurd k

not_done : (status : ℕ) (reply : Reply) → IsFarFault reply → IsStatus status reply → status ≢ DONE
not_done status (Fault f) k is = λ e. grind (arith, is, e)
not_done status (Failed f) k is = λ e. grind (arith, is, e)
not_done status reply k is = absurd k

-- what the kernel did to the world that was held, it did to the holder
module _ {old new : Held} {w w' : World} (was : old.is_held ≡ true) (is : new.is_held ≡ true) (from : w ≡ old.world) (to : new.world ≡ w') (world : IsWorldOver (Unit {0}) w) where
  makes : {command : AnyCommand} {reply : Reply} → IsCommand command → KernelStep (Unit {0}) w command reply w' → Makes old command reply new
  makes known step = record { was = was; is = is; step = rw (← from, to) step; promises = rw (← from, to) (promised_step (Unit {0}) ne_format w w' _ _ world.0 known step.step) }

  pub lent : {pointer count : ℕ} {before after : Lent} (write : Bool) (place : Place) → after.count ≡ length (lent_bytes w'.loading.handles place) → FindsPlace (Unit {0}) w write pointer count (Ok place) w' → Lends old write pointer count DONE before after new
  lent {pointer} {count} write place long f =
      inl (
        refl,
        long ∙ part_length (bytes_at w'.loading.handles.heap place.slot) place.at place.count f.1.0 ∙ f.1.1,
        (
          place,
          record {
            found = rw to f.1;
            read = subst (λ (x : World). Makes old (any _ (Read pointer count)) (Bytes (lent_bytes x.loading.handles place)) new) (sym to)
                (makes tt f.0);
            taken = rw (← from, to) f.2;
          },
        ),
      )

  pub unlent : {pointer count : ℕ} {before after : Lent} (write : Bool) (status : ℕ) (reply : code.Reply) → after ≡ before → IsFarFault (reply_of reply) → IsStatus status (reply_of reply)
      → FindsPlace (Unit {0}) w write pointer count (Err reply) w' → Lends old write pointer count status before after new
  unlent false status reply same k s f = inr (inr (not_done status (reply_of reply) k s, same, λ known. fault_calls old _ status _ Done new k s (makes known f)))
  unlent true status reply same k s f = inr (inr (not_done status (reply_of reply) k s, same, λ bytes long known. fault_calls old _ status _ Done new k s (makes known (f bytes long))))

  -- and the bytes that are read are what is lent
  pub read : {pointer count : ℕ} {after : List ℕ} (place : Place) → after ≡ lent_bytes w'.loading.handles place → FindsPlace (Unit {0}) w false pointer count (Ok place) w' → FarCalls old (any _ (Read pointer count)) DONE (Bytes after) new
  read {pointer} {count} place e f = inl (inl (refl, subst (λ b. Makes old (any _ (Read pointer count)) (Bytes b) new) (sym e) (makes tt f.0)))

  pub unread : {pointer count : ℕ} {after : List ℕ} (status : ℕ) (reply : code.Reply) → IsFarFault (reply_of reply) → IsStatus status (reply_of reply) → FindsPlace (Unit {0}) w false pointer count (Err reply) w'
      → FarCalls old (any _ (Read pointer count)) status (Bytes after) new
  unread status reply k s f = fault_calls old _ status _ (Bytes _) new k s (makes tt f)

-- and a question that it answered, the holder answers
pub answered : {old new : Held} {w : World} {command : Command OfHandles} {reply : Reply} → old.is_held ≡ true → new.is_held ≡ true → w ≡ old.world → new.world ≡ w → IsAnswered (Unit {0}) w command reply
    → Makes old (any OfHandles command) reply new
answered was is from to a = record { was = was; is = is; step = rw (← from, to) a.step; promises = rw (← from, to) a.promises }
