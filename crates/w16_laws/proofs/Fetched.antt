-- Fetches: what they keep, what refuses them, and that code has the bytes again that it had.
use Rattle.w16_loading.proofs.Common.{◌≡◌, ℕ, inl, inr, Some, refl, sym, ap, subst, false≢true, Heap, KeepsOthers, ◌∙◌, module_at, segment_bytes}
use Rattle.w16_loading.proofs.{Fillings.fetch_outcome, Fillings.filled_others, Fillings.filled_object, Again.segment_image}
use Rattle.w16_loading.specs.declared.FetchFault.TheVariants.{Store, NoRoom, Damaged}
use Rattle.w16_laws.specs.Loading.{FetchAgainLaw, FetchFaultsLaw, FetchLaw, FetchRefusedLaw}
use Rattle.w16_loading.proofs.Common as C

-- the same heap keeps all objects
same_keeps : (old new : Heap) (slot : ℕ) → new ≡ old → KeepsOthers old (Some slot) 0 new
same_keeps old new slot e = subst (KeepsOthers old _ 0) (sym e) (record { kept = λ q other out. refl; discarded = λ q e. absurd (false≢true e) })

pub fetch_law : (honest : Type 0) → FetchLaw honest
fetch_law honest format before after old new slot fault is f = elim (fetch_outcome f).1 [
  | inl e ↦ record { number = 0; others = same_keeps _ _ _ (ap (λ w. w.handles.heap) e); rest = f.rest }
  | inr (read, sized, given, filled) ↦ let k = filled_others _ _ read _ filled is in record { number = k.0; others = k.1; rest = f.rest }
]

pub refused_law : (honest : Type 0) → FetchRefusedLaw honest
refused_law honest format before after old new slot fault f = (fetch_outcome f).0 refl

pub fetch_again_law : (honest : Type 0) → FetchAgainLaw honest
fetch_again_law honest format from to before absent after slot handle number m bytes truly is code segment coded has modules files f =
    let read = f.given.0 in
    ap C.bytes_in (filled_object absent.handles.heap slot read after.handles.heap f.given.3) ∙ sym (segment_image format absent slot handle number m read is here (f.given.2.1 truly)) ∙ same_bytes ∙ had
  where
    here : C.IsSegmentOf absent slot handle number m
    here = record { loaded = ap (λ all. module_at all handle) modules ∙ segment.loaded; has = segment.has }

    same_bytes : segment_bytes format absent m number ≡ segment_bytes format before m number
    same_bytes = ap (λ files. segment_bytes format (record absent { files = files }) m number) files

    had : segment_bytes format before m number ≡ Some bytes
    had = subst (λ p. C.IfSome p (λ b. segment_bytes format before m number ≡ Some b)) has (code slot handle number m segment coded)

-- what refuses a fetch
pub fetch_faults_law : (honest : Type 0) → FetchFaultsLaw honest
fetch_faults_law honest format before after old new slot Store truly f = inl refl
fetch_faults_law honest format before after old new slot NoRoom truly f = inr refl
fetch_faults_law honest format before after old new slot Damaged truly f = inl (f.given.0.2 truly)
