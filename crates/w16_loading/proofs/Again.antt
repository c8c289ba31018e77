-- Two modules of one handle are one, and a segment's image is what its file says.
use Rattle.w16_loading.proofs
use proofs.Common as C
use proofs.Common.{◌≡◌, ℕ, inl, inr, List, Some, sym, ap, ◌∙◌, Module, module_at, segment_bytes}

-- two modules of one handle are one
same_module : (modules : C.Modules) (a b : ℕ) (m n : Module) → a ≡ b → module_at modules a ≡ Some m → module_at modules b ≡ Some n → n ≡ m
same_module modules a b m n e x y = let f : ◌≡◌ {A = C.Option Module} (Some n) (Some m) = sym y ∙ ap (module_at _) (sym e) ∙ x in cc

-- a segment's image is what its file says
pub segment_image : (format : C.Format) (world : C.LoadingWorld) (slot handle number : ℕ) (m : Module) (bytes : List ℕ) → C.IsLoadingWorld world → C.IsSegmentOf world slot handle number m → C.IsImage format world slot bytes
    → segment_bytes format world m number ≡ Some bytes
segment_image format world slot handle number m bytes is s (inl i) =
    let one = is.one_segment _ _ _ i.0 i.1 m i.2 s i.3 in
    let same = same_module world.modules _ i.0 m i.2 one.0 s.loaded i.3.loaded in
    ap (segment_bytes format world m) one.1 ∙ ap (λ n. segment_bytes format world n i.1) (sym same) ∙ i.4
segment_image format world slot handle number m bytes is s (inr i) = absurd (is.no_resource _ _ _ i.0 i.1 m i.2 s i.3)
