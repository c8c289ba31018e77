-- The growth of a local heap is a step of loading, but for the number of bytes moved and for the heap's end; so it keeps what holds of every world.
use Rattle.w16_machine.proofs
use proofs.Common as C
use proofs.Common.{◌≡◌, ℕ, inl, inr, false, Some, None, IfSome, refl, sym, ap, ◌∙◌, subst, cond, Table, is_code, Err, Format, IsOfFiles, OfResizes, GlobalReAlloc, Word, World, IsWorld, Step, with_handles, growth_flags, arith}
use proofs.LocalGrown.{grown_handles, grown_object, grown_world}
use proofs.{Loaded.loading_world_kept, LocalFacts.IsThere, LocalLeft.left_is, LocalLeft.left_over, Stepped.handles_step}
use Rattle.w16_loading.specs.declared.LoadRefusal.TheVariants.{BadFile}
use Rattle.std.specs.FinMap as finmap
use Rattle.w16_loading.specs.Families.AnyCommand.{any}

-- a format that accepts nothing
abbrev nothing : Format
nothing = record { says = λ file. Err BadFile; contents = λ file number. None; relocated = λ t source table values size. None }

module _ (old : World) (at : C.LocalHeap) (options : C.RoomOptions) (size : ℕ) (l : C.Lengthens old at options size) where
  -- the world that the reallocation leaves
  abbrev pub reallocated : World
  reallocated = C.after_loading old (with_handles old.loading l.handles)

  -- this is a step
  pub growth_step : (honest : Type 0) (format : Format) → Step honest format old (any _ (GlobalReAlloc l.handle size (growth_flags options))) (Word l.answer) reallocated
  growth_step honest format = (handles_step honest format old.loading l.handles (any _ (GlobalReAlloc l.handle size (growth_flags options))) (Word l.answer) tt l.reallocated, refl)

  module _ (is : IsWorld old) (there : IsThere old at) (is_size : C.IsLongerSize at size) where
    abbrev mine : C.LocalHeap
    mine = C.longer at size l.bytes

    abbrev grown : World
    grown = C.with_longer old l.handles mine

    is_reallocated : IsWorld reallocated
    is_reallocated = loading_world_kept ⊥ nothing old reallocated is (any _ (GlobalReAlloc l.handle size (growth_flags options))) (Word l.answer) (growth_step ⊥ nothing).0 refl tt

    -- its heap's segment is no code
    still_here : finmap.get reallocated.heaps at.slot ≡ Some at.table
    still_here =
        left_is l.handles.heap old.heaps at.slot ∙ ap (λ p. left_over p (C.bytes_at l.handles.heap at.slot)) there.table ∙ ap (left_over (Some at.table)) l.has
        ∙ ap (λ b. cond {A = C.Option Table} b (Some at.table) None) (C.le-leb at.table.hi (C.length l.bytes) (omega (arith, there.inside, is_size.more, (grown_object old is.heaps.handles at there options size is_size l).long)))

    uncoded : (slot : ℕ) → IfSome (finmap.get grown.heaps slot) (λ _. is_code l.handles slot ≡ false)
    uncoded slot = elim (C.cases_eq slot at.slot) [
      | inl e ↦ subst (λ p. IfSome p (λ _. is_code l.handles slot ≡ false)) (sym (C.inserted_here (C.left_in l.handles.heap old.heaps) at.slot mine.table slot e))
          (subst (λ p. IfSome p (λ _. is_code l.handles slot ≡ false)) (ap (finmap.get reallocated.heaps) e ∙ still_here) (is_reallocated.uncoded slot))
      | inr d ↦ subst (λ p. IfSome p (λ _. is_code l.handles slot ≡ false)) (sym (C.inserted_other (C.left_in l.handles.heap old.heaps) at.slot mine.table slot d)) (is_reallocated.uncoded slot)
    ]

    pub growth_world : IsWorld grown
    growth_world = record {
      loading = C.world_stays (with_handles old.loading l.handles) is_reallocated.loading grown.loading.handles (grown_handles old is.heaps at there options size is_size l) (λ q. refl) (λ slot kind size code h. h.object);
      heaps = grown_world old is.heaps at there options size is_size l;
      uncoded = uncoded;
    }

    pub growth_files : (format : Format) → IsOfFiles format old.loading → IsOfFiles format grown.loading
    growth_files format of = record {
      code = λ slot handle number m s coded. after.code slot handle number m (record { loaded = s.loaded; has = s.has }) coded;
      modules = after.modules;
    }
      where
        after : IsOfFiles format (with_handles old.loading l.handles)
        after = C.code_law (Unit {0}) format old.loading (with_handles old.loading l.handles) (any _ (GlobalReAlloc l.handle size (growth_flags options))) (Word l.answer) tt is.loading of (growth_step (Unit {0}) format).0
