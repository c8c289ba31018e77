use Rattle.w16_region.proofs.{Common.List, Common.[], Common.◌∷◌, Common.length, Common.refl, Common.proved, storage.RefMutSliceU8Whole.lend_whole.Statement.statement, Lends.whole_lent, Lends.lends_whole}
use base.Fraction.{full_share}
use mir.Syntax.{Ty, named, erased, mut, ty_ref, ty_int, w8}
use mir.Val.{Val}
use base.Fml.{ftrue, fat, flft}
use types.Kit.{‵, ◌⊛◌, later, some, ◌$◌, ◌∵◌, !, qed, move, keep, drop, split, split3, join, fsplit, fsplit3, fjoin, feq_l, use1, use3, rewrite, await, pick, suffices, frame, done}
use types.Part.{whole, sub, look_in, agg}
use types.Run.{stop, fld, hop, load, of_opd, addr, and_then, no_more, returns, enter}
use types.ByLocal.{alloc_all, pass_all, free_all, look_at, get, through, sets}
use denote.Builtin.{u8}
use denote.Exit.{no}
use denote.RattleType.{owns}
use denote.Memory.{cell_at}
use denote.Ref.{MutRef, mut_vals, mut_Tells}
use denote.Shadow.{pure_l, pure_i}
use denote.Signature.{plain, mut_slice_of, mut_ref_to}
use denote.Slice.{MutSlice, room, slice_ty, slice_val, mut_slice_vals, mut_slice_at}
use denote.Steps.{nothing, opens, closes}
use denote.Triple.Walked.{says, Stays, stay_dropped, walk_of, ends_at, Goes-spent_ref}
use Rattle.w16_region.specs.contracts.storage.RefMutSliceU8Whole.lend_whole as f
use Rattle.w16_region.proofs.storage.RefMutSliceU8Whole.lend_whole.Code as code
use denote.Through.{renamed}

-- the inner reference, as the place's type says it
abbrev Place : Ty
Place = slice_ty (ty_ref erased mut (ty_int w8))

abbrev stayed : Stays f.ended.signature.params f.ended.kept
stayed = (stay_dropped (mut_ref_to (0 ∷ []) tt (mut_slice_of (1 ∷ []) tt (plain (λ _. u8)))) no, tt)

pub lend_whole_spec : {M : Type 1} → statement M
lend_whole_spec 𝓤 𝓛 𝓜 𝓡 wired =
    let c = f.clauses 𝓛 𝓜.mem 𝓡.returns in let W = walk_of 𝓛 f.ended stayed c in
    proved 𝓛 f.ended stayed c 𝓜 𝓡 (Goes-spent_ref 𝓛 2 (0 ∷ []) tt (mut_slice_of (1 ∷ []) tt (plain (λ _. u8))), tt)
    f.Key.name code.function (code.unfolded 𝓤 𝓛.H 𝓜 𝓡 wired)
    (λ κs. (mut_vals, tt)) (λ κs. (mut_Tells (named 0) κs.0 (MutSlice (named 1) κs.1.0 u8), tt)) (λ κs qs bounds a _ are.
    let κ = κs.0 in let κ' = κs.1.0 in let q = qs.0 in let q' = qs.1.0 in let x = a.0 in let b = x.ref_ptr.0 in let o = x.ref_ptr.1 in
    let xs = x.now.now in let Sl = MutSlice (named 1) κ' u8 in let v = slice_val x.now.ref_ptr (length xs) in
    let vss : List Val × Unit {0} = (mut_vals x, tt) in
    let y : W.Ghost = ((κs, qs, bounds, a, vss), tt) in
    qed 𝓛 (((‵ (flft κ q) ⊛ ‵ (flft κ' q') ⊛ ‵ ftrue) ⊛ ‵ (owns (MutRef (named 0) κ Sl ∷ []) a vss)) ∷ ‵ ftrue ∷ []) ∵ move ! (1 ∷ []) $ drop ! $
    split ! $ enter ! _ _ _ _ _ $
    alloc_all ! (λ l. pass_all ! refl ((tt, tt), tt) $
    split ! $ move ! (2 ∷ []) $ fsplit ! $ fsplit3 ! $ drop ! $ move ! (0 ∷ 1 ∷ 3 ∷ []) $
    opens ! tt Sl b o (λ vs. move ! (1 ∷ []) $ fsplit ! $ fsplit ! $ feq_l ! (λ e. pure_l ! (room u8 (length xs)) (λ rm.
    rewrite ! 1 (λ us. ‵ (cell_at full_share Sl.mir us b o)) e refl $ move ! (1 ∷ []) $
    use1 𝓛 (‵ (fat full_share Place b o v)) (𝓛.laws.raw_at full_share Place b o v) $
    sets ! (of_opd ! (load ! (through ! refl (fld ! refl (stop !))) (look_in ! 0 (sub ! 1 refl (whole !))))) refl (tt, record { fits = rm.0 }) $
    sets ! (addr ! (through ! refl (fld ! refl (hop ! (look_in ! 0 (sub ! 0 refl (whole !))) (stop !))))) refl (tt, tt) $
    sets ! (agg ! (and_then ! (get ! refl) (and_then ! (get ! refl) (no_more !)))) refl (tt, (tt, (record { fits = rm.0 }, tt))) $
    use1 𝓛 (‵ (cell_at full_share Sl.mir (mut_slice_vals x.now) b o)) (𝓛.laws.at_raw full_share Place b o v) $ move ! (1 ∷ []) $
    pure_i ! (mut_slice_at u8 x.now (mut_slice_vals x.now)) (tt, (tt, tt)) (refl, rm) $ fjoin ! $ move ! (1 ∷ 0 ∷ []) $ closes ! tt Sl x.now (mut_slice_vals x.now) b o $
    use3 𝓛 (later (some (whole_lent 𝓛 u8 (named 0) (named 1) κ κ' q x))) (lends_whole 𝓛 u8 (named 0) (named 1) κ κ' q x bounds.0 rm) $ await ! tt $ pick ! (λ δ.
    returns ! (look_at ! 0 refl) $ free_all ! refl $ keep ! (0 ∷ 2 ∷ []) $ split3 ! $
    suffices ! _ (ends_at 𝓛 f.ended stayed c y v (renamed x.now δ) (tt, tt) (tt, tt)) $
    nothing ! $ nothing ! $ fjoin ! $ join ! $ move ! (1 ∷ 3 ∷ []) $ join ! $ join ! $ frame ! $ says ! refl $ done !))))))
