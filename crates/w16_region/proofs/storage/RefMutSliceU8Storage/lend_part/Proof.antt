use Rattle.std.proofs.Common.{◌≡◌, ◌+◌, ◌-◌, ◌^◌, ◌<◌, ◌≤◌, List, [], ◌∷◌, length, take, drop as drop_list, refl, ap, arith, w64}
use Rattle.std.proofs.raw_atomic.Walks.{proved}
use Rattle.w16_region.proofs.{storage.RefMutSliceU8Storage.lend_part.Statement.statement, Lends.within_lent, Lends.lends_within}
use base.Fraction.{full_share}
use mir.Syntax.{Ty, named, erased, mut, ty_ref, ty_int, w8}
use mir.Val.{Val, vint}
use base.Fml.{ftrue, fat, flft}
use contract.Monad.{fact}
use types.Kit.{‵, ◌⊛◌, raw, later, some, ◌$◌, ◌∵◌, !, qed, move, keep, drop, split, split3, join, fsplit, fsplit3, fjoin, feq_l, use1, use3, rewrite, await, pick, suffices, frame, done}
use types.Part.{whole, sub, look_in, agg}
use types.Run.{stop, fld, hop, load, of_opd, addr, bin, and_then, no_more, returns, enter}
use types.ByLocal.{alloc_all, pass_all, free_all, look_at, get, get_in, through, sets, is}
use denote.Builtin.{u8, usize}
use denote.Exit.{yes, no}
use denote.Plain.{uint_vals, uint_Tells}
use denote.RattleType.{owns}
use denote.Memory.{cell_at}
use denote.Ref.{MutRef, mut_vals, mut_Tells}
use denote.Shadow.{pure_l, pure_i}
use denote.Signature.{plain, mut_slice_of, mut_ref_to}
use denote.Slice.{MutSlice, room, slice_ty, slice_val, mut_slice_vals, mut_slice_at}
use denote.Steps.{nothing, heard, opens, closes}
use denote.Triple.Walked.{says, Stays, stay_dropped, walk_of, ends_at, Goes-dropped, Goes-spent_ref}
use borrow.Table.Elements.{at_byte}
use Rattle.w16_region.specs.contracts.storage.RefMutSliceU8Storage.lend_part as f
use Rattle.w16_region.proofs.storage.RefMutSliceU8Storage.lend_part.Code as code

-- the inner reference, as the place's type says it
abbrev Place : Ty
Place = slice_ty (ty_ref erased mut (ty_int w8))

abbrev stayed : Stays f.ended.signature.params f.ended.kept
stayed = (stay_dropped (mut_ref_to (0 ∷ []) tt (mut_slice_of (1 ∷ []) tt (plain (λ _. u8)))) no, (stay_dropped (plain (λ _. usize)) yes, (stay_dropped (plain (λ _. usize)) yes, tt)))

pub lend_part_spec : {M : Type 1} → statement M
lend_part_spec 𝓤 𝓛 𝓜 𝓡 wired =
    let c = f.clauses 𝓛 𝓜.mem 𝓡.returns in let W = walk_of 𝓛 f.ended stayed c in
    let goes = Goes-dropped 𝓛 2 (plain (λ _. usize)) yes (λ κs x w. refl) in
    proved 𝓛 f.ended stayed c 𝓜 𝓡 (Goes-spent_ref 𝓛 2 (0 ∷ []) tt (mut_slice_of (1 ∷ []) tt (plain (λ _. u8))), (goes, (goes, tt)))
    f.Key.name code.function (code.unfolded 𝓤 𝓛.H 𝓜 𝓡 wired)
    (λ κs. (mut_vals, (uint_vals w64, (uint_vals w64, tt)))) (λ κs. (mut_Tells (named 0) κs.0 (MutSlice (named 1) κs.1.0 u8), (uint_Tells w64, (uint_Tells w64, tt)))) (λ κs qs bounds a _ are.
    let κ = κs.0 in let κ' = κs.1.0 in let q = qs.0 in let q' = qs.1.0 in let x = a.0 in let b = x.ref_ptr.0 in let o = x.ref_ptr.1 in
    let b' = x.now.ref_ptr.0 in let o' = x.now.ref_ptr.1 in let xs = x.now.now in let i = a.1.0 in let n = a.1.1.0 in
    let Sl = MutSlice (named 1) κ' u8 in let v = slice_val (b', o') (length xs) in
    let vss : List Val × (List Val × (List Val × Unit {0})) = (mut_vals x, (vint w64 i ∷ [], (vint w64 n ∷ [], tt))) in
    let y : W.Ghost = ((κs, qs, bounds, a, vss), tt) in
    qed 𝓛 (((‵ (flft κ q) ⊛ ‵ (flft κ' q') ⊛ ‵ ftrue) ⊛ ‵ (owns (MutRef (named 0) κ Sl ∷ usize ∷ usize ∷ []) a vss)) ∷ raw (fact 𝓤 (i + n ≤ length xs)) ∷ []) ∵ move ! (1 ∷ []) $ heard ! _ (λ le.
    let size : i + n - i ≡ n = omega arith in
    split ! $ enter ! _ _ _ _ _ $
    alloc_all ! (λ l. pass_all ! refl ((tt, tt), ((tt, record { fits = are.1.0.1 }), ((tt, record { fits = are.1.1.0.1 }), tt))) $
    split ! $ move ! (2 ∷ []) $ fsplit ! $ fsplit3 ! $ drop ! $ move ! (0 ∷ 1 ∷ 3 ∷ []) $
    opens ! tt Sl b o (λ vs. move ! (1 ∷ []) $ fsplit ! $ fsplit ! $ feq_l ! (λ e. pure_l ! (room u8 (length xs)) (λ rm.
    let fits_end : i + n < 2 ^ 64 = let long = rm.0 in omega arith in
    rewrite ! 1 (λ us. ‵ (cell_at full_share Sl.mir us b o)) e refl $ move ! (1 ∷ []) $
    use1 𝓛 (‵ (fat full_share Place b o v)) (𝓛.laws.raw_at full_share Place b o v) $
    sets ! (of_opd ! (load ! (through ! refl (fld ! refl (stop !))) (look_in ! 0 (sub ! 1 refl (whole !))))) refl (tt, record { fits = rm.0 }) $
    sets ! (addr ! (through ! refl (fld ! refl (hop ! (look_in ! 0 (sub ! 0 refl (whole !))) (stop !))))) refl (tt, tt) $
    sets ! (agg ! (and_then ! (get ! refl) (and_then ! (get ! refl) (no_more !)))) refl (tt, (tt, (record { fits = rm.0 }, tt))) $
    sets ! (bin ! (get ! refl) (get ! refl) (record { fits = fits_end })) refl (tt, record { fits = fits_end }) $
    sets ! (bin ! (get_in ! (fld ! refl (stop !)) (sub ! 0 refl (whole !))) (get ! refl) tt) refl (tt, tt) $
    sets ! (is ! (bin ! (get ! refl) (get ! refl) (omega arith)) (ap (vint w64) size)) refl (tt, record { fits = are.1.1.0.1 }) $
    sets ! (addr ! (through ! refl (stop !))) refl (tt, tt) $
    sets ! (agg ! (and_then ! (get ! refl) (and_then ! (get ! refl) (no_more !)))) refl (tt, (tt, (record { fits = are.1.1.0.1 }, tt))) $
    use1 𝓛 (‵ (cell_at full_share Sl.mir (mut_slice_vals x.now) b o)) (𝓛.laws.at_raw full_share Place b o v) $ move ! (1 ∷ []) $
    pure_i ! (mut_slice_at u8 x.now (mut_slice_vals x.now)) (tt, (tt, tt)) (refl, rm) $ fjoin ! $ move ! (1 ∷ 0 ∷ []) $ closes ! tt Sl x.now (mut_slice_vals x.now) b o $
    use3 𝓛 (later (some (within_lent 𝓛 (named 0) (named 1) κ κ' q u8 x i n le (i + o') (at_byte o' i) rm (are.1.1.0.1, omega arith))))
    (lends_within 𝓛 (named 0) (named 1) κ κ' q u8 x i n le (i + o') (at_byte o' i) rm (are.1.1.0.1, omega arith) bounds.0) $ await ! tt $ pick ! (λ δ.
    returns ! (look_at ! 0 refl) $ free_all ! refl $ keep ! (0 ∷ 2 ∷ []) $ split3 ! $
    suffices ! _ (ends_at 𝓛 f.ended stayed c y (slice_val (b', i + o') n) (record { ref_ptr = (b', i + o'); ghost_name = δ; now = take n (drop_list i xs) }) (tt, (tt, (tt, tt))) (tt, (tt, (tt, tt)))) $
    nothing ! $ nothing ! $ fjoin ! $ nothing ! $ fjoin ! $ nothing ! $ fjoin ! $ join ! $ move ! (1 ∷ 3 ∷ []) $ join ! $ join ! $ frame ! $ says ! refl $ done !)))))))
