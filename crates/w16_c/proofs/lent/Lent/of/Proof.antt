-- `of` takes the address out of the slice.
use Rattle.std.proofs.Common.{[], ◌∷◌, ◌^◌, List, length, refl, w64}
use Rattle.std.proofs.raw_atomic.Walks.{proved}
use mir.Syntax.{named}
use mir.Val.{Val, vint, vptr, vstruct, vcons, vnil}
use types.Kit.{‵, raw, ◌⊛◌, ◌$◌, ◌∵◌, !, qed, keep, move, split, fjoin, feq_i, flt_i, fpack, suffices, done}
use types.Part.{agg, sub, whole}
use types.Run.{enter, of_opd, returns, and_then, no_more, fld, stop, addr, from, hop}
use types.ByLocal.{alloc_all, pass_all, free_all, look_at, get, get_in, sets, look_in_at}
use denote.Builtin.{u8, SliceRefOf}
use denote.Exit.{yes}
use denote.RattleType.{owns}
use denote.RawPtr.{block_ptr}
use denote.Signature.{plain, types_at}
use denote.Slice.{shr_slice_vals, shr_slice_Tells}
use denote.Steps.{nothing}
use denote.Struct.Declared.{shape}
use denote.Struct.Struct.{within}
use denote.Triple.Entry.{alive}
use denote.Triple.Walked.{says, Stays, stay_dropped, ends_at, Goes-dropped}
use Rattle.w16_c.specs.contracts.lent.Lent as Lent
use Rattle.w16_c.specs.contracts.lent.Lent.of as f
use Rattle.w16_c.proofs.lent.Lent.of.Statement.{statement}
use Rattle.w16_c.proofs.lent.Lent.of.Code as code

abbrev stayed : Stays f.ended.signature.params f.ended.kept
stayed = (stay_dropped _ yes, tt)

pub of_spec : {M : Type 1} → statement M
of_spec 𝓤 𝓛 𝓜 𝓡 wired =
    let c = f.clauses 𝓛 𝓜.mem 𝓡.returns in
    proved 𝓛 f.ended stayed c 𝓜 𝓡 (Goes-dropped 𝓛 1 (SliceRefOf (0 ∷ []) tt (plain (λ _. u8)) (λ _. tt)) yes (λ κs x w. refl), tt) f.Key.name code.function (code.unfolded 𝓤 𝓛.H 𝓜 𝓡 wired)
    (λ κs. (shr_slice_vals, tt)) (λ κs. (shr_slice_Tells (named 0) κs.0 u8, tt)) (λ κs qs bounds a g are.
    let b = a.0.ref_ptr.0 in let o = a.0.ref_ptr.1 in let n = length a.0.now in let fits = are.0.0.1.0 in
    let vs : List Val × Unit {0} = (shr_slice_vals a.0, tt) in let word = vstruct (vcons (vptr b o) (vcons (vint w64 n) vnil)) in
    qed 𝓛 ((raw (alive 𝓛 f.signature κs qs) ⊛ ‵ (owns (types_at f.signature.params κs) a vs)) ∷ raw ((c κs a).requires g) ∷ []) ∵ split ! $ keep ! (0 ∷ []) $
    enter ! _ _ _ _ _ $ alloc_all ! (λ l. pass_all ! refl ((tt, (tt, (record { fits = fits }, tt))), tt) $
    sets ! (addr ! (from ! (fld ! refl (hop ! (look_in_at ! 1 (sub ! 0 refl (whole !))) (stop !))))) refl (tt, tt) $
    sets ! (of_opd ! (get_in ! (fld ! refl (stop !)) (sub ! 1 refl (whole !)))) refl (tt, record { fits = fits }) $
    sets ! (agg ! (and_then ! (get ! refl) (and_then ! (get ! refl) (no_more !)))) refl (tt, (tt, (record { fits = fits }, tt))) $
    returns ! (look_at ! 0 refl) $ free_all ! refl $
    nothing ! $ flt_i ! n (2 ^ 64) fits $ feq_i ! (List Val) (vint w64 n ∷ []) _ refl $ fjoin ! $ fjoin ! $
    feq_i ! (List Val) (vptr b o ∷ []) _ refl $ fjoin ! $ feq_i ! (List Val) (word ∷ []) _ refl $ fjoin ! $
    fpack ! _ (within (shape Lent.the_type) (block_ptr b o, (n, tt)) (word ∷ [])) (vptr b o ∷ [], (vint w64 n ∷ [], tt)) $
    suffices ! _ (ends_at 𝓛 f.ended stayed c ((κs, qs, bounds, a, vs), g) word (record { at = block_ptr b o; count = n }) (tt, tt) (tt, tt)) $ says ! refl $
    nothing ! $ nothing ! $ fjoin ! $ move ! (2 ∷ 0 ∷ 1 ∷ []) $ done !))
