use Rattle.w16_region.proofs
use proofs.Common.{ℕ, ◌+◌, ◌≤◌, ◌⊎◌, List, [], ◌∷◌, length, refl, sym, w64, Bor, MutBor, proved}
use proofs.storage.pair_of.Statement.{statement}
use proofs.Pairs.{pair_lent, lends_pair, source, target, put, long_source, long_target}
use mir.Syntax.{named}
use mir.Val.{Val, vint, vstruct, vcons, vnil}
use base.Fml.{Lft, ftrue, flft}
use contract.Monad.{fact}
use contract.Running.{tables}
use types.Kit.{‵, ◌⊛◌, raw, later, some, at_ret, ◌$◌, ◌∵◌, !, qed, move, keep, split, split3, join, fsplit, fjoin, fpack, feq_i, use2, await, pick, suffices, frame, done}
use types.Part.{whole, sub, agg}
use types.Run.{stop, fld, hop, from, of_opd, addr, bin, and_then, no_more, first, blocks, exec, returns, enter}
use types.ByLocal.{alloc_all, pass_all, free_all, look_at, look_in_at, get, sets, sets_last, env}
use denote.Builtin.{u8, usize}
use denote.Exit.{yes, no}
use denote.Plain.{uint_vals, uint_Tells}
use denote.RattleType.{RattleType, Valss, owns}
use denote.Signature.{plain, mut_slice_of}
use denote.Slice.{MutSlice, ShrSlice, slice_val, mut_slice_vals, mut_slice_Tells}
use denote.Steps.{nothing, heard}
use denote.Struct.Declared.{shape}
use denote.Struct.Struct.{within as laid_within}
use denote.Struct.Tuple.{tuple_type}
use denote.Triple.Walked.{says, Stays, stay_dropped, walk_of, ends_at, Goes-dropped, Goes-spent_slice}
use Rattle.w16_region.specs.contracts.storage.pair_of as f
use Rattle.w16_region.proofs.storage.pair_of.Code as code

abbrev stayed : Stays f.ended.signature.params f.ended.kept
stayed = (stay_dropped (mut_slice_of (0 ∷ []) tt (plain (λ _. u8))) no, (stay_dropped (plain (λ _. usize)) yes, (stay_dropped (plain (λ _. usize)) yes, (stay_dropped (plain (λ _. usize)) yes, (stay_dropped (plain (λ _. usize)) yes, tt)))))

abbrev Both : Lft → List RattleType
Both κ = ShrSlice (named 0) κ u8 ∷ MutSlice (named 0) κ u8 ∷ []

pub pair_of_spec : {M : Type 1} → statement M
pair_of_spec 𝓤 𝓛 𝓜 𝓡 wired =
    let c = f.clauses 𝓛 𝓜.mem 𝓡.returns in let W = walk_of 𝓛 f.ended stayed c in let 𝓣 = tables 𝓤 𝓛.H 𝓜 𝓡 𝓡.env in
    let goes = Goes-dropped 𝓛 1 (plain (λ _. usize)) yes (λ κs x w. refl) in
    proved 𝓛 f.ended stayed c 𝓜 𝓡 (Goes-spent_slice 𝓛 1 (0 ∷ []) tt (plain (λ _. u8)), (goes, (goes, (goes, (goes, tt)))))
    f.Key.name code.function (code.unfolded 𝓤 𝓛.H 𝓜 𝓡 wired)
    (λ κs. (mut_slice_vals, (uint_vals w64, (uint_vals w64, (uint_vals w64, (uint_vals w64, tt)))))) (λ κs. (mut_slice_Tells (named 0) κs.0 u8, (uint_Tells w64, (uint_Tells w64, (uint_Tells w64, (uint_Tells w64, tt)))))) (λ κs qs bounds a _ are.
    let κ = κs.0 in let q = qs.0 in let b = a.0.ref_ptr.0 in let o = a.0.ref_ptr.1 in let xs = a.0.now in
    let i = a.1.0 in let n = a.1.1.0 in let j = a.1.1.1.0 in let m = a.1.1.1.1.0 in
    let vss : List Val × (List Val × (List Val × (List Val × (List Val × Unit {0})))) = (mut_slice_vals a.0, (vint w64 i ∷ [], (vint w64 n ∷ [], (vint w64 j ∷ [], (vint w64 m ∷ [], tt))))) in
    let y : W.Ghost = ((κs, qs, bounds, a, vss), tt) in
    let rm = are.0.0.1 in let fn = are.1.1.0.1 in let fm = are.1.1.1.1.0.1 in
    qed 𝓛 (((‵ (flft κ q) ⊛ ‵ ftrue) ⊛ ‵ (owns (MutSlice (named 0) κ u8 ∷ usize ∷ usize ∷ usize ∷ usize ∷ []) a vss))
    ∷ (raw (fact 𝓤 (i + n ≤ length xs)) ⊛ raw (fact 𝓤 (j + m ≤ length xs)) ⊛ raw (fact 𝓤 ((i + n ≤ j) ⊎ (j + m ≤ i)))) ∷ []) ∵
    move ! (1 ∷ []) $ split3 ! $ heard ! _ (λ li. heard ! _ (λ lj. heard ! _ (λ apart.
    let v = vstruct (vcons (slice_val (b, i + o) n) (vcons (slice_val (b, j + o) m) vnil)) in
    let xs₁ = source 𝓛 (named 0) (named 0) κ q b o a.0.ghost_name xs i n j m li lj in
    let xs₂ = target 𝓛 (named 0) (named 0) κ q b o a.0.ghost_name xs i n j m li lj in
    let long₁ = long_source 𝓛 (named 0) (named 0) κ q b o a.0.ghost_name xs i n j m li lj in
    let long₂ = long_target 𝓛 (named 0) (named 0) κ q b o a.0.ghost_name xs i n j m li lj in
    split ! $ enter ! _ _ _ _ _ $
    alloc_all ! (λ l. pass_all ! refl ((tt, (tt, (record { fits = rm.0 }, tt))), ((tt, record { fits = are.1.0.1 }), ((tt, record { fits = fn }), ((tt, record { fits = are.1.1.1.0.1 }), ((tt, record { fits = fm }), tt))))) $
    sets ! (addr ! (from ! (fld ! refl (hop ! (look_in_at ! 1 (sub ! 0 refl (whole !))) (stop !))))) refl (tt, tt) $
    first ! $ blocks ! $
    sets ! (bin ! (get ! refl) (get ! refl) tt) refl (tt, tt) $
    sets ! (agg ! (and_then ! (get ! refl) (and_then ! (get ! refl) (no_more !)))) refl (tt, (tt, (record { fits = fn }, tt))) $
    sets ! (bin ! (get ! refl) (get ! refl) tt) refl (tt, tt) $
    sets ! (agg ! (and_then ! (get ! refl) (and_then ! (get ! refl) (no_more !)))) refl (tt, (tt, (record { fits = fm }, tt))) $
    sets_last ! (agg ! (and_then ! (get ! refl) (and_then ! (get ! refl) (no_more !)))) refl (tt, ((tt, (record { fits = fn }, tt)), ((tt, (record { fits = fm }, tt)), tt))) $
    exec ! 𝓣.C 𝓣.Λ (env code.Mir.locals l) code.Mir.t-3 (at_ret _ (W.post y)) $
    sets ! (of_opd ! (get ! refl)) refl (tt, ((tt, (record { fits = fn }, tt)), ((tt, (record { fits = fm }, tt)), tt))) $
    split ! $ move ! (2 ∷ []) $ fsplit ! $ move ! (0 ∷ 2 ∷ []) $
    use2 𝓛 (later (some (pair_lent 𝓛 (named 0) (named 0) κ q b o a.0.ghost_name xs xs₁ xs₂ (i + o) (j + o) (put 𝓛 (named 0) (named 0) κ q b o a.0.ghost_name xs i n j m li lj))))
    (lends_pair 𝓛 (named 0) (named 0) κ q b o a.0.ghost_name xs i n j m li lj apart rm (mut_slice_vals a.0)) $ await ! tt $ pick ! (λ δ.
    split3 ! $ move ! (2 ∷ []) $ split ! $ move ! (2 ∷ 3 ∷ []) $
    -- [the source; the target; the token; follows; …]
    let one : Bor (List ℕ) = record { ref_ptr = (b, i + o); now = xs₁ } in let two : MutBor (List ℕ) = record { ref_ptr = (b, j + o); ghost_name = δ; now = xs₂ } in
    nothing ! $ move ! (2 ∷ 0 ∷ []) $ fjoin ! $ move ! (1 ∷ 0 ∷ []) $ fjoin ! $
    feq_i ! (List Val) (v ∷ []) (vstruct (vcons (slice_val (b, i + o) (length xs₁)) (vcons (slice_val (b, j + o) (length xs₂)) vnil)) ∷ []) (λ k. vstruct (vcons (slice_val (b, i + o) (sym long₁ k)) (vcons (slice_val (b, j + o) (sym long₂ k)) vnil)) ∷ []) $ fjoin ! $
    fpack ! (Valss (Both κ)) (laid_within (shape (tuple_type (Both κ))) (one, (two, tt)) (v ∷ [])) (slice_val (b, i + o) (length xs₁) ∷ [], (slice_val (b, j + o) (length xs₂) ∷ [], tt)) $
    returns ! (look_at ! 0 refl) $ free_all ! refl $ keep ! (0 ∷ 1 ∷ 2 ∷ 4 ∷ []) $
    suffices ! _ (ends_at 𝓛 f.ended stayed c y v (one, two) (tt, (tt, (tt, (tt, (tt, tt))))) (tt, (tt, (tt, (tt, (tt, tt)))))) $
    nothing ! $ nothing ! $ fjoin ! $ nothing ! $ fjoin ! $ nothing ! $ fjoin ! $ nothing ! $ fjoin ! $ nothing ! $ fjoin ! $ join ! $ move ! (1 ∷ 3 ∷ []) $ join ! $ join ! $ frame ! $ says ! (refl, refl) $ done !))))))
