-- `lend_pair` calls `lend_whole` and then `pair_of`, and what the first follows and what the second follows are joined.
use Rattle.w16_region.proofs.Common.{◌≡◌, ℕ, ◌+◌, ◌≤◌, ◌⊎◌, List, [], ◌∷◌, ◌++◌, length, take, refl, sym, ap, subst, w64, Bor, MutBor, proved, with_items, Al}
use Rattle.std.proofs.Common.{drop as drop_list}
use mir.Syntax.{named, Args, Fn, a_type, dnil, dcons}
use mir.MapTy.{inst_fn}
use denote.Param.{bounded, param}
use mir.Val.{Val, vint}
use base.Fml.{Lft, ftrue, flft}
use base.Logic.{emp, id⊢}
use contract.BorrowLft.{◌⊑◌}
use contract.Monad.{fact, fact_i}
use contract.Running.{tables}
use types.Kit.{‵, ◌⊛◌, raw, later, some, ◌$◌, ◌∵◌, !, qed, move, drop, split, split3, join, fsplit, fjoin, feq_l, rewrite, use0, use1, use2, await, pick, suffices, frame, done}
use types.Part.{whole, sub, agg}
use types.Run.{stop, fld, hop, from, addr, and_then, no_more, returns, enter}
use types.ByLocal.{alloc_all, pass_all, free_all, look_at, look_in_at, get, get_in, through, sets, lands_as}
use denote.Array.{Array}
use denote.Builtin.{u8, usize}
use denote.Exit.{yes, no}
use denote.Follow.{follows, follows_then}
use denote.Laws.{Is, shows}
use denote.Plain.{uint_vals, uint_Tells}
use denote.RattleType.{RattleType, owns}
use denote.Ref.{MutRef, mut_vals, mut_Tells}
use denote.Shadow.{pure_l, pure_i}
use denote.Signature.{plain, mut_ref_to}
use denote.Slice.{MutSlice, ShrSlice, room, mut_slice_vals, mut_slice_at, mut_slice_Lawful, shr_slice_Lawful}
use denote.Steps.{nothing, heard, peeks, only}
use denote.Struct.Declared.{shape}
use denote.Struct.Recorded.{recorded_lawful}
use denote.Struct.Struct.{Struct, Struct-Lawful}
use denote.Struct.Tuple.{Tuple, tuple_type}
use denote.Triple.Call.{calls_at}
use denote.Triple.Clauses.{Ended, lasts}
use denote.Triple.Spec.{triple_of}
use denote.Triple.Table.{framed}
use denote.Triple.Walked.{says, Stays, stay_dropped, walk_of, ends_at, Goes-dropped, Goes-spent_ref}
use Rattle.std.specs.contracts.vec.Vec as V
use Rattle.w16_region.specs.contracts.storage.VecU8Storage.lend_pair as f
use Rattle.w16_region.proofs.storage.VecU8Storage.lend_pair.Statement.{statement}
use Rattle.w16_region.proofs.storage.VecU8Storage.lend_pair.Code as code
use Rattle.w16_region.specs.contracts.storage.VecU8Whole.lend_whole as g
use Rattle.w16_region.proofs.storage.VecU8Whole.lend_whole.Met as g-thm
use Rattle.w16_region.specs.contracts.storage.pair_of as h
use Rattle.w16_region.proofs.storage.pair_of.Met as h-thm

abbrev args : Al → Args
args Z = bounded (a_type ∷ []) (Z.row, tt) (dcons Z.d (dcons Z.drops dnil))

abbrev here : Al → Fn
here Z = inst_fn (args Z) code.function

abbrev X : Al → RattleType
X Z = V.the_row u8 (param 0 Z.row) Z.g

abbrev ended : Al → Ended
ended Z = f.ended Z.row Z.g Z.d Z.drops

abbrev stayed : (Z : Al) → Stays (ended Z).signature.params (ended Z).kept
stayed Z = (stay_dropped (mut_ref_to (0 ∷ []) tt (plain (λ _. X Z))) no, (stay_dropped (plain (λ _. usize)) yes, (stay_dropped (plain (λ _. usize)) yes, (stay_dropped (plain (λ _. usize)) yes, (stay_dropped (plain (λ _. usize)) yes, tt)))))

abbrev Both : Lft → List RattleType
Both κ = ShrSlice (named 0) κ u8 ∷ MutSlice (named 0) κ u8 ∷ []

pub lend_pair_spec : {M : Type 1} → statement M
lend_pair_spec 𝓤 𝓛 𝓜 𝓡 wired Y L g' d d' met md =
    let Z : Al = record { row = Y; laws = L; g = g'; d = d; drops = d' } in
    let c = f.clauses Y g' d d' 𝓛 𝓜.mem 𝓡.returns in let W = walk_of 𝓛 (ended Z) (stayed Z) c in let 𝓣 = tables 𝓤 𝓛.H 𝓜 𝓡 𝓡.env in
    let goes = Goes-dropped 𝓛 2 (plain (λ _. usize)) yes (λ κs x w. refl) in
    proved 𝓛 (ended Z) (stayed Z) c 𝓜 𝓡 (Goes-spent_ref 𝓛 2 (0 ∷ []) tt (plain (λ _. (X Z))), (goes, (goes, (goes, (goes, tt)))))
    (f.Key.name (args Z)) (here Z) (code.unfolded 𝓤 𝓛.H 𝓜 𝓡 wired (Y, tt) d d')
    (λ κs. (mut_vals, (uint_vals w64, (uint_vals w64, (uint_vals w64, (uint_vals w64, tt)))))) (λ κs. (mut_Tells (named 0) κs.0 (X Z), (uint_Tells w64, (uint_Tells w64, (uint_Tells w64, (uint_Tells w64, tt)))))) (λ κs qs bounds a _ are.
    let κ = κs.0 in let q = qs.0 in
    let x = a.0 in let xs = x.now.items in let i = a.1.0 in let n = a.1.1.0 in let j = a.1.1.1.0 in let m = a.1.1.1.1.0 in
    let vss : List Val × (List Val × (List Val × (List Val × (List Val × Unit {0})))) = (mut_vals x, (vint w64 i ∷ [], (vint w64 n ∷ [], (vint w64 j ∷ [], (vint w64 m ∷ [], tt))))) in
    let y : W.Ghost = ((κs, qs, bounds, a, vss), tt) in
    let put : List ℕ → List ℕ → List ℕ = λ l ws. take j l ++ (ws ++ drop_list (length ws) (drop_list j l)) in
    qed 𝓛 ((((‵ (flft κ q) ⊛ ‵ (flft κs.1.0 qs.1.0) ⊛ ‵ ftrue)) ⊛ ‵ (owns (MutRef (named 0) κ (X Z) ∷ usize ∷ usize ∷ usize ∷ usize ∷ []) a vss))
    ∷ (raw (fact 𝓤 (κs.1.0 ⊑ Y.lives)) ⊛ raw (fact 𝓤 (i + n ≤ length xs)) ⊛ raw (fact 𝓤 (j + m ≤ length xs)) ⊛ raw (fact 𝓤 ((i + n ≤ j) ⊎ (j + m ≤ i)))) ∷ []) ∵
    move ! (1 ∷ []) $ split ! $ heard ! _ (λ le. split3 ! $ heard ! _ (λ li. heard ! _ (λ lj. heard ! _ (λ apart.
    split ! $ move ! (1 ∷ []) $ fsplit ! $
    -- [self; the numbers; the tokens]
    enter ! _ _ _ _ _ $
    alloc_all ! (λ l. pass_all ! refl ((tt, tt), ((tt, record { fits = are.1.0.1 }), ((tt, record { fits = are.1.1.0.1 }), ((tt, record { fits = are.1.1.1.0.1 }), ((tt, record { fits = are.1.1.1.1.0.1 }), tt))))) $
    sets ! (addr ! (through ! refl (stop !))) refl (tt, tt) $
    let G = triple_of 𝓛 (g.signature Y g' d d') (g.spec Y g' d d' 𝓛 𝓜.mem 𝓡.returns) in
    let z : G.Ghost = ((κs, qs, bounds, (x, tt), (mut_vals x, tt)), tt) in
    nothing ! $ move ! (1 ∷ 0 ∷ []) $ join ! $ move ! (2 ∷ 0 ∷ []) $ join ! $ nothing ! $ use0 𝓛 (raw (fact 𝓤 (κs.1.0 ⊑ Y.lives))) (fact_i 𝓤 _ (emp 𝓤) le) $ join ! $ move ! (1 ∷ 0 ∷ []) $ use2 𝓛 (raw (G.pre z)) (id⊢ 𝓤 _) $
    calls_at ! (framed 𝓤 𝓛.H 𝓜 𝓣) G (g-thm.met 𝓤 𝓛 𝓜 𝓡 (code.calls-w16_region::storage::VecU8Whole::lend_whole 𝓡.env wired) Y L g' d d' met md) z
    (and_then ! (get ! refl) (no_more !)) (λ v.
    use1 𝓛 (later (some (λ (r : MutBor (List ℕ)). (((‵ (flft κ q) ⊛ ‵ (flft κs.1.0 qs.1.0) ⊛ ‵ ftrue)) ⊛ ‵ ((MutSlice (named 0) κ u8).own_val r (v ∷ []))) ⊛
    some (λ (ws : Unit {0} × Unit {0}). ‵ (lasts (g.ended Y g' d d') κs (x, tt) ws) ⊛ (‵ (follows (X Z) (Array u8 0) x.ghost_name r.ghost_name (with_items x.now)) ⊛ raw (fact 𝓤 (r.now ≡ xs))))))) (id⊢ 𝓤 _) $
    await ! tt $ pick ! (λ r. split ! $ split ! $ move ! (2 ∷ []) $ pick ! (λ ws. split ! $ drop ! $ split ! $ move ! (1 ∷ []) $ heard ! _ (λ is.
    -- [follows; the tokens; the slice; the numbers]
    move ! (1 ∷ []) $ split ! $ move ! (1 ∷ []) $ split ! $ move ! (2 ∷ 1 ∷ []) $ join ! $ move ! (2 ∷ 0 ∷ 3 ∷ 4 ∷ []) $
    move ! (2 ∷ []) $ fsplit ! $ fsplit ! $ feq_l ! (λ e. pure_l ! (room u8 (length r.now)) (λ rm.
    pure_i ! (mut_slice_at u8 r (mut_slice_vals r)) (tt, (tt, tt)) (refl, rm) $ fjoin ! $
    lands_as ! (ap only e) refl (tt, (tt, (record { fits = rm.0 }, tt))) $
    sets ! (addr ! (from ! (fld ! refl (hop ! (look_in_at ! 6 (sub ! 0 refl (whole !))) (stop !))))) refl (tt, tt) $
    sets ! (agg ! (and_then ! (get ! refl) (and_then ! (get_in ! (fld ! refl (stop !)) (sub ! 1 refl (whole !))) (no_more !)))) refl (tt, (tt, (record { fits = rm.0 }, tt))) $
    let H = triple_of 𝓛 h.signature (h.spec 𝓛 𝓜.mem 𝓡.returns) in
    let uss : List Val × (List Val × (List Val × (List Val × (List Val × Unit {0})))) = (mut_slice_vals r, vss.1) in
    let z' : H.Ghost = (((κ, tt), (q, tt), tt, (r, a.1), uss), tt) in
    move ! (0 ∷ 3 ∷ []) $ fjoin ! $ move ! (2 ∷ 0 ∷ []) $ join ! $
    use0 𝓛 (raw (fact 𝓤 ((i + n ≤ j) ⊎ (j + m ≤ i)))) (fact_i 𝓤 _ (emp 𝓤) apart) $
    use0 𝓛 (raw (fact 𝓤 (j + m ≤ length r.now))) (fact_i 𝓤 _ (emp 𝓤) (subst (λ (zs : List ℕ). j + m ≤ length zs) (sym is) lj)) $ join ! $
    use0 𝓛 (raw (fact 𝓤 (i + n ≤ length r.now))) (fact_i 𝓤 _ (emp 𝓤) (subst (λ (zs : List ℕ). i + n ≤ length zs) (sym is) li)) $ join ! $
    move ! (1 ∷ 0 ∷ []) $ use2 𝓛 (raw (H.pre z')) (id⊢ 𝓤 _) $
    calls_at ! (framed 𝓤 𝓛.H 𝓜 𝓣) H (h-thm.met 𝓤 𝓛 𝓜 𝓡 (code.calls-w16_region::storage::pair_of 𝓡.env wired)) z'
    (and_then ! (get ! refl) (and_then ! (get ! refl) (and_then ! (get ! refl) (and_then ! (get ! refl) (and_then ! (get ! refl) (no_more !)))))) (λ w.
    use1 𝓛 (later (some (λ (p : Bor (List ℕ) × MutBor (List ℕ)). ((‵ (flft κ q) ⊛ ‵ ftrue) ⊛ ‵ ((Tuple (Both κ)).own_val p (w ∷ []))) ⊛
    some (λ (us : Unit {0} × (Unit {0} × (Unit {0} × (Unit {0} × (Unit {0} × Unit {0}))))). ‵ (lasts h.ended (κ, tt) (r, a.1) us) ⊛
    (‵ (follows (Array u8 0) (Array u8 0) r.ghost_name p.1.ghost_name (put r.now)) ⊛ raw (fact 𝓤 ((p.0.now ≡ take n (drop_list i r.now)) × (p.1.now ≡ take m (drop_list j r.now))))))))) (id⊢ 𝓤 _) $
    await ! tt $ pick ! (λ p. split ! $ split ! $ move ! (2 ∷ []) $ pick ! (λ us. split ! $ drop ! $ split ! $ move ! (1 ∷ []) $ heard ! _ (λ are'.
    -- [follows; the token; the pair; follows]
    move ! (2 ∷ []) $ peeks ! (Tuple (Both κ)) (Is (Tuple (Both κ))) (shows 𝓛 (Tuple (Both κ))) p (w ∷ []) (λ fit.
    lands_as ! refl refl ((recorded_lawful (Struct (shape (tuple_type (Both κ)))) (tuple_type (Both κ)).D
    (tuple_type (Both κ)).to (tuple_type (Both κ)).to_one 𝓛
    (Struct-Lawful 𝓛 (shape (tuple_type (Both κ))) (
      shr_slice_Lawful 𝓛 (named 0) κ u8,
      (mut_slice_Lawful 𝓛 (named 0) κ u8, tt),
    ))).typed p (w ∷ []) fit).0 $
    move ! (3 ∷ 1 ∷ []) $ use2 𝓛 (‵ (follows (X Z) (Array u8 0) x.ghost_name p.1.ghost_name (λ ws. (with_items x.now) (put r.now ws)))) (follows_then 𝓛 (X Z) (Array u8 0) (Array u8 0) (with_items x.now) (put r.now) x.ghost_name r.ghost_name p.1.ghost_name) $
    rewrite ! 0 (λ (zs : List ℕ). ‵ (follows (X Z) (Array u8 0) x.ghost_name p.1.ghost_name (λ ws. (with_items x.now) (put zs ws)))) is refl $
    -- [follows; the pair; the token]
    returns ! (look_at ! 0 refl) $ free_all ! refl $
    suffices ! _ (ends_at 𝓛 (ended Z) (stayed Z) c y w p (tt, (tt, (tt, (tt, (tt, tt))))) (tt, (tt, (tt, (tt, (tt, tt)))))) $
    move ! (2 ∷ []) $ split ! $ move ! (4 ∷ 1 ∷ []) $ join ! $ move ! (1 ∷ 0 ∷ []) $ join ! $ move ! (1 ∷ 2 ∷ 0 ∷ []) $ move ! (1 ∷ 2 ∷ []) $
    nothing ! $ nothing ! $ fjoin ! $ nothing ! $ fjoin ! $ nothing ! $ fjoin ! $ nothing ! $ fjoin ! $ nothing ! $ fjoin ! $ join ! $
    move ! (1 ∷ 0 ∷ []) $ join ! $ frame ! $ says ! (subst (λ (zs : List ℕ). (p.0.now ≡ take n (drop_list i zs)) × (p.1.now ≡ take m (drop_list j zs))) is are') $ done !)))))))))))))))))
