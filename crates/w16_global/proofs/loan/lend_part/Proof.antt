-- `lend_part` hands on what `view_mut` lends, and what is left there is cut to as many bytes.
use Rattle.w16_region.proofs.Common.{◌≡◌, ℕ, ◌+◌, ◌≤◌, List, [], ◌∷◌, length, refl, ap, MutBor, proved, part, Al, sym, ◌∙◌}
use Rattle.std.specs.Int.{w32}
use mir.Syntax.{named, Args, Fn, a_type, dnil, dcons, Lifetime, w8}
use mir.MapTy.{inst_fn}
use denote.Param.{bounded, param}
use mir.Val.{Val, vint}
use base.Fml.{GName, Fml, ftrue, flft, Lft, Share, fobs, fbor}
use base.Logic.{emp, id⊢, SProp, ent, sep, ex}
use contract.BorrowLft.{◌⊑◌}
use contract.Monad.{fact, fact_i}
use contract.Running.{tables}
use types.Kit.{Item, ‵, ◌⊛◌, raw, later, some, ◌$◌, ◌∵◌, !, qed, move, drop, split, split3, join, fsplit, fjoin, feq_l, rewrite, use0, use1, use2, await, pick, suffices, frame, done, given, learn}
use types.Kit.{fsplit3, feq_i, updating, group, now, show}
use types.Run.{stop, addr, and_then, no_more, returns, enter}
use types.ByLocal.{alloc_all, pass_all, free_all, look_at, get, through, sets, lands_as}
use denote.Array.{Array}
use denote.Builtin.{u8, u32}
use denote.Exit.{yes, no}
use denote.Follow.{follows, follows_then}
use denote.Plain.{uint_vals, uint_Tells}
use denote.RattleType.{RattleType, owns}
use denote.Ref.{MutRef, mut_vals, mut_Tells}
use denote.Shadow.{pure_l, pure_i}
use denote.Signature.{plain, mut_ref_to}
use denote.Slice.{MutSlice, room, slice_val, mut_slice_vals, mut_slice_at, Room}
use denote.Steps.{nothing, heard, only}
use denote.Triple.Call.{calls_at}
use denote.Triple.Clauses.{Ended, lasts}
use denote.Triple.Spec.{triple_of}
use denote.Triple.Table.{framed}
use denote.Triple.Walked.{says, Stays, stay_dropped, walk_of, ends_at, Goes-dropped, Goes-spent_ref}
use Rattle.w16_global.specs.Loans.{left_of, region_after}
use Rattle.w16_global.proofs.loan.lend_part.Statement.{statement}
use Rattle.std.specs.Prelude.{◌<◌, ◌%◌, map}
use native.Mathlib.Omega.{arith}
use lib.ListN.{length-map}
use seplogic.Ra.Ura.{Ura}
use base.Fraction.{full_share}
use base.Stored.{coded_list}
use types.Logic.{Logic, sem}
use types.SemTy.{SemTy, cells, Arr, Body}
use types.Follow.{takes_part}
use types.Mut.{open_ref}
use denote.Memory.{mem}
use denote.FollowSlice.{heres_id, slice_of}
use borrow.Rule.Slice.Know.{AllWt, cells_fit}
use borrow.Table.Referent.{f_int}
use Rattle.w16_region.specs.Bytes.{fitted, fitted-same, length-fitted}
use Rattle.w16_region.specs.contracts.region.Region as V
use Rattle.w16_global.specs.contracts.loan.lend_part as f
use Rattle.w16_global.proofs.loan.lend_part.Code as code
use Rattle.w16_region.specs.contracts.region.RegionSpace.view_mut as g
use Rattle.w16_region.proofs.region.RegionSpace.view_mut.Met as g-thm

-- A `&mut [u8]` is lent on whole.
module _ {M : Type 1} {𝓤 : Ura M} (𝓛 : Logic 𝓤) where
  open 𝓛 use {H, A}

  small : (x : ℕ) → x < 256 → x % 256 ≡ x
  small x lt = omega arith

  bytes_stay : (ws : List ℕ) → AllWt (f_int w8) ws → map (λ b. b % 256) ws ≡ ws
  bytes_stay [] a = refl
  bytes_stay (x ∷ ws) a = λ i. small x a.0.fits i ∷ bytes_stay ws a.1 i

  module _ (xs : List ℕ) where
    abbrev Row : SemTy
    Row = Arr (mem u8) (length xs)

    put_kept : (b o : ℕ) (ws : List ℕ) → ent 𝓤 (sep 𝓤 (sem 𝓛 (Row.own_at ws b o)) (emp 𝓤)) (sem 𝓛 (Row.own_at (left_of xs ws) b o))
    put_kept b o ws = qed 𝓛 (‵ (Row.own_at ws b o) ∷ raw (emp 𝓤) ∷ []) ∵ move ! (1 ∷ []) $ drop ! $ fsplit ! $ feq_l ! (λ e.
        use1 𝓛 (given (AllWt (f_int w8) ws) (‵ (cells (mem u8) ws b o))) (cells_fit 𝓛 (f_int w8) full_share ws b o) $ learn ! (λ a.
        rewrite ! 0 (λ l. ‵ (cells (mem u8) l b o)) (sym (ap (map (λ b. b % 256)) (fitted-same xs ws e) ∙ bytes_stay ws a)) refl $
        feq_i ! ℕ (length (left_of xs ws)) (length xs) (length-map (fitted xs ws) (λ b. b % 256) ∙ length-fitted xs ws) $ fjoin ! $ done !))

    module _ (ℓ : Lifetime) (κ : Lft) (q : Share) (b o : ℕ) (γ : GName) (rm : Room u8 (length xs)) where
      abbrev pub slice : GName → Fml
      slice δ = (MutSlice ℓ κ u8).own_val (record { ref_ptr = (b, o); ghost_name = δ; now = xs }) (slice_val (b, o) (length xs) ∷ [])

      abbrev pub lent : GName → Item 𝓤
      lent δ = ‵ (slice δ) ⊛ ‵ (flft κ q) ⊛ ‵ (follows (Array u8 0) (Array u8 0) γ δ (left_of xs))

      abbrev pub Lent : GName → SProp 𝓤
      Lent δ = sep 𝓤 (sem 𝓛 (slice δ)) (sep 𝓤 (A.lft κ q) (sem 𝓛 (follows (Array u8 0) (Array u8 0) γ δ (left_of xs))))

      pub lends : (vs : List Val) → ent 𝓤 (sep 𝓤 (sem 𝓛 ((MutSlice ℓ κ u8).own_val (record { ref_ptr = (b, o); ghost_name = γ; now = xs }) vs)) (A.lft κ q)) (H.⇛ (ex 𝓤 Lent))
      lends vs = qed 𝓛 (‵ ((MutSlice ℓ κ u8).own_val (record { ref_ptr = (b, o); ghost_name = γ; now = xs }) vs) ∷ ‵ (flft κ q) ∷ []) ∵ updating ! $ fsplit3 ! $ drop ! $
          rewrite ! 0 (λ l. ‵ (fobs γ ((coded_list u8.coded).code l))) (heres_id u8 xs) refl $ open_ref ! tt Row {b = b} {o = o} $
          use0 𝓛 (raw (emp 𝓤)) (id⊢ 𝓤 (emp 𝓤)) $ move ! (2 ∷ 3 ∷ 4 ∷ 1 ∷ 0 ∷ []) $ group ! 5 $
          use1 𝓛 (later (some (λ δ. ‵ (fobs δ ((coded_list u8.coded).code xs)) ⊛ ‵ (fbor κ (Body Row b o δ)) ⊛ ‵ (flft κ q) ⊛ ‵ (follows (Array u8 0) (Array u8 0) γ δ (left_of xs)))))
          (takes_part 𝓛 Row Row (left_of xs) κ q b o b o γ (emp 𝓤) (put_kept b o) ((coded_list u8.coded).code xs) ((coded_list u8.coded).code xs) xs) $ await ! tt $ pick ! (λ δ. split3 ! $
          use2 𝓛 (‵ (slice δ)) (slice_of 𝓛 u8 ℓ κ b o δ xs rm) $ now ! $ show ! Lent δ $ done !)

abbrev args : Al → Args
args Z = bounded (a_type ∷ []) (Z.row, tt) (dcons Z.d (dcons Z.drops dnil))

abbrev here : Al → Fn
here Z = inst_fn (args Z) code.function

abbrev X : Al → RattleType
X Z = V.the_row (param 0 Z.row) Z.g

abbrev ended : Al → Ended
ended Z = f.ended Z.row Z.g Z.d Z.drops

abbrev stayed : (Z : Al) → Stays (ended Z).signature.params (ended Z).kept
stayed Z = (stay_dropped (mut_ref_to (0 ∷ []) tt (plain (λ _. X Z))) no, (stay_dropped (plain (λ _. u32)) yes, (stay_dropped (plain (λ _. u32)) yes, tt)))

pub lend_part_spec : {M : Type 1} → statement M
lend_part_spec 𝓤 𝓛 𝓜 𝓡 wired Y L g' d d' met md =
    let Z : Al = record { row = Y; laws = L; g = g'; d = d; drops = d' } in
    let c = f.clauses Y g' d d' 𝓛 𝓜.mem 𝓡.returns in let W = walk_of 𝓛 (ended Z) (stayed Z) c in let 𝓣 = tables 𝓤 𝓛.H 𝓜 𝓡 𝓡.env in
    let goes = Goes-dropped 𝓛 2 (plain (λ _. u32)) yes (λ κs x w. refl) in
    proved 𝓛 (ended Z) (stayed Z) c 𝓜 𝓡 (Goes-spent_ref 𝓛 2 (0 ∷ []) tt (plain (λ _. (X Z))), (goes, (goes, tt)))
    (f.Key.name (args Z)) (here Z) (code.unfolded 𝓤 𝓛.H 𝓜 𝓡 wired (Y, tt) d d')
    (λ κs. (mut_vals, (uint_vals w32, (uint_vals w32, tt)))) (λ κs. (mut_Tells (named 0) κs.0 (X Z), (uint_Tells w32, (uint_Tells w32, tt)))) (λ κs qs bounds a _ are.
    let κ = κs.0 in let q = qs.0 in
    let x = a.0 in let xs = x.now.bytes.items in let i = a.1.0 in let n = a.1.1.0 in
    let vss : List Val × (List Val × (List Val × Unit {0})) = (mut_vals x, (vint w32 i ∷ [], (vint w32 n ∷ [], tt))) in
    let y : W.Ghost = ((κs, qs, bounds, a, vss), tt) in
    let put = λ (ws : List ℕ). region_after n x.now i ws in
    qed 𝓛 ((((‵ (flft κ q) ⊛ ‵ (flft κs.1.0 qs.1.0) ⊛ ‵ ftrue)) ⊛ ‵ (owns (MutRef (named 0) κ (X Z) ∷ u32 ∷ u32 ∷ []) a vss))
    ∷ (raw (fact 𝓤 (κs.1.0 ⊑ Y.lives)) ⊛ raw (fact 𝓤 (i + n ≤ length xs))) ∷ []) ∵
    move ! (1 ∷ []) $ split ! $ heard ! _ (λ le. heard ! _ (λ li.
    enter ! _ _ _ _ _ $
    alloc_all ! (λ l. pass_all ! refl ((tt, tt), ((tt, record { fits = are.1.0.1 }), ((tt, record { fits = are.1.1.0.1 }), tt))) $
    sets ! (addr ! (through ! refl (stop !))) refl (tt, tt) $
    let G = triple_of 𝓛 (g.signature Y g' d d') (g.spec Y g' d d' 𝓛 𝓜.mem 𝓡.returns) in
    let z : G.Ghost = ((κs, qs, bounds, a, vss), tt) in
    use0 𝓛 (raw (fact 𝓤 (i + n ≤ length xs))) (fact_i 𝓤 _ (emp 𝓤) li) $
    use0 𝓛 (raw (fact 𝓤 (κs.1.0 ⊑ Y.lives))) (fact_i 𝓤 _ (emp 𝓤) le) $ join ! $ move ! (1 ∷ 0 ∷ []) $ use2 𝓛 (raw (G.pre z)) (id⊢ 𝓤 _) $
    calls_at ! (framed 𝓤 𝓛.H 𝓜 𝓣) G (g-thm.met 𝓤 𝓛 𝓜 𝓡 (code.calls-w16_region::region::RegionSpace::view_mut 𝓡.env wired) Y L g' d d' met md) z
    (and_then ! (get ! refl) (and_then ! (get ! refl) (and_then ! (get ! refl) (no_more !)))) (λ v.
    use1 𝓛 (later (some (λ (r : MutBor (List ℕ)). (((‵ (flft κ q) ⊛ ‵ (flft κs.1.0 qs.1.0) ⊛ ‵ ftrue)) ⊛ ‵ ((MutSlice (named 0) κ u8).own_val r (v ∷ []))) ⊛
    some (λ (ws : Unit {0} × (Unit {0} × (Unit {0} × Unit {0}))). ‵ (lasts (g.ended Y g' d d') κs a ws) ⊛ (raw (fact 𝓤 (r.now ≡ part xs i n)) ⊛ ‵ (follows (X Z) (Array u8 0) x.ghost_name r.ghost_name put)))))) (id⊢ 𝓤 _) $
    await ! tt $ pick ! (λ r. split ! $ split ! $ move ! (2 ∷ []) $ pick ! (λ ws. split ! $ drop ! $ split ! $ heard ! _ (λ is.
    -- [follows; the tokens; the slice]
    move ! (1 ∷ []) $ split ! $ move ! (3 ∷ 2 ∷ 0 ∷ 1 ∷ []) $
    -- [the slice; follows; the token; the other one]
    fsplit ! $ fsplit ! $ feq_l ! (λ e. pure_l ! (room u8 (length r.now)) (λ rm.
    pure_i ! (mut_slice_at u8 r (mut_slice_vals r)) (tt, (tt, tt)) (refl, rm) $ fjoin ! $
    lands_as ! (ap only e) refl (tt, (tt, (record { fits = rm.0 }, tt))) $
    move ! (0 ∷ 2 ∷ []) $
    use2 𝓛 (later (some (lent 𝓛 r.now (named 0) κ q r.ref_ptr.0 r.ref_ptr.1 r.ghost_name rm))) (lends 𝓛 r.now (named 0) κ q r.ref_ptr.0 r.ref_ptr.1 r.ghost_name rm (mut_slice_vals r)) $ await ! tt $ pick ! (λ δ. split3 ! $ move ! (3 ∷ 2 ∷ []) $
    use2 𝓛 (‵ (follows (X Z) (Array u8 0) x.ghost_name δ (λ ws. put (left_of r.now ws)))) (follows_then 𝓛 (X Z) (Array u8 0) (Array u8 0) put (left_of r.now) x.ghost_name r.ghost_name δ) $
    rewrite ! 0 (λ zs. ‵ (follows (X Z) (Array u8 0) x.ghost_name δ (λ ws. put (left_of zs ws)))) is refl $
    -- [follows; the slice; the token; the other one]
    returns ! (look_at ! 0 refl) $ free_all ! refl $
    suffices ! _ (ends_at 𝓛 (ended Z) (stayed Z) c y (slice_val r.ref_ptr (length r.now)) (record { ref_ptr = r.ref_ptr; ghost_name = δ; now = r.now }) (tt, (tt, (tt, tt))) (tt, (tt, (tt, tt)))) $
    move ! (2 ∷ 3 ∷ []) $ join ! $ move ! (2 ∷ 0 ∷ 1 ∷ []) $
    nothing ! $ nothing ! $ fjoin ! $ nothing ! $ fjoin ! $ nothing ! $ fjoin ! $ join ! $
    move ! (1 ∷ 0 ∷ []) $ join ! $ frame ! $ says ! is $ done !)))))))))))
