-- `into_parts` moves the pointer, and what the machine owned goes with it.
use Rattle.w16_c.proofs.Common.{List, [], ◌∷◌, ◌++◌, refl, sym, subst, lit<, Bool, true, false, token, Fits, handle_tells, says_two, Some-of, none_of, None, Some, D, τ, handle, box_typed, box_in, machine_row, held_owns, and_tt}
use seplogic.Ra.Ura.{Ura}
use mir.Raw.{raw as bare}
use mir.Val.{Val, of_list}
use base.Logic.{SProp, ent, sep, emp, never, id⊢, fst∗}
use base.Fml.{ftrue, fsep}
use prog.Memory.{Memory}
use prog.Routine.{Routine}
use prog.Wp.{WpFn, Tables}
use types.Logic.{Logic, sem}
use contract.Monad.{Fun}
use contract.Running.{tables, tables_of}
use sound.WpLaws.{WpFn-mono}
use types.Kit.{‵, raw, prop, at_ret, ◌⊛◌, ◌$◌, ◌∵◌, !, qed, by, move, keep, drop, use0, use1, join, split, fsplit, fjoin, regoal, suffices, done}
use types.Match.{live}
use types.Part.{whole, sub, agg}
use types.Run.{stop, fld, lit, no_more, and_then, of_opd, first, branches, skips, exec, returns, returns_within, enter}
use types.ByLocal.{alloc_all, pass_all, free_all, look_at, get, get_in, sets, env}
use denote.Exit.{yes}
use denote.RawPtr.{Ptr, block_ptr, null_ptr, in_a_block}
use denote.Signature.{type_at, plain}
use denote.Steps.{nothing}
use denote.Triple.Spec.{triple_of}
use denote.Triple.Table.{entered}
use denote.Triple.Walked.{Stays, stay_dropped, walk_of, ends_at, Goes-dropped, walk_Meets}
use Rattle.std_alloc.proofs.BoxSteps.Form.{word as box_word}
use Rattle.std_heap.specs.contracts.Global as Heap
use Rattle.w16_c.proofs.Words.{E, P, H as Held, word, word_typed, ptr_typed, held_out}
use Rattle.w16_c.specs.contracts.held.Held.into_parts as F
use Rattle.w16_c.specs.contracts.held.Held.into_parts.Key.{name as #self}
use Rattle.w16_c.proofs.held.Held.into_parts.Statement as stated
use Rattle.w16_c.proofs.held.Held.into_parts.Code as code

abbrev stayed : Stays (F.ended).signature.params (F.ended).kept
stayed = (stay_dropped (plain (λ _. Held)) yes, (stay_dropped (plain (λ _. Heap.the_row)) yes, tt))

module _ {M : Type 1} {𝓤 : Ura M} (𝓛 : Logic 𝓤) (at_mem : Memory → SProp 𝓤) (run : Routine → Fun 𝓤) (𝓣 : Tables 𝓤 𝓛.H) (a : (Heap.the_row).Denot) (us vs : List Val) where
  open 𝓛 use {H}

  abbrev bound : Ptr → Bool → machine_row.Denot → (walk_of 𝓛 F.ended stayed (F.clauses 𝓛 at_mem run)).Ghost
  bound p t x = ((tt, tt, tt, (record { at = p; is_held = t; world = x }, (a, tt)), (us, (vs, tt))), tt)

  abbrev Post : Ptr → Bool → machine_row.Denot → Val → SProp 𝓤
  Post p t x = (walk_of 𝓛 F.ended stayed (F.clauses 𝓛 at_mem run)).post (bound p t x)

  abbrev Runs : Ptr → Bool → machine_row.Denot → Val → SProp 𝓤
  Runs p t x hv = WpFn 𝓤 H 𝓣.C 𝓣.Λ code.function (word p t ∷ hv ∷ []) (Post p t x)

  walk : (p : Ptr) (t : Bool) (x : machine_row.Denot) (hv : Val) → Fits E.al hv → ent 𝓤 (sep 𝓤 (sem 𝓛 (held_owns t p x)) (sem 𝓛 (handle E a hv))) (Runs p t x hv)
  walk p true x hv fa =
      qed 𝓛 (‵ (held_owns true p x) ∷ ‵ (handle E a hv) ∷ []) ∵
      in_a_block ! p (λ q. held_owns true q x) (fst∗ 𝓤 (never 𝓤) (sem 𝓛 (token E.al a (bare (τ E)) null_ptr))) (λ b o e.
      regoal ! (λ q. prop (Runs q true x hv)) e refl $
      let d : D E = record { ptr = block_ptr b o; alloc = a; value = x } in let w = box_word E hv b o in
      let made : P.Denot = record { ptr = block_ptr b o; alloc = a; value = x } in
      fsplit ! $ box_in E ! d b o x refl refl $ use1 𝓛 (‵ (P.own_val made (w ∷ []))) (id⊢ 𝓤 _) $ use1 𝓛 (‵ ((type_at (F.signature).result tt).own_val (Some made) (live 1 (of_list (w ∷ [])) ∷ []))) (Some-of 𝓛 P made w) $
      enter ! 𝓣.C 𝓣.Λ code.function (word (block_ptr b o) true ∷ hv ∷ []) _ $ alloc_all ! (λ ls. pass_all ! refl ((tt, (tt, (tt, tt))), (fa, tt)) $
      sets ! (of_opd ! (get_in ! (fld ! refl (stop !)) (sub ! 0 refl (whole !)))) refl (tt, tt) $ sets ! (of_opd ! (get_in ! (fld ! refl (stop !)) (sub ! 1 refl (whole !)))) refl (tt, tt) $
      sets ! (of_opd ! (get ! refl)) refl (tt, tt) $
      first ! $ branches ! (get ! refl) (λ _.
      sets ! (of_opd ! (get ! refl)) refl (tt, tt) $ sets ! (agg ! (and_then ! (get ! refl) (and_then ! (get ! refl) (no_more !)))) refl (box_typed E hv b o fa) $
      sets ! (agg ! (and_then ! (lit ! tt) (and_then ! (get ! refl) (no_more !)))) refl (and_tt _ (box_typed E hv b o fa).0, (record { fits = lit< tt }, ((box_typed E hv b o fa).1, tt))) $
      returns_within ! (Post (block_ptr b o) true x) refl (look_at ! 0 refl) $ free_all ! refl $
      suffices ! _ (ends_at 𝓛 F.ended stayed (F.clauses 𝓛 at_mem run) (bound (block_ptr b o) true x) (live 1 (of_list (w ∷ []))) (Some made) (tt, (tt, tt)) (tt, (tt, tt))) $ says_two ! (refl, refl) $
      nothing ! $ nothing ! $ fjoin ! $ nothing ! $ fjoin ! $ join ! $ nothing ! $ join ! $ done !) (λ z. absurd z)))
  walk p false x hv fa =
      qed 𝓛 (‵ (held_owns false p x) ∷ ‵ (handle E a hv) ∷ []) ∵ drop ! $ drop ! $
      use0 𝓛 (‵ ((type_at (F.signature).result tt).own_val None (live 0 (of_list []) ∷ []))) (none_of 𝓛 P) $
      enter ! 𝓣.C 𝓣.Λ code.function (word p false ∷ hv ∷ []) _ $ alloc_all ! (λ ls. pass_all ! refl (word_typed p false, (fa, tt)) $
      sets ! (of_opd ! (get_in ! (fld ! refl (stop !)) (sub ! 0 refl (whole !)))) refl (ptr_typed p) $ sets ! (of_opd ! (get_in ! (fld ! refl (stop !)) (sub ! 1 refl (whole !)))) refl (tt, tt) $
      sets ! (of_opd ! (get ! refl)) refl (tt, tt) $
      first ! $ branches ! (get ! refl) (λ z. absurd z) (λ _. skips ! $ exec ! 𝓣.C 𝓣.Λ (env (code.function).locals ls) code.Mir.t-5 (at_ret _ (Post p false x)) $
      sets ! (agg ! (and_then ! (lit ! tt) (no_more !))) refl (tt, (record { fits = lit< tt }, tt)) $
      returns ! (look_at ! 0 refl) $ free_all ! refl $
      suffices ! _ (ends_at 𝓛 F.ended stayed (F.clauses 𝓛 at_mem run) (bound p false x) (live 0 (of_list [])) None (tt, (tt, tt)) (tt, (tt, tt))) $ says_two ! (refl, tt) $
      nothing ! $ nothing ! $ fjoin ! $ nothing ! $ fjoin ! $ join ! $ nothing ! $ join ! $ done !))

  entry : (d : Held.Denot) → ent 𝓤 ((walk_of 𝓛 F.ended stayed (F.clauses 𝓛 at_mem run)).pre (bound d.at d.is_held d.world)) (WpFn 𝓤 H 𝓣.C 𝓣.Λ code.function (us ++ (vs ++ [])) (Post d.at d.is_held d.world))
  entry d =
      let Run : List Val → SProp 𝓤 = λ ws. WpFn 𝓤 H 𝓣.C 𝓣.Λ code.function ws (Post d.at d.is_held d.world) in
      qed 𝓛 ((‵ ftrue ⊛ ‵ (fsep (Held.own_val d us) (fsep ((Heap.the_row).own_val a vs) ftrue))) ∷ raw (emp 𝓤) ∷ []) ∵ split ! $ drop ! $ fsplit ! $ held_out ! d us (λ eu. move ! (1 ∷ []) $ fsplit ! $
      handle_tells E.al ! a vs (λ hv ev fa. keep ! (2 ∷ 0 ∷ []) $
      by ! (subst (λ (ws : List Val). ent 𝓤 (sep 𝓤 (sem 𝓛 (held_owns d.is_held d.at d.world)) (sem 𝓛 (handle E a hv))) (Run (ws ++ (vs ++ [])))) (sym eu)
      (subst (λ (ws : List Val). ent 𝓤 (sep 𝓤 (sem 𝓛 (held_owns d.is_held d.at d.world)) (sem 𝓛 (handle E a hv))) (Run (word d.at d.is_held ∷ (ws ++ [])))) (sym ev)
      (walk d.at d.is_held d.world hv fa)))))

pub into_parts_spec : {M : Type 1} → stated.statement M
unfolding tables_of
into_parts_spec 𝓤 𝓛 𝓜 𝓡 wired =
    let 𝓣 : Tables 𝓤 𝓛.H = tables_of 𝓤 𝓛.H 𝓜 (tables 𝓤 𝓛.H 𝓜 𝓡 𝓡.env) in
    entered 𝓤 𝓛.H (triple_of 𝓛 F.signature (F.spec 𝓛 𝓜.mem 𝓡.returns)) 𝓣.C 𝓣.Λ #self code.function (code.unfolded 𝓤 𝓛.H 𝓜 𝓡 wired)
    (walk_Meets 𝓛 F.ended stayed (Goes-dropped 𝓛 0 (plain (λ _. Held)) yes (λ κs x f. refl), (Goes-dropped 𝓛 0 (plain (λ _. Heap.the_row)) yes (λ κs x f. refl), tt)) (F.clauses 𝓛 𝓜.mem 𝓡.returns) (WpFn 𝓤 𝓛.H 𝓣.C 𝓣.Λ code.function) (WpFn-mono 𝓤 𝓛.H 𝓛.laws 𝓣 code.function)
    (λ z. entry 𝓛 𝓜.mem 𝓡.returns 𝓣 z.0.3.1.0 z.0.4.0 z.0.4.1.0 z.0.3.0))
