-- A held machine by value: its word, and what it owns beside it.
use Rattle.w16_c.proofs.Common.{◌≡◌, List, [], ◌∷◌, ◌++◌, refl, subst, lit<, Bool, Bx, clones, machine_row, held_owns}
use seplogic.Ra.Ura.{Ura}
use mir.Val.{Val, vbool, vstruct, vcons, vnil, of_list, has_ty, WT}
use types.Logic.{Logic}
use types.Kit.{Goal, Step, step, Seq, Item, ‵, ◌$◌, fjoin, fpack, fpick, fsplit, feq_i, feq_l, drop}
use denote.Builtin.{bool}
use denote.RattleType.{RattleType, Valss}
use denote.RawPtr.{Ptr, RawPtr, block_ptr, null_ptr, ptr_val}
use denote.Steps.{nothing}
use denote.Struct.Owning.{shape}
use denote.Struct.Struct.{within}
use lib.Dec.{T}
use mir.Syntax.{impl, tcons, tnil, dnil, ty_ptr, ty_bool, ty_struct}
use Rattle.std_heap.specs.contracts.Global as Heap
use Rattle.std_heap.specs.contracts.GlobalAllocator.TheImpl.{ghosts, dict}
use Rattle.std_heap.proofs.Global.TheLaws as heap
use Rattle.w16_kernel.proofs.kernel.Kernel.TheLaws as lots
use Rattle.w16_kernel.specs.contracts.growing.GrowingStore as store
use Rattle.w16_kernel.proofs.growing.GrowingStore.TheLaws as store_laws
use Rattle.w16_kernel.specs.contracts.growing.GrowingStoreStore.TheImpl as stores
use denote.Signature.{Slot, plain}
use Rattle.w16_c.specs.contracts.parts.Parts as Parts
use Rattle.w16_c.specs.contracts.held.Held as held

abbrev pub word : Ptr → Bool → Val
word p t = vstruct (vcons (ptr_val p) (vcons (vbool t) vnil))

abbrev pub H : RattleType
H = held.the_row

module _ {M : Type 1} {𝓤 : Ura M} {𝓛 : Logic 𝓤} {K : Type 0} {Γ : List (Item 𝓤)} {G : Goal 𝓤 𝓛.H} where
  pub held_in : K → (p : Ptr) (t : Bool) (x : machine_row.Denot)
      → Step K 𝓛 (‵ (H.own_val (record { at = p; is_held = t; world = x }) (word p t ∷ [])) ∷ Γ) G (‵ (held_owns t p x) ∷ Γ) G
  held_in k p t x = step (λ s.
      nothing k $ feq_i k (List Val) (vbool t ∷ []) (vbool t ∷ []) refl $ fjoin k $ feq_i k (List Val) (ptr_val p ∷ []) (ptr_val p ∷ []) refl $ fjoin k $
      feq_i k (List Val) (word p t ∷ []) (word p t ∷ []) refl $ fjoin k $
      fpack k (Valss (RawPtr ∷ bool ∷ [])) (within (shape held.the_type) (p, (t, tt)) (word p t ∷ [])) (ptr_val p ∷ [], (vbool t ∷ [], tt)) $ fjoin k $ s)

  pub held_out : K → (d : H.Denot) (vs : List Val)
      → (vs ≡ word d.at d.is_held ∷ [] → Seq K 𝓛 (‵ (held_owns d.is_held d.at d.world) ∷ Γ) G) → Seq K 𝓛 (‵ (H.own_val d vs) ∷ Γ) G
  held_out k d vs go =
      fsplit k $ fpick k (λ vss. fsplit k $ feq_l k (λ ev. fsplit k $ feq_l k (λ ep. fsplit k $ feq_l k (λ eb. drop k $ go
      (subst (λ (ws : List Val). vs ≡ vstruct (of_list (ptr_val d.at ∷ (ws ++ []))) ∷ []) eb (subst (λ (ps : List Val). vs ≡ vstruct (of_list (ps ++ (vss.1.0 ++ []))) ∷ []) ep ev))))))

-- the box at this machine, under the allocator `Global`
abbrev pub E : Bx
E = record { row = machine_row; laws = lots.the_row_laws store.the_row Heap.the_row stores.ghosts ghosts clones store_laws.the_row_laws heap.the_row_laws; al = record { row = Heap.the_row; laws = heap.the_row_laws; g = ghosts; d = dict; drops = impl [] tnil dnil } }

abbrev pub FromParts : Slot 0
FromParts = plain (λ _. Parts.the_row machine_row Heap.the_row ghosts)

abbrev pub P : RattleType
P = Parts.the_row machine_row Heap.the_row ghosts

-- the words are of their types, whatever the pointer is
pub ptr_typed : (p : Ptr) → T (has_ty ty_ptr (ptr_val p)) × WT (ptr_val p)
ptr_typed (block_ptr b o) = (tt, tt)
ptr_typed null_ptr = (tt, record { fits = lit< tt })

pub word_typed : (p : Ptr) (t : Bool) → T (has_ty (ty_struct [] (tcons ty_ptr (tcons ty_bool tnil))) (word p t)) × WT (word p t)
word_typed (block_ptr b o) t = (tt, (tt, (tt, tt)))
word_typed null_ptr t = (tt, (record { fits = lit< tt }, (tt, tt)))
