-- A module that others import stays, whoever takes its explicit uses away.
use Rattle.w16_loading.proofs
use proofs.Common as C
use proofs.Common.{[], ◌≡◌, ℕ, ◌-◌, ◌<◌, ◌⊎◌, inl, inr, true, not, ◌∷◌, Some, None, is_some, refl, sym, ap, ◌∙◌, arith, Module, Named, Loaded, Go}
use proofs.Importers.{HasImporter, Idle, importer_of, idle_parts, none_idle}
use proofs.{Given.loaded_is, Absences.all_retained, Absences.none_gone, Bound.world_used_less}
use Rattle.w16_model.proofs.Maps.{put_same}
use Rattle.std.specs.FinMap as finmap
use Rattle.w16_laws.specs.Loading.{UsesApartLaw}

module _ (old : C.LoadingWorld) (is : C.IsLoadingWorld old) (handle : ℕ) (m : Module) (loaded : finmap.get old.modules handle ≡ Some (Loaded m)) where
  abbrev less : C.LoadingWorld
  less = record old { modules = finmap.insert old.modules handle (Loaded (record m { uses = m.uses - 1 })) }

  is_less : C.used_less old handle ≡ less
  is_less = ap (λ p. world_used_less old handle (C.module_in p)) loaded

  -- its importers still import it, and those of other modules those
  imported_still : (k : ℕ) → HasImporter old.modules k → HasImporter less.modules k
  imported_still k h = elim (C.cases_eq h.who handle) [
    | inl e ↦ record {
      who = handle;
      importer = Loaded (record m { uses = m.uses - 1 });
      there = C.inserted_here old.modules handle (Loaded (record m { uses = m.uses - 1 })) handle refl;
      other = λ f. h.other (e ∙ f);
      uses = same h.importer (sym h.there ∙ ap (finmap.get old.modules) e ∙ loaded) h.uses;
    }
    | inr d ↦ record {
      who = h.who;
      importer = h.importer;
      there = C.inserted_other old.modules handle (Loaded (record m { uses = m.uses - 1 })) h.who d ∙ h.there;
      other = h.other;
      uses = h.uses;
    }
  ]
    where
      same : (n : Named) → Some n ≡ Some (Loaded m) → C.imports n k ≡ true → C.imports (Loaded (record m { uses = m.uses - 1 })) k ≡ true
      same n e t = let f : n ≡ Loaded m = cc in C.subst (λ x. C.imports x k ≡ true) f t

  -- so none is idle
  still_used : (0 < C.importers old.modules handle) ⊎ (1 < m.uses) → (k : ℕ) → Idle less.modules k → ⊥
  still_used used k h = elim (C.cases_eq k handle) [
    | inl e ↦ by_use used h e
    | inr d ↦ none_idle old is k (record {
      idle = h.idle;
      loaded = sym (C.inserted_other old.modules handle (Loaded (record m { uses = m.uses - 1 })) k d) ∙ h.loaded;
      unused = h.unused;
      alone = λ i. h.alone (imported_still k i);
    })
  ]
    where
      by_use : (0 < C.importers old.modules handle) ⊎ (1 < m.uses) → Idle less.modules k → k ≡ handle → ⊥
      by_use (inl imported) h e = h.alone (imported_still k (C.subst (HasImporter old.modules) (sym e) (importer_of old.modules handle imported)))
      by_use (inr more) h e =
          let same : ◌≡◌ {A = C.Option Named} (Some (Loaded h.idle)) (Some (Loaded (record m { uses = m.uses - 1 }))) = sym h.loaded ∙ C.inserted_here old.modules handle (Loaded (record m { uses = m.uses - 1 })) k e in
          let left : h.idle ≡ record m { uses = m.uses - 1 } = cc in
          let uses : h.idle.uses ≡ m.uses - 1 = ap (λ x. x.uses) left in
          omega (arith, h.unused, uses, more)

  none_goes : (0 < C.importers old.modules handle) ⊎ (1 < m.uses) → (gone : C.List ℕ) (left : C.LoadingWorld) → Go less gone left → left ≡ less
  none_goes used [] left go = go.1
  none_goes used (k ∷ gone) left go = absurd (still_used used k (idle_parts less.modules k go.0))

  -- modules that were there are there
  there_still : (a : ℕ) → is_some (C.module_at old.modules a) ≡ true → is_some (C.module_at less.modules a) ≡ true
  there_still a t = elim (C.cases_eq a handle) [
    | inl e ↦ ap (λ p. is_some (C.module_in p)) (C.inserted_here old.modules handle (Loaded (record m { uses = m.uses - 1 })) a e)
    | inr d ↦ ap (λ p. is_some (C.module_in p)) (C.inserted_other old.modules handle (Loaded (record m { uses = m.uses - 1 })) a d) ∙ t
  ]

  -- and so no resource is left over
  has_module : (place : ℕ) (P : C.Resource → Type 0) (p : C.Option Module) → C.IsSomeAnd (elim p [ None ↦ None | Some n ↦ C.numbered n.tables.resources place ]) P → is_some p ≡ true
  has_module place P None h = absurd h
  has_module place P (Some n) h = refl

  none_over : (q : ℕ) → C.is_left_over less q ≡ C.false
  none_over q = turn (finmap.get old.loads q) (is.loads q)
    where
      turn : (p : C.Option C.Load) → C.IfSome p (C.IsLoad old q) → elim p [ None ↦ C.false | Some load ↦ not (is_some (C.module_at less.modules load.handle)) ] ≡ C.false
      turn None h = refl
      turn (Some load) h = ap not (there_still load.handle (has_module load.place _ (C.module_at old.modules load.handle) h.resource))

  same_without : C.without_orphans less ≡ less
  same_without = (λ i. record (none_gone (C.is_left_over less) less none_over i) { loads = finmap.retain_keys less.loads (λ q. not (C.is_left_over less q)) })
      ∙ (λ i. record less { loads = all_retained less.loads (C.is_left_over less) none_over i })

  unused_same : m.uses ≡ 0 → less ≡ old
  unused_same e = (λ i. record old { modules = finmap.insert old.modules handle (Loaded (record m { uses = one_less i })) }) ∙ (λ i. record old { modules = put_same old.modules handle (Loaded m) loaded i })
    where
      one_less : m.uses - 1 ≡ m.uses
      one_less = omega (arith, e)

pub uses_apart_law : UsesApartLaw
uses_apart_law old new handle answer m is at used f = record {
  answered = f.ended.answered ∙ ap (λ b. C.cond b 1 0) (ap (λ w. finmap.contains_key w.modules handle) left ∙ ap is_some here);
  less = ap (λ w. C.module_at w.modules handle) all ∙ ap C.module_in here;
  others = λ other d. ap (λ w. finmap.get w.modules other) all ∙ C.inserted_other _ handle (Loaded (record m { uses = m.uses - 1 })) other d;
  handles = ap (λ w. w.handles) all;
  loads = ap (λ w. w.loads) all;
  unused = λ e. all ∙ unused_same old is handle m loaded e;
}
  where
    loaded : finmap.get old.modules handle ≡ Some (Loaded m)
    loaded = loaded_is _ m at

    here : finmap.get (finmap.insert old.modules handle (Loaded (record m { uses = m.uses - 1 }))) handle ≡ Some (Loaded (record m { uses = m.uses - 1 }))
    here = C.inserted_here _ handle (Loaded (record m { uses = m.uses - 1 })) handle refl

    left : f.left ≡ less old is handle m loaded
    left = none_goes old is handle m loaded used _ f.left (C.subst (λ w. Go w f.ended.gone f.left) (is_less old is handle m loaded) f.ended.went)

    all : new ≡ less old is handle m loaded
    all = f.after ∙ ap C.without_orphans left ∙ same_without old is handle m loaded
